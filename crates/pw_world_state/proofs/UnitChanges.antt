-- Units begin and end.
use Rattle.std.proofs.Common.{◌≡◌, ℕ, List, [], ◌∷◌, ◌++◌, Option, Some, None, refl, sym, ap, subst, ◌∙◌}
use Rattle.std.specs.Prelude.{IsSome, slice_get}
use Rattle.std.specs.Option.{option_map}
use Rattle.pw_base.proofs.Plain.{some_is}
use Rattle.pw_pair.proofs.Calling.{ending-stays}
use Rattle.pw_class.specs.declared.request.Request.{Request}
use Rattle.pw_class.specs.Queue as queue
use Rattle.pw_code.specs.declared.context.Context.{Context}
use Rattle.pw_code.specs.declared.system.System.{System}
use Rattle.pw_code.specs.declared.system.TermInfo.{TermInfo}
use Rattle.pw_event.specs.declared.script.FailLine.{FailLine}
use Rattle.pw_code_meaning.specs.OfSystem.{behaviour}
use Rattle.pw_world_state.specs.Arrivals.{StandsForPath}
use Rattle.pw_world_state.specs.Changes.{at_terminal, attempted, birth_for, births_behind, kept_back, kept_begin, kept_begin_send, kept_send, unit_at, with_attempt, with_context, without_unit}
use Rattle.pw_world_state.specs.Kept.{Kept, KeptTerminal}
use Rattle.pw_world_state.specs.Stands.{Stands, StandsForKnown, StandsForTerminal, StandsIfAny, works}
use Rattle.pw_world_state.proofs.Classes.{class-changed}
use Rattle.pw_world_state.proofs.Components.{TerminalsStand, pair-of, pairs-same, terminal-and-unit}
use Rattle.pw_tmf.proofs.Leaving.{tells-same}
use Rattle.pw_code.specs.declared.verb.Verb.TheVariants as verb
use Rattle.pw_onecopy.specs.Path.{Begun, Dropped, PathAnswer}
use Rattle.pw_onecopy.specs.Update.{upd}
use Rattle.pw_onecopy.proofs.Update.{upd-other, upd-same}
use Rattle.pw_paired.specs.State.{BeforeImage, PairMode, OpenUnit, State, Term}
use Rattle.pw_paired.specs.Terminal.{CanStep, IsIdle, awaited_of, begun_path, births_after, do_back, do_begin, do_send, message_of, next_verb, path_of, unit_with_attempt, with_request}
use Rattle.pw_paired.specs.Units.{give_answer, commit_unit, drop_unit, restarts_of}
use Rattle.pw_tmf.specs.Tells.{Tells, as_told, images_by, unit_begun}
use Rattle.pw_tmf.specs.Units.{after_commit, begun}
use Rattle.pw_tmf.proofs.Telling.{tells-begin, tells-commit, tells-drop}

-- a terminal goes on with an answer, and its unit has ended
pub unit-over : (system : System) (modes : ℕ → PairMode) (terms : ℕ → Term) (units : ℕ → Option OpenUnit) (kept : ℕ → KeptTerminal) (t : ℕ) (terminal : TermInfo) (answer : PathAnswer) (new : Context)
    → TerminalsStand system modes terms units kept → slice_get system.terminals t ≡ Some terminal → StandsForPath system terminal ((terms t).path ++ answer ∷ []) new
    → TerminalsStand system modes (upd terms t (record (terms t) { path = (terms t).path ++ answer ∷ [] })) (upd units t None) (upd kept t (without_unit (with_context new (kept t))))
unit-over system modes terms units kept t terminal answer new stands there path =
    terminal-and-unit system modes terms units kept t _ None (without_unit (with_context new (kept t))) stands
    (λ info here. record {
      path = subst (λ x. StandsForPath system x ((terms t).path ++ answer ∷ []) new) (some_is (sym there ∙ here)) path;
      ready = tt;
      there = λ works lives. refl;
      start = tt;
      restarts = refl;
      awaits = refl;
      pending = (stands t info here).pending;
      ending = (stands t info here).ending;
    })

-- a unit ends committed with an answer, and TMF keeps this reply
pub ends-stands : (system : System) (script : List FailLine) (state : State) (kept : Kept) (t n : ℕ) (terminal : TermInfo) (answer : PathAnswer) (reply : Option (List ℕ)) (new : Context) → Stands system script state kept → slice_get system.terminals t ≡ Some terminal
    → StandsForPath system terminal (path_of state t ++ answer ∷ []) new
    → Stands system script (give_answer t answer (commit_unit t n reply state)) (record (at_terminal t (λ own. without_unit (with_context new own)) kept) { disc = after_commit kept.disc (unit_at kept t n) reply })
ends-stands system script state kept t n terminal answer reply new stands there path = record {
  terminals = unit-over system state.modes state.terms state.units kept.terminals t terminal answer new stands.terminals there path;
  disc = tells-same (behaviour script system) (commit_unit t n reply state) (give_answer t answer (commit_unit t n reply state)) _ refl refl refl refl refl (tells-commit (behaviour script system) state kept.disc (unit_at kept t n) reply stands.disc);
  classes = stands.classes;
  pairs = pairs-same system state.modes state.terms _ state.memory state.flight kept.pairs (ending-stays state.terms t _ refl) stands.pairs;
  births = stands.births;
}

pub back-stands : (system : System) (script : List FailLine) (state : State) (kept : Kept) (t n : ℕ) (terminal : TermInfo) (new : Context) → Stands system script state kept → slice_get system.terminals t ≡ Some terminal
    → StandsForPath system terminal (path_of state t ++ Dropped ∷ []) new → Stands system script (do_back (behaviour script system) t n state) (kept_back t n new kept)
back-stands system script state kept t n terminal new stands there path = record {
  terminals = unit-over system state.modes state.terms state.units kept.terminals t terminal Dropped new stands.terminals there path;
  disc = tells-same (behaviour script system) (drop_unit (behaviour script system) t n state) (do_back (behaviour script system) t n state) _ refl refl refl refl refl (tells-drop (behaviour script system) state kept.disc (unit_at kept t n) stands.disc);
  classes = stands.classes;
  pairs = pairs-same system state.modes state.terms _ state.memory state.flight kept.pairs (ending-stays state.terms t _ refl) stands.pairs;
  births = stands.births;
}

-- ---- BEGIN

birth-same : (before : List BeforeImage) (n births : ℕ) (path : List PathAnswer) (own : Option OpenUnit) → birth_for (option_map (as_told before) own) births ≡ (unit_with_attempt n births path own).birth
birth-same before n births path None = refl
birth-same before n births path (Some own) = refl

births-same : (before : List BeforeImage) (births : ℕ) (own : Option OpenUnit) → births_behind (option_map (as_told before) own) births ≡ births_after own births
births-same before births None = refl
births-same before births (Some own) = refl

number-is : (n births : ℕ) (path : List PathAnswer) (own : Option OpenUnit) → ((unit : OpenUnit) → own ≡ Some unit → unit.number ≡ n) → (unit_with_attempt n births path own).number ≡ n
number-is n births path None has = refl
number-is n births path (Some own) has = has own refl

attempt-is : (n births : ℕ) (path : List PathAnswer) (own : Option OpenUnit) → (unit_with_attempt n births path own).running ≡ Some path
attempt-is n births path None = refl
attempt-is n births path (Some own) = refl

restarts-is : (n births : ℕ) (path : List PathAnswer) (own : Option OpenUnit) → (unit_with_attempt n births path own).restarts ≡ restarts_of own
restarts-is n births path None = refl
restarts-is n births path (Some own) = refl

awaits-is : (n births : ℕ) (path : List PathAnswer) (own : Option OpenUnit) → (unit_with_attempt n births path own).awaits ≡ awaited_of own
awaits-is n births path None = refl
awaits-is n births path (Some own) = refl

-- the context of the start is the one so far
kept-start : (system : System) (info : TermInfo) (path : List PathAnswer) (context : Option Context) → StandsForKnown system info path context → IsSome context
    → StandsIfAny (StandsForPath system info) (Some path) context
kept-start system info path None known some = absurd (cc some)
kept-start system info path (Some context) known some = known

-- a terminal that can step has a context
pub has-context : (system : System) (script : List FailLine) (state : State) (kept : Kept) (t : ℕ) (info : TermInfo) → Stands system script state kept → slice_get system.terminals t ≡ Some info
    → CanStep (behaviour script system) state t → IsSome (kept.terminals t).context
has-context system script state kept t info stands here can =
    (stands.terminals t info here).there (ap (λ p. works (state.modes p)) (sym (pair-of system script t info here)) ∙ ap works can.paired) can.live.going_on

begins : (system : System) (script : List FailLine) (state : State) (kept : Kept) (t n r : ℕ) (change : KeptTerminal → KeptTerminal) → Stands system script state kept
    → IsIdle state t → ((own : OpenUnit) → state.units t ≡ Some own → own.number ≡ n)
    → ((info : TermInfo) → slice_get system.terminals t ≡ Some info
    → StandsForTerminal system info (state.modes info.tcp) (record (state.terms t) { path = begun_path r (next_verb (behaviour script system) state t) (path_of state t) })
    (Some (unit_with_attempt n state.births (path_of state t) (state.units t))) (change (kept.terminals t)))
    → Stands system script (do_begin (behaviour script system) t n r state) (with_attempt t n change kept)
begins system script state kept t n r change stands idle number fits = record {
  terminals = terminal-and-unit system state.modes state.terms state.units kept.terminals t _ (Some unit) (change (kept.terminals t)) stands.terminals fits;
  disc = subst (λ b. Tells (behaviour script system) (do_begin (behaviour script system) t n r state) (begun kept.disc (record { terminal = t; number = n; birth = b }))) (sym birth)
      (tells-begin (behaviour script system) state kept.disc t n r stands.disc idle (number-is n state.births (path_of state t) (state.units t) number));
  classes = stands.classes;
  pairs = pairs-same system state.modes state.terms _ state.memory state.flight kept.pairs (ending-stays state.terms t _ refl) stands.pairs;
  births = ap (λ o. births_behind o kept.births) (stands.disc.units t) ∙ births-same (images_by t state.before) kept.births (state.units t) ∙ ap (births_after (state.units t)) stands.births;
}
  where
    unit : OpenUnit
    unit = unit_with_attempt n state.births (path_of state t) (state.units t)

    birth : birth_for (kept.disc.units t) kept.births ≡ (unit_begun state t n).birth
    birth =
        ap (λ o. birth_for o kept.births) (stands.disc.units t)
        ∙ (ap (birth_for (option_map (as_told (images_by t state.before)) (state.units t))) stands.births
        ∙ birth-same (images_by t state.before) n state.births (path_of state t) (state.units t))

module _ (system : System) (script : List FailLine) (state : State) (kept : Kept) (t n r : ℕ) (terminal : TermInfo) (stands : Stands system script state kept) (there : slice_get system.terminals t ≡ Some terminal)
    (can : CanStep (behaviour script system) state t) (idle : IsIdle state t) (number : (own : OpenUnit) → state.units t ≡ Some own → own.number ≡ n) where
  abbrev unit : OpenUnit
  unit = unit_with_attempt n state.births (path_of state t) (state.units t)

  started : (info : TermInfo) → slice_get system.terminals t ≡ Some info → StandsIfAny (StandsForPath system info) unit.running (kept.terminals t).context
  started info here =
      subst (λ o. StandsIfAny (StandsForPath system info) o (kept.terminals t).context) (sym (attempt-is n state.births (path_of state t) (state.units t)))
      (kept-start system info (path_of state t) (kept.terminals t).context (stands.terminals t info here).path (has-context system script state kept t info stands here can))

  pub begin-stands : (next : Context) → next_verb (behaviour script system) state t ≡ verb.Begin → StandsForPath system terminal (path_of state t ++ Begun r ∷ []) next
      → Stands system script (do_begin (behaviour script system) t n r state) (kept_begin t n next kept)
  begin-stands next asks goes =
      begins system script state kept t n r (λ own. with_context next (attempted own)) stands idle number
      (λ info here.
      let old = stands.terminals t info here in
      let is : terminal ≡ info = some_is (sym there ∙ here) in
      let path : begun_path r (next_verb (behaviour script system) state t) (path_of state t) ≡ path_of state t ++ Begun r ∷ [] = ap (λ v. begun_path r v (path_of state t)) asks in
      record {
        path = rw path (subst (λ x. StandsForPath system x (path_of state t ++ Begun r ∷ []) next) is goes);
        ready = tt;
        there = λ works lives. refl;
        start = started info here;
        restarts = old.restarts ∙ sym (restarts-is n state.births (path_of state t) (state.units t));
        awaits = old.awaits ∙ sym (awaits-is n state.births (path_of state t) (state.units t));
        pending = old.pending;
        ending = old.ending;
      })

  pub begin-send-stands : (class : ℕ) (message : List ℕ) → next_verb (behaviour script system) state t ≡ verb.Send class message
      → Stands system script (do_begin (behaviour script system) t n r state) (kept_begin_send t n kept)
  begin-send-stands class message asks =
      begins system script state kept t n r attempted stands idle number
      (λ info here.
      let old = stands.terminals t info here in
      let path : begun_path r (next_verb (behaviour script system) state t) (path_of state t) ≡ path_of state t = ap (λ v. begun_path r v (path_of state t)) asks in
      record {
        path = rw path old.path;
        ready = rw path old.ready;
        there = old.there;
        start = started info here;
        restarts = old.restarts ∙ sym (restarts-is n state.births (path_of state t) (state.units t));
        awaits = old.awaits ∙ sym (awaits-is n state.births (path_of state t) (state.units t));
        pending = old.pending;
        ending = old.ending;
      })

-- ---- SEND

pub send-stands : (system : System) (script : List FailLine) (state : State) (kept : Kept) (t n c : ℕ) (message : List ℕ) → Stands system script state kept
    → message ≡ message_of (next_verb (behaviour script system) state t) → Stands system script (do_send (behaviour script system) t n c state) (kept_send t n c message kept)
send-stands system script state kept t n c message stands is =
    subst (λ m. Stands system script (do_send (behaviour script system) t n c state) (kept_send t n c m kept)) (sym is) (record {
      terminals = stands.terminals;
      disc = tells-same (behaviour script system) state _ kept.disc refl refl refl refl refl stands.disc;
      classes = class-changed system state.classes kept.queues _ kept.jobs kept.jobs c (with_request request (state.classes c))
          (λ d ne. upd-other kept.queues c _ d ne) (λ d ne. refl) stands.classes
          (λ info here.
          let old = stands.classes c info here in
          record {
            queue_is = upd-same kept.queues c _ c refl ∙ ap (λ q. queue.with_request q request) old.queue_is;
            works_on = old.works_on;
            within = old.within;
          });
      pairs = stands.pairs;
      births = stands.births;
    })
  where
    request : Request
    request = record { terminal = t; unit = n; message = message_of (next_verb (behaviour script system) state t) }
