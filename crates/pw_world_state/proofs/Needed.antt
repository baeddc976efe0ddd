-- In every run what a legal entry needs is there, where the programs of which it speaks have been read and the contexts
-- fit of which it sends images.
use Rattle.std.proofs.Common.{◌≡◌, ℕ, ◌+◌, ◌<◌, ◌≤◌, List, [], ◌∷◌, ◌++◌, length, Option, Some, None, unwrap_or, Bool, true, false, refl, sym, ap, subst, ◌∙◌}
use Rattle.std.specs.Prelude.{IsSome, slice_get}
use Rattle.pw_code.specs.Valid.{IsValid}
use Rattle.pw_code.specs.declared.context.Context.{Context}
use Rattle.pw_code.specs.declared.system.System.{System}
use Rattle.pw_code.specs.declared.system.TermInfo.{TermInfo}
use Rattle.pw_code.specs.declared.verb.Answer.TheVariants as answer
use Rattle.pw_code.specs.declared.verb.Verb.{Verb}
use Rattle.pw_code.specs.declared.verb.Verb.TheVariants as verb
use Rattle.pw_event.specs.declared.event.Event.{Event}
use Rattle.pw_event.specs.declared.event.Event.TheVariants as event
use Rattle.pw_event.specs.declared.script.FailLine.{FailLine}
use Rattle.pw_code_meaning.specs.OfSystem.{behaviour, processes_by}
use Rattle.pw_code_meaning.proofs.Counting.{counts-of}
use Rattle.pw_image.specs.Image.{HasImage}
use Rattle.pw_image.specs.Values.{HasValues}
use Rattle.pw_world_state.specs.Arrivals.{StandsForPath}
use Rattle.pw_world_state.specs.Entered.{copied}
use Rattle.pw_world_state.specs.Kept.{Kept}
use Rattle.pw_world_state.specs.May.{IsProcessOf, IsThere}
use Rattle.pw_world_state.specs.Needs.{ClosingFits, IsClassThere, IsProcess, MayBeginAt, Needs, SomeCarries}
use Rattle.pw_world_state.specs.Read.{AreValued, ClosedValues, IsEntryRead, IsRead, IsReplyRead, OwnValues}
use Rattle.pw_world_state.specs.Stands.{Stands, StandsForKnown, StandsForTerminal, StandsIfAny, works}
use Rattle.pw_world_state.specs.TerminalTests.{closing}
use Rattle.pw_world_state.specs.Tested.{CarriesPath, IsAsking, IsPlaced}
use Rattle.pw_world_state.proofs.Agreeing.{there-is}
use Rattle.pw_world_state.proofs.Components.{pair-of}
use Rattle.pw_world_state.proofs.Extra.{Extra, ends_failed, extras}
use Rattle.pw_world_state.proofs.Imaged.{has-image}
use Rattle.pw_world_state.proofs.Mays as mays
use Rattle.pw_world_state.proofs.Mays.{sound-at}
use Rattle.pw_world_state.proofs.OfRuns.{begins-same}
use Rattle.pw_world_state.proofs.Readings as readings
use Rattle.pw_world_state.proofs.UnitChanges.{has-context}
use Rattle.pw_laws.proofs.decided.Terminals as decided
use Rattle.pw_laws.specs.legal.Terminals as legal
use Rattle.pw_onecopy.specs.Behaviour.{Behaviour}
use Rattle.pw_onecopy.specs.IsBehaviour.{IsBehaviour, IsPath}
use Rattle.pw_onecopy.specs.Path.{PathAnswer}
use Rattle.pw_paired.specs.Raising.{LegalCheckCopy, copied_path, is_takeover}
use Rattle.pw_paired.specs.Server.{LegalReply}
use Rattle.pw_paired.specs.State.{PairMode, Raising, LastEnded, OpenUnit, State}
use Rattle.pw_paired.specs.Step as step
use Rattle.pw_paired.specs.Step.{IsRun, after}
use Rattle.pw_paired.specs.Terminal.{CanStep, LegalCheckStart, next_verb, path_of}
use Rattle.pw_paired.specs.Units.{attempt_of}
use Rattle.pw_laws.proofs.induction.Views.{view_of}
use Rattle.pw_laws.proofs.terms.KeepsChecks.{path_ok-is}
use Rattle.pw_laws.proofs.terms.TermOk.{HasMessages, IsWorking, TermOk}
use Rattle.pw_laws.proofs.frontier.Frontier.{FrontierOk}
use Rattle.pw_laws.proofs.frontier.Frontiers.{frontier_after}
use Rattle.pw_laws.proofs.frontier.Leads.{IsForced, Leads, Next, goes_on, is_there, next-of}
use Rattle.pw_laws.proofs.frontier.Standing.{Where, closed, running, waiting, where-of}

module _ (system : System) (script : List FailLine) (valid : IsValid system) (b : IsBehaviour (behaviour script system)) (log : List Event) (run : IsRun (behaviour script system) log)
    (own : Kept) (stands : Stands system script (after (behaviour script system) log) own) where
  abbrev pub sys : Behaviour
  sys = behaviour script system

  abbrev pub state : State
  state = after sys log

  placed : (t : ℕ) → t < length system.terminals → IsPlaced system t
  placed = readings.placed system script valid b log run

  asking : (t : ℕ) → t < length system.terminals → IsRead system own t → CanStep sys state t → IsAsking system script state own t
  asking t low read can = mays.asking system script valid b log run own stands t low read ((decided.can sys state t).1 can)

  stepping : (t : ℕ) → CanStep sys state t → IsPath sys t (path_of state t)
  stepping = readings.stepping-path system script valid b log run

  -- a context behind a path goes to a backup
  carries : (t : ℕ) (info : TermInfo) → slice_get system.terminals t ≡ Some info → (path : List PathAnswer) → IsPath sys t path → ends_failed path ≡ false → (context : Context) → StandsForPath system info path context
      → HasValues context → CarriesPath path context
  carries t info here path is_path sound context arrived fit = record {
    has_image = has-image system script t info valid here path context is_path sound arrived;
    has_values = fit;
    counts = counts-of path context (readings.counts-behind system script valid b log run t info here path is_path context arrived);
  }

  -- ---- CHECK START

  own-carries : (t : ℕ) (info : TermInfo) → slice_get system.terminals t ≡ Some info → (path : List PathAnswer) → IsPath sys t path → ends_failed path ≡ false → (known : Option Context) (o : Option Context) → known ≡ o → IsSome o
      → StandsForKnown system info path known → ((context : Context) → known ≡ Some context → HasValues context) → SomeCarries path known
  own-carries t info here path is_path sound known (Some context) is some arrived fit =
      record { own = context; there = is; carries = carries t info here path is_path sound context (subst (StandsForKnown system info path) is arrived) (fit context is) }
  own-carries t info here path is_path sound known None is some arrived fit = absurd (cc some)

  start-carries : (t : ℕ) → t < length system.terminals → OwnValues own t → LegalCheckStart sys state t → SomeCarries (path_of state t) (own.terminals t).context
  start-carries t low fit l =
      let at = placed t low in
      let is_path = stepping t l.can in
      own-carries t at.info at.here (path_of state t) is_path (mays.begins-sound system script valid b log run own stands t low is_path l.begins) (own.terminals t).context (own.terminals t).context refl
      (has-context system script state own t at.info stands at.here l.can) (stands.terminals t at.info at.here).path fit

  -- ---- CHECK COPY

  module _ (t : ℕ) (low : t < length system.terminals) (l : LegalCheckCopy sys state t) (fit : (context : Context) → copied (own.terminals t).start (own.terminals t).context ≡ Some context → HasValues context) where
    at : IsPlaced system t
    at = placed t low

    ok : TermOk sys t (state.ended t).number (state.units t) (state.memory t) (state.flight t) (state.terms t) (state.modes (sys.pair_of t))
    ok = (readings.inv system script valid b log run).terms t l.live.known

    working : IsWorking (state.modes (sys.pair_of t))
    working = rw l.raising tt

    untaken : is_takeover (state.terms t).pending ≡ false
    untaken = ok.calm (rw l.raising tt)

    both : FrontierOk sys t (view_of sys state t) (frontier_after sys t log) × Extra (view_of sys state t) (frontier_after sys t log)
    both = extras sys b t l.live.known log run l.live.going_on (λ gone. absurd (let raising = l.raising in cc (raising, gone)))

    old : StandsForTerminal system at.info (state.modes at.info.tcp) (state.terms t) (state.units t) (own.terminals t)
    old = stands.terminals t at.info at.here

    is_path : IsPath sys t (path_of state t)
    is_path = path_ok-is _ (state.units t) (ok.path_ok l.live.going_on working untaken)

    -- a forced answer follows no Fault
    no-fault : (last : LastEnded) (path : List PathAnswer) (a : PathAnswer) (x : ℕ) → sys.ask t path ≡ verb.Fault x → IsForced last path (sys.ask t path) a → ⊥
    no-fault last path a x asks forced = subst (λ v. IsForced last path v a) asks forced

    -- where no attempt runs the path does not end with a run fault
    sound : attempt_of (state.units t) ≡ None → ends_failed (path_of state t) ≡ false
    sound idle = by (where-of (state.units t) (both.0.stands working untaken))
      where
        by-next : Next sys t (state.ended t) (path_of state t) (frontier_after sys t log) → ends_failed (path_of state t) ≡ false
        by-next (is_there here) = ap ends_failed here ∙ both.1.sound
        by-next (goes_on a forced more) = sound-at sys b t (path_of state t) is_path (λ x asks. no-fault (state.ended t) (path_of state t) a x asks forced)

        by : Where sys t (state.ended t) (state.units t) (path_of state t) (frontier_after sys t log) → ends_failed (path_of state t) ≡ false
        by (closed none leads) = by-next (next-of leads)
        by (waiting u is still here) = ap ends_failed here ∙ both.1.sound
        by (running u start is runs from) = absurd (let attempt : attempt_of (state.units t) ≡ Some start = ap attempt_of is ∙ runs in cc (attempt, idle))

    there : IsSome (own.terminals t).context
    there = old.there (ap (λ p. works (state.modes p)) (sym (pair-of system script t at.info at.here)) ∙ ap works l.raising) l.live.going_on

    by-attempt : (attempt : Option (List PathAnswer)) (start : Option Context) → attempt_of (state.units t) ≡ attempt → (own.terminals t).start ≡ start → StandsIfAny (StandsForPath system at.info) attempt start
        → SomeCarries (unwrap_or attempt (path_of state t)) (copied start (own.terminals t).context)
    by-attempt None None idle none arrived =
        own-carries t at.info at.here (path_of state t) is_path (sound idle) (own.terminals t).context (own.terminals t).context refl there old.path
        (λ context is. fit context (ap (λ o. copied o (own.terminals t).context) none ∙ is))
    by-attempt (Some path) (Some start) runs is arrived =
        record {
          own = start;
          there = refl;
          carries = carries t at.info at.here path (start-path path runs) (ap ends_failed (both.0.base.start path runs) ∙ both.1.sound) start arrived
              (fit start (ap (λ o. copied o (own.terminals t).context) is));
        }
      where
        start-by : (o : Option OpenUnit) (path : List PathAnswer) → state.units t ≡ o → attempt_of o ≡ Some path → IsPath sys t path
        start-by (Some u) path is runs = ((ok.unit_ok u is).start path runs).0.is_path
        start-by None path is runs = absurd (cc runs)

        start-path : (path : List PathAnswer) → attempt_of (state.units t) ≡ Some path → IsPath sys t path
        start-path path runs = start-by (state.units t) path refl runs
    by-attempt None (Some start) idle is arrived = absurd arrived
    by-attempt (Some path) None runs none arrived = absurd arrived

    copy-carries : SomeCarries (copied_path state t) (copied (own.terminals t).start (own.terminals t).context)
    copy-carries = by-attempt (attempt_of (state.units t)) (own.terminals t).start refl refl old.start

  -- ---- every entry

  closing-fits : (t : ℕ) → t < length system.terminals → IsRead system own t → ClosedValues system own t → CanStep sys state t → ClosingFits system script state own t
  closing-fits t low read fit can =
      let at = asking t low read can in
      record {
        asking = at;
        ends = λ asks.
            let one = fit at.context answer.Ended at.ready (ap closing (at.says.verb ∙ asks)) in
            (mays.ended-image system script valid b log run own stands t low at (stepping t can) asks, one);
        drops = λ asks.
            let one = fit at.context answer.Dropped at.ready (ap closing (at.says.verb ∙ asks)) in
            (mays.dropped-image system script valid b log run own stands t low at (stepping t can) asks, one);
      }

  -- the program that gets a reply
  replied : (c i t : ℕ) (fault : Option ℕ) → LegalReply sys state c i t fault → (o : Option Context) → (own.terminals t).ready ≡ o → IsSome o → IsAsking system script state own t
  replied c i t fault l (Some context) is some =
      readings.asking system script valid b log run own stands t (subst (λ x. IsPath sys x (path_of state x)) l.whose (readings.waiting-path system script valid b log run c i l.job l.at_work)) context is
  replied c i t fault l None is some = absurd (cc some)

  pub needs : (entry : Event) → IsThere system entry → IsEntryRead system own entry → IsReplyRead own entry → AreValued system own entry → step.Fits sys state entry → Needs system script state own entry
  needs (event.Show t phase attempt k) low read more fit l = asking t low read l.can
  needs (event.Key t k) low read more fit l = asking t low read l.can
  needs (event.CheckStart t) low read more fit l = (asking t low read l.can, start-carries t low fit l)
  needs (event.CheckEnd t) low read more fit l = closing-fits t low read fit l.can
  needs (event.CheckCopy t) low read more fit l = (placed t low, copy-carries t low l fit)
  needs (event.Applied t) low read more fit l = placed t low
  needs (event.Begin t n r) low read more fit l = record { asking = asking t low read l.can; number = begins-same sys b log run t n r l }
  needs (event.Send t n c) low read more fit l = asking t low read l.can
  needs (event.Take c i t) low read more fit l = let found = there-is system.classes c low in record { info = found.0; here = found.1 }
  needs (event.File c i op mode f status) of read more fit l = mays.serving system script valid b log run own stands c i of.class read l.job l.at_work
  needs (event.Reply c i t fault) of read more fit l =
      (mays.serving system script valid b log run own stands c i of.class read l.job l.at_work, replied c i t fault l (own.terminals t).ready refl more)
  needs (event.Again t n) low read more fit l = asking t low read l.can
  needs (event.Commit t n) low read more fit l = asking t low read l.can
  needs (event.Back t n) low read more fit l = asking t low read l.can
  needs (event.Restart t n cause) low read more fit l = placed t low
  needs (event.FailTcp p primary k) low read more fit l = low
  needs (event.FailServer c i k) of read more fit l =
      let found = there-is system.classes c of.class in
      record { class = record { info = found.0; here = found.1 }; low = of.low; high = subst (λ n. i ≤ n) (ap processes_by found.1) of.high }
  needs (event.Takeover p) low read more fit l = low
  needs (event.Raise p) low read more fit l = tt
  needs (event.End t ending) low read more fit l = placed t low
