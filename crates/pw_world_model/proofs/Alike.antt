-- An entry changes the state of a terminal at which it is, and of each terminal whose pair gets another mode.
use Rattle.std.proofs.Common.{◌≡◌, ℕ, ◌+◌, ◌==◌, List, [], ◌∷◌, ◌++◌, length, Option, Some, None, Bool, true, false, refl, sym, ap, subst, ◌∙◌, length-append, arith}
use Rattle.std.specs.Prelude.{if◌then◌else◌}
use Rattle.std.proofs.lemmas.Bool.{eq-eqb, eqb-true}
use Rattle.pw_class.specs.Queue.{works_for}
use Rattle.pw_event.specs.declared.event.Cause.{Cause}
use Rattle.pw_event.specs.declared.event.Cause.TheVariants as cause
use Rattle.pw_event.specs.declared.event.Ending.{Ending}
use Rattle.pw_event.specs.declared.event.Event.{Event}
use Rattle.pw_event.specs.declared.event.Event.TheVariants.{Show, Key, CheckStart, CheckEnd, CheckCopy, Applied, Begin, Send, Take, File, Reply, Again, Commit, Back, Restart, FailTcp, FailServer, Takeover, Raise, End}
use Rattle.pw_world_model.specs.Stamps.{ActorState, OfClass, OfPair, OfProcess, OfTerminal, state_in}
use Rattle.pw_world_model.proofs.Endings.{ends-there}
use Rattle.pw_world_model.proofs.Placed.{outs}
use Rattle.pw_world_model.proofs.Unlike.{at_terminal}
use Rattle.pw_onecopy.specs.Behaviour.{Behaviour}
use Rattle.pw_onecopy.specs.IsBehaviour.{IsBehaviour}
use Rattle.pw_onecopy.specs.Path.{PathAnswer, Shown, Entry, Replied, Failed, Ended, Dropped, unit_number}
use Rattle.pw_onecopy.specs.Update.{upd}
use Rattle.pw_onecopy.proofs.Update.{upd-same}
use Rattle.pw_paired.specs.Failure.{process_fails, with_restart}
use Rattle.pw_paired.specs.State as paired
use Rattle.pw_paired.specs.Raising.{copied_path}
use Rattle.pw_paired.specs.State.{PairMode, Alone, Copy, Job, Message, OpenUnit, Start, State, Term}
use Rattle.pw_paired.specs.Step.{Legal, change}
use Rattle.pw_paired.specs.Terminal.{closed_path, path_of, unit_with_attempt}
use Rattle.pw_paired.specs.Server.{free_process}
use Rattle.pw_paired.specs.Units.{attempt_of, commit_unit, give_answer, is_out, request_in}
use Rattle.pw_actor_queue.specs.declared.actor.Actor.TheVariants.{Terminal}
use Rattle.pw_laws.proofs.induction.Served.{reply-any}
use Rattle.pw_laws.proofs.kept.Failing.{out-job}
use Rattle.pw_laws.proofs.kept.Kept.{Inv}

-- ---- parts of the state of an actor

abbrev pub no_term : Term
no_term = record { path = []; pending = None; ending = None }

abbrev pub term_in : ActorState → Term
term_in (OfTerminal term unit last out mode memory flight) = term
term_in _ = no_term

abbrev pub unit_in : ActorState → Option OpenUnit
unit_in (OfTerminal term unit last out mode memory flight) = unit
unit_in _ = None

abbrev pub out_in : ActorState → Bool
out_in (OfTerminal term unit last out mode memory flight) = out
out_in _ = false

abbrev pub flight_in : ActorState → Option Message
flight_in (OfTerminal term unit last out mode memory flight) = flight
flight_in _ = None

abbrev pub mode_in : ActorState → PairMode
mode_in (OfTerminal term unit last out mode memory flight) = mode
mode_in (OfPair mode members) = mode
mode_in _ = Alone

abbrev pub job_in : ActorState → Option Job
job_in (OfProcess job) = job
job_in _ = None

abbrev pub class_in : ActorState → paired.Class
class_in (OfClass class) = class
class_in _ = record { waiting = []; busy = λ i. None }

-- ---- a terminal at which the entry is

grows : (path : List PathAnswer) (a : PathAnswer) → path ≡ path ++ a ∷ [] → ⊥
grows path a is =
    let long : length path ≡ length (path ++ a ∷ []) = ap length is in
    let more : length (path ++ a ∷ []) ≡ length path + 1 = length-append path (a ∷ []) in
    omega (arith, long, more)

begun-runs : (n birth : ℕ) (path : List PathAnswer) (o : Option OpenUnit) → attempt_of (Some (unit_with_attempt n birth path o)) ≡ Some path
begun-runs n birth path None = refl
begun-runs n birth path (Some unit) = refl

restarted-rests : (cause : Cause) (o : Option OpenUnit) → attempt_of (with_restart cause o) ≡ None
restarted-rests cause None = refl
restarted-rests cause (Some unit) = refl

-- the states of the terminal differ
abbrev pub Differs : Behaviour → State → State → ℕ → Type 0
Differs sys s x t = state_in sys s (Terminal t) ≡ state_in sys x (Terminal t) → ⊥

module _ (sys : Behaviour) (s : State) (t : ℕ) where
  -- its path got an answer
  answered : (x : State) (term : Term) (a : PathAnswer) → x.terms ≡ upd s.terms t term → term.path ≡ path_of s t ++ a ∷ [] → Differs sys s x t
  answered x term a terms path is =
      grows (path_of s t) a
      (ap (λ o. (term_in o).path) is ∙ (ap (λ f. (f t).path) terms ∙ (ap (λ (y : Term). y.path) (upd-same s.terms t term t refl) ∙ path)))

  -- a message of it is in flight
  sent : (x : State) (message : Message) → s.flight t ≡ None → x.flight ≡ upd s.flight t (Some message) → Differs sys s x t
  sent x message free flight is =
      let there : x.flight t ≡ Some message = ap (λ f. f t) flight ∙ upd-same s.flight t (Some message) t refl in
      let same : s.flight t ≡ x.flight t = ap flight_in is in
      absurd (cc (free, there, same))

  stopped : (c p k : ℕ) (job : Job) → job.request.terminal ≡ t → (s.terms t).pending ≡ None → Differs sys s (process_fails c p k (Some job) s) t
  stopped c p k job whose calm is =
      let there : ((process_fails c p k (Some job) s).terms t).pending ≡ Some (cause.Server k) = ap (λ (y : Term). y.pending) (upd-same s.terms job.request.terminal _ t (sym whose)) in
      let same : (s.terms t).pending ≡ ((process_fails c p k (Some job) s).terms t).pending = ap (λ o. (term_in o).pending) is in
      absurd (cc (calm, there, same))

module _ (sys : Behaviour) (b : IsBehaviour sys) (s : State) (i : Inv sys s) where
  -- from the terminal of the entry to the one that is looked at
  at : (x : State) (own t : ℕ) → (own == t) ≡ true → Differs sys s x own → Differs sys s x t
  at x own t e differs = subst (λ v. Differs sys s x v) (eqb-true own t e) differs

  pub own-differs : (entry : Event) → Legal sys s entry → ((t : ℕ) (ending : Ending) → entry ≡ End t ending → (s.terms t).ending ≡ None) → (t : ℕ) → at_terminal s t entry ≡ true → Differs sys s (change sys s entry) t
  own-differs (Show own phase attempt k) l live t e = at (change sys s (Show own phase attempt k)) own t e (answered sys s own (change sys s (Show own phase attempt k)) _ Shown refl refl)
  own-differs (Key own k) l live t e = at (change sys s (Key own k)) own t e (answered sys s own (change sys s (Key own k)) _ (Entry k) refl refl)
  own-differs (CheckStart own) l live t e = at (change sys s (CheckStart own)) own t e (sent sys s own (change sys s (CheckStart own)) (Start (unit_number (path_of s own)) (path_of s own)) l.fits.free refl)
  own-differs (CheckEnd own) l live t e = at (change sys s (CheckEnd own)) own t e (sent sys s own (change sys s (CheckEnd own)) (paired.End (closed_path sys s own)) l.fits.free refl)
  own-differs (CheckCopy own) l live t e = at (change sys s (CheckCopy own)) own t e (sent sys s own (change sys s (CheckCopy own)) (Copy (unit_number (copied_path s own)) (copied_path s own)) l.fits.free refl)
  own-differs (Applied own) l live t e = at (change sys s (Applied own)) own t e (λ is.
      let flies = l.fits.flies in
      let gone : (change sys s (Applied own)).flight own ≡ None = upd-same s.flight own None own refl in
      let same : s.flight own ≡ (change sys s (Applied own)).flight own = ap flight_in is in
      absurd (cc (flies, gone, same)))
  own-differs (Begin own n r) l live t e = at (change sys s (Begin own n r)) own t e (λ is.
      let idle = l.fits.idle in
      let runs : attempt_of ((change sys s (Begin own n r)).units own) ≡ Some (path_of s own) = ap attempt_of (upd-same s.units own _ own refl) ∙ begun-runs n s.births (path_of s own) (s.units own) in
      let same : attempt_of (s.units own) ≡ attempt_of ((change sys s (Begin own n r)).units own) = ap (λ o. attempt_of (unit_in o)) is in
      absurd (cc (idle, runs, same)))
  own-differs (Send own n c) l live t e = at (change sys s (Send own n c)) own t e (λ is.
      let inside = l.fits.not_out in
      let out : is_out sys (change sys s (Send own n c)) own ≡ true = outs sys b s i (Send own n c) l own ∙ ap (λ x. if x then true else is_out sys s own) (eq-eqb own own refl) in
      let same : is_out sys s own ≡ is_out sys (change sys s (Send own n c)) own = ap out_in is in
      absurd (cc (inside, out, same)))
  own-differs (Reply c p own fault) l live t e = at (change sys s (Reply c p own fault)) own t e
      (reply-any sys s c p own (λ x. Differs sys s x own) fault
      (λ reply outside. answered sys s own (give_answer own (Replied reply) (commit_unit own (unit_number (path_of s own)) (Some reply) (free_process c p s))) _ (Replied reply) refl refl)
      (λ reply inside. answered sys s own (give_answer own (Replied reply) (free_process c p s)) _ (Replied reply) refl refl)
      (λ x. answered sys s own (give_answer own (Failed x) (free_process c p s)) _ (Failed x) refl refl))
  own-differs (Again own n) l live t e = at (change sys s (Again own n)) own t e (answered sys s own (change sys s (Again own n)) _ _ refl refl)
  own-differs (Commit own n) l live t e = at (change sys s (Commit own n)) own t e (answered sys s own (change sys s (Commit own n)) _ Ended refl refl)
  own-differs (Back own n) l live t e = at (change sys s (Back own n)) own t e (answered sys s own (change sys s (Back own n)) _ Dropped refl refl)
  own-differs (Restart own n cause) l live t e = at (change sys s (Restart own n cause)) own t e (λ is.
      let caused = l.fits.caused in
      let runs : attempt_of (s.units own) ≡ Some caused.start = ap attempt_of caused.is_open ∙ caused.runs in
      let rests : attempt_of ((change sys s (Restart own n cause)).units own) ≡ None = ap attempt_of (upd-same s.units own _ own refl) ∙ restarted-rests cause (s.units own) in
      let same : attempt_of (s.units own) ≡ attempt_of ((change sys s (Restart own n cause)).units own) = ap (λ o. attempt_of (unit_in o)) is in
      absurd (cc (runs, rests, same)))
  own-differs (FailServer c p k) l live t e = by ((s.classes c).busy p) refl e
    where
      by : (o : Option Job) → (s.classes c).busy p ≡ o → works_for t (request_in o) ≡ true → Differs sys s (process_fails c p k o s) t
      by None idle none = absurd (cc none)
      by (Some job) works mine =
          let whose : job.request.terminal ≡ t = eqb-true job.request.terminal t mine in
          stopped sys s t c p k job whose (subst (λ v. (s.terms v).pending ≡ None) whose (out-job sys b s i c p job works).calm)
  own-differs (End own ending) l live t e = at (change sys s (End own ending)) own t e (λ is.
      let none = live own ending refl in
      let there = ends-there sys s own ending in
      let same : (s.terms own).ending ≡ ((change sys s (End own ending)).terms own).ending = ap (λ o. (term_in o).ending) is in
      absurd (cc (none, there, same)))
  own-differs (Take c p own) l live t e = absurd (cc e)
  own-differs (File c p op mode f status) l live t e = absurd (cc e)
  own-differs (FailTcp p primary k) l live t e = absurd (cc e)
  own-differs (Takeover p) l live t e = absurd (cc e)
  own-differs (Raise p) l live t e = absurd (cc e)
