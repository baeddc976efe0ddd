-- Small lemmas on where a terminal stands beside its frontier.
use Rattle.std.proofs.Common.{◌≡◌, ◌≢◌, ℕ, ◌<◌, ◌≤◌, inl, ⊎_elim, Bool, true, false, ◌==◌, is_none, ◌&&◌, List, [], ◌∷◌, ◌++◌, length, Option, Some, None, unwrap_or, if◌then◌else◌, refl, ap, sym, subst, length-append, arith, ◌∙◌}
use Rattle.std.specs.Prelude.{nat_lt}
use Rattle.std.proofs.lemmas.Bool.{and_from, and_left, and_right, cond-false, cond-true, le-ltb, lt-ltb}
use Rattle.std.proofs.lemmas.List.{append_cancel_left}
use Rattle.pw_code.specs.declared.verb.Verb.{Verb}
use Rattle.pw_laws.proofs.terms.TermOk.{HasMessages, IsWorking}
use Rattle.pw_paired.specs.Failure.{resumed_path}
use Rattle.pw_onecopy.specs.Path.{PathAnswer, Begun}
use Rattle.pw_paired.specs.Raising.{settled_mode}
use Rattle.pw_paired.specs.State.{Alone, Copy, Down, End, Gone, LastEnded, BackupCopy, Message, PairMode, OpenUnit, Paired, Raising, Start}
use Rattle.pw_onecopy.specs.Behaviour.{Behaviour}
use Rattle.pw_paired.specs.Terminal.{closing_answer}
use Rattle.pw_paired.specs.Units.{attempt_of}
use Rattle.pw_laws.proofs.frontier.Frontier.{Closes, EndsOne, FrontierOk, IsFlying, RunsFrom, Stands, StandsIn, frontier_behind}
use Rattle.pw_laws.proofs.frontier.Leads.{Leads}
use Rattle.pw_laws.proofs.induction.Views.{View, path_in}

-- a path that is not longer leaves the frontier
pub stays-put : (v w : View) (frontier : List PathAnswer) → (attempt_of w.unit ≡ None → length (path_in w) ≤ length frontier) → frontier_behind v w frontier ≡ frontier
stays-put v w frontier short = by (attempt_of w.unit) refl
  where
    by : (attempt : Option (List PathAnswer)) → attempt_of w.unit ≡ attempt → frontier_behind v w frontier ≡ frontier
    by None idle =
        cond-false (is_none (attempt_of w.unit) && nat_lt (length frontier) (length (path_in w))) (path_in w) frontier
        (and_right (is_none (attempt_of w.unit)) (nat_lt (length frontier) (length (path_in w))) (le-ltb (length frontier) (length (path_in w)) (short idle)))
    by (Some q) runs =
        cond-false (is_none (attempt_of w.unit) && nat_lt (length frontier) (length (path_in w))) (path_in w) frontier
        (and_left (is_none (attempt_of w.unit)) (nat_lt (length frontier) (length (path_in w))) (ap is_none runs))

-- an entry behind which the frontier is as it was
pub put : {sys : Behaviour} {t : ℕ} (v w : View) (frontier : List PathAnswer) → FrontierOk sys t w frontier → FrontierOk sys t w (frontier_behind v w frontier)
put {sys = sys} {t = t} v w frontier ok = subst (FrontierOk sys t w) (sym (stays-put v w frontier ok.short)) ok

-- a longer path becomes it
pub grows : (v w : View) (frontier : List PathAnswer) → attempt_of w.unit ≡ None → length frontier < length (path_in w) → frontier_behind v w frontier ≡ path_in w
grows v w frontier idle longer =
    cond-true (is_none (attempt_of w.unit) && nat_lt (length frontier) (length (path_in w))) (path_in w) frontier
    (and_from (is_none (attempt_of w.unit)) (nat_lt (length frontier) (length (path_in w))) (ap is_none idle) (lt-ltb (length frontier) (length (path_in w)) longer))

-- the frontier grows to a longer path
pub grown : {sys : Behaviour} {t : ℕ} (v w : View) (frontier : List PathAnswer) → attempt_of w.unit ≡ None → length frontier < length (path_in w)
    → FrontierOk sys t w (path_in w) → FrontierOk sys t w (frontier_behind v w frontier)
grown {sys = sys} {t = t} v w frontier idle longer ok = subst (FrontierOk sys t w) (sym (grows v w frontier idle longer)) ok

-- a path with one answer more is longer
pub one-longer : (path : List PathAnswer) (a : PathAnswer) → length path < length (path ++ a ∷ [])
one-longer path a = let sum = length-append path (a ∷ []) in omega (arith, sum)

-- where a terminal stands
pub data Where (sys : Behaviour) (t : ℕ) (last : LastEnded) (unit : Option OpenUnit) (path frontier : List PathAnswer) : Type 0 where
  closed : unit ≡ None → Leads sys t last path frontier → Where sys t last unit path frontier
  waiting : (open_unit : OpenUnit) → unit ≡ Some open_unit → open_unit.running ≡ None → path ≡ frontier → Where sys t last unit path frontier
  running : (open_unit : OpenUnit) (start : List PathAnswer) → unit ≡ Some open_unit → open_unit.running ≡ Some start → RunsFrom sys t open_unit.restarts frontier path
      → Where sys t last unit path frontier

where-in : {sys : Behaviour} {t : ℕ} {last : LastEnded} {path frontier : List PathAnswer} (unit : OpenUnit) (attempt : Option (List PathAnswer)) → unit.running ≡ attempt
    → StandsIn sys t unit.restarts attempt path frontier → Where sys t last (Some unit) path frontier
where-in unit None is at = waiting unit refl is at
where-in unit (Some start) is at = running unit start refl is at

-- a terminal stands in one of these places
pub where-of : {sys : Behaviour} {t : ℕ} {last : LastEnded} {path frontier : List PathAnswer} (unit : Option OpenUnit) → Stands sys t last unit path frontier
    → Where sys t last unit path frontier
where-of None at = closed refl at
where-of (Some unit) at = where-in unit unit.running refl at

-- and stands where one of them holds
pub to-stand : {sys : Behaviour} {t : ℕ} {last : LastEnded} {unit : Option OpenUnit} {path frontier : List PathAnswer} → Where sys t last unit path frontier
    → Stands sys t last unit path frontier
to-stand {sys = sys} {t = t} {last = last} {path = path} {frontier = frontier} (closed none leads) =
    subst (λ (u : Option OpenUnit). Stands sys t last u path frontier) (sym none) leads
to-stand {sys = sys} {t = t} {last = last} {path = path} {frontier = frontier} (waiting u is idle at) =
    subst (λ (x : Option OpenUnit). Stands sys t last x path frontier) (sym is)
    (subst (λ (r : Option (List PathAnswer)). StandsIn sys t u.restarts r path frontier) (sym idle) at)
to-stand {sys = sys} {t = t} {last = last} {path = path} {frontier = frontier} (running u start is runs at) =
    subst (λ (x : Option OpenUnit). Stands sys t last x path frontier) (sym is)
    (subst (λ (r : Option (List PathAnswer)). StandsIn sys t u.restarts r path frontier) (sym runs) at)

-- the verb ends no transaction
abbrev pub NoClose : Behaviour → ℕ → List PathAnswer → Type 0
NoClose sys t path = (a : PathAnswer) → closing_answer (sys.ask t path) ≡ Some a → ⊥

-- so end paths stay as they should be where the path moves
abbrev pub ends-moved : {sys : Behaviour} {t : ℕ} {unit : OpenUnit} {frontier path closed_path : List PathAnswer} (other : List PathAnswer) → NoClose sys t path
    → EndsOne sys t unit frontier path closed_path → EndsOne sys t unit frontier other closed_path
ends-moved other none ends = record {
  asks = ends.asks;
  attempt = ends.attempt;
  closes = ends.closes;
  which = ⊎_elim (λ earlier. inl earlier) (λ now. absurd (none now.1.answer now.1.closes)) ends.which;
}

-- a message in flight stays as it should be where the path moves
pub flies-moved : (sys : Behaviour) (t : ℕ) (last : LastEnded) (unit : Option OpenUnit) (memory : Option BackupCopy) (frontier path other : List PathAnswer) (message : Message)
    → NoClose sys t path → IsFlying sys t last unit memory frontier path message → IsFlying sys t last unit memory frontier other message
flies-moved sys t last unit memory frontier path other (Start n p) none flies = tt
flies-moved sys t last unit memory frontier path other (Copy n p) none flies = flies
flies-moved sys t last unit memory frontier path other (End p) none flies = record { open_unit = flies.open_unit; is_open = flies.is_open; ends = ends-moved other none flies.ends; later = flies.later }

-- a verb that does not close ends no transaction
pub none-of-verb : (sys : Behaviour) (t : ℕ) (path : List PathAnswer) (v : Verb) → sys.ask t path ≡ v → closing_answer v ≡ None → NoClose sys t path
none-of-verb sys t path v asks none a closes = absurd (let same = ap closing_answer asks in cc (same, none, closes))

-- one attempt closes a path
pub one-attempt : (frontier path : List PathAnswer) (r n : ℕ) → Closes frontier r path → Closes frontier n path → r ≡ n
one-attempt frontier path r n one other =
    let same = append_cancel_left frontier (Begun r ∷ one.more) (Begun n ∷ other.more) (sym one.whole ∙ other.whole) in
    let first : Begun r ≡ Begun n = cc same in cc first

-- modes of a pair that may have become up to date
pub raised-works : (mode : PairMode) (lacks : Bool) → IsWorking (settled_mode mode lacks) → IsWorking mode
raised-works Alone lacks works = tt
raised-works Raising lacks works = tt
raised-works Paired lacks works = tt
raised-works Down lacks works = works
raised-works Gone lacks works = works

-- a pair that has messages had them before it settled
pub raised-has : (mode : PairMode) (lacks : Bool) → HasMessages (settled_mode mode lacks) → HasMessages mode
raised-has Alone lacks has = has
raised-has Raising lacks has = tt
raised-has Paired lacks has = tt
raised-has Down lacks has = has
raised-has Gone lacks has = has

-- a pair that is Alone was so
pub raised-alone : (mode : PairMode) (lacks : Bool) → settled_mode mode lacks ≡ Alone → mode ≡ Alone
raised-alone Alone lacks is = refl
raised-alone Raising true is = is
raised-alone Raising false is = absurd (cc is)
raised-alone Paired lacks is = is
raised-alone Down lacks is = is
raised-alone Gone lacks is = is

-- a pair that is not lost was not
pub raised-there : (mode : PairMode) (lacks : Bool) → settled_mode mode lacks ≢ Gone → mode ≢ Gone
raised-there mode lacks there gone = there (ap (λ (m : PairMode). settled_mode m lacks) gone)

-- a pair that has messages works
pub messages-work : (mode : PairMode) → HasMessages mode → IsWorking mode
messages-work Raising has = tt
messages-work Paired has = tt
messages-work Alone has = absurd has
messages-work Down has = absurd has
messages-work Gone has = absurd has

-- a pair that works is not lost
pub works-there : (mode : PairMode) → IsWorking mode → mode ≢ Gone
works-there mode works gone = subst IsWorking gone works

-- a memory without an end path resumes at its start
pub resumed-start : (memory : BackupCopy) (last : LastEnded) → memory.end ≡ None → resumed_path memory last ≡ memory.start
resumed-start memory last none = by (last.number == memory.unit)
  where
    by : (is : Bool) → (if is then unwrap_or memory.end memory.start else memory.start) ≡ memory.start
    by true = ap (λ (e : Option (List PathAnswer)). unwrap_or e memory.start) none
    by false = refl
