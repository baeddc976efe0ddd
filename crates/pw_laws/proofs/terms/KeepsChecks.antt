-- What the entries of checkpoints keep: CHECK START, CHECK END, CHECK COPY, APPLIED and RAISE.
use Rattle.std.proofs.Common.{◌≡◌, ◌≢◌, ℕ, ◌+◌, ◌<◌, ◌≤◌, ⊎_elim, false, List, [], ◌∷◌, ◌++◌, Option, Some, None, unwrap_or, refl, ap, sym, subst, ◌∙◌, arith}
use Rattle.std.proofs.lemmas.Bool.{cases_eq, true≢false}
use Rattle.pw_code.specs.declared.verb.Verb.{Verb}
use Rattle.pw_code.specs.declared.verb.Verb.TheVariants as verb
use Rattle.pw_onecopy.proofs.Update.{upd_elim}
use Rattle.pw_onecopy.specs.Behaviour.{Behaviour}
use Rattle.pw_onecopy.specs.IsBehaviour.{IsBehaviour, IsPath, Suits}
use Rattle.pw_onecopy.specs.Path.{PathAnswer, is_outside, unit_number, Dropped, Ended}
use Rattle.pw_onecopy.specs.Update.{upd}
use Rattle.pw_paired.specs.Raising.{LegalCheckCopy, do_check_copy}
use Rattle.pw_paired.specs.State.{PairMode, BackupCopy, Message, Copy, OpenUnit, State, Term}
use Rattle.pw_paired.specs.Terminal.{CanStep, LegalCheckStart, LegalCheckEnd, do_check_start, do_check_end, closing_answer, next_verb, path_of}
use Rattle.pw_paired.specs.Units.{attempt_of}
use Rattle.pw_laws.proofs.Paths.{IsClosing, Ended-closing, Dropped-closing, closing-number, closing-outside, IsPath-push}
use Rattle.pw_laws.proofs.terms.TermOk.{UnitOk, FlightOk, HasMessages, RunningPath, RestingPath, PathOf, PathOk, TermOk, TermsOk}

-- one of two neighbours that is not the lower one
pub upper : (low n : ℕ) → low ≤ n → n ≤ low + 1 → low ≢ n → n ≡ low + 1
upper low n from to other = ⊎_elim (λ same. absurd (other same)) (λ differ. omega (arith, from, to, differ)) (cases_eq low n)

-- the path of a terminal without a running attempt
pub resting : {sys : Behaviour} {t last : ℕ} {path : List PathAnswer} (unit : Option OpenUnit) → attempt_of unit ≡ None → PathOk sys t last unit path
    → RestingPath sys t last (last + 1) path
resting None idle ok = ok
resting {sys = sys} {t = t} {last = last} {path = path} (Some unit) idle ok =
    let own : PathOf sys t last None path = subst (λ (r : Option (List PathAnswer)). PathOf sys t last r path) idle ok in
    record { rest = own.rest; low_is = let low = own.low_is in omega arith; high_is = own.high_is }

-- with an open unit that does not run, it stands before this unit
pub before_open : (sys : Behaviour) (t last : ℕ) (path : List PathAnswer) (unit : OpenUnit) → unit.running ≡ None → PathOk sys t last (Some unit) path
    → unit_number path ≡ last + 1
before_open sys t last path unit idle ok =
    let own : PathOf sys t last None path = subst (λ (r : Option (List PathAnswer)). PathOf sys t last r path) idle ok in
    let low = own.low_is in
    let high = own.high_is in
    omega arith

-- the path of a running attempt
pub running : {sys : Behaviour} {t last : ℕ} {path start : List PathAnswer} (unit : Option OpenUnit) → attempt_of unit ≡ Some start → PathOk sys t last unit path
    → RunningPath sys t last path
running None runs ok = absurd (cc runs)
running {sys = sys} {t = t} {last = last} {path = path} (Some unit) runs ok = subst (λ (r : Option (List PathAnswer)). PathOf sys t last r path) runs ok

-- a path in a transaction is that of a running attempt
pub record Within (sys : Behaviour) (t last : ℕ) (unit : Option OpenUnit) (path : List PathAnswer) : Type 0 where
  pub open_unit : OpenUnit
  pub is_open : unit ≡ Some open_unit
  pub start : List PathAnswer
  pub runs : open_unit.running ≡ Some start
  pub path_is : RunningPath sys t last path

within-of : {sys : Behaviour} {t last : ℕ} {path : List PathAnswer} (unit : OpenUnit) (r : Option (List PathAnswer)) → unit.running ≡ r
    → is_outside path ≡ false → PathOf sys t last r path → Within sys t last (Some unit) path
within-of unit None is inside ok = absurd (true≢false (sym ok.rest.outside ∙ inside))
within-of unit (Some start) is inside ok = record { open_unit = unit; is_open = refl; start = start; runs = is; path_is = ok }

-- a path in a transaction is one of a running attempt
pub within : {sys : Behaviour} {t last : ℕ} {path : List PathAnswer} (unit : Option OpenUnit) → is_outside path ≡ false → PathOk sys t last unit path
    → Within sys t last unit path
within None inside ok = absurd (true≢false (sym ok.rest.outside ∙ inside))
within (Some unit) inside ok = within-of unit unit.running refl inside ok

path_of-is : {sys : Behaviour} {t : ℕ} (last : ℕ) {path : List PathAnswer} (r : Option (List PathAnswer)) → PathOf sys t last r path → IsPath sys t path
path_of-is last None ok = ok.rest.is_path
path_of-is last (Some start) ok = ok.is_path

-- what is kept of a path says that it is one
pub path_ok-is : {sys : Behaviour} {t : ℕ} (last : ℕ) {path : List PathAnswer} (unit : Option OpenUnit) → PathOk sys t last unit path → IsPath sys t path
path_ok-is last None ok = ok.rest.is_path
path_ok-is last (Some unit) ok = path_of-is last unit.running ok

-- a terminal with another message in flight
pub term-sent : {sys : Behaviour} {t last : ℕ} {unit : Option OpenUnit} {memory : Option BackupCopy} {flight : Option Message} {term : Term} {mode : PairMode} (message : Message)
    → HasMessages mode → FlightOk sys t last unit memory term.path message
    → TermOk sys t last unit memory flight term mode → TermOk sys t last unit memory (Some message) term mode
term-sent {sys = sys} {t = t} {last = last} {unit = unit} {memory = memory} {term = term} message has flies ok = record {
  unit_ok = ok.unit_ok;
  memory_ok = ok.memory_ok;
  memory_unit = ok.memory_unit;
  flight_ok = λ other is. subst (λ (m : Message). FlightOk sys t last unit memory term.path m) (let same : message ≡ other = cc in same) flies;
  quiet = λ none. absurd (none has);
  lost = ok.lost;
  has_memory = ok.has_memory;
  calm = ok.calm;
  path_ok = ok.path_ok;
}

-- what ends a transaction comes inside it
record Closes (sys : Behaviour) (t : ℕ) (path : List PathAnswer) (a : PathAnswer) : Type 0 where
  pub inside : is_outside path ≡ false
  pub closing_is : IsClosing a
  pub suits : Suits sys t path (sys.ask t path) a

closes : (sys : Behaviour) → IsBehaviour sys → (t : ℕ) (path : List PathAnswer) (a : PathAnswer) (v : Verb) → IsPath sys t path
    → sys.ask t path ≡ v → closing_answer v ≡ Some a → Closes sys t path a
closes sys b t path a verb.Show is_path asks is = absurd (cc is)
closes sys b t path a (verb.Accept screen) is_path asks is = absurd (cc is)
closes sys b t path a verb.Begin is_path asks is = absurd (cc is)
closes sys b t path a (verb.Send c message) is_path asks is = absurd (cc is)
closes sys b t path a verb.End is_path asks is =
    subst (λ (x : PathAnswer). Closes sys t path x) (let same : Ended ≡ a = cc in same)
    (record { inside = b.ends t path is_path asks; closing_is = Ended-closing; suits = rw asks tt })
closes sys b t path a verb.Drop is_path asks is =
    subst (λ (x : PathAnswer). Closes sys t path x) (let same : Dropped ≡ a = cc in same)
    (record { inside = b.drops t path is_path asks; closing_is = Dropped-closing; suits = rw asks tt })
closes sys b t path a verb.Redo is_path asks is = absurd (cc is)
closes sys b t path a verb.Stop is_path asks is = absurd (cc is)
closes sys b t path a (verb.Fault x) is_path asks is = absurd (cc is)
closes sys b t path a (verb.File call) is_path asks is = absurd (cc is)
closes sys b t path a (verb.Reply reply) is_path asks is = absurd (cc is)

-- the number of an open unit's start path, or of the path before it
copied-ok : (sys : Behaviour) (t last : ℕ) (unit : Option OpenUnit) (memory : Option BackupCopy) (path : List PathAnswer) (r : Option (List PathAnswer)) → attempt_of unit ≡ r
    → memory ≡ None → ((u : OpenUnit) → unit ≡ Some u → UnitOk sys t last u) → PathOk sys t last unit path
    → FlightOk sys t last unit memory path (Copy (unit_number (unwrap_or r path)) (unwrap_or r path))
copied-ok sys t last None memory path None is lacking unit_ok ok =
    ((ok.rest, refl, ok.low_is, ok.high_is), lacking, λ u e. absurd (cc e))
copied-ok sys t last None memory path (Some start) is lacking unit_ok ok = absurd (cc is)
copied-ok sys t last (Some unit) memory path None is lacking unit_ok ok =
    let rest = resting (Some unit) is ok in
    let number = before_open sys t last path unit is ok in
    ((rest.rest, refl, rest.low_is, rest.high_is), lacking, λ u e. let same : unit ≡ u = cc in number ∙ (sym (unit_ok unit refl).number ∙ ap (λ (x : OpenUnit). x.number) same))
copied-ok sys t last (Some unit) memory path (Some start) is lacking unit_ok ok =
    let begun = (unit_ok unit refl).start start is in
    let number : unit_number start ≡ last + 1 = begun.1 in (
      (begun.0, refl, omega (arith, number), omega (arith, number)),
      lacking,
      λ u e. let same : unit ≡ u = cc in number ∙ (sym (unit_ok unit refl).number ∙ ap (λ (x : OpenUnit). x.number) same),
    )

module _ (sys : Behaviour) (b : IsBehaviour sys) (s : State) (ok : TermsOk sys s) where
  -- the path of a terminal that can step
  pub can_path : (t : ℕ) → CanStep sys s t → PathOk sys t (s.ended t).number (s.units t) (path_of s t)
  can_path t can = (ok t can.live.known).path_ok can.live.going_on (rw can.paired tt) (rw can.calm refl)

  sent : (t : ℕ) (message : Message) → t < sys.terminals → HasMessages (s.modes (sys.pair_of t))
      → FlightOk sys t (s.ended t).number (s.units t) (s.memory t) (path_of s t) message
      → TermsOk sys (record s { flight = upd s.flight t (Some message) })
  sent t message known has flies j j_known =
      upd_elim s.flight t (Some message) j
      (λ (x : Option Message). TermOk sys j (s.ended j).number (s.units j) (s.memory j) x (s.terms j) (s.modes (sys.pair_of j)))
      (λ is. rw is (term-sent message has flies (ok t known)))
      (λ _. ok j j_known)

  -- CHECK START keeps what holds of terminals
  pub keeps_check_start : (t : ℕ) → LegalCheckStart sys s t → TermsOk sys (do_check_start t s)
  keeps_check_start t l =
      let rest = resting (s.units t) l.idle (can_path t l.can) in
      sent t _ l.can.live.known (rw l.can.paired tt)
      ((rest.rest, refl, upper _ _ rest.low_is rest.high_is l.new), l.idle, refl, l.begins, l.lacking)

  -- CHECK END keeps what holds of terminals
  pub keeps_check_end : (t : ℕ) → LegalCheckEnd sys s t → TermsOk sys (do_check_end sys t s)
  keeps_check_end t l =
      let path = can_path t l.can in
      let closed = closes sys b t (path_of s t) l.answer (next_verb sys s t) (path_ok-is _ (s.units t) path) refl l.closes in
      let here = within (s.units t) closed.inside path in
      let held = (ok t l.can.live.known).has_memory l.can.live.going_on (rw l.can.paired tt) in
      let same = (ok t l.can.live.known).memory_unit held.0 here.open_unit held.1 here.is_open in
      let number = ((ok t l.can.live.known).unit_ok here.open_unit here.is_open).number in
      let is : unit_number (path_of s t ++ l.answer ∷ []) ≡ held.0.unit + 1 =
      closing-number l.answer closed.closing_is (path_of s t) ∙ ap (λ (n : ℕ). n + 1) (here.path_is.number ∙ (sym number ∙ sym same)) in
      sent t _ l.can.live.known (rw l.can.paired tt)
      (rw l.closes (
        held.0,
        held.1,
        record { is_path = IsPath-push sys t (path_of s t) l.answer here.path_is.is_path closed.suits; outside = closing-outside l.answer closed.closing_is (path_of s t) },
        is,
      ))

  -- CHECK COPY keeps what holds of terminals
  pub keeps_check_copy : (t : ℕ) → LegalCheckCopy sys s t → TermsOk sys (do_check_copy t s)
  keeps_check_copy t l =
      let calm = (ok t l.live.known).calm (rw l.raising tt) in
      let path = (ok t l.live.known).path_ok l.live.going_on (rw l.raising tt) calm in
      sent t _ l.live.known (rw l.raising tt)
      (copied-ok sys t (s.ended t).number (s.units t) (s.memory t) (path_of s t) (attempt_of (s.units t)) refl l.lacking (ok t l.live.known).unit_ok path)
