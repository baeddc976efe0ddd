-- What is known of a terminal behind every run: where its path is behind a takeover, and that a request that is out is one that
-- its program asks for.
use Rattle.std.proofs.Common.{◌≡◌, ◌≢◌, ℕ, ◌+◌, ◌<◌, ◌==◌, true, false, unwrap_or, List, [], ◌∷◌, Option, Some, None, refl, ap, sym, subst, arith, ◌∙◌}
use Rattle.std.specs.List.{list_any}
use Rattle.std.proofs.lemmas.Bool.{cond-false, false≢true, ne_eqb}
use Rattle.pw_base.proofs.Plain.{drop-false}
use Rattle.pw_class.specs.Queue.{is_of, works_for}
use Rattle.pw_class.specs.declared.request.Request.{Request}
use Rattle.pw_event.specs.declared.event.Cause.{Cause}
use Rattle.pw_event.specs.declared.event.Event.{Event}
use Rattle.pw_onecopy.specs.Behaviour.{Behaviour}
use Rattle.pw_onecopy.specs.IsBehaviour.{IsBehaviour}
use Rattle.pw_onecopy.specs.Path.{PathAnswer, unit_number}
use Rattle.pw_paired.specs.Failure.{resumed_path}
use Rattle.pw_paired.specs.Raising.{is_takeover}
use Rattle.pw_paired.specs.State.{BackupCopy, Class, Job, OpenUnit, State}
use Rattle.pw_paired.specs.Step.{IsRun, after}
use Rattle.pw_paired.specs.Units.{any_below, has_request, is_out, request_in}
use Rattle.pw_laws.proofs.Lacking.{any_below-some}
use Rattle.pw_laws.proofs.induction.Moving.{TermAt, holds-of-terms}
use Rattle.pw_laws.proofs.induction.Views as move
use Rattle.pw_laws.proofs.induction.Views.{Moves, View, path_in}
use Rattle.pw_laws.proofs.kept.Kept.{Inv}
use Rattle.pw_laws.proofs.requests.Classes.{IsWithout, NoneOf, NotFor}
use Rattle.pw_laws.proofs.requests.Requests.{AtWork, InLine, Nowhere, Place, Placed, Sent, sent_of}
use Rattle.pw_laws.proofs.terms.TermOk.{IsRest}

-- ---- behind a takeover

-- where TAKEOVER is pending, the path is the start of the open unit
abbrev pub IsTaken : List PathAnswer → Behaviour → ℕ → OpenUnit → Type 0
IsTaken path sys t own = IsRest sys t path × (unit_number path ≡ own.number)

abbrev TakenOk : Behaviour → ℕ → View → Type 0
TakenOk sys t v = is_takeover v.term.pending ≡ true → (own : OpenUnit) → v.unit ≡ Some own → IsTaken (path_in v) sys t own

-- nothing is pending
quiet : {sys : Behaviour} {t : ℕ} {pending : Option Cause} {path : List PathAnswer} {unit : Option OpenUnit} → pending ≡ None
    → is_takeover pending ≡ true → (own : OpenUnit) → unit ≡ Some own → IsTaken path sys t own
quiet none taken own is = absurd (false≢true (sym (ap is_takeover none) ∙ taken))

-- a takeover resumes an open unit at its start
resumed : (sys : Behaviour) (t : ℕ) (v : View) → TermAt sys t v → (held : BackupCopy) → v.memory ≡ Some held → (own : OpenUnit) → v.unit ≡ Some own
    → IsTaken (resumed_path held v.last) sys t own
resumed sys t v term held there own is =
    let memory = term.memory_ok held there in
    let same = term.memory_unit held own there is in
    let next = (term.unit_ok own is).number in
    let starts : resumed_path held v.last ≡ held.start = cond-false (v.last.number == held.unit) (unwrap_or held.end held.start) held.start (ne_eqb v.last.number held.unit (λ ended. absurd (omega (arith, same, next, ended)))) in
    subst (λ (p : List PathAnswer). IsTaken p sys t own) (sym starts) (memory.start, memory.number ∙ same)

taken-kept : (sys : Behaviour) (t : ℕ) (v w : View) → TermAt sys t v → Moves sys t v w → TakenOk sys t v → TakenOk sys t w
taken-kept sys t v w term (move.stays is) ok = subst (TakenOk sys t) (sym is) ok
taken-kept sys t v w term (move.settles lacks has is) ok = subst (TakenOk sys t) (sym is) ok
taken-kept sys t v w term (move.shows able asks is) ok = subst (TakenOk sys t) (sym is) (quiet able.calm)
taken-kept sys t v w term (move.enters able screen k asks next exists is) ok = subst (TakenOk sys t) (sym is) (quiet able.calm)
taken-kept sys t v w term (move.sends_start able idle begin new lacking free is) ok = subst (TakenOk sys t) (sym is) ok
taken-kept sys t v w term (move.sends_end able a closes lacking free is) ok = subst (TakenOk sys t) (sym is) ok
taken-kept sys t v w term (move.sends_copy going raising lacking free is) ok = subst (TakenOk sys t) (sym is) ok
taken-kept sys t v w term (move.applies message flies has lacks is) ok = subst (TakenOk sys t) (sym is) ok
taken-kept sys t v w term (move.begins able idle begin new held birth is) ok = subst (TakenOk sys t) (sym is) (quiet able.calm)
taken-kept sys t v w term (move.is_answered waits reply inside is) ok = subst (TakenOk sys t) (sym is) (quiet waits.calm)
taken-kept sys t v w term (move.is_served waits reply outside is) ok = subst (TakenOk sys t) (sym is) (quiet waits.calm)
taken-kept sys t v w term (move.is_failed waits x is) ok = subst (TakenOk sys t) (sym is) (quiet waits.calm)
taken-kept sys t v w term (move.is_answered_again able class message asks outside number is) ok = subst (TakenOk sys t) (sym is) (quiet able.calm)
taken-kept sys t v w term (move.commits able asks held is) ok = subst (TakenOk sys t) (sym is) (quiet able.calm)
taken-kept sys t v w term (move.drops able asks held is) ok = subst (TakenOk sys t) (sym is) (quiet able.calm)
taken-kept sys t v w term (move.restarts unit is_open start runs kind few is) ok = subst (TakenOk sys t) (sym is) (quiet refl)
taken-kept sys t v w term (move.goes_down paired is) ok = subst (TakenOk sys t) (sym is) (quiet refl)
taken-kept sys t v w term (move.is_lost is) ok = subst (TakenOk sys t) (sym is) (quiet refl)
taken-kept sys t v w term (move.loses_backup has is) ok = subst (TakenOk sys t) (sym is) ok
taken-kept sys t v w term (move.loses_server waits k is) ok = subst (TakenOk sys t) (sym is) (λ taken own there. absurd (false≢true taken))
taken-kept sys t v w term (move.is_taken_over p down live held is_held is) ok =
    subst (TakenOk sys t) (sym is) (λ taken own there. resumed sys t v term held is_held own there)
taken-kept sys t v w term (move.is_passed_over down e dead is) ok = subst (TakenOk sys t) (sym is) ok
taken-kept sys t v w term (move.is_raised alone calm is) ok = subst (TakenOk sys t) (sym is) ok
taken-kept sys t v w term (move.stops e lacks live idle is) ok = subst (TakenOk sys t) (sym is) (quiet refl)
taken-kept sys t v w term (move.leaves e lacks is) ok = subst (TakenOk sys t) (sym is) (quiet refl)

-- in every run
pub taken-over : (sys : Behaviour) → IsBehaviour sys → (log : List Event) → IsRun sys log → (t : ℕ) → t < sys.terminals
    → is_takeover ((after sys log).terms t).pending ≡ true → (own : OpenUnit) → (after sys log).units t ≡ Some own → IsTaken ((after sys log).terms t).path sys t own
taken-over sys b log run t known =
    holds-of-terms sys b t known {A = Unit {0}} (λ v w a. tt) tt (λ v a. TakenOk sys t v)
    (λ v w before behind move a ok. taken-kept sys t v w before move ok) (quiet refl) log run

-- ---- requests

none-waits : (t : ℕ) (waiting : List Request) → NoneOf t waiting → list_any (is_of t) waiting ≡ false
none-waits t [] none = refl
none-waits t (request ∷ waiting) none = rw (ne_eqb request.terminal t none.0) (none-waits t waiting none.1)

none-works : (t : ℕ) (work : Option Job) → NotFor t work → works_for t (request_in work) ≡ false
none-works t None none = refl
none-works t (Some job) none = ne_eqb job.request.terminal t none

-- a class without requests of the terminal has none
without-none : (t n : ℕ) (class : Class) → IsWithout t class → has_request t n class ≡ true → ⊥
without-none t n class without has =
    let works = drop-false (list_any (is_of t) class.waiting) (any_below n (λ i. works_for t (request_in (class.busy (i + 1))))) (none-waits t class.waiting without.line) has in
    let one = any_below-some n (λ i. works_for t (request_in (class.busy (i + 1)))) works in
    false≢true (sym (none-works t (class.busy (one.0 + 1)) (without.work (one.0 + 1))) ∙ one.2)

-- a request that is out is at a place
pub out-sent : (sys : Behaviour) (s : State) (i : Inv sys s) (t : ℕ) → is_out sys s t ≡ true → (request : Sent) × (sent_of (i.places t) ≡ Some request)
out-sent sys s i t out = by (i.places t) refl
  where
    by : (place : Place) → i.places t ≡ place → (request : Sent) × (sent_of (i.places t) ≡ Some request)
    by Nowhere is =
        let one = any_below-some sys.classes (λ c. has_request t (sys.processes c) (s.classes c)) out in
        absurd (without-none t (sys.processes one.0) (s.classes one.0) (subst (Placed s.classes t) is (i.requests.placed t) one.0) one.2)
    by (InLine c request) is = (record { class = c; request = request }, ap sent_of is)
    by (AtWork c k job) is = (record { class = c; request = job.request }, ap sent_of is)
