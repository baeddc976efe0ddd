-- In every run no more units of a terminal have ended than the log has entries.
use Rattle.std.proofs.Common.{◌≡◌, ℕ, ◌+◌, ◌<◌, ◌≤◌, false, List, [], ◌∷◌, length, Option, Some, None, refl, ap, sym, subst, ◌∙◌, arith}
use Rattle.pw_event.specs.declared.event.Event.{Event}
use Rattle.pw_onecopy.specs.Behaviour.{Behaviour}
use Rattle.pw_onecopy.specs.IsBehaviour.{IsBehaviour}
use Rattle.pw_onecopy.specs.Path.{PathAnswer, unit_number}
use Rattle.pw_paired.specs.Raising.{is_takeover}
use Rattle.pw_paired.specs.State.{OpenUnit, LastEnded, State, starting}
use Rattle.pw_paired.specs.Step.{IsRun, after, effect}
use Rattle.pw_paired.specs.Terminal.{CanStep, path_of}
use Rattle.pw_paired.specs.Units.{last_after_leaving}
use Rattle.pw_laws.proofs.induction.Moving.{TermAt, carried_view, holds-of-terms}
use Rattle.pw_laws.proofs.induction.Runs.{carried_from, kept}
use Rattle.pw_laws.proofs.induction.Views as move
use Rattle.pw_laws.proofs.induction.Views.{Able, Moves, View, path_in}
use Rattle.pw_laws.proofs.kept.Kept.{Inv}
use Rattle.pw_laws.proofs.terms.TermOk.{IsWorking, PathOf, PathOk}

-- the number of a terminal's path is at most the next one behind the last ended unit
path-number : (sys : Behaviour) (t last : ℕ) (unit : Option OpenUnit) (path : List PathAnswer)
    → PathOk sys t last unit path → unit_number path ≤ last + 1
path-number sys t last None path ok = ok.high_is
path-number sys t last (Some unit) path ok = by unit.running ok
  where
    by : (running : Option (List PathAnswer)) → PathOf sys t last running path
        → unit_number path ≤ last + 1
    by None rests = rests.high_is
    by (Some start) goes = let same = goes.number in omega (arith, same)

module _ (sys : Behaviour) (t n : ℕ) (v : View) (ok : TermAt sys t v) (low : v.last.number ≤ n) where
  abbrev Now : LastEnded → Type 0
  Now last = last.number ≤ n + 1

  stays : Now v.last
  stays = omega (arith, low)

  -- the unit of the path ends
  ends : v.term.ending ≡ None → IsWorking v.mode → is_takeover v.term.pending ≡ false
      → unit_number (path_in v) ≤ n + 1
  ends going_on working calm = let number = path-number sys t v.last.number v.unit (path_in v)
      (ok.path_ok going_on working calm) in omega (arith, number, low)

  able-ends : Able sys t v → unit_number (path_in v) ≤ n + 1
  able-ends able = ends able.going_on (subst IsWorking (sym able.paired) tt) (ap is_takeover able.calm)

  -- the open unit is left
  leaves : Now (last_after_leaving v.unit v.last)
  leaves = by v.unit refl
    where
      by : (o : Option OpenUnit) → v.unit ≡ o → Now (last_after_leaving o v.last)
      by None is = stays
      by (Some unit) is = let number = (ok.unit_ok unit is).number in omega (arith, number, low)

  ended-kept : (w : View) → Moves sys t v w → Now w.last
  ended-kept w (move.stays is) = rw is stays
  ended-kept w (move.settles lacks has is) = rw is stays
  ended-kept w (move.shows able asks is) = rw is stays
  ended-kept w (move.enters able screen k asks next exists is) = rw is stays
  ended-kept w (move.sends_start able idle begins new lacking free is) = rw is stays
  ended-kept w (move.sends_end able a closes lacking free is) = rw is stays
  ended-kept w (move.sends_copy live raising lacking free is) = rw is stays
  ended-kept w (move.applies message flies has lacks is) = rw is stays
  ended-kept w (move.begins able idle begins new holds birth is) = rw is stays
  ended-kept w (move.is_answered waits reply inside is) = rw is stays
  ended-kept w (move.is_served waits reply outside is) =
      rw is (ends waits.going_on waits.working (ap is_takeover waits.calm))
  ended-kept w (move.is_failed waits x is) = rw is stays
  ended-kept w (move.is_answered_again able class message asks outside number is) = rw is stays
  ended-kept w (move.commits able asks holds is) = rw is (able-ends able)
  ended-kept w (move.drops able asks holds is) = rw is (able-ends able)
  ended-kept w (move.restarts unit is_open start runs kind few is) = rw is stays
  ended-kept w (move.goes_down paired is) = rw is stays
  ended-kept w (move.is_lost is) = rw is leaves
  ended-kept w (move.loses_backup has is) = rw is stays
  ended-kept w (move.loses_server waits k is) = rw is stays
  ended-kept w (move.is_taken_over p down live held is_held is) = rw is stays
  ended-kept w (move.is_passed_over down e dead is) = rw is stays
  ended-kept w (move.is_raised alone calm is) = rw is stays
  ended-kept w (move.stops e lacks live idle is) = rw is stays
  ended-kept w (move.leaves e lacks is) = rw is leaves

-- the entries are counted beside the log
abbrev one-more : View → View → ℕ → ℕ
one-more v w n = n + 1

counted : (sys : Behaviour) (t : ℕ) (s : State) (n : ℕ) (log : List Event)
    → carried_from sys (carried_view sys t one-more) s n log ≡ n + length log
counted sys t s n [] = omega arith
counted sys t s n (entry ∷ log) = counted sys t (effect sys s entry) (n + 1) log
    ∙ (let same : n + 1 + length log ≡ n + length (entry ∷ log) = omega arith in same)

ended-few : (sys : Behaviour) → IsBehaviour sys → (t : ℕ) → t < sys.terminals → (log : List Event)
    → IsRun sys log → ((after sys log).ended t).number ≤ length log
ended-few sys b t known log run =
    subst (λ n. ((after sys log).ended t).number ≤ n)
    (counted sys t (starting sys) 0 log ∙
    (let same : 0 + length log ≡ length log = omega arith in same))
    (holds-of-terms sys b t known one-more 0 (λ v n. v.last.number ≤ n)
    (λ v w term next moves n low. ended-kept sys t n v term low w moves) (omega arith) log run)

-- ---- unit numbers

-- that of an open unit
pub unit-few : (sys : Behaviour) → IsBehaviour sys → (log : List Event) → IsRun sys log
    → (t : ℕ) (unit : OpenUnit) → (after sys log).units t ≡ Some unit → unit.number ≤ length log + 1
unit-few sys b log run t unit is =
    let inv : Inv sys (after sys log) = kept sys b log run in
    let known = inv.known t unit is in
    let number = ((inv.terms t known).unit_ok unit is).number in
    let low = ended-few sys b t known log run in
    omega (arith, number, low)

-- that of the path of a terminal that can step
pub number-few : (sys : Behaviour) → IsBehaviour sys → (log : List Event) → IsRun sys log → (t : ℕ)
    → CanStep sys (after sys log) t → unit_number (path_of (after sys log) t) ≤ length log + 1
number-few sys b log run t can =
    let inv : Inv sys (after sys log) = kept sys b log run in
    let ok = inv.terms t can.live.known in
    let number = path-number sys t ((after sys log).ended t).number ((after sys log).units t)
    (path_of (after sys log) t)
    (ok.path_ok can.live.going_on (subst IsWorking (sym can.paired) tt) (ap is_takeover can.calm)) in
    let low = ended-few sys b t can.live.known log run in
    omega (arith, number, low)
