-- A unit that has committed has ended exactly once.
use Rattle.std.proofs.Common.{◌≡◌, ℕ, ◌+◌, ◌≤◌, Bool, true, List, [], ◌∷◌, ◌++◌, length, cond, ◌&&◌, ◌==◌, None, refl, ap, arith, ◌∙◌}
use Rattle.std.proofs.lemmas.Bool.{and_from, cond-true, eq-eqb}
use Rattle.pw_event.specs.declared.event.Event.{Event}
use Rattle.pw_event.specs.declared.event.Event.TheVariants as event
use Rattle.pw_onecopy.specs.Behaviour.{Behaviour}
use Rattle.pw_onecopy.specs.Blocks.{Attempted, SerialBlock, Committed}
use Rattle.pw_onecopy.specs.IsBehaviour.{IsBehaviour}
use Rattle.pw_onecopy.specs.Path.{is_outside, unit_number}
use Rattle.pw_paired.specs.Headline.{ends_unit}
use Rattle.pw_paired.specs.Serial.{blocks, blocks_of, entry_blocks_from, left_blocks, read_on}
use Rattle.pw_paired.specs.State.{starting}
use Rattle.pw_paired.specs.Step.{IsRun, after, effect}
use Rattle.pw_paired.specs.Terminal.{path_of}
use Rattle.pw_laws.proofs.ends.Ends.{ends_in, ends_in-append}
use Rattle.pw_laws.proofs.ends.EndsOnce.{ends-once}
use Rattle.pw_laws.proofs.induction.Runs.{carried_from-append}
use Rattle.pw_laws.proofs.blocks.Fold.{Fold, fold_after, fold_on, fold_starts, fold-blocks, fold-order-from}
use Rattle.pw_laws.specs.serial.Guarded.{HasEndedOnce}

module _ (sys : Behaviour) (b : IsBehaviour sys) (before more : List Event) (entry : Event) (t n : ℕ) where
  abbrev f : Fold
  f = fold_after sys before

  abbrev whole : List Event
  whole = before ++ entry ∷ more

  -- the blocks of the entry are among those of the log
  order-is : (fold_after sys whole).order
      ≡ (f.order ++ blocks_of sys (after sys before) f.reading entry) ++ entry_blocks_from sys (effect sys (after sys before) entry) (read_on sys (after sys before) entry f.reading) more
  order-is =
      ap (λ (x : Fold). x.order) (carried_from-append sys (fold_on sys) (starting sys) fold_starts before (entry ∷ more))
      ∙ fold-order-from sys (effect sys (after sys before) entry) (fold_on sys (after sys before) entry f) more

  at-least : ends_in t n (blocks_of sys (after sys before) f.reading entry) ≡ 1 → 1 ≤ ends_in t n (blocks sys whole)
  at-least one =
      let rest : List SerialBlock = entry_blocks_from sys (effect sys (after sys before) entry) (read_on sys (after sys before) entry f.reading) more in
      let last : List SerialBlock = left_blocks (after sys whole) (fold_after sys whole).reading (λ t. true) sys.terminals in
      let all = ap (ends_in t n) (fold-blocks sys whole) ∙ ends_in-append t n (fold_after sys whole).order last in
      let order = ap (ends_in t n) order-is ∙ ends_in-append t n (f.order ++ blocks_of sys (after sys before) f.reading entry) rest in
      let front = ends_in-append t n f.order (blocks_of sys (after sys before) f.reading entry) in
      omega (arith, all, order, front, one)

  has-ended : IsRun sys whole → ends_in t n (blocks_of sys (after sys before) f.reading entry) ≡ 1 → HasEndedOnce sys whole t n
  has-ended run one =
      let low = at-least one in
      let high = ends-once sys b whole run t n in
      omega (arith, low, high)

-- a block that commits ends its unit
one-end : (t n j : ℕ) → ends_in t n (Attempted t n Committed j ∷ []) ≡ 1
one-end t n j =
    ap (λ (x : Bool). length (cond x (Attempted t n Committed j ∷ []) []))
    (and_from (t == t) (n == n && ends_unit Committed) (eq-eqb t t refl) (and_from (n == n) (ends_unit Committed) (eq-eqb n n refl) refl))

-- a COMMIT has ended its unit exactly once
pub commit-ended : (sys : Behaviour) → IsBehaviour sys → (before more : List Event) (t n : ℕ) → IsRun sys (before ++ event.Commit t n ∷ more)
    → HasEndedOnce sys (before ++ event.Commit t n ∷ more) t n
commit-ended sys b before more t n run =
    has-ended sys b before more (event.Commit t n) t n run (one-end t n ((fold_after sys before).reading.answers t + 1))

-- and so has the reply of a unit that is one SEND
pub send-ended : (sys : Behaviour) → IsBehaviour sys → (before more : List Event) (c i t : ℕ) → IsRun sys (before ++ event.Reply c i t None ∷ more)
    → is_outside (path_of (after sys before) t) ≡ true
    → HasEndedOnce sys (before ++ event.Reply c i t None ∷ more) t (unit_number (path_of (after sys before) t))
send-ended sys b before more c i t run outside =
    let n : ℕ = unit_number (path_of (after sys before) t) in
    let j : ℕ = (fold_after sys before).reading.answers t + 1 in
    has-ended sys b before more (event.Reply c i t None) t n run
    (ap (ends_in t n) (cond-true (is_outside (path_of (after sys before) t)) (Attempted t n Committed j ∷ []) [] outside) ∙ one-end t n j)
