-- What was found so far, with those that are left, is what all give.
use Rattle.std.proofs.Common.{◌≡◌, Some, drop}
use Rattle.std.specs.Prelude.{◌&&◌}
use Rattle.pw_code_meaning.specs.Conditions.{all_hold, of_both}
use Rattle.pw_code_meaning.specs.Reading.{registers_of}
use Rattle.pw_machine.proofs.conditions.all_hold.Given as goal

abbrev pub invariant-loop-one : goal.invariant-loop-one
invariant-loop-one l =
    of_both (λ a b. a && b) (Some l.holds) (all_hold (registers_of l.context) l.storage (drop l.one-index l.all))
    ≡ all_hold (registers_of l.context) l.storage l.all
