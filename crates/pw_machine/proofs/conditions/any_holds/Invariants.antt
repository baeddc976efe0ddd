-- What was found so far, with those that are left, is what all give.
use Rattle.std.proofs.Common.{◌≡◌, Some, drop}
use Rattle.std.specs.Prelude.{◌||◌}
use Rattle.pw_code_meaning.specs.Conditions.{any_holds, of_both}
use Rattle.pw_code_meaning.specs.Reading.{registers_of}
use Rattle.pw_machine.proofs.conditions.any_holds.Given as goal

abbrev pub invariant-loop-all : goal.invariant-loop-all
invariant-loop-all l =
    of_both (λ a b. a || b) (Some l.holds) (any_holds (registers_of l.context) l.storage (drop l.all-index l.lists))
    ≡ any_holds (registers_of l.context) l.storage l.lists
