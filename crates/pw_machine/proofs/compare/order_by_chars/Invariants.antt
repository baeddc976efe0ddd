-- Up to the place the characters are equal, so the rest decides.
use Rattle.std.proofs.Common.{◌≡◌}
use Rattle.pw_code_meaning.specs.Reading.{value_in}
use Rattle.pw_machine.specs.Views.{taken_by}
use Rattle.pw_machine.proofs.BesideLemmas.{order_from}
use Rattle.pw_machine.proofs.compare.order_by_chars.Given as goal

abbrev pub invariant-loop-place : goal.invariant-loop-place
invariant-loop-place l =
    order_from (value_in l.storage (taken_by l.left l.a)) (value_in l.storage (taken_by l.right l.b)) 0
    ≡ order_from (value_in l.storage (taken_by l.left l.a)) (value_in l.storage (taken_by l.right l.b)) l.place
