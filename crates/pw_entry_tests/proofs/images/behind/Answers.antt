use Rattle.std.proofs.Common.{ap, sym, ◌∙◌}
use Rattle.std.specs.Option.{option_copied}
use Rattle.pw_entry_tests.specs.Images.{left_of}
use Rattle.pw_entry_tests.proofs.Left.{strip-left}
use Rattle.pw_entry_tests.proofs.images.behind.Goals as goal

pub returns-in-Some : goal.returns-in-Some
returns-in-Some c =
    strip-left c.args.front.now c.in-Some.left.now c.strip_prefix.result c.strip_prefix.ensures.cases
    ∙ ap (λ l. left_of c.args.front.now (option_copied l)) (sym c.in-Some.is)
