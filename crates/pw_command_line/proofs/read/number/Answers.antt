use Rattle.std.proofs.Common.{◌∙◌, sym, ap}
use Rattle.std.specs.Prelude.{unwrap_or}
use Rattle.clap.specs.Words.{found_of}
use Rattle.pw_command_line.proofs.Numbers.{not_none, number_is}
use Rattle.pw_command_line.proofs.read.number.Goals as goal

pub unreachable-requires : goal.unreachable-requires
unreachable-requires c =
    not_none c.get_one.result _ c.in_default.is
    (number_is (found_of c.args.matches.now) c.args.name.now c.get_one.result c.get_one.ensures.none c.get_one.ensures.value c.requires)

pub returns : goal.returns
returns c =
    ap (λ o. unwrap_or o 0) (sym c.in-Some.is ∙ number_is (found_of c.args.matches.now) c.args.name.now c.get_one.result c.get_one.ensures.none c.get_one.ensures.value c.requires)
