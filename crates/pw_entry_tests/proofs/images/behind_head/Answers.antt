-- Mark and numbers, and the cells behind them.
use Rattle.std.proofs.Common.{◌++◌, List, ℕ, Some}
use Rattle.std.specs.Option.{option_copied}
use Rattle.pw_code.specs.declared.context.Context.{Context}
use Rattle.pw_entry_tests.proofs.Left.{piece, two}
use Rattle.pw_entry_tests.specs.Images.{number_bytes}
use Rattle.pw_entry_tests.proofs.images.behind_head.Goals as goal

pub returns : goal.returns
returns c =
    let x = c.args.context.now in
    let counted : Context = record x {
      phase = c.args.phase;
      attempt = c.args.attempt;
      shown = c.args.shown;
      units = c.args.units;
      in_unit = c.args.in_unit;
    } in
    let left = option_copied c.behind-left.result in
    let last = option_copied c.behind.result in
    two (number_bytes counted) x.screen (Some c.args.bytes.now) left last
    (piece c.numbers_of-numbers.result (number_bytes counted) (Some c.args.bytes.now) left c.behind-left.ensures c.numbers_of-numbers.ensures)
    (piece c.cells.result.now x.screen left last c.behind.ensures c.cells.ensures.cells)
