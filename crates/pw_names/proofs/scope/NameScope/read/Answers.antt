use Rattle.std.proofs.Common.{◌++◌, []}
use Rattle.pw_operands.specs.Variables.{is_item}
use Rattle.pw_operands.specs.Resolved.{is_key}
use Rattle.pw_names.specs.Flaws.{file_flaws, item_flaws}
use Rattle.pw_names.proofs.Noted.{one-part, two-parts}
use Rattle.pw_names.proofs.scope.NameScope.read.Goals as goal

pub returns : goal.returns
returns c =
    two-parts c.args.known c.of_file-known.result c.item.result c.args.line (file_flaws c.args.self.now.scope is_key c.args.file.now c.args.key.now) ((item_flaws c.args.self.now.scope is_item c.args.into.now) ++ []) c.of_file-known.ensures (one-part c.of_file-known.result c.item.result c.args.line (item_flaws c.args.self.now.scope is_item c.args.into.now) c.item.ensures)
