use Rattle.std.proofs.Common.{ap, ◌∙◌, map}
use Rattle.pw_operands.specs.Uses as place
use Rattle.pw_names.specs.Order.{noted}
use Rattle.pw_names.specs.Flaws.{any_flaws, flaws_of}
use Rattle.pw_names.proofs.Noted.{two-parts}
use Rattle.pw_names.proofs.scope.NameScope.moved.Goals as goal

pub returns : goal.returns
returns c =
    two-parts c.args.known c.any-known.result c.receivers.result c.args.line (any_flaws c.args.self.now.scope c.args.from.now) (flaws_of c.args.self.now.scope (map place.Receiver c.args.to.now))
    c.any-known.ensures (c.receivers.ensures ∙ ap (λ to. noted c.any-known.result c.args.line (flaws_of c.args.self.now.scope (map place.Receiver to))) c.as_slice.ensures)
