use Rattle.std.proofs.Common.{ap, ◌∙◌, map}
use Rattle.pw_operands.specs.Uses as place
use Rattle.pw_names.specs.Order.{noted}
use Rattle.pw_operands.specs.Variables.{is_any}
use Rattle.pw_forms.specs.declared.lists.SendCode.{SendCode}
use Rattle.pw_names.specs.Flaws.{item_flaws, flaws, flaws_of}
use Rattle.pw_names.proofs.Noted.{three-parts}
use Rattle.pw_names.proofs.scope.NameScope.send.Goals as goal

pub returns : goal.returns
returns c =
    three-parts c.args.known c.item-known.result c.class-known.result c.yields.result c.args.line (item_flaws c.args.self.now.scope is_any c.args.message.now) (flaws c.args.self.now.scope (place.Class c.args.class.now))
    (flaws_of c.args.self.now.scope (map (λ (code : SendCode). place.Receiver code.yields) c.args.codes.now)) c.item-known.ensures c.class-known.ensures
    (c.yields.ensures ∙ ap (λ codes. noted c.class-known.result c.args.line (flaws_of c.args.self.now.scope (map (λ (code : SendCode). place.Receiver code.yields) codes))) c.as_slice.ensures.codes)
