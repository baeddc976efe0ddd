use Rattle.std.proofs.Common.{◌≡◌, Some, None, sym, ap, ◌∙◌}
use Rattle.std.specs.Prelude.{find, option_copied}
use Rattle.pw_data.specs.Names.{is_this_name}
use Rattle.pw_data.specs.Index.{first_item_number}
use Rattle.pw_data.specs.Layouts.{Laid}
use Rattle.pw_data.proofs.Indexes.{item-found, not_found}
use Rattle.pw_data.proofs.layout.Layout.item.Goals as goal

pub returns-in_err-number_of-clause-item : goal.returns-in_err-number_of-clause-item
returns-in_err-number_of-clause-item c =
    let none : first_item_number 0 c.self.inside.items c.args.name.now ≡ None = sym (c.self.invariant.1 c.args.name.now) ∙ sym c.number_of.ensures ∙ c.in_err-number_of.was in
    ap option_copied c.from_residual.ensures ∙ sym (not_found 0 c.self.inside.items c.args.name.now none)
    ∙ ap (λ (laid : Laid). find (λ item. is_this_name item.name c.args.name.now) laid.items) c.self.view_is

pub returns-clause-item : goal.returns-clause-item
returns-clause-item c =
    let at : first_item_number 0 c.self.inside.items c.args.name.now ≡ Some c.in_ok-number_of.field-0 = sym (c.self.invariant.1 c.args.name.now) ∙ sym c.number_of.ensures ∙ c.in_ok-number_of.was in
    c.get.ensures ∙ item-found c.in_ok-number_of.field-0 c.self.inside.items c.args.name.now at
    ∙ ap (λ (laid : Laid). find (λ item. is_this_name item.name c.args.name.now) laid.items) c.self.view_is
