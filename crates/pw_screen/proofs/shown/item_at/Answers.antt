use Rattle.std.proofs.Common.{Option, sym, subst, ◌∙◌}
use Rattle.std.specs.Prelude.{IfSome}
use Rattle.pw_data.specs.declared.item.Place.{Place}
use Rattle.pw_data.specs.Layouts.{PlaceEndsBy, PlaceFitsPicture}
use Rattle.pw_screen.proofs.Sound.{item-sound}
use Rattle.pw_screen.proofs.shown.item_at.Goals as goal

pub returns-then-is_source_of-clause-sound : goal.returns-then-is_source_of-clause-sound
returns-then-is_source_of-clause-sound c = λ storage ends.
    let Fits : Option Place → Type 0 = λ o. IfSome o PlaceFitsPicture in
    let Ends : Option Place → Type 0 = λ o. IfSome o (PlaceEndsBy storage) in
    item-sound c.args.picture c.in_ok-source.source c.in_ok-at.field-0 c.args.one.show c.args.one.takes storage
    c.requires.picture c.in_ok-source.was (subst Fits c.in_ok-at.was c.requires.source) c.if-occurs-eq0.true
    (sym c.is_source_of.ensures ∙ c.if-is_source_of.true) c.requires.serves (subst Ends c.in_ok-at.was ends)
