-- A field is behind the place or before it.
use Rattle.std.proofs.Common.{◌∙◌, ap, Bool, ◌&&◌}
use Rattle.std.specs.Prelude.{is_some}
use Rattle.std.specs.List.{position}
use Rattle.pw_code.specs.declared.field.Field.{Field}
use Rattle.pw_terminal.specs.Entries.{is_entry_field, is_value_for}
use Rattle.pw_terminal.proofs.EntryLemmas.{found_behind, found_in_front}
use Rattle.pw_terminal.proofs.entries.field_from.Goals as goal

pub returns-in-Some-clause-right : goal.returns-in-Some-clause-right
returns-in-Some-clause-right c =
    let p : Field → Bool = (λ field. is_entry_field c.args.name.now field && is_value_for field.shown c.args.value.now) in
    found_behind p c.args.start c.args.fields.now c.in-Some.place (c.in-Some.ensures.place ∙ ap (position p) c.split_at.ensures.back)

pub returns-in-None-clause-right : goal.returns-in-None-clause-right
returns-in-None-clause-right c =
    let p : Field → Bool = (λ field. is_entry_field c.args.name.now field && is_value_for field.shown c.args.value.now) in
    ap is_some (c.field_in-in-None.ensures.place ∙ ap (position p) c.split_at.ensures.front)
    ∙ found_in_front p c.args.start c.args.fields.now (c.in-None.ensures.place ∙ ap (position p) c.split_at.ensures.back)
