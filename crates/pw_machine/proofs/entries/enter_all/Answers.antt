-- The field that was found is one of the screen.
use Rattle.std.proofs.Common.{ℕ, Option, Bor, sym, ap, ◌∙◌, subst}
use Rattle.std.specs.Option.{option_copied}
use Rattle.pw_code.specs.Fields.{IsField}
use Rattle.pw_code.specs.declared.field.Field.{Field}
use Rattle.pw_machine.proofs.EntryLemmas.{found_in}
use Rattle.pw_machine.proofs.entries.enter_all.Goals as goal

pub enter_in-requires : goal.enter_in-requires
enter_in-requires c =
    subst (λ (n : ℕ). IsField n c.in-Some.field.now) (sym c.loop-name.auto.storage)
    (found_in (IsField _) _ c.args.fields.now c.in-Some.field.now c.requires (sym c.field_named.ensures ∙ ap (λ (r : Option (Bor Field)). option_copied r) c.in-Some.is))
