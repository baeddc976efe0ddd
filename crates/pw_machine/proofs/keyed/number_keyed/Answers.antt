-- The low digits, with their sign, are moved as the whole number.
use Rattle.std.proofs.Common.{List, ℕ, ap, ◌∙◌}
use Rattle.pw_terminal.specs.Shown.{written}
use Rattle.pw_machine.proofs.KeyedLemmas.{number_moved}
use Rattle.pw_machine.proofs.keyed.number_keyed.Goals as goal

pub returns : goal.returns
returns c =
    c.number_to.ensures
    ∙ ap (λ (l : List ℕ). written c.args.at l c.args.storage.now)
    (number_moved c.args.value.now c.args.digits c.args.places c.low_digits-digits_kept.result c.args.signed c.is_below_zero.result c.number_with-number.result
    c.number_with-number.ensures c.is_below_zero.ensures c.low_digits-digits_kept.ensures.digits)
