-- The name is fitted behind the words.
use Rattle.std.proofs.Common.{◌≡◌, ◌++◌, ◌∙◌, refl, ap, length, take, arith}
use Rattle.std.specs.Prelude.{codes}
use Rattle.pw_terminal.proofs.Written.{fitted_parts}
use Rattle.pw_terminal.proofs.entries.advise_field.Goals as goal

pub returns : goal.returns
returns c =
    let left : length c.split_at_mut-front.result.1.now ≡ 66 = omega (arith, c.split_at_mut-front.ensures.back_len) in
    c.message.ensures
    ∙ rw (c.copy_from_slice.ensures.after, c.move_text.ensures, left)
    (ap (λ row. take 1840 c.args.image.now ++ row) (fitted_parts (codes "INVALID FIELD ") c.args.name.now refl))
