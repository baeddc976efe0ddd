use Rattle.std.proofs.Common.{◌≡◌, true, false, nat_le, length, Some, refl, sym, ap, ◌∙◌, arith}
use Rattle.std.proofs.lemmas.Bool.Decides.{nat_tests}
use Rattle.pw_code.specs.Limits.{most_pairs}
use Rattle.pw_words.specs.Names.{has_name}
use Rattle.pw_sections.proofs.Named.{has-by, with-by}
use Rattle.pw_sections.proofs.pairs.Pairs.with.Goals as goal

pub returns-then-branch : goal.returns-then-branch
returns-then-branch c =
    let taken : true ≡ has_name c.self.inside.names c.args.pair.0 =
    sym c.if-branch.true ∙ c.in_ok-put.ensures.taken ∙ ap (has_name c.self.inside.names) (c.in_ok-name.ensures.items ∙ c.as_slice.ensures) in
    rw (← c.self.view_is)
    (sym (with-by c.self.inside.fields c.args.pair true (nat_le most_pairs (length c.self.inside.fields))
    (has-by c.self.inside.fields c.self.inside.names c.args.pair.0 true c.self.invariant.named taken) refl))

pub returns : goal.returns
returns c =
    let new : false ≡ has_name c.self.inside.names c.args.pair.0 =
    sym c.if-branch.false ∙ c.in_ok-put.ensures.taken ∙ ap (has_name c.self.inside.names) (c.in_ok-name.ensures.items ∙ c.as_slice.ensures) in
    let room : nat_le most_pairs (length c.self.inside.fields) ≡ false = grind (arith, nat_tests) in
    rw (← c.self.view_is)
    (ap (λ pairs. Some pairs) c.in_ok-push.ensures.ok
    ∙ sym (with-by c.self.inside.fields c.args.pair false false
    (has-by c.self.inside.fields c.self.inside.names c.args.pair.0 false c.self.invariant.named new) room))
