use Rattle.std.proofs.Common.{◌≡◌, ◌≤◌, ◌∙◌, sym, ap, refl, arith, length, true, false, is_ge}
use Rattle.std.specs.Ordering.{is_lt}
use Rattle.std.specs.declared.cmp.Ordering.{Ordering}
use Rattle.std.specs.declared.cmp.Ordering.TheVariants.{Less, Equal, Greater}
use Rattle.pw_files.specs.Records.{compared}
use Rattle.pw_blocks.specs.Packing.{packed_all}
use Rattle.pw_blocks.proofs.PackingLemmas.{from_key-behind, from_key-here, from_key-end}
use Rattle.pw_blocks.proofs.packing.from_key.Goals as goal

-- what is not at least is less
is_lt-from_not_ge : (o : Ordering) → is_ge o ≡ false → is_lt o ≡ true
is_lt-from_not_ge Less h = refl
is_lt-from_not_ge Equal h = cc
is_lt-from_not_ge Greater h = cc

-- what is at least is not less
is_lt-from_ge : (o : Ordering) → is_ge o ≡ true → is_lt o ≡ false
is_lt-from_ge Less h = cc
is_lt-from_ge Equal h = refl
is_lt-from_ge Greater h = refl

pub loop-content-init : goal.loop-content-init
loop-content-init c = (omega arith, λ contents is. (contents, is, refl))

pub loop-content-preserved : goal.loop-content-preserved
loop-content-preserved c =
    let fewer : length c.in-Some.behind.now ≤ length c.args.bytes.now = omega (arith, c.loop-content.invariant.0, c.in-Some.ensures.shorter) in (
      fewer,
      λ contents is.
          let left = c.loop-content.invariant.1 contents is in
          let below : is_lt (compared c.args.key_length c.args.key.now c.in-Some.content.now) ≡ true = ap is_lt (sym c.compared.ensures) ∙ is_lt-from_not_ge c.compared.result (sym c.if-is_ge.ensures) in
          let more = from_key-behind c.args.key_length c.args.key.now (c.in-Some.content, c.in-Some.behind) left.0 (c.in-Some.ensures.first left.0 left.1) below in
          (more.0, more.1, more.2 ∙ left.2),
    )

pub returns-then-is_ge-clause-records : goal.returns-then-is_ge-clause-records
returns-then-is_ge-clause-records c = λ contents is.
    let left = c.loop-content.invariant.1 contents is in
    let here : is_lt (compared c.args.key_length c.args.key.now c.in-Some.content.now) ≡ false = ap is_lt (sym c.compared.ensures) ∙ is_lt-from_ge c.compared.result (sym c.if-is_ge.ensures) in
    left.1 ∙ ap packed_all (sym (from_key-here c.args.key_length c.args.key.now (c.in-Some.content, c.in-Some.behind) left.0 (c.in-Some.ensures.first left.0 left.1) here) ∙ left.2)

pub returns-in_default-clause-records : goal.returns-in_default-clause-records
returns-in_default-clause-records c = λ contents is.
    let left = c.loop-content.invariant.1 contents is in
    left.1 ∙ ap packed_all (sym (from_key-end c.args.key_length c.args.key.now left.0 (c.in_default.ensures.first left.0 left.1)) ∙ left.2)
