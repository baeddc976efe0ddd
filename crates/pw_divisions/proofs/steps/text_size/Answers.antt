use Rattle.std.proofs.Common.{◌≡◌, ◌+◌, ◌<◌, length, sym, ap, ◌∙◌, arith}
use Rattle.std.proofs.lemmas.Bool.{eqb-true}
use Rattle.pw_base.proofs.Plain.{some_left}
use Rattle.pw_text.specs.Cursor.{Left}
use Rattle.pw_divisions.specs.Steps.{size_up_to}
use Rattle.pw_divisions.specs.Divisions.{ends_text}
use Rattle.pw_divisions.proofs.Texts.{size-ends, size-none, size-more, behind-shorter}
use Rattle.pw_divisions.proofs.steps.text_size.Goals as goal

pub returns-then-ends_text-clause-value : goal.returns-then-ends_text-clause-value
returns-then-ends_text-clause-value c =
    let left = c.loop-ahead.ahead in
    let none : size_up_to (ends_text c.args.in_data) left.text left.tokens ≡ 0 =
    size-ends (ends_text c.args.in_data) left.text left.tokens (sym c.ends_text.ensures ∙ c.if-ends_text.true) in
    omega (arith, none, c.loop-ahead.invariant.so_far)

pub loop-ahead-preserved : goal.loop-ahead-preserved
loop-ahead-preserved c =
    let left = c.loop-ahead.ahead in
    let rest = c.next-token.new.self in
    let some : 0 < length left.tokens = some_left left.tokens c.loop-ahead-test.ensures in
    let more : size_up_to (ends_text c.args.in_data) left.text left.tokens ≡ 1 + size_up_to (ends_text c.args.in_data) rest.text rest.tokens =
    size-more (ends_text c.args.in_data) left.text left.tokens rest some (sym c.ends_text.ensures ∙ c.if-ends_text.false) c.next-token.ensures.left in
    let shorter : length left.tokens ≡ 1 + length rest.tokens = behind-shorter left.text left.tokens rest some c.next-token.ensures.left in
    record {
      text = ap (λ (l : Left). l.text) c.next-token.ensures.left ∙ c.loop-ahead.invariant.text;
      within = omega (arith, shorter, c.loop-ahead.invariant.within);
      so_far = omega (arith, more, c.loop-ahead.invariant.so_far);
    }

pub returns-clause-value : goal.returns-clause-value
returns-clause-value c =
    let left = c.loop-ahead.ahead in
    let none : length left.tokens ≡ 0 = eqb-true (length left.tokens) 0 (sym c.loop-ahead-test.ensures) in
    omega (arith, size-none (ends_text c.args.in_data) left.text left.tokens none, c.loop-ahead.invariant.so_far)
