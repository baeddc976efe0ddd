use Rattle.std.proofs.Common.{◌≡◌, ◌+◌, length, sym, ap, ◌∙◌, arith}
use Rattle.pw_text.specs.Cursor.{Left}
use Rattle.pw_data.specs.Parts.{entry_size}
use Rattle.pw_data.proofs.Readings.{entry_size-none, next-shorter, size-ends, size-more, none-left}
use Rattle.pw_data.proofs.parts.entry_size.Goals as goal

pub returns-then-ends_entry-clause-value : goal.returns-then-ends_entry-clause-value
returns-then-ends_entry-clause-value c =
    let left = c.loop-token.ahead in
    let one : entry_size left.text left.tokens ≡ 1 =
    size-ends left.text c.in-Some.token c.next.new.self left.tokens c.in-Some.ensures.token c.next.ensures.left (sym c.ends_entry.ensures ∙ c.if-ends_entry.true) in
    omega (arith, one, c.loop-token.invariant.so_far)

pub loop-token-preserved : goal.loop-token-preserved
loop-token-preserved c =
    let left = c.loop-token.ahead in
    let more : entry_size left.text left.tokens ≡ 1 + entry_size c.next.new.self.text c.next.new.self.tokens =
    size-more left.text c.in-Some.token c.next.new.self left.tokens c.in-Some.ensures.token c.next.ensures.left (sym c.ends_entry.ensures ∙ c.if-ends_entry.false) in
    let shorter : length left.tokens ≡ 1 + length c.next.new.self.tokens = next-shorter left.text c.in-Some.token c.next.new.self left.tokens c.in-Some.ensures.token c.next.ensures.left in
    record {
      text = ap (λ (rest : Left). rest.text) c.next.ensures.left ∙ c.loop-token.invariant.text;
      within = omega (arith, shorter, c.loop-token.invariant.within);
      so_far = omega (arith, more, c.loop-token.invariant.so_far);
    }

pub returns-clause-value : goal.returns-clause-value
returns-clause-value c =
    let left = c.loop-token.ahead in
    omega (arith, entry_size-none left.text left.tokens (none-left left.tokens (sym c.in_default.is ∙ c.next.ensures.token)), c.loop-token.invariant.so_far)
