use Rattle.std.proofs.Common.{◌≢◌, ◌+◌, ◌%◌, ◌∙◌, arith, length, sym}
use Rattle.std.proofs.lemmas.Bool.{eq-eqb, eqb-false, eqb-true, ne_eqb}
use Rattle.pw_log_lines.proofs.Numbered.{last-digit, lone-digit, no-digits, no-lone-digit, other-digit}
use Rattle.pw_log_lines.proofs.log.+is_number.Goals as goal

pub returns-in_default : goal.returns-in_default
returns-in_default t c = no-digits c.args.word.now c.args.n c.in_default.ensures.cases (omega arith)

pub returns-then-is_empty : goal.returns-then-is_empty
returns-then-is_empty t c =
    lone-digit c.args.word.now c.in-Some.front.now c.in-Some.last.now c.args.n c.in-Some.ensures.cases.0 c.if-n-lt10.true
    (eqb-true (length c.in-Some.front.now) 0 (sym c.is_empty.ensures ∙ c.if-is_empty.true))

pub returns-else-is_empty : goal.returns-else-is_empty
returns-else-is_empty t c =
    let some : length c.in-Some.front.now ≢ 0 = eqb-false (length c.in-Some.front.now) 0 (sym c.is_empty.ensures ∙ c.if-is_empty.false) in
    c.if-is_empty.false
    ∙ no-lone-digit c.args.word.now c.in-Some.front.now c.in-Some.last.now c.args.n c.in-Some.ensures.cases.0 c.if-n-lt10.true (omega arith)

pub returns-then-last-n : goal.returns-then-last-n
returns-then-last-n t c = c.is_number.ensures ∙ last-digit c.args.word.now c.in-Some.front.now c.in-Some.last.now c.args.n c.in-Some.ensures.cases.0 c.if-n-lt10.false (omega arith) (eq-eqb c.in-Some.last.now (48 + c.args.n % 10) c.if-last-n.true)

pub returns-else-last-n : goal.returns-else-last-n
returns-else-last-n t c = other-digit c.args.word.now c.in-Some.front.now c.in-Some.last.now c.args.n c.in-Some.ensures.cases.0 c.if-n-lt10.false (omega arith) (ne_eqb c.in-Some.last.now (48 + c.args.n % 10) c.if-last-n.false)
