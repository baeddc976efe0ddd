use Rattle.std.proofs.Common.{ℕ, sym}
use Rattle.pw_event.proofs.Digits.{odd_none, no_text_none, parsed_is, parsed_none}
use Rattle.pw_event.proofs.fields.parsed.Goals as goal

pub returns-then-is_odd : goal.returns-then-is_odd
returns-then-is_odd c = odd_none c.args.word.now (sym c.if-is_odd.ensures)

pub returns-in_default : goal.returns-in_default
returns-in_default c = no_text_none c.args.word.now c.in_default.ensures.cases.0

pub returns-in-Ok-parse : goal.returns-in-Ok-parse
returns-in-Ok-parse c = parsed_is ℕ c.args.word.now c.in-Ok.text.now c.in-Ok-parse.number c.in-Ok.ensures.cases.0 (sym c.if-is_odd.ensures) c.in-Ok-parse.ensures.value.0

pub returns-in-Err : goal.returns-in-Err
returns-in-Err c = parsed_none _ c.args.word.now c.in-Ok.text.now c.in-Err.field-0 c.in-Ok.ensures.cases.0 (sym c.if-is_odd.ensures) c.in-Err.ensures.value.0
