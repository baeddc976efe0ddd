-- The tokens that are counted, with those that are left in front of the end, are those in front of it.
use Rattle.std.proofs.Common.{◌≡◌, ◌+◌, length}
use Rattle.pw_divisions.specs.Steps.{size_up_to}
use Rattle.pw_divisions.specs.Divisions.{ends_text}
use Rattle.pw_divisions.proofs.steps.text_size.Given as goal

abbrev pub invariant-loop-ahead : goal.invariant-loop-ahead
invariant-loop-ahead l = record {
  text : l.ahead.text ≡ l.cursor.text;
  within : l.size + length l.ahead.tokens ≡ length l.cursor.tokens;
  so_far : l.size + size_up_to (ends_text l.in_data) l.ahead.text l.ahead.tokens ≡ size_up_to (ends_text l.in_data) l.cursor.text l.cursor.tokens;
}

abbrev pub decreases-loop-ahead : goal.decreases-loop-ahead
decreases-loop-ahead l = length l.ahead.tokens
