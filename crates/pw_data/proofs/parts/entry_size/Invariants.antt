-- The tokens that are counted, with those of the entry that are left, are its tokens.
use Rattle.std.proofs.Common.{◌≡◌, ◌+◌, length}
use Rattle.pw_data.specs.Parts.{entry_size}
use Rattle.pw_data.proofs.parts.entry_size.Given as goal

abbrev pub invariant-loop-token : goal.invariant-loop-token
invariant-loop-token l = record {
  text : l.ahead.text ≡ l.cursor.text;
  within : l.size + length l.ahead.tokens ≡ length l.cursor.tokens;
  so_far : l.size + entry_size l.ahead.text l.ahead.tokens ≡ entry_size l.cursor.text l.cursor.tokens;
}

abbrev pub decreases-loop-token : goal.decreases-loop-token
decreases-loop-token l = length l.ahead.tokens
