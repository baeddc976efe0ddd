use Rattle.std.proofs.Common.{◌≡◌, ◌≤◌, ◌+◌, All, length}
use Rattle.pw_text.specs.Tokens.{items_from, tokens_of, LieBetween, StandsOn}
use Rattle.pw_text.proofs.Steps.{finish}
use Rattle.pw_text.proofs.tokens.tokens.Given as goal

abbrev pub invariant-loop-rest : goal.invariant-loop-rest
invariant-loop-rest l = record {
  within : l.at + length l.rest ≡ length l.text;
  from : l.first_line ≤ l.line;
  line : l.line ≤ l.first_line + l.at;
  spans : LieBetween 0 l.tokens.items l.at;
  lines : All (StandsOn l.first_line (l.first_line + length l.text)) l.tokens.items;
  so_far : finish l.known l.tokens.items (items_from 0 l.place l.at l.line l.rest) ≡ tokens_of l.text l.first_line;
}

abbrev pub decreases-loop-rest : goal.decreases-loop-rest
decreases-loop-rest l = length l.rest
