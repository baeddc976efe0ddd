use Rattle.std.proofs.Common.{◌≡◌, drop, map}
use Rattle.pw_expand.specs.Numbers.{counts_in}
use Rattle.pw_expand.proofs.Counts.{with_rest}
use Rattle.pw_expand.proofs.number.counts_in.Given as goal

-- the numbers so far, and those of the words that are left
abbrev pub invariant-loop-word : goal.invariant-loop-word
invariant-loop-word l = with_rest l.counts.items (drop l.word-index l.words) ≡ counts_in (map (λ word. word.now) l.words)
