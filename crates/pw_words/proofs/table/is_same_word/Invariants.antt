-- The two are one word where what is left of them is.
use Rattle.std.proofs.Common.{◌≡◌, drop}
use Rattle.pw_words.specs.Words.{same_word}
use Rattle.pw_words.proofs.table.is_same_word.Given as goal

abbrev pub invariant-loop-i : goal.invariant-loop-i
invariant-loop-i l = same_word (drop l.i l.a) (drop l.i l.b) ≡ same_word l.a l.b
