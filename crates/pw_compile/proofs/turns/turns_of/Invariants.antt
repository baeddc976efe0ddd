-- The turns so far, with those that are left, are all, and the places of the code so far fit.
use Rattle.std.proofs.Common.{◌≡◌, ◌+◌, ◌++◌, ◌<◌, ◌^◌, drop}
use Rattle.pw_compile.specs.Lengths.{instructions_of}
use Rattle.pw_compile.specs.Sizes.{turns_from}
use Rattle.pw_compile.proofs.turns.turns_of.Given as goal

abbrev pub invariant-loop-paragraph : goal.invariant-loop-paragraph
invariant-loop-paragraph l = record {
  turns : l.turns ++ turns_from l.at (drop l.paragraph-index l.paragraphs) ≡ turns_from 0 l.paragraphs;
  long : l.at + instructions_of (drop l.paragraph-index l.paragraphs) ≡ instructions_of l.paragraphs;
  fits : l.at < 2 ^ 32;
}
