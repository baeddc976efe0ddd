use Rattle.std.proofs.Common.{◌≡◌, ◌+◌, ◌≤◌, length}
use Rattle.pw_base.specs.Limits.{longest_input}
use Rattle.pw_sections.specs.Parts.{sections, IsAtSection}
use Rattle.pw_deck.specs.Parts.{sections_read}
use Rattle.pw_deck.proofs.sections.read_sections.Given as goal

abbrev pub invariant-loop-section : goal.invariant-loop-section
invariant-loop-section l = record {
  so_far : sections_read l.parts l.line (sections l.rest) ≡ sections_read l.fn.start l.first_line (sections l.text);
  at_section : IsAtSection l.rest;
  first : 1 ≤ l.line;
  within : l.line + length l.rest ≤ longest_input + 1;
}

abbrev pub decreases-loop-section : goal.decreases-loop-section
decreases-loop-section l = length l.rest
