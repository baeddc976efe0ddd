use Rattle.std.proofs.Common.{◌≡◌, ◌+◌, false, drop}
use Rattle.pw_sections.specs.Entries.{part_size}
use Rattle.pw_sections.proofs.entry.part_size.Given as goal

abbrev pub invariant-loop-byte : goal.invariant-loop-byte
invariant-loop-byte l = record {
  count : l.size ≡ l.byte-index;
  value : part_size false l.line ≡ l.byte-index + part_size l.in_text (drop l.byte-index l.line);
}
