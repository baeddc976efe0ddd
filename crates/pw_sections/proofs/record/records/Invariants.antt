use Rattle.std.proofs.Common.{◌≡◌, ◌+◌, ◌≤◌, length, map, take}
use Rattle.pw_sections.specs.Lines.{lines}
use Rattle.pw_sections.specs.Steps.{each_line}
use Rattle.pw_sections.specs.Records.{record_read, records_of_text}
use Rattle.pw_sections.proofs.record.records.Given as goal

abbrev pub invariant-loop-line : goal.invariant-loop-line
invariant-loop-line l = record {
  so_far : each_line (record_read l.key) l.number l.records (lines l.rest) ≡ records_of_text l.key l.text l.first_line;
  keys : map (λ key. key.now) l.keys.keys ≡ map (take l.key) l.records;
  number : l.number + length l.rest ≤ l.first_line + length l.text;
}

abbrev pub decreases-loop-line : goal.decreases-loop-line
decreases-loop-line l = length l.rest
