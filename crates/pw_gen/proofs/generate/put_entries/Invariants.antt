use Rattle.std.proofs.Common.{◌≡◌, ◌++◌, ◌-◌}
use Rattle.pw_gen.specs.Generated.{text_of, entry_lines, number_after}
use Rattle.pw_gen.proofs.generate.put_entries.Given as goal

abbrev pub invariant-loop-entry : goal.invariant-loop-entry
invariant-loop-entry l = record {
  lines : l.text ++ text_of (entry_lines (8 - l._entry) l.last) ≡ l.initial.text ++ text_of (entry_lines 8 l.number);
  number : number_after (8 - l._entry) l.last ≡ number_after 8 l.number;
}
