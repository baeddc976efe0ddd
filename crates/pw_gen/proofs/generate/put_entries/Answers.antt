use Rattle.std.proofs.Common.{◌+◌, ◌-◌, [], ◌∷◌, ap, ◌∙◌, sym, ◌++◌}
use Rattle.pw_gen.specs.Generated.{text_of, next_number, entry_line, entry_lines}
use Rattle.pw_gen.proofs.Texts.{goes_on, comes_to, one_entry, no_entry, one_number, no_number}
use Rattle.pw_gen.proofs.generate.put_entries.Goals as goal

pub loop-entry-preserved : goal.loop-entry-preserved
loop-entry-preserved c =
    let i = c.loop-entry._entry in
    let x = c.loop-entry.last in
    rw c.next_number-last.ensures.value (record {
      lines = goes_on c.loop-entry.text c.put_entry.new.text _ (entry_line (next_number x) ∷ []) (entry_lines (8 - (i + 1)) (next_number x))
          (rw (← c.next_number-last.ensures.value) (c.in_ok-put_entry.ensures))
          (ap (λ lines. c.loop-entry.text ++ text_of lines) (sym (one_entry 8 i x c.loop-entry-test.true)) ∙ c.loop-entry.invariant.lines);
      number = sym (one_number 8 i x c.loop-entry-test.true) ∙ c.loop-entry.invariant.number;
    })

pub returns-clause-lines : goal.returns-clause-lines
returns-clause-lines c = comes_to _ _ _ (no_entry 8 c.loop-entry._entry _ c.loop-entry-test.false) c.loop-entry.invariant.lines

pub returns-clause-number : goal.returns-clause-number
returns-clause-number c = sym (no_number 8 c.loop-entry._entry _ c.loop-entry-test.false) ∙ c.loop-entry.invariant.number
