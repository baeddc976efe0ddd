use Rattle.std.proofs.Common.{◌+◌, ◌-◌, [], ◌∷◌, ap, ◌∙◌, sym, ◌++◌}
use Rattle.pw_gen.specs.Generated.{text_of, section_line, entry_lines, number_after, sections_from}
use Rattle.pw_gen.proofs.Texts.{goes_on, comes_to, one_section, no_section}
use Rattle.pw_gen.proofs.generate.put_sections.Goals as goal

pub loop-terminal-preserved : goal.loop-terminal-preserved
loop-terminal-preserved c =
    let i = c.loop-terminal.terminal in
    let x = c.loop-terminal.number in
    let rest = sections_from (c.args.terminals - (i + 1)) (i + 1 + 1) (number_after 8 x) in
    let all = ap (λ lines. c.loop-terminal.text ++ text_of lines) (sym (one_section c.args.terminals i x c.loop-terminal-test.true)) ∙ c.loop-terminal.invariant in
    let headed = goes_on c.loop-terminal.text c.put_heading.new.text _ (section_line (i + 1) ∷ []) (entry_lines 8 x ++ rest) c.in_ok-put_heading.ensures all in
    rw c.in_ok-number.ensures.number (goes_on c.put_heading.new.text c.put_entries.new.text _ (entry_lines 8 x) rest c.in_ok-number.ensures.lines headed)

pub returns : goal.returns
returns c = comes_to _ _ _ (no_section c.args.terminals c.loop-terminal.terminal _ _ c.loop-terminal-test.false) c.loop-terminal.invariant
