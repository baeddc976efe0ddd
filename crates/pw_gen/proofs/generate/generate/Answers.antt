use Rattle.pw_gen.specs.Parts.{commands, requester, server, stock, ending}
use Rattle.pw_gen.specs.Generated.{terminals_from, sections_from}
use Rattle.pw_gen.proofs.Texts.{all_parts}
use Rattle.pw_gen.proofs.generate.generate.Goals as goal

pub returns : goal.returns
returns c =
    all_parts c.new-text.result c.put_lines.new.text c.put_terminals.new.text c.put_lines-2.new.text c.put_lines-3.new.text c.put_lines-4.new.text c.put_sections.new.text c.put_lines-5.new.text
    commands (terminals_from c.args.terminals 1) requester server stock (sections_from c.args.terminals 1 c.args.seed) ending
    c.new-text.ensures c.in_ok-put_lines.ensures c.in_ok-put_terminals.ensures c.in_ok-put_lines-2.ensures c.in_ok-put_lines-3.ensures c.in_ok-put_lines-4.ensures c.in_ok-put_sections.ensures c.in_ok-put_lines-5.ensures
