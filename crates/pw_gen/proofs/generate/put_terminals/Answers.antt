use Rattle.std.proofs.Common.{◌+◌, ◌-◌, ap, ◌∙◌, sym, ◌++◌}
use Rattle.pw_gen.specs.Generated.{text_of, terminal_lines, terminals_from}
use Rattle.pw_gen.proofs.Texts.{goes_on, comes_to, one_terminal, no_terminal}
use Rattle.pw_gen.proofs.generate.put_terminals.Goals as goal

pub loop-number-preserved : goal.loop-number-preserved
loop-number-preserved c =
    let i = c.loop-number.number in
    goes_on c.loop-number.text c.put_terminal.new.text _ (terminal_lines (i + 1)) (terminals_from (c.args.terminals - (i + 1)) (i + 1 + 1)) c.in_ok-put_terminal.ensures
    (ap (λ lines. c.loop-number.text ++ text_of lines) (sym (one_terminal c.args.terminals i c.loop-number-test.true)) ∙ c.loop-number.invariant)

pub returns : goal.returns
returns c = comes_to _ _ _ (no_terminal c.args.terminals c.loop-number.number _ c.loop-number-test.false) c.loop-number.invariant
