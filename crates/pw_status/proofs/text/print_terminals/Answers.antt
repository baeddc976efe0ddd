use Rattle.std.proofs.Common.{◌≡◌, ◌∙◌, ℕ, List, ◌++◌, ap, arith, length, subst, sym}
use Rattle.pw_code.specs.declared.system.System.{System}
use Rattle.pw_status.specs.Text.{lines_to}
use Rattle.pw_status.proofs.Counted.{lines-more}
use Rattle.pw_status.proofs.Endings.{AreThere, endings-there}
use Rattle.pw_status.proofs.Telling.{terminal-told}
use Rattle.pw_status.specs.Lines.{terminal_of}
use Rattle.pw_status.specs.Watching.{watched}
use Rattle.pw_status.proofs.text.print_terminals.Goals as goal

pub print_terminal-requires-clause-ending : goal.print_terminal-requires-clause-ending
print_terminal-requires-clause-ending c =
    let w = c.args.world.now in
    let own = endings-there w.keep.system w.script c.holds.ensures.deck c.holds.ensures.lines w.ledger.log c.holds.ensures.run c.loop-terminal.terminal in
    subst (λ (s : System). AreThere s c.ending.result) (sym c.system-system.ensures.system)
    (subst (AreThere w.keep.system) (sym c.ending.ensures) own)

pub loop-terminal-preserved : goal.loop-terminal-preserved
loop-terminal-preserved c =
    let w = c.args.world.now in
    let watch = watched w in
    lines-more (terminal_of watch) c.loop-terminal.terminal c.args.text.now c.loop-terminal.text _ c.loop-terminal.invariant
    (c.in_ok-print_terminal.ensures ∙ ap (λ (line : List ℕ). c.loop-terminal.text ++ line)
    (terminal-told watch c.system-system.result.now c.system-system.ensures.system c.loop-terminal.terminal c.ending.result c.count_terminal-counts.result c.ending.ensures c.count_terminal-counts.ensures))

pub returns : goal.returns
returns c =
    let w = c.args.world.now in
    let system = ap (λ (s : System). length s.terminals) c.system-system.ensures.system in
    let end = c.len-terminal-end.ensures in
    let past = c.loop-terminal-test.false in
    let within = c.loop-terminal.auto.terminal-end in
    let all : c.loop-terminal.terminal ≡ length w.keep.system.terminals = omega (arith, system, end, past, within) in
    subst (λ (n : ℕ). c.loop-terminal.text ≡ c.args.text.now ++ lines_to (terminal_of (watched w)) n) all c.loop-terminal.invariant
