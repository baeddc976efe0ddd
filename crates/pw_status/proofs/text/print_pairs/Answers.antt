use Rattle.std.proofs.Common.{◌≡◌, ◌∙◌, ℕ, List, ◌++◌, ap, arith, length, subst}
use Rattle.pw_code.specs.declared.system.System.{System}
use Rattle.pw_status.specs.Text.{lines_to}
use Rattle.pw_status.proofs.Counted.{lines-more}
use Rattle.pw_status.proofs.Telling.{pair-told}
use Rattle.pw_status.specs.Lines.{pair_watch_line}
use Rattle.pw_status.specs.Watching.{watched}
use Rattle.pw_status.proofs.text.print_pairs.Goals as goal

pub loop-tcp-preserved : goal.loop-tcp-preserved
loop-tcp-preserved c =
    let w = c.args.world.now in
    let watch = watched w in
    lines-more (pair_watch_line watch) c.loop-tcp.tcp c.args.text.now c.loop-tcp.text _ c.loop-tcp.invariant
    (c.in_ok-print_pair.ensures ∙ ap (λ (line : List ℕ). c.loop-tcp.text ++ line)
    (pair-told watch c.system-system.result.now c.system-system.ensures.system c.loop-tcp.tcp c.mode.result c.mode.ensures))

pub returns : goal.returns
returns c =
    let w = c.args.world.now in
    let system = ap (λ (s : System). length s.tcps) c.system-system.ensures.system in
    let end = c.len-tcp-end.ensures in
    let past = c.loop-tcp-test.false in
    let within = c.loop-tcp.auto.tcp-end in
    let all : c.loop-tcp.tcp ≡ length w.keep.system.tcps = omega (arith, system, end, past, within) in
    subst (λ (n : ℕ). c.loop-tcp.text ≡ c.args.text.now ++ lines_to (pair_watch_line (watched w)) n) all c.loop-tcp.invariant
