use Rattle.std.proofs.Common.{◌≡◌, ◌∙◌, ℕ, List, ◌++◌, ap, arith, length, subst}
use Rattle.pw_code.specs.declared.system.System.{System}
use Rattle.pw_status.specs.Text.{lines_to}
use Rattle.pw_status.proofs.Counted.{lines-more}
use Rattle.pw_status.proofs.Telling.{class-told}
use Rattle.pw_status.specs.Lines.{class_watch_line}
use Rattle.pw_status.specs.Watching.{watched}
use Rattle.pw_status.proofs.text.print_classes.Goals as goal

pub loop-class-preserved : goal.loop-class-preserved
loop-class-preserved c =
    let w = c.args.world.now in
    let watch = watched w in
    lines-more (class_watch_line watch) c.loop-class.class c.args.text.now c.loop-class.text _ c.loop-class.invariant
    (c.in_ok-print_class.ensures ∙ ap (λ (line : List ℕ). c.loop-class.text ++ line)
    (class-told watch c.system-system.result.now c.system-system.ensures.system c.loop-class.class c.count_class-counts.result c.count_class-counts.ensures))

pub returns : goal.returns
returns c =
    let w = c.args.world.now in
    let system = ap (λ (s : System). length s.classes) c.system-system.ensures.system in
    let end = c.len-class-end.ensures in
    let past = c.loop-class-test.false in
    let within = c.loop-class.auto.class-end in
    let all : c.loop-class.class ≡ length w.keep.system.classes = omega (arith, system, end, past, within) in
    subst (λ (n : ℕ). c.loop-class.text ≡ c.args.text.now ++ lines_to (class_watch_line (watched w)) n) all c.loop-class.invariant
