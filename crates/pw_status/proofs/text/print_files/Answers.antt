use Rattle.std.proofs.Common.{◌≡◌, ◌∙◌, ℕ, List, ◌++◌, ap, arith, length, subst}
use Rattle.pw_code.specs.declared.system.System.{System}
use Rattle.pw_status.specs.Text.{lines_to}
use Rattle.pw_status.proofs.Counted.{lines-more}
use Rattle.pw_status.proofs.Telling.{file-told}
use Rattle.pw_status.specs.Lines.{file_of}
use Rattle.pw_status.specs.Watching.{watched}
use Rattle.pw_status.proofs.text.print_files.Goals as goal

pub loop-file-preserved : goal.loop-file-preserved
loop-file-preserved c =
    let w = c.args.world.now in
    let watch = watched w in
    let counts = c.in_ok-count_file.ensures in
    lines-more (file_of watch) c.loop-file.file c.args.text.now c.loop-file.text _ c.loop-file.invariant
    (c.in_ok-print_file.ensures ∙ ap (λ (line : List ℕ). c.loop-file.text ++ line)
    (file-told watch c.system-system.result.now c.system-system.ensures.system c.loop-file.file _ counts))

pub count_file-requires : goal.count_file-requires
count_file-requires c =
    let system = ap (λ (s : System). length s.files) c.system-system.ensures.system in omega (arith, system, c.len-file-end.ensures, c.loop-file-test.true)

pub returns : goal.returns
returns c =
    let w = c.args.world.now in
    let system = ap (λ (s : System). length s.files) c.system-system.ensures.system in
    let end = c.len-file-end.ensures in
    let past = c.loop-file-test.false in
    let within = c.loop-file.auto.file-end in
    let all : c.loop-file.file ≡ length w.keep.system.files = omega (arith, system, end, past, within) in
    subst (λ (n : ℕ). c.loop-file.text ≡ c.args.text.now ++ lines_to (file_of (watched w)) n) all c.loop-file.invariant
