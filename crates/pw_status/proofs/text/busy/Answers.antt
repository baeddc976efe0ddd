use Rattle.std.proofs.Common.{◌≡◌, ◌∙◌, ap, arith}
use Rattle.pw_code.specs.declared.system.ClassInfo.{ClassInfo}
use Rattle.pw_code.specs.declared.system.System.{System}
use Rattle.pw_status.specs.Counts.{busy_to}
use Rattle.pw_status.proofs.Counted.{busy-more, one-at-most}
use Rattle.pw_status.proofs.Telling.{processes-read}
use Rattle.pw_status.specs.Watching.{state_in, sys_in, watched}
use Rattle.pw_status.proofs.text.busy.Goals as goal

pub loop-process-preserved : goal.loop-process-preserved
loop-process-preserved c =
    let before = c.loop-process.invariant in
    record {
      is = busy-more (state_in (watched c.args.world.now)) c.args.class c.loop-process.process c.loop-process.busy c.with_one-busy.result c.worker.result c.is_some.result
          before.is c.worker.ensures c.is_some.ensures c.with_one-busy.ensures;
      few = one-at-most c.is_some.result c.loop-process.busy c.with_one-busy.result c.loop-process.process before.few c.with_one-busy.ensures;
    }

pub returns : goal.returns
returns c =
    let w = c.args.world.now in
    let watch = watched w in
    let count : c.index-as_slice-class.result.processes ≡ (sys_in watch).processes c.args.class =
    processes-read w.keep.system.classes c.as_slice.result.now c.args.class c.index-as_slice-class.result
    (c.as_slice.ensures ∙ ap (λ (s : System). s.classes) c.system.ensures.system) c.index-as_slice-class.is c.requires in
    let read = ap (λ (info : ClassInfo). info.processes) c.index-as_slice-class.is in
    let past = c.loop-process-test.false in
    let within = c.loop-process.auto.process-end in
    let all : c.loop-process.process ≡ (sys_in watch).processes c.args.class = omega (arith, count, read, past, within) in
    c.loop-process.invariant.is ∙ ap (busy_to (state_in watch) c.args.class) all
