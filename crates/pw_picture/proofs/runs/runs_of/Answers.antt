-- One run more is known.
use Rattle.std.proofs.Common.{◌≡◌, ◌≤◌, ◌∙◌, ap, length, arith, ◌++◌, replicate}
use Rattle.std.proofs.lemmas.List.{length-append, length-replicate}
use Rattle.pw_picture.specs.Symbols.{longest}
use Rattle.pw_picture.specs.Runs.{spread}
use Rattle.pw_picture.proofs.Counts.{run_joined}
use Rattle.pw_picture.proofs.RunLemmas.{spread_push}
use Rattle.pw_picture.proofs.runs.runs_of.Goals as goal

pub loop-rest-preserved : goal.loop-rest-preserved
loop-rest-preserved c =
    let room = rw c.in_ok-room.ensures.ok_part at c.checked_sub.ensures in
    let short : c.in_ok-run.run'.count ≤ longest = omega arith in
    let pushed : spread c.push.new.self ≡ spread c.loop-rest.runs ++ replicate c.in_ok-run.run'.count c.in_ok-run.run'.symbol =
    ap spread c.in_ok-push.ensures.ok ∙ spread_push c.loop-rest.runs c.in_ok-run.run' in
    record {
      known = run_joined _ _ _ _ _ c.loop-rest.invariant.known ((rw c.in_ok-run.ensures.ok_part at c.next_run.ensures.run) short) ∙ rw pushed;
      room_left = omega (arith, ap length pushed, length-append (spread c.loop-rest.runs), length-replicate c.in_ok-run.run'.count c.in_ok-run.run'.symbol);
    }
