use Rattle.std.proofs.Common.{◌≡◌, ◌∙◌, ℕ, List, [], ◌∷◌, ap, length, length-append, arith}
use Rattle.pw_code.specs.declared.system.System.{System}
use Rattle.pw_report_text.specs.Listing.{records_in}
use Rattle.pw_world.specs.States.{seen}
use Rattle.pw_world_model.specs.Seen.{state_of, sys_of}
use Rattle.pw_paired.specs.Units.{committed_files}
use Rattle.pw_report.proofs.Committing.{filed, images-there}
use Rattle.pw_report.proofs.report.files.Goals as goal

pub loop-file-preserved : goal.loop-file-preserved
loop-file-preserved g c =
    let world = seen g.D.Disc.told c.args.world.now in
    let sys = sys_of world in
    let files : List (List (List ℕ)) = c.loop-file.files.items in
    let records : List (List ℕ) = c.from_vec.result in
    let items = c.in_ok-push.ensures.items in
    let more = length-append files (records ∷ []) in
    let all = ap length items in
    let count = c.loop-file.invariant.count in
    let leaves = c.run_laws.ensures.leaves sys c.holds.ensures.deck world.log c.holds.ensures.run in
    let knows = c.run_laws.ensures.knows sys c.holds.ensures.deck world.log c.holds.ensures.run in
    let tells = c.holds.ensures.stands.disc in
    let there = images-there sys (state_of world) world.kept.disc tells knows c.holds.ensures.terminals in
    let same = c.committed_laws.ensures sys (state_of world) world.kept.disc tells leaves.keyed leaves.single there in
    let own : records ≡ committed_files sys (state_of world) c.loop-file.file =
    c.from_vec.ensures ∙ (c.in_ok-records.ensures ∙ ap (λ (of_file : ℕ → List (List ℕ)). of_file c.loop-file.file) same) in
    record {
      count = omega (arith, more, all, count);
      records = λ f low.
          ap (λ (all : List (List (List ℕ))). records_in all f) items
          ∙ filed files records c.loop-file.file (committed_files sys (state_of world)) count c.loop-file.invariant.records own f low;
    }

pub returns : goal.returns
returns g c =
    let system = ap (λ (s : System). length s.files) c.system.ensures.system in
    let end = c.len-file-end.ensures in
    let past = c.loop-file-test.false in
    let within = c.loop-file.auto.file-end in
    let count = c.loop-file.invariant.count in
    record {
      count = omega (arith, system, end, past, within, count);
      records = λ f low. c.loop-file.invariant.records f (omega (arith, system, end, past, low));
    }
