use Rattle.std.proofs.Common.{ap, arith, refl, sym, subst}
use Rattle.pw_code_meaning.specs.OfSystem.{behaviour}
use Rattle.pw_world.specs.States.{seen}
use Rattle.pw_world_model.specs.Worlds.{IsDiscOf}
use Rattle.pw_deck_runs.proofs.Outcomes.{ran-ended, ran-stopped}
use Rattle.pw_deck_runs.specs.recovery.Kept.{TrailState, told_in, trail_state}
use Rattle.pw_deck_runs.specs.recovery.Ran.{RanOverTrail}
use Rattle.pw_deck_runs.specs.declared.recovery.ending.Recovered.{Recovered}
use Rattle.pw_tmf.specs.Committed.{committed}
use Rattle.pw_tmf.specs.Tmf.{told_of}
use Rattle.pw_deck_runs.proofs.recovery.run.run_known.Goals as goal

pub run_over-requires-after_bounds : goal.run_over-requires-after_bounds
run_over-requires-after_bounds g c κs within =
    subst (IsDiscOf c.args.setup.system c.args.setup.script) (sym (ap told_in c.of-disc.ensures)) c.requires.disc

pub returns-in-Ended : goal.returns-in-Ended
returns-in-Ended g c =
    let leaves = rw c.in-Ended.is at c.in_ok-over.ensures in
    let last = c.trail_of.ensures in
    let records = committed (told_of c.trail_of.result.tmf) in
    record {
      ran =
          subst
          (λ (r : Recovered). RanOverTrail g.N.TrailNaming.files g.N.TrailNaming.before g.N.TrailNaming.life (behaviour c.args.setup.script c.args.setup.system) c.args.bounds.events r records)
          (sym c.of_ended.ensures)
          (ran-ended g.N.TrailNaming.files g.N.TrailNaming.before g.N.TrailNaming.life c.args.setup.system c.args.setup.script c.args.bounds.events
          (told_in c.of-disc.result).faults (seen told_in c.in-Ended.world) records leaves.0 last.run last.committed
          c.in-Ended.ended leaves.1);
      files = last.kept.files_are;
    }

pub returns-in-Failed : goal.returns-in-Failed
returns-in-Failed g c =
    let leaves = rw c.in-Failed.is at c.in_ok-over.ensures in
    let last = c.trail_of-in-Failed.ensures in
    let left = c.trail_of-in-Failed.result in
    let records = committed (told_of left.tmf) in
    let counts = ap (λ (s : TrailState _). (told_in s).faults) c.of-disc.ensures in
    record {
      ran =
          ran-stopped g.N.TrailNaming.files g.N.TrailNaming.before g.N.TrailNaming.life c.args.setup.system c.args.setup.script c.args.bounds.events
          (told_in c.of-disc.result).faults (seen told_in c.in-Failed.world) records leaves.0 last.run last.committed
          g.S.Synced.held g.S.Synced.images g.S.Synced.settled g.S.Synced.lasts (trail_state left.log.files left.log.disk left.log.is_broken left.faults left.tmf) last.kept last.told refl
          left.settled (omega (arith, counts, c.requires.faults)) leaves.1.0 leaves.1.1 last.room c.args.bounds.room last.commits;
      files = last.kept.files_are;
    }
