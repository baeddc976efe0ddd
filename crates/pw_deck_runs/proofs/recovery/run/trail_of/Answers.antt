use Rattle.std.proofs.Common.{◌∙◌, ap, sym, subst}
use Rattle.pw_deck_runs.specs.recovery.Kept.{IsKept, told_in}
use Rattle.pw_tmf.specs.Committed.{committed}
use Rattle.pw_tmf.specs.Told.{Told}
use Rattle.pw_deck_runs.proofs.recovery.run.trail_of.Goals as goal

pub returns : goal.returns
returns g c =
    let same = ap told_in c.into_trail.ensures.is in
    record {
      kept = subst (IsKept g.S.Synced.held g.S.Synced.images g.S.Synced.settled g.S.Synced.lasts g.N.TrailNaming.files
          g.N.TrailNaming.before g.N.TrailNaming.life) (sym c.into_trail.ensures.is) c.into_trail.ensures.keeps;
      told = same ∙ c.disc_of.ensures.told;
      committed = ap (λ (t : Told). committed t) same ∙ c.disc_of.ensures.committed;
      run = c.disc_of.ensures.run;
      room = c.disc_of.ensures.room;
      commits = c.disc_of.ensures.commits;
    }
