use Rattle.std.proofs.Common.{◌-◌, ◌∙◌, List, Option, ap, subst, sym}
use Rattle.pw_world_store.specs.Keeps.{JobHasVerb, jobs_at}
use Rattle.pw_world_store.specs.Jobs.{job_in}
use Rattle.pw_world_store.specs.declared.job.ProcessJob.{ProcessJob}
use Rattle.pw_world_store.proofs.Posts.{from-one-at, jobs-is}
use Rattle.pw_world_store.proofs.keep.Keep.job.Goals as goal

pub returns-clause-verb : goal.returns-clause-verb
returns-clause-verb g c =
    let low = rw (← c.self.view_is) at c.requires.class in
    let js = jobs-is c.self.inside.system c.self.inside.seats.items (g.D.Disc.told c.self.inside.disc) c.self.inside.classes c.self.inside.jobs.items c.self.inside.pairs.items c.args.class c.index.result.now c.self.invariant low c.index.ensures in
    let is = from-one-at (jobs_at c.self.inside.jobs.items c.args.class) c.args.process c.requires.process ∙ (ap (λ (l : List (Option ProcessJob)). job_in l (c.args.process - 1)) js ∙ sym c.get.ensures) in
    rw (← c.self.view_is) (subst (JobHasVerb c.self.inside.system) is (c.self.invariant.job_verbs c.args.class c.args.process))
