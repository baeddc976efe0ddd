use Rattle.std.proofs.Common.{◌<◌, ◌-◌, List, Option, None, refl, subst, length}
use Rattle.pw_world_store.specs.declared.job.ProcessJob.{ProcessJob}
use Rattle.pw_world_store.proofs.Posts.{go-on, go-on-kept, jobs-is, post-there}
use Rattle.pw_world_store.proofs.keep.Keep.answer_job.Goals as goal

pub go_on-requires : goal.go_on-requires
go_on-requires g c =
    let low = rw (← c.self.view_is) at c.requires.class in
    let busy = rw (← c.self.view_is) at c.requires.busy in
    let there = post-there c.self.inside.system c.self.inside.seats.items (g.D.Disc.told c.self.inside.disc) c.self.inside.classes c.self.inside.jobs.items c.self.inside.pairs.items c.args.class c.args.process c.self.invariant low busy in
    subst (λ (js : List (Option ProcessJob)). c.args.process - 1 < length js)
    (jobs-is c.self.inside.system c.self.inside.seats.items (g.D.Disc.told c.self.inside.disc) c.self.inside.classes c.self.inside.jobs.items c.self.inside.pairs.items c.args.class c.index_mut.result.now c.self.invariant low c.index_mut.ensures.value) there.1

pub invariant_of-self : goal.invariant_of-self
invariant_of-self g c =
    let low = rw (← c.self.view_is) at c.requires.class in
    let busy = rw (← c.self.view_is) at c.requires.busy in
    go-on c.self.inside.system c.self.inside.seats.items (g.D.Disc.told c.self.inside.disc) c.self.inside.classes c.self.inside.jobs.items c.self.inside.pairs.items c.args.class c.args.process c.index_mut.result.now c.go_on.new.self None c.args.context
    c.self.invariant low busy c.index_mut.ensures.value c.go_on.ensures c.requires.answered

pub returns : goal.returns
returns g c =
    let low = rw (← c.self.view_is) at c.requires.class in
    let busy = rw (← c.self.view_is) at c.requires.busy in
    rw (← c.self.view_is) (record {
      system = refl;
      kept = go-on-kept c.self.inside.system c.self.inside.seats.items (g.D.Disc.told c.self.inside.disc) c.self.inside.classes c.self.inside.jobs.items c.self.inside.pairs.items c.self.inside.births c.args.class c.args.process c.index_mut.result.now c.go_on.new.self None c.args.context
          c.self.invariant low busy c.index_mut.ensures.value c.go_on.ensures;
    })
