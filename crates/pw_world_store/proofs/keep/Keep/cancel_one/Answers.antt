use Rattle.std.proofs.Common.{◌∙◌, List, map, Option, ap₂, refl, subst, sym}
use Rattle.pw_class.specs.Queue.{Queue, without}
use Rattle.pw_world_store.specs.Keeps.{IsKeep, kept_by}
use Rattle.pw_world_store.specs.declared.job.ProcessJob.{ProcessJob}
use Rattle.pw_world_store.proofs.Cancelling.{keep-cancelled, kept-cancelled}
use Rattle.pw_world_store.proofs.keep.Keep.cancel_one.Goals as goal

pub invariant_of-self : goal.invariant_of-self
invariant_of-self g c =
    subst (λ (book : List Queue). IsKeep c.self.inside.system c.self.inside.seats.items (g.D.Disc.told c.self.inside.disc) book c.drop_jobs.new.jobs.items c.self.inside.pairs.items)
    (sym c.cancel.ensures)
    (subst (λ (jobs : List (List (Option ProcessJob))). IsKeep c.self.inside.system c.self.inside.seats.items (g.D.Disc.told c.self.inside.disc) (map (without c.args.terminal) c.self.inside.classes) jobs c.self.inside.pairs.items)
    (sym c.drop_jobs.ensures)
    (keep-cancelled c.self.inside.system c.self.inside.seats.items (g.D.Disc.told c.self.inside.disc) c.self.inside.classes c.self.inside.jobs.items c.self.inside.pairs.items c.args.terminal c.self.invariant))

pub returns : goal.returns
returns g c = rw (← c.self.view_is) (record {
  system = refl;
  kept =
      ap₂ (λ (book : List Queue) (jobs : List (List (Option ProcessJob))). kept_by c.self.inside.seats.items (g.D.Disc.told c.self.inside.disc) book jobs c.self.inside.pairs.items c.self.inside.births)
      c.cancel.ensures c.drop_jobs.ensures
      ∙ kept-cancelled c.self.inside.system c.self.inside.seats.items (g.D.Disc.told c.self.inside.disc) c.self.inside.classes c.self.inside.jobs.items c.self.inside.pairs.items c.self.inside.births c.args.terminal c.self.invariant;
})
