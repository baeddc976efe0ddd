use Rattle.std.proofs.Common.{◌∙◌, refl, sym}
use Rattle.pw_world_store.proofs.Posts.{take-kept, take-post, take-there}
use Rattle.pw_world_store.proofs.keep.Keep.take.Goals as goal

pub put-requires : goal.put-requires
put-requires g c =
    take-there c.self.inside.system c.self.inside.seats.items (g.D.Disc.told c.self.inside.disc) c.self.inside.classes c.self.inside.jobs.items c.self.inside.pairs.items c.args.class c.in-Got.process c.in-Got.request c.index_mut.result.now c.self.invariant
    (rw (← c.self.view_is) at c.requires.class) (sym c.take.ensures.answer ∙ c.in-Got.is) c.index_mut.ensures.value

pub invariant_of-self : goal.invariant_of-self
invariant_of-self g c =
    take-post c.self.inside.system c.self.inside.seats.items (g.D.Disc.told c.self.inside.disc) c.self.inside.classes c.take.new.self c.self.inside.jobs.items c.self.inside.pairs.items c.args.class c.in-Got.process c.in-Got.request c.args.context c.index_mut.result.now c.put.new.self c.self.invariant
    (rw (← c.self.view_is) at c.requires.class) (sym c.take.ensures.answer ∙ c.in-Got.is) c.index_mut.ensures.value c.take.ensures.after c.put.ensures c.requires.fresh

pub returns-in-Got : goal.returns-in-Got
returns-in-Got g c = rw (← c.self.view_is) (record {
  system = refl;
  kept = take-kept c.self.inside.system c.self.inside.seats.items (g.D.Disc.told c.self.inside.disc) c.self.inside.classes c.take.new.self c.self.inside.jobs.items c.self.inside.pairs.items c.self.inside.births c.args.class c.in-Got.process c.in-Got.request c.args.context c.index_mut.result.now c.put.new.self c.self.invariant
      (rw (← c.self.view_is) at c.requires.class) (sym c.take.ensures.answer ∙ c.in-Got.is) c.index_mut.ensures.value c.take.ensures.after c.put.ensures;
})
