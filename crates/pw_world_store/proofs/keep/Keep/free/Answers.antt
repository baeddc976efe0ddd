use Rattle.std.proofs.Common.{refl}
use Rattle.pw_world_store.proofs.Posts.{free-kept, free-post, free-there}
use Rattle.pw_world_store.proofs.keep.Keep.free.Goals as goal

pub put-requires : goal.put-requires
put-requires g c =
    free-there c.self.inside.system c.self.inside.seats.items (g.D.Disc.told c.self.inside.disc) c.self.inside.classes c.self.inside.jobs.items c.self.inside.pairs.items c.args.class c.args.process c.index_mut.result.now c.self.invariant
    (rw (← c.self.view_is) at c.requires.class) (rw (← c.self.view_is) at c.requires.busy) c.index_mut.ensures.value

pub invariant_of-self : goal.invariant_of-self
invariant_of-self g c =
    free-post c.self.inside.system c.self.inside.seats.items (g.D.Disc.told c.self.inside.disc) c.self.inside.classes c.reply.new.self c.self.inside.jobs.items c.self.inside.pairs.items c.args.class c.args.process c.index_mut.result.now c.put.new.self c.self.invariant
    (rw (← c.self.view_is) at c.requires.class) (rw (← c.self.view_is) at c.requires.busy) c.index_mut.ensures.value c.reply.ensures.after c.put.ensures

pub returns : goal.returns
returns g c = rw (← c.self.view_is) (record {
  system = refl;
  kept = free-kept c.self.inside.system c.self.inside.seats.items (g.D.Disc.told c.self.inside.disc) c.self.inside.classes c.reply.new.self c.self.inside.jobs.items c.self.inside.pairs.items c.self.inside.births c.args.class c.args.process c.index_mut.result.now c.put.new.self c.self.invariant
      (rw (← c.self.view_is) at c.requires.class) (rw (← c.self.view_is) at c.requires.busy) c.index_mut.ensures.value c.reply.ensures.after c.put.ensures;
})
