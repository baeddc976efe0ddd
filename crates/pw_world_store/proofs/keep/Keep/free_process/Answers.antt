use Rattle.std.proofs.Common.{◌+◌, ◌∙◌, ℕ, ap, arith, sym}
use Rattle.std.specs.Prelude.{is_none, option_map, position}
use Rattle.pw_world_store.proofs.Posts.{jobs-is}
use Rattle.pw_world_store.proofs.Taking.{free-low, free-same}
use Rattle.pw_world_store.proofs.keep.Keep.free_process.Goals as goal

pub overflow_cast-result : goal.overflow_cast-result
overflow_cast-result g c =
    let low = rw (← c.self.view_is) at c.requires.class in
    let js = jobs-is c.self.inside.system c.self.inside.seats.items (g.D.Disc.told c.self.inside.disc) c.self.inside.classes c.self.inside.jobs.items c.self.inside.pairs.items c.args.class c.index.result.now c.self.invariant low c.index.ensures in
    let few = free-low c.self.inside.system c.self.inside.seats.items (g.D.Disc.told c.self.inside.disc) c.self.inside.classes c.self.inside.jobs.items c.self.inside.pairs.items c.args.class c.in-Some.place c.self.invariant low (ap (position is_none) js ∙ (sym c.free_place.ensures ∙ c.in-Some.is)) in
    omega (arith, few)

pub overflow_add-result : goal.overflow_add-result
overflow_add-result g c =
    let low = rw (← c.self.view_is) at c.requires.class in
    let js = jobs-is c.self.inside.system c.self.inside.seats.items (g.D.Disc.told c.self.inside.disc) c.self.inside.classes c.self.inside.jobs.items c.self.inside.pairs.items c.args.class c.index.result.now c.self.invariant low c.index.ensures in
    let few = free-low c.self.inside.system c.self.inside.seats.items (g.D.Disc.told c.self.inside.disc) c.self.inside.classes c.self.inside.jobs.items c.self.inside.pairs.items c.args.class c.in-Some.place c.self.invariant low (ap (position is_none) js ∙ (sym c.free_place.ensures ∙ c.in-Some.is)) in
    omega (arith, few)

pub returns-in-Some : goal.returns-in-Some
returns-in-Some g c =
    let low = rw (← c.self.view_is) at c.requires.class in
    let js = jobs-is c.self.inside.system c.self.inside.seats.items (g.D.Disc.told c.self.inside.disc) c.self.inside.classes c.self.inside.jobs.items c.self.inside.pairs.items c.args.class c.index.result.now c.self.invariant low c.index.ensures in
    let same = free-same c.self.inside.system c.self.inside.seats.items (g.D.Disc.told c.self.inside.disc) c.self.inside.classes c.self.inside.jobs.items c.self.inside.pairs.items c.args.class c.self.invariant low in
    rw (← c.self.view_is)
    (sym (ap (option_map (λ (k : ℕ). k + 1)) (sym same ∙ (ap (position is_none) js ∙ (sym c.free_place.ensures ∙ c.in-Some.is)))))

pub returns-in-None : goal.returns-in-None
returns-in-None g c =
    let low = rw (← c.self.view_is) at c.requires.class in
    let js = jobs-is c.self.inside.system c.self.inside.seats.items (g.D.Disc.told c.self.inside.disc) c.self.inside.classes c.self.inside.jobs.items c.self.inside.pairs.items c.args.class c.index.result.now c.self.invariant low c.index.ensures in
    let same = free-same c.self.inside.system c.self.inside.seats.items (g.D.Disc.told c.self.inside.disc) c.self.inside.classes c.self.inside.jobs.items c.self.inside.pairs.items c.args.class c.self.invariant low in
    rw (← c.self.view_is)
    (sym (ap (option_map (λ (k : ℕ). k + 1)) (sym same ∙ (ap (position is_none) js ∙ (sym c.free_place.ensures ∙ c.in-None.is)))))
