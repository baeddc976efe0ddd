-- The last one is put in, and what is left leads on.
use Rattle.std.proofs.Common.{◌≡◌, [], List, map, sym, ap, ◌∙◌, arith}
use Rattle.std.proofs.lemmas.List.{nil_from_length}
use Rattle.pw_pair.specs.Seats.{put_each}
use Rattle.pw_pair.specs.declared.backup.Held.{Held}
use Rattle.pw_pair.proofs.Moving.{put-next, put-none, sound-parts}
use Rattle.pw_pair.proofs.seats.Seats.put_all.Goals as goal

pub loop-held-preserved : goal.loop-held-preserved
loop-held-preserved c =
    let all = c.loop-held.images.items in
    let rest = c.pop.new.self.items in
    let held = c.in-Some.held in
    record {
      leads = put-next all rest held c.loop-held.self c.put_held.new.self c.in-Some.ensures.items c.put_held.ensures.seats ∙ c.loop-held.invariant.leads;
      sound = (sound-parts all rest held c.in-Some.ensures.items c.loop-held.invariant.sound).0;
      room =
          let used = c.put_held.ensures.used in
          let len = c.in-Some.ensures.len in
          let capacity = c.in-Some.ensures.capacity in
          let r = c.loop-held.invariant.room in
          omega (arith, used, len, capacity, r);
    }

pub returns-clause-seats : goal.returns-clause-seats
returns-clause-seats c =
    let none = c.in_default.ensures.cases in
    let len = c.loop-held.images.ok.0 in
    let nil : c.loop-held.images.items ≡ [] = nil_from_length c.loop-held.images.items (let n = none.0 in omega (arith, len, n)) in
    sym (put-none c.loop-held.self) ∙ ap (λ (l : List Held). map (put_each l) c.loop-held.self) (sym nil) ∙ c.loop-held.invariant.leads
