use Rattle.std.proofs.Common.{◌≡◌, ◌∙◌, List, ap, map, subst, sym}
use Rattle.std.specs.List.{list_any}
use Rattle.pw_base.proofs.Plain.{on-ok}
use Rattle.pw_world_store.specs.Keeps.{kept_in}
use Rattle.pw_world.proofs.Listing.{lost-grows}
use Rattle.pw_world.specs.States.{WorldState}
use Rattle.pw_world.specs.Touched.{Grows, asks_at}
use Rattle.pw_world_model.specs.Touches.{loses}
use Rattle.pw_pair.specs.Pairs.{SeenPair}
use Rattle.pw_pair.specs.declared.seat.BackupSeat.{BackupSeat}
use Rattle.pw_world.proofs.world.World.push_lost.Goals as goal

pub returns-then-loses : goal.returns-then-loses
returns-then-loses g c =
    let w : WorldState g.row.D.Denot = record { keep = c.self.inside.keep; first = c.self.inside.first.value; script = c.self.inside.script.lines; limit = c.self.inside.limit; failed = c.self.inside.failed; ledger = c.self.inside.ledger } in
    let kept = kept_in g.D.Disc.told w.keep in
    let p = c.args.tcp in
    let old = c.args.actors.now.items in
    let new = c.push_requests.new.actors.items in
    let seats : c.seats.result.now ≡ (kept.pairs p).seats = c.seats.ensures ∙ ap (λ (pair : SeenPair). pair.seats) c.pair-pair.ensures.pair in
    let lost = sym (c.if-loses.ensures ∙ ap (loses c.args.primary) (c.mode.ensures ∙ ap (λ (pair : SeenPair). pair.mode) c.pair-pair.ensures.pair)) in
    rw (← c.self.view_is)
    (λ line. on-ok c.push_requests.result (rw (← c.self.view_is) at c.push_requests.ensures) (λ grown.
    lost-grows g.D.Disc.told w c.self.invariant p c.args.primary line old new (rw (← c.self.view_is) at c.requires) lost
    (subst (λ (s : List BackupSeat). Grows w.keep.system (λ a. list_any (λ t. asks_at kept t a) (map (λ (x : BackupSeat). x.terminal) s)) old new) seats grown)))
