use Rattle.std.proofs.Common.{subst, sym}
use Rattle.pw_world_store.specs.Keeps.{KeepState}
use Rattle.pw_tmf.specs.Units.{IsRunning}
use Rattle.pw_world_store.proofs.Operating.{alike, keep-disc}
use Rattle.pw_world_store.proofs.keep.Keep.operate.Goals as goal

pub operate-requires-clause-unit : goal.operate-requires-clause-unit
operate-requires-clause-unit g c =
    subst (λ (k : KeepState g.row.D.Denot). IsRunning (g.D.Disc.told k.disc) c.unit_for-unit.result) (sym c.self.view_is)
    (subst (IsRunning (g.D.Disc.told c.args.self.now.disc)) (sym (c.unit_for-unit.ensures c.requires)) c.requires.runs)

pub invariant_of-self : goal.invariant_of-self
invariant_of-self g c =
    keep-disc c.self.inside.system c.self.inside.seats.items (g.D.Disc.told c.self.inside.disc) (g.D.Disc.told c.operate.new.self) c.self.inside.classes c.self.inside.jobs.items c.self.inside.pairs.items
    c.self.invariant (alike c.operate.result (g.D.Disc.told c.self.inside.disc) c.unit_for-unit.result _ (g.D.Disc.told c.operate.new.self) c.operate.ensures)
