use Rattle.std.proofs.Common.{◌≡◌, ◌∷◌, ap, length, refl, List, arith}
use Rattle.pw_code.specs.declared.unit.Unit as unit
use Rattle.pw_tmf.specs.Tmf.{TmfState, told_of}
use Rattle.pw_tmf.specs.Units.{all_backed_out}
use Rattle.pw_tmf.proofs.BackedOut.{one-more}
use Rattle.pw_tmf.proofs.tmf.Tmf.back_out_settled.Goals as goal

pub loop-unit-preserved : goal.loop-unit-preserved
loop-unit-preserved c =
    let at = c.loop-unit.self-inside in
    let state : TmfState = record { rule = at.rule; files = at.files.items; pending = c.loop-unit.lists.items; locks = at.book; slots = at.slots.items; commits = at.commits } in
    let after : TmfState = record { rule = at.rule; files = at.files.items; pending = c.stop.new.lists.items; locks = c.stop.new.book; slots = c.stop.new.slots.items; commits = at.commits } in
    let u = c.in-Some.unit.now in
    let rest = c.in-Some.others.now in
    let left : List unit.Unit = c.loop-unit.left.now in
    let is : left ≡ u ∷ rest = c.in-Some.ensures.cases.0 in
    record {
      backing = one-more c.args.ends (all_backed_out c.args.ends (told_of c.args.self.now) c.args.units.now) state after u rest left is c.loop-unit.invariant.backing
          refl refl c.stop.ensures.lists c.stop.ensures.locks c.stop.ensures.slots refl;
      room = omega (arith, c.loop-unit.invariant.room, c.stop.ensures.room, c.stop.ensures.capacity, ap length is);
    }
