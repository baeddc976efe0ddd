use Rattle.pw_blocks.proofs.SeatLemmas.{block_rises, seat_is}
use Rattle.pw_blocks.proofs.block_file.BlockFile.seek.Goals as goal

pub cut_at-requires-clause-rises : goal.cut_at-requires-clause-rises
cut_at-requires-clause-rises c =
    rw (c.from.ensures, c.contents-finger.ensures.records, ← c.self.view_is) (block_rises c.self.inside.key c.self.inside.blocks.items c.home-place.result c.self.invariant.file)

pub returns-clause-seat : goal.returns-clause-seat
returns-clause-seat c =
    let home = rw (← c.self.view_is) at c.home-place.ensures in
    let cut = rw (c.from.ensures, c.contents-finger.ensures.records, ← c.self.view_is) at c.cut_at.ensures in
    rw (← c.self.view_is) (seat_is c.self.inside.key c.self.inside.blocks.items c.home-place.result c.args.key.now c.cut_at.result home cut)
