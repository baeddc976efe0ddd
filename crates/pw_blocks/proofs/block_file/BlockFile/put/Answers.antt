use Rattle.std.proofs.Common.{◌≡◌, ◌∙◌, ap, map}
use Rattle.pw_blocks.specs.Blocks.{first_key}
use Rattle.pw_blocks.proofs.SeatLemmas.{IsBlockFile-put}
use Rattle.pw_blocks.proofs.block_file.BlockFile.put.Goals as goal

pub invariant_of-self-then-place-len : goal.invariant_of-self-then-place-len
invariant_of-self-then-place-len c =
    let n = c.self.inside.key in
    let file = rw (← c.self.view_is) at c.requires.file in
    let keys : c.in_ok-index.index.items ≡ map (first_key n) c.args.blocks.items = c.in_ok-index.ensures ∙ ap (λ k. map (first_key k) c.deref.result.now) c.from.ensures ∙ ap (map (first_key n)) c.deref.ensures.value in
    rw (c.put_in_place.ensures, c.put_in_place-then-place-len.ensures, c.reserve.ensures.items, c.reserve-then-place-len.ensures.items)
    (IsBlockFile-put n c.self.inside.blocks.items c.args.place c.self.inside.index.items c.in_ok-index.index.items c.args.blocks.items c.self.invariant file c.requires.none_empty keys)
