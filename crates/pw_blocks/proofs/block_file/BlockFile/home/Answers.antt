use Rattle.std.proofs.Common.{◌≤◌, rules, arith, length, ap}
use Rattle.std.proofs.lemmas.Fn.{always_returns_same}
use Rattle.pw_blocks.proofs.HomeLemmas.{at_most, home_is, index_parts}
use Rattle.pw_blocks.proofs.block_file.BlockFile.home.Goals as goal

pub returns : goal.returns
returns c =
    let n = c.self.inside.key in
    let blocks = c.self.inside.blocks.items in
    let index = c.self.inside.index.items in
    let key = c.args.key.now in
    let file = c.self.invariant in
    let said = c.partition_point.ensures.partitioned (at_most n blocks index file key) (always_returns_same _ _ _ (λ a r f k. search rules)) in
    let parts = rw c.deref.ensures.value at said in
    let within : c.partition_point.result ≤ length index = omega (arith, c.partition_point.ensures.bound, ap length c.deref.ensures.value) in
    rw (c.saturating_sub.ensures, ← c.self.view_is) (home_is n blocks index file key c.partition_point.result within (parts (index_parts n blocks index file key)))
