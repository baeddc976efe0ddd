use Rattle.std.proofs.Common.{ℕ, ◌<◌, ◌∙◌, get_or, length, subst, sym, arith}
use Rattle.std.proofs.lemmas.List.{get_or_default, length-set}
use Rattle.pw_world_store.proofs.Loops.{changed-more}
use Rattle.pw_world_store.specs.Seats.{seat_unit_over}
use Rattle.pw_world_store.proofs.each.end_units.Goals as goal

pub index_mut-requires : goal.index_mut-requires
index_mut-requires c =
    let low = c.requires c.loop-terminal.terminal-index 0 c.loop-terminal-test.true in
    let size = c.loop-terminal.invariant.size in
    let len = c.loop-terminal.seats.ok.0 in
    omega (arith, low, size, len)

pub loop-terminal-preserved : goal.loop-terminal-preserved
loop-terminal-preserved c =
    let i = c.loop-terminal.terminal-index in
    let terminals = c.args.terminals.now in
    let t : ℕ = get_or terminals i 0 in
    let low : t < length c.loop-terminal.seats.items = subst (λ n. t < n) (sym c.loop-terminal.invariant.size) (c.requires i 0 c.loop-terminal-test.true) in
    record {
      leads =
          changed-more (λ t. seat_unit_over) terminals i t c.loop-terminal.seats.items c.index_mut.result.now c.end_unit.new.self
          c.loop-terminal-test.true (get_or_default terminals i 0 t c.loop-terminal-test.true) low c.index_mut.ensures.value c.end_unit.ensures
          ∙ c.loop-terminal.invariant.leads;
      size = length-set c.loop-terminal.seats.items t c.end_unit.new.self ∙ c.loop-terminal.invariant.size;
    }
