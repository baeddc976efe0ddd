use Rattle.std.proofs.Common.{◌∙◌, ◌+◌, ℕ, ap, drop, get_or, sym}
use Rattle.std.proofs.lemmas.List.{drop_all, get_or_default}
use Rattle.pw_world_store.specs.Keeps.{kept_in}
use Rattle.pw_world_state.specs.Changes.{cancel}
use Rattle.pw_world_store.proofs.Cancelling.{cancel-next}
use Rattle.pw_world_store.proofs.Loops.{left-is}
use Rattle.pw_world_store.proofs.keep.Keep.cancel.Goals as goal

pub loop-terminal-preserved : goal.loop-terminal-preserved
loop-terminal-preserved g c =
    let i = c.loop-terminal.terminal-index in
    let terminals = c.args.terminals.now in
    let t : ℕ = get_or terminals i 0 in
    let kept = kept_in g.D.Disc.told c.loop-terminal.self in
    record {
      system = c.cancel_one.ensures.system ∙ c.loop-terminal.invariant.system;
      leads =
          ap (cancel (drop (i + 1) terminals)) c.cancel_one.ensures.kept
          ∙ (sym (ap (λ l. cancel l kept) (left-is terminals i t c.loop-terminal-test.true (get_or_default terminals i 0 t c.loop-terminal-test.true))
          ∙ cancel-next t (drop (i + 1) terminals) kept)
          ∙ c.loop-terminal.invariant.leads);
    }

pub returns : goal.returns
returns g c = record {
  system = c.loop-terminal.invariant.system;
  kept =
      sym (ap (λ l. cancel l (kept_in g.D.Disc.told c.loop-terminal.self)) (drop_all c.loop-terminal.terminal-index c.args.terminals.now c.loop-terminal-test.false))
      ∙ c.loop-terminal.invariant.leads;
}
