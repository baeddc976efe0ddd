use Rattle.std.proofs.Common.{◌∙◌, ◌<◌, ℕ, List, ap, ap₂, length, subst, sym}
use Rattle.std.specs.Prelude.{All}
use Rattle.pw_code.specs.declared.system.System.{System}
use Rattle.pw_world_store.specs.Keeps.{kept_in}
use Rattle.pw_world_state.specs.Changes.{at_each, cancel, without_path}
use Rattle.pw_world_store.proofs.keep.Keep.lose_programs.Goals as goal

pub lose_paths-requires-clause-known : goal.lose_paths-requires-clause-known
lose_paths-requires-clause-known g c κs within =
    subst (λ (l : List ℕ). All (λ t. t < length c.cancel.new.self.system.terminals) l) (sym c.deref-2.ensures.value)
    (subst (λ (s : System). All (λ t. t < length s.terminals) c.in_ok-terminals.terminals.items) (sym c.cancel.ensures.system) c.in_ok-terminals.ensures.known)

pub returns-clause-ok : goal.returns-clause-ok
returns-clause-ok g c = record {
  system = c.lose_paths.ensures.system ∙ c.cancel.ensures.system;
  kept =
      c.lose_paths.ensures.kept
      ∙ (ap (at_each c.deref-2.result.now (λ t. without_path)) c.cancel.ensures.kept
      ∙ ap₂ (λ (a b : List ℕ). at_each a (λ t. without_path) (cancel b (kept_in g.D.Disc.told c.args.self.now)))
      (c.deref-2.ensures.value ∙ c.in_ok-terminals.ensures.terminals) (c.deref.ensures.value ∙ c.in_ok-terminals.ensures.terminals));
}
