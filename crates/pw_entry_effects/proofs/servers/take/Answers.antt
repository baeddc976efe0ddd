use Rattle.std.proofs.Common.{◌∙◌, ℕ, ap, ap₂, rules}
use Rattle.std.specs.Prelude.{slice_get}
use Rattle.pw_code.specs.declared.context.Context.{Context}
use Rattle.pw_world_store.specs.Keeps.{kept_in}
use Rattle.pw_world_state.specs.Changes.{kept_take}
use Rattle.pw_world_state.specs.Kept.{Kept}
use Rattle.pw_entry_effects.proofs.Taking.{may-be-taken, started-fresh, taker-is}
use Rattle.pw_entry_effects.proofs.servers.take.Goals as goal

pub take-requires-clause-ready : goal.take-requires-clause-ready
take-requires-clause-ready g c =
    let h = may-be-taken (kept_in g.D.Disc.told c.args.keep.now) c.args.class c.args.process c.args.terminal c.requires.can.may in
    search (rules, h)

pub take-requires-clause-fresh : goal.take-requires-clause-fresh
take-requires-clause-fresh g c =
    let system = c.args.keep.now.system in
    let kept : Kept = kept_in g.D.Disc.told c.args.keep.now in
    let h =
    ap (λ (x : Context). x.at_verb) c.in_ok-context.ensures
    ∙ started-fresh system (slice_get system.classes c.args.class) (kept.queues c.args.class).waiting in
    search (rules, h)

pub returns-clause-ok : goal.returns-clause-ok
returns-clause-ok g c =
    let kept : Kept = kept_in g.D.Disc.told c.args.keep.now in
    record {
      system = c.take.ensures.system;
      kept =
          c.take.ensures.kept
          ∙ ap₂ (λ (i : ℕ) (x : Context). kept_take c.args.class i x kept)
          (taker-is kept c.args.class c.args.process c.args.terminal c.requires.can.may)
          c.in_ok-context.ensures;
    }
