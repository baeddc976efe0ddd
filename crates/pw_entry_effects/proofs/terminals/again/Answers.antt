use Rattle.std.proofs.Common.{◌∙◌, ap, List, ℕ}
use Rattle.pw_code.specs.declared.verb.Answer.TheVariants as answer
use Rattle.pw_world_store.specs.Keeps.{kept_in}
use Rattle.pw_world_state.specs.Entered.{answer_terminal}
use Rattle.pw_entry_effects.proofs.terminals.again.Goals as goal

pub returns-clause-ok : goal.returns-clause-ok
returns-clause-ok g c = record {
  system = c.go_behind.ensures.system;
  kept =
      c.go_behind.ensures.kept
      ∙ ap (λ (reply : List ℕ). answer_terminal c.args.keep.now.system c.args.terminal (answer.Replied reply) (kept_in g.D.Disc.told c.args.keep.now)) c.in_ok-reply.ensures;
}
