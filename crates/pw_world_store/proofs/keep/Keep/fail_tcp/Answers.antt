use Rattle.std.proofs.Common.{◌∙◌, ap}
use Rattle.pw_world_store.specs.Calls.{members_in}
use Rattle.pw_world_store.specs.Each.{loss_of, lost}
use Rattle.pw_world_store.specs.Keeps.{kept_in}
use Rattle.pw_world_state.specs.Changes.{at_pair}
use Rattle.pw_pair.specs.Called.{member_fails}
use Rattle.pw_pair.specs.Pairs.{SeenPair}
use Rattle.pw_world_store.proofs.Failing.{fails-by}
use Rattle.pw_world_store.proofs.keep.Keep.fail_tcp.Goals as goal

pub returns-clause-ok : goal.returns-clause-ok
returns-clause-ok g c =
    let kept = kept_in g.D.Disc.told c.args.self.now in
    let terminals = members_in kept c.args.tcp in
    record {
      system = c.fail_member.ensures.system ∙ c.in_ok-lose.ensures.ok.system;
      kept =
          c.fail_member.ensures.kept
          ∙ (ap (at_pair c.args.tcp (member_fails c.args.primary))
          (c.in_ok-lose.ensures.ok.kept
          ∙ ap (λ l. lost l terminals kept)
          (c.loss_in-loss.ensures ∙ ap (loss_of c.args.primary) (c.mode.ensures ∙ ap (λ (pair : SeenPair). pair.mode) c.pair.ensures.pair)))
          ∙ fails-by c.args.tcp c.args.primary terminals kept);
    }
