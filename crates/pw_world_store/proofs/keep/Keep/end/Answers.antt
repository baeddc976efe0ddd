use Rattle.std.proofs.Common.{◌∙◌, ap}
use Rattle.pw_world_store.specs.Each.{with_ending}
use Rattle.pw_world_store.specs.Keeps.{kept_in}
use Rattle.pw_world_state.specs.Changes.{at_pair, at_terminal, leave_at}
use Rattle.pw_world_state.specs.Entered.{tcp_of}
use Rattle.pw_code.specs.declared.system.System.{System}
use Rattle.pw_pair.specs.Pairs.{after_drop}
use Rattle.pw_world_store.proofs.keep.Keep.end.Goals as goal

pub returns-clause-ok : goal.returns-clause-ok
returns-clause-ok g c =
    let same = c.close.ensures.system ∙ c.in_ok-leave_at.ensures.ok.system in
    record {
      system = c.drop_terminal.ensures.system ∙ same;
      kept =
          c.drop_terminal.ensures.kept
          ∙ (ap (at_pair c.pair_of-tcp.result (after_drop c.args.terminal))
          (c.close.ensures.kept ∙ ap (at_terminal c.args.terminal (with_ending c.args.ending)) c.in_ok-leave_at.ensures.ok.kept)
          ∙ ap (λ p. at_pair p (after_drop c.args.terminal) (at_terminal c.args.terminal (with_ending c.args.ending) (leave_at c.args.terminal c.args.ending (kept_in g.D.Disc.told c.args.self.now)))) (c.pair_of-tcp.ensures.pair ∙ ap (λ (s : System). tcp_of s c.args.terminal) same));
    }
