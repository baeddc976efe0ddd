use Rattle.std.proofs.Common.{◌∙◌, ◌<◌, ap, length, rules, subst, sym}
use Rattle.pw_code.specs.declared.system.System.{System}
use Rattle.pw_world_store.specs.Keeps.{pair_at}
use Rattle.pw_world_state.specs.Entered.{tcp_of}
use Rattle.pw_pair.specs.Pairs.{SeenPair, passes, seat_of}
use Rattle.pw_pair.specs.Seats.{is_waiting}
use Rattle.pw_world.proofs.world.World.waits_for_image.Goals as goal

pub pair-requires : goal.pair-requires
pair-requires g c =
    let system = c.self.inside.keep.system in
    let low : tcp_of system c.args.terminal < length system.tcps =
    c.self.invariant.deck.pairs c.args.terminal (rw (← c.self.view_is) at c.requires) in (
      search rules,
      subst (λ p. p < length system.tcps) (sym (c.tcp_of-tcp.ensures ∙ ap (λ (s : System). tcp_of s c.args.terminal) c.system.ensures)) low,
    )

pub returns : goal.returns
returns g c =
    rw (← c.self.view_is)
    (c.is_waiting.ensures
    ∙ ap (λ (pair : SeenPair). passes is_waiting (seat_of c.args.terminal pair)) (c.pair.ensures.pair
    ∙ ap (pair_at c.self.inside.keep.pairs) (c.tcp_of-tcp.ensures ∙ ap (λ (s : System). tcp_of s c.args.terminal) c.system.ensures)))
