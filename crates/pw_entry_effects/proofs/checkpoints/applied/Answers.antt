use Rattle.std.proofs.Common.{◌≡◌, ◌∙◌, ◌<◌, ℕ, true, length, sym, ap, subst, rules}
use Rattle.pw_code.specs.declared.system.System.{System}
use Rattle.pw_world_store.specs.Keeps.{kept_in}
use Rattle.pw_world_state.specs.Changes.{kept_applied}
use Rattle.pw_world_state.specs.Entered.{tcp_of}
use Rattle.pw_world_state.specs.Kept.{Kept}
use Rattle.pw_pair.specs.Pairs.{passes, seat_of}
use Rattle.pw_pair.specs.Seats.{is_flying}
use Rattle.pw_entry_effects.proofs.checkpoints.applied.Goals as goal

pub build-requires-clause-flies : goal.build-requires-clause-flies
build-requires-clause-flies g c =
    let kept : Kept = kept_in g.D.Disc.told c.args.keep.now in
    let same : c.pair_of-tcp.result ≡ tcp_of c.args.keep.now.system c.args.terminal =
    c.pair_of-tcp.ensures.pair ∙ ap (λ (s : System). tcp_of s c.args.terminal) c.system.ensures in
    let h = subst (λ (p : ℕ). passes is_flying (seat_of c.args.terminal (kept.pairs p)) ≡ true) (sym same) c.requires.flies in
    search (rules, h)

pub applied-requires-clause-known : goal.applied-requires-clause-known
applied-requires-clause-known g c =
    let h =
    subst (λ (s : System). c.pair_of-tcp.result < length s.tcps) (sym c.in_ok-build.ensures.system)
    (subst (λ (s : System). c.pair_of-tcp.result < length s.tcps) c.system.ensures c.pair_of-tcp.ensures.known) in
    search (rules, h)

pub returns-clause-ok : goal.returns-clause-ok
returns-clause-ok g c = record {
  system = c.applied.ensures.system ∙ c.in_ok-build.ensures.system;
  kept =
      c.applied.ensures.kept
      ∙ (c.in_ok-build.ensures.same
      ∙ ap (λ (p : ℕ). kept_applied p c.args.terminal (kept_in g.D.Disc.told c.args.keep.now))
      (c.pair_of-tcp.ensures.pair ∙ ap (λ (s : System). tcp_of s c.args.terminal) c.system.ensures));
}
