-- No two systems of a transaction disagree.
use Rattle.std.proofs.Common.{◌≡◌, ◌≢◌, inl, inr, ⊎_elim, ℕ, List, ◌++◌, Option, Some, None, refl, ap, ◌∙◌}
use Rattle.std.proofs.lemmas.Bool.{cases_eq}
use Rattle.pw_net.specs.Agreement.{WasSent, IsFrom, IsOther, IsSystemOf, HasPrepared}
use Rattle.pw_net.specs.Member.{mark_of}
use Rattle.pw_net.specs.World.{NetEvent, first_world, net_world_after, mark_at}
use Rattle.pw_net.specs.declared.message.Mark.TheVariants as mark
use Rattle.pw_net.specs.declared.message.NetId.{NetId}
use Rattle.pw_net.specs.declared.message.NetWord.TheVariants.{Yes}
use Rattle.pw_net.specs.declared.standing.TransactionState.{TransactionState}
use Rattle.pw_net.specs.declared.standing.TransactionState.TheVariants.{Collecting, Prepared, Committed, Aborted}
use Rattle.pw_net.proofs.Moves.{Holds, Voted}
use Rattle.pw_net.proofs.Events.{events-sound, events-committed, events-aborted, after_from-append, first-sound, begins-sent}
use Rattle.pw_net.proofs.Worlds.{Sound, standings}

is-committed : (a : Option TransactionState) → mark_of a ≡ Some mark.Committed → a ≡ Some Committed
is-committed None e = absurd (cc e)
is-committed (Some (Collecting b)) e = absurd (cc e)
is-committed (Some Prepared) e = absurd (cc e)
is-committed (Some Committed) e = refl
is-committed (Some Aborted) e = absurd (cc e)

is-aborted : (a : Option TransactionState) → mark_of a ≡ Some mark.Aborted → a ≡ Some Aborted
is-aborted None e = absurd (cc e)
is-aborted (Some (Collecting b)) e = absurd (cc e)
is-aborted (Some Prepared) e = absurd (cc e)
is-aborted (Some Committed) e = absurd (cc e)
is-aborted (Some Aborted) e = refl

sound-after : (events : List NetEvent) → Sound (net_world_after events)
sound-after events = events-sound first_world events first-sound

pub stays-committed : (events more : List NetEvent) (id : NetId) (s : ℕ) → mark_at (net_world_after events) s id ≡ Some mark.Committed → mark_at (net_world_after (events ++ more)) s id ≡ Some mark.Committed
stays-committed events more id s is = ap (λ w. mark_at w s id) (after_from-append first_world events more)
    ∙ ap mark_of (events-committed (net_world_after events) more (sound-after events) id s (is-committed (standings (net_world_after events) id s) is))

pub stays-aborted : (events more : List NetEvent) (id : NetId) (s : ℕ) → mark_at (net_world_after events) s id ≡ Some mark.Aborted → mark_at (net_world_after (events ++ more)) s id ≡ Some mark.Aborted
stays-aborted events more id s is = ap (λ w. mark_at w s id) (after_from-append first_world events more)
    ∙ ap mark_of (events-aborted (net_world_after events) more (sound-after events) id s (is-aborted (standings (net_world_after events) id s) is))

module _ (events : List NetEvent) (id : NetId) (a : ℕ) (is : mark_at (net_world_after events) a id ≡ Some mark.Committed) where
  holds : Holds id (standings (net_world_after events) id) ((net_world_after events).members id.home).last (net_world_after events).sent
  holds = (sound-after events).holds id

  home : standings (net_world_after events) id id.home ≡ Some Committed
  home = holds.committed a (is-committed (standings (net_world_after events) id a) is)

  voted-of : (b : ℕ) → Voted (standings (net_world_after events) id b) (standings (net_world_after events) id id.home) → HasPrepared (net_world_after events) b id
  voted-of b (inl e) = inl (ap mark_of e)
  voted-of b (inr (inl e)) = inr (ap mark_of e)
  voted-of b (inr (inr p)) = absurd (cc (home, p.1))

  pub has-voted : (b : ℕ) → IsOther events id b → b ≢ id.home → WasSent (IsFrom Yes id b) (net_world_after events).sent × HasPrepared (net_world_after events) b id
  has-voted b (others, begins, among) ne =
      let yes_sent = holds.all home b (begins-sent first_world events id others b begins among) in
      (yes_sent, voted-of b (holds.voted b ne yes_sent))

  differs : (b : ℕ) → HasPrepared (net_world_after events) b id → mark_at (net_world_after events) b id ≢ Some mark.Aborted
  differs b (inl e) f = absurd (cc (e, f))
  differs b (inr e) f = absurd (cc (e, f))

  at-home : (b : ℕ) → b ≡ id.home → mark_at (net_world_after events) b id ≢ Some mark.Aborted
  at-home b here f = absurd (cc (ap mark_of home, ap (λ k. mark_at (net_world_after events) k id) here, f))

  pub not-aborted : (b : ℕ) → IsSystemOf events id b → mark_at (net_world_after events) b id ≢ Some mark.Aborted
  not-aborted b (inl here) = at-home b here
  not-aborted b (inr other) = ⊎_elim (at-home b) (λ ne. differs b (has-voted b other ne).1) (cases_eq b id.home)
