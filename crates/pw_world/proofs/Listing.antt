-- What the calls that list touched actors come to.
use Rattle.std.proofs.Common.{◌≡◌, ◌∙◌, ℕ, ◌<◌, ◌&&◌, ◌||◌, List, ◌++◌, Bool, true, length, sym, ap}
use Rattle.std.specs.List.{list_any}
use Rattle.pw_event.specs.declared.event.Event.{Event}
use Rattle.pw_event.specs.declared.event.Event.TheVariants.{FailTcp}
use Rattle.pw_world_store.specs.Keeps.{kept_in, terminals_in}
use Rattle.pw_world.proofs.Named.{named-known, touches-parts}
use Rattle.pw_world.proofs.Touching.{grows-as, grows-by, grows-more}
use Rattle.pw_world.specs.States.{IsMonitor, WorldState, seen}
use Rattle.pw_world.specs.Ledgers.{books_of}
use Rattle.pw_world.specs.Touched.{Grows, asks_at, cancels_at, named}
use Rattle.pw_world_state.specs.Members.{members_of}
use Rattle.pw_world_model.specs.Pushed.{CanPush}
use Rattle.pw_world_model.specs.Touches.{loses}
use Rattle.pw_world_model.specs.Touching.{touches_at}
use Rattle.pw_actor_queue.specs.Places.{is_same_actor}
use Rattle.pw_actor_queue.specs.declared.actor.Actor.{Actor}
use Rattle.pw_tmf.specs.Told.{Told}

module _ {D : Type 0} (told : D → Told) (w : WorldState D) (m : IsMonitor told w) where
  -- the actors that are named, and those at which a request is cancelled
  pub touched-whole : (entry : Event) → CanPush (seen told w) entry → (old mid new : List Actor)
      → mid ≡ old ++ named w.keep.system (kept_in told w.keep) entry → Grows w.keep.system (cancels_at w.keep.system (kept_in told w.keep) entry) mid new
      → Grows w.keep.system (touches_at w.keep.system (kept_in told w.keep) entry) old new
  touched-whole entry can old mid new is cancels =
      let system = w.keep.system in
      let kept = kept_in told w.keep in
      grows-as system (λ a. list_any (is_same_actor a) (named system kept entry) || cancels_at system kept entry a) (touches_at system kept entry) old new
      (grows-more system (λ a. list_any (is_same_actor a) (named system kept entry)) (cancels_at system kept entry) old mid new
      (grows-by system (named system kept entry) old mid (named-known (seen told w) (books_of w.ledger) m entry can) is) cancels)
      (λ a of. touches-parts system kept entry a)

  -- the requests of a pair that is lost
  pub lost-grows : (p : ℕ) (primary : Bool) (line : ℕ) (old new : List Actor) → p < length w.keep.system.tcps
      → loses primary ((kept_in told w.keep).pairs p).mode ≡ true
      → Grows w.keep.system (λ a. list_any (λ t. asks_at (kept_in told w.keep) t a) (terminals_in ((kept_in told w.keep).pairs p))) old new
      → Grows w.keep.system (cancels_at w.keep.system (kept_in told w.keep) (FailTcp p primary line)) old new
  lost-grows p primary line old new low loses-them grown =
      let system = w.keep.system in
      let kept = kept_in told w.keep in
      grows-as system (λ a. list_any (λ t. asks_at kept t a) (terminals_in (kept.pairs p))) (cancels_at system kept (FailTcp p primary line)) old new grown
      (λ a of. ap (list_any (λ t. asks_at kept t a)) (m.members p low)
      ∙ sym (ap (λ b. b && list_any (λ t. asks_at kept t a) (members_of system p)) loses-them))
