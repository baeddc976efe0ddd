-- A legal entry that leaves the state of an actor leaves its kept context, or takes it away.
use Rattle.std.proofs.Common.{◌≡◌, ℕ, ◌<◌, length, None, false, inl, refl, ap, subst, ◌∙◌, ⊎_elim}
use Rattle.std.proofs.lemmas.Bool.{cases_Bool, eqb-true}
use Rattle.pw_event.specs.declared.event.Ending.{Ending}
use Rattle.pw_event.specs.declared.event.Ending.TheVariants.{Stopped, NoEntries, Fault, Suspended, Lost}
use Rattle.pw_event.specs.declared.event.Event.{Event}
use Rattle.pw_event.specs.declared.event.Event.TheVariants.{End, Take, Takeover}
use Rattle.pw_world_state.specs.Entered.{entered}
use Rattle.pw_world_state.specs.Kept.{Kept}
use Rattle.pw_world_state.specs.Members.{members_of}
use Rattle.pw_world_state.proofs.Agreeing.{pair-among}
use Rattle.pw_world_state.proofs.Members.{members-are}
use Rattle.pw_onecopy.specs.Behaviour.{Behaviour}
use Rattle.pw_onecopy.proofs.Update.{upd-same}
use Rattle.pw_paired.specs.End.{LegalEnd}
use Rattle.pw_paired.specs.State.{Alone, Down, State}
use Rattle.pw_paired.specs.Step.{Legal, change, effect}
use Rattle.pw_actor_queue.specs.declared.actor.Actor.{Actor}
use Rattle.pw_actor_queue.specs.declared.actor.Actor.TheVariants as actor
use Rattle.pw_laws.proofs.induction.Runs.{kept}
use Rattle.pw_laws.proofs.kept.Kept.{Inv}
use Rattle.pw_laws.proofs.requests.Classes.{found_free}
use Rattle.pw_laws.proofs.steps.Living.{live-ok}
use Rattle.pw_tmf.specs.Leaving.{is_among}
use Rattle.pw_world_model.specs.Actors.{IsActor}
use Rattle.pw_world_model.specs.Seen.{Seen, kept_context, state_of, sys_of}
use Rattle.pw_world_model.specs.Stamps.{state_in}
use Rattle.pw_world_model.specs.Worlds.{Books, IsWorld}
use Rattle.pw_world_model.proofs.Alike.{job_in, mode_in, own-differs}
use Rattle.pw_world_model.proofs.Classes.{process-differs}
use Rattle.pw_world_model.proofs.KeptJob.{job-stays}
use Rattle.pw_world_model.proofs.KeptTerminal.{Stays, terminal-stays}

module _ (world : Seen) (books : Books) (w : IsWorld world books) (entry : Event) (legal : Legal (sys_of world) (state_of world) entry) where
  abbrev sys : Behaviour
  sys = sys_of world

  abbrev state : State
  state = state_of world

  abbrev Same : Actor → Type 0
  Same a = state_in sys state a ≡ state_in sys (change sys state entry) a

  inv : Inv sys state
  inv = kept sys w.deck world.log w.run

  live-end : (t : ℕ) (ending : Ending) → LegalEnd sys state t ending → (state.terms t).ending ≡ None
  live-end t Stopped l = l.can.live.going_on
  live-end t NoEntries l = l.can.live.going_on
  live-end t (Fault x) l = l.can.live.going_on
  live-end t (Suspended cause) l = live-ok sys w.deck world.log w.run t l.unit l.caused.is_open
  live-end t Lost l = l.live.going_on

  live : (t : ℕ) (ending : Ending) → entry ≡ End t ending → (state.terms t).ending ≡ None
  live t ending is = let of : Legal sys state (End t ending) = subst (Legal sys state) is legal in live-end t ending of.fits

  free : (c i t : ℕ) → entry ≡ Take c i t → (state.classes c).busy i ≡ None
  free c i t is =
      let of : Legal sys state (Take c i t) = subst (Legal sys state) is legal in
      (found_free (state.classes c).busy 1 (sys.processes c) i of.fits.free).0

  -- a takeover changes the mode of its pair
  away : (u : ℕ) → u < length world.system.terminals → Same (actor.Terminal u) → (p : ℕ) → entry ≡ Takeover p → is_among (members_of world.system p) u ≡ false
  away u low same p is = ⊎_elim
      (λ among.
      let of : Legal sys state (Takeover p) = subst (Legal sys state) is legal in
      let pair : sys.pair_of u ≡ p = eqb-true (sys.pair_of u) p (pair-among world.system world.script p (members_of world.system p) (members-are world.system p) u low ∙ among) in
      let before : state.modes (sys.pair_of u) ≡ Down = ap state.modes pair ∙ of.fits.down in
      let turned : (change sys state (Takeover p)).modes (sys.pair_of u) ≡ Alone = upd-same state.modes p Alone (sys.pair_of u) pair in
      let after : (change sys state entry).modes (sys.pair_of u) ≡ Alone = ap (λ e. (change sys state e).modes (sys.pair_of u)) is ∙ turned in
      let stays : state.modes (sys.pair_of u) ≡ (change sys state entry).modes (sys.pair_of u) = ap mode_in same in
      absurd (cc (before, after, stays)))
      (λ no. no)
      (cases_Bool (is_among (members_of world.system p) u))

  by : (now : Kept) (a : Actor) → IsActor world.system a → Same a → Stays (kept_context now a) (kept_context (entered world.system (members_of world.system) entry now) a)
  by now (actor.Terminal u) low same =
      terminal-stays world.system (members_of world.system) now u state entry (λ e. own-differs sys w.deck state inv entry legal live u e same) (away u low same)
  by now (actor.Process c i) of same =
      job-stays world.system (members_of world.system) now c i state entry (λ e. process-differs sys state entry legal free c i e (ap job_in same))
  by now (actor.Pair p) of same = inl refl
  by now (actor.Class c) of same = inl refl

  pub context-stays : (now : Kept) (a : Actor) → IsActor world.system a → state_in sys state a ≡ state_in sys (effect sys state entry) a
      → Stays (kept_context now a) (kept_context (entered world.system (members_of world.system) entry now) a)
  context-stays now a of same = by now a of (same ∙ plain a)
    where
      plain : (a : Actor) → state_in sys (effect sys state entry) a ≡ state_in sys (change sys state entry) a
      plain (actor.Terminal t) = refl
      plain (actor.Process c i) = refl
      plain (actor.Pair p) = refl
      plain (actor.Class c) = refl
