-- What `step` tells of an actor, in the words of a world.
use Rattle.std.proofs.Common.{◌≡◌, ℕ, zero, suc, ◌&&◌, [], Option, Some, None, Bool, true, false, is_some, refl, sym, ap, subst, ◌∙◌}
use Rattle.pw_event.specs.declared.event.Event.{Event}
use Rattle.pw_event.specs.declared.event.Event.TheVariants.{Show, Key, CheckStart, CheckEnd, CheckCopy, Applied, Begin, Send, Take, File, Reply, Again, Commit, Back, Restart, FailTcp, FailServer, Takeover, Raise, End}
use Rattle.pw_world_state.specs.May.{may}
use Rattle.pw_world_state.specs.TerminalTests.{seat_at}
use Rattle.pw_world_model.specs.Actors.{actor_of}
use Rattle.pw_world_model.specs.Answers as answer
use Rattle.pw_world_model.specs.Answers.{IsBuilt}
use Rattle.pw_world_model.specs.Enabled.{HasEnabledStep, IsEnabled}
use Rattle.pw_world_model.specs.Seen.{Seen, finished, sys_of, work_of}
use Rattle.pw_world_model.specs.Worlds.{Books, IsWorld}
use Rattle.pw_world_model.proofs.Steps.{due-same, may-scripted, there}
use Rattle.pw_world_model.proofs.Unread.{read-of}
use Rattle.pw_pair.specs.Pairs.{passes}
use Rattle.pw_pair.specs.Seats.{flies_built, flies_waiting, is_built, is_flying, is_waiting}
use Rattle.pw_pair.specs.declared.seat.Flight.{Flight}
use Rattle.pw_pair.specs.declared.seat.BackupSeat.{BackupSeat}
use Rattle.pw_paired.specs.Step.{line_wanted}
use Rattle.pw_actor_queue.specs.declared.actor.Actor.{Actor}
use Rattle.pw_laws.specs.serial.Guarded.{is_fail}
use Rattle.pw_entry_tests.specs.Actors.{actor_in}
use Rattle.pw_entry_tests.specs.Steps.{IsStepFound, IsStepOf, IsUnbuilt}
use Rattle.pw_world.proofs.Testing.{own-passes, own-shows}
use Rattle.pw_world.specs.OwnValues.{HasOwnValues}
use Rattle.pw_world.specs.Undue.{IsUndue}

-- the entry is none of a failure line, since none is due
undue-plain : (entry : Event) → line_wanted entry ≡ None → is_fail entry ≡ false
undue-plain (Show t phase attempt k) e = refl
undue-plain (Key t k) e = refl
undue-plain (CheckStart t) e = refl
undue-plain (CheckEnd t) e = refl
undue-plain (CheckCopy t) e = refl
undue-plain (Applied t) e = refl
undue-plain (Begin t n r) e = refl
undue-plain (Send t n c) e = refl
undue-plain (Take c i t) e = refl
undue-plain (File c i op mode f status) e = refl
undue-plain (Reply c i t fault) e = refl
undue-plain (Again t n) e = refl
undue-plain (Commit t n) e = refl
undue-plain (Back t n) e = refl
undue-plain (Restart t n cause) e = refl
undue-plain (Takeover p) e = refl
undue-plain (Raise p) e = refl
undue-plain (End t ending) e = refl
undue-plain (FailTcp p primary k) e = absurd (cc e)
undue-plain (FailServer c i k) e = absurd (cc e)

-- ---- messages that are not built

module _ (world : Seen) where
  abbrev WaitsAt : Event → Type 0
  WaitsAt entry = (t : ℕ) × ((entry ≡ Applied t) × (passes is_waiting (seat_at world.system world.kept t) ≡ true))

  waits-at : (entry : Event) → IsUnbuilt world.system world.kept entry → WaitsAt entry
  waits-at (Applied t) waits = (t, (refl, waits))
  waits-at (Show t phase attempt k) waits = absurd waits
  waits-at (Key t k) waits = absurd waits
  waits-at (CheckStart t) waits = absurd waits
  waits-at (CheckEnd t) waits = absurd waits
  waits-at (CheckCopy t) waits = absurd waits
  waits-at (Begin t n r) waits = absurd waits
  waits-at (Send t n c) waits = absurd waits
  waits-at (Take c i t) waits = absurd waits
  waits-at (File c i op mode f status) waits = absurd waits
  waits-at (Reply c i t fault) waits = absurd waits
  waits-at (Again t n) waits = absurd waits
  waits-at (Commit t n) waits = absurd waits
  waits-at (Back t n) waits = absurd waits
  waits-at (Restart t n cause) waits = absurd waits
  waits-at (FailTcp p primary k) waits = absurd waits
  waits-at (FailServer c i k) waits = absurd waits
  waits-at (Takeover p) waits = absurd waits
  waits-at (Raise p) waits = absurd waits
  waits-at (End t ending) waits = absurd waits

  pub not-unbuilt : (actor : Actor) (entry : Event) → IsEnabled world actor entry → (IsUnbuilt world.system world.kept entry → ⊥) → answer.HasOnlyUnbuiltSteps world actor → ⊥
  not-unbuilt actor entry e built unbuilt = let own = unbuilt.each entry e in built (subst (IsUnbuilt world.system world.kept) (sym own.1.0) own.1.1)

  flight-built : (f : Option Flight) → is_some f ≡ true → (flies_waiting f ≡ true → ⊥) → flies_built f ≡ true
  flight-built None flies built = absurd (cc flies)
  flight-built (Some flight) flies built = by flight.built refl
    where
      by : (b : Bool) → flight.built ≡ b → b ≡ true
      by true e = refl
      by false e = absurd (built (rw e refl))

  seat-built : (seat : Option BackupSeat) → passes is_flying seat ≡ true → (passes is_waiting seat ≡ true → ⊥) → passes is_built seat ≡ true
  seat-built None flies built = absurd (cc flies)
  seat-built (Some seat) flies built = flight-built seat.flight flies built

  and-first : (a b : Bool) → (a && b) ≡ true → a ≡ true
  and-first true b e = refl
  and-first false b e = absurd (cc e)

  pub is-built : (entry : Event) → (IsUnbuilt world.system world.kept entry → ⊥) → may world.system world.script world.kept entry ≡ true → IsBuilt world entry
  is-built (Applied t) built passes-it = seat-built (seat_at world.system world.kept t) (and-first _ _ passes-it) built
  is-built (Show t phase attempt k) built passes-it = tt
  is-built (Key t k) built passes-it = tt
  is-built (CheckStart t) built passes-it = tt
  is-built (CheckEnd t) built passes-it = tt
  is-built (CheckCopy t) built passes-it = tt
  is-built (Begin t n r) built passes-it = tt
  is-built (Send t n c) built passes-it = tt
  is-built (Take c i t) built passes-it = tt
  is-built (File c i op mode f status) built passes-it = tt
  is-built (Reply c i t fault) built passes-it = tt
  is-built (Again t n) built passes-it = tt
  is-built (Commit t n) built passes-it = tt
  is-built (Back t n) built passes-it = tt
  is-built (Restart t n cause) built passes-it = tt
  is-built (FailTcp p primary k) built passes-it = tt
  is-built (FailServer c i k) built passes-it = tt
  is-built (Takeover p) built passes-it = tt
  is-built (Raise p) built passes-it = tt
  is-built (End t ending) built passes-it = tt

-- ---- steps

module _ (world : Seen) (books : Books) (w : IsWorld world books) where
  -- whose step an entry is
  same-actor : (entry : Event) → actor_in world.system entry ≡ actor_of (sys_of world) entry
  same-actor (Show t phase attempt k) = refl
  same-actor (Key t k) = refl
  same-actor (CheckStart t) = refl
  same-actor (CheckEnd t) = refl
  same-actor (CheckCopy t) = refl
  same-actor (Applied t) = refl
  same-actor (Begin t n r) = refl
  same-actor (Send t n c) = refl
  same-actor (Take c i t) = refl
  same-actor (File c i op mode f status) = refl
  same-actor (Reply c i t fault) = refl
  same-actor (Again t n) = refl
  same-actor (Commit t n) = refl
  same-actor (Back t n) = refl
  same-actor (Restart t n cause) = refl
  same-actor (FailTcp p primary k) = refl
  same-actor (FailServer c i k) = refl
  same-actor (Takeover p) = refl
  same-actor (Raise p) = refl
  same-actor (End t ending) = refl

  wants-none : (actor : Actor) → IsUndue world books actor → (entry : Event) → IsEnabled world actor entry → line_wanted entry ≡ None
  wants-none actor undue entry e = sym e.legal.due ∙ (sym (due-same world books w entry (there world books w entry e.legal)) ∙ undue entry e.own)

  plain-of : (actor : Actor) → IsUndue world books actor → (entry : Event) → IsEnabled world actor entry → is_fail entry ≡ false
  plain-of actor undue entry e = undue-plain entry (wants-none actor undue entry e)

  wanted-plain : (entry : Event) → may world.system [] world.kept entry ≡ true → line_wanted entry ≡ None
  wanted-plain (Show t phase attempt k) e = refl
  wanted-plain (Key t k) e = refl
  wanted-plain (CheckStart t) e = refl
  wanted-plain (CheckEnd t) e = refl
  wanted-plain (CheckCopy t) e = refl
  wanted-plain (Applied t) e = refl
  wanted-plain (Begin t n r) e = refl
  wanted-plain (Send t n c) e = refl
  wanted-plain (Take c i t) e = refl
  wanted-plain (File c i op mode f status) e = refl
  wanted-plain (Reply c i t fault) e = refl
  wanted-plain (Again t n) e = refl
  wanted-plain (Commit t n) e = refl
  wanted-plain (Back t n) e = refl
  wanted-plain (Restart t n cause) e = refl
  wanted-plain (Takeover p) e = refl
  wanted-plain (Raise p) e = refl
  wanted-plain (End t ending) e = refl
  wanted-plain (FailTcp p primary zero) e = absurd (cc e)
  wanted-plain (FailTcp p primary (suc k)) e = absurd (cc e)
  wanted-plain (FailServer c i zero) e = absurd (cc e)
  wanted-plain (FailServer c i (suc k)) e = absurd (cc e)

  pub some-shows : (actor : Actor) (entry : Event) → IsUndue world books actor → finished world ≡ false → HasOwnValues world.kept actor → IsStepOf world.system world.kept actor entry → IsEnabled world actor entry
  some-shows actor entry undue unfinished values step =
      let own : actor_of (sys_of world) entry ≡ actor = sym (same-actor entry) ∙ step.own in
      let wanted = wanted-plain entry step.passes in
      let shown = own-shows world books w entry step.read (subst (HasOwnValues world.kept) (sym own) values) wanted step.there unfinished (undue entry own)
      (sym (may-scripted world.system world.script world.kept entry (undue-plain entry wanted)) ∙ step.passes) in
      record { legal = shown.legal; at_verb = shown.at_verb; own = own }

  -- an enabled step is one that `step` finds
  step-of : (actor : Actor) → IsUndue world books actor → work_of world actor ≡ None → HasOwnValues world.kept actor → (entry : Event) → IsEnabled world actor entry → IsStepOf world.system world.kept actor entry
  step-of actor undue none values entry e =
      let read = read-of world books w entry (ap (work_of world) e.own ∙ none) in
      record {
        own = same-actor entry ∙ e.own;
        there = there world books w entry e.legal;
        read = read;
        passes = may-scripted world.system world.script world.kept entry (plain-of actor undue entry e) ∙ own-passes world books w entry read (subst (HasOwnValues world.kept) (sym e.own) values) e.legal e.at_verb;
      }

  pub none-has : (actor : Actor) → IsUndue world books actor → work_of world actor ≡ None → HasOwnValues world.kept actor
      → IsStepFound world.system world.kept actor None → HasEnabledStep world actor → ⊥
  none-has actor undue none values found has = found has.0 (step-of actor undue none values has.0 has.1)

  pub all-unbuilt : (actor : Actor) (entry : Event) → IsUndue world books actor → work_of world actor ≡ None → HasOwnValues world.kept actor
      → IsStepFound world.system world.kept actor (Some entry) → IsEnabled world actor entry → IsUnbuilt world.system world.kept entry → answer.HasOnlyUnbuiltSteps world actor
  all-unbuilt actor entry undue none values found e waits =
      let own = waits-at world entry waits in
      record {
        step = (entry, e);
        p = (sys_of world).pair_of own.0;
        pair = sym e.own ∙ ap (actor_of (sys_of world)) own.1.0;
        each = λ other enabled. waits-at world other (found.1 waits other (step-of actor undue none values other enabled));
      }
