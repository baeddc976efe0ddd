-- The tests of the entries of an actor, by the numbers and characters of its own contexts.
use Rattle.std.proofs.Common.{◌≡◌, ℕ, ◌<◌, length, Some, None, Bool, true, false, refl, sym, subst, ◌∙◌}
use Rattle.pw_code.specs.declared.context.Context.{Context}
use Rattle.pw_event.specs.Due.{owner_of}
use Rattle.pw_event.specs.declared.event.Event.{Event}
use Rattle.pw_event.specs.declared.event.Event.TheVariants.{Show, Key, CheckStart, CheckEnd, CheckCopy, Applied, Begin, Send, Take, File, Reply, Again, Commit, Back, Restart, FailTcp, FailServer, Takeover, Raise, End}
use Rattle.pw_image.specs.Values.{HasValues}
use Rattle.pw_world_state.specs.Entered.{copied}
use Rattle.pw_world_state.specs.May.{IsThere, may}
use Rattle.pw_world_state.specs.Meeting.{IsStepRead, StepShows}
use Rattle.pw_world_state.specs.PairTests.{may_copy}
use Rattle.pw_world_state.specs.Read.{AreValued, ClosedValues}
use Rattle.pw_world_state.proofs.Agreeing.{there-is}
use Rattle.pw_world_state.proofs.Readings as readings
use Rattle.pw_world_state.proofs.Testing.{copy-same}
use Rattle.pw_laws.proofs.decided.Pairs as decided
use Rattle.pw_laws.specs.legal.Pairs.{is_legal_check_copy}
use Rattle.pw_world_model.specs.Actors.{actor_of}
use Rattle.pw_world_model.specs.Dues.{due_in}
use Rattle.pw_world_model.specs.Enabled.{IsEnabled}
use Rattle.pw_world_model.specs.Seen.{Seen, finished, state_of, sys_of}
use Rattle.pw_world_model.specs.Worlds.{Books, IsWorld}
use Rattle.pw_world_model.proofs.Rooms as rooms
use Rattle.pw_world_model.proofs.Steps.{due-same, passes-shown, shows, there}
use Rattle.pw_world_model.proofs.Values.{closed-values}
use Rattle.pw_paired.specs.Step.{Legal, line_wanted}
use Rattle.pw_world.specs.OwnValues.{HasOwnValues}

-- the entry is CHECK COPY
abbrev is_copy : Event → Bool
is_copy (CheckCopy t) = true
is_copy _ = false

copy-of : (entry : Event) → is_copy entry ≡ true → (t : ℕ) × (entry ≡ CheckCopy t)
copy-of (CheckCopy t) e = (t, refl)
copy-of (Show t phase attempt k) e = absurd (cc e)
copy-of (Key t k) e = absurd (cc e)
copy-of (CheckStart t) e = absurd (cc e)
copy-of (CheckEnd t) e = absurd (cc e)
copy-of (Applied t) e = absurd (cc e)
copy-of (Begin t n r) e = absurd (cc e)
copy-of (Send t n c) e = absurd (cc e)
copy-of (Take c i t) e = absurd (cc e)
copy-of (File c i op mode f status) e = absurd (cc e)
copy-of (Reply c i t fault) e = absurd (cc e)
copy-of (Again t n) e = absurd (cc e)
copy-of (Commit t n) e = absurd (cc e)
copy-of (Back t n) e = absurd (cc e)
copy-of (Restart t n cause) e = absurd (cc e)
copy-of (FailTcp p primary k) e = absurd (cc e)
copy-of (FailServer c i k) e = absurd (cc e)
copy-of (Takeover p) e = absurd (cc e)
copy-of (Raise p) e = absurd (cc e)
copy-of (End t ending) e = absurd (cc e)

module _ (world : Seen) (books : Books) (w : IsWorld world books) where
  -- behind the answer that ends a transaction at the verb of a terminal
  pub closed : (t : ℕ) → t < length world.system.terminals → ((context : Context) → (world.kept.terminals t).ready ≡ Some context → HasValues context) → ClosedValues world.system world.kept t
  closed t low values context a is closes =
      let found = there-is world.system.terminals t low in
      let both = rooms.ready world books w t found.0 context found.1 is in
      closed-values world.system context a w.valid both.0 both.1 (values context is) closes

  valued : (entry : Event) → is_copy entry ≡ false → IsThere world.system entry → HasOwnValues world.kept (actor_of (sys_of world) entry) → AreValued world.system world.kept entry
  valued (CheckStart t) plain low h = h.behind
  valued (CheckEnd t) plain low h = closed t low h.ready
  valued (Begin t n r) plain low h = h.behind
  valued (Commit t n) plain low h = closed t low h.ready
  valued (Back t n) plain low h = closed t low h.ready
  valued (CheckCopy t) plain low h = absurd (cc plain)
  valued (Show t phase attempt k) plain low h = tt
  valued (Key t k) plain low h = tt
  valued (Applied t) plain low h = tt
  valued (Send t n c) plain low h = tt
  valued (Take c i t) plain low h = tt
  valued (File c i op mode f status) plain low h = tt
  valued (Reply c i t fault) plain low h = tt
  valued (Again t n) plain low h = tt
  valued (Restart t n cause) plain low h = tt
  valued (FailTcp p primary k) plain low h = tt
  valued (FailServer c i k) plain low h = tt
  valued (Takeover p) plain low h = tt
  valued (Raise p) plain low h = tt
  valued (End t ending) plain low h = tt

  -- CHECK COPY looks at no image
  copy-test : (t : ℕ) → t < length world.system.terminals → may_copy world.system world.kept t ≡ is_legal_check_copy (sys_of world) (state_of world) t
  copy-test t low = copy-same world.system world.script (state_of world) world.kept w.stands t (readings.placed world.system world.script w.valid w.deck world.log w.run t low)

  copy-passes : (t : ℕ) → Legal (sys_of world) (state_of world) (CheckCopy t) → may world.system world.script world.kept (CheckCopy t) ≡ true
  copy-passes t legal = copy-test t (there world books w (CheckCopy t) legal) ∙ (decided.check_copy (sys_of world) (state_of world) t).1 legal.fits

  copy-shows : (t : ℕ) → t < length world.system.terminals → finished world ≡ false → due_in books.due (owner_of (sys_of world).pair_of (CheckCopy t)) ≡ None → may world.system world.script world.kept (CheckCopy t) ≡ true
      → IsEnabled world (actor_of (sys_of world) (CheckCopy t)) (CheckCopy t)
  copy-shows t low unfinished due passes = record {
    legal = record {
      unfinished = unfinished;
      due = sym (due-same world books w (CheckCopy t) low) ∙ due;
      fits = (decided.check_copy (sys_of world) (state_of world) t).0 (sym (copy-test t low) ∙ passes);
    };
    at_verb = tt;
    own = refl;
  }

  pub own-passes : (entry : Event) → IsStepRead world.system world.kept entry → HasOwnValues world.kept (actor_of (sys_of world) entry) → Legal (sys_of world) (state_of world) entry
      → StepShows (sys_of world) (state_of world) world.kept entry → may world.system world.script world.kept entry ≡ true
  own-passes entry read values legal shown = by (is_copy entry) refl
    where
      by : (b : Bool) → is_copy entry ≡ b → may world.system world.script world.kept entry ≡ true
      by true e = let found = copy-of entry e in subst (λ x. Legal (sys_of world) (state_of world) x → may world.system world.script world.kept x ≡ true) (sym found.1) (copy-passes found.0) legal
      by false e = passes-shown world books w entry read (valued entry e (there world books w entry legal) values) legal shown

  abbrev Shows : Event → Type 0
  Shows x =
      IsThere world.system x → finished world ≡ false → due_in books.due (owner_of (sys_of world).pair_of x) ≡ None → may world.system world.script world.kept x ≡ true
      → IsEnabled world (actor_of (sys_of world) x) x

  pub own-shows : (entry : Event) → IsStepRead world.system world.kept entry → HasOwnValues world.kept (actor_of (sys_of world) entry) → line_wanted entry ≡ None → Shows entry
  own-shows entry read values plain = by (is_copy entry) refl
    where
      by : (b : Bool) → is_copy entry ≡ b → Shows entry
      by true e = let found = copy-of entry e in subst Shows (sym found.1) (λ low unfinished due passes. copy-shows found.0 low unfinished due passes)
      by false e = λ low unfinished due passes. shows world books w entry low read (valued entry e low values) unfinished (due ∙ sym plain) passes

  -- the contexts of which the entry compares or sends images
  pub all-valued : (entry : Event) → IsThere world.system entry → HasOwnValues world.kept (actor_of (sys_of world) entry)
      → ((t : ℕ) (context : Context) → entry ≡ CheckCopy t → copied (world.kept.terminals t).start (world.kept.terminals t).context ≡ Some context → HasValues context) → AreValued world.system world.kept entry
  all-valued entry low values copies = by (is_copy entry) refl
    where
      by : (b : Bool) → is_copy entry ≡ b → AreValued world.system world.kept entry
      by true e = let found = copy-of entry e in subst (AreValued world.system world.kept) (sym found.1) (λ context is. copies found.0 context found.1 is)
      by false e = valued entry e low values
