-- The backup takes over.
use Rattle.std.proofs.Common.{◌≡◌, ◌≢◌, ℕ, ◌<◌, ◌==◌, ◌&&◌, List, Option, Some, None, Bool, true, false, not, cond, is_some, is_none, refl, sym, ap, subst, ◌∙◌, length, ⊎_elim, true≢false, unwrap_or}
use Rattle.std.specs.Prelude.{IsSome, slice_get}
use Rattle.std.specs.Option.{option_map}
use Rattle.std.proofs.lemmas.Bool.{cases_eq, eq-eqb, ne_eqb}
use Rattle.std.proofs.lemmas.Option.{slice_get_within}
use Rattle.pw_base.proofs.Plain.{some_is, is_none-None}
use Rattle.pw_code.specs.declared.system.System.{System}
use Rattle.pw_code.specs.declared.system.TermInfo.{TermInfo}
use Rattle.pw_event.specs.declared.event.Cause.TheVariants.{Takeover}
use Rattle.pw_event.specs.declared.event.Ending.{Ending}
use Rattle.pw_event.specs.declared.script.FailLine.{FailLine}
use Rattle.pw_code_meaning.specs.OfSystem.{behaviour}
use Rattle.pw_image.specs.Reading.{context_in}
use Rattle.pw_image.proofs.ImageForms.{read-again}
use Rattle.pw_world_state.specs.Changes.{kept_takeover, memory_in, resumed, resumed_live, runs_told}
use Rattle.pw_world_state.specs.Kept.{Kept, KeptTerminal}
use Rattle.pw_world_state.specs.Members.{AreOf}
use Rattle.pw_world_state.specs.Stands.{IsPathImage, Stands, StandsForHeld, StandsForKnown, StandsForPair, StandsForSeat, StandsForTerminal, StandsIfAny}
use Rattle.pw_pair.specs.Follows.{has_flights}
use Rattle.pw_world_state.proofs.Among.{among-is}
use Rattle.pw_world_state.proofs.Components.{pair-changed, pair-of}
use Rattle.pw_tmf.proofs.Leaving.{tells-same}
use Rattle.pw_world_state.proofs.Emptied.{emptied, with-others, with-own}
use Rattle.pw_onecopy.specs.Path.{PathAnswer}
use Rattle.pw_onecopy.proofs.Update.{upd-other, upd-same}
use Rattle.pw_pair.specs.Pairs.{SeenPair, after_take, seat_of}
use Rattle.pw_pair.specs.Takeover.{resumed_image}
use Rattle.pw_pair.specs.declared.backup.Held.{Held}
use Rattle.pw_pair.specs.declared.seat.BackupSeat.{BackupSeat}
use Rattle.pw_pair.proofs.Beginning.{found-seat}
use Rattle.pw_paired.specs.Failure.{do_takeover, is_live_of, is_of_pair, resume_terminal, resumed_path, runs_unit}
use Rattle.pw_paired.specs.Raising.{lacks_one}
use Rattle.pw_paired.specs.State.{Alone, Down, BackupCopy, BeforeImage, LastEnded, Message, PairMode, OpenUnit, State, Term}
use Rattle.pw_laws.proofs.terms.KeepsPairs.{any_below-false}
use Rattle.pw_tmf.specs.Tells.{as_told}
use Rattle.pw_tmf.specs.Told.{ToldUnit}
use Rattle.pw_tmf.specs.Leaving.{is_among}

-- ---- the context of an image

-- the image of a path is read as a context that stands for the path
reads : (system : System) (info : TermInfo) (path : List PathAnswer) (bytes : List ℕ) → IsPathImage system info path bytes
    → StandsForKnown system info path (context_in bytes) × IsSome (context_in bytes)
reads system info path bytes of =
    let is : context_in bytes ≡ Some of.context = ap context_in of.is_image.is ∙ read-again of.context of.is_image.has_image of.is_image.has_values in
    rw is (of.stands, refl)

chosen : (system : System) (info : TermInfo) (copy : BackupCopy) (held : Held) (last : LastEnded) → StandsForHeld system info copy held
    → IsPathImage system info (resumed_path copy last) (resumed_image held last.number)
chosen system info copy held last of =
    subst (λ n. IsPathImage system info (resumed_path copy last) (cond (last.number == n) (unwrap_or held.end held.start) held.start)) (sym of.unit)
    (by (last.number == copy.unit))
  where
    ends : (a : Option (List PathAnswer)) (b : Option (List ℕ)) → StandsIfAny (IsPathImage system info) a b → IsPathImage system info (unwrap_or a copy.start) (unwrap_or b held.start)
    ends None None h = of.start
    ends None (Some b) h = absurd h
    ends (Some a) None h = absurd h
    ends (Some a) (Some b) h = h

    by : (b : Bool) → IsPathImage system info (cond b (unwrap_or copy.end copy.start) copy.start) (cond b (unwrap_or held.end held.start) held.start)
    by true = ends copy.end held.end of.end
    by false = of.start

-- ---- one terminal

pub runs-same : (number : ℕ) (before : List BeforeImage) (unit : Option OpenUnit) → runs_told number (option_map (as_told before) unit) ≡ runs_unit number unit
runs-same number before None = refl
runs-same number before (Some own) = refl

resumes : (system : System) (info : TermInfo) (at : PairMode) (p : ℕ) (copy : Option BackupCopy) (held : Option Held) (unit : Option OpenUnit) (told : Option ToldUnit) (before : List BeforeImage) (last : LastEnded) (term : Term) (own : KeptTerminal)
    → StandsIfAny (StandsForHeld system info) copy held → IsSome copy → told ≡ option_map (as_told before) unit → StandsForTerminal system info at term unit own
    → StandsForTerminal system info Alone (resume_terminal p copy unit last term) unit (resumed p held told last.number own)
resumes system info at p None held unit told before last term own h some is old = absurd (cc some)
resumes system info at p (Some copy) None unit told before last term own h some is old = absurd h
resumes system info at p (Some copy) (Some held) unit told before last term own h some is old =
    let read = reads system info (resumed_path copy last) (resumed_image held last.number) (chosen system info copy held last h) in
    record {
      path = read.0;
      ready = tt;
      there = λ works lives. read.1;
      start = old.start;
      restarts = old.restarts;
      awaits = old.awaits;
      pending =
          ap (λ b. cond b (Some (Takeover p)) own.pending) (ap (λ n. runs_told n told) h.unit ∙ (ap (runs_told copy.unit) is ∙ runs-same copy.unit before unit))
          ∙ ap (λ c. cond (runs_unit copy.unit unit) (Some (Takeover p)) c) old.pending;
      ending = old.ending;
    }

resumes-live : (system : System) (info : TermInfo) (at : PairMode) (p : ℕ) (copy : Option BackupCopy) (held : Option Held) (unit : Option OpenUnit) (told : Option ToldUnit) (before : List BeforeImage) (last : LastEnded) (term : Term) (own : KeptTerminal)
    → StandsIfAny (StandsForHeld system info) copy held → (term.ending ≡ None → IsSome copy) → told ≡ option_map (as_told before) unit → StandsForTerminal system info at term unit own
    → StandsForTerminal system info Alone (cond (is_none term.ending) (resume_terminal p copy unit last term) term) unit (resumed_live p held told last.number own)
resumes-live system info at p copy held unit told before last term own h some is old =
    subst (λ e. StandsForTerminal system info Alone (cond (is_none term.ending) (resume_terminal p copy unit last term) term) unit (cond (is_none e) (resumed p held told last.number own) own)) (sym old.ending)
    (by (is_none term.ending) refl)
  where
    by : (b : Bool) → is_none term.ending ≡ b → StandsForTerminal system info Alone (cond b (resume_terminal p copy unit last term) term) unit (cond b (resumed p held told last.number own) own)
    by true e = resumes system info at p copy held unit told before last term own h (some (is_none-None term.ending e)) is old
    by false e = record {
      path = old.path;
      ready = old.ready;
      there = λ works lives. absurd (true≢false (ap is_none (sym lives) ∙ e));
      start = old.start;
      restarts = old.restarts;
      awaits = old.awaits;
      pending = old.pending;
      ending = old.ending;
    }

-- ---- its seat

held-seat : (system : System) (p : ℕ) (at : PairMode) (terms : ℕ → Term) (memory : ℕ → Option BackupCopy) (flight : ℕ → Option Message) (seen : SeenPair) (t : ℕ) (info : TermInfo)
    → StandsForPair system p at terms memory flight seen → slice_get system.terminals t ≡ Some info → info.tcp ≡ p
    → StandsIfAny (StandsForHeld system info) (memory t) (memory_in (seat_of t seen))
held-seat system p at terms memory flight seen t info stands here of =
    let one = found-seat (StandsForSeat system p at terms memory flight) t seen.seats stands.seats (stands.every t info here of) in
    rw one.1
    (subst (λ x. StandsIfAny (StandsForHeld system info) (memory x) one.0.memory) one.3
    (subst (λ x. StandsIfAny (StandsForHeld system x) (memory one.0.terminal) one.0.memory) (same one.0 one.2 one.3) one.2.memory_is))
  where
    same : (seat : BackupSeat) (s : StandsForSeat system p at terms memory flight seat) → seat.terminal ≡ t → s.info ≡ info
    same seat s is = some_is (sym s.here ∙ ap (slice_get system.terminals) is ∙ here)

-- a live terminal of the pair is in the memory, which lacks none
has-memory : (mine : Bool) (ending : Option Ending) (memory : Option BackupCopy) → mine ≡ true → ending ≡ None → ((mine && is_none ending) && not (is_some memory)) ≡ false → IsSome memory
has-memory mine ending (Some held) own lives lacks = refl
has-memory mine ending None own lives lacks = absurd (true≢false (rw (own, lives) at lacks))

-- ---- all terminals

-- a terminal of another pair, or one that has ended, keeps its ending
ending-kept : (p : ℕ) (copy : Option BackupCopy) (unit : Option OpenUnit) (last : LastEnded) (term : Term) (b : Bool) → (cond b (resume_terminal p copy unit last term) term).ending ≡ term.ending
ending-kept p copy unit last term false = refl
ending-kept p None unit last term true = refl
ending-kept p (Some held) unit last term true = refl

module _ (system : System) (script : List FailLine) (state : State) (kept : Kept) (p : ℕ) (terminals : List ℕ) (stands : Stands system script state kept) (down : state.modes p ≡ Down) (few : p < length system.tcps) (are : AreOf system p terminals) (whole : lacks_one (behaviour script system) p state ≡ false) where
  abbrev pub behind : State
  behind = do_takeover (behaviour script system) p state

  own-terminal : (t : ℕ) (info : TermInfo) → slice_get system.terminals t ≡ Some info → info.tcp ≡ p
      → StandsForTerminal system info (behind.modes info.tcp) (behind.terms t) (state.units t) ((kept_takeover p terminals kept).terminals t)
  own-terminal t info here of =
      let mode : behind.modes info.tcp ≡ Alone = upd-same state.modes p Alone info.tcp of in
      let mine : is_of_pair (behaviour script system) p t ≡ true = eq-eqb _ _ (pair-of system script t info here ∙ of) in
      let among : is_among terminals t ≡ true = are.every t info here of in
      let last : (kept.disc.ended t).number ≡ (state.ended t).number = ap (λ (f : ℕ → LastEnded). (f t).number) stands.disc.ended in
      rw (mode, mine, among, last)
      (resumes-live system info (state.modes info.tcp) p (state.memory t) (memory_in (seat_of t (kept.pairs p))) (state.units t) (kept.disc.units t) _ (state.ended t) (state.terms t) (kept.terminals t)
      (held-seat system p (state.modes p) state.terms state.memory state.flight (kept.pairs p) t info (stands.pairs p few) here of)
      (λ lives.
      has-memory (is_of_pair (behaviour script system) p t) (state.terms t).ending (state.memory t) mine lives
      (any_below-false (length system.terminals) (λ j. is_live_of (behaviour script system) p state j && not (is_some (state.memory j))) whole t (slice_get_within system.terminals t info here)))
      (stands.disc.units t)
      (stands.terminals t info here))

  other-terminal : (t : ℕ) (info : TermInfo) → slice_get system.terminals t ≡ Some info → info.tcp ≢ p
      → StandsForTerminal system info (behind.modes info.tcp) (behind.terms t) (state.units t) ((kept_takeover p terminals kept).terminals t)
  other-terminal t info here ne =
      let mode : behind.modes info.tcp ≡ state.modes info.tcp = upd-other state.modes p Alone info.tcp ne in
      let other : is_of_pair (behaviour script system) p t ≡ false = ne_eqb _ _ (λ e. ne (sym (pair-of system script t info here) ∙ e)) in
      let apart : is_among terminals t ≡ false = among-is system p terminals are t info here ∙ ne_eqb info.tcp p ne in
      rw (mode, other, apart) (stands.terminals t info here)

  pub takeover-stands : Stands system script behind (kept_takeover p terminals kept)
  takeover-stands = record {
    terminals = λ t info here. ⊎_elim (own-terminal t info here) (other-terminal t info here) (cases_eq info.tcp p);
    disc = tells-same (behaviour script system) state behind kept.disc refl refl refl refl refl stands.disc;
    classes = stands.classes;
    pairs = pair-changed system state.modes state.terms behind.terms state.memory behind.memory state.flight state.flight kept.pairs p Alone (after_take (kept.pairs p))
        (λ t info here ne. record {
          ending = ending-kept p (state.memory t) (state.units t) (state.ended t) (state.terms t) _;
          memory_is = with-others system script p t info None (state.memory t) here ne;
          flight_is = refl;
        })
        stands.pairs
        (λ few. emptied system p (state.modes p) Alone state.terms behind.terms state.memory behind.memory state.flight state.flight (kept.pairs p)
        (λ seat s. record {
          ending = ending-kept p (state.memory seat.terminal) (state.units seat.terminal) (state.ended seat.terminal) (state.terms seat.terminal) _;
          memory_is = with-own system script p seat.terminal s.info None (state.memory seat.terminal) s.here s.of_pair;
          flight_is = s.at_rest (ap has_flights down);
        }) (stands.pairs p few));
    births = stands.births;
  }
