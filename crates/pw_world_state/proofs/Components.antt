-- What is kept stands, component by component, where one place of it is changed.
use Rattle.std.proofs.Common.{◌≡◌, ◌≢◌, ℕ, ◌<◌, List, Option, Some, refl, sym, ap, subst, ◌∙◌, length}
use Rattle.std.specs.Prelude.{is_some, slice_get}
use Rattle.std.proofs.lemmas.List.Elements.{All-weaker}
use Rattle.pw_base.proofs.Plain.{some_is}
use Rattle.pw_code.specs.declared.system.System.{System}
use Rattle.pw_code.specs.declared.system.TermInfo.{TermInfo}
use Rattle.pw_event.specs.declared.script.FailLine.{FailLine}
use Rattle.pw_code_meaning.specs.OfSystem.{behaviour, number_by}
use Rattle.pw_world_state.specs.Kept.{KeptTerminal}
use Rattle.pw_world_state.specs.Stands.{StandsForPair, StandsForSeat, StandsForTerminal}
use Rattle.pw_onecopy.specs.Update.{upd}
use Rattle.pw_onecopy.proofs.Update.{upd-other, upd-same, upd_both}
use Rattle.pw_pair.specs.Pairs.{SeenPair}
use Rattle.pw_pair.specs.declared.seat.BackupSeat.{BackupSeat}
use Rattle.pw_paired.specs.State.{BackupCopy, Message, PairMode, OpenUnit, Term}

-- ---- small things

-- a terminal that is there has the pair that it names
pub pair-of : (system : System) (script : List FailLine) (t : ℕ) (info : TermInfo) → slice_get system.terminals t ≡ Some info
    → (behaviour script system).pair_of t ≡ info.tcp
pair-of system script t info here = ap (number_by (λ terminal. terminal.tcp)) here

-- two terminals of different pairs are two
pub apart : (system : System) (s t : ℕ) (a b : TermInfo) → slice_get system.terminals s ≡ Some a → slice_get system.terminals t ≡ Some b
    → a.tcp ≢ b.tcp → s ≢ t
apart system s t a b here there ne is =
    ne (ap (λ (x : TermInfo). x.tcp) (some_is (sym here ∙ ap (slice_get system.terminals) is ∙ there)))

-- ---- terminals

-- what is kept of the terminals stands
abbrev pub TerminalsStand : System → (ℕ → PairMode) → (ℕ → Term) → (ℕ → Option OpenUnit) → (ℕ → KeptTerminal) → Type 0
TerminalsStand system modes terms units kept =
    (t : ℕ) (info : TermInfo) → slice_get system.terminals t ≡ Some info → StandsForTerminal system info (modes info.tcp) (terms t) (units t) (kept t)

-- one terminal is changed
pub terminal-changed : (system : System) (modes : ℕ → PairMode) (terms : ℕ → Term) (units : ℕ → Option OpenUnit) (kept : ℕ → KeptTerminal) (t : ℕ) (term : Term) (own : KeptTerminal)
    → TerminalsStand system modes terms units kept
    → ((info : TermInfo) → slice_get system.terminals t ≡ Some info → StandsForTerminal system info (modes info.tcp) term (units t) own)
    → TerminalsStand system modes (upd terms t term) units (upd kept t own)
terminal-changed system modes terms units kept t term own old new j info here =
    upd_both terms kept t term own j (λ a b. StandsForTerminal system info (modes info.tcp) a (units j) b)
    (λ is. subst (λ x. slice_get system.terminals x ≡ Some info → StandsForTerminal system info (modes info.tcp) term (units x) own) (sym is) (new info) here)
    (λ ne. old j info here)

-- one terminal and its unit are changed
pub terminal-and-unit : (system : System) (modes : ℕ → PairMode) (terms : ℕ → Term) (units : ℕ → Option OpenUnit) (kept : ℕ → KeptTerminal) (t : ℕ) (term : Term) (unit : Option OpenUnit) (own : KeptTerminal)
    → TerminalsStand system modes terms units kept
    → ((info : TermInfo) → slice_get system.terminals t ≡ Some info → StandsForTerminal system info (modes info.tcp) term unit own)
    → TerminalsStand system modes (upd terms t term) (upd units t unit) (upd kept t own)
terminal-and-unit system modes terms units kept t term unit own old new j info here =
    upd_both terms kept t term own j (λ a b. StandsForTerminal system info (modes info.tcp) a (upd units t unit j) b)
    (λ is. subst (λ u. StandsForTerminal system info (modes info.tcp) term u own) (sym (upd-same units t unit j is)) (new info (ap (slice_get system.terminals) (sym is) ∙ here)))
    (λ ne. subst (λ u. StandsForTerminal system info (modes info.tcp) (terms j) u (kept j)) (sym (upd-other units t unit j ne)) (old j info here))

-- ---- pairs

-- what is kept of the pairs stands
abbrev pub PairsStand : System → (ℕ → PairMode) → (ℕ → Term) → (ℕ → Option BackupCopy) → (ℕ → Option Message) → (ℕ → SeenPair) → Type 0
PairsStand system modes terms memory flight pairs = (p : ℕ) → p < length system.tcps → StandsForPair system p (modes p) terms memory flight (pairs p)

-- of a terminal the pair is told the same
pub record IsSameOf (terms new_terms : ℕ → Term) (memory new_memory : ℕ → Option BackupCopy) (flight new_flight : ℕ → Option Message) (t : ℕ) : Type 0 where
  pub ending : (new_terms t).ending ≡ (terms t).ending
  pub memory_is : new_memory t ≡ memory t
  pub flight_is : new_flight t ≡ flight t

-- a seat stands on where its terminal is the same
pub seat-same : (system : System) (p : ℕ) (at : PairMode) (terms new_terms : ℕ → Term) (memory new_memory : ℕ → Option BackupCopy) (flight new_flight : ℕ → Option Message) (seat : BackupSeat)
    → IsSameOf terms new_terms memory new_memory flight new_flight seat.terminal
    → StandsForSeat system p at terms memory flight seat → StandsForSeat system p at new_terms new_memory new_flight seat
seat-same system p at terms new_terms memory new_memory flight new_flight seat same old = record {
  info = old.info;
  here = old.here;
  of_pair = old.of_pair;
  dropped = old.dropped ∙ ap (λ o. is_some o) (sym same.ending);
  names = old.names;
  memory_is = rw same.memory_is old.memory_is;
  flight_is = rw same.flight_is old.flight_is;
  at_rest = λ calm. same.flight_is ∙ old.at_rest calm;
}

-- the terminals of the pair are the same
pub pair-same : (system : System) (p : ℕ) (at : PairMode) (terms new_terms : ℕ → Term) (memory new_memory : ℕ → Option BackupCopy) (flight new_flight : ℕ → Option Message) (pair : SeenPair)
    → ((t : ℕ) (info : TermInfo) → slice_get system.terminals t ≡ Some info → info.tcp ≡ p → IsSameOf terms new_terms memory new_memory flight new_flight t)
    → StandsForPair system p at terms memory flight pair → StandsForPair system p at new_terms new_memory new_flight pair
pair-same system p at terms new_terms memory new_memory flight new_flight pair same old = record {
  mode_is = old.mode_is;
  seats = All-weaker (StandsForSeat system p at terms memory flight) (StandsForSeat system p at new_terms new_memory new_flight)
      (λ seat s. seat-same system p at terms new_terms memory new_memory flight new_flight seat (same seat.terminal s.info s.here s.of_pair) s)
      pair.seats old.seats;
  every = old.every;
}

-- the endings of the terminals are the same, and nothing else was changed
pub pairs-same : (system : System) (modes : ℕ → PairMode) (terms new_terms : ℕ → Term) (memory : ℕ → Option BackupCopy) (flight : ℕ → Option Message) (pairs : ℕ → SeenPair)
    → ((t : ℕ) → (new_terms t).ending ≡ (terms t).ending)
    → PairsStand system modes terms memory flight pairs → PairsStand system modes new_terms memory flight pairs
pairs-same system modes terms new_terms memory flight pairs same old p few =
    pair-same system p (modes p) terms new_terms memory memory flight flight (pairs p)
    (λ t info here of. record { ending = same t; memory_is = refl; flight_is = refl }) (old p few)

-- one pair is changed, with what it is told of its terminals
pub pair-changed : (system : System) (modes : ℕ → PairMode) (terms new_terms : ℕ → Term) (memory new_memory : ℕ → Option BackupCopy) (flight new_flight : ℕ → Option Message) (pairs : ℕ → SeenPair) (p : ℕ) (at : PairMode) (pair : SeenPair)
    → ((t : ℕ) (info : TermInfo) → slice_get system.terminals t ≡ Some info → info.tcp ≢ p → IsSameOf terms new_terms memory new_memory flight new_flight t)
    → PairsStand system modes terms memory flight pairs
    → (p < length system.tcps → StandsForPair system p at new_terms new_memory new_flight pair)
    → PairsStand system (upd modes p at) new_terms new_memory new_flight (upd pairs p pair)
pair-changed system modes terms new_terms memory new_memory flight new_flight pairs p at pair same old new j few =
    upd_both modes pairs p at pair j (λ a b. StandsForPair system j a new_terms new_memory new_flight b)
    (λ is. subst (λ x. x < length system.tcps → StandsForPair system x at new_terms new_memory new_flight pair) (sym is) new few)
    (λ ne. pair-same system j (modes j) terms new_terms memory new_memory flight new_flight (pairs j)
    (λ t info here of. same t info here (λ e. ne (sym of ∙ e))) (old j few))
