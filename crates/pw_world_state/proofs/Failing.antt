-- A member of a pair fails.
use Rattle.std.proofs.Common.{◌≡◌, ◌≢◌, ℕ, ◌<◌, List, Option, None, Bool, true, false, cond, refl, sym, ap, subst, ◌∙◌, length, ⊎_elim, true≢false}
use Rattle.std.proofs.lemmas.Bool.{cases_eq, eq-eqb, ne_eqb}
use Rattle.pw_code.specs.declared.system.System.{System}
use Rattle.pw_event.specs.declared.script.FailLine.{FailLine}
use Rattle.pw_code_meaning.specs.OfSystem.{behaviour}
use Rattle.pw_world_state.specs.Changes.{at_each, at_pair, backup_lost, cancel, kept_fail_tcp, leave, primary_lost, without_path}
use Rattle.pw_world_state.specs.Kept.{Kept, KeptTerminal}
use Rattle.pw_world_state.specs.Members.{AreOf}
use Rattle.pw_world_state.specs.Stands.{Stands, StandsForPair, works}
use Rattle.pw_pair.specs.Follows.{mode_as}
use Rattle.pw_world_state.proofs.Among.{among-is}
use Rattle.pw_world_state.proofs.Components.{TerminalsStand, pair-changed, pair-of}
use Rattle.pw_tmf.proofs.Leaving.{tells-same}
use Rattle.pw_world_state.proofs.Emptied.{emptied, grounded, with-others, with-own}
use Rattle.pw_world_state.proofs.Settled.{terminals-work}
use Rattle.pw_onecopy.specs.Update.{upd}
use Rattle.pw_onecopy.proofs.Update.{upd-other, upd-same, upd_elim}
use Rattle.pw_pair.specs.Pairs as pair
use Rattle.pw_pair.specs.Pairs.{in_mode}
use Rattle.pw_pair.specs.Seats.{without_backup, without_flight}
use Rattle.pw_paired.specs.Failure as paired
use Rattle.pw_paired.specs.Failure.{backup_fails, do_fail_tcp, is_of_pair, lose_backup, lose_pair, lose_primary, primary_fails}
use Rattle.pw_paired.specs.State.{PairMode, Alone, Raising, Paired, Down, Gone, OpenUnit, State, Term}
use Rattle.pw_paired.specs.Units.{cancel_requests, leave_units}
use Rattle.pw_tmf.specs.Leaving.{is_among}

-- a terminal whose path is gone keeps its ending
ending-kept : (b : Bool) (term : Term) → (cond b (paired.without_path term) term).ending ≡ term.ending
ending-kept true term = refl
ending-kept false term = refl

module _ (system : System) (script : List FailLine) (p : ℕ) (terminals : List ℕ) (are : AreOf system p terminals) (few : p < length system.tcps) where
  abbrev pub own : ℕ → Bool
  own = is_of_pair (behaviour script system) p

  -- paths of the pair's terminals are gone
  paths-gone : (modes : ℕ → PairMode) (at : PairMode) (terms : ℕ → Term) (units : ℕ → Option OpenUnit) (kept : ℕ → KeptTerminal) → works at ≡ false → TerminalsStand system modes terms units kept
      → TerminalsStand system (upd modes p at) (λ t. cond (own t) (paired.without_path (terms t)) (terms t)) units (λ t. cond (is_among terminals t) (without_path (kept t)) (kept t))
  paths-gone modes at terms units kept idle old t info here =
      ⊎_elim
      (λ of.
      let o = old t info here in
      let mode : upd modes p at info.tcp ≡ at = upd-same modes p at info.tcp of in
      let mine : own t ≡ true = eq-eqb _ _ (pair-of system script t info here ∙ of) in
      let among : is_among terminals t ≡ true = are.every t info here of in
      rw (mode, mine, among) (record {
        path = refl;
        ready = tt;
        there = λ working lives. absurd (true≢false (sym working ∙ idle));
        start = o.start;
        restarts = o.restarts;
        awaits = o.awaits;
        pending = refl;
        ending = o.ending;
      }))
      (λ ne.
      let mode : upd modes p at info.tcp ≡ modes info.tcp = upd-other modes p at info.tcp ne in
      let other : own t ≡ false = ne_eqb _ _ (λ e. ne (sym (pair-of system script t info here) ∙ e)) in
      let apart : is_among terminals t ≡ false = among-is system p terminals are t info here ∙ ne_eqb info.tcp p ne in
      rw (mode, other, apart) (old t info here))
      (cases_eq info.tcp p)

  -- Down
  pub primary-lost : (state : State) (kept : Kept) → Stands system script state kept → Stands system script (cancel_requests own state) (cancel terminals kept)
      → Stands system script (lose_primary (behaviour script system) p state) (at_pair p (in_mode (mode_as Down) without_flight) (at_each terminals (λ t. without_path) (cancel terminals kept)))
  primary-lost state kept stands cancelled = record {
    terminals = paths-gone state.modes Down state.terms state.units kept.terminals refl cancelled.terminals;
    disc = tells-same (behaviour script system) state behind kept.disc refl refl refl refl refl stands.disc;
    classes = cancelled.classes;
    pairs = pair-changed system state.modes state.terms behind.terms state.memory state.memory state.flight behind.flight kept.pairs p Down (in_mode (mode_as Down) without_flight (kept.pairs p))
        (λ t info here ne. record { ending = ending-kept (own t) (state.terms t); memory_is = refl; flight_is = with-others system script p t info None (state.flight t) here ne })
        stands.pairs
        (λ low. grounded system p (state.modes p) Down state.terms behind.terms state.memory state.memory state.flight behind.flight (kept.pairs p)
        (λ seat s. record {
          ending = ending-kept (own seat.terminal) (state.terms seat.terminal);
          memory_is = refl;
          flight_is = with-own system script p seat.terminal s.info None (state.flight seat.terminal) s.here s.of_pair;
        }) (stands.pairs p low));
    births = stands.births;
  }
    where
      behind : State
      behind = lose_primary (behaviour script system) p state

  -- Gone
  pub pair-lost : (state : State) (kept : Kept) → Stands system script state kept → Stands system script (leave_units (behaviour script system) own state) (leave terminals kept)
      → Stands system script (lose_pair (behaviour script system) p state) (at_pair p (in_mode (mode_as Gone) without_backup) (at_each terminals (λ t. without_path) (leave terminals kept)))
  pair-lost state kept stands left = record {
    terminals = paths-gone state.modes Gone state.terms _ _ refl left.terminals;
    disc = tells-same (behaviour script system) (leave_units (behaviour script system) own state) behind _ refl refl refl refl refl left.disc;
    classes = left.classes;
    pairs = pair-changed system state.modes state.terms behind.terms state.memory behind.memory state.flight behind.flight kept.pairs p Gone (in_mode (mode_as Gone) without_backup (kept.pairs p))
        (λ t info here ne. record {
          ending = ending-kept (own t) (state.terms t);
          memory_is = with-others system script p t info None (state.memory t) here ne;
          flight_is = with-others system script p t info None (state.flight t) here ne;
        })
        stands.pairs
        (λ low. emptied system p (state.modes p) Gone state.terms behind.terms state.memory behind.memory state.flight behind.flight (kept.pairs p)
        (λ seat s. record {
          ending = ending-kept (own seat.terminal) (state.terms seat.terminal);
          memory_is = with-own system script p seat.terminal s.info None (state.memory seat.terminal) s.here s.of_pair;
          flight_is = with-own system script p seat.terminal s.info None (state.flight seat.terminal) s.here s.of_pair;
        }) (stands.pairs p low));
    births = left.births;
  }
    where
      behind : State
      behind = lose_pair (behaviour script system) p state

  -- Alone
  pub backup-lost : (state : State) (kept : Kept) → works (state.modes p) ≡ true → Stands system script state kept
      → Stands system script (lose_backup (behaviour script system) p state) (at_pair p (in_mode (mode_as Alone) without_backup) kept)
  backup-lost state kept working stands = record {
    terminals = terminals-work system state.modes (upd state.modes p Alone) state.terms state.units kept.terminals
        (λ q. upd_elim state.modes p Alone q (λ m. works m ≡ true → works (state.modes q) ≡ true)
        (λ is now. ap (λ x. works (state.modes x)) is ∙ working) (λ ne now. now))
        stands.terminals;
    disc = tells-same (behaviour script system) state behind kept.disc refl refl refl refl refl stands.disc;
    classes = stands.classes;
    pairs = pair-changed system state.modes state.terms state.terms state.memory behind.memory state.flight behind.flight kept.pairs p Alone (in_mode (mode_as Alone) without_backup (kept.pairs p))
        (λ t info here ne. record {
          ending = refl;
          memory_is = with-others system script p t info None (state.memory t) here ne;
          flight_is = with-others system script p t info None (state.flight t) here ne;
        })
        stands.pairs
        (λ low. emptied system p (state.modes p) Alone state.terms state.terms state.memory behind.memory state.flight behind.flight (kept.pairs p)
        (λ seat s. record {
          ending = refl;
          memory_is = with-own system script p seat.terminal s.info None (state.memory seat.terminal) s.here s.of_pair;
          flight_is = with-own system script p seat.terminal s.info None (state.flight seat.terminal) s.here s.of_pair;
        }) (stands.pairs p low));
    births = stands.births;
  }
    where
      behind : State
      behind = lose_backup (behaviour script system) p state

  -- nothing happens
  pub same-pair : (state : State) (kept : Kept) → Stands system script state kept → Stands system script state (at_pair p (λ seen. seen) kept)
  same-pair state kept stands = record {
    terminals = stands.terminals;
    disc = stands.disc;
    classes = stands.classes;
    pairs = λ q low. upd_elim kept.pairs p (kept.pairs p) q (StandsForPair system q (state.modes q) state.terms state.memory state.flight)
        (λ is. subst (λ x. StandsForPair system q (state.modes q) state.terms state.memory state.flight (kept.pairs x)) is (stands.pairs q low))
        (λ ne. stands.pairs q low);
    births = stands.births;
  }

  module _ (state : State) (kept : Kept) (stands : Stands system script state kept) (cancelled : Stands system script (cancel_requests own state) (cancel terminals kept)) (left : Stands system script (leave_units (behaviour script system) own state) (leave terminals kept)) where
    primary : (m : PairMode) → state.modes p ≡ m → Stands system script (primary_fails (behaviour script system) p m state) (at_pair p (pair.primary_fails (mode_as m)) (primary_lost (mode_as m) terminals kept))
    primary Paired is = primary-lost state kept stands cancelled
    primary Raising is = pair-lost state kept stands left
    primary Alone is = pair-lost state kept stands left
    primary Down is = same-pair state kept stands
    primary Gone is = same-pair state kept stands

    backup : (m : PairMode) → state.modes p ≡ m → Stands system script (backup_fails (behaviour script system) p m state) (at_pair p (pair.backup_fails (mode_as m)) (backup_lost (mode_as m) terminals kept))
    backup Paired is = backup-lost state kept (ap works is) stands
    backup Raising is = backup-lost state kept (ap works is) stands
    backup Alone is = same-pair state kept stands
    backup Down is = pair-lost state kept stands left
    backup Gone is = same-pair state kept stands

    pub fails-stands : (primary_is : Bool) → Stands system script (do_fail_tcp (behaviour script system) p primary_is state) (kept_fail_tcp p primary_is terminals kept)
    fails-stands true =
        subst (λ m. Stands system script (primary_fails (behaviour script system) p (state.modes p) state) (at_pair p (pair.primary_fails m) (primary_lost m terminals kept))) (sym (stands.pairs p few).mode_is)
        (primary (state.modes p) refl)
    fails-stands false =
        subst (λ m. Stands system script (backup_fails (behaviour script system) p (state.modes p) state) (at_pair p (pair.backup_fails m) (backup_lost m terminals kept))) (sym (stands.pairs p few).mode_is)
        (backup (state.modes p) refl)
