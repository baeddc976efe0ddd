-- A terminal ends.
use Rattle.std.proofs.Common.{◌≡◌, ℕ, List, [], ◌∷◌, Some, None, Bool, true, refl, sym, ap, subst, ◌∙◌}
use Rattle.std.specs.Prelude.{slice_get}
use Rattle.pw_code.specs.declared.system.System.{System}
use Rattle.pw_code.specs.declared.system.TermInfo.{TermInfo}
use Rattle.pw_event.specs.declared.event.Ending.{Ending}
use Rattle.pw_event.specs.declared.event.Ending.TheVariants.{Fault, Lost, NoEntries, Stopped, Suspended}
use Rattle.pw_event.specs.declared.script.FailLine.{FailLine}
use Rattle.pw_code_meaning.specs.OfSystem.{behaviour}
use Rattle.pw_world_state.specs.Changes.{at_pair, at_terminal, leave, leave_at}
use Rattle.pw_world_state.specs.Kept.{Kept}
use Rattle.pw_world_state.specs.Stands.{Stands, StandsForPair, StandsForSeat, works}
use Rattle.pw_world_state.proofs.Agreeing.{only-agrees-in, tells-alone}
use Rattle.pw_world_state.proofs.Components.{apart, pair-changed, pair-of, seat-same, terminal-changed}
use Rattle.pw_tmf.proofs.Leaving.{tells-same}
use Rattle.pw_world_state.proofs.Leaving.{left-stands}
use Rattle.pw_pair.proofs.Seating.{all-at, keeps-terminal, still-there}
use Rattle.pw_world_state.proofs.Settled.{settles, terminals-work, works-settle}
use Rattle.pw_onecopy.specs.Update.{upd}
use Rattle.pw_onecopy.proofs.Update.{upd-other, upd-same, upd_elim}
use Rattle.pw_pair.specs.Pairs.{SeenPair, after_drop, changed_at, settled}
use Rattle.pw_pair.specs.Seats.{dropped}
use Rattle.pw_paired.specs.End.{end_terminal, leave_unit_at}
use Rattle.pw_paired.specs.Raising.{lacks_one, settle_mode, settled_mode}
use Rattle.pw_paired.specs.State.{PairMode, State, Term}
use Rattle.pw_paired.specs.Units.{leave_units, only}
use Rattle.pw_tmf.specs.Leaving.{CanLeave}

-- the pair, before it settles
left : (system : System) (p : ℕ) (at : PairMode) (state : State) (pair : SeenPair) (t : ℕ) (ending : Ending)
    → StandsForPair system p at state.terms state.memory state.flight pair
    → StandsForPair system p at (end_terminal t ending state).terms (end_terminal t ending state).memory (end_terminal t ending state).flight (changed_at t dropped pair)
left system p at state pair t ending old = record {
  mode_is = old.mode_is;
  seats = all-at (StandsForSeat system p at state.terms state.memory state.flight) (StandsForSeat system p at behind.terms behind.memory behind.flight) t dropped
      (λ seat is s.
      let ends : behind.terms seat.terminal ≡ term = upd-same state.terms t term seat.terminal is in
      let no_memory : behind.memory seat.terminal ≡ None = upd-same state.memory t None seat.terminal is in
      let no_flight : behind.flight seat.terminal ≡ None = upd-same state.flight t None seat.terminal is in
      record {
        info = s.info;
        here = s.here;
        of_pair = s.of_pair;
        dropped = rw ends refl;
        names = λ held e. absurd (cc e);
        memory_is = rw no_memory tt;
        flight_is = rw no_flight tt;
        at_rest = λ calm. no_flight;
      })
      (λ seat ne s. seat-same system p at state.terms behind.terms state.memory behind.memory state.flight behind.flight seat
      (record { ending = ap (λ (x : Term). x.ending) (upd-other state.terms t term seat.terminal ne); memory_is = upd-other state.memory t None seat.terminal ne; flight_is = upd-other state.flight t None seat.terminal ne }) s)
      pair.seats old.seats;
  every = λ s other here of. still-there _ (keeps-terminal t dropped (λ seat. refl)) s pair.seats ∙ old.every s other here of;
}
  where
    behind : State
    behind = end_terminal t ending state

    term : Term
    term = record (state.terms t) { pending = None; ending = Some ending }

pub end-stands : (system : System) (script : List FailLine) (state : State) (kept : Kept) (t : ℕ) (info : TermInfo) (ending : Ending) → Stands system script state kept → slice_get system.terminals t ≡ Some info
    → Stands system script (settle_mode (behaviour script system) ((behaviour script system).pair_of t) (end_terminal t ending state))
    (at_pair info.tcp (after_drop t) (at_terminal t (λ own. record own { pending = None; ending = Some ending }) kept))
end-stands system script state kept t info ending stands there =
    subst (λ p. Stands system script (settle_mode (behaviour script system) p behind) (at_pair info.tcp (after_drop t) (at_terminal t (λ own. record own { pending = None; ending = Some ending }) kept))) (sym (pair-of system script t info there))
    (record {
      terminals = terminals-work system state.modes (upd state.modes info.tcp at) behind.terms state.units _
          (λ p. upd_elim state.modes info.tcp at p (λ m. works m ≡ true → works (state.modes p) ≡ true)
          (λ is now. ap (λ x. works (state.modes x)) is ∙ (sym (works-settle (state.modes info.tcp) lacks) ∙ now)) (λ ne now. now))
          (terminal-changed system state.modes state.terms state.units kept.terminals t term (record (kept.terminals t) { pending = None; ending = Some ending }) stands.terminals
          (λ own here.
          let old = stands.terminals t own here in
          record { path = old.path; ready = old.ready; there = λ works lives. absurd (cc lives); start = old.start; restarts = old.restarts; awaits = old.awaits; pending = refl; ending = refl }));
      disc = tells-same (behaviour script system) state _ kept.disc refl refl refl refl refl stands.disc;
      classes = stands.classes;
      pairs = pair-changed system state.modes state.terms behind.terms state.memory behind.memory state.flight behind.flight kept.pairs info.tcp at (settled (changed_at t dropped (kept.pairs info.tcp)))
          (λ s other here ne. record {
            ending = ap (λ (x : Term). x.ending) (upd-other state.terms t term s (apart system s t other info here there ne));
            memory_is = upd-other state.memory t None s (apart system s t other info here there ne);
            flight_is = upd-other state.flight t None s (apart system s t other info here there ne);
          })
          stands.pairs
          (λ few. settles system script info.tcp (state.modes info.tcp) behind (changed_at t dropped (kept.pairs info.tcp))
          (left system info.tcp (state.modes info.tcp) state (kept.pairs info.tcp) t ending (stands.pairs info.tcp few)));
      births = stands.births;
    })
  where
    behind : State
    behind = end_terminal t ending state

    term : Term
    term = record (state.terms t) { pending = None; ending = Some ending }

    lacks : Bool
    lacks = lacks_one (behaviour script system) info.tcp behind

    at : PairMode
    at = settled_mode (state.modes info.tcp) lacks

-- behind the leaving of the terminal's unit
module _ (system : System) (script : List FailLine) (state : State) (kept : Kept) (t : ℕ) (stands : Stands system script state kept) (may : CanLeave (behaviour script system) state) where
  left-alone : Stands system script (leave_units (behaviour script system) (only t) state) (leave (t ∷ []) kept)
  left-alone = left-stands system script state kept (only t) (t ∷ []) stands (only-agrees-in system state t) (tells-alone system script state kept t may stands)

  pub left-at : (ending : Ending) → Stands system script (leave_unit_at (behaviour script system) t ending state) (leave_at t ending kept)
  left-at Stopped = stands
  left-at NoEntries = left-alone
  left-at (Fault x) = left-alone
  left-at (Suspended cause) = left-alone
  left-at Lost = stands
