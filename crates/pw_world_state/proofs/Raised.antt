-- All seats of a pair are changed.
use Rattle.std.proofs.Common.{◌≡◌, ℕ, List, None, true, refl, ap, ◌∙◌}
use Rattle.pw_code.specs.declared.system.System.{System}
use Rattle.pw_event.specs.declared.script.FailLine.{FailLine}
use Rattle.pw_code_meaning.specs.OfSystem.{behaviour}
use Rattle.pw_world_state.specs.Changes.{kept_raise}
use Rattle.pw_world_state.specs.Kept.{Kept}
use Rattle.pw_world_state.specs.Stands.{Stands, StandsForPair, works}
use Rattle.pw_pair.specs.Follows.{has_flights}
use Rattle.pw_world_state.proofs.Components.{pair-changed}
use Rattle.pw_tmf.proofs.Leaving.{tells-same}
use Rattle.pw_world_state.proofs.Emptied.{emptied, with-others, with-own}
use Rattle.pw_world_state.proofs.Settled.{terminals-work}
use Rattle.pw_onecopy.proofs.Update.{upd_elim}
use Rattle.pw_onecopy.specs.Update.{upd}
use Rattle.pw_pair.specs.Pairs.{SeenPair, after_raise}
use Rattle.pw_paired.specs.Raising.{do_raise}
use Rattle.pw_paired.specs.State.{Alone, Raising, State}

raised : (system : System) (script : List FailLine) (p : ℕ) (state : State) (pair : SeenPair) → state.modes p ≡ Alone
    → StandsForPair system p (state.modes p) state.terms state.memory state.flight pair
    → StandsForPair system p Raising state.terms (do_raise (behaviour script system) p state).memory state.flight (after_raise pair)
raised system script p state pair alone old =
    emptied system p (state.modes p) Raising state.terms state.terms state.memory _ state.flight state.flight pair
    (λ seat s. record {
      ending = refl;
      memory_is = with-own system script p seat.terminal s.info None (state.memory seat.terminal) s.here s.of_pair;
      flight_is = s.at_rest (ap has_flights alone);
    }) old

pub raise-stands : (system : System) (script : List FailLine) (state : State) (kept : Kept) (p : ℕ) → Stands system script state kept → state.modes p ≡ Alone
    → Stands system script (do_raise (behaviour script system) p state) (kept_raise p kept)
raise-stands system script state kept p stands alone = record {
  terminals = terminals-work system state.modes (upd state.modes p Raising) state.terms state.units kept.terminals
      (λ q. upd_elim state.modes p Raising q (λ m. works m ≡ true → works (state.modes q) ≡ true)
      (λ is now. ap (λ x. works (state.modes x)) is ∙ ap works alone) (λ ne now. now))
      stands.terminals;
  disc = tells-same (behaviour script system) state _ kept.disc refl refl refl refl refl stands.disc;
  classes = stands.classes;
  pairs = pair-changed system state.modes state.terms state.terms state.memory _ state.flight state.flight kept.pairs p Raising (after_raise (kept.pairs p))
      (λ s other here ne. record { ending = refl; memory_is = with-others system script p s other None (state.memory s) here ne; flight_is = refl })
      stands.pairs
      (λ few. raised system script p state (kept.pairs p) alone (stands.pairs p few));
  births = stands.births;
}
