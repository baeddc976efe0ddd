-- A message is taken in.
use Rattle.std.proofs.Common.{◌≡◌, ℕ, List, Option, Some, None, Bool, true, refl, sym, ap, subst, ◌∙◌}
use Rattle.std.specs.Prelude.{slice_get}
use Rattle.pw_base.proofs.Plain.{some_is}
use Rattle.pw_code.specs.declared.system.System.{System}
use Rattle.pw_code.specs.declared.system.TermInfo.{TermInfo}
use Rattle.pw_event.specs.declared.script.FailLine.{FailLine}
use Rattle.pw_code_meaning.specs.OfSystem.{behaviour}
use Rattle.pw_world_state.specs.Changes.{kept_applied}
use Rattle.pw_world_state.specs.Kept.{Kept}
use Rattle.pw_world_state.specs.Stands.{Stands, StandsForHeld, StandsForMessage, StandsForPair, StandsForSeat, StandsIfAny, works}
use Rattle.pw_world_state.proofs.Components.{apart, pair-changed, pair-of, seat-same}
use Rattle.pw_tmf.proofs.Leaving.{tells-same}
use Rattle.pw_pair.proofs.Seating.{all-at, keeps-terminal, still-there}
use Rattle.pw_world_state.proofs.Settled.{settles, terminals-work, works-settle}
use Rattle.pw_onecopy.specs.Update.{upd}
use Rattle.pw_onecopy.proofs.Update.{upd-other, upd-same, upd_elim}
use Rattle.pw_pair.specs.Bodies.{image_in}
use Rattle.pw_pair.specs.Pairs.{SeenPair, changed_at, settled}
use Rattle.pw_pair.specs.Seats.{applied, start_of, taken_in, with_kind}
use Rattle.pw_pair.specs.declared.backup.Held.{Held}
use Rattle.pw_pair.specs.declared.message.CheckKind.{CheckKind}
use Rattle.pw_pair.specs.declared.message.CheckKind.TheVariants as kind
use Rattle.pw_pair.specs.declared.seat.Flight.{Flight}
use Rattle.pw_paired.specs.Raising.{do_applied, lacks_one, settle_mode, settled_mode, with_message}
use Rattle.pw_paired.specs.State.{BackupCopy, Message, Start, End, Copy, PairMode, State, Term}

-- what is held then stands for what the paired system has then
taken : (system : System) (info : TermInfo) (t : ℕ) (flight : Option Message) (memory : Option BackupCopy) (own : Option Flight) (held : Option Held)
    → StandsIfAny (StandsForHeld system info) memory held → StandsIfAny (StandsForMessage system info (start_of held)) flight own
    → StandsIfAny (StandsForHeld system info) (with_message flight memory) (taken_in t own held)
taken system info t None memory None held m f = m
taken system info t None memory (Some own) held m f = absurd f
taken system info t (Some message) memory None held m f = absurd f
taken system info t (Some (Start unit path)) memory (Some own) held m f =
    subst (λ k. StandsIfAny (StandsForHeld system info) (with_message (Some (Start unit path)) memory) (with_kind k t own.message.unit (image_in (start_of held) own.message.body) held)) (sym f.kind_is)
    (record { unit = f.unit; start = f.image; end = tt })
taken system info t (Some (Copy unit path)) memory (Some own) held m f =
    subst (λ k. StandsIfAny (StandsForHeld system info) (with_message (Some (Copy unit path)) memory) (with_kind k t own.message.unit (image_in (start_of held) own.message.body) held)) (sym f.kind_is)
    (record { unit = f.unit; start = f.image; end = tt })
taken system info t (Some (End path)) None (Some own) None m f =
    subst (λ k. StandsIfAny (StandsForHeld system info) None (with_kind k t own.message.unit (image_in None own.message.body) None)) (sym f.kind_is) tt
taken system info t (Some (End path)) None (Some own) (Some held) m f = absurd m
taken system info t (Some (End path)) (Some copy) (Some own) None m f = absurd m
taken system info t (Some (End path)) (Some copy) (Some own) (Some held) m f =
    subst (λ k. StandsIfAny (StandsForHeld system info) (with_message (Some (End path)) (Some copy)) (with_kind k t own.message.unit (image_in (Some held.start) own.message.body) (Some held))) (sym f.kind_is)
    (record { unit = m.unit; start = m.start; end = f.image })

-- what is held then is of the terminal
kind-names : (t unit : ℕ) (image : List ℕ) (k : CheckKind) (memory : Option Held) → ((held : Held) → memory ≡ Some held → held.terminal ≡ t)
    → (held : Held) → with_kind k t unit image memory ≡ Some held → held.terminal ≡ t
kind-names t unit image kind.Start memory old held e = ap (λ (h : Held). h.terminal) (sym (some_is e))
kind-names t unit image kind.Copy memory old held e = ap (λ (h : Held). h.terminal) (sym (some_is e))
kind-names t unit image kind.End None old held e = old held e
kind-names t unit image kind.End (Some own) old held e = ap (λ (h : Held). h.terminal) (sym (some_is e)) ∙ old own refl

taken-names : (t : ℕ) (own : Option Flight) (memory : Option Held) → ((held : Held) → memory ≡ Some held → held.terminal ≡ t)
    → (held : Held) → taken_in t own memory ≡ Some held → held.terminal ≡ t
taken-names t None memory old held e = old held e
taken-names t (Some own) memory old held e = kind-names t own.message.unit _ own.message.kind memory old held e

-- the pair, before it settles
took : (system : System) (p : ℕ) (at : PairMode) (terms : ℕ → Term) (memory : ℕ → Option BackupCopy) (flight : ℕ → Option Message) (pair : SeenPair) (t : ℕ)
    → StandsForPair system p at terms memory flight pair
    → StandsForPair system p at terms (upd memory t (with_message (flight t) (memory t))) (upd flight t None) (changed_at t applied pair)
took system p at terms memory flight pair t old = record {
  mode_is = old.mode_is;
  seats = all-at (StandsForSeat system p at terms memory flight) (StandsForSeat system p at terms new none) t applied
      (λ seat is s.
      let lands : new seat.terminal ≡ with_message (flight t) (memory t) = upd-same memory t (with_message (flight t) (memory t)) seat.terminal is in
      let gone : none seat.terminal ≡ None = upd-same flight t None seat.terminal is in
      record {
        info = s.info;
        here = s.here;
        of_pair = s.of_pair;
        dropped = s.dropped;
        names = taken-names seat.terminal seat.flight seat.memory s.names;
        memory_is = subst (λ c. StandsIfAny (StandsForHeld system s.info) c (taken_in seat.terminal seat.flight seat.memory))
            (ap (λ x. with_message (flight x) (memory x)) is ∙ sym lands)
            (taken system s.info seat.terminal (flight seat.terminal) (memory seat.terminal) seat.flight seat.memory s.memory_is s.flight_is);
        flight_is = rw gone tt;
        at_rest = λ calm. gone;
      })
      (λ seat ne s. seat-same system p at terms terms memory new flight none seat
      (record { ending = refl; memory_is = upd-other memory t _ seat.terminal ne; flight_is = upd-other flight t None seat.terminal ne }) s)
      pair.seats old.seats;
  every = λ s other here of. still-there _ (keeps-terminal t applied (λ seat. refl)) s pair.seats ∙ old.every s other here of;
}
  where
    new : ℕ → Option BackupCopy
    new = upd memory t (with_message (flight t) (memory t))

    none : ℕ → Option Message
    none = upd flight t None

pub applied-stands : (system : System) (script : List FailLine) (state : State) (kept : Kept) (t : ℕ) (info : TermInfo) → Stands system script state kept → slice_get system.terminals t ≡ Some info
    → Stands system script (do_applied (behaviour script system) t state) (kept_applied info.tcp t kept)
applied-stands system script state kept t info stands there =
    subst (λ p. Stands system script (settle_mode (behaviour script system) p behind) (kept_applied info.tcp t kept)) (sym (pair-of system script t info there))
    (record {
      terminals = terminals-work system state.modes (upd state.modes info.tcp at) state.terms state.units kept.terminals
          (λ p. upd_elim state.modes info.tcp at p (λ m. works m ≡ true → works (state.modes p) ≡ true)
          (λ is now. ap (λ x. works (state.modes x)) is ∙ (sym (works-settle (state.modes info.tcp) lacks) ∙ now)) (λ ne now. now))
          stands.terminals;
      disc = tells-same (behaviour script system) state _ kept.disc refl refl refl refl refl stands.disc;
      classes = stands.classes;
      pairs = pair-changed system state.modes state.terms state.terms state.memory behind.memory state.flight behind.flight kept.pairs info.tcp at (settled (changed_at t applied (kept.pairs info.tcp)))
          (λ s other here ne. record {
            ending = refl;
            memory_is = upd-other state.memory t _ s (apart system s t other info here there ne);
            flight_is = upd-other state.flight t None s (apart system s t other info here there ne);
          })
          stands.pairs
          (λ few. settles system script info.tcp (state.modes info.tcp) behind (changed_at t applied (kept.pairs info.tcp))
          (took system info.tcp (state.modes info.tcp) state.terms state.memory state.flight (kept.pairs info.tcp) t (stands.pairs info.tcp few)));
      births = stands.births;
    })
  where
    behind : State
    behind = record state { memory = upd state.memory t (with_message (state.flight t) (state.memory t)); flight = upd state.flight t None }

    lacks : Bool
    lacks = lacks_one (behaviour script system) info.tcp behind

    at : PairMode
    at = settled_mode (state.modes info.tcp) lacks
