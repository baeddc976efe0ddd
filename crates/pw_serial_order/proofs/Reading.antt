-- The order of a run, entry by entry.
use Rattle.std.proofs.Common.{◌≡◌, ℕ, ◌<◌, Bool, true, List, [], ◌∷◌, ◌++◌, length, map, Some, None, refl, ap, sym, subst, subst₂, ◌∙◌, append-nil, append_assoc, arith}
use Rattle.std.proofs.lemmas.List.{length-map}
use Rattle.std.proofs.lemmas.Option.{slice_get-map, slice_get-get_or}
use Rattle.std.specs.Prelude.{slice_get, slice_index_or}
use Rattle.std.specs.Option.{option_map}
use Rattle.pw_code.specs.declared.system.System.{System}
use Rattle.pw_code.specs.declared.system.TermInfo.{TermInfo}
use Rattle.pw_event.specs.Line.{no_terminal}
use Rattle.pw_event.specs.declared.event.Event.{Event}
use Rattle.pw_onecopy.specs.Behaviour.{Behaviour}
use Rattle.pw_onecopy.specs.IsBehaviour.{IsBehaviour}
use Rattle.pw_onecopy.specs.Blocks as one
use Rattle.pw_serial_order.proofs.Giving.{left-told, told-append}
use Rattle.pw_serial_order.proofs.Seating.{rested-twice, seat-behind}
use Rattle.pw_serial_order.proofs.Standing.{gives, keeps}
use Rattle.pw_serial_order.specs.Entries.{Shadow, all_left, blocks_given, left_to, shadow_behind}
use Rattle.pw_serial_order.specs.Order.{blocks_behind, entry_order, last_order, told}
use Rattle.pw_serial_order.specs.Pairs.{is_seat_of_pair}
use Rattle.pw_serial_order.specs.Seats.{new_seat, rested}
use Rattle.pw_serial_order.specs.Shadow.{IsOfSystem, IsOneSendFlag, ShadowStands, ShadowStandsAt, reading_after, reading_from, seat_of}
use Rattle.pw_serial_order.specs.declared.block.Block.{Block}
use Rattle.pw_serial_order.specs.declared.pair.OrderMode as order
use Rattle.pw_serial_order.specs.declared.pair.OrderMode.TheVariants as mode
use Rattle.pw_serial_order.specs.declared.seat.OrderSeat.{OrderSeat}
use Rattle.pw_paired.specs.Serial.{Reading, blocks, blocks_of, entry_blocks_from, last_blocks_from, left_blocks, read_on, reading_starts}
use Rattle.pw_paired.specs.State.{State, starting}
use Rattle.pw_paired.specs.Step.{IsRun, after, after_from, effect}
use Rattle.pw_laws.proofs.Lacking.{lacking}
use Rattle.pw_laws.proofs.RunSteps.{IsRunFrom-split}
use Rattle.pw_laws.proofs.induction.Runs.{after-more, kept}

module _ (sys : Behaviour) where
  reading-from-more : (s : State) (r : Reading) (log : List Event) (entry : Event)
      → reading_from sys s r (log ++ entry ∷ []) ≡ read_on sys (after_from sys s log) entry (reading_from sys s r log)
  reading-from-more s r [] entry = refl
  reading-from-more s r (first ∷ log) entry = reading-from-more (effect sys s first) (read_on sys s first r) log entry

  -- the reading behind one entry more
  pub reading-more : (log : List Event) (entry : Event) → reading_after sys (log ++ entry ∷ []) ≡ read_on sys (after sys log) entry (reading_after sys log)
  reading-more log entry = reading-from-more (starting sys) reading_starts log entry

  -- the longest path counts the path where no attempt runs
  rests : (s : State) (r : Reading) → ((t : ℕ) → rested (seat_of sys s r t) ≡ seat_of sys s r t) → (log : List Event) (t : ℕ)
      → rested (seat_of sys (after_from sys s log) (reading_from sys s r log) t) ≡ seat_of sys (after_from sys s log) (reading_from sys s r log) t
  rests s r now [] t = now t
  rests s r now (entry ∷ log) t =
      rests (effect sys s entry) (read_on sys s entry r)
      (λ k. let is = seat-behind sys (effect sys s entry) (read_on sys s entry r) r.longest k refl in ap rested is ∙ (rested-twice _ ∙ sym is)) log t

  pub rest : (log : List Event) (t : ℕ) → rested (seat_of sys (after sys log) (reading_after sys log) t) ≡ seat_of sys (after sys log) (reading_after sys log) t
  rest log t = rests (starting sys) reading_starts (λ k. refl) log t

  pub last-from : (s : State) (r : Reading) (log : List Event) → last_blocks_from sys s r log ≡ left_blocks (after_from sys s log) (reading_from sys s r log) (λ t. true) sys.terminals
  last-from s r [] = refl
  last-from s r (entry ∷ log) = last-from (effect sys s entry) (read_on sys s entry r) log

module _ (sys : Behaviour) (b : IsBehaviour sys) where
  -- one entry more of a run
  pub reads : (log : List Event) (entry : Event) (one_send : Bool) (shadow next : Shadow) (before behind : List Block)
      → IsRun sys (log ++ entry ∷ []) → IsOneSendFlag sys (after sys log) entry one_send → ShadowStands sys log shadow
      → next ≡ shadow_behind one_send entry shadow → behind ≡ before ++ blocks_given shadow entry
      → ShadowStands sys (log ++ entry ∷ []) next × (behind ≡ before ++ blocks_behind sys log entry)
  reads log entry one_send shadow next before behind run is_told stands is gave =
      let both = IsRunFrom-split sys (starting sys) log (entry ∷ []) run in
      let i = kept sys b log both.0 in
      let s : State = after sys log in
      let r : Reading = reading_after sys log in (
        subst₂ (λ (x : State) (y : Reading). ShadowStandsAt sys x y next) (sym (after-more sys log entry)) (sym (reading-more sys log entry))
            (subst (ShadowStandsAt sys (effect sys s entry) (read_on sys s entry r)) (sym is)
            (keeps sys b s i r (rest sys log) shadow stands (λ p. lacking sys p log both.0) entry one_send both.1.0.fits is_told)),
        gave ∙ ap (λ (l : List Block). before ++ l) (sym (gives sys b s i r (rest sys log) shadow stands (λ p. lacking sys p log both.0) entry both.1.0.fits)),
      )

-- the end of a log
pub closes : (sys : Behaviour) (log : List Event) (shadow : Shadow) (before behind : List Block) → ShadowStands sys log shadow
    → behind ≡ before ++ all_left (is_seat_of_pair None) shadow.seats → behind ≡ before ++ last_order sys log
closes sys log shadow before behind stands is =
    is ∙ ap (λ (l : List Block). before ++ l)
    (sym (ap (map told) (last-from sys (starting sys) reading_starts log)
    ∙ (left-told sys (after sys log) (reading_after sys log) (λ t. true) (is_seat_of_pair None) shadow.seats sys.terminals stands.seat (λ t known. refl)
    ∙ ap (left_to (is_seat_of_pair None) shadow.seats) (sym stands.seats))))

-- the start
pub begins : (system : System) (sys : Behaviour) (shadow : Shadow) → IsOfSystem system sys
    → shadow.seats ≡ map (λ terminal. new_seat terminal.tcp) system.terminals → shadow.modes ≡ map (λ name. mode.Alone) system.tcps → ShadowStands sys [] shadow
begins system sys shadow of seats modes = record {
  seats = ap length seats ∙ (length-map system.terminals (λ (terminal : TermInfo). new_seat terminal.tcp) ∙ sym of.terminals);
  seat = λ t known.
      let within : t < length system.terminals = omega (arith, of.terminals, known) in
      ap (λ (l : List OrderSeat). slice_get l t) seats
      ∙ (slice_get-map (λ (terminal : TermInfo). new_seat terminal.tcp) system.terminals t
      ∙ (ap (option_map (λ (terminal : TermInfo). new_seat terminal.tcp)) (there system.terminals t within)
      ∙ ap (λ (p : ℕ). Some (new_seat p)) (of.pair_of t within)));
  modes = ap length modes ∙ (length-map system.tcps (λ (name : List ℕ). mode.Alone) ∙ sym of.pairs);
  mode = λ p known.
      let within : p < length system.tcps = omega (arith, of.pairs, known) in
      ap (λ (l : List order.OrderMode). slice_get l p) modes
      ∙ (slice_get-map (λ (name : List ℕ). mode.Alone) system.tcps p ∙ ap (option_map (λ (name : List ℕ). mode.Alone)) (named system.tcps p within));
}
  where
    there : (terminals : List TermInfo) (t : ℕ) → t < length terminals → slice_get terminals t ≡ Some (slice_index_or terminals t no_terminal)
    there terminals t within = slice_get-get_or terminals t no_terminal within

    named : (names : List (List ℕ)) (p : ℕ) → p < length names → slice_get names p ≡ Some (slice_index_or names p [])
    named names p within = slice_get-get_or names p [] within

-- the blocks with one entry more
entry-blocks-more : (sys : Behaviour) (s : State) (r : Reading) (log : List Event) (entry : Event)
    → entry_blocks_from sys s r (log ++ entry ∷ []) ≡ entry_blocks_from sys s r log ++ blocks_of sys (after_from sys s log) (reading_from sys s r log) entry
entry-blocks-more sys s r [] entry = append-nil (blocks_of sys s r entry)
entry-blocks-more sys s r (first ∷ log) entry =
    ap (λ (l : List one.SerialBlock). blocks_of sys s r first ++ l) (entry-blocks-more sys (effect sys s first) (read_on sys s first r) log entry)
    ∙ sym (append_assoc (blocks_of sys s r first) (entry_blocks_from sys (effect sys s first) (read_on sys s first r) log)
    (blocks_of sys (after_from sys (effect sys s first) log) (reading_from sys (effect sys s first) (read_on sys s first r) log) entry))

pub order-grows : (sys : Behaviour) (log : List Event) (entry : Event) → entry_order sys (log ++ entry ∷ []) ≡ entry_order sys log ++ blocks_behind sys log entry
order-grows sys log entry =
    ap (map told) (entry-blocks-more sys (starting sys) reading_starts log entry)
    ∙ told-append (entry_blocks_from sys (starting sys) reading_starts log) (blocks_of sys (after sys log) (reading_after sys log) entry)

pub order-whole : (sys : Behaviour) (log : List Event) → entry_order sys log ++ last_order sys log ≡ map told (blocks sys log)
order-whole sys log = sym (told-append (entry_blocks_from sys (starting sys) reading_starts log) (last_blocks_from sys (starting sys) reading_starts log))
