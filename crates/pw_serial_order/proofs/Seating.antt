-- What is kept of a terminal, from its parts in a state.
use Rattle.std.proofs.Common.{◌≡◌, ℕ, Bool, true, false, max, is_none, length, Option, Some, None, if◌then◌else◌, refl, ap, sym, ◌∙◌, arith}
use Rattle.std.specs.Option.{option_map}
use Rattle.pw_onecopy.specs.Behaviour.{Behaviour}
use Rattle.pw_serial_order.specs.Seats.{is_idle, rested, running_of}
use Rattle.pw_serial_order.specs.Shadow.{flight_of, held_of, mark_of, open_of, seat_of}
use Rattle.pw_serial_order.specs.declared.seat.OrderSeat.{OrderSeat}
use Rattle.pw_paired.specs.Serial.{Reading, longest_with}
use Rattle.pw_paired.specs.State.{BackupCopy, Message, OpenUnit, State, Term}
use Rattle.pw_paired.specs.Units.{attempt_of}

-- the seat of these parts
abbrev pub seat_with : ℕ → ℕ → Option OpenUnit → Option BackupCopy → Option Message → Term → ℕ → OrderSeat
seat_with tcp last unit memory flight term longest = record {
  tcp = tcp;
  live = is_none term.ending;
  path = mark_of term.path;
  longest = longest;
  last = last;
  unit = option_map open_of unit;
  memory = option_map held_of memory;
  flight = option_map flight_of flight;
}

-- the same of equal parts
pub seat-is : {tcp : ℕ} {last last' : ℕ} {unit unit' : Option OpenUnit} {memory memory' : Option BackupCopy} {flight flight' : Option Message} {term term' : Term} {longest : ℕ}
    → last' ≡ last → unit' ≡ unit → memory' ≡ memory → flight' ≡ flight → term' ≡ term
    → seat_with tcp last' unit' memory' flight' term' longest ≡ seat_with tcp last unit memory flight term longest
seat-is l u m f x = rw (l, u, m, f, x) refl

-- a terminal that stays
pub the-term : (term : Term) → term ≡ term
the-term term = refl

-- the start path of the running attempt
pub running-is : (unit : Option OpenUnit) → running_of (option_map open_of unit) ≡ option_map mark_of (attempt_of unit)
running-is None = refl
running-is (Some unit) = refl

none-mapped : {A B : Type 0} (f : A → B) (x : Option A) → is_none (option_map f x) ≡ is_none x
none-mapped f None = refl
none-mapped f (Some a) = refl

-- whether one runs
pub idle-is : (unit : Option OpenUnit) → is_none (running_of (option_map open_of unit)) ≡ is_none (attempt_of unit)
idle-is unit = ap is_none (running-is unit) ∙ none-mapped mark_of (attempt_of unit)

module _ (sys : Behaviour) where
  -- behind an entry the longest path counts the path where no attempt runs
  pub seat-behind : (next : State) (reading : Reading) (longest : ℕ → ℕ) (t : ℕ) → reading.longest ≡ longest_with next longest
      → seat_of sys next reading t ≡ rested (seat_with (sys.pair_of t) (next.ended t).number (next.units t) (next.memory t) (next.flight t) (next.terms t) (longest t))
  seat-behind next reading longest t is =
      ap (λ (f : ℕ → ℕ). seat_with (sys.pair_of t) (next.ended t).number (next.units t) (next.memory t) (next.flight t) (next.terms t) (f t)) is
      ∙ ap (λ (b : Bool). seat_with (sys.pair_of t) (next.ended t).number (next.units t) (next.memory t) (next.flight t) (next.terms t)
      (if b then max (longest t) (length (next.terms t).path) else longest t)) (sym (idle-is (next.units t)))

twice : (b : Bool) (a n : ℕ) → (if b then max (if b then max a n else a) n else (if b then max a n else a)) ≡ (if b then max a n else a)
twice true a n = omega arith
twice false a n = refl

-- it counts once
pub rested-twice : (seat : OrderSeat) → rested (rested seat) ≡ rested seat
rested-twice seat = ap (λ (n : ℕ). record seat { longest = n }) (twice (is_idle seat) seat.longest seat.path.answers)
