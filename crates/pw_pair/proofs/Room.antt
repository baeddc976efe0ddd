-- There is room as before.
use Rattle.std.proofs.Common.{◌≡◌, ℕ, Bool, true, false, ◌||◌, cond, is_some, List, [], ◌∷◌, map, Option, Some, None, refl, sym, subst, ◌∙◌, arith}
use Rattle.std.specs.Global.{Vec}
use Rattle.std.specs.List.{list_any}
use Rattle.std.specs.Prelude.{vec_capacity}
use Rattle.std.proofs.lemmas.Bool.{false≢true, true≢false}
use Rattle.std.proofs.lemmas.List.{length-map}
use Rattle.pw_pair.specs.Rooms.{FitsIn, HasEmptyRoom, IsStill, is_used}
use Rattle.pw_pair.specs.Seats.{applied, at_terminal, built, dropped, is_flying, is_seat_of, put_each, start_of, taken_in, with_held, with_whole, without_backup, without_flight}
use Rattle.pw_pair.specs.declared.backup.Held.{Held}
use Rattle.pw_pair.specs.declared.mode.Mode.{Mode}
use Rattle.pw_pair.specs.declared.mode.Mode.TheVariants.{Alone, Raising, Paired, Down, Gone}
use Rattle.pw_pair.specs.declared.seat.Flight.{Flight}
use Rattle.pw_pair.specs.declared.seat.BackupSeat.{BackupSeat}
use Rattle.pw_pair.proofs.At.{count-least}

fits-map : (mode : Mode) (change : BackupSeat → BackupSeat) (seats : List BackupSeat) (capacity : ℕ) → ((seat : BackupSeat) → is_used (change seat) ≡ true → is_used seat ≡ true)
    → FitsIn mode seats capacity → FitsIn mode (map change seats) capacity
fits-map Raising change seats capacity least h = omega (arith, length-map seats change)
fits-map Paired change seats capacity least h = omega (arith, length-map seats change)
fits-map Down change seats capacity least h = omega (arith, count-least is_used change least seats)
fits-map Alone change seats capacity least h = tt
fits-map Gone change seats capacity least h = tt

-- none passes where none did
any-least : (test : BackupSeat → Bool) (change : BackupSeat → BackupSeat) → ((seat : BackupSeat) → test (change seat) ≡ true → test seat ≡ true) → (seats : List BackupSeat)
    → list_any test seats ≡ false → list_any test (map change seats) ≡ false
any-least test change least [] h = refl
any-least test change least (seat ∷ seats) h = by (test (change seat)) (test seat) refl refl h (any-least test change least seats)
  where
    by : (now was : Bool) → test (change seat) ≡ now → test seat ≡ was → (was || list_any test seats) ≡ false
        → (list_any test seats ≡ false → list_any test (map change seats) ≡ false) → (now || list_any test (map change seats)) ≡ false
    by true true is was k rest = absurd (true≢false k)
    by true false is was k rest = absurd (false≢true (sym was ∙ least seat is))
    by false true is was k rest = absurd (true≢false k)
    by false false is was k rest = rest k

still-map : (mode : Mode) (change : BackupSeat → BackupSeat) (seats : List BackupSeat) → ((seat : BackupSeat) → is_flying (change seat) ≡ true → is_flying seat ≡ true)
    → IsStill mode seats → IsStill mode (map change seats)
still-map Raising change seats calm h = tt
still-map Paired change seats calm h = tt
still-map Down change seats calm h = any-least is_flying change calm seats h
still-map Alone change seats calm h = tt
still-map Gone change seats calm h = tt

-- where each seat uses room and has a message in flight only if it did
pub room-map : (mode : Mode) (change : BackupSeat → BackupSeat) (seats new : List BackupSeat) (room : Vec Held) → ((seat : BackupSeat) → is_used (change seat) ≡ true → is_used seat ≡ true)
    → ((seat : BackupSeat) → is_flying (change seat) ≡ true → is_flying seat ≡ true) → HasEmptyRoom mode seats room → new ≡ map change seats → HasEmptyRoom mode new room
room-map mode change seats new room least calm h e =
    let P : List BackupSeat → Type 0 = λ l. FitsIn mode l (vec_capacity room) in
    record {
      empty = h.empty;
      fits = subst P (sym e) (fits-map mode change seats (vec_capacity room) least h.fits);
      still = subst (IsStill mode) (sym e) (still-map mode change seats calm h.still);
    }

at-least : (t : ℕ) (change : BackupSeat → BackupSeat) → ((seat : BackupSeat) → is_used (change seat) ≡ true → is_used seat ≡ true) → (seat : BackupSeat) (b : Bool)
    → is_used (cond b (change seat) seat) ≡ true → is_used seat ≡ true
at-least t change least seat true h = least seat h
at-least t change least seat false h = h

at-calm : (change : BackupSeat → BackupSeat) → ((seat : BackupSeat) → is_flying (change seat) ≡ true → is_flying seat ≡ true) → (seat : BackupSeat) (b : Bool)
    → is_flying (cond b (change seat) seat) ≡ true → is_flying seat ≡ true
at-calm change calm seat true h = calm seat h
at-calm change calm seat false h = h

pub room-at : (mode : Mode) (t : ℕ) (change : BackupSeat → BackupSeat) (seats new : List BackupSeat) (room : Vec Held) → ((seat : BackupSeat) → is_used (change seat) ≡ true → is_used seat ≡ true)
    → ((seat : BackupSeat) → is_flying (change seat) ≡ true → is_flying seat ≡ true) → HasEmptyRoom mode seats room → new ≡ at_terminal t change seats → HasEmptyRoom mode new room
room-at mode t change seats new room least calm h e =
    room-map mode (λ seat. cond (is_seat_of t seat) (change seat) seat) seats new room (λ seat used. at-least t change least seat (is_seat_of t seat) used)
    (λ seat flies. at-calm change calm seat (is_seat_of t seat) flies) h e

taken-used : (terminal : ℕ) (flight : Option Flight) (memory : Option Held) → (is_some (taken_in terminal flight memory) || false) ≡ true
    → (is_some memory || is_some flight) ≡ true
taken-used terminal None None h = h
taken-used terminal None (Some held) h = refl
taken-used terminal (Some flight) None h = refl
taken-used terminal (Some flight) (Some held) h = refl

pub applied-used : (seat : BackupSeat) → is_used (applied seat) ≡ true → is_used seat ≡ true
applied-used seat h = taken-used seat.terminal seat.flight seat.memory h

pub dropped-used : (seat : BackupSeat) → is_used (dropped seat) ≡ true → is_used seat ≡ true
dropped-used seat h = absurd (false≢true h)

whole-used : (start : Option (List ℕ)) (memory : Option Held) (flight : Option Flight) → (is_some memory || is_some (with_whole start flight)) ≡ true
    → (is_some memory || is_some flight) ≡ true
whole-used start memory None h = h
whole-used start None (Some flight) h = refl
whole-used start (Some held) (Some flight) h = refl

pub built-used : (seat : BackupSeat) → is_used (built seat) ≡ true → is_used seat ≡ true
built-used seat h = whole-used (start_of seat.memory) seat.memory seat.flight h

-- ---- messages in flight

pub applied-calm : (seat : BackupSeat) → is_flying (applied seat) ≡ true → is_flying seat ≡ true
applied-calm seat h = absurd (false≢true h)

pub dropped-calm : (seat : BackupSeat) → is_flying (dropped seat) ≡ true → is_flying seat ≡ true
dropped-calm seat h = absurd (false≢true h)

whole-calm : (start : Option (List ℕ)) (flight : Option Flight) → is_some (with_whole start flight) ≡ true → is_some flight ≡ true
whole-calm start None h = h
whole-calm start (Some flight) h = refl

pub built-calm : (seat : BackupSeat) → is_flying (built seat) ≡ true → is_flying seat ≡ true
built-calm seat h = whole-calm (start_of seat.memory) seat.flight h

-- nothing is in flight where it was dropped from each seat
pub none-flies : (seats : List BackupSeat) → list_any is_flying (map without_flight seats) ≡ false
none-flies [] = refl
none-flies (seat ∷ seats) = none-flies seats

held-calm : (held : Held) (b : Bool) (seat : BackupSeat) → is_flying seat ≡ false → is_flying (cond b (with_held held seat) seat) ≡ false
held-calm held true seat h = refl
held-calm held false seat h = h

put-calm : (images : List Held) (seat : BackupSeat) → is_flying seat ≡ false → is_flying (put_each images seat) ≡ false
put-calm [] seat h = h
put-calm (held ∷ images) seat h =
    held-calm held (is_seat_of held.terminal (put_each images seat)) (put_each images seat) (put-calm images seat h)

-- nor where a memory is put into seats without a backup
pub none-flies-put : (images : List Held) (seats : List BackupSeat) → list_any is_flying (map (put_each images) (map without_backup seats)) ≡ false
none-flies-put images [] = refl
none-flies-put images (seat ∷ seats) =
    let own : is_flying (put_each images (without_backup seat)) ≡ false = put-calm images (without_backup seat) refl in
    rw own (none-flies-put images seats)
