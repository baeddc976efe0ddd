-- A memory that leaves and is put back leaves what was.
use Rattle.std.proofs.Common.{◌≡◌, ℕ, zero, suc, ◌<◌, ◌==◌, ◌||◌, Bool, true, false, cond, List, [], ◌∷◌, length, get_or, map, Option, Some, None, refl, sym, ap, ap₂, ◌∙◌, arith}
use Rattle.std.specs.BTreeMap.{BTreeMap, get}
use Rattle.std.specs.List.{list_all, list_any}
use Rattle.std.specs.Ordering.{nat_cmp}
use Rattle.std.proofs.lemmas.Bool.{and_from, and_parts, eq-eqb, eqb-true, ne_eqb, true≢false}
use Rattle.pw_pair.specs.Pairs.{memory_of}
use Rattle.pw_pair.specs.Places.{ArePlaces, terminals_of}
use Rattle.pw_pair.specs.Seats.{flight_is_sound, has_own_memory, held_is_sound, is_flying, is_seat_of, is_sound, memory_is_sound, new_seat, put_each, put_held, start_of, with_held, without_backup}
use Rattle.pw_pair.specs.declared.backup.Held.{Held}
use Rattle.pw_pair.specs.declared.seat.BackupSeat.{BackupSeat}
use Rattle.pw_pair.specs.declared.seat.Flight.{Flight}
use Rattle.pw_pair.proofs.At.{length-terminals, nowhere-any, terminal-at}
use Rattle.pw_pair.proofs.Moving.{memory-first}

-- ---- seats of different terminals

-- no two are of one terminal
abbrev pub AreApart : List BackupSeat → Type 0
AreApart [] = Unit {0}
AreApart (seat ∷ seats) = (list_any (is_seat_of seat.terminal) seats ≡ false) × AreApart seats

apart-from : (seats : List BackupSeat) (d : BackupSeat)
    → ((j k : ℕ) → j < length seats → k < length seats → (get_or seats j d).terminal ≡ (get_or seats k d).terminal → j ≡ k) → AreApart seats
apart-from [] d h = tt
apart-from (seat ∷ seats) d h = (
  nowhere-any seat.terminal seats d (λ j lt same. let e : suc j ≡ zero = h (suc j) zero (omega arith) (omega arith) same in omega (arith, e)),
  apart-from seats d (λ j k first second same. let e : suc j ≡ suc k = h (suc j) (suc k) (omega arith) (omega arith) same in omega (arith, e)),
)

pub places-apart : (places : BTreeMap ℕ ℕ) (seats : List BackupSeat) → ArePlaces places (terminals_of seats) → AreApart seats
places-apart places seats are =
    apart-from seats (new_seat 0)
    (λ j k first second same.
    let low : j < length (terminals_of seats) = omega (arith, length-terminals seats) in
    let high : k < length (terminals_of seats) = omega (arith, length-terminals seats) in
    let there : get_or (terminals_of seats) j 0 ≡ get_or (terminals_of seats) k 0 =
    terminal-at seats j (new_seat 0) first ∙ same ∙ sym (terminal-at seats k (new_seat 0) second)
    in
    let both : Some j ≡ Some k = sym (are.here j low) ∙ ap (λ x. get nat_cmp places x) there ∙ are.here k high in
    cc both)

-- ---- what is held names its terminal

pub own-memory : (seats : List BackupSeat) → list_all is_sound seats ≡ true → list_all has_own_memory seats ≡ true
own-memory [] h = refl
own-memory (seat ∷ seats) h =
    let k = and_parts (is_sound seat) (list_all is_sound seats) h in
    let own = and_parts (memory_is_sound seat.terminal seat.memory) (flight_is_sound (start_of seat.memory) seat.flight) k.0 in
    and_from (has_own_memory seat) (list_all has_own_memory seats) own.0 (own-memory seats k.1)

-- neither of two
neither : (a b : Bool) → (a || b) ≡ false → (a ≡ false) × (b ≡ false)
neither true b h = absurd (true≢false h)
neither false b h = (refl, h)

flip : (a b : ℕ) → (a == b) ≡ false → (b == a) ≡ false
flip a b h = ne_eqb b a (λ e. true≢false (sym (eq-eqb a b (sym e)) ∙ h))

named : (terminal : ℕ) (held : Held) → memory_is_sound terminal (Some held) ≡ true → held.terminal ≡ terminal
named terminal held h = eqb-true held.terminal terminal (and_parts (held.terminal == terminal) (held_is_sound held) h).0

-- the memory of seats of other terminals names this one nowhere
unnamed : (t : ℕ) (seats : List BackupSeat) → list_any (is_seat_of t) seats ≡ false → list_all has_own_memory seats ≡ true
    → list_any (λ (held : Held). t == held.terminal) (memory_of seats) ≡ false
unnamed t [] h own = refl
unnamed t (seat ∷ seats) h own =
    let apart = neither (is_seat_of t seat) (list_any (is_seat_of t) seats) h in
    let k = and_parts (has_own_memory seat) (list_all has_own_memory seats) own in
    by seat.memory refl apart.0 k.0 (unnamed t seats apart.1 k.1)
  where
    by : (memory : Option Held) → seat.memory ≡ memory → is_seat_of t seat ≡ false → has_own_memory seat ≡ true
        → list_any (λ (held : Held). t == held.terminal) (memory_of seats) ≡ false
        → list_any (λ (held : Held). t == held.terminal) (memory_of (seat ∷ seats)) ≡ false
    by None e first mine rest = ap (list_any (λ (held : Held). t == held.terminal)) (sym (memory-first seat seats None e)) ∙ rest
    by (Some held) e first mine rest =
        let names : held.terminal ≡ seat.terminal = named seat.terminal held (ap (memory_is_sound seat.terminal) (sym e) ∙ mine) in
        let other : (t == held.terminal) ≡ false = ap (λ n. t == n) names ∙ flip seat.terminal t first in
        ap (list_any (λ (one : Held). t == one.terminal)) (sym (memory-first seat seats (Some held) e))
        ∙ (ap (λ b. b || list_any (λ (one : Held). t == one.terminal) (memory_of seats)) other ∙ rest)

-- ---- what is put back

-- a memory that does not name the terminal leaves its seat
put-absent : (images : List Held) (seat : BackupSeat) → list_any (λ (held : Held). seat.terminal == held.terminal) images ≡ false → put_each images seat ≡ seat
put-absent [] seat h = refl
put-absent (held ∷ images) seat h =
    let apart = neither (seat.terminal == held.terminal) (list_any (λ (one : Held). seat.terminal == one.terminal) images) h in
    ap (put_held held) (put-absent images seat apart.1) ∙ ap (λ b. cond b (with_held held seat) seat) apart.0

held-terminal : (held : Held) (b : Bool) (seat : BackupSeat) → (cond b (with_held held seat) seat).terminal ≡ seat.terminal
held-terminal held true seat = refl
held-terminal held false seat = refl

put-terminal : (images : List Held) (seat : BackupSeat) → (put_each images seat).terminal ≡ seat.terminal
put-terminal [] seat = refl
put-terminal (held ∷ images) seat =
    held-terminal held (is_seat_of held.terminal (put_each images seat)) (put_each images seat) ∙ put-terminal images seat

-- what is held of one terminal leaves the seats of others
put-others : (held : Held) (images : List Held) (seats : List BackupSeat) → list_any (is_seat_of held.terminal) seats ≡ false
    → map (put_each (held ∷ images)) (map without_backup seats) ≡ map (put_each images) (map without_backup seats)
put-others held images [] h = refl
put-others held images (seat ∷ seats) h =
    let apart = neither (is_seat_of held.terminal seat) (list_any (is_seat_of held.terminal) seats) h in
    let new : BackupSeat = put_each images (without_backup seat) in
    let other : is_seat_of held.terminal new ≡ false = ap (λ n. n == held.terminal) (put-terminal images (without_backup seat)) ∙ apart.0 in
    ap₂ (λ (s : BackupSeat) (l : List BackupSeat). s ∷ l) (ap (λ b. cond b (with_held held new) new) other) (put-others held images seats apart.1)

-- a seat of which nothing is in flight
still-is : (seat : BackupSeat) (memory : Option Held) → seat.memory ≡ memory → is_flying seat ≡ false → record seat { memory = memory; flight = None } ≡ seat
still-is seat memory e h = by seat.flight refl h
  where
    by : (flight : Option Flight) → seat.flight ≡ flight → is_flying seat ≡ false → record seat { memory = memory; flight = None } ≡ seat
    by None f k = ap₂ (λ (m : Option Held) (x : Option Flight). record seat { memory = m; flight = x }) (sym e) (sym f)
    by (Some flight) f k = absurd (true≢false (sym (ap is_flying_of f) ∙ k))
      where
        is_flying_of : Option Flight → Bool
        is_flying_of None = false
        is_flying_of (Some one) = true

-- what is held of seats of different terminals, of which nothing is in flight, is put back as it was
pub put-again : (seats : List BackupSeat) → AreApart seats → list_all has_own_memory seats ≡ true → list_any is_flying seats ≡ false
    → map (put_each (memory_of seats)) (map without_backup seats) ≡ seats
put-again [] apart own still = refl
put-again (seat ∷ seats) apart own still =
    let k = and_parts (has_own_memory seat) (list_all has_own_memory seats) own in
    let rests = neither (is_flying seat) (list_any is_flying seats) still in
    let absent = put-absent (memory_of seats) (without_backup seat) (unnamed seat.terminal seats apart.0 k.1) in
    by seat.memory refl k.0 rests.0 absent (put-again seats apart.1 k.1 rests.1)
  where
    by : (memory : Option Held) → seat.memory ≡ memory → has_own_memory seat ≡ true → is_flying seat ≡ false
        → put_each (memory_of seats) (without_backup seat) ≡ without_backup seat
        → map (put_each (memory_of seats)) (map without_backup seats) ≡ seats
        → map (put_each (memory_of (seat ∷ seats))) (map without_backup (seat ∷ seats)) ≡ seat ∷ seats
    by None e mine rests absent rest =
        ap (λ (l : List Held). map (put_each l) (map without_backup (seat ∷ seats))) (sym (memory-first seat seats None e))
        ∙ ap₂ (λ (s : BackupSeat) (l : List BackupSeat). s ∷ l) (absent ∙ still-is seat None e rests) rest
    by (Some held) e mine rests absent rest =
        let names : held.terminal ≡ seat.terminal = named seat.terminal held (ap (memory_is_sound seat.terminal) (sym e) ∙ mine) in
        let here : is_seat_of held.terminal (without_backup seat) ≡ true = eq-eqb seat.terminal held.terminal (sym names) in
        ap (λ (l : List Held). map (put_each l) (map without_backup (seat ∷ seats))) (sym (memory-first seat seats (Some held) e))
        ∙ ap₂ (λ (s : BackupSeat) (l : List BackupSeat). s ∷ l)
        (ap (put_held held) absent ∙ (ap (λ b. cond b (with_held held (without_backup seat)) (without_backup seat)) here ∙ still-is seat (Some held) e rests))
        (put-others held (memory_of seats) seats (ap (λ n. list_any (is_seat_of n) seats) names ∙ apart.0) ∙ rest)
