-- Seats of which one is changed.
use Rattle.std.proofs.Common.{◌≡◌, ◌≢◌, ℕ, ◌==◌, ◌||◌, cond, List, [], ◌∷◌, map, Bool, true, false, refl, sym, ap, ◌∙◌, true≢false}
use Rattle.std.specs.Prelude.{All}
use Rattle.std.specs.List.{list_any}
use Rattle.std.proofs.lemmas.List.Elements.{All-head, All-map, All-tail, All-weaker}
use Rattle.std.proofs.lemmas.Bool.{eqb-true, eqb-false, or_right}
use Rattle.pw_pair.specs.Seats.{at_terminal, is_seat_of}
use Rattle.pw_pair.specs.declared.seat.BackupSeat.{BackupSeat}

-- where each seat keeps its terminal, a terminal has a seat as before
pub still-there : (f : BackupSeat → BackupSeat) → ((seat : BackupSeat) → (f seat).terminal ≡ seat.terminal) → (t : ℕ) (seats : List BackupSeat) → list_any (is_seat_of t) (map f seats) ≡ list_any (is_seat_of t) seats
still-there f same t [] = refl
still-there f same t (seat ∷ seats) =
    ap (λ n. (n == t) || list_any (is_seat_of t) (map f seats)) (same seat) ∙ ap (λ b. is_seat_of t seat || b) (still-there f same t seats)

-- a change of one seat keeps the terminals
pub keeps-terminal : (t : ℕ) (change : BackupSeat → BackupSeat) → ((seat : BackupSeat) → (change seat).terminal ≡ seat.terminal) → (seat : BackupSeat) → (cond (is_seat_of t seat) (change seat) seat).terminal ≡ seat.terminal
keeps-terminal t change same seat = by (is_seat_of t seat)
  where
    by : (b : Bool) → (cond b (change seat) seat).terminal ≡ seat.terminal
    by true = same seat
    by false = refl

-- all seats are as they should where that of the terminal is so behind the change, and each other one without it
pub all-at : (P Q : BackupSeat → Type 0) (t : ℕ) (change : BackupSeat → BackupSeat)
    → ((seat : BackupSeat) → seat.terminal ≡ t → P seat → Q (change seat)) → ((seat : BackupSeat) → seat.terminal ≢ t → P seat → Q seat)
    → (seats : List BackupSeat) → All P seats → All Q (at_terminal t change seats)
all-at P Q t change here elsewhere seats all =
    All-map Q (λ seat. cond (is_seat_of t seat) (change seat) seat) seats
    (All-weaker P (λ seat. Q (cond (is_seat_of t seat) (change seat) seat)) (λ seat p.
    by seat (is_seat_of t seat) (λ e. here seat (eqb-true seat.terminal t e) p) (λ e. elsewhere seat (eqb-false seat.terminal t e) p)) seats all)
  where
    by : (seat : BackupSeat) (b : Bool) → (b ≡ true → Q (change seat)) → (b ≡ false → Q seat) → Q (cond b (change seat) seat)
    by seat true own other = own refl
    by seat false own other = other refl

-- ---- what holds of some

-- one has the property, so what follows from one does
pub any-so : {X : Type 0} (P : X → Type 0) (p : X → Bool) (R : Type 0) (xs : List X) → All P xs → ((x : X) → P x → p x ≡ true → R) → list_any p xs ≡ true → R
any-so P p R [] all f e = absurd (true≢false (sym e))
any-so P p R (x ∷ xs) all f e =
    elim (p x) as (λ b. p x ≡ b → (b || list_any p xs) ≡ true → R) [
      | true ↦ λ is some. f x (All-head P x xs all) is
      | false ↦ λ is some. any-so P p R xs (All-tail P x xs all) f some
    ] refl e

-- one has the property, so one has another that follows
pub any-then : {X : Type 0} (P : X → Type 0) (p q : X → Bool) (xs : List X) → All P xs → ((x : X) → P x → p x ≡ true → q x ≡ true) → list_any p xs ≡ true → list_any q xs ≡ true
any-then P p q [] all f e = e
any-then P p q (x ∷ xs) all f e =
    elim (p x) as (λ b. p x ≡ b → (b || list_any p xs) ≡ true → (q x || list_any q xs) ≡ true) [
      | true ↦ λ is some. ap (λ b. b || list_any q xs) (f x (All-head P x xs all) is)
      | false ↦ λ is some. or_right (q x) (list_any q xs) (any-then P p q xs (All-tail P x xs all) f some)
    ] refl e
