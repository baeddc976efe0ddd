-- One seat of several is changed.
use Rattle.std.proofs.Common.{◌≡◌, ◌≢◌, ℕ, zero, suc, ◌+◌, ◌-◌, ◌<◌, ◌≤◌, ◌==◌, ◌^◌, Bool, true, false, ◌||◌, cond, nat_lt, zero-add, is_some, List, [], ◌∷◌, length, get_or, map, sum_by, Option, Some, None, refl, sym, ap, subst, ◌∙◌, arith}
use Rattle.std.proofs.Math.ListN.{set, length-set}
use Rattle.std.proofs.Math.Seq.{map-set_same}
use Rattle.std.proofs.lemmas.Bool.{true≢false, false≢true, eqb-true, eq-eqb, lt-ltb, and_parts}
use Rattle.std.proofs.lemmas.List.Sums.{count_by-le-length, get_or-le-sum_by, sum_by-cons, sum_by-set}
use Rattle.std.specs.BTreeMap.{BTreeMap, get}
use Rattle.std.specs.List.{find, list_all, list_any, count_by}
use Rattle.std.specs.Ordering.{nat_cmp}
use Rattle.pw_pair.specs.Pairs.{passes}
use Rattle.pw_pair.specs.Places.{ArePlaces, AreSeats, terminals_of}
use Rattle.std.specs.Option.{IfSome}
use Rattle.pw_pair.specs.Seats.{at_terminal, is_lacking, is_seat_of, is_sound, is_waiting, new_seat}
use Rattle.pw_pair.specs.declared.seat.BackupSeat.{BackupSeat}

-- the terminal of a seat
pub terminal-at : (seats : List BackupSeat) (k : ℕ) (d : BackupSeat) → k < length seats → get_or (terminals_of seats) k 0 ≡ (get_or seats k d).terminal
terminal-at [] k d lt = absurd (omega arith)
terminal-at (seat ∷ seats) zero d lt = refl
terminal-at (seat ∷ seats) (suc k) d lt = terminal-at seats k d (omega arith)

pub length-terminals : (seats : List BackupSeat) → length (terminals_of seats) ≡ length seats
length-terminals [] = refl
length-terminals (seat ∷ seats) = ap suc (length-terminals seats)

-- the only seat of the terminal is at this place
pub record IsOnlyAt (t : ℕ) (seats : List BackupSeat) (k : ℕ) (d : BackupSeat) : Type 0 where
  pub within : k < length seats
  pub its : (get_or seats k d).terminal ≡ t
  pub only : (j : ℕ) → j < length seats → (get_or seats j d).terminal ≡ t → j ≡ k

-- no seat is the terminal's
abbrev pub IsNowhere : ℕ → List BackupSeat → BackupSeat → Type 0
IsNowhere t seats d = (j : ℕ) → j < length seats → (get_or seats j d).terminal ≡ t → ⊥

-- the map tells where the only seat of a terminal is
pub found : (places : BTreeMap ℕ ℕ) (seats : List BackupSeat) (t k : ℕ) (d : BackupSeat) → ArePlaces places (terminals_of seats) → get nat_cmp places t ≡ Some k
    → IsOnlyAt t seats k d
found places seats t k d are e =
    let h = are.there t k e in
    let within : k < length seats = let lt = h.0 in omega (arith, length-terminals seats) in
    record {
      within = within;
      its = sym (terminal-at seats k d within) ∙ h.1;
      only = λ j lt same.
          let below : j < length (terminals_of seats) = omega (arith, length-terminals seats) in
          let there : get_or (terminals_of seats) j 0 ≡ t = terminal-at seats j d lt ∙ same in
          let both : Some j ≡ Some k = sym (are.here j below) ∙ ap (λ x. get nat_cmp places x) there ∙ e in
          cc both;
    }

-- and that there is none
pub missing : (places : BTreeMap ℕ ℕ) (seats : List BackupSeat) (t : ℕ) (d : BackupSeat) → ArePlaces places (terminals_of seats) → get nat_cmp places t ≡ None
    → IsNowhere t seats d
missing places seats t d are e =
    λ j lt same.
    let below : j < length (terminals_of seats) = omega (arith, length-terminals seats) in
    let there : get_or (terminals_of seats) j 0 ≡ t = terminal-at seats j d lt ∙ same in
    let both : Some j ≡ None = sym (are.here j below) ∙ ap (λ x. get nat_cmp places x) there ∙ e in
    cc both

not-seat : (t : ℕ) (seat : BackupSeat) → (seat.terminal ≡ t → ⊥) → (b : Bool) → is_seat_of t seat ≡ b → b ≡ false
not-seat t seat h true e = absurd (h (eqb-true seat.terminal t e))
not-seat t seat h false e = refl

-- where the terminal has no seat, nothing is changed, and none is found
pub nowhere-at : (t : ℕ) (change : BackupSeat → BackupSeat) (seats : List BackupSeat) (d : BackupSeat) → IsNowhere t seats d → at_terminal t change seats ≡ seats
nowhere-at t change [] d h = refl
nowhere-at t change (seat ∷ seats) d h =
    let own : is_seat_of t seat ≡ false = not-seat t seat (h zero (omega arith)) (is_seat_of t seat) refl in
    rw own (ap (λ l. seat ∷ l) (nowhere-at t change seats d (λ j lt. h (suc j) (omega arith))))

pub nowhere-find : (t : ℕ) (seats : List BackupSeat) (d : BackupSeat) → IsNowhere t seats d → find (is_seat_of t) seats ≡ None
nowhere-find t [] d h = refl
nowhere-find t (seat ∷ seats) d h =
    let own : is_seat_of t seat ≡ false = not-seat t seat (h zero (omega arith)) (is_seat_of t seat) refl in
    rw own (nowhere-find t seats d (λ j lt. h (suc j) (omega arith)))

behind : (t : ℕ) (seat : BackupSeat) (seats : List BackupSeat) (k : ℕ) (d : BackupSeat) → IsOnlyAt t (seat ∷ seats) (suc k) d → IsOnlyAt t seats k d
behind t seat seats k d h = record {
  within = let lt = h.within in omega arith;
  its = h.its;
  only = λ j lt same. let e : suc j ≡ suc k = h.only (suc j) (omega arith) same in omega arith;
}

-- the only seat of the terminal is the one that is changed, and found
pub only-at : (t : ℕ) (change : BackupSeat → BackupSeat) (seats : List BackupSeat) (k : ℕ) (d : BackupSeat) → IsOnlyAt t seats k d
    → set seats k (change (get_or seats k d)) ≡ at_terminal t change seats
only-at t change [] k d h = absurd (let lt = h.within in omega arith)
only-at t change (seat ∷ seats) zero d h =
    let own : is_seat_of t seat ≡ true = eq-eqb seat.terminal t h.its in
    let none : IsNowhere t seats d = λ j lt same. let e : suc j ≡ 0 = h.only (suc j) (omega arith) same in omega arith in
    rw own (ap (λ l. change seat ∷ l) (sym (nowhere-at t change seats d none)))
only-at t change (seat ∷ seats) (suc k) d h =
    let own : is_seat_of t seat ≡ false = not-seat t seat (λ same. let e : 0 ≡ suc k = h.only zero (omega arith) same in omega arith) (is_seat_of t seat) refl in
    rw own (ap (λ l. seat ∷ l) (only-at t change seats k d (behind t seat seats k d h)))

pub only-find : (t : ℕ) (seats : List BackupSeat) (k : ℕ) (d : BackupSeat) → IsOnlyAt t seats k d → find (is_seat_of t) seats ≡ Some (get_or seats k d)
only-find t [] k d h = absurd (let lt = h.within in omega arith)
only-find t (seat ∷ seats) zero d h = let own : is_seat_of t seat ≡ true = eq-eqb seat.terminal t h.its in rw own refl
only-find t (seat ∷ seats) (suc k) d h =
    let own : is_seat_of t seat ≡ false = not-seat t seat (λ same. let e : 0 ≡ suc k = h.only zero (omega arith) same in omega arith) (is_seat_of t seat) refl in
    rw own (only-find t seats k d (behind t seat seats k d h))

-- each seat of several passes
pub each-sound : (test : BackupSeat → Bool) (seats : List BackupSeat) (k : ℕ) (d : BackupSeat) → list_all test seats ≡ true → k < length seats → test (get_or seats k d) ≡ true
each-sound test [] k d h lt = absurd (omega arith)
each-sound test (seat ∷ seats) zero d h lt = (and_parts (test seat) (list_all test seats) h).0
each-sound test (seat ∷ seats) (suc k) d h lt = each-sound test seats k d (and_parts (test seat) (list_all test seats) h).1 (omega arith)

all-set : (test : BackupSeat → Bool) (seats : List BackupSeat) (k : ℕ) (new : BackupSeat) → list_all test seats ≡ true → test new ≡ true → list_all test (set seats k new) ≡ true
all-set test [] k new h own = refl
all-set test (seat ∷ seats) zero new h own = rw own (and_parts (test seat) (list_all test seats) h).1
all-set test (seat ∷ seats) (suc k) new h own =
    let first : test seat ≡ true = (and_parts (test seat) (list_all test seats) h).0 in
    rw first (all-set test seats k new (and_parts (test seat) (list_all test seats) h).1 own)

-- what is counted, where one seat is changed
recounted : (test : BackupSeat → Bool) (seats : List BackupSeat) (count now k : ℕ) (d new : BackupSeat) → count ≡ count_by test seats → k < length seats
    → now ≡ count + cond (test new) 1 0 - cond (test (get_or seats k d)) 1 0 → now ≡ count_by test (set seats k new)
recounted test seats count now k d new is lt e = omega (arith, sum_by-set (λ seat. cond (test seat) 1 0) seats k new d lt)

-- seats keep what they keep where one is changed to a sound one of the same terminal
keeps : (seats : List BackupSeat) (places : BTreeMap ℕ ℕ) (lacking lacking_now waiting waiting_now k : ℕ) (d new : BackupSeat) → AreSeats seats places lacking waiting
    → k < length seats → new.terminal ≡ (get_or seats k d).terminal → is_sound new ≡ true
    → lacking_now ≡ lacking + cond (is_lacking new) 1 0 - cond (is_lacking (get_or seats k d)) 1 0
    → waiting_now ≡ waiting + cond (is_waiting new) 1 0 - cond (is_waiting (get_or seats k d)) 1 0
    → AreSeats (set seats k new) places lacking_now waiting_now
keeps seats places lacking lacking_now waiting waiting_now k d new are lt same sound e w =
    let P : List ℕ → Type 0 = λ ts. ArePlaces places ts in
    record {
      places_are = subst P (sym (map-set_same (λ seat. seat.terminal) seats k new d same)) are.places_are;
      sound = all-set is_sound seats k new are.sound sound;
      lacks = recounted is_lacking seats lacking lacking_now k d new are.lacks lt e;
      waits = recounted is_waiting seats waiting waiting_now k d new are.waits lt w;
    }

-- What a call that changes one seat owes, in the words of its places.

module _ (places : BTreeMap ℕ ℕ) (items now : List BackupSeat) (t : ℕ) (view : items ≡ now) (are : ArePlaces places (terminals_of items)) where
  -- a terminal that is not of the pair
  pub default-at : (change : BackupSeat → BackupSeat) → get nat_cmp places t ≡ None → now ≡ at_terminal t change now
  default-at change none =
      let P : List BackupSeat → Type 0 = λ l. l ≡ at_terminal t change l in
      subst P view (sym (nowhere-at t change items (new_seat 0) (missing places items t (new_seat 0) are none)))

  pub default-find : get nat_cmp places t ≡ None → find (is_seat_of t) now ≡ None
  default-find none =
      ap (λ l. find (is_seat_of t) l) (sym view) ∙ nowhere-find t items (new_seat 0) (missing places items t (new_seat 0) are none)

  module _ (k : ℕ) (place : get nat_cmp places t ≡ Some k) where
    pub within-at : k < length items
    within-at = (found places items t k (new_seat 0) are place).within

    module _ (seat : BackupSeat) (is : seat ≡ get_or items k seat) where
      -- the seat at the place is the terminal's
      pub seat-find : find (is_seat_of t) now ≡ Some seat
      seat-find =
          ap (λ l. find (is_seat_of t) l) (sym view) ∙ only-find t items k seat (found places items t k seat are place)
          ∙ ap (λ s. Some s) (sym is)

      pub seat-terminal : seat.terminal ≡ t
      seat-terminal = ap (λ s. s.terminal) is ∙ (found places items t k seat are place).its

      -- what is asked of the terminal's seat holds of it
      pub seat-has : (P : BackupSeat → Type 0) → IfSome (find (is_seat_of t) now) P → P seat
      seat-has P h = let Q : Option BackupSeat → Type 0 = λ o. IfSome o P in subst Q seat-find h

      pub seat-passes : (test : BackupSeat → Bool) → passes test (find (is_seat_of t) now) ≡ true → test seat ≡ true
      seat-passes test h = sym (ap (passes test) seat-find) ∙ h

      pub seat-sound : (lacking waiting : ℕ) → AreSeats items places lacking waiting → is_sound seat ≡ true
      seat-sound lacking waiting seats = ap is_sound is ∙ each-sound is_sound items k seat seats.sound within-at

      pub changed-seat : (change : BackupSeat → BackupSeat) (new : BackupSeat) → new ≡ change seat → set items k new ≡ at_terminal t change now
      changed-seat change new e =
          ap (λ s. set items k s) (e ∙ ap change is) ∙ only-at t change items k seat (found places items t k seat are place)
          ∙ ap (λ l. at_terminal t change l) view

      -- what is counted again is counted, and is at most the seats
      pub counted-seat : (test : BackupSeat → Bool) (count : ℕ) → count ≡ count_by test items → cond (test seat) 1 0 ≤ count
      counted-seat test count c =
          omega (arith, ap {B = ℕ} (λ s. cond (test s) 1 0) is, get_or-le-sum_by (λ s. cond (test s) 1 0) items k seat within-at)

      pub room-seat : (test : BackupSeat → Bool) (count : ℕ) (new : BackupSeat) → count ≡ count_by test items
          → count + cond (test new) 1 0 ≤ length items + cond (test seat) 1 0
      room-seat test count new c =
          omega (
            arith,
            ap {B = ℕ} (λ s. cond (test s) 1 0) is,
            sum_by-set (λ s. cond (test s) 1 0) items k new seat within-at,
            count_by-le-length test (set items k new),
            length-set items k new,
          )

      pub kept-seat : (lacking lacking_now waiting waiting_now : ℕ) (new : BackupSeat) → AreSeats items places lacking waiting → new.terminal ≡ seat.terminal
          → (is_sound seat ≡ true → is_sound new ≡ true)
          → lacking_now ≡ lacking + cond (is_lacking new) 1 0 - cond (is_lacking seat) 1 0
          → waiting_now ≡ waiting + cond (is_waiting new) 1 0 - cond (is_waiting seat) 1 0
          → AreSeats (set items k new) places lacking_now waiting_now
      kept-seat lacking lacking_now waiting waiting_now new seats same sound e w =
          keeps items places lacking lacking_now waiting waiting_now k seat new seats within-at (same ∙ ap (λ s. s.terminal) is)
          (sound (ap is_sound is ∙ each-sound is_sound items k seat seats.sound within-at))
          (e ∙ ap (λ s. lacking + cond (is_lacking new) 1 0 - cond (is_lacking s) 1 0) is)
          (w ∙ ap (λ s. waiting + cond (is_waiting new) 1 0 - cond (is_waiting s) 1 0) is)

-- a count stays where what is counted is so before and behind
pub same-count : (n : ℕ) (before after : Bool) → after ≡ before → n ≡ n + cond after 1 0 - cond before 1 0
same-count n true after e = rw e (omega arith)
same-count n false after e = rw e (omega arith)

-- what was counted by these answers is counted by what they tell
pub told-count : (n now : ℕ) (before after was is : Bool) → now ≡ n + cond after 1 0 - cond before 1 0 → before ≡ was → after ≡ is
    → now ≡ n + cond is 1 0 - cond was 1 0
told-count n now before after was is e b a = rw (← b, ← a) e

-- some seat is counted exactly where the count is above 0
pub any-count : (test : BackupSeat → Bool) (seats : List BackupSeat) → nat_lt 0 (count_by test seats) ≡ list_any test seats
any-count test [] = refl
any-count test (seat ∷ seats) =
    ap (λ n. nat_lt 0 n) (sum_by-cons (λ s. cond (test s) 1 0) seat seats) ∙ counted (test seat) seats (any-count test seats)
  where
    counted : (b : Bool) (seats : List BackupSeat) → nat_lt 0 (count_by test seats) ≡ list_any test seats
        → nat_lt 0 (cond b 1 0 + count_by test seats) ≡ (b || list_any test seats)
    counted true seats h = lt-ltb 0 (1 + count_by test seats) (omega arith)
    counted false seats h = ap (λ n. nat_lt 0 n) (zero-add (count_by test seats)) ∙ h

-- no seat is found where none is counted
pub none-found : (test : BackupSeat → Bool) (seats : List BackupSeat) → count_by test seats ≡ 0 → find test seats ≡ None
none-found test [] none = refl
none-found test (seat ∷ seats) none =
    looked (test seat) refl (sym (sum_by-cons (λ s. cond (test s) 1 0) seat seats) ∙ none) (none-found test seats)
  where
    looked : (b : Bool) → test seat ≡ b → cond (test seat) 1 0 + count_by test seats ≡ 0 → (count_by test seats ≡ 0 → find test seats ≡ None)
        → find test (seat ∷ seats) ≡ None
    looked true is none rest = absurd (let one : cond (test seat) 1 0 ≡ 1 = ap {B = ℕ} (λ b. cond b 1 0) is in omega (arith, one))
    looked false is none rest = rw is (rest (omega arith))

-- the map has a terminal exactly where it has a seat
pub nowhere-any : (t : ℕ) (seats : List BackupSeat) (d : BackupSeat) → IsNowhere t seats d → list_any (is_seat_of t) seats ≡ false
nowhere-any t [] d h = refl
nowhere-any t (seat ∷ seats) d h =
    let own : is_seat_of t seat ≡ false = not-seat t seat (h zero (omega arith)) (is_seat_of t seat) refl in
    rw own (nowhere-any t seats d (λ j lt. h (suc j) (omega arith)))

only-any : (t : ℕ) (seats : List BackupSeat) (k : ℕ) (d : BackupSeat) → IsOnlyAt t seats k d → list_any (is_seat_of t) seats ≡ true
only-any t [] k d h = absurd (let lt = h.within in omega arith)
only-any t (seat ∷ seats) zero d h = let own : is_seat_of t seat ≡ true = eq-eqb seat.terminal t h.its in rw own refl
only-any t (seat ∷ seats) (suc k) d h =
    let own : is_seat_of t seat ≡ false = not-seat t seat (λ same. let e : 0 ≡ suc k = h.only zero (omega arith) same in omega arith) (is_seat_of t seat) refl in
    rw own (only-any t seats k d (behind t seat seats k d h))

pub has-terminal : (places : BTreeMap ℕ ℕ) (seats : List BackupSeat) (t : ℕ) → ArePlaces places (terminals_of seats) → (place : Option ℕ) → get nat_cmp places t ≡ place
    → list_any (is_seat_of t) seats ≡ is_some place
has-terminal places seats t are None e = nowhere-any t seats (new_seat 0) (missing places seats t (new_seat 0) are e)
has-terminal places seats t are (Some k) e = only-any t seats k (new_seat 0) (found places seats t k (new_seat 0) are e)

-- each seat is changed, and stays the terminal's
terminals-map : (change : BackupSeat → BackupSeat) → ((seat : BackupSeat) → (change seat).terminal ≡ seat.terminal) → (seats : List BackupSeat) → terminals_of (map change seats) ≡ terminals_of seats
terminals-map change same [] = refl
terminals-map change same (seat ∷ seats) = ap (λ t. t ∷ terminals_of (map change seats)) (same seat) ∙ ap (λ l. seat.terminal ∷ l) (terminals-map change same seats)

sound-map : (change : BackupSeat → BackupSeat) → ((seat : BackupSeat) → is_sound seat ≡ true → is_sound (change seat) ≡ true) → (seats : List BackupSeat) → list_all is_sound seats ≡ true → list_all is_sound (map change seats) ≡ true
sound-map change keep [] h = refl
sound-map change keep (seat ∷ seats) h =
    let k = and_parts (is_sound seat) (list_all is_sound seats) h in
    let own : is_sound (change seat) ≡ true = keep seat k.0 in
    rw own (sound-map change keep seats k.1)

-- nothing is counted where no changed seat counts
count-none : (test : BackupSeat → Bool) (change : BackupSeat → BackupSeat) → ((seat : BackupSeat) → test (change seat) ≡ false) → (seats : List BackupSeat)
    → count_by test (map change seats) ≡ 0
count-none test change none [] = refl
count-none test change none (seat ∷ seats) =
    sum_by-cons (λ s. cond (test s) 1 0) (change seat) (map change seats)
    ∙ ap (λ b. cond b 1 0 + count_by test (map change seats)) (none seat)
    ∙ zero-add (count_by test (map change seats))
    ∙ count-none test change none seats

-- each seat is changed, and none waits any more
pub kept-map : (change : BackupSeat → BackupSeat) (seats new : List BackupSeat) (places : BTreeMap ℕ ℕ) (lacking waiting lacking_now : ℕ)
    → ((seat : BackupSeat) → (change seat).terminal ≡ seat.terminal) → ((seat : BackupSeat) → is_sound seat ≡ true → is_sound (change seat) ≡ true)
    → ((seat : BackupSeat) → is_waiting (change seat) ≡ false)
    → AreSeats seats places lacking waiting → new ≡ map change seats → lacking_now ≡ count_by is_lacking new → AreSeats new places lacking_now 0
kept-map change seats new places lacking waiting lacking_now same keep none are e counted =
    let P : List ℕ → Type 0 = λ ts. ArePlaces places ts in
    record {
      places_are = subst P (sym (terminals-map change same seats) ∙ ap terminals_of (sym e)) are.places_are;
      sound = ap (list_all is_sound) e ∙ sound-map change keep seats are.sound;
      lacks = counted;
      waits = sym (ap (count_by is_waiting) e ∙ count-none is_waiting change none seats);
    }

-- as many are counted where each counts as before
pub count-map : (test : BackupSeat → Bool) (change : BackupSeat → BackupSeat) → ((seat : BackupSeat) → test (change seat) ≡ test seat) → (seats : List BackupSeat)
    → count_by test (map change seats) ≡ count_by test seats
count-map test change same [] = refl
count-map test change same (seat ∷ seats) =
    sum_by-cons (λ s. cond (test s) 1 0) (change seat) (map change seats)
    ∙ ap (λ b. cond b 1 0 + count_by test (map change seats)) (same seat)
    ∙ ap (λ n. cond (test seat) 1 0 + n) (count-map test change same seats)
    ∙ sym (sum_by-cons (λ s. cond (test s) 1 0) seat seats)

-- no more are counted where none counts that did not
pub count-least : (test : BackupSeat → Bool) (change : BackupSeat → BackupSeat) → ((seat : BackupSeat) → test (change seat) ≡ true → test seat ≡ true) → (seats : List BackupSeat)
    → count_by test (map change seats) ≤ count_by test seats
count-least test change least [] = omega arith
count-least test change least (seat ∷ seats) =
    let rest = count-least test change least seats in
    let own : cond (test (change seat)) 1 0 ≤ cond (test seat) 1 0 = one (test (change seat)) (test seat) (least seat) in
    omega (arith, sum_by-cons (λ s. cond (test s) 1 0) (change seat) (map change seats), sum_by-cons (λ s. cond (test s) 1 0) seat seats)
  where
    one : (a b : Bool) → (a ≡ true → b ≡ true) → cond a 1 0 ≤ cond b 1 0
    one false b h = omega arith
    one true true h = omega arith
    one true false h = absurd (false≢true (h refl))

-- a change of one seat counts one more at most
pub one-more : (test : BackupSeat → Bool) (items now : List BackupSeat) (k : ℕ) (d new : BackupSeat) → items ≡ now → k < length items
    → count_by test (set items k new) ≤ count_by test now + 1
one-more test items now k d new view lt =
    let same : count_by test items ≡ count_by test now = ap (count_by test) view in
    let own : cond (test new) 1 0 ≤ 1 = one (test new) in
    omega (arith, sum_by-set (λ s. cond (test s) 1 0) items k new d lt)
  where
    one : (b : Bool) → cond b 1 0 ≤ 1
    one true = omega arith
    one false = omega arith
