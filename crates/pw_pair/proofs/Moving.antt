-- The memory of one seat after the other is moved.
use Rattle.std.proofs.Common.{◌≡◌, ℕ, suc, ◌+◌, ◌<◌, ◌==◌, ◌&&◌, Bool, true, cond, List, [], ◌∷◌, ◌++◌, length, get_or, take, drop, map, Option, Some, None, refl, sym, ap, ◌∙◌, arith}
use Rattle.std.specs.Prelude.{option_to_list, count_by}
use Rattle.std.specs.List.{filter_map, list_all}
use Rattle.std.proofs.Math.Seq.{drop-cons, get_or-append_seam}
use Rattle.std.proofs.lemmas.Bool.{and_parts}
use Rattle.std.proofs.lemmas.List.{length-map, length-take-le, take_more}
use Rattle.std.proofs.lemmas.List.Elements.{filter_map-append}
use Rattle.std.proofs.lemmas.List.Folds.{list_all-append}
use Rattle.std.proofs.lemmas.List.Sums.{sum_by-cons}
use Rattle.pw_pair.specs.Pairs.{memory_of}
use Rattle.pw_pair.specs.Rooms.{is_used}
use Rattle.pw_pair.specs.Seats.{flight_is_sound, held_is_sound, is_sound, memory_is_sound, put_each, put_held, start_of, without_backup}
use Rattle.pw_pair.specs.declared.backup.Held.{Held}
use Rattle.pw_pair.specs.declared.seat.BackupSeat.{BackupSeat}

-- the item that comes next is one that is not changed yet
pub next-item : (change : BackupSeat → BackupSeat) (xs items : List BackupSeat) (i : ℕ) (x : BackupSeat) → i < length xs → items ≡ map change (take i xs) ++ drop i xs
    → x ≡ get_or items i x → x ≡ get_or xs i x
next-item change xs items i x lt so_far is =
    let front : List BackupSeat = map change (take i xs) in
    let len : length front ≡ i = length-map (take i xs) change ∙ length-take-le i xs (omega arith) in
    is ∙ ap (λ l. get_or l i x) (so_far ∙ ap (λ l. front ++ l) (drop-cons xs i x lt))
    ∙ ap (λ n. get_or (front ++ get_or xs i x ∷ drop (suc i) xs) n x) (sym len)
    ∙ get_or-append_seam front (get_or xs i x) (drop (suc i) xs) x

one-memory : (seat : BackupSeat) (memory : Option Held) → seat.memory ≡ memory → filter_map (λ (s : BackupSeat). s.memory) (seat ∷ []) ≡ option_to_list memory
one-memory seat None e = rw e refl
one-memory seat (Some held) e = rw e refl

-- the memory of one seat more
pub next-memory : (xs : List BackupSeat) (i : ℕ) (x : BackupSeat) → i < length xs → x ≡ get_or xs i x
    → memory_of (take i xs) ++ option_to_list x.memory ≡ memory_of (take (i + 1) xs)
next-memory xs i x lt is =
    ap (λ l. memory_of (take i xs) ++ l) (sym (one-memory x x.memory refl))
    ∙ sym (filter_map-append (λ (s : BackupSeat). s.memory) (take i xs) (x ∷ []))
    ∙ ap memory_of (ap (λ s. take i xs ++ s ∷ []) is ∙ sym (take_more xs i x lt))

-- what is counted from here on
pub count-from : (test : BackupSeat → Bool) (xs : List BackupSeat) (i : ℕ) (x : BackupSeat) → i < length xs → x ≡ get_or xs i x
    → count_by test (drop i xs) ≡ cond (test x) 1 0 + count_by test (drop (i + 1) xs)
count-from test xs i x lt is =
    ap (count_by test) (drop-cons xs i x lt ∙ ap (λ s. s ∷ drop (suc i) xs) (sym is))
    ∙ sum_by-cons (λ s. cond (test s) 1 0) x (drop (suc i) xs)
    ∙ ap (λ n. cond (test x) 1 0 + count_by test (drop n xs)) (let P : suc i ≡ i + 1 = omega arith in P)

held-of : (terminal : ℕ) (memory : Option Held) (rest : List Held) → memory_is_sound terminal memory ≡ true → list_all held_is_sound rest ≡ true
    → list_all held_is_sound (option_to_list memory ++ rest) ≡ true
held-of terminal None rest h k = k
held-of terminal (Some held) rest h k =
    let own : held_is_sound held ≡ true = (and_parts (held.terminal == terminal) (held_is_sound held) h).1 in rw own k

pub memory-first : (seat : BackupSeat) (seats : List BackupSeat) (memory : Option Held) → seat.memory ≡ memory → option_to_list memory ++ memory_of seats ≡ memory_of (seat ∷ seats)
memory-first seat seats None e = rw e refl
memory-first seat seats (Some held) e = rw e refl

-- what is moved out of sound seats is sound
pub memory-sound : (seats : List BackupSeat) → list_all is_sound seats ≡ true → list_all held_is_sound (memory_of seats) ≡ true
memory-sound [] h = refl
memory-sound (seat ∷ seats) h =
    let k = and_parts (is_sound seat) (list_all is_sound seats) h in
    let own = and_parts (memory_is_sound seat.terminal seat.memory) (flight_is_sound (start_of seat.memory) seat.flight) k.0 in
    ap (list_all held_is_sound) (sym (memory-first seat seats seat.memory refl))
    ∙ held-of seat.terminal seat.memory (memory_of seats) own.0 (memory-sound seats k.1)

-- What is held is put in one after the other, from the last one on.
put-last : (images : List Held) (held : Held) (seat : BackupSeat) → put_each images (put_held held seat) ≡ put_each (images ++ held ∷ []) seat
put-last [] held seat = refl
put-last (first ∷ images) held seat = ap (put_held first) (put-last images held seat)

map-last : (images : List Held) (held : Held) (seats : List BackupSeat) → map (put_each images) (map (put_held held) seats) ≡ map (put_each (images ++ held ∷ [])) seats
map-last images held [] = refl
map-last images held (seat ∷ seats) =
    ap (λ s. s ∷ map (put_each images) (map (put_held held) seats)) (put-last images held seat)
    ∙ ap (λ l. put_each (images ++ held ∷ []) seat ∷ l) (map-last images held seats)

pub put-next : (all rest : List Held) (held : Held) (seats new : List BackupSeat) → all ≡ rest ++ held ∷ [] → new ≡ map (put_held held) seats
    → map (put_each rest) new ≡ map (put_each all) seats
put-next all rest held seats new e put =
    ap (map (put_each rest)) put ∙ map-last rest held seats ∙ ap (λ l. map (put_each l) seats) (sym e)

-- a list and what stands behind it are sound
pub sound-parts : (all rest : List Held) (held : Held) → all ≡ rest ++ held ∷ [] → list_all held_is_sound all ≡ true
    → (list_all held_is_sound rest ≡ true) × (held_is_sound held ≡ true)
sound-parts all rest held e h =
    let k = and_parts (list_all held_is_sound rest) (held_is_sound held && true) (sym (list_all-append held_is_sound rest (held ∷ [])) ∙ ap (list_all held_is_sound) (sym e) ∙ h) in
    (k.0, (and_parts (held_is_sound held) true k.1).0)

-- nothing more is put in
pub put-none : (seats : List BackupSeat) → map (put_each []) seats ≡ seats
put-none [] = refl
put-none (seat ∷ seats) = ap (λ l. seat ∷ l) (put-none seats)

-- seats without a backup use no room
pub unused : (seats : List BackupSeat) → count_by is_used (map without_backup seats) ≡ 0
unused [] = refl
unused (seat ∷ seats) = sum_by-cons (λ s. cond (is_used s) 1 0) (without_backup seat) (map without_backup seats) ∙ ap (λ n. 0 + n) (unused seats)

-- each is put into seats without a backup
pub put-twice : (images : List Held) (seats : List BackupSeat) → map (put_each images) (map without_backup seats) ≡ map (λ seat. put_each images (without_backup seat)) seats
put-twice images [] = refl
put-twice images (seat ∷ seats) = ap (λ l. put_each images (without_backup seat) ∷ l) (put-twice images seats)

-- a seat without a backup stays so
pub bare-twice : (images : List Held) (seats : List BackupSeat)
    → map (λ seat. put_each images (without_backup seat)) (map without_backup seats) ≡ map (put_each images) (map without_backup seats)
bare-twice images [] = refl
bare-twice images (seat ∷ seats) = ap (λ l. put_each images (without_backup seat) ∷ l) (bare-twice images seats)
