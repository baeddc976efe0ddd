-- Characters that are copied and filled behind one another.
use Rattle.std.proofs.Common.{◌≡◌, ℕ, zero, suc, ◌+◌, ◌-◌, ◌<◌, ◌≤◌, min, inl, inr, List, [], ◌∷◌, ◌++◌, length, take, drop, get_or, refl, sym, ap, ◌∙◌, arith, append_assoc, length-append, length-drop}
use Rattle.std.specs.Prelude.{replicate}
use Rattle.std.proofs.lemmas.List.{length-take, drop-drop, take-take, take_all, take-append-drop, take_more, drop_min}
use Rattle.std.proofs.Math.Seq.{take-append_seam, drop-append-add, set-append_seam}
use Rattle.std.proofs.Math.ListN.{set}
use Rattle.std.proofs.lemmas.Bool.{cases_lt}
use Rattle.pw_picture.specs.Text.{fitted}
use Rattle.pw_terminal.specs.Shown.{written}
use Rattle.pw_terminal.proofs.Written.{length-written}
use Rattle.pw_machine.proofs.TextLemmas.{split}

-- a text that is written behind another
pub written-twice : (place : ℕ) (a b s : List ℕ) → place ≤ length s → written (place + length a) b (written place a s) ≡ written place (a ++ b) s
written-twice place a b s within =
    let rest : List ℕ = drop (place + length a) s in
    let front : List ℕ = take place s ++ a in
    let long : length front ≡ place + length a = simp (length-append, length-take) (omega arith) in
    let whole : written place a s ≡ front ++ rest = sym (append_assoc (take place s) a rest) in
    let taken : take (place + length a) (front ++ rest) ≡ front = ap (λ n. take n (front ++ rest)) (sym long) ∙ take-append_seam front rest in
    let total : place + length a + length b ≡ place + length (a ++ b) = omega (arith, length-append a b) in
    let behind : List ℕ = drop (place + length (a ++ b)) s in
    let dropped : drop (place + length a + length b) (front ++ rest) ≡ behind =
    ap (λ n. drop (n + length b) (front ++ rest)) (sym long) ∙ drop-append-add front rest (length b)
    ∙ drop-drop (length b) (place + length a) s ∙ ap (λ n. drop n s) total in
    ap (λ w. take (place + length a) w ++ (b ++ drop (place + length a + length b) w)) whole
    ∙ ap (λ t. t ++ (b ++ drop (place + length a + length b) (front ++ rest))) taken
    ∙ ap (λ d. front ++ (b ++ d)) dropped
    ∙ append_assoc (take place s) a (b ++ behind)
    ∙ ap (λ l. take place s ++ l) (sym (append_assoc a b behind))

take_of_none : (n : ℕ) → let none : List ℕ = [] in take n none ≡ none
take_of_none zero = refl
take_of_none (suc n) = refl

-- what is dropped of what was taken
drop_of_take : (k n : ℕ) (xs : List ℕ) → drop k (take n xs) ≡ take (n - k) (drop k xs)
drop_of_take zero n xs = let e : n ≡ n - 0 = omega arith in ap (λ m. take m xs) e
drop_of_take (suc k) zero xs = let e : 0 ≡ 0 - suc k = omega arith in ap (λ m. take m (drop (suc k) xs)) e
drop_of_take (suc k) (suc n) [] = sym (take_of_none (suc n - suc k))
drop_of_take (suc k) (suc n) (x ∷ xs) = let e : n - k ≡ suc n - suc k = omega arith in drop_of_take k n xs ∙ ap (λ m. take m (drop k xs)) e

-- what is taken of what was taken
take_of_take : (a b : ℕ) (xs : List ℕ) → take a (take b xs) ≡ take (min b a) xs
take_of_take a b xs =
    elim (cases_lt b a) [
      | inl less ↦
          let e : b ≡ min b a = omega (arith, less) in
          let few : length (take b xs) ≤ a = simp length-take (omega (arith, less)) in
          take_all a (take b xs) few ∙ ap (λ m. take m xs) e
      | inr le ↦ let e : a ≡ min b a = omega (arith, le) in take-take a b xs le ∙ ap (λ m. take m xs) e
    ]

-- an item without its sign, as it stands in a field
pub item_fitted : (s : List ℕ) (at size sign room count : ℕ) → at + size ≤ length s → sign ≤ size → count ≡ min (size - sign) room
    → take count (drop (at + sign) s) ++ replicate (room - count) 32 ≡ fitted room (drop sign (take size (drop at s)))
item_fitted s at size sign room count within fits is =
    let text : List ℕ = drop sign (take size (drop at s)) in
    let long : length text ≡ size - sign = simp (length-drop, length-take) (omega arith) in
    let rest : room - count ≡ room - length text = omega arith in
    let chars : take count (drop (at + sign) s) ≡ take room text =
    ap (λ n. take n (drop (at + sign) s)) is ∙ sym (take_of_take room (size - sign) (drop (at + sign) s))
    ∙ ap (λ l. take room (take (size - sign) l)) (sym (drop-drop sign at s))
    ∙ ap (take room) (sym (drop_of_take sign size (drop at s))) in
    ap (λ l. l ++ replicate (room - count) 32) chars ∙ ap (λ (n : ℕ). take room text ++ replicate n 32) rest

-- an item that was moved to the spot of a text
pub item_moved : (s copied filled text : List ℕ) (at size sign few room count to : ℕ) → at + size ≤ length s → to + room ≤ length s → few ≡ min sign size
    → count ≡ min (size - few) room → copied ≡ written to (take count (drop (at + few) s)) s
    → filled ≡ written (to + count) (replicate (room - count) 32) copied → text ≡ drop sign (take size (drop at s))
    → filled ≡ written to (fitted room text) s
item_moved s copied filled text at size sign few room count to within room_is few_is count_is copy fill is =
    let piece : List ℕ = take count (drop (at + few) s) in
    let long : length piece ≡ count = simp (length-take, length-drop) (omega arith) in
    let chars : List ℕ = take size (drop at s) in
    let all : length chars ≡ size = simp (length-take, length-drop) (omega arith) in
    let same : drop few chars ≡ text = ap (λ n. drop n chars) (few_is ∙ ap (min sign) (sym all)) ∙ drop_min sign chars ∙ sym is in
    fill ∙ ap (written (to + count) (replicate (room - count) 32)) copy
    ∙ ap (λ n. written (to + n) (replicate (room - count) 32) (written to piece s)) (sym long)
    ∙ written-twice to piece (replicate (room - count) 32) s (omega arith)
    ∙ ap (λ t. written to t s) (item_fitted s at size few room count within (omega arith) count_is ∙ ap (fitted room) same)

-- ---- characters that are written one behind the other

-- one character
set-written : (s : List ℕ) (place value : ℕ) → place < length s → set s place value ≡ written place (value ∷ []) s
set-written s place value lt =
    let behind : List ℕ = drop (place + 1) s in
    let whole : s ≡ take place s ++ get_or s place 0 ∷ behind = sym (take-append-drop place s) ∙ ap (λ l. take place s ++ l) (split s place lt) in
    let long : length (take place s) ≡ place = simp length-take (omega arith) in
    ap (λ l. set l place value) whole ∙ ap (λ n. set (take place s ++ get_or s place 0 ∷ behind) n value) (sym long)
    ∙ set-append_seam (take place s) (get_or s place 0) behind value

-- one character more
pub written-more : (old now text : List ℕ) (at place value : ℕ) → now ≡ written at (take place text) old → place < length text → at + length text ≤ length old
    → value ≡ get_or text place 0 → set now (at + place) value ≡ written at (take (place + 1) text) old
written-more old now text at place value is lt room char =
    let front : List ℕ = take place text in
    let long : length front ≡ place = simp length-take (omega arith) in
    let size : length (written at front old) ≡ length old = length-written at front old (omega arith) in
    ap (λ l. set l (at + place) value) is ∙ set-written (written at front old) (at + place) value (omega arith)
    ∙ ap (λ n. written (at + n) (value ∷ []) (written at front old)) (sym long)
    ∙ written-twice at front (value ∷ []) old (omega arith)
    ∙ ap (λ v. written at (front ++ v ∷ []) old) char ∙ ap (λ l. written at l old) (sym (take_more text place 0 lt))

-- characters that are copied to a place behind them
pub copied_behind : (s front back chars new : List ℕ) (from count to : ℕ) → from + count ≤ to → front ≡ take to s → back ≡ drop to s
    → chars ≡ take count (drop from front) → new ≡ written 0 chars back → front ++ new ≡ written to (take count (drop from s)) s
copied_behind s front back chars new from count to apart front_is back_is is made =
    let least : min (to - from) count ≡ count = omega arith in
    let piece : List ℕ = take count (drop from s) in
    let none : 0 + length piece ≡ length piece = omega arith in
    let taken : chars ≡ piece =
    is ∙ ap (λ l. take count (drop from l)) front_is ∙ ap (take count) (drop_of_take from to s) ∙ take_of_take count (to - from) (drop from s)
    ∙ ap (λ n. take n (drop from s)) least in
    ap (λ l. front ++ l) made ∙ ap (λ l. l ++ written 0 chars back) front_is ∙ ap (λ l. take to s ++ written 0 l back) taken
    ∙ ap (λ l. take to s ++ written 0 piece l) back_is ∙ ap (λ n. take to s ++ (piece ++ drop n (drop to s))) none
    ∙ ap (λ l. take to s ++ (piece ++ l)) (drop-drop (length piece) to s)

-- characters that are copied to a place in front of them
pub copied_before : (s front back chars new : List ℕ) (from count to : ℕ) → to + count ≤ from → front ≡ take from s → back ≡ drop from s
    → chars ≡ take count back → new ≡ written to chars front → new ++ back ≡ written to (take count (drop from s)) s
copied_before s front back chars new from count to apart front_is back_is is made =
    let piece : List ℕ = take count (drop from s) in
    let taken : chars ≡ piece = is ∙ ap (take count) back_is in
    let few : length piece ≤ count = simp length-take (omega arith) in
    let k : ℕ = to + length piece in
    let there : k + (from - k) ≡ from = omega (arith, few) in
    let behind : drop k (take from s) ++ drop from s ≡ drop k s =
    ap (λ l. l ++ drop from s) (drop_of_take k from s)
    ∙ ap (λ l. take (from - k) (drop k s) ++ l) (ap (λ n. drop n s) (sym there) ∙ sym (drop-drop (from - k) k s))
    ∙ take-append-drop (from - k) (drop k s) in
    ap (λ l. l ++ back) made ∙ ap (λ l. written to l front ++ back) taken ∙ ap (λ l. written to piece l ++ back) front_is
    ∙ ap (λ l. written to piece (take from s) ++ l) back_is
    ∙ append_assoc (take to (take from s)) (piece ++ drop k (take from s)) (drop from s)
    ∙ ap (λ l. l ++ ((piece ++ drop k (take from s)) ++ drop from s)) (take-take to from s (omega (arith, apart)))
    ∙ ap (λ l. take to s ++ l) (append_assoc piece (drop k (take from s)) (drop from s) ∙ ap (λ l. piece ++ l) behind)
