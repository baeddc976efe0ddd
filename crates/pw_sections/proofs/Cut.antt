-- The first line of a text.
use Rattle.std.proofs.Common.{◌≡◌, ◌≢◌, ℕ, zero, suc, ◌+◌, ◌<◌, ◌≤◌, Bool, true, false, cond, eqb, ltb, ◌&&◌, List, [], ◌∷◌, ◌++◌, length, get_or, take, drop, Option, Some, None, MatchOption, Bor, refl, sym, ap, ◌∙◌, arith}
use Rattle.std.proofs.Math.Bool.{and-false}
use Rattle.std.proofs.lemmas.Bool.{ne_eqb, eq-eqb, eqb-true, ltb-false}
use Rattle.std.proofs.lemmas.List.{drop_more, take-append-drop}
use Rattle.std.proofs.lemmas.List.Quantifiers.{position-Some}
use Rattle.std.proofs.lemmas.List.Sums.{fails_before_first}
use Rattle.std.specs.Option.{unwrap_or}
use Rattle.std.specs.List.{position, position_or_len}
use Rattle.pw_sections.specs.Lines.{begins_with_lf, without_return, in_front, lines}

-- a line without a CR at its end stays
no_return : (line : List ℕ) → ((front : List ℕ) → line ≢ front ++ 13 ∷ []) → without_return line ≡ line
no_return [] h = refl
no_return (b ∷ []) h = let ne : b ≢ 13 = λ e. h [] (ap (λ n. n ∷ []) e) in rw (ne_eqb b 13 ne) refl
no_return (b ∷ (c ∷ rest)) h = ap (λ bs. b ∷ bs) (no_return (c ∷ rest) (λ front e. h (b ∷ front) (ap (λ bs. b ∷ bs) e)))

-- a CR at the end goes
one_return : (front : List ℕ) → without_return (front ++ 13 ∷ []) ≡ front
one_return [] = refl
one_return (b ∷ []) = refl
one_return (b ∷ (c ∷ rest)) = ap (λ bs. b ∷ bs) (one_return (c ∷ rest))

-- what stripping a CR from the end leaves
pub stripped : (line : Bor (List ℕ)) (found : Option (Bor (List ℕ))) → MatchOption found ((front : List ℕ) → line.now ≢ front ++ 13 ∷ []) (λ x. line.now ≡ x.now ++ 13 ∷ []) → (unwrap_or found line).now ≡ without_return line.now
stripped line None h = sym (no_return line.now h)
stripped line (Some x) h = sym (ap without_return h ∙ one_return x.now)

abbrev HasNoLf : List ℕ → Type 0
HasNoLf [] = Unit {0}
HasNoLf (b ∷ bs) = (b ≢ 10) × HasNoLf bs

no_lf : (bs : List ℕ) (n : ℕ) → ((k : ℕ) → k < n → get_or bs k 0 ≢ 10) → HasNoLf (take n bs)
no_lf [] zero h = tt
no_lf [] (suc n) h = tt
no_lf (b ∷ bs) zero h = tt
no_lf (b ∷ bs) (suc n) h = (h 0 (omega arith), no_lf bs n (λ k lt. h (suc k) (omega arith)))

fails_is : (b : ℕ) → eqb b 10 ≡ false → b ≢ 10
fails_is b h e = let yes : eqb b 10 ≡ true = eq-eqb b 10 e in cc

all_of : (bs : List ℕ) → ((k : ℕ) → k < length bs → get_or bs k 0 ≢ 10) → HasNoLf bs
all_of [] h = tt
all_of (b ∷ bs) h = (h 0 (omega arith), all_of bs (λ k lt. h (suc k) (omega arith)))

nowhere_by : (t : Bool) (bs : List ℕ) → ltb (position_or_len (λ b. eqb b 10) bs) (length bs) ≡ t → cond t (Some (position_or_len (λ b. eqb b 10) bs)) None ≡ None → (k : ℕ) → k < length bs → get_or bs k 0 ≢ 10
nowhere_by true bs is none k lt = absurd cc
nowhere_by false bs is none k lt =
    let le : length bs ≤ position_or_len (λ b. eqb b 10) bs = ltb-false (position_or_len (λ b. eqb b 10) bs) (length bs) is in
    fails_is (get_or bs k 0) (fails_before_first (λ b. eqb b 10) bs k 0 (omega arith))

nowhere : (bs : List ℕ) → position (λ b. eqb b 10) bs ≡ None → (k : ℕ) → k < length bs → get_or bs k 0 ≢ 10
nowhere bs none = nowhere_by (ltb (position_or_len (λ b. eqb b 10) bs) (length bs)) bs refl none

step : (b : ℕ) (rest : List ℕ) → b ≢ 10 → lines (b ∷ rest) ≡ cond (eqb b 13 && begins_with_lf rest) (lines rest) (in_front b (lines rest))
unfolding lines
step b rest ne = rw (ne_eqb b 10 ne) refl

step_inside : (b c : ℕ) (rest : List ℕ) → b ≢ 10 → c ≢ 10 → lines (b ∷ (c ∷ rest)) ≡ in_front b (lines (c ∷ rest))
step_inside b c rest nb nc =
    let e : (eqb b 13 && eqb c 10) ≡ false = ap (λ t. eqb b 13 && t) (ne_eqb c 10 nc) ∙ and-false (eqb b 13) in
    step b (c ∷ rest) nb ∙ ap (λ t. cond t (lines (c ∷ rest)) (in_front b (lines (c ∷ rest)))) e

one_byte : (t : Bool) (b : ℕ) (rest : List (List ℕ)) → cond (t && true) ([] ∷ rest) ((b ∷ []) ∷ rest) ≡ cond t [] (b ∷ []) ∷ rest
one_byte true b rest = refl
one_byte false b rest = refl

ended_line : (line rest : List ℕ) → HasNoLf line → lines (line ++ 10 ∷ rest) ≡ without_return line ∷ lines rest
unfolding lines
ended_line [] rest h = refl
ended_line (b ∷ []) rest h = step b (10 ∷ rest) h.0 ∙ one_byte (eqb b 13) b (lines rest)
ended_line (b ∷ (c ∷ more)) rest h = step_inside b c (more ++ 10 ∷ rest) h.0 h.1.0 ∙ ap (in_front b) (ended_line (c ∷ more) rest h.1)

open_line : (b : ℕ) (more : List ℕ) → HasNoLf (b ∷ more) → lines (b ∷ more) ≡ (b ∷ more) ∷ []
unfolding lines
open_line b [] h = step b [] h.0 ∙ ap (λ t. cond t [] ((b ∷ []) ∷ [])) (and-false (eqb b 13))
open_line b (c ∷ more) h = step_inside b c more h.0 h.1.0 ∙ ap (in_front b) (open_line c more h.1)

-- a text in which no LF stands is one line
pub last_line : (text : List ℕ) → false ≡ eqb (length text) 0 → position (λ b. eqb b 10) text ≡ None → lines text ≡ text ∷ []
last_line [] some none = absurd cc
last_line (b ∷ rest) some none = open_line b rest (all_of (b ∷ rest) (nowhere (b ∷ rest) none))

-- a text is cut at its first LF
pub first_line : (text : List ℕ) (end : ℕ) → position (λ b. eqb b 10) text ≡ Some end → lines text ≡ without_return (take end text) ∷ lines (drop (end + 1) text)
first_line text end found =
    let at = position-Some (λ b. eqb b 10) text end 0 found in
    let lf : get_or text end 0 ≡ 10 = eqb-true (get_or text end 0) 10 at.1 in
    let whole : text ≡ take end text ++ 10 ∷ drop (end + 1) text = sym (take-append-drop end text) ∙ ap (λ bs. take end text ++ bs) (drop_more text end 0 at.0 ∙ ap (λ b. b ∷ drop (end + 1) text) lf) in
    ap lines whole ∙ ended_line (take end text) (drop (end + 1) text) (no_lf text end (λ k lt. fails_is (get_or text k 0) (at.2 k lt)))
