-- The lines of a section, and how many there are.
use Rattle.std.proofs.Common.{◌≡◌, ℕ, ◌+◌, ◌<◌, ◌≤◌, Bool, true, false, cond, not, List, [], ◌∷◌, ◌++◌, length, refl, ap, ◌∙◌, arith}
use Rattle.std.specs.Prelude.{◌==◌, ◌&&◌, filter}
use Rattle.pw_base.specs.Characters.{line_feed, carriage_return}
use Rattle.pw_sections.specs.Lines.{lines, in_front, begins_with_lf}
use Rattle.pw_sections.proofs.Folds.{no_lines}
use Rattle.pw_deck_tables.specs.Pieces.{first_line_of, is_open}

-- an empty text has no first line
pub no_first : (text : List ℕ) → text ≡ [] → first_line_of (lines text) ≡ []
no_first text none = ap first_line_of (no_lines text none)

-- how many lines end with LF, and one more where the last lacks it
abbrev pub ends : List ℕ → ℕ
ends text = length (filter (λ byte. byte == line_feed) text)

abbrev pub bit : Bool → ℕ
bit is = cond is 1 0

abbrev counted : List ℕ → ℕ
counted text = ends text + bit (is_open text)

bit_bound : (is : Bool) → bit is ≤ 1
bit_bound true = omega arith
bit_bound false = omega arith

-- one byte more
ends-cons : (b : ℕ) (rest : List ℕ) → ends (b ∷ rest) ≡ bit (b == line_feed) + ends rest
ends-cons b rest = by (b == line_feed)
  where
    by : (is : Bool) → length (cond is (b ∷ filter (λ byte. byte == line_feed) rest) (filter (λ byte. byte == line_feed) rest)) ≡ bit is + ends rest
    by true = omega arith
    by false = omega arith

-- the ends that were summed, with those that are left: the next byte is summed, and none is left
pub summed-next : (sum count byte : ℕ) (rest behind text : List ℕ) → rest ≡ byte ∷ behind → count ≡ bit (byte == line_feed)
    → sum + ends rest ≡ ends text → (sum + count) + ends behind ≡ ends text
summed-next sum count byte rest behind text is here so_far =
    let more : ends rest ≡ bit (byte == line_feed) + ends behind = ap ends is ∙ ends-cons byte behind in
    omega arith

pub summed-all : (sum : ℕ) (rest text : List ℕ) → length rest ≡ 0 → sum + ends rest ≡ ends text → sum ≡ ends text
summed-all sum [] text none so_far = omega arith
summed-all sum (byte ∷ rest) text none so_far = absurd (omega arith)

-- the last byte
last-counted : (b : ℕ) → counted (b ∷ []) ≡ 1
unfolding is_open
last-counted b = by (b == line_feed)
  where
    by : (is : Bool) → length (cond is (b ∷ []) []) + bit (not is) ≡ 1
    by true = refl
    by false = refl

counted-cons : (b c : ℕ) (rest : List ℕ) → counted (b ∷ (c ∷ rest)) ≡ bit (b == line_feed) + counted (c ∷ rest)
unfolding is_open
counted-cons b c rest =
    let same : is_open (b ∷ (c ∷ rest)) ≡ is_open (c ∷ rest) = refl in
    omega (arith, ends-cons b (c ∷ rest), ap bit same)

some_counted : (b : ℕ) (rest : List ℕ) → 0 < counted (b ∷ rest)
some_counted b [] = omega (arith, last-counted b)
some_counted b (c ∷ rest) = omega (arith, counted-cons b c rest, some_counted c rest)

-- no more than there are bytes
few_counted : (text : List ℕ) → counted text ≤ length text
unfolding is_open
few_counted [] = omega arith
few_counted (b ∷ []) = omega (arith, last-counted b)
few_counted (b ∷ (c ∷ rest)) = omega (arith, counted-cons b c rest, few_counted (c ∷ rest), bit_bound (b == line_feed))

-- a byte in front makes no line
length-in_front : (b : ℕ) (more : List (List ℕ)) → 0 < length more → length (in_front b more) ≡ length more
length-in_front b [] some = absurd (omega arith)
length-in_front b (line ∷ more) some = refl

last-lines : (b : ℕ) → length (lines (b ∷ [])) ≡ 1
unfolding lines
last-lines b = by (b == line_feed) (b == carriage_return)
  where
    by : (is back : Bool) → length (cond is ([] ∷ []) (cond (back && false) [] ((b ∷ []) ∷ []))) ≡ 1
    by true back = refl
    by false true = refl
    by false false = refl

lines-cons : (b c : ℕ) (rest : List ℕ) → 0 < length (lines (c ∷ rest)) → length (lines (b ∷ (c ∷ rest))) ≡ bit (b == line_feed) + length (lines (c ∷ rest))
unfolding lines
lines-cons b c rest some = by (b == line_feed) (b == carriage_return && begins_with_lf (c ∷ rest)) (lines (c ∷ rest)) some
  where
    by : (is back : Bool) (more : List (List ℕ)) → 0 < length more → length (cond is ([] ∷ more) (cond back more (in_front b more))) ≡ bit is + length more
    by true back more some = omega arith
    by false true more some = omega arith
    by false false more some = omega (arith, length-in_front b more some)

-- those are all
all_counted : (text : List ℕ) → length (lines text) ≡ counted text
unfolding lines is_open
all_counted [] = refl
all_counted (b ∷ []) = omega (arith, last-lines b, last-counted b)
all_counted (b ∷ (c ∷ rest)) =
    let some : 0 < length (lines (c ∷ rest)) = omega (arith, all_counted (c ∷ rest), some_counted c rest) in
    omega (arith, lines-cons b c rest some, counted-cons b c rest, all_counted (c ∷ rest))

-- whether the last line is open is told by the last byte
pub open_last : (front : List ℕ) (b : ℕ) → is_open (front ++ b ∷ []) ≡ not (b == line_feed)
unfolding is_open
open_last [] b = refl
open_last (c ∷ []) b = refl
open_last (c ∷ (d ∷ front)) b = open_last (d ∷ front) b

-- an empty text has no line that is open
pub none_open : (text : List ℕ) → length text ≡ 0 → false ≡ is_open text
unfolding is_open
none_open [] none = refl
none_open (b ∷ rest) none = absurd (omega arith)

-- where the last line is open, and where it is not
pub counted-open : (text : List ℕ) (count : ℕ) → count ≡ ends text → true ≡ is_open text → length (lines text) ≡ count + 1
counted-open text count is unended = omega (arith, all_counted text, ap bit unended)

pub counted-shut : (text : List ℕ) (count : ℕ) → count ≡ ends text → false ≡ is_open text → length (lines text) ≡ count
counted-shut text count is ended = omega (arith, all_counted text, ap bit ended)

-- no text has more lines than bytes
pub few_lines : (text : List ℕ) → length (lines text) ≤ length text
few_lines text = omega (arith, all_counted text, few_counted text)
