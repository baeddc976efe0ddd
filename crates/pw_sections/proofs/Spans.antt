-- The parts of a line.
use Rattle.std.proofs.Common.{◌≡◌, ℕ, suc, ◌+◌, ◌<◌, ◌≤◌, Bool, true, false, cond, not, ◌&&◌, eqb, List, [], ◌∷◌, ◌++◌, length, get_or, take, drop, Option, None, Some, refl, sym, ap, append_assoc, ◌∙◌, arith}
use Rattle.std.proofs.lemmas.List.{drop_more, drop_all, append-nil}
use Rattle.pw_sections.specs.Lines.{in_front}
use Rattle.std.specs.Option.{option_map, option_and_then}
use Rattle.std.specs.Str.{bytes_eq}
use Rattle.pw_sections.specs.Entries.{parts, part_size, quoted, next_quoted, NameValue, name_value_pair, with_pair, pairs_of}

-- whether what stands behind a byte is in a text
abbrev pub behind : Bool → ℕ → Bool
behind t b = cond (eqb b 34) (not t) t

abbrev pub ends : Bool → ℕ → Bool
ends t b = eqb b 32 && not t

size_step : (t : Bool) (b : ℕ) (rest : List ℕ) → part_size t (b ∷ rest) ≡ cond (ends t b) 0 (part_size (behind t b) rest + 1)
unfolding part_size
size_step t b rest = refl

no_size : (t : Bool) → part_size t [] ≡ 0
unfolding part_size
no_size t = refl

size_by : (t : Bool) (b : ℕ) (rest : List ℕ) (e : Bool) → ends t b ≡ e → part_size t (b ∷ rest) ≡ cond e 0 (part_size (behind t b) rest + 1)
size_by t b rest e is = size_step t b rest ∙ ap (λ x. cond x 0 (part_size (behind t b) rest + 1)) is

-- the loop's turn, and its ends
pub turn_here : (line : List ℕ) (i whole : ℕ) (t : Bool) → i < length line → true ≡ ends t (get_or line i 0)
    → whole ≡ i + part_size t (drop i line) → i ≡ whole
turn_here line i whole t lt is so_far =
    let here = ap (part_size t) (drop_more line i 0 lt) ∙ size_by t (get_or line i 0) (drop (i + 1) line) true (sym is) in
    omega (arith, here, so_far)

pub turn_more : (line : List ℕ) (i whole : ℕ) (t next : Bool) → i < length line → false ≡ ends t (get_or line i 0)
    → next ≡ behind t (get_or line i 0) → whole ≡ i + part_size t (drop i line) → whole ≡ i + 1 + part_size next (drop (i + 1) line)
turn_more line i whole t next lt is next_is so_far =
    let more = ap (part_size t) (drop_more line i 0 lt) ∙ size_by t (get_or line i 0) (drop (i + 1) line) false (sym is) in
    let same : part_size next (drop (i + 1) line) ≡ part_size (behind t (get_or line i 0)) (drop (i + 1) line) = ap (λ x. part_size x (drop (i + 1) line)) next_is in
    omega (arith, more, so_far, same)

pub turn_end : (line : List ℕ) (i whole : ℕ) (t : Bool) → length line ≤ i → whole ≡ i + part_size t (drop i line) → i ≡ whole
turn_end line i whole t le so_far =
    let none = ap (part_size t) (drop_all i line le) ∙ no_size t in
    omega (arith, none, so_far)

parts_step : (t : Bool) (b : ℕ) (rest : List ℕ) → parts t (b ∷ rest) ≡ cond (ends t b) ([] ∷ parts false rest) (in_front b (parts (behind t b) rest))
unfolding parts
parts_step t b rest = refl

parts_by : (t : Bool) (b : ℕ) (rest : List ℕ) (e : Bool) → ends t b ≡ e → parts t (b ∷ rest) ≡ cond e ([] ∷ parts false rest) (in_front b (parts (behind t b) rest))
parts_by t b rest e is = parts_step t b rest ∙ ap (λ x. cond x ([] ∷ parts false rest) (in_front b (parts (behind t b) rest))) is

no_parts : (t : Bool) → parts t [] ≡ [] ∷ []
unfolding parts
no_parts t = refl

-- a line in which no space ends a part is one part
pub one_part : (t : Bool) (line : List ℕ) → part_size t line ≡ length line → parts t line ≡ line ∷ []
one_part t [] is = no_parts t
one_part t (b ∷ rest) is = go (ends t b) refl (one_part (behind t b) rest)
  where
    go : (e : Bool) → ends t b ≡ e → (part_size (behind t b) rest ≡ length rest → parts (behind t b) rest ≡ rest ∷ []) → parts t (b ∷ rest) ≡ (b ∷ rest) ∷ []
    go true e more = let bad = size_by t b rest true e in absurd (omega (arith, bad, is))
    go false e more =
        let size = size_by t b rest false e in
        parts_by t b rest false e ∙ ap (in_front b) (more (omega (arith, size, is)))

-- else it is cut at the first space that ends one
pub first_part : (t : Bool) (line : List ℕ) (n : ℕ) → n ≡ part_size t line → n < length line → parts t line ≡ take n line ∷ parts false (drop (n + 1) line)
first_part t [] n is lt = absurd (omega arith)
first_part t (b ∷ rest) n is lt = go (ends t b) refl (first_part (behind t b) rest)
  where
    go : (e : Bool) → ends t b ≡ e
        → ((m : ℕ) → m ≡ part_size (behind t b) rest → m < length rest → parts (behind t b) rest ≡ take m rest ∷ parts false (drop (m + 1) rest))
        → parts t (b ∷ rest) ≡ take n (b ∷ rest) ∷ parts false (drop (n + 1) (b ∷ rest))
    go true e more =
        let zero_n : n ≡ 0 = is ∙ size_by t b rest true e in
        parts_by t b rest true e ∙ ap (λ k. take k (b ∷ rest) ∷ parts false (drop (k + 1) (b ∷ rest))) (sym zero_n)
    go false e more =
        let m = part_size (behind t b) rest in
        let size : n ≡ suc m = is ∙ size_by t b rest false e ∙ omega arith in
        let within : m < length rest = omega (arith, size, lt) in
        let next : suc m + 1 ≡ suc (m + 1) = omega arith in
        parts_by t b rest false e ∙ ap (in_front b) (more m refl within)
        ∙ sym (ap (λ k. take k (b ∷ rest) ∷ parts false (drop (k + 1) (b ∷ rest))) size ∙ ap (λ k. (b ∷ take m rest) ∷ parts false (drop k (b ∷ rest))) next)

quoted_step : (x y : ℕ) (rest : List ℕ) → quoted (x ∷ y ∷ rest)
    ≡ cond (eqb x 34) (cond (eqb y 34) (option_map (λ t. 34 ∷ t) (quoted rest)) None) (option_map (λ t. x ∷ t) (quoted (y ∷ rest)))
unfolding quoted
quoted_step x y rest = refl

quoted_by : (x y : ℕ) (rest : List ℕ) (p q : Bool) → eqb x 34 ≡ p → eqb y 34 ≡ q → quoted (x ∷ y ∷ rest)
    ≡ cond p (cond q (option_map (λ t. 34 ∷ t) (quoted rest)) None) (option_map (λ t. x ∷ t) (quoted (y ∷ rest)))
quoted_by x y rest p q is_p is_q =
    quoted_step x y rest
    ∙ ap (λ k. cond k (cond (eqb y 34) (option_map (λ t. 34 ∷ t) (quoted rest)) None) (option_map (λ t. x ∷ t) (quoted (y ∷ rest)))) is_p
    ∙ ap (λ k. cond p (cond k (option_map (λ t. 34 ∷ t) (quoted rest)) None) (option_map (λ t. x ∷ t) (quoted (y ∷ rest)))) is_q

next_by : (x y : ℕ) (rest : List ℕ) (p q : Bool) → eqb x 34 ≡ p → eqb y 34 ≡ q
    → next_quoted (x ∷ y ∷ rest) ≡ cond p (cond q (Some (34, rest)) None) (Some (x, y ∷ rest))
next_by x y rest p q is_p is_q =
    ap (λ k. cond k (cond (eqb y 34) (Some (34, rest)) None) (Some (x, y ∷ rest))) is_p
    ∙ ap (λ k. cond p (cond k (Some (34, rest)) None) (Some (x, y ∷ rest))) is_q

-- a byte, and what is behind it
abbrev Found : Type 0
Found = ℕ × List ℕ

-- a text in quotes, by its next byte
pub one_byte : (text behind : List ℕ) (b : ℕ) → next_quoted text ≡ Some (b, behind) → quoted text ≡ option_map (λ t. b ∷ t) (quoted behind)
one_byte [] behind b is = absurd cc
one_byte (x ∷ []) behind b is = absurd cc
one_byte (x ∷ y ∷ rest) behind b is = go (eqb x 34) refl (eqb y 34) refl
  where
    same : (c : ℕ) (r : List ℕ) → ◌≡◌ {A = Option Found} (Some (c, r)) (Some (b, behind)) → option_map (λ t. c ∷ t) (quoted r) ≡ option_map (λ t. b ∷ t) (quoted behind)
    same c r e =
        let left : Found = (c, r) in
        let right : Found = (b, behind) in
        let pairs : left ≡ right = cc in
        ap (λ p. option_map (λ t. p.0 ∷ t) (quoted p.1)) pairs

    go : (p : Bool) → eqb x 34 ≡ p → (q : Bool) → eqb y 34 ≡ q → quoted (x ∷ y ∷ rest) ≡ option_map (λ t. b ∷ t) (quoted behind)
    go true is_p true is_q = quoted_by x y rest true true is_p is_q ∙ same 34 rest (sym (next_by x y rest true true is_p is_q) ∙ is)
    go true is_p false is_q = let bad : None ≡ Some (b, behind) = sym (next_by x y rest true false is_p is_q) ∙ is in absurd cc
    go false is_p q is_q = quoted_by x y rest false q is_p is_q ∙ same x (y ∷ rest) (sym (next_by x y rest false q is_p is_q) ∙ is)

alone : (k : Bool) → cond {A = Option (List ℕ)} k (Some []) None ≡ cond (k && true) (Some []) None
alone true = refl
alone false = refl

-- a text without a next byte ends there with its quote, or does not end
pub no_byte : (text : List ℕ) → None ≡ next_quoted text → quoted text ≡ cond (bytes_eq text (34 ∷ [])) (Some []) None
unfolding quoted
no_byte [] is = refl
no_byte (x ∷ []) is = alone (eqb x 34)
no_byte (x ∷ y ∷ rest) is = many (eqb x 34) refl (eqb y 34) refl
  where
    many : (p : Bool) → eqb x 34 ≡ p → (q : Bool) → eqb y 34 ≡ q → quoted (x ∷ y ∷ rest) ≡ cond (bytes_eq (x ∷ y ∷ rest) (34 ∷ [])) (Some []) None
    many true is_p true is_q = let bad : None ≡ Some (34, rest) = is ∙ next_by x y rest true true is_p is_q in absurd cc
    many true is_p false is_q = quoted_by x y rest true false is_p is_q ∙ ap (λ k. cond (k && false) (Some []) None) (sym is_p)
    many false is_p q is_q = let bad : None ≡ Some (x, y ∷ rest) = is ∙ next_by x y rest false q is_p is_q in absurd cc

-- one byte more of the value
pub value_more : (value next rest behind whole_text : List ℕ) (b : ℕ) → next ≡ value ++ b ∷ [] → next_quoted rest ≡ Some (b, behind)
    → option_map (λ t. value ++ t) (quoted rest) ≡ quoted whole_text → option_map (λ t. next ++ t) (quoted behind) ≡ quoted whole_text
value_more value next rest behind whole_text b next_is is so_far =
    ap (λ v. option_map (λ t. v ++ t) (quoted behind)) next_is ∙ through (quoted behind)
    ∙ ap (option_map (λ t. value ++ t)) (sym (one_byte rest behind b is)) ∙ so_far
  where
    through : (o : Option (List ℕ)) → option_map (λ t. (value ++ b ∷ []) ++ t) o ≡ option_map (λ t. value ++ t) (option_map (λ t. b ∷ t) o)
    through None = refl
    through (Some t) = ap (λ x. Some x) (append_assoc value (b ∷ []) t)

-- the value is whole
pub value_whole : (value rest whole_text : List ℕ) → None ≡ next_quoted rest → bytes_eq rest (34 ∷ []) ≡ true
    → option_map (λ t. value ++ t) (quoted rest) ≡ quoted whole_text → Some value ≡ quoted whole_text
value_whole value rest whole_text none end so_far =
    ap (λ x. Some x) (sym (append-nil value))
    ∙ sym (ap (option_map (λ t. value ++ t)) (no_byte rest none ∙ ap (λ k. cond k (Some []) None) end)) ∙ so_far

-- the text does not end
pub value_none : (value rest whole_text : List ℕ) → None ≡ next_quoted rest → bytes_eq rest (34 ∷ []) ≡ false
    → option_map (λ t. value ++ t) (quoted rest) ≡ quoted whole_text → None ≡ quoted whole_text
value_none value rest whole_text none end so_far =
    sym (ap (option_map (λ t. value ++ t)) (no_byte rest none ∙ ap (λ k. cond k (Some []) None) end)) ∙ so_far

-- one part more may stand behind the pairs, or none may
pub pair_turn : (pairs : List NameValue) (more : Option (List NameValue)) (part : List ℕ) (all rest : List (List ℕ)) (whole : Option (List NameValue)) → all ≡ part ∷ rest
    → more ≡ with_pair pairs (name_value_pair part) → pairs_of pairs all ≡ whole → option_and_then (λ more. pairs_of more rest) more ≡ whole
unfolding pairs_of
pair_turn pairs more part all rest whole is with so_far =
    ap (option_and_then (λ more. pairs_of more rest)) with ∙ sym (ap (pairs_of pairs) is) ∙ so_far

-- no part is left
pub pairs_end : (fields : List NameValue) (whole : Option (List NameValue)) → pairs_of fields [] ≡ whole → Some fields ≡ whole
unfolding pairs_of
pairs_end fields whole so_far = so_far

-- how much is left behind a part
abbrev pub size_left : Option (List ℕ) → ℕ
size_left None = 0
size_left (Some rest) = length rest + 1
