-- The texts of lines, as they grow.
use Rattle.std.proofs.Common.{◌≡◌, ℕ, suc, ◌+◌, ◌-◌, ◌<◌, ◌≤◌, List, [], ◌∷◌, ◌++◌, length, get_or, drop, map, Bor, refl, sym, ap, ◌∙◌, arith, append_assoc}
use Rattle.std.proofs.lemmas.List.{drop_more, drop_all, append-nil}
use Rattle.pw_gen.specs.Parts.{Line}
use Rattle.pw_gen.specs.Generated.{text_of, terminal_lines, terminals_from, entry_line, next_number, entry_lines, number_after, section_line, sections_from}

-- the text of two runs of lines is that of the one behind that of the other
pub text_of-append : (xs ys : List Line) → text_of (xs ++ ys) ≡ text_of xs ++ text_of ys
text_of-append [] ys = refl
text_of-append (line ∷ xs) ys =
    ap (λ t. line ++ 10 ∷ t) (text_of-append xs ys) ∙ sym (append_assoc line (10 ∷ text_of xs) (text_of ys))

-- some lines are put behind a text, and others are left
pub goes_on : (text more whole : List ℕ) (lines rest : List Line) → more ≡ text ++ text_of lines
    → text ++ text_of (lines ++ rest) ≡ whole → more ++ text_of rest ≡ whole
goes_on text more whole lines rest put left =
    ap (λ t. t ++ text_of rest) put ∙ append_assoc text (text_of lines) (text_of rest)
    ∙ ap (λ t. text ++ t) (sym (text_of-append lines rest)) ∙ left

-- none is left
pub comes_to : (text whole : List ℕ) (rest : List Line) → rest ≡ [] → text ++ text_of rest ≡ whole → text ≡ whole
comes_to text whole rest none left = sym (append-nil text) ∙ ap (λ r. text ++ text_of r) (sym none) ∙ left

-- the lines that the references point to
abbrev pub lines_at : List (Bor (List ℕ)) → List Line
lines_at lines = map (λ line. line.now) lines

pub one_line : (lines : List (Bor (List ℕ))) (i : ℕ) (d : Bor (List ℕ)) → i < length lines
    → lines_at (drop i lines) ≡ (get_or lines i d).now ∷ [] ++ lines_at (drop (i + 1) lines)
one_line lines i d lt = ap lines_at (drop_more lines i d lt)

pub no_line : (lines : List (Bor (List ℕ))) (i : ℕ) → length lines ≤ i → lines_at (drop i lines) ≡ []
no_line lines i le = ap lines_at (drop_all i lines le)

pub one_terminal : (terminals i : ℕ) → i < terminals
    → terminals_from (terminals - i) (i + 1) ≡ terminal_lines (i + 1) ++ terminals_from (terminals - (i + 1)) (i + 1 + 1)
unfolding terminals_from
one_terminal terminals i lt = let e : terminals - i ≡ suc (terminals - (i + 1)) = omega arith in rw e refl

pub no_terminal : (terminals i t : ℕ) → terminals ≤ i → terminals_from (terminals - i) t ≡ []
unfolding terminals_from
no_terminal terminals i t le = let e : terminals - i ≡ 0 = omega arith in rw e refl

pub one_entry : (count i x : ℕ) → i < count
    → entry_lines (count - i) x ≡ entry_line (next_number x) ∷ [] ++ entry_lines (count - (i + 1)) (next_number x)
unfolding entry_lines
one_entry count i x lt = let e : count - i ≡ suc (count - (i + 1)) = omega arith in rw e refl

pub no_entry : (count i x : ℕ) → count ≤ i → entry_lines (count - i) x ≡ []
unfolding entry_lines
no_entry count i x le = let e : count - i ≡ 0 = omega arith in rw e refl

pub one_number : (count i x : ℕ) → i < count → number_after (count - i) x ≡ number_after (count - (i + 1)) (next_number x)
unfolding number_after
one_number count i x lt = let e : count - i ≡ suc (count - (i + 1)) = omega arith in rw e refl

pub no_number : (count i x : ℕ) → count ≤ i → number_after (count - i) x ≡ x
unfolding number_after
no_number count i x le = let e : count - i ≡ 0 = omega arith in rw e refl

pub one_section : (terminals i x : ℕ) → i < terminals
    → sections_from (terminals - i) (i + 1) x
    ≡ (section_line (i + 1) ∷ []) ++ (entry_lines 8 x ++ sections_from (terminals - (i + 1)) (i + 1 + 1) (number_after 8 x))
unfolding sections_from
one_section terminals i x lt = let e : terminals - i ≡ suc (terminals - (i + 1)) = omega arith in rw e refl

pub no_section : (terminals i t x : ℕ) → terminals ≤ i → sections_from (terminals - i) t x ≡ []
unfolding sections_from
no_section terminals i t x le = let e : terminals - i ≡ 0 = omega arith in rw e refl

-- the parts of the deck, put one behind the other
pub all_parts : (none t0 t1 t2 t3 t4 t5 t6 : List ℕ) (a b c d e f g : List Line)
    → none ≡ [] → t0 ≡ none ++ text_of a → t1 ≡ t0 ++ text_of b → t2 ≡ t1 ++ text_of c → t3 ≡ t2 ++ text_of d → t4 ≡ t3 ++ text_of e
    → t5 ≡ t4 ++ text_of f → t6 ≡ t5 ++ text_of g → t6 ≡ text_of (a ++ (b ++ (c ++ (d ++ (e ++ (f ++ g))))))
all_parts none t0 t1 t2 t3 t4 t5 t6 a b c d e f g empty h0 h1 h2 h3 h4 h5 h6 =
    let whole = text_of (a ++ (b ++ (c ++ (d ++ (e ++ (f ++ g)))))) in
    let k0 = goes_on none t0 whole a (b ++ (c ++ (d ++ (e ++ (f ++ g))))) h0 (ap (λ t. t ++ whole) empty) in
    let k1 = goes_on t0 t1 whole b (c ++ (d ++ (e ++ (f ++ g)))) h1 k0 in
    let k2 = goes_on t1 t2 whole c (d ++ (e ++ (f ++ g))) h2 k1 in
    let k3 = goes_on t2 t3 whole d (e ++ (f ++ g)) h3 k2 in
    let k4 = goes_on t3 t4 whole e (f ++ g) h4 k3 in
    let k5 = goes_on t4 t5 whole f g h5 k4 in
    h6 ∙ k5
