-- Texts that are put together of lines, and where they are cut.
use Rattle.std.proofs.Common.{◌≡◌, ℕ, zero, suc, ◌+◌, Bool, true, false, cond, not, ◌&&◌, eqb, List, [], ◌∷◌, ◌++◌, map, length, append_assoc, append-nil, refl, sym, ap, ◌∙◌}
use Rattle.std.specs.List.{list_all}
use Rattle.std.proofs.lemmas.Bool.{and_parts, not-true}
use Rattle.pw_gen.specs.Generated.{text_of}
use Rattle.pw_sections.specs.Lines.{begins_with_lf, in_front, lines}
use Rattle.pw_sections.specs.Parts.{DeckSections, with_byte, cut, sections, front}

-- the byte ends no line and belongs to no end of one
abbrev pub is_inside : ℕ → Bool
is_inside b = not (eqb b 10) && not (eqb b 13)

abbrev pub is_line : List ℕ → Bool
is_line line = list_all is_inside line

abbrev pub are_lines : List (List ℕ) → Bool
are_lines all = list_all is_line all

pub inside : (b : ℕ) → is_inside b ≡ true → (eqb b 10 ≡ false) × (eqb b 13 ≡ false)
inside b is = go (eqb b 10) (eqb b 13) is
  where
    go : (x y : Bool) → (not x && not y) ≡ true → (x ≡ false) × (y ≡ false)
    go false false is = (refl, refl)
    go false true is = absurd cc
    go true y is = absurd cc

-- a line in front of a text is its first
first_line : (line rest : List ℕ) → is_line line ≡ true → lines (line ++ 10 ∷ rest) ≡ line ∷ lines rest
unfolding lines
first_line [] rest is = refl
first_line (b ∷ bs) rest is =
    let parts = and_parts (is_inside b) (is_line bs) is in
    let no = inside b parts.0 in
    ap (λ t. cond t ([] ∷ lines (bs ++ 10 ∷ rest)) (cond (eqb b 13 && begins_with_lf (bs ++ 10 ∷ rest)) (lines (bs ++ 10 ∷ rest)) (in_front b (lines (bs ++ 10 ∷ rest))))) no.0
    ∙ ap (λ t. cond (t && begins_with_lf (bs ++ 10 ∷ rest)) (lines (bs ++ 10 ∷ rest)) (in_front b (lines (bs ++ 10 ∷ rest)))) no.1
    ∙ ap (in_front b) (first_line bs rest parts.1)

no_line : lines [] ≡ []
unfolding lines
no_line = refl

-- the lines of a text are those that it was put together of
pub lines_of : (all : List (List ℕ)) → are_lines all ≡ true → lines (text_of all) ≡ all
lines_of [] is = no_line
lines_of (line ∷ rest) is =
    let parts = and_parts (is_line line) (are_lines rest) is in
    first_line line (text_of rest) parts.0 ∙ ap (λ ls. line ∷ ls) (lines_of rest parts.1)

-- a cut with some bytes in front of it
abbrev behind : List ℕ → DeckSections → DeckSections
behind text c = record { front = text ++ c.front; sections = c.sections }

-- a text that is not at the start of a line is cut behind this line
in_line : (line rest : List ℕ) → is_line line ≡ true → cut false (line ++ 10 ∷ rest) ≡ behind (line ++ 10 ∷ []) (cut true rest)
unfolding cut
in_line [] rest is = refl
in_line (b ∷ bs) rest is =
    let parts = and_parts (is_inside b) (is_line bs) is in
    let no = inside b parts.0 in
    ap (λ t. with_byte false b (cut t (bs ++ 10 ∷ rest))) no.0 ∙ ap (with_byte false b) (in_line bs rest parts.1)

-- the line is no section line
abbrev pub is_other : List ℕ → Bool
is_other [] = true
is_other (b ∷ bs) = not (eqb b 63)

abbrev pub are_others : List (List ℕ) → Bool
are_others all = list_all is_other all

other_line : (line rest : List ℕ) → is_line line ≡ true → is_other line ≡ true → cut true (line ++ 10 ∷ rest) ≡ behind (line ++ 10 ∷ []) (cut true rest)
unfolding cut
other_line [] rest is other = refl
other_line (b ∷ bs) rest is other =
    let parts = and_parts (is_inside b) (is_line bs) is in
    let no = inside b parts.0 in
    ap (λ t. with_byte t b (cut (eqb b 10) (bs ++ 10 ∷ rest))) (not-true (eqb b 63) other)
    ∙ ap (λ t. with_byte false b (cut t (bs ++ 10 ∷ rest))) no.0 ∙ ap (with_byte false b) (in_line bs rest parts.1)

-- lines that are no section lines stand in front
other_lines : (all : List (List ℕ)) (rest : List ℕ) → are_lines all ≡ true → are_others all ≡ true → cut true (text_of all ++ rest) ≡ behind (text_of all) (cut true rest)
other_lines [] rest is other = refl
other_lines (line ∷ all) rest is other =
    let parts = and_parts (is_line line) (are_lines all) is in
    let others = and_parts (is_other line) (are_others all) other in
    ap (cut true) (append_assoc line (10 ∷ text_of all) rest)
    ∙ other_line line (text_of all ++ rest) parts.0 others.0
    ∙ ap (behind (line ++ 10 ∷ [])) (other_lines all rest parts.1 others.1)
    ∙ ap (λ t. record { front = t; sections = (cut true rest).sections }) (append_assoc line (10 ∷ []) (text_of all ++ (cut true rest).front) ∙ sym (append_assoc line (10 ∷ text_of all) (cut true rest).front))

-- a section: its line behind the `?`, and the lines below it
pub record Section : Type 0 where
  pub head : List ℕ
  pub below : List (List ℕ)

abbrev pub lines_in : Section → List (List ℕ)
lines_in section = (63 ∷ section.head) ∷ section.below

abbrev pub all_lines : List Section → List (List ℕ)
all_lines [] = []
all_lines (section ∷ rest) = lines_in section ++ all_lines rest

abbrev pub is_section : Section → Bool
is_section section = is_line section.head && (are_lines section.below && are_others section.below)

text_more : (some more : List (List ℕ)) → text_of (some ++ more) ≡ text_of some ++ text_of more
text_more [] more = refl
text_more (line ∷ some) more = ap (λ t. line ++ 10 ∷ t) (text_more some more) ∙ sym (append_assoc line (10 ∷ text_of some) (text_of more))

one_section : (section : Section) (rest : List ℕ) → is_section section ≡ true
    → cut true (text_of (lines_in section) ++ rest) ≡ record { front = []; sections = (text_of (lines_in section) ++ (cut true rest).front) ∷ (cut true rest).sections }
unfolding cut
one_section section rest is =
    let parts = and_parts (is_line section.head) (are_lines section.below && are_others section.below) is in
    let below = and_parts (are_lines section.below) (are_others section.below) parts.1 in
    ap (λ t. with_byte true 63 (cut false t)) (append_assoc section.head (10 ∷ text_of section.below) rest)
    ∙ ap (with_byte true 63) (in_line section.head (text_of section.below ++ rest) parts.0 ∙ ap (behind (section.head ++ 10 ∷ [])) (other_lines section.below rest below.0 below.1))
    ∙ ap (λ t. record { front = []; sections = (63 ∷ t) ∷ (cut true rest).sections })
    (append_assoc section.head (10 ∷ []) (text_of section.below ++ (cut true rest).front) ∙ sym (append_assoc section.head (10 ∷ text_of section.below) (cut true rest).front))

abbrev pub texts_of : List Section → List (List ℕ)
texts_of sections = map (λ section. text_of (lines_in section)) sections

no_cut : cut true [] ≡ record { front = []; sections = [] }
unfolding cut
no_cut = refl

-- a text of sections is cut into them
pub cut_of : (all : List Section) → list_all is_section all ≡ true → cut true (text_of (all_lines all)) ≡ record { front = []; sections = texts_of all }
cut_of [] is = no_cut
cut_of (section ∷ rest) is =
    let parts = and_parts (is_section section) (list_all is_section rest) is in
    ap (cut true) (text_more (lines_in section) (all_lines rest))
    ∙ one_section section (text_of (all_lines rest)) parts.0
    ∙ ap (λ (c : DeckSections). record { front = []; sections = (text_of (lines_in section) ++ c.front) ∷ c.sections }) (cut_of rest parts.1)
    ∙ ap (λ t. record { front = []; sections = t ∷ texts_of rest }) (append-nil (text_of (lines_in section)))
