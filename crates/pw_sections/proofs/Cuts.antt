-- Where a text is cut.
use Rattle.std.proofs.Common.{◌≡◌, ◌≢◌, ℕ, zero, suc, ◌+◌, ◌-◌, ◌<◌, ◌≤◌, Bool, true, false, ◌&&◌, eqb, List, [], ◌∷◌, length, get_or, take, drop, refl, sym, ap, ◌∙◌, add-zero, not, arith}
use Rattle.std.specs.Prelude.{◌==◌}
use Rattle.std.specs.List.{list_all}
use Rattle.std.proofs.lemmas.Bool.{and_parts, eqb-true, ne_eqb}
use Rattle.std.proofs.lemmas.List.{drop_more, drop_all, get_or-take, get_or-drop, length-take-le}
use Rattle.pw_sections.specs.Parts.{DeckSections, with_byte, cut, sections, front, starts, begins_at, NoneBegins}

step : (s : Bool) (b : ℕ) (rest : List ℕ) → cut s (b ∷ rest) ≡ with_byte (s && eqb b 63) b (cut (eqb b 10) rest)
unfolding cut
step s b rest = refl

no_text : (s : Bool) → cut s [] ≡ record { front = []; sections = [] }
unfolding cut
no_text s = refl

begun : (s : Bool) (b : ℕ) (rest : List ℕ) (t : Bool) → (s && eqb b 63) ≡ t → cut s (b ∷ rest) ≡ with_byte t b (cut (eqb b 10) rest)
begun s b rest t is = step s b rest ∙ ap (λ x. with_byte x b (cut (eqb b 10) rest)) is

size : Bool → List ℕ → ℕ
size s text = length (cut s text).front

-- a section line begins here
pub size_here : (s : Bool) (b : ℕ) (rest : List ℕ) → (s && eqb b 63) ≡ true → length (cut s (b ∷ rest)).front ≡ 0
size_here s b rest is = ap (λ (c : DeckSections). length c.front) (begun s b rest true is)

-- or this byte stands before it
pub size_more : (s : Bool) (b : ℕ) (rest : List ℕ) → (s && eqb b 63) ≡ false → length (cut s (b ∷ rest)).front ≡ suc (length (cut (eqb b 10) rest).front)
size_more s b rest is = ap (λ (c : DeckSections). length c.front) (begun s b rest false is)

pub starts-next : (s : Bool) (text : List ℕ) (i : ℕ) → starts s text (i + 1) ≡ eqb (get_or text i 0) 10
starts-next s text i =
    let some : i + 1 ≢ 0 = omega arith in
    let back : (i + 1) - 1 ≡ i = omega arith in
    rw (ne_eqb (i + 1) 0 some, back) refl

-- the loop's turn, and its ends
pub turn_here : (text : List ℕ) (i whole : ℕ) (s : Bool) → i < length text → true ≡ (s && eqb (get_or text i 0) 63)
    → whole ≡ i + length (cut s (drop i text)).front → i ≡ whole
turn_here text i whole s lt is so_far =
    let here = ap (λ t. length (cut s t).front) (drop_more text i 0 lt) ∙ size_here s (get_or text i 0) (drop (i + 1) text) (sym is) in
    omega (arith, here, so_far)

pub turn_more : (text : List ℕ) (i whole : ℕ) (s next : Bool) → i < length text → false ≡ (s && eqb (get_or text i 0) 63)
    → next ≡ eqb (get_or text i 0) 10 → whole ≡ i + length (cut s (drop i text)).front → whole ≡ i + 1 + length (cut next (drop (i + 1) text)).front
turn_more text i whole s next lt is next_is so_far =
    let more = ap (λ t. length (cut s t).front) (drop_more text i 0 lt) ∙ size_more s (get_or text i 0) (drop (i + 1) text) (sym is) in
    let same : length (cut next (drop (i + 1) text)).front ≡ length (cut (eqb (get_or text i 0) 10) (drop (i + 1) text)).front = ap (λ x. length (cut x (drop (i + 1) text)).front) next_is in
    omega (arith, more, so_far, same)

pub turn_end : (text : List ℕ) (i whole : ℕ) (s : Bool) → length text ≤ i → whole ≡ i + length (cut s (drop i text)).front → i ≡ whole
turn_end text i whole s le so_far =
    let none = ap (λ t. length (cut s t).front) (drop_all i text le) ∙ ap (λ (c : DeckSections). length c.front) (no_text s) in
    omega (arith, none, so_far)

-- the loop's turn over several bytes
pub turn_over : (count : ℕ) (text : List ℕ) (i whole : ℕ) (s : Bool) → i + count ≤ length text → NoneBegins s text i count
    → whole ≡ i + length (cut (starts s text i) (drop i text)).front → whole ≡ (i + count) + length (cut (starts s text (i + count)) (drop (i + count) text)).front
turn_over zero text i whole s le none so_far = so_far ∙ ap (λ n. n + length (cut (starts s text n) (drop n text)).front) (sym (add-zero i))
turn_over (suc count) text i whole s le none so_far =
    let lt : i < length text = omega arith in
    let more = turn_more text i whole (starts s text i) (starts s text (i + 1)) lt (sym (none i (omega arith) (omega arith))) (starts-next s text i) so_far in
    let same : (i + 1) + count ≡ i + suc count = omega arith in
    turn_over count text (i + 1) whole s (omega arith) (λ k le_k lt_k. none k (omega arith) (omega arith)) more
    ∙ ap (λ n. n + length (cut (starts s text n) (drop n text)).front) same

-- a byte that begins no section line
abbrev pub no_mark : ℕ → Bool
no_mark byte = not (byte == 63)

marked_by : (b : Bool) → not b ≡ true → b ≡ false
marked_by true is = absurd cc
marked_by false is = refl

no_mark-each : (bytes : List ℕ) → list_all no_mark bytes ≡ true → (k : ℕ) → k < length bytes → (get_or bytes k 0 == 63) ≡ false
no_mark-each [] all k lt = absurd (omega arith)
no_mark-each (b ∷ bs) all zero lt = marked_by (b == 63) (and_parts (no_mark b) (list_all no_mark bs) all).0
no_mark-each (b ∷ bs) all (suc k) lt = no_mark-each bs (and_parts (no_mark b) (list_all no_mark bs) all).1 k (omega arith)

-- the same, at the end of a look through all
pub no_mark-none : (rest bytes : List ℕ) (none : Bool) → length rest ≡ 0 → (none && list_all no_mark rest) ≡ list_all no_mark bytes → none ≡ true
    → (k : ℕ) → k < length bytes → (get_or bytes k 0 == 63) ≡ false
no_mark-none [] bytes true end so_far is = no_mark-each bytes (sym so_far)
no_mark-none [] bytes false end so_far is = absurd cc
no_mark-none (b ∷ bs) bytes none end so_far is = absurd (omega arith)

and-false : (test : Bool) → (test && false) ≡ false
and-false true = refl
and-false false = refl

-- no section line begins in a block with no mark
pub none-begins : (s : Bool) (text rest block : List ℕ) (at size : ℕ) → rest ≡ drop at text → block ≡ take size rest → size ≤ length rest
    → ((k : ℕ) → k < length block → (get_or block k 0 == 63) ≡ false) → NoneBegins s text at size
none-begins s text rest block at size rest_is block_is le none k le_k lt_k =
    let inside : k - at < size = omega arith in
    let all : length block ≡ size = ap length block_is ∙ length-take-le size rest le in
    let same : at + (k - at) ≡ k = omega arith in
    let in_rest : get_or block (k - at) 0 ≡ get_or rest (k - at) 0 = ap (λ bytes. get_or bytes (k - at) 0) block_is ∙ get_or-take size rest (k - at) 0 inside in
    let in_text : get_or rest (k - at) 0 ≡ get_or text (at + (k - at)) 0 = ap (λ bytes. get_or bytes (k - at) 0) rest_is ∙ get_or-drop at text (k - at) 0 in
    let byte : get_or block (k - at) 0 ≡ get_or text k 0 = in_rest ∙ in_text ∙ ap (λ n. get_or text n 0) same in
    ap (λ b. starts s text k && eqb b 63) (sym byte) ∙ ap (λ test. starts s text k && test) (none (k - at) (omega arith)) ∙ and-false (starts s text k)

-- none begins at one place
pub none-one : (s : Bool) (text : List ℕ) (at : ℕ) → begins_at s text at ≡ false → NoneBegins s text at 1
none-one s text at none k le lt = let same : at ≡ k = omega arith in ap (begins_at s text) (sym same) ∙ none

-- what is known where a text is cut at its first section line
record Parted (s : Bool) (text : List ℕ) : Type 0 where
  size : length (cut s text).front ≤ length text
  front : take (length (cut s text).front) text ≡ (cut s text).front
  rest : cut true (drop (length (cut s text).front) text) ≡ record { front = []; sections = (cut s text).sections }

parted : (s : Bool) (text : List ℕ) → Parted s text
parted s [] = record {
  size = rw (no_text s) (omega arith);
  front = rw (no_text s) refl;
  rest = rw (no_text s) (no_text true);
}
parted s (b ∷ rest) = go (s && eqb b 63) refl (parted (eqb b 10) rest)
  where
    go : (t : Bool) → (s && eqb b 63) ≡ t → Parted (eqb b 10) rest → Parted s (b ∷ rest)
    go true is more =
        let mark : (true && eqb b 63) ≡ true = (and_parts s (eqb b 63) is).1 in
        let whole = begun s b rest true is in
        let none : length (cut s (b ∷ rest)).front ≡ 0 = size_here s b rest is in
        record {
          size = omega (arith, none);
          front = ap (λ n. take n (b ∷ rest)) none ∙ sym (ap (λ (c : DeckSections). c.front) whole);
          rest = ap (λ n. cut true (drop n (b ∷ rest))) none ∙ begun true b rest true mark
              ∙ ap (λ (ss : List (List ℕ)). record { front = []; sections = ss }) (sym (ap (λ (c : DeckSections). c.sections) whole));
        }
    go false is more =
        let whole = begun s b rest false is in
        let one : length (cut s (b ∷ rest)).front ≡ suc (length (cut (eqb b 10) rest).front) = size_more s b rest is in
        record {
          size = omega (arith, one, more.size);
          front = ap (λ n. take n (b ∷ rest)) one ∙ ap (λ f. b ∷ f) more.front ∙ sym (ap (λ (c : DeckSections). c.front) whole);
          rest = ap (λ n. cut true (drop n (b ∷ rest))) one ∙ more.rest
              ∙ ap (λ (ss : List (List ℕ)). record { front = []; sections = ss }) (sym (ap (λ (c : DeckSections). c.sections) whole));
        }

pub front_size-le : (s : Bool) (text : List ℕ) → length (cut s text).front ≤ length text
front_size-le s text = (parted s text).size

pub front_is : (text : List ℕ) (n : ℕ) → n ≡ length (front text) → take n text ≡ front text
front_is text n is = ap (λ k. take k text) is ∙ (parted true text).front

pub sections_behind : (text : List ℕ) (n : ℕ) → n ≡ length (front text) → sections (drop n text) ≡ sections text
sections_behind text n is = ap (λ k. sections (drop k text)) is ∙ ap (λ (c : DeckSections). c.sections) (parted true text).rest

pub none_before : (text : List ℕ) (n : ℕ) → n ≡ length (front text) → front (drop n text) ≡ []
none_before text n is = ap (λ k. front (drop k text)) is ∙ ap (λ (c : DeckSections). c.front) (parted true text).rest

-- the first section, where the text begins with one
pub record First (b : ℕ) (rest : List ℕ) (n : ℕ) : Type 0 where
  pub cases : sections (b ∷ rest) ≡ take (suc n) (b ∷ rest) ∷ sections (drop (suc n) (b ∷ rest))
  pub at_section : front (drop (suc n) (b ∷ rest)) ≡ []

pub first_section : (b : ℕ) (rest : List ℕ) (n : ℕ) → front (b ∷ rest) ≡ [] → n ≡ length (cut false rest).front → First b rest n
first_section b rest n none is = go (true && eqb b 63) refl
  where
    go : (t : Bool) → (true && eqb b 63) ≡ t → First b rest n
    go true mark =
        let code : b ≡ 63 = eqb-true b 63 mark in
        let within : eqb b 10 ≡ false = ap (λ x. eqb x 10) code in
        let whole = ap (λ (c : DeckSections). c.sections) (begun true b rest true mark) in
        let p = parted false rest in
        record {
          cases = whole
              ∙ ap (λ (c : DeckSections). (b ∷ c.front) ∷ c.sections) (ap (λ x. cut x rest) within)
              ∙ sym (ap (λ k. (b ∷ take k rest) ∷ sections (drop k rest)) is ∙ ap (λ f. (b ∷ f) ∷ sections (drop (length (cut false rest).front) rest)) p.front
              ∙ ap (λ ss. (b ∷ (cut false rest).front) ∷ ss) (ap (λ (c : DeckSections). c.sections) p.rest));
          at_section = ap (λ k. front (drop k rest)) is ∙ ap (λ (c : DeckSections). c.front) p.rest;
        }
    go false mark =
        let bad : b ∷ (cut (eqb b 10) rest).front ≡ [] = sym (ap (λ (c : DeckSections). c.front) (begun true b rest false mark)) ∙ none in
        absurd cc

-- an empty text has no section
pub no_sections : (text : List ℕ) → true ≡ eqb (length text) 0 → sections text ≡ []
no_sections [] none = ap (λ (c : DeckSections). c.sections) (no_text true)
no_sections (b ∷ rest) none = let bad : length (b ∷ rest) ≡ 0 = eqb-true (length (b ∷ rest)) 0 (sym none) in absurd (omega arith)

-- the first section of a text that is not empty
pub first_of : (text rest : List ℕ) (n : ℕ) → false ≡ eqb (length text) 0 → rest ≡ drop 1 text → front text ≡ [] → n ≡ length (cut false rest).front
    → (sections text ≡ take (1 + n) text ∷ sections (drop (1 + n) text)) × (front (drop (1 + n) text) ≡ [])
first_of [] rest n some rest_is none is = absurd cc
first_of (b ∷ more) rest n some rest_is none is =
    let e : 1 + n ≡ suc n = omega arith in
    let f = first_section b more n none (is ∙ ap (λ r. length (cut false r).front) rest_is) in
    rw e (f.cases, f.at_section)
