-- The entries of LINKAGE SECTION are parts of the data.
use Rattle.std.proofs.Common.{◌≡◌, ℕ, zero, suc, ◌+◌, ◌-◌, ◌≤◌, Bool, true, false, List, [], ◌∷◌, ◌++◌, length, map, take, refl, sym, ap, ◌∙◌, inl, inr, arith}
use Rattle.std.specs.Prelude.{◌&&◌, ◌||◌, codes, if◌then◌else◌}
use Rattle.std.proofs.Math.Bool.{or-true}
use Rattle.pw_text.specs.declared.token.TokenKind.TheVariants as kind
use Rattle.pw_text.specs.declared.token.Token.{Token}
use Rattle.pw_text.specs.Cursor.{has_kind, is_the_word}
use Rattle.pw_data.specs.Parts.{left_of, is_heading, is_linkage, heading_size, ends_entry, entry_size, Part, part_of, parts_from, parts_of}
use Rattle.pw_divisions.specs.Entries.{token_joined, division_entries_of}
use Rattle.pw_scobol.proofs.Items.{Among}

-- no section begins at one of the tokens
abbrev pub HasNoHeading : List ℕ → List Token → Type 0
HasNoHeading text [] = Unit {0}
HasNoHeading text (token ∷ tokens) = (is_heading (left_of text (token ∷ tokens)) ≡ false) × HasNoHeading text tokens

-- ---- the entries of a section

joined-parts : (x : Token) (es : List (List Token)) (t : List Token) (ps : List Part) → map (part_of true) es ≡ part_of true t ∷ ps
    → map (part_of true) (token_joined x es) ≡ part_of true (x ∷ t) ∷ ps
joined-parts x [] t ps is = absurd cc
joined-parts x (e ∷ es) t ps is =
    let first : part_of true e ≡ part_of true t = cc in
    let rest : map (part_of true) es ≡ ps = cc in
    ap (λ (p : Part). part_of true (x ∷ p.tokens) ∷ map (part_of true) es) first ∙ ap (λ (qs : List Part). part_of true (x ∷ t) ∷ qs) rest

-- what is left behind the first part
abbrev rest_parts : List ℕ → ℕ → List Token → List Part
rest_parts text size tokens = parts_from text true (size - 1) tokens

-- a part of so many tokens, and those behind it
abbrev first_part : List ℕ → ℕ → Token → List Token → List Part
first_part text size x xs = part_of true (take size (x ∷ xs)) ∷ rest_parts text size xs

size-ends : (text : List ℕ) (x : Token) (xs : List Token) → ends_entry text x xs ≡ true → entry_size text (x ∷ xs) ≡ 1
unfolding entry_size
size-ends text x xs is = rw is refl

size-more : (text : List ℕ) (x : Token) (xs : List Token) → ends_entry text x xs ≡ false → entry_size text (x ∷ xs) ≡ 1 + entry_size text xs
unfolding entry_size
size-more text x xs is = rw is refl

size-some_by : (text : List ℕ) (x : Token) (xs : List Token) (b : Bool) → ends_entry text x xs ≡ b → 1 ≤ entry_size text (x ∷ xs)
size-some_by text x xs true is = omega (arith, size-ends text x xs is)
size-some_by text x xs false is = omega (arith, size-more text x xs is)

size-some : (text : List ℕ) (x : Token) (xs : List Token) → 1 ≤ entry_size text (x ∷ xs)
size-some text x xs = size-some_by text x xs (ends_entry text x xs) refl

parts-here : (text : List ℕ) (x : Token) (xs : List Token) → is_heading (left_of text (x ∷ xs)) ≡ false
    → parts_from text true 0 (x ∷ xs) ≡ first_part text (entry_size text (x ∷ xs)) x xs
unfolding parts_from
parts-here text x xs none = rw none refl

skipped : (text : List ℕ) (linked : Bool) (n : ℕ) (x : Token) (xs : List Token) → 1 ≤ n → parts_from text linked n (x ∷ xs) ≡ parts_from text linked (n - 1) xs
unfolding parts_from
skipped text linked zero x xs some = absurd (omega arith)
skipped text linked (suc n) x xs some = ap (λ k. parts_from text linked k xs) (omega arith)

module _ (text : List ℕ) (x y : Token) (r : List Token) (none : is_heading (left_of text (x ∷ y ∷ r)) ≡ false) (none-next : is_heading (left_of text (y ∷ r)) ≡ false) where
  longer : has_kind kind.Period x ≡ false → map (part_of true) (division_entries_of (y ∷ r)) ≡ parts_from text true 0 (y ∷ r)
      → map (part_of true) (token_joined x (division_entries_of (y ∷ r))) ≡ parts_from text true 0 (x ∷ y ∷ r)
  longer goes_on rest =
      let n : ℕ = entry_size text (y ∷ r) in
      let size : entry_size text (x ∷ y ∷ r) ≡ suc n = size-more text x (y ∷ r) (rw (goes_on, none-next) refl) ∙ omega arith in
      joined-parts x (division_entries_of (y ∷ r)) (take n (y ∷ r)) (rest_parts text n r) (rest ∙ parts-here text y r none-next)
      ∙ ap (λ (ps : List Part). part_of true (x ∷ take n (y ∷ r)) ∷ ps) (sym (skipped text true n y r (size-some text y r)))
      ∙ ap (λ k. part_of true (x ∷ take n (y ∷ r)) ∷ parts_from text true k (y ∷ r)) (omega arith)
      ∙ sym (ap (λ s. first_part text s x (y ∷ r)) size) ∙ sym (parts-here text x (y ∷ r) none)

ended : (text : List ℕ) (x : Token) (xs : List Token) → is_heading (left_of text (x ∷ xs)) ≡ false → ends_entry text x xs ≡ true
    → parts_from text true 0 (x ∷ xs) ≡ part_of true (x ∷ []) ∷ parts_from text true 0 xs
ended text x xs none ends = parts-here text x xs none ∙ ap (λ s. first_part text s x xs) (size-ends text x xs ends)

last-by : (text : List ℕ) (x : Token) (b : Bool) → ends_entry text x [] ≡ b → is_heading (left_of text (x ∷ [])) ≡ false
    → parts_from text true 0 (x ∷ []) ≡ part_of true (x ∷ []) ∷ []
unfolding parts_from entry_size
last-by text x true ends none = rw (none, ends) refl
last-by text x false ends none = rw (none, ends) refl

last-part : (text : List ℕ) (x : Token) → is_heading (left_of text (x ∷ [])) ≡ false → parts_from text true 0 (x ∷ []) ≡ part_of true (x ∷ []) ∷ []
last-part text x none = last-by text x (ends_entry text x []) refl none

entries-alone_by : (text : List ℕ) (x : Token) (b : Bool) → has_kind kind.Period x ≡ b → division_entries_of (x ∷ []) ≡ (x ∷ []) ∷ []
unfolding division_entries_of
entries-alone_by text x true is = rw is refl
entries-alone_by text x false is = rw is refl

entries-period : (x : Token) (xs : List Token) → has_kind kind.Period x ≡ true → division_entries_of (x ∷ xs) ≡ (x ∷ []) ∷ division_entries_of xs
unfolding division_entries_of
entries-period x xs is = rw is refl

entries-joined : (x : Token) (xs : List Token) → has_kind kind.Period x ≡ false → division_entries_of (x ∷ xs) ≡ token_joined x (division_entries_of xs)
unfolding division_entries_of
entries-joined x xs is = rw is refl

next-by : (text : List ℕ) (x y : Token) (r : List Token) (b : Bool) → has_kind kind.Period x ≡ b → HasNoHeading text (x ∷ y ∷ r)
    → map (part_of true) (division_entries_of (y ∷ r)) ≡ parts_from text true 0 (y ∷ r) → map (part_of true) (division_entries_of (x ∷ y ∷ r)) ≡ parts_from text true 0 (x ∷ y ∷ r)
next-by text x y r true is none rest =
    ap (map (part_of true)) (entries-period x (y ∷ r) is) ∙ ap (λ (ps : List Part). part_of true (x ∷ []) ∷ ps) rest
    ∙ sym (ended text x (y ∷ r) none.0 (rw is refl))
next-by text x y r false is none rest =
    ap (map (part_of true)) (entries-joined x (y ∷ r) is) ∙ longer text x y r none.0 none.1.0 is rest

-- the entries of tokens in which no section begins are their parts
entries-parts : (text : List ℕ) (tokens : List Token) → HasNoHeading text tokens → map (part_of true) (division_entries_of tokens) ≡ parts_from text true 0 tokens
unfolding division_entries_of parts_from
entries-parts text [] none = refl
entries-parts text (x ∷ []) none =
    ap (map (part_of true)) (entries-alone_by text x (has_kind kind.Period x) refl) ∙ sym (last-part text x none.0)
entries-parts text (x ∷ (y ∷ r)) none = next-by text x y r (has_kind kind.Period x) refl none (entries-parts text (y ∷ r) none.1)

-- ---- what stands in front of the heading

-- the first token of a heading is no SECTION and no period
pub record Begins (text : List ℕ) (h : Token) (rest : List Token) : Type 0 where
  pub heading : is_heading (left_of text (h ∷ rest)) ≡ true
  pub linkage : is_linkage (left_of text (h ∷ rest)) ≡ true
  pub no_section : is_the_word text (codes "SECTION") h ≡ false
  pub no_period : has_kind kind.Period h ≡ false

module _ (text : List ℕ) (h : Token) (ys : List Token) (begins : Begins text h ys) where
  within-by : (x : Token) (xs : List Token) (b : Bool) → ends_entry text x (xs ++ h ∷ ys) ≡ b → (b ≡ false → 1 ≤ length xs)
      → (1 ≤ length xs → entry_size text (xs ++ h ∷ ys) ≤ length xs) → entry_size text (x ∷ (xs ++ h ∷ ys)) ≤ 1 + length xs
  within-by x xs true is some rest = omega (arith, size-ends text x (xs ++ h ∷ ys) is)
  within-by x xs false is some rest = omega (arith, size-more text x (xs ++ h ∷ ys) is, rest (some refl))

  ends-before : (x : Token) → ends_entry text x (h ∷ ys) ≡ true
  ends-before x = ap (λ b. has_kind kind.Period x || b) begins.heading ∙ or-true (has_kind kind.Period x)

  -- an entry in front of the heading ends there
  size-within : (x : Token) (xs : List Token) → entry_size text (x ∷ (xs ++ h ∷ ys)) ≤ 1 + length xs
  size-within x [] = omega (arith, size-ends text x (h ∷ ys) (ends-before x))
  size-within x (x2 ∷ xs) =
      within-by x (x2 ∷ xs) (ends_entry text x (x2 ∷ (xs ++ h ∷ ys))) refl (λ is. omega arith) (λ some. omega (arith, size-within x2 xs))

  and-false : (a b : Bool) → b ≡ false → (a && b) ≡ true → ⊥
  and-false true b none is = absurd cc
  and-false false b none is = absurd cc

  size_of-heading : (b : Bool) → (if b then 3 else 2) ≤ 3
  size_of-heading true = omega arith
  size_of-heading false = omega arith

  -- a heading in front of it does too
  heading-within : (x : Token) (xs : List Token) → is_heading (left_of text (x ∷ (xs ++ h ∷ ys))) ≡ true → heading_size (left_of text (x ∷ (xs ++ h ∷ ys))) - 1 ≤ length xs
  heading-within x [] is = absurd (and-false _ _ begins.no_section is)
  heading-within x (x2 ∷ []) is = rw begins.no_period (omega arith)
  heading-within x (x2 ∷ (x3 ∷ xs)) is = let small = size_of-heading (has_kind kind.Period x3) in omega (arith, small)

  -- what stands in front of the heading are parts of their own
  record Front (parts : List Part) : Type 0 where
    front : List Part
    is : parts ≡ front ++ parts_from text true 0 (h ∷ ys)

  more-front : (part : Part) (parts : List Part) → Front parts → Front (part ∷ parts)
  more-front part parts f = record { front = part ∷ f.front; is = ap (λ (ps : List Part). part ∷ ps) f.is }

  front-at : (linked : Bool) (x : Token) (xs : List Token) (b : Bool) → is_heading (left_of text (x ∷ (xs ++ h ∷ ys))) ≡ b
      → ((l : Bool) (n : ℕ) → n ≤ length xs → Front (parts_from text l n (xs ++ h ∷ ys))) → Front (parts_from text linked 0 (x ∷ (xs ++ h ∷ ys)))
  unfolding parts_from
  front-at linked x xs true is rest = rw is (rest _ _ (heading-within x xs is))
  front-at linked x xs false is rest = rw is (more-front _ _ (rest linked _ (omega (arith, size-within x xs))))

  front-of : (linked : Bool) (skip : ℕ) (xs : List Token) → skip ≤ length xs → Front (parts_from text linked skip (xs ++ h ∷ ys))
  unfolding parts_from
  front-of linked zero [] within = record { front = []; is = rw begins.heading refl }
  front-of linked (suc skip) [] within = absurd (omega arith)
  front-of linked zero (x ∷ xs) within = front-at linked x xs (is_heading (left_of text (x ∷ (xs ++ h ∷ ys)))) refl (λ l n small. front-of l n xs small)
  front-of linked (suc skip) (x ∷ xs) within = front-of linked skip xs (omega arith)

Among-map : {A B : Type 0} (f : A → B) (x : A) (xs : List A) → Among x xs → Among (f x) (map f xs)
Among-map f x [] among = among
Among-map f x (y ∷ ys) (inl here) = inl (ap f here)
Among-map f x (y ∷ ys) (inr more) = inr (Among-map f x ys more)

pub Among-behind : {A : Type 0} (x : A) (front xs : List A) → Among x xs → Among x (front ++ xs)
Among-behind x [] xs among = among
Among-behind x (y ∷ ys) xs among = inr (Among-behind x ys xs among)

parts-behind : (text : List ℕ) (h : Token) (tokens : List Token) → is_heading (left_of text (h ∷ tokens)) ≡ true
    → parts_from text true 0 (h ∷ tokens) ≡ parts_from text (is_linkage (left_of text (h ∷ tokens))) (heading_size (left_of text (h ∷ tokens)) - 1) tokens
unfolding parts_from
parts-behind text h tokens heading = rw heading refl

behind-three : (text : List ℕ) (s p : Token) (tokens : List Token) → parts_from text true 2 (s ∷ p ∷ tokens) ≡ parts_from text true 0 tokens
unfolding parts_from
behind-three text s p tokens = refl

three : (b : Bool) → b ≡ true → (if b then 3 else 2) - 1 ≡ 2
three true is = refl
three false is = absurd cc

-- behind the heading stand the parts of the section
behind-heading : (text : List ℕ) (h s p : Token) (tokens : List Token) → Begins text h (s ∷ p ∷ tokens) → has_kind kind.Period p ≡ true
    → parts_from text true 0 (h ∷ s ∷ p ∷ tokens) ≡ parts_from text true 0 tokens
behind-heading text h s p tokens begins period =
    parts-behind text h (s ∷ p ∷ tokens) begins.heading
    ∙ ap (λ b. parts_from text b (heading_size (left_of text (h ∷ s ∷ p ∷ tokens)) - 1) (s ∷ p ∷ tokens)) begins.linkage
    ∙ ap (λ n. parts_from text true n (s ∷ p ∷ tokens)) (three (has_kind kind.Period p) period)
    ∙ behind-three text s p tokens

-- each entry of LINKAGE SECTION is a part of the data that end with it
pub entry-part : (text : List ℕ) (front : List Token) (h s p : Token) (tokens : List Token) → Begins text h (s ∷ p ∷ tokens) → has_kind kind.Period p ≡ true
    → HasNoHeading text tokens → (entry : List Token) → Among entry (division_entries_of tokens)
    → Among (part_of true entry) (parts_of text (front ++ h ∷ s ∷ p ∷ tokens))
entry-part text front h s p tokens begins period none entry among =
    let cut = front-of text h (s ∷ p ∷ tokens) begins false 0 front (omega arith) in
    let whole = cut.is ∙ ap (λ (ps : List Part). cut.front ++ ps) (behind-heading text h s p tokens begins period ∙ sym (entries-parts text tokens none)) in
    rw whole (Among-behind (part_of true entry) cut.front (map (part_of true) (division_entries_of tokens)) (Among-map (part_of true) entry (division_entries_of tokens) among))
