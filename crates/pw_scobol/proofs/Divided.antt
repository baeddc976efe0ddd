-- What the divisions of a requester tell of its data and of the names of USING.
use Rattle.std.proofs.Common.{◌≡◌, ℕ, zero, suc, ◌+◌, ◌-◌, Bool, true, false, List, [], ◌∷◌, ◌++◌, All, length, take, drop, get_or, cond, Result, Ok, Err, ◌⊎◌, inl, inr, refl, sym, ap, subst, ◌∙◌, append_assoc, arith, length-append}
use Rattle.std.specs.Prelude.{◌&&◌, ◌||◌, take_while, codes, if◌then◌else◌}
use Rattle.std.specs.Str.{str_to_ascii_lowercase}
use Rattle.std.specs.Cmp.Lexicographic.{bytes_decides}
use Rattle.std.proofs.Math.Seq.{take-append_seam}
use Rattle.std.proofs.lemmas.Bool.{and_parts, eqb-true, and_right}
use Rattle.std.proofs.lemmas.List.{take-append-drop}
use Rattle.std.proofs.lemmas.List.Elements.{All-nil, All-cons}
use Rattle.std.proofs.lemmas.List.Folds.{length-prefix_len}
use Rattle.std.proofs.lemmas.List.Sums.{take_while-cons}
use Rattle.pw_base.proofs.Plain.{and-false, or-first-false, same-ok}
use Rattle.pw_words.specs.Words.{Word, same_word}
use Rattle.pw_text.specs.declared.token.TokenKind.TheVariants as kind
use Rattle.pw_text.specs.declared.token.Token.{Token}
use Rattle.pw_text.specs.Cursor.{Left, has_kind, kind_place, is_the_word, begins_with, spelling, sees, sees_word, behind}
use Rattle.pw_data.specs.Parts.{left_of, is_heading, part_of, parts_of}
use Rattle.pw_divisions.specs.Divided.{DataDivision, Divided}
use Rattle.pw_divisions.specs.Entries.{division_entries_of}
use Rattle.pw_divisions.specs.Steps.{TokenStep, and_then, ◌>>=◌, pure, word, period, size_up_to, some_tokens, up_to, between}
use Rattle.pw_divisions.specs.Divisions.{begins_division, begins_section, ends_text, identification, environment_text, environment, section_text, section, stored_sections, no_data, sections, data_sections, data_division, parameters, is_parameter, used_names, using_names, begins_procedure, period_behind, procedure_heading, front, source, divided, divisions_of}
use Rattle.pw_scobol.proofs.Items.{Among}
use Rattle.pw_scobol.proofs.Linkage.{HasNoHeading, Begins, entry-part}

-- ---- steps that go on

-- a step and the one behind it
record Goes {A B : Type 0} (first : Result (A × Left) Left) (next : A → TokenStep B) (out : B × Left) : Type 0 where
  found : A × Left
  first_is : first ≡ Ok found
  next_is : next found.0 found.1 ≡ Ok out

goes : {A B : Type 0} (first : Result (A × Left) Left) (next : A → TokenStep B) (out : B × Left) → and_then first next ≡ Ok out → Goes first next out
goes (Ok found) next out is = record { found = found; first_is = refl; next_is = is }
goes (Err left) next out is = absurd cc

taken-by : (b : Bool) (left : Left) (found : Unit {0} × Left) → (if b then Ok (tt, behind 1 left) else Err left) ≡ Ok found → (b ≡ true) × (found.1 ≡ behind 1 left)
taken-by true left found is = (refl, sym (ap (λ (f : Unit {0} × Left). f.1) (same-ok (Ok (tt, behind 1 left)) (tt, behind 1 left) found refl is)))
taken-by false left found is = absurd cc

word-ok : (name : Word) (left : Left) (found : Unit {0} × Left) → word name left ≡ Ok found → (sees_word name left ≡ true) × (found.1 ≡ behind 1 left)
word-ok name left found is = taken-by (sees_word name left) left found is

period-ok : (left : Left) (found : Unit {0} × Left) → period left ≡ Ok found → (sees kind.Period left ≡ true) × (found.1 ≡ behind 1 left)
period-ok left found is = taken-by (sees kind.Period left) left found is

-- a step stays in its text
abbrev Keeps : {A : Type 0} → TokenStep A → Type 0
Keeps {A = A} step = (left : Left) (found : A × Left) → step left ≡ Ok found → found.1.text ≡ left.text

keeps-word : (name : Word) → Keeps (word name)
keeps-word name left found is = ap (λ (l : Left). l.text) (word-ok name left found is).1

keeps-period : Keeps period
keeps-period left found is = ap (λ (l : Left). l.text) (period-ok left found is).1

keeps-pure : {A : Type 0} (value : A) → Keeps (pure value)
keeps-pure {A = A} value left found is = ap (λ (f : A × Left). f.1.text) (same-ok (Ok found) found (value, left) refl (sym is))

keeps-next : {A B : Type 0} (first : TokenStep A) (next : A → TokenStep B) → Keeps first → ((a : A) → Keeps (next a)) → Keeps (first >>= next)
keeps-next first next keeps_first keeps_next left found is =
    let g = goes (first left) next found is in
    keeps_next g.found.0 g.found.1 found g.next_is ∙ keeps_first left g.found g.first_is

keeps-some : (count : ℕ) → Keeps (some_tokens count)
keeps-some count left found is = ap (λ (f : List Token × Left). f.1.text) (same-ok (Ok found) found (take count left.tokens, behind count left) refl (sym is))

keeps-up_to : (test : Left → Bool) → Keeps (up_to test)
keeps-up_to test left found is = keeps-some (size_up_to test left.text left.tokens) left found is

keeps-identification : (name : Word) → Keeps (identification name)
keeps-identification name =
    keeps-next _ _ (keeps-word (codes "IDENTIFICATION")) (λ a. keeps-next _ _ (keeps-word (codes "DIVISION")) (λ b. keeps-next _ _ keeps-period (λ c.
    keeps-next _ _ (keeps-word (codes "PROGRAM-ID")) (λ d. keeps-next _ _ keeps-period (λ e. keeps-next _ _ (keeps-word name) (λ f. keeps-period))))))

keeps-environment_text : Keeps environment_text
keeps-environment_text =
    keeps-next _ _ (keeps-word (codes "DIVISION")) (λ a. keeps-next _ _ keeps-period (λ b. keeps-next _ _ (keeps-up_to (ends_text false)) (λ c. keeps-pure tt)))

environment-by : (b : Bool) (left : Left) (found : Unit {0} × Left) → (if b then environment_text (behind 1 left) else Ok (tt, left)) ≡ Ok found → found.1.text ≡ left.text
environment-by true left found is = keeps-environment_text (behind 1 left) found is
environment-by false left found is = ap (λ (f : Unit {0} × Left). f.1.text) (same-ok (Ok found) found (tt, left) refl (sym is))

keeps-environment : Keeps environment
keeps-environment left found is = environment-by (sees_word (codes "ENVIRONMENT") left) left found is

keeps-begins_procedure : Keeps begins_procedure
keeps-begins_procedure = keeps-next _ _ (keeps-word (codes "PROCEDURE")) (λ a. keeps-word (codes "DIVISION"))

-- ---- a section

-- a text ends at none of its tokens
abbrev Quiet : List ℕ → List Token → List Token → Type 0
Quiet text [] rest = Unit {0}
Quiet text (x ∷ xs) rest = (ends_text true (left_of text (x ∷ (xs ++ rest))) ≡ false) × Quiet text xs rest

size-here : (text : List ℕ) (x : Token) (xs : List Token) → ends_text true (left_of text (x ∷ xs)) ≡ true → size_up_to (ends_text true) text (x ∷ xs) ≡ 0
unfolding size_up_to
size-here text x xs is = rw is refl

size-next : (text : List ℕ) (x : Token) (xs : List Token) → ends_text true (left_of text (x ∷ xs)) ≡ false
    → size_up_to (ends_text true) text (x ∷ xs) ≡ 1 + size_up_to (ends_text true) text xs
unfolding size_up_to
size-next text x xs is = rw is refl

size-none : (text : List ℕ) → size_up_to (ends_text true) text [] ≡ 0
unfolding size_up_to
size-none text = refl

quiet-by : (text : List ℕ) (n : ℕ) (x : Token) (xs : List Token) (b : Bool) → ends_text true (left_of text (x ∷ xs)) ≡ b
    → suc n ≡ size_up_to (ends_text true) text (x ∷ xs) → (n ≡ size_up_to (ends_text true) text xs → Quiet text (take n xs) (drop n xs)) → Quiet text (x ∷ take n xs) (drop n xs)
quiet-by text n x xs true is size rest = absurd (omega (arith, size-here text x xs is))
quiet-by text n x xs false is size rest =
    (ap (λ (ts : List Token). ends_text true (left_of text (x ∷ ts))) (take-append-drop n xs) ∙ is, rest (omega (arith, size-next text x xs is)))

quiet : (text : List ℕ) (n : ℕ) (tokens : List Token) → n ≡ size_up_to (ends_text true) text tokens → Quiet text (take n tokens) (drop n tokens)
quiet text zero tokens size = tt
quiet text (suc n) [] size = absurd (omega (arith, size-none text))
quiet text (suc n) (x ∷ xs) size = quiet-by text n x xs (ends_text true (left_of text (x ∷ xs))) refl size (quiet text n xs)

less : (a b c d : Bool) → ((a || (b || c)) && d) ≡ false → ((a || b) && d) ≡ false
less true b c d is = is
less false true c d is = is
less false false c d is = refl

no-heading : (text : List ℕ) (x : Token) (xs rest : List Token) → ends_text true (left_of text (x ∷ (xs ++ rest))) ≡ false → is_heading (left_of text (x ∷ xs)) ≡ false
no-heading text x [] rest is = and-false (is_the_word text (codes "WORKING-STORAGE") x || is_the_word text (codes "LINKAGE") x)
no-heading text x (y ∷ ys) rest is =
    less (is_the_word text (codes "WORKING-STORAGE") x) (is_the_word text (codes "LINKAGE") x) (is_the_word text (codes "SCREEN") x) (is_the_word text (codes "SECTION") y)
    (or-first-false (begins_section (left_of text (x ∷ (y ∷ (ys ++ rest))))) (begins_division (left_of text (x ∷ (y ∷ (ys ++ rest))))) is)

heading-free : (text : List ℕ) (xs rest : List Token) → Quiet text xs rest → HasNoHeading text xs
heading-free text [] rest none = tt
heading-free text (x ∷ xs) rest none = (no-heading text x xs rest none.0, heading-free text xs rest none.1)

-- the tokens of a section with its heading, and those behind it
record Present (name : Word) (left : Left) (found : List Token) (rest : Left) : Type 0 where
  h : Token
  s : Token
  p : Token
  tokens_is : left.tokens ≡ h ∷ (s ∷ (p ∷ (found ++ rest.tokens)))
  text_is : rest.text ≡ left.text
  named : is_the_word left.text name h ≡ true
  section : is_the_word left.text (codes "SECTION") s ≡ true
  period : has_kind kind.Period p ≡ true
  free : HasNoHeading left.text found

record Cons (test : Token → Bool) (tokens : List Token) : Type 0 where
  first : Token
  is : tokens ≡ first ∷ drop 1 tokens
  passes : test first ≡ true

cons : (test : Token → Bool) (tokens : List Token) → begins_with test tokens ≡ true → Cons test tokens
cons test [] is = absurd cc
cons test (t ∷ ts) is = record { first = t; is = refl; passes = is }

present : (name : Word) (left : Left) (found : List Token) (rest : Left) → sees_word name left ≡ true → section_text (behind 1 left) ≡ Ok (found, rest) → Present name left found rest
present name left found rest seen is =
    let a = goes (word (codes "SECTION") (behind 1 left)) (λ u. period >>= (λ v. up_to (ends_text true))) (found, rest) is in
    let w = word-ok (codes "SECTION") (behind 1 left) a.found a.first_is in
    let b = goes (period a.found.1) (λ v. up_to (ends_text true)) (found, rest) a.next_is in
    let v = period-ok a.found.1 b.found b.first_is in
    let third : List Token = drop 1 (drop 1 (drop 1 left.tokens)) in
    let at : b.found.1 ≡ left_of left.text third = v.1 ∙ ap (behind 1) w.1 in
    let n : ℕ = size_up_to (ends_text true) left.text third in
    let up : up_to (ends_text true) (left_of left.text third) ≡ Ok (found, rest) = subst (λ (l : Left). up_to (ends_text true) l ≡ Ok (found, rest)) at b.next_is in
    let same : (found, rest) ≡ (take n third, left_of left.text (drop n third)) = same-ok (Ok (found, rest)) (found, rest) (take n third, left_of left.text (drop n third)) refl (sym up) in
    let found_is : found ≡ take n third = ap (λ (f : List Token × Left). f.0) same in
    let rest_is : rest ≡ left_of left.text (drop n third) = ap (λ (f : List Token × Left). f.1) same in
    let first = cons (is_the_word left.text name) left.tokens seen in
    let second = cons (is_the_word left.text (codes "SECTION")) (drop 1 left.tokens) w.0 in
    let dot = cons (has_kind kind.Period) (drop 1 (drop 1 left.tokens)) (sym (ap (sees kind.Period) w.1) ∙ v.0) in
    let whole : third ≡ found ++ rest.tokens = sym (take-append-drop n third) ∙ sym (ap (λ (xs : List Token). xs ++ drop n third) found_is) ∙ sym (ap (λ (l : Left). found ++ l.tokens) rest_is) in
    record {
      h = first.first;
      s = second.first;
      p = dot.first;
      tokens_is = first.is ∙ ap (λ (ts : List Token). first.first ∷ ts) (second.is ∙ ap (λ (ts : List Token). second.first ∷ ts) (dot.is ∙ ap (λ (ts : List Token). dot.first ∷ ts) whole));
      text_is = ap (λ (l : Left). l.text) rest_is;
      named = first.passes;
      section = second.passes;
      period = dot.passes;
      free = subst (HasNoHeading left.text) (sym found_is) (heading-free left.text (take n third) (drop n third) (quiet left.text n third refl));
    }

-- there is no section, and nothing is read
record IsAbsent (left : Left) (found : List Token) (rest : Left) : Type 0 where
  found_is : [] ≡ found
  rest_is : left ≡ rest

-- nothing is read
abbrev nothing : Left → Result (List Token × Left) Left
nothing left = Ok ([], left)

absent : (left : Left) (out : List Token × Left) → nothing left ≡ Ok out → IsAbsent left out.0 out.1
absent left out is =
    let same = same-ok (nothing left) ([], left) out refl is in
    record { found_is = ap (λ (f : List Token × Left). f.0) same; rest_is = ap (λ (f : List Token × Left). f.1) same }

section-by : (name : Word) (left : Left) (found : List Token) (rest : Left) (b : Bool) → sees_word name left ≡ b
    → (if b then section_text (behind 1 left) else Ok ([], left)) ≡ Ok (found, rest) → IsAbsent left found rest ⊎ Present name left found rest
section-by name left found rest true seen is = inr (present name left found rest seen is)
section-by name left found rest false seen is = inl (absent left (found, rest) is)

section-ok : (name : Word) (left : Left) (found : List Token) (rest : Left) → section true name left ≡ Ok (found, rest) → IsAbsent left found rest ⊎ Present name left found rest
section-ok name left found rest is = section-by name left found rest (sees_word name left) refl is

-- ---- the data division

-- each entry of LINKAGE SECTION is a part of the data
abbrev pub AreParts : List ℕ → List Token → List Token → Type 0
AreParts text stored linkage = (entry : List Token) → Among entry (division_entries_of linkage) → Among (part_of true entry) (parts_of text stored)

no-entries : (text : List ℕ) (stored : List Token) → AreParts text stored []
unfolding division_entries_of
no-entries text stored entry among = absurd among

-- tokens in front of others, which stay in the text
record Front (left rest : Left) : Type 0 where
  tokens : List Token
  is : left.tokens ≡ tokens ++ rest.tokens
  text : rest.text ≡ left.text

front-section : (name : Word) (left : Left) (found : List Token) (rest : Left) → IsAbsent left found rest ⊎ Present name left found rest → Front left rest
front-section name left found rest (inl none) =
    record { tokens = []; is = ap (λ (l : Left). l.tokens) none.rest_is; text = sym (ap (λ (l : Left). l.text) none.rest_is) }
front-section name left found rest (inr p) = record { tokens = p.h ∷ (p.s ∷ (p.p ∷ found)); is = p.tokens_is; text = p.text_is }

-- the word LINKAGE is no word SECTION, and no period
linkage_alone : (spelled : Word) (b : Bool) → same_word spelled (codes "SECTION") ≡ b → same_word spelled (codes "LINKAGE") ≡ true → b ≡ false
linkage_alone spelled true section linkage =
    let left = (bytes_decides (str_to_ascii_lowercase spelled) (str_to_ascii_lowercase (codes "SECTION"))).0 section in
    let right = (bytes_decides (str_to_ascii_lowercase spelled) (str_to_ascii_lowercase (codes "LINKAGE"))).0 linkage in
    let first : 115 ≡ 108 = ap (λ (w : Word). get_or w 0 0) (sym left ∙ right) in
    absurd (omega (arith, first))
linkage_alone spelled false section linkage = refl

module _ (text : List ℕ) (h : Token) (named : is_the_word text (codes "LINKAGE") h ≡ true) where
  no_section : is_the_word text (codes "SECTION") h ≡ false
  no_section = and_right _ _ (linkage_alone (spelling text h) _ refl (and_parts _ _ named).1)

  no_period : has_kind kind.Period h ≡ false
  no_period = let word = eqb-true (kind_place h.kind) 0 (and_parts _ _ named).0 in rw word refl

either : (a b c : Bool) → b ≡ true → c ≡ true → ((a || b) && c) ≡ true
either true b c is_b is_c = is_c
either false b c is_b is_c = rw (is_b, is_c) refl

begins : (text : List ℕ) (h s : Token) (tokens : List Token) → is_the_word text (codes "LINKAGE") h ≡ true → is_the_word text (codes "SECTION") s ≡ true → Begins text h (s ∷ tokens)
begins text h s tokens named section =
    record { heading = either _ _ _ named section; linkage = named; no_section = no_section text h named; no_period = no_period text h named }

-- working storage and linkage
record Stored (left : Left) (linkage : List Token) (rest : Left) : Type 0 where
  front : Front left rest
  parts : AreParts left.text front.tokens linkage

stored-by : (left middle rest : Left) (linkage : List Token) → Front left middle → IsAbsent middle linkage rest ⊎ Present (codes "LINKAGE") middle linkage rest
    → Stored left linkage rest
stored-by left middle rest linkage first (inl none) =
    record {
      front = record {
        tokens = first.tokens;
        is = first.is ∙ ap (λ (l : Left). first.tokens ++ l.tokens) none.rest_is;
        text = sym (ap (λ (l : Left). l.text) none.rest_is) ∙ first.text;
      };
      parts = subst (AreParts left.text first.tokens) none.found_is (no-entries left.text first.tokens);
    }
stored-by left middle rest linkage first (inr p) =
    let own : List Token = p.h ∷ (p.s ∷ (p.p ∷ linkage)) in
    let parts : AreParts middle.text (first.tokens ++ own) linkage =
    λ entry among. entry-part middle.text first.tokens p.h p.s p.p linkage (begins middle.text p.h p.s (p.p ∷ linkage) p.named p.section) p.period p.free entry among in
    record {
      front = record {
        tokens = first.tokens ++ own;
        is = first.is ∙ ap (λ (ts : List Token). first.tokens ++ ts) p.tokens_is ∙ sym (append_assoc first.tokens own rest.tokens);
        text = p.text_is ∙ first.text;
      };
      parts = subst (λ t. AreParts t (first.tokens ++ own) linkage) first.text parts;
    }

stored-ok : (left : Left) (linkage : List Token) (rest : Left) → stored_sections false left ≡ Ok (linkage, rest) → Stored left linkage rest
stored-ok left linkage rest is =
    let g = goes (section true (codes "WORKING-STORAGE") left) (λ working. section true (codes "LINKAGE")) (linkage, rest) is in
    let first = front-section (codes "WORKING-STORAGE") left g.found.0 g.found.1 (section-ok (codes "WORKING-STORAGE") left g.found.0 g.found.1 g.first_is) in
    stored-by left g.found.1 rest linkage first (section-ok (codes "LINKAGE") g.found.1 linkage rest g.next_is)

between-is : (left rest : Left) (tokens : List Token) → left.tokens ≡ tokens ++ rest.tokens → between left rest ≡ tokens
between-is left rest tokens is =
    let size : length left.tokens - length rest.tokens ≡ length tokens = omega (arith, ap length is, length-append tokens rest.tokens) in
    ap (λ n. take n left.tokens) size ∙ ap (take (length tokens)) is ∙ take-append_seam tokens rest.tokens

abbrev data_of : Left → List Token → Left → List Token → DataDivision
data_of left linkage rest screens = record { stored = between left rest; linkage = linkage; screens = screens }

-- the data division keeps the text, and has the entries of LINKAGE SECTION as parts
record HasParts (left : Left) (found : DataDivision × Left) : Type 0 where
  parts : AreParts left.text found.0.stored found.0.linkage
  text : found.1.text ≡ left.text

sections-ok : (left : Left) (found : DataDivision × Left) → sections false left ≡ Ok found → HasParts left found
sections-ok left found is =
    let a = goes (stored_sections false left) (λ linkage middle. and_then (section true (codes "SCREEN") middle) (λ screens. pure (data_of left linkage middle screens))) found is in
    let b = goes (section true (codes "SCREEN") a.found.1) (λ screens. pure (data_of left a.found.0 a.found.1 screens)) found a.next_is in
    let same : (data_of left a.found.0 a.found.1 b.found.0, b.found.1) ≡ found = same-ok (Ok (data_of left a.found.0 a.found.1 b.found.0, b.found.1)) (data_of left a.found.0 a.found.1 b.found.0, b.found.1) found refl b.next_is in
    let stored = stored-ok left a.found.0 a.found.1 a.first_is in
    let screens = front-section (codes "SCREEN") a.found.1 b.found.0 b.found.1 (section-ok (codes "SCREEN") a.found.1 b.found.0 b.found.1 b.first_is) in
    let parts : AreParts left.text (between left a.found.1) a.found.0 =
    subst (λ (ts : List Token). AreParts left.text ts a.found.0) (sym (between-is left a.found.1 stored.front.tokens stored.front.is)) stored.parts in
    subst (HasParts left) same (record { parts = parts; text = screens.text ∙ stored.front.text })

data_sections-ok : (left : Left) (found : DataDivision × Left) → data_sections false left ≡ Ok found → HasParts left found
data_sections-ok left found is =
    let a = goes (word (codes "DIVISION") left) (λ u. period >>= (λ v. sections false)) found is in
    let b = goes (period a.found.1) (λ v. sections false) found a.next_is in
    let s = sections-ok b.found.1 found b.next_is in
    let at : b.found.1.text ≡ left.text = keeps-period a.found.1 b.found b.first_is ∙ keeps-word (codes "DIVISION") left a.found a.first_is in
    record { parts = subst (λ t. AreParts t found.0.stored found.0.linkage) at s.parts; text = s.text ∙ at }

data-by : (left : Left) (found : DataDivision × Left) (b : Bool) → (if b then data_sections false (behind 1 left) else Ok (no_data, left)) ≡ Ok found → HasParts left found
data-by left found true is = let h = data_sections-ok (behind 1 left) found is in record { parts = h.parts; text = h.text }
data-by left found false is =
    subst (HasParts left) (same-ok (Ok (no_data, left)) (no_data, left) found refl is) (record { parts = no-entries left.text []; text = refl })

front-ok : (name : Word) (left : Left) (found : DataDivision × Left) → front false name left ≡ Ok found → HasParts left found
front-ok name left found is =
    let a = goes (identification name left) (λ u. environment >>= (λ v. data_division false)) found is in
    let b = goes (environment a.found.1) (λ v. data_division false) found a.next_is in
    let h = data-by b.found.1 found (sees_word (codes "DATA") b.found.1) b.next_is in
    let at : b.found.1.text ≡ left.text = keeps-environment a.found.1 b.found b.first_is ∙ keeps-identification name left a.found a.first_is in
    record { parts = subst (λ t. AreParts t found.0.stored found.0.linkage) at h.parts; text = h.text ∙ at }

-- ---- USING

-- the tokens are names that USING may name
abbrev pub AreNamed : List ℕ → List Token → List Token → Type 0
AreNamed text linkage names = All (λ token. is_parameter text (parameters text linkage) token ≡ true) names

front-all_by : (test : Token → Bool) (x : Token) (xs : List Token) (b : Bool) → test x ≡ b → All (λ t. test t ≡ true) (take_while test xs)
    → All (λ t. test t ≡ true) (cond b (x ∷ take_while test xs) [])
front-all_by test x xs true is rest = All-cons (λ t. test t ≡ true) x (take_while test xs) is rest
front-all_by test x xs false is rest = All-nil (λ t. test t ≡ true)

front-all : (test : Token → Bool) (xs : List Token) → All (λ t. test t ≡ true) (take_while test xs)
front-all test [] = All-nil (λ t. test t ≡ true)
front-all test (x ∷ xs) =
    subst (All (λ t. test t ≡ true)) (sym (take_while-cons test x xs)) (front-all_by test x xs (test x) refl (front-all test xs))

used-by : (left : Left) (linkage : List Token) (found : List Token × Left) (b : Bool) (n : ℕ) → n ≡ length (take_while (is_parameter left.text (parameters left.text linkage)) left.tokens)
    → (if b then Err left else some_tokens n left) ≡ Ok found → AreNamed left.text linkage found.0
used-by left linkage found true n size is = absurd cc
used-by left linkage found false n size is =
    let test : Token → Bool = is_parameter left.text (parameters left.text linkage) in
    let same : take n left.tokens ≡ found.0 = ap (λ (f : List Token × Left). f.0) (same-ok (Ok (take n left.tokens, behind n left)) (take n left.tokens, behind n left) found refl is) in
    let names : take_while test left.tokens ≡ found.0 = sym (ap (λ k. take k left.tokens) size ∙ ap (λ k. take k left.tokens) (length-prefix_len test left.tokens)) ∙ same in
    subst (AreNamed left.text linkage) names (front-all test left.tokens)

using-by : (left : Left) (linkage : List Token) (found : List Token × Left) (b : Bool) → (if b then used_names linkage (behind 1 left) else Ok ([], left)) ≡ Ok found → AreNamed left.text linkage found.0
using-by left linkage found true is = used-by (behind 1 left) linkage found _ _ refl is
using-by left linkage found false is =
    subst (AreNamed left.text linkage) (ap (λ (f : List Token × Left). f.0) (same-ok (Ok ([], left)) ([], left) found refl is)) (All-nil _)

heading-ok : (left : Left) (linkage : List Token) (found : List Token × Left) → procedure_heading false linkage left ≡ Ok found → AreNamed left.text linkage found.0
heading-ok left linkage found is =
    let a = goes (begins_procedure left) (λ u. using_names false linkage >>= (λ names. period_behind names)) found is in
    let b = goes (using_names false linkage a.found.1) (λ names. period_behind names) found a.next_is in
    let c = goes (period b.found.1) (λ v. pure b.found.0) found b.next_is in
    let same : b.found.0 ≡ found.0 = ap (λ (f : List Token × Left). f.0) (same-ok (Ok (b.found.0, c.found.1)) (b.found.0, c.found.1) found refl c.next_is) in
    let named = using-by a.found.1 linkage b.found (sees_word (codes "USING") a.found.1) b.first_is in
    subst (AreNamed left.text linkage) same (subst (λ t. AreNamed t linkage b.found.0) (keeps-begins_procedure left a.found a.first_is) named)

-- ---- the divisions

-- the names of USING are those of entries that are parts of the data
pub record HasUsing (text : List ℕ) (parts : Divided) : Type 0 where
  pub linkage : List Token
  pub are_parts : AreParts text parts.stored linkage
  pub are_named : AreNamed text linkage parts.using_names

abbrev divided_of : DataDivision → List Token → Left → Divided
divided_of found names left = record { stored = found.stored; screens = found.screens; using_names = names; procedure = left.tokens }

source-ok : (name : Word) (left : Left) (found : Divided × Left) → source false name left ≡ Ok found → HasUsing left.text found.0
source-ok name left found is =
    let a = goes (front false name left) (λ d. procedure_heading false d.linkage >>= (λ names rest. Ok (divided_of d names rest, rest))) found is in
    let b = goes (procedure_heading false a.found.0.linkage a.found.1) (λ names rest. Ok (divided_of a.found.0 names rest, rest)) found a.next_is in
    let same : divided_of a.found.0 b.found.0 b.found.1 ≡ found.0 = ap (λ (f : Divided × Left). f.0) (same-ok (Ok (divided_of a.found.0 b.found.0 b.found.1, b.found.1)) (divided_of a.found.0 b.found.0 b.found.1, b.found.1) found refl b.next_is) in
    let h = front-ok name left a.found a.first_is in
    let named = heading-ok a.found.1 a.found.0.linkage b.found b.first_is in
    subst (HasUsing left.text) same (record { linkage = a.found.0.linkage; are_parts = h.parts; are_named = subst (λ t. AreNamed t a.found.0.linkage b.found.0) h.text named })

divided-ok : (text : List ℕ) (first_line : ℕ) (tokens : List Token) (result : Result (Divided × Left) Left) (parts : Divided) → divided first_line tokens result ≡ Ok parts
    → ((found : Divided × Left) → result ≡ Ok found → HasUsing text found.0) → HasUsing text parts
divided-ok text first_line tokens (Ok found) parts is holds = subst (HasUsing text) (same-ok (Ok found.0) found.0 parts refl is) (holds found refl)
divided-ok text first_line tokens (Err left) parts is holds = absurd cc

pub divisions-ok : (name : Word) (text : List ℕ) (tokens : List Token) (first_line : ℕ) (parts : Divided) → divisions_of false name text tokens first_line ≡ Ok parts → HasUsing text parts
divisions-ok name text tokens first_line parts is =
    divided-ok text first_line tokens (source false name (left_of text tokens)) parts is (λ found at. source-ok name (left_of text tokens) found at)
