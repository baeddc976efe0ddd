-- Tests that compute over all numbers of terminals, and over all digits.
use Rattle.std.proofs.Common.{◌≡◌, ℕ, zero, suc, pred, ◌+◌, ◌-◌, ◌≤◌, ◌<◌, Bool, true, false, not, eqb, ◌&&◌, List, [], ◌∷◌, ◌++◌, Option, None, Some, refl, sym, ap, subst, ◌∙◌, arith}
use Rattle.std.specs.Prelude.{codes, is_ok, is_some, nat_le, length}
use Rattle.std.specs.Fmt.{decimal, digits}
use Rattle.std.proofs.lemmas.Bool.{eqb-true, eqb-false, and_parts, not-true}
use Rattle.std.specs.List.{list_all}
use Rattle.std.specs.Str.{bytes_eq}
use Rattle.std.proofs.lemmas.Slice.Eq.{bytes_eq-Decides}
use Rattle.pw_sections.specs.Steps.{is_blank}
use Rattle.pw_sections.specs.Words.{words}
use Rattle.pw_sections.specs.Entries.{parts, quoted, pairs_of, entry_of}
use Rattle.pw_sections.specs.Headings.{heading_of}
use Rattle.pw_sections.specs.Records.{is_printable}
use Rattle.pw_sections.specs.declared.heading.Heading.{Heading}
use Rattle.pw_sections.specs.declared.heading.Heading.TheVariants as heading
use Rattle.pw_words.specs.Names.{has_name}
use Rattle.pw_gen.proofs.DeckTexts.{is_line, is_other}

-- a test holds of 1 to n
abbrev pub holds_to : (ℕ → Bool) → ℕ → Bool
holds_to test zero = true
holds_to test (suc n) = test (suc n) && holds_to test n

pub holds : (test : ℕ → Bool) (n m : ℕ) → holds_to test n ≡ true → m < n → test (suc m) ≡ true
holds test zero m is few = absurd (omega (arith, few))
holds test (suc n) m is few =
    let parts = and_parts (test (suc n)) (holds_to test n) is in
    go (eqb m n) refl parts.0 (holds test n m parts.1)
  where
    go : (b : Bool) → eqb m n ≡ b → test (suc n) ≡ true → (m < n → test (suc m) ≡ true) → test (suc m) ≡ true
    go true same last before = subst (λ k. test (suc k) ≡ true) (sym (eqb-true m n same)) last
    go false other last before = before (omega (arith, few, eqb-false m n other))

-- the name of a terminal, and what stands behind the `?` of its section
abbrev pub name_of : ℕ → List ℕ
name_of k = codes "T" ++ decimal k

abbrev pub head_of : ℕ → List ℕ
head_of k = codes "ENTRIES T" ++ decimal k

abbrev pub names_to : ℕ → List (List ℕ)
names_to zero = []
names_to (suc n) = names_to n ++ name_of (suc n) ∷ []

abbrev pub is_short : List ℕ → Bool
is_short line = nat_le (length line) 100

abbrev says_entries : Option Heading → List ℕ → Bool
says_entries (Some (heading.Entries w)) name = bytes_eq w name
says_entries _ _ = false

says_is : (h : Option Heading) (name : List ℕ) → says_entries h name ≡ true → h ≡ Some (heading.Entries name)
says_is None name is = absurd cc
says_is (Some heading.Pathcom) name is = absurd cc
says_is (Some (heading.Requester w)) name is = absurd cc
says_is (Some (heading.Server w)) name is = absurd cc
says_is (Some (heading.File w key)) name is = absurd cc
says_is (Some (heading.Entries w)) name is = ap (λ n. Some (heading.Entries n)) ((bytes_eq-Decides w name).0 is)
says_is (Some heading.Fail) name is = absurd cc
says_is (Some heading.Log) name is = absurd cc
says_is (Some heading.End) name is = absurd cc

-- what is known of the section line of a terminal
pub record GoodHead (k : ℕ) (before : List (List ℕ)) : Type 0 where
  pub line : is_line (head_of k) ≡ true
  pub short : is_short (63 ∷ head_of k) ≡ true
  pub says : heading_of (63 ∷ head_of k) ≡ Some (heading.Entries (name_of k))
  pub new : has_name before (name_of k) ≡ false

abbrev head_test : ℕ → Bool
head_test k = is_line (head_of k) && (is_short (63 ∷ head_of k) && (says_entries (heading_of (63 ∷ head_of k)) (name_of k) && not (has_name (names_to (pred k)) (name_of k))))

heads : holds_to head_test 64 ≡ true
unfolding words digits
heads = refl

pub head_is : (m : ℕ) → m < 64 → GoodHead (suc m) (names_to m)
head_is m few =
    let k = suc m in
    let all = holds head_test 64 m heads few in
    let a = and_parts (is_line (head_of k)) _ all in
    let b = and_parts (is_short (63 ∷ head_of k)) _ a.1 in
    let c = and_parts (says_entries (heading_of (63 ∷ head_of k)) (name_of k)) _ b.1 in
    record { line = a.0; short = b.0; says = says_is _ _ c.0; new = not-true _ c.1 }

-- the entry line of a digit
abbrev pub entry_at : ℕ → List ℕ
entry_at d = codes "F1 F-OP=I F-KEY=A" ++ (48 + d) ∷ []

-- what is known of an entry line
pub record GoodEntry (text : List ℕ) : Type 0 where
  pub line : is_line text ≡ true
  pub short : is_short text ≡ true
  pub other : is_other text ≡ true
  pub some : is_blank text ≡ false
  pub printed : list_all is_printable text ≡ true
  pub entry : is_some (entry_of text) ≡ true

abbrev entry_test : ℕ → Bool
entry_test d =
    is_line (entry_at d) && (is_short (entry_at d) && (is_other (entry_at d) && (not (is_blank (entry_at d))
    && (list_all is_printable (entry_at d) && is_some (entry_of (entry_at d))))))

all_digits : holds_to (λ k. entry_test (pred k)) 10 ≡ true
unfolding words parts quoted pairs_of
all_digits = refl

pub entry_is : (d : ℕ) → d < 10 → GoodEntry (entry_at d)
entry_is d few =
    let all = holds (λ k. entry_test (pred k)) 10 d all_digits few in
    let a = and_parts (is_line (entry_at d)) _ all in
    let b = and_parts (is_short (entry_at d)) _ a.1 in
    let c = and_parts (is_other (entry_at d)) _ b.1 in
    let e = and_parts (not (is_blank (entry_at d))) _ c.1 in
    let f = and_parts (list_all is_printable (entry_at d)) _ e.1 in
    record { line = a.0; short = b.0; other = c.0; some = not-true _ e.0; printed = f.0; entry = f.1 }
