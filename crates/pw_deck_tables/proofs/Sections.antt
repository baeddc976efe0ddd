-- The entries of a terminal among ENTRIES sections.
use Rattle.std.proofs.Common.{◌≡◌, ℕ, zero, suc, ◌+◌, ◌<◌, Bool, true, false, not, cond, ltb, List, [], ◌∷◌, length, get_or, Some, None, refl, sym, ap, ◌∙◌, arith}
use Rattle.std.specs.List.{position, prefix_len, remove}
use Rattle.std.specs.Str.{bytes_eq}
use Rattle.std.proofs.lemmas.Bool.{le-ltb, ltb-false}
use Rattle.std.proofs.lemmas.List.Quantifiers.{position-Some}
use Rattle.std.proofs.lemmas.Slice.Eq.{bytes_eq-Decides}
use Rattle.pw_deck_tables.specs.Tables.{entries_for}
use Rattle.pw_deck_tables.specs.declared.objects.TermEntries.{TermEntries}

-- the section is of the terminal
abbrev pub of_terminal : List ℕ → TermEntries → Bool
of_terminal name section = bytes_eq section.name name

-- those of another terminal stay where a section is taken away
others_stay : (sections : List TermEntries) (i : ℕ) (d : TermEntries) (other : List ℕ) → i < length sections → of_terminal other (get_or sections i d) ≡ false
    → entries_for (remove sections i) other ≡ entries_for sections other
unfolding entries_for
others_stay [] i d other within is = absurd (omega arith)
others_stay (s ∷ ss) zero d other within is = sym (ap (λ b. cond b s.entries (entries_for ss other)) is)
others_stay (s ∷ ss) (suc i) d other within is = ap (cond (bytes_eq s.name other) s.entries) (others_stay ss i d other (omega arith) is)

-- the entries of a terminal are those of the first section of it
found_at : (sections : List TermEntries) (i : ℕ) (d : TermEntries) (name : List ℕ) → i < length sections → of_terminal name (get_or sections i d) ≡ true
    → ((k : ℕ) → k < i → of_terminal name (get_or sections k d) ≡ false) → entries_for sections name ≡ (get_or sections i d).entries
unfolding entries_for
found_at [] i d name within is none = absurd (omega arith)
found_at (s ∷ ss) zero d name within is none = ap (λ b. cond b s.entries (entries_for ss name)) is
found_at (s ∷ ss) (suc i) d name within is none =
    ap (λ b. cond b s.entries (entries_for ss name)) (none zero (omega arith)) ∙ found_at ss i d name (omega arith) is (λ k less. none (suc k) (omega arith))

pub entries_at : (sections : List TermEntries) (i : ℕ) (d : TermEntries) (name : List ℕ) → position (of_terminal name) sections ≡ Some i
    → entries_for sections name ≡ (get_or sections i d).entries
entries_at sections i d name is =
    let p = position-Some (of_terminal name) sections i d is in found_at sections i d name p.0 p.1 p.2

none_before : (sections : List TermEntries) (name : List ℕ) → ltb (prefix_len (λ s. not (of_terminal name s)) sections) (length sections) ≡ false
    → entries_for sections name ≡ []
unfolding entries_for
none_before [] name none = refl
none_before (s ∷ ss) name none = go (bytes_eq s.name name) (none_before ss name) none
  where
    go : (b : Bool) → (ltb (prefix_len (λ s. not (of_terminal name s)) ss) (length ss) ≡ false → entries_for ss name ≡ []) → ltb (cond (not b) (1 + prefix_len (λ s. not (of_terminal name s)) ss) 0) (suc (length ss)) ≡ false → cond b s.entries (entries_for ss name) ≡ []
    go true rest h = absurd (omega (arith, ltb-false 0 (suc (length ss)) h))
    go false rest h = rest (le-ltb (prefix_len (λ s. not (of_terminal name s)) ss) (length ss) (omega (arith, ltb-false (1 + prefix_len (λ s. not (of_terminal name s)) ss) (suc (length ss)) h)))

not_some : (b : Bool) (i : ℕ) → None ≡ cond b (Some i) None → b ≡ false
not_some true i h = absurd cc
not_some false i h = refl

-- a terminal without a section has none
pub entries_none : (sections : List TermEntries) (name : List ℕ) → None ≡ position (of_terminal name) sections → entries_for sections name ≡ []
entries_none sections name none = none_before sections name (not_some _ _ none)

-- those of another terminal stay where the first section of a terminal is taken away
pub taken_others : (sections : List TermEntries) (i : ℕ) (d : TermEntries) (name other : List ℕ) → position (of_terminal name) sections ≡ Some i → bytes_eq name other ≡ false
    → entries_for (remove sections i) other ≡ entries_for sections other
taken_others sections i d name other is apart =
    let p = position-Some (of_terminal name) sections i d is in
    let same : (get_or sections i d).name ≡ name = (bytes_eq-Decides (get_or sections i d).name name).0 p.1 in
    others_stay sections i d other p.0 (ap (λ n. bytes_eq n other) same ∙ apart)
