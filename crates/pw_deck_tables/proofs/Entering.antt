-- Terminals get their entries one after the other.
use Rattle.std.proofs.Common.{◌≡◌, ℕ, zero, suc, ◌+◌, ◌<◌, false, List, [], ◌∷◌, ◌++◌, map, length, get_or, take, drop, refl, sym, ap, subst, ◌∙◌, arith}
use Rattle.std.specs.List.{IsDistinct, AllByRecursion}
use Rattle.std.specs.Str.{bytes_eq}
use Rattle.std.proofs.lemmas.List.{drop_more, length-map, length-take-le}
use Rattle.pw_code.specs.declared.system.TermInfo.{TermInfo}
use Rattle.pw_deck_tables.specs.Tables.{entries_for}
use Rattle.pw_deck_tables.specs.declared.objects.TermEntries.{TermEntries}

-- the names of terminals
abbrev pub names : List TermInfo → List (List ℕ)
names terminals = map (λ terminal. terminal.name) terminals

-- the sections that are left have the entries of these terminals as all of them have
abbrev pub HasTheirs : List TermEntries → List TermEntries → List TermInfo → Type 0
HasTheirs left all terminals = AllByRecursion (λ terminal. entries_for left terminal.name ≡ entries_for all terminal.name) terminals

pub all_theirs : (all : List TermEntries) (terminals : List TermInfo) → HasTheirs all all terminals
all_theirs all [] = tt
all_theirs all (t ∷ ts) = (refl, all_theirs all ts)

-- what is left behind one of another name
rest_theirs : (left next all : List TermEntries) (name : List ℕ) (ts : List TermInfo) → AllByRecursion (λ y. bytes_eq name y ≡ false) (names ts)
    → ((other : List ℕ) → bytes_eq name other ≡ false → entries_for next other ≡ entries_for left other) → HasTheirs left all ts → HasTheirs next all ts
rest_theirs left next all name [] apart others theirs = tt
rest_theirs left next all name (t ∷ ts) apart others theirs =
    (others t.name apart.0 ∙ theirs.0, rest_theirs left next all name ts apart.1 others theirs.1)

-- what holds behind one terminal more
pub record Further (left next all : List TermEntries) (terminals : List TermInfo) (i : ℕ) (terminal : TermInfo) : Type 0 where
  pub apart : IsDistinct bytes_eq (names (drop (i + 1) terminals))
  pub theirs : HasTheirs next all (drop (i + 1) terminals)
  pub same : entries_for left terminal.name ≡ entries_for all terminal.name

pub further : (left next all : List TermEntries) (terminals : List TermInfo) (i : ℕ) (terminal : TermInfo) → i < length terminals → terminal ≡ get_or terminals i terminal
    → IsDistinct bytes_eq (names (drop i terminals)) → HasTheirs left all (drop i terminals)
    → ((other : List ℕ) → bytes_eq terminal.name other ≡ false → entries_for next other ≡ entries_for left other)
    → Further left next all terminals i terminal
unfolding IsDistinct
further left next all terminals i terminal within is apart theirs others =
    let first : drop i terminals ≡ terminal ∷ drop (i + 1) terminals = subst (λ (t : TermInfo). drop i terminals ≡ t ∷ drop (i + 1) terminals) (sym is) (drop_more terminals i terminal within) in
    let a : IsDistinct bytes_eq (names (terminal ∷ drop (i + 1) terminals)) = subst (λ ts. IsDistinct bytes_eq (names ts)) first apart in
    let h : HasTheirs left all (terminal ∷ drop (i + 1) terminals) = subst (λ ts. HasTheirs left all ts) first theirs in
    record { apart = a.1; theirs = rest_theirs left next all terminal.name (drop (i + 1) terminals) a.0 others h.1; same = h.0 }

at_seam : {X : Type 0} (xs ys : List X) (y d : X) (i : ℕ) → i ≡ length xs → get_or (xs ++ y ∷ ys) i d ≡ y
at_seam [] ys y d zero is = refl
at_seam [] ys y d (suc i) is = absurd (omega (arith, is))
at_seam (x ∷ xs) ys y d zero is = absurd (omega (arith, is))
at_seam (x ∷ xs) ys y d (suc i) is = at_seam xs ys y d i (omega (arith, is))

-- the next terminal is as it was
pub next_is : (f : TermInfo → TermInfo) (terminals items : List TermInfo) (i : ℕ) (terminal : TermInfo) → i < length terminals
    → items ≡ map f (take i terminals) ++ drop i terminals → terminal ≡ get_or items i terminal → terminal ≡ get_or terminals i terminal
next_is f terminals items i terminal within so_far is =
    let size : i ≡ length (map f (take i terminals)) = omega (arith, length-map (take i terminals) f, length-take-le i terminals (omega (arith, within))) in
    is ∙ ap (λ ts. get_or ts i terminal) so_far
    ∙ ap (λ ts. get_or (map f (take i terminals) ++ ts) i terminal) (drop_more terminals i terminal within)
    ∙ at_seam (map f (take i terminals)) (drop (i + 1) terminals) (get_or terminals i terminal) terminal i size
