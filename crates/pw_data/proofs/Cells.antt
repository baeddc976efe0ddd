-- The characters and the sizes of the cells of trees.
use Rattle.std.proofs.Common.{◌≡◌, ℕ, zero, suc, ◌+◌, ◌*◌, Bool, true, false, not, List, [], ◌∷◌, ◌++◌, length, Option, Some, None, refl, sym, ap, ◌∙◌, append_assoc, arith, length-append}
use Rattle.std.specs.Prelude.{◌&&◌, is_some, option_and_then, if◌then◌else◌}
use Rattle.std.specs.List.{repeat}
use Rattle.std.proofs.lemmas.List.{append-nil, length-take, length-replicate}
use Rattle.pw_picture.specs.declared.picture.Picture.{Picture}
use Rattle.pw_picture.specs.declared.picture.Picture.TheVariants.{Text, Number, Edited}
use Rattle.pw_picture.specs.Grammar.{picture_of}
use Rattle.pw_picture.specs.Stored.{digits_of, chars_of}
use Rattle.pw_picture.specs.Text.{fitted}
use Rattle.pw_text.specs.declared.token.Token.{Token}
use Rattle.pw_data.specs.declared.literal.Literal.{Literal}
use Rattle.pw_data.specs.declared.entry.Entry.{Entry}
use Rattle.pw_text.specs.Cursor.{spelling}
use Rattle.pw_data.specs.Literals.{literal_of}
use Rattle.pw_data.specs.Entries.{picture_at, kind_of, kind_at, has_no_kind, size_at, count_at}
use Rattle.pw_data.specs.Tree.{Forest, Empty, Node, stands_in, inside, past, forest}
use Rattle.pw_data.specs.Laid.{times, size_in, initial_by, initial, chars_in}
use Rattle.pw_data.specs.Store.{Cell, joined, occurrences, cell_by, cells_in, first_occurrence, entry_count}

-- an entry as it is read from tokens without a fault
pub record Good (text : List ℕ) (entry : Entry) : Type 0 where
  pub kind : has_no_kind text entry ≡ false
  pub kept : entry.kind ≡ kind_at text entry
  pub size : entry.size ≡ size_at (picture_at text entry.clauses.picture)
  pub occurs : entry.occurs ≡ count_at text entry.clauses.occurs

-- each entry of a list
abbrev pub Each : (Entry → Type 0) → List Entry → Type 0
Each P [] = Unit {0}
Each P (entry ∷ entries) = P entry × Each P entries

-- each entry of trees
abbrev pub AllIn : (Entry → Type 0) → Forest → Type 0
AllIn P Empty = Unit {0}
AllIn P (Node entry members behind) = P entry × AllIn P members × AllIn P behind

module _ (P : Entry → Type 0) where
  All-inside_by : (e m : Entry) (ms r : Forest) (b : Bool) → AllIn P (Node m ms r) → AllIn P (inside e r) → AllIn P (if b then Node m ms (inside e r) else Empty)
  All-inside_by e m ms r true all rest = (all.0, all.1, rest)
  All-inside_by e m ms r false all rest = tt

  All-inside : (e : Entry) (f : Forest) → AllIn P f → AllIn P (inside e f)
  All-inside e Empty all = tt
  All-inside e (Node m ms r) all = All-inside_by e m ms r (stands_in e m) all (All-inside e r all.2)

  All-past_by : (e m : Entry) (ms r : Forest) (b : Bool) → AllIn P (Node m ms r) → AllIn P (past e r) → AllIn P (if b then past e r else Node m ms r)
  All-past_by e m ms r true all rest = rest
  All-past_by e m ms r false all rest = all

  All-past : (e : Entry) (f : Forest) → AllIn P f → AllIn P (past e f)
  All-past e Empty all = tt
  All-past e (Node m ms r) all = All-past_by e m ms r (stands_in e m) all (All-past e r all.2)

  pub All-forest : (entries : List Entry) → Each P entries → AllIn P (forest entries)
  unfolding forest
  All-forest [] each = tt
  All-forest (e ∷ es) each = let rest = All-forest es each.1 in (each.0, All-inside e (forest es) rest, All-past e (forest es) rest)

pub joined-append : (xs ys : List Cell) → joined (xs ++ ys) ≡ joined xs ++ joined ys
joined-append [] ys = refl
joined-append (x ∷ xs) ys = ap (λ cs. x.chars ++ cs) (joined-append xs ys) ∙ sym (append_assoc x.chars (joined xs) (joined ys))

joined-occurrences : (cells : ℕ → List Cell) (chars : List ℕ) → ((k : ℕ) → joined (cells k) ≡ chars) → (from count : ℕ) → joined (occurrences cells from count) ≡ repeat count chars
joined-occurrences cells chars each from zero = refl
joined-occurrences cells chars each from (suc n) =
    joined-append (cells from) (occurrences cells (from + 1) n) ∙ ap (λ cs. cs ++ joined (occurrences cells (from + 1) n)) (each from)
    ∙ ap (λ cs. chars ++ cs) (joined-occurrences cells chars each (from + 1) n)

joined-cell_by : (i k : ℕ) (value : Option Literal) (p : Option Picture) → joined (cell_by i k (initial_by value p) p) ≡ initial_by value p
joined-cell_by i k value None = refl
joined-cell_by i k value (Some p) = append-nil (initial_by value (Some p))

-- the cells of one occurrence of an entry
abbrev pub cells_of : List ℕ → ℕ → Entry → Forest → ℕ → List Cell
cells_of text i e ms k = cell_by i k (initial text e) (picture_at text e.clauses.picture) ++ cells_in text (i + 1) k ms

joined-cells_of : (text : List ℕ) (i k : ℕ) (e : Entry) (ms : Forest) → joined (cells_in text (i + 1) k ms) ≡ chars_in text ms → joined (cells_of text i e ms k) ≡ initial text e ++ chars_in text ms
joined-cells_of text i k e ms is =
    joined-append (cell_by i k (initial text e) (picture_at text e.clauses.picture)) (cells_in text (i + 1) k ms)
    ∙ ap (λ cs. cs ++ joined (cells_in text (i + 1) k ms)) (joined-cell_by i k (option_and_then (literal_of text) e.clauses.value) (picture_at text e.clauses.picture))
    ∙ ap (λ cs. initial text e ++ cs) is

-- the characters of the cells are those of the trees
pub joined-cells : (text : List ℕ) (i k : ℕ) (f : Forest) → joined (cells_in text i k f) ≡ chars_in text f
joined-cells text i k Empty = refl
joined-cells text i k (Node e ms r) =
    joined-append (occurrences (cells_of text i e ms) (first_occurrence e.occurs k) (times e)) (cells_in text (i + 1 + entry_count ms) k r)
    ∙ ap (λ cs. cs ++ joined (cells_in text (i + 1 + entry_count ms) k r))
    (joined-occurrences (cells_of text i e ms) (initial text e ++ chars_in text ms) (λ j. joined-cells_of text i j e ms (joined-cells text (i + 1) j ms)) (first_occurrence e.occurs k) (times e))
    ∙ ap (λ cs. repeat (times e) (initial text e ++ chars_in text ms) ++ cs) (joined-cells text (i + 1 + entry_count ms) k r)

length-fitted : (size : ℕ) (text : List ℕ) → length (fitted size text) ≡ size
length-fitted size text = simp (length-append, length-take, length-replicate) (omega arith)

length-digits_of : (count size : ℕ) → length (digits_of count size) ≡ count
length-digits_of zero size = refl
length-digits_of (suc count) size = omega (arith, length-digits_of count size)

length-chars_of : (digits size : ℕ) (signed negative : Bool) → length (chars_of digits signed negative size) ≡ (if signed then digits + 1 else digits)
length-chars_of digits size true negative = omega (arith, length-digits_of digits size)
length-chars_of digits size false negative = length-digits_of digits size

length_initial-by : (value : Option Literal) (p : Option Picture) → not (is_some (option_and_then kind_of p)) ≡ false → length (initial_by value p) ≡ size_at p
length_initial-by value None kind = absurd cc
length_initial-by value (Some (Text size)) kind = length-fitted size _
length_initial-by value (Some (Number digits places signed)) kind = length-chars_of digits _ signed _
length_initial-by value (Some (Edited symbols)) kind = absurd cc

length_initial-at : (text : List ℕ) (value : Option Literal) (token : Option Token) → (is_some token && not (is_some (option_and_then kind_of (picture_at text token)))) ≡ false
    → length (initial_by value (picture_at text token)) ≡ size_at (picture_at text token)
length_initial-at text value None kind = refl
length_initial-at text value (Some token) kind = length_initial-by value (picture_of (spelling text token)) kind

-- an item begins with as many characters as it has
pub length-initial : (text : List ℕ) (e : Entry) → Good text e → length (initial text e) ≡ e.size
length-initial text e good = length_initial-at text (option_and_then (literal_of text) e.clauses.value) e.clauses.picture good.kind ∙ sym good.size

pub length-repeat : (n : ℕ) (xs : List ℕ) → length (repeat n xs) ≡ n * length xs
length-repeat zero xs = omega arith
length-repeat (suc n) xs = omega (arith, length-append xs (repeat n xs), length-repeat n xs)

-- one occurrence has as many characters as it says
pub length-one : (text : List ℕ) (e : Entry) (ms : Forest) → Good text e → length (chars_in text ms) ≡ size_in ms → length (initial text e ++ chars_in text ms) ≡ e.size + size_in ms
length-one text e ms good is = omega (arith, length-append (initial text e) (chars_in text ms), length-initial text e good, is)

-- trees have as many characters as they say
pub length-chars : (text : List ℕ) (f : Forest) → AllIn (Good text) f → length (chars_in text f) ≡ size_in f
length-chars text Empty all = refl
length-chars text (Node e ms r) all =
    length-append (repeat (times e) (initial text e ++ chars_in text ms)) (chars_in text r)
    ∙ ap (λ n. n + length (chars_in text r)) (length-repeat (times e) (initial text e ++ chars_in text ms) ∙ ap (λ n. times e * n) (length-one text e ms all.0 (length-chars text ms all.1)))
    ∙ ap (λ n. times e * (e.size + size_in ms) + n) (length-chars text r all.2)

-- all occurrences have as many characters as they say
pub length-occurrences : (text : List ℕ) (i k : ℕ) (e : Entry) (ms : Forest) → Good text e → AllIn (Good text) ms
    → length (joined (occurrences (cells_of text i e ms) (first_occurrence e.occurs k) (times e))) ≡ times e * (e.size + size_in ms)
length-occurrences text i k e ms good all =
    ap length (joined-occurrences (cells_of text i e ms) (initial text e ++ chars_in text ms) (λ j. joined-cells_of text i j e ms (joined-cells text (i + 1) j ms)) (first_occurrence e.occurs k) (times e))
    ∙ length-repeat (times e) (initial text e ++ chars_in text ms) ∙ ap (λ n. times e * n) (length-one text e ms good (length-chars text ms all))

pub length-cells_of : (text : List ℕ) (i k : ℕ) (e : Entry) (ms : Forest) → Good text e → AllIn (Good text) ms → length (joined (cells_of text i e ms k)) ≡ e.size + size_in ms
length-cells_of text i k e ms good all = ap length (joined-cells_of text i k e ms (joined-cells text (i + 1) k ms)) ∙ length-one text e ms good (length-chars text ms all)
