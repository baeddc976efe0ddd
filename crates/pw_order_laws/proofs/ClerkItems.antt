-- The items of ORDERS, and the tests of them.
use Rattle.std.proofs.Common.{◌≡◌, ℕ, Bool, true, false, not, List, [], ◌∷◌, Some, pos, sym, ap, ◌∙◌}
use Rattle.std.specs.Prelude.{codes}
use Rattle.std.specs.Ordering.{int_cmp, is_eq, is_gt}
use Rattle.std.proofs.lemmas.Bool.{false≢true, true≢false}
use Rattle.pw_picture.specs.Stored.{value_of}
use Rattle.pw_picture.specs.declared.picture.Picture.TheVariants.{Number as NumberPicture, Text as TextPicture}
use Rattle.pw_program_laws.proofs.Amounts.{not-above, times-one}
use Rattle.pw_tree_meaning.specs.Conditions.{compared}
use Rattle.pw_tree_meaning.specs.Program.{DeckModel}
use Rattle.pw_tree_meaning.specs.Values.{Chars, Number', Spaces'}

-- the sizes of the items of ORDERS
abbrev pub clerk_sizes : List ℕ
clerk_sizes = 1 ∷ 40 ∷ 4 ∷ 3 ∷ 4 ∷ 3 ∷ 1 ∷ 3 ∷ 8 ∷ 4 ∷ 3 ∷ 4 ∷ 3 ∷ 8 ∷ 4 ∷ 4 ∷ 4 ∷ 4 ∷ 4 ∷ 6 ∷ 9 ∷ 8 ∷ 8 ∷ 1 ∷ []

-- the tests of MESSAGE, and of the pieces of a line
abbrev pub is_blank : List ℕ → Bool
is_blank message = is_eq (compared (Chars (Some (TextPicture 40)) message) Spaces')

abbrev pub has_pieces : List ℕ → Bool
has_pieces qty = is_gt (compared (Chars (Some (NumberPicture 3 0 false)) qty) (Number' (codes "0")))

pub no-pieces : (qty : List ℕ) → has_pieces qty ≡ false → value_of 0 qty ≡ 0
no-pieces qty e = not-above (value_of 0 qty) (sym (ap (λ z. is_gt (int_cmp z (pos 0))) (times-one (pos (value_of 0 qty)))) ∙ e)

pub both : (b : Bool) → b ≡ true → not b ≡ true → ⊥
both true e f = absurd (false≢true f)
both false e f = absurd (false≢true e)

pub neither : (b : Bool) → b ≡ false → not b ≡ false → ⊥
neither true e f = absurd (true≢false e)
neither false e f = absurd (true≢false f)

pub by-some : (one other : List ℕ) → Some one ≡ Some other → one ≡ other
by-some one other e = cc

-- the two lines by whether it is the second: I at it, and behind it
abbrev pub digit : Bool → List ℕ
digit false = codes "1"
digit true = codes "2"

abbrev pub digit_behind : Bool → List ℕ
digit_behind false = codes "2"
digit_behind true = codes "3"

-- a deck with the classes of the order entry
abbrev pub with_classes : DeckModel → ℕ → ℕ → DeckModel
with_classes rest stock_processes order_processes = record rest {
  classes = (record { name = codes "STOCK-SRV"; server = 0; processes = stock_processes })
      ∷ (record { name = codes "ORDER-SRV"; server = 1; processes = order_processes }) ∷ [];
}
