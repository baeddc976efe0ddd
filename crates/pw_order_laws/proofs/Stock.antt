-- What STOCK-P's statements have to meet, and that they do.
use Rattle.std.proofs.Common.{◌≡◌, ℕ, Bool, true, false, List, [], ◌∷◌, ◌++◌, take, drop, Some, refl}
use Rattle.std.specs.Prelude.{bytes_eq, codes}
use Rattle.std.specs.Ordering.{is_gt}
use Rattle.std.proofs.lemmas.Bool.{false≢true, true≢false}
use Rattle.pw_files.specs.Records.{has_key, record_at, with_record}
use Rattle.pw_invariants.specs.Units.{FileRecords}
use Rattle.pw_number.specs.Arithmetic.{sized, sum}
use Rattle.pw_onecopy.specs.Update.{upd}
use Rattle.pw_order_laws.proofs.Trees.{stock_program}
use Rattle.pw_order_laws.specs.Servers.{OrderChoices, order_deck}
use Rattle.pw_picture.specs.declared.picture.Picture.{Picture}
use Rattle.pw_picture.specs.declared.picture.Picture.TheVariants.{Number as NumberPicture}
use Rattle.pw_picture.specs.Stored.{read_of}
use Rattle.pw_picture.specs.Text.{fitted}
use Rattle.pw_program_laws.specs.Meets.{ServerMeets, received}
use Rattle.pw_tree_meaning.specs.Conditions.{compared}
use Rattle.pw_tree_meaning.specs.Values.{Chars, Number'}

-- the sizes of the items of STOCK-P
abbrev pub stock_sizes : List ℕ
stock_sizes = 4 ∷ 4 ∷ 4 ∷ 6 ∷ 5 ∷ 5 ∷ 4 ∷ 6 ∷ []

-- five digits of pieces, and three behind a sign of a change
abbrev pub five : Picture
five = NumberPicture 5 0 false

abbrev pub three : Picture
three = NumberPicture 3 0 true

-- the test of K-CHANGE: pieces are delivered
abbrev pub is_delivery : List ℕ → Bool
is_delivery change = is_gt (compared (Chars (Some three) change) (Number' (codes "0")))

-- the items of the message
abbrev pub message_item : List ℕ → List ℕ
message_item message = fitted 4 (fitted 8 message)

abbrev pub message_change : List ℕ → List ℕ
message_change message = fitted 4 (drop 4 (fitted 8 message))

-- the pieces in stock and those delivered, as they are read from a record
abbrev pub stock_read : List ℕ → List ℕ
stock_read content = fitted 5 (drop 6 (drop 4 (fitted 20 content)))

abbrev pub delivered_read : List ℕ → List ℕ
delivered_read content = fitted 5 (drop 5 (drop 6 (drop 4 (fitted 20 content))))

-- the record with other pieces
abbrev pub stock_with : List ℕ → List ℕ → List ℕ → List ℕ
stock_with content stock delivered =
    fitted 4 (fitted 20 content) ++ (fitted 6 (drop 4 (fitted 20 content)) ++ (stock ++ delivered))

-- the change is added to what is read
abbrev pub Added : List ℕ → List ℕ → List ℕ → Type 0
Added read change chars = received (Some five) (sized (sum (read_of five read) (read_of three change))) ≡ Some chars

-- the files with a record of STOCK
abbrev pub stocked : FileRecords → List ℕ → FileRecords
stocked files record_of_stock = upd files 0 (with_record 4 (files 0) record_of_stock)

pub stock-meets : (choices : OrderChoices) (message : List ℕ) (replies : List ℕ → FileRecords → Type 0) (files : FileRecords)
    → ((reply : List ℕ) → bytes_eq (take 4 reply) (codes "0000") ≡ false → replies reply files)
    → ((content stock delivered : List ℕ) → record_at 4 (files 0) (message_item message) ≡ Some content
    → has_key 4 (files 0) (take 4 (stock_with content stock delivered)) ≡ false → ⊥)
    → ((content chars reply : List ℕ) → record_at 4 (files 0) (message_item message) ≡ Some content
    → Added (stock_read content) (message_change message) chars → is_delivery (message_change message) ≡ false → take 4 reply ≡ codes "0000"
    → replies reply (stocked files (stock_with content (fitted 5 chars) (delivered_read content))))
    → ((content chars more reply : List ℕ) → record_at 4 (files 0) (message_item message) ≡ Some content
    → Added (stock_read content) (message_change message) chars → is_delivery (message_change message) ≡ true
    → Added (delivered_read content) (message_change message) more → take 4 reply ≡ codes "0000"
    → replies reply (stocked files (stock_with content (fitted 5 chars) (fitted 5 more))))
    → ServerMeets (order_deck choices) stock_program stock_sizes message replies files
stock-meets choices message replies files refuse there takes delivers = (
  λ none. (λ x. refuse _ refl, λ x. absurd (true≢false x)),
  λ content is. (
    λ x. absurd (false≢true x),
    λ x. (
      λ y. refuse _ refl,
      λ y. (
        λ e. (
          λ d. (
            λ g. (λ z. absurd (false≢true z), λ z. refuse _ refl),
            λ more g. (λ z. absurd (false≢true z), λ z. refuse _ refl),
          ),
          λ d. (λ z. absurd (false≢true z), λ z. refuse _ refl),
        ),
        λ chars e. (
          λ d. (
            λ g. (λ z. absurd (false≢true z), λ z. refuse _ refl),
            λ more g. (
              λ z. (λ h. delivers content chars more _ is e d g refl, λ h. absurd (there content (fitted 5 chars) (fitted 5 more) is h)),
              λ z. absurd (true≢false z),
            ),
          ),
          λ d. (
            λ z. (λ h. takes content chars _ is e d refl, λ h. absurd (there content (fitted 5 chars) (delivered_read content) is h)),
            λ z. absurd (true≢false z),
          ),
        ),
      ),
    ),
  ),
)
