-- What ORDER-P's statements have to meet, and that they do.
use Rattle.std.proofs.Common.{◌≡◌, ℕ, false, List, [], ◌∷◌, ◌++◌, take, drop, Some, refl}
use Rattle.std.specs.Prelude.{bytes_eq, codes}
use Rattle.std.proofs.lemmas.Bool.{false≢true, true≢false}
use Rattle.pw_files.specs.Records.{has_key, record_at, with_record}
use Rattle.pw_invariants.specs.Units.{FileRecords}
use Rattle.pw_number.specs.Arithmetic.{sized}
use Rattle.pw_onecopy.specs.Update.{upd}
use Rattle.pw_order_laws.proofs.Numbers.{control_with, four, next_of}
use Rattle.pw_order_laws.proofs.Trees.{order_program}
use Rattle.pw_order_laws.specs.Servers.{OrderChoices, order_deck}
use Rattle.pw_picture.specs.Stored.{moved, read_of}
use Rattle.pw_picture.specs.Text.{fitted}
use Rattle.pw_program_laws.proofs.Parts.{not-there}
use Rattle.pw_program_laws.specs.Meets.{ServerMeets, received}

-- the sizes of the items of ORDER-P
abbrev pub order_sizes : List ℕ
order_sizes = 4 ∷ 30 ∷ 4 ∷ 4 ∷ 4 ∷ 4 ∷ []

-- the number that is read of CONTROL
abbrev pub control_digits : List ℕ → List ℕ
control_digits content = fitted 4 (drop 4 (fitted 8 content))

-- an order with a number
abbrev pub order_with : List ℕ → List ℕ → List ℕ
order_with message number = fitted 4 (moved four (read_of four (fitted 4 number))) ++ fitted 30 (fitted 30 message)

-- the files with an order and then a record of CONTROL
abbrev pub files_with : FileRecords → List ℕ → List ℕ → FileRecords
files_with files order control =
    let written = upd files 2 (with_record 4 (files 2) order) in
    upd written 1 (with_record 4 (written 1) control)

pub order-meets : (choices : OrderChoices) (message : List ℕ) (replies : List ℕ → FileRecords → Type 0) (files : FileRecords)
    → ((reply : List ℕ) → bytes_eq (take 4 reply) (codes "0000") ≡ false → replies reply files)
    → ((order content number : List ℕ) → record_at 4 (files 1) (codes "LAST") ≡ Some content
    → has_key 4 (upd files 2 (with_record 4 (files 2) order) 1) (take 4 (control_with content number)) ≡ false → ⊥)
    → ((content number reply : List ℕ) → record_at 4 (files 1) (codes "LAST") ≡ Some content
    → received (Some four) (sized (next_of (control_digits content))) ≡ Some number
    → has_key 4 (files 2) (take 4 (order_with message number)) ≡ false → take 4 reply ≡ codes "0000"
    → replies reply (files_with files (order_with message number) (control_with content number)))
    → ServerMeets (order_deck choices) order_program order_sizes message replies files
order-meets choices message replies files refuse there numbered = (
  λ none. (
    λ x. (λ e. (λ u. absurd (false≢true u), λ u. refuse _ refl), λ number e. (λ u. absurd (false≢true u), λ u. refuse _ refl)),
    λ x. absurd (true≢false x),
  ),
  λ content is. (
    λ x. absurd (false≢true x),
    λ x. (
      λ e. (λ u. absurd (false≢true u), λ u. refuse _ refl),
      λ number e. (
        λ u. (
          λ w. (
            λ v. (
              λ h. numbered content number _ is e (not-there _ w) refl,
              λ h. absurd (there (order_with message number) content number is h),
            ),
            λ v. absurd (true≢false v),
          ),
          λ w. (λ v. absurd (false≢true v), λ v. refuse _ refl),
        ),
        λ u. absurd (true≢false u),
      ),
    ),
  ),
)
