-- What ACCOUNT-P's statements have to meet, and that they do.
use Rattle.std.proofs.Common.{◌≡◌, ℕ, Bool, true, false, List, [], ◌∷◌, ◌++◌, take, drop, Some, refl, pos}
use Rattle.std.specs.Prelude.{bytes_eq, codes}
use Rattle.std.specs.Ordering.{is_eq}
use Rattle.std.proofs.lemmas.Bool.{false≢true, true≢false}
use Rattle.pw_bank_laws.proofs.Numbers.{nine, seven, three}
use Rattle.pw_bank_laws.proofs.Trees.{account_behind, account_open, account_program, account_work}
use Rattle.pw_bank_laws.specs.Servers.{BankChoices, whole_bank}
use Rattle.pw_files.specs.Records.{has_key, record_at, with_record}
use Rattle.pw_forms.specs.declared.statement.Statement.{Statement}
use Rattle.pw_invariants.specs.Units.{FileRecords}
use Rattle.pw_number.specs.Arithmetic.{sized, sum}
use Rattle.pw_number.specs.Number.{number}
use Rattle.pw_onecopy.specs.Update.{upd}
use Rattle.pw_picture.specs.declared.picture.Picture.TheVariants.{Text as TextPicture}
use Rattle.pw_picture.specs.Stored.{moved, read_of}
use Rattle.pw_picture.specs.Text.{fitted}
use Rattle.pw_program_laws.proofs.Parts.{not-there}
use Rattle.pw_program_laws.specs.Known.{KnownMoment}
use Rattle.pw_program_laws.specs.Meets.{BodyMeets, FlowMeets, PerformMeets, ServerMeets, received}
use Rattle.pw_tree_meaning.specs.Conditions.{compared}
use Rattle.pw_tree_meaning.specs.Runs.{most_performs}
use Rattle.pw_tree_meaning.specs.State.{no_registers}
use Rattle.pw_tree_meaning.specs.Values.{Chars, Text'}

-- the sizes of the items of ACCOUNT-P
abbrev pub account_sizes : List ℕ
account_sizes = 1 ∷ 4 ∷ 4 ∷ 8 ∷ 4 ∷ 11 ∷ 9 ∷ 3 ∷ 4 ∷ 3 ∷ 4 ∷ 8 ∷ 4 ∷ 15 ∷ 9 ∷ 8 ∷ []

-- the test of P-OP
abbrev pub is_p : List ℕ → Bool
is_p op = is_eq (compared (Chars (Some (TextPicture 1)) op) (Text' (codes "P")))

-- the items of the message
abbrev pub message_op : List ℕ → List ℕ
message_op message = fitted 1 (fitted 17 message)

abbrev pub message_account : List ℕ → List ℕ
message_account message = fitted 4 (drop 1 (fitted 17 message))

abbrev pub message_other : List ℕ → List ℕ
message_other message = fitted 4 (drop 4 (drop 1 (fitted 17 message)))

abbrev pub message_amount : List ℕ → List ℕ
message_amount message = fitted 8 (drop 4 (drop 4 (drop 1 (fitted 17 message))))

-- the owner of an account with number, the balance, and the number of lines, as they are read from a record
abbrev pub who_in : List ℕ → List ℕ
who_in content = fitted 4 (fitted 27 content)

abbrev pub owner_in : List ℕ → List ℕ
owner_in content = fitted 11 (drop 4 (fitted 27 content))

abbrev pub digits_in : List ℕ → List ℕ
digits_in content = fitted 9 (drop 11 (drop 4 (fitted 27 content)))

abbrev pub lines_in : List ℕ → List ℕ
lines_in content = fitted 3 (drop 9 (drop 11 (drop 4 (fitted 27 content))))

-- the record with another balance and number of lines
abbrev pub record_with : List ℕ → List ℕ → List ℕ → List ℕ
record_with content chars lines = who_in content ++ (owner_in content ++ (fitted 9 chars ++ fitted 3 lines))

-- the line of a statement that tells a posting, with so many lines before it
abbrev pub line_with : List ℕ → List ℕ → List ℕ → List ℕ → List ℕ
line_with content lines other amount =
    fitted 4 (fitted 4 (who_in content))
    ++ (fitted 3 (moved three (read_of three (fitted 3 lines))) ++ (fitted 4 (fitted 4 other) ++ fitted 8 (moved seven (read_of seven amount))))

-- the files with a line and then a record
abbrev pub files_with : FileRecords → List (List ℕ) → List ℕ → FileRecords
files_with files lines content =
    let written = upd files 1 lines in
    upd written 0 (with_record 4 (written 0) content)

module _ (bank : BankChoices) (message : List ℕ) (replies : List ℕ → FileRecords → Type 0) where
  -- statements of MAIN, and what is behind it, have to be met
  abbrev MainMeets : List Statement → KnownMoment → Type 0
  MainMeets statements k =
      BodyMeets (whole_bank bank) account_program account_sizes message replies (PerformMeets (whole_bank bank) account_program account_sizes message replies most_performs) statements
      (FlowMeets (whole_bank bank) account_program account_sizes message replies (PerformMeets (whole_bank bank) account_program account_sizes message replies most_performs) account_behind) k

  module _ (files : FileRecords) (op account other amount : List ℕ)
      (refuse : (reply : List ℕ) → bytes_eq (take 4 reply) (codes "0000") ≡ false → replies reply files)
      (skip : is_p op ≡ false → (reply : List ℕ) → replies reply files)
      (there : (lines : List (List ℕ)) (content chars more : List ℕ) → record_at 4 (files 0) account ≡ Some content
      → has_key 4 (upd files 1 lines 0) (take 4 (record_with content chars more)) ≡ false → ⊥)
      (post : (content chars more reply : List ℕ) → is_p op ≡ true → record_at 4 (files 0) account ≡ Some content
      → received (Some nine) (sized (sum (read_of nine (digits_in content)) (read_of seven amount))) ≡ Some chars
      → received (Some three) (sized (sum (read_of three (lines_in content)) (number (pos 1) 0))) ≡ Some more
      → has_key 7 (files 1) (take 7 (line_with content more other amount)) ≡ false
      → take 4 reply ≡ codes "0000"
      → replies reply (files_with files (with_record 7 (files 1) (line_with content more other amount)) (record_with content chars more)))
      (i j k l n o p : List ℕ) where
    -- no record of the account
    work-missing : (e f g h : List ℕ)
        → MainMeets account_work (record {
          texts = op ∷ account ∷ other ∷ amount ∷ e ∷ f ∷ g ∷ h ∷ i ∷ j ∷ k ∷ l ∷ codes "0000" ∷ n ∷ o ∷ p ∷ [];
          registers = record { termination = 0; restarts = 0; file_status = 11 };
          files = files;
        })
    work-missing e f g h = (λ t. refuse _ refl, λ t. absurd (true≢false t))

    -- a record: a posting, or an inquiry
    work-found : (content : List ℕ) → record_at 4 (files 0) account ≡ Some content
        → MainMeets account_work (record {
          texts = op ∷ account ∷ other ∷ amount ∷ who_in content ∷ owner_in content ∷ digits_in content ∷ lines_in content
              ∷ i ∷ j ∷ k ∷ l ∷ codes "0000" ∷ n ∷ o ∷ p ∷ [];
          registers = record { termination = 0; restarts = 0; file_status = 0 };
          files = files;
        })
    work-found content is = (
      λ t. absurd (false≢true t),
      λ t. (
        λ yes_p. (
          λ e. (
            λ f. (
              λ g. (λ u. absurd (false≢true u), λ u. refuse _ refl),
              λ more g. (λ u. absurd (false≢true u), λ u. refuse _ refl),
            ),
            λ f. (
              λ g. (λ u. absurd (false≢true u), λ u. refuse _ refl),
              λ more g. (λ u. absurd (false≢true u), λ u. refuse _ refl),
            ),
          ),
          λ chars e. (
            λ g. (λ u. absurd (false≢true u), λ u. refuse _ refl),
            λ more g. (
              λ u. (
                λ w. (
                  λ v. (
                    λ h. post content chars more _ yes_p is e g (not-there _ w) refl,
                    λ h. absurd (there _ content chars more is h),
                  ),
                  λ v. absurd (true≢false v),
                ),
                λ w. (λ v. absurd (false≢true v), λ v. refuse _ refl),
              ),
              λ u. absurd (true≢false u),
            ),
          ),
        ),
        λ no_p. (λ none. skip no_p _, λ line found. skip no_p _),
      ),
    )

    -- behind the message
    account-known : (e f g h : List ℕ)
        → MainMeets account_open (record {
          texts = op ∷ account ∷ other ∷ amount ∷ e ∷ f ∷ g ∷ h ∷ i ∷ j ∷ k ∷ l ∷ codes "0000" ∷ n ∷ o ∷ p ∷ [];
          registers = no_registers;
          files = files;
        })
    account-known e f g h = (
      λ t. (λ none. work-missing e f g h, λ content is. work-found content is),
      λ t. (λ none. work-missing e f g h, λ content is. work-found content is),
    )

-- ---- the whole server

module _ (bank : BankChoices) (message : List ℕ) (replies : List ℕ → FileRecords → Type 0) (files : FileRecords) where
  pub account-meets :
      ((reply : List ℕ) → bytes_eq (take 4 reply) (codes "0000") ≡ false → replies reply files)
      → (is_p (message_op message) ≡ false → (reply : List ℕ) → replies reply files)
      → ((lines : List (List ℕ)) (content chars more : List ℕ) → record_at 4 (files 0) (message_account message) ≡ Some content
      → has_key 4 (upd files 1 lines 0) (take 4 (record_with content chars more)) ≡ false → ⊥)
      → ((content chars more reply : List ℕ) → is_p (message_op message) ≡ true → record_at 4 (files 0) (message_account message) ≡ Some content
      → received (Some nine) (sized (sum (read_of nine (digits_in content)) (read_of seven (message_amount message)))) ≡ Some chars
      → received (Some three) (sized (sum (read_of three (lines_in content)) (number (pos 1) 0))) ≡ Some more
      → has_key 7 (files 1) (take 7 (line_with content more (message_other message) (message_amount message))) ≡ false
      → take 4 reply ≡ codes "0000"
      → replies reply
      (files_with files (with_record 7 (files 1) (line_with content more (message_other message) (message_amount message))) (record_with content chars more)))
      → ServerMeets (whole_bank bank) account_program account_sizes message replies files
  account-meets refuse skip there post =
      account-known bank message replies files (message_op message) (message_account message) (message_other message) (message_amount message) refuse skip there post
      (codes "    ") (codes "000") (codes "    ") (codes "+0000000") (codes "               ") (codes "000000000") (codes "+0000000")
      (codes "    ") (codes "           ") (codes "000000000") (codes "000")
