-- Each server of the bank that replies changes the sum of the balances as its request says.
use Rattle.std.proofs.Common.{◌≡◌, ℕ, zero, suc, List, [], ◌∷◌, refl, sym, ap, ◌∙◌, subst, arith}
use Rattle.std.specs.Prelude.{codes}
use Rattle.pw_bank_laws.proofs.Account.{account-meets, account_sizes, message_amount, record_with}
use Rattle.pw_bank_laws.proofs.Formed.{files-formed, posting-formed}
use Rattle.pw_bank_laws.proofs.Posts.{Posts, is-there, posts, refuses, skips}
use Rattle.pw_bank_laws.proofs.Read.{account-items, account-paragraphs, total-items, total-paragraphs}
use Rattle.pw_bank_laws.proofs.Told.{Tells, posting-tells}
use Rattle.pw_bank_laws.proofs.Total.{total-meets, total_sizes}
use Rattle.pw_bank_laws.proofs.Trees.{account_program, total_program}
use Rattle.pw_bank_laws.specs.Accounts.{AreAccounts}
use Rattle.pw_bank_laws.specs.Balances.{posted, sum_of_balances}
use Rattle.pw_bank_laws.specs.Servers.{BankChoices, account_data, server_of, total_data, whole_bank}
use Rattle.pw_bank_laws.specs.Statements.{untold}
use Rattle.pw_code.specs.declared.lock.LockRule.{LockRule}
use Rattle.pw_data.specs.Layouts.{Laid}
use Rattle.pw_files.specs.Records.{IsFile}
use Rattle.pw_forms.specs.declared.statement.Paragraph.{Paragraph}
use Rattle.pw_invariants.specs.Bank.{account_text, paragraphs_in, total_text}
use Rattle.pw_invariants.specs.Invariants.{stepped}
use Rattle.pw_invariants.specs.Requests.{ServersStep}
use Rattle.pw_invariants.specs.Servers.{ServersKeep}
use Rattle.pw_invariants.specs.Units.{FileRecords}
use Rattle.pw_onecopy.specs.Behaviour.{Reply}
use Rattle.pw_program_laws.proofs.Servers.{program-replies}
use Rattle.pw_program_laws.specs.Meets.{ServerMeets}
use Rattle.pw_program_laws.specs.Texts.{HaveSizes, texts_in}
use Rattle.pw_tree_meaning.specs.OfDeck.{behaviour}
use Rattle.pw_tree_meaning.specs.Program.{Program}
use Rattle.pw_tree_meaning.specs.Runs.{served_alone}
use Rattle.pw_tree_meaning.specs.Store.{initial_store}

-- the servers by their texts and as they are read
account-is : record (server_of (codes "ACCOUNT-P") account_data) { paragraphs = paragraphs_in account_text } ≡ account_program
account-is =
    ap (λ (layout : Laid). record account_program { layout = layout; paragraphs = paragraphs_in account_text }) account-items
    ∙ ap (λ (paragraphs : List Paragraph). record account_program { paragraphs = paragraphs }) account-paragraphs

total-is : record (server_of (codes "TOTAL-P") total_data) { paragraphs = paragraphs_in total_text } ≡ total_program
total-is =
    ap (λ (layout : Laid). record total_program { layout = layout; paragraphs = paragraphs_in total_text }) total-items
    ∙ ap (λ (paragraphs : List Paragraph). record total_program { paragraphs = paragraphs }) total-paragraphs

-- each server starts with items of these sizes
account-sized : HaveSizes account_sizes (texts_in (initial_store account_program))
account-sized = (refl, (refl, (refl, (refl, (refl, (refl, (refl, (refl, (refl, (refl, (refl, (refl, (refl, (refl, (refl, (refl, tt))))))))))))))))

total-sized : HaveSizes total_sizes (texts_in (initial_store total_program))
total-sized = (refl, (refl, (refl, (refl, (refl, tt)))))

module _ (bank : BankChoices) where
  account-steps : (message reply : List ℕ) (records left : FileRecords) → IsFile 4 (records 0)
      → served_alone (whole_bank bank) 0 message records ≡ Reply reply left → Posts message records 0 reply left
  account-steps message reply records left file is =
      let Sized : Program → Type 0 = λ program. HaveSizes account_sizes (texts_in (initial_store program)) in
      let Met : Program → Type 0 = λ program. ServerMeets (whole_bank bank) program account_sizes message (Posts message records 0) records in
      program-replies (whole_bank bank) (record (server_of (codes "ACCOUNT-P") account_data) { paragraphs = paragraphs_in account_text }) account_sizes message (Posts message records 0) records
      (subst Sized (sym account-is) account-sized)
      (subst Met (sym account-is)
      (account-meets bank message (Posts message records 0) records (refuses message records) (skips message records) (is-there message records)
      (λ content chars more reply yes_p found kept counted fresh zero_code. posts message records file _ content chars more reply yes_p found kept zero_code)))
      reply left is

  total-steps : (message reply : List ℕ) (records left : FileRecords)
      → served_alone (whole_bank bank) 1 message records ≡ Reply reply left → Posts message records 1 reply left
  total-steps message reply records left is =
      let Sized : Program → Type 0 = λ program. HaveSizes total_sizes (texts_in (initial_store program)) in
      let Met : Program → Type 0 = λ program. ServerMeets (whole_bank bank) program total_sizes message (Posts message records 1) records in
      program-replies (whole_bank bank) (record (server_of (codes "TOTAL-P") total_data) { paragraphs = paragraphs_in total_text }) total_sizes message (Posts message records 1) records
      (subst Sized (sym total-is) total-sized)
      (subst Met (sym total-is) (total-meets bank message (Posts message records 1) records (λ reply. refl)))
      reply left is

  pub bank-steps : (rule : LockRule) → ServersStep (behaviour rule (whole_bank bank)) (λ records. Unit {0}) sum_of_balances posted
  bank-steps rule zero message reply records left known are is holds = account-steps message reply records left (are 0) is
  bank-steps rule (suc zero) message reply records left known are is holds = total-steps message reply records left is
  bank-steps rule (suc (suc c)) message reply records left known are is holds = absurd (omega (arith, known))

-- ---- statements

module _ (bank : BankChoices) (account : List ℕ) where
  account-tells : (message reply : List ℕ) (records left : FileRecords) → served_alone (whole_bank bank) 0 message records ≡ Reply reply left → Tells account message records left
  account-tells message reply records left is =
      let Replies : List ℕ → FileRecords → Type 0 = λ reply left. Tells account message records left in
      let Sized : Program → Type 0 = λ program. HaveSizes account_sizes (texts_in (initial_store program)) in
      let Met : Program → Type 0 = λ program. ServerMeets (whole_bank bank) program account_sizes message Replies records in
      program-replies (whole_bank bank) (record (server_of (codes "ACCOUNT-P") account_data) { paragraphs = paragraphs_in account_text }) account_sizes message Replies records
      (subst Sized (sym account-is) account-sized)
      (subst Met (sym account-is)
      (account-meets bank message Replies records (λ reply other_code. refl) (λ no_p reply. refl) (is-there message records)
      (λ content chars more reply yes_p found kept counted fresh zero_code. posting-tells account message records content chars more found kept fresh)))
      reply left is

  total-tells : (message reply : List ℕ) (records left : FileRecords) → served_alone (whole_bank bank) 1 message records ≡ Reply reply left → Tells account message records left
  total-tells message reply records left is =
      let Replies : List ℕ → FileRecords → Type 0 = λ reply left. Tells account message records left in
      let Sized : Program → Type 0 = λ program. HaveSizes total_sizes (texts_in (initial_store program)) in
      let Met : Program → Type 0 = λ program. ServerMeets (whole_bank bank) program total_sizes message Replies records in
      program-replies (whole_bank bank) (record (server_of (codes "TOTAL-P") total_data) { paragraphs = paragraphs_in total_text }) total_sizes message Replies records
      (subst Sized (sym total-is) total-sized)
      (subst Met (sym total-is) (total-meets bank message Replies records (λ reply. refl)))
      reply left is

  -- no server leaves more untold
  pub bank-tells : (rule : LockRule) → ServersStep (behaviour rule (whole_bank bank)) (λ records. Unit {0}) (untold account) (λ value request. value)
  bank-tells rule zero message reply records left known are is holds = account-tells message reply records left is
  bank-tells rule (suc zero) message reply records left known are is holds = total-tells message reply records left is
  bank-tells rule (suc (suc c)) message reply records left known are is holds = absurd (omega (arith, known))

-- steps that change nothing
pub stays : {A B : Type 0} (value : A) (all : List B) → stepped (λ v one. v) value all ≡ value
stays value [] = refl
stays value (one ∷ rest) = stays value rest

-- ---- the form of accounts

module _ (bank : BankChoices) where
  account-forms : (message reply : List ℕ) (records left : FileRecords) → AreAccounts records → served_alone (whole_bank bank) 0 message records ≡ Reply reply left → AreAccounts left
  account-forms message reply records left formed is =
      let Replies : List ℕ → FileRecords → Type 0 = λ reply left. AreAccounts left in
      let Sized : Program → Type 0 = λ program. HaveSizes account_sizes (texts_in (initial_store program)) in
      let Met : Program → Type 0 = λ program. ServerMeets (whole_bank bank) program account_sizes message Replies records in
      program-replies (whole_bank bank) (record (server_of (codes "ACCOUNT-P") account_data) { paragraphs = paragraphs_in account_text }) account_sizes message Replies records
      (subst Sized (sym account-is) account-sized)
      (subst Met (sym account-is)
      (account-meets bank message Replies records (λ reply other_code. formed) (λ no_p reply. formed) (is-there message records)
      (λ content chars more reply yes_p found kept counted fresh zero_code.
      files-formed records _ (record_with content chars more) formed (posting-formed content chars more (message_amount message) kept counted))))
      reply left is

  total-forms : (message reply : List ℕ) (records left : FileRecords) → AreAccounts records → served_alone (whole_bank bank) 1 message records ≡ Reply reply left → AreAccounts left
  total-forms message reply records left formed is =
      let Replies : List ℕ → FileRecords → Type 0 = λ reply left. AreAccounts left in
      let Sized : Program → Type 0 = λ program. HaveSizes total_sizes (texts_in (initial_store program)) in
      let Met : Program → Type 0 = λ program. ServerMeets (whole_bank bank) program total_sizes message Replies records in
      program-replies (whole_bank bank) (record (server_of (codes "TOTAL-P") total_data) { paragraphs = paragraphs_in total_text }) total_sizes message Replies records
      (subst Sized (sym total-is) total-sized)
      (subst Met (sym total-is) (total-meets bank message Replies records (λ reply. formed)))
      reply left is

  -- each server keeps the form
  pub bank-forms : (rule : LockRule) → ServersKeep (behaviour rule (whole_bank bank)) AreAccounts
  bank-forms rule zero message reply records left known are is formed = account-forms message reply records left formed is
  bank-forms rule (suc zero) message reply records left known are is formed = total-forms message reply records left formed is
  bank-forms rule (suc (suc c)) message reply records left known are is formed = absurd (omega (arith, known))
