-- Each server of the order entry leaves the orders numbered without a gap.
use Rattle.std.proofs.Common.{◌≡◌, ◌≢◌, ℕ, zero, suc, ◌+◌, ◌<◌, ◌≤◌, ◌^◌, Bool, true, false, List, [], take, Some, is_some, ◌⊎◌, inl, inr, ⊎_elim, refl, sym, ap, ◌∙◌, subst, arith}
use Rattle.std.specs.Prelude.{bytes_eq, codes}
use Rattle.std.proofs.lemmas.Bool.{cases_lt, true≢false}
use Rattle.pw_code.specs.declared.lock.LockRule.{LockRule}
use Rattle.pw_files.proofs.Lookups.{record_at-found, record_at-with_other, record_at-with_record}
use Rattle.pw_files.specs.Records.{has_key, record_at, with_record}
use Rattle.pw_invariants.specs.Servers.{ServersKeep}
use Rattle.pw_invariants.specs.Units.{FileRecords}
use Rattle.pw_number.specs.Arithmetic.{sized}
use Rattle.pw_onecopy.proofs.Update.{upd-other, upd-same}
use Rattle.pw_onecopy.specs.Behaviour.{Reply}
use Rattle.pw_onecopy.specs.Update.{upd}
use Rattle.pw_order_laws.proofs.Numbers.{control-key, control-number, control_with, four, moved-again, next-kept, next_of, read-number}
use Rattle.pw_order_laws.proofs.Order.{control_digits, files_with, order-meets, order_sizes, order_with}
use Rattle.pw_order_laws.proofs.Read.{order-is, stock-is}
use Rattle.pw_order_laws.proofs.Stock.{delivered_read, message_item, stock-meets, stock_sizes, stock_with}
use Rattle.pw_order_laws.proofs.Trees.{order_program, stock_program}
use Rattle.pw_order_laws.specs.Numbered.{IsNumbered, last_number, number_in_control}
use Rattle.pw_order_laws.specs.Servers.{OrderChoices, order_data, order_deck, order_text, stock_data, stock_text}
use Rattle.pw_picture.specs.Stored.{digits_of, moved, read_of, value_of}
use Rattle.pw_picture.specs.Text.{fitted}
use Rattle.pw_program_laws.proofs.Parts.{bytes-same, bytes-self, key-fitted, take-first}
use Rattle.pw_program_laws.proofs.Servers.{program-replies}
use Rattle.pw_program_laws.proofs.Texts.{length-fitted}
use Rattle.pw_program_laws.specs.Meets.{ServerMeets, received}
use Rattle.pw_program_laws.specs.Texts.{HaveSizes, texts_in}
use Rattle.pw_program_laws.specs.Totals.{counted_of}
use Rattle.pw_tree_meaning.specs.OfDeck.{behaviour}
use Rattle.pw_tree_meaning.specs.Program.{Program}
use Rattle.pw_tree_meaning.specs.Runs.{served_alone}
use Rattle.pw_tree_meaning.specs.Samples.{sample_program}
use Rattle.pw_tree_meaning.specs.Store.{initial_store}

-- ---- other files

-- the same of records of which CONTROL and ORDERS are the same
same-files : (records left : FileRecords) → left 1 ≡ records 1 → left 2 ≡ records 2 → IsNumbered records → IsNumbered left
same-files records left control orders now =
    let last : last_number left ≡ last_number records = ap (λ xs. counted_of number_in_control (record_at 4 xs (codes "LAST"))) control in
    record {
      each = λ n from to. ap (λ xs. has_key 4 xs (digits_of 4 n)) orders ∙ now.each n from (omega (arith, to, last));
      no_other = λ key there.
          let found = now.no_other key (sym (ap (λ xs. has_key 4 xs key) orders) ∙ there) in
          (found.0, found.1, omega (arith, found.2, last), found.3);
    }

pub differ : (a b : ℕ) → (a ≡ b → ⊥) → ◌≢◌ {A = ℕ} a b
differ a b no' = no'

-- ---- one order more

-- the files with an order
pub orders-written : (files : FileRecords) (order control : List ℕ) → files_with files order control 2 ≡ with_record 4 (files 2) order
orders-written files order control =
    upd-other (upd files 2 (with_record 4 (files 2) order)) 1 _ 2 (differ 2 1 (λ e. absurd cc))
    ∙ upd-same files 2 (with_record 4 (files 2) order) 2 refl

pub stock-stays : (files : FileRecords) (order control : List ℕ) → files_with files order control 0 ≡ files 0
stock-stays files order control =
    upd-other (upd files 2 (with_record 4 (files 2) order)) 1 _ 0 (differ 0 1 (λ e. absurd cc))
    ∙ upd-other files 2 (with_record 4 (files 2) order) 0 (differ 0 2 (λ e. absurd cc))

-- one text is another, or not
one-or-other : (xs ys : List ℕ) → (xs ≡ ys) ⊎ (xs ≡ ys → ⊥)
one-or-other xs ys = by (bytes_eq xs ys) refl
  where
    by : (b : Bool) → bytes_eq xs ys ≡ b → (xs ≡ ys) ⊎ (xs ≡ ys → ⊥)
    by true e = inl (bytes-same xs ys e)
    by false e = inr (λ same. true≢false (sym (bytes-self xs) ∙ ap (bytes_eq xs) same ∙ e))

module _ (records : FileRecords) (now : IsNumbered records) (content number message : List ℕ) (is : record_at 4 (records 1) (codes "LAST") ≡ Some content)
    (kept : received (Some four) (sized (next_of (control_digits content))) ≡ Some number) where
  abbrev order : List ℕ
  order = order_with message number

  abbrev control : List ℕ
  control = control_with content number

  abbrev left : FileRecords
  left = files_with records order control

  m : ℕ
  m = last_number records + 1

  last-is : last_number records ≡ number_in_control content
  last-is = ap (counted_of number_in_control) is

  next-is : (m < 10 ^ 4) × (number ≡ digits_of 4 m)
  unfolding m
  next-is =
      let next = next-kept (control_digits content) number kept in
      let value : value_of 0 (control_digits content) + 1 ≡ last_number records + 1 = ap (λ k. k + 1) (read-number content ∙ sym last-is) in
      (omega (arith, next.0, value), next.1 ∙ ap (digits_of 4) value)

  left-control : left 1 ≡ with_record 4 (records 1) control
  left-control =
      upd-same (upd records 2 (with_record 4 (records 2) order)) 1 _ 1 refl
      ∙ ap (λ xs. with_record 4 xs control) (upd-other records 2 (with_record 4 (records 2) order) 1 (differ 1 2 (λ e. absurd cc)))

  left-orders : left 2 ≡ with_record 4 (records 2) order
  left-orders = orders-written records order control

  left-last : last_number left ≡ m
  left-last =
      ap (λ xs. counted_of number_in_control (record_at 4 xs (codes "LAST"))) left-control
      ∙ ap (λ k. counted_of number_in_control (record_at 4 (with_record 4 (records 1) control) k)) (sym (control-key (records 1) (codes "LAST") content number refl is))
      ∙ ap (counted_of number_in_control) (record_at-with_record 4 (records 1) control)
      ∙ ap (λ xs. number_in_control (control_with content xs)) next-is.1
      ∙ control-number content m next-is.0

  order-key : take 4 order ≡ digits_of 4 m
  order-key =
      take-first 4 (fitted 4 (moved four (read_of four (fitted 4 number)))) (fitted 30 (fitted 30 message)) (length-fitted 4 (moved four (read_of four (fitted 4 number))))
      ∙ ap (λ xs. fitted 4 (moved four (read_of four (fitted 4 xs)))) next-is.1
      ∙ moved-again m next-is.0

  own-there : (key : List ℕ) → key ≡ digits_of 4 m → has_key 4 (left 2) key ≡ true
  own-there key e =
      ap (λ xs. has_key 4 xs key) left-orders
      ∙ ap (has_key 4 (with_record 4 (records 2) order)) (e ∙ sym order-key)
      ∙ ap is_some (record_at-with_record 4 (records 2) order)

  other-same : (key : List ℕ) → (key ≡ digits_of 4 m → ⊥) → has_key 4 (left 2) key ≡ has_key 4 (records 2) key
  other-same key ne =
      ap (λ xs. has_key 4 xs key) left-orders
      ∙ ap is_some (record_at-with_other 4 (records 2) order key (λ e. ne (e ∙ order-key)))

  below : (n : ℕ) → n ≤ last_number left → (digits_of 4 n ≡ digits_of 4 m → ⊥) → n ≤ last_number records
  unfolding m
  below n to ne =
      ⊎_elim
      (λ low. omega (arith, low))
      (λ high. let same : n ≡ last_number records + 1 = omega (arith, high, to, left-last) in absurd (ne (ap (digits_of 4) same)))
      (cases_lt n (last_number records + 1))

  pub numbered-more : IsNumbered left
  unfolding m
  numbered-more = record {
    each = λ n from to.
        ⊎_elim
        (λ e. own-there (digits_of 4 n) e)
        (λ ne. other-same (digits_of 4 n) ne ∙ now.each n from (below n to ne))
        (one-or-other (digits_of 4 n) (digits_of 4 m));
    no_other = λ key there.
        ⊎_elim
        (λ e. (m, omega arith, omega (arith, left-last), e))
        (λ ne. let found = now.no_other key (sym (other-same key ne) ∙ there) in (found.0, found.1, omega (arith, found.2, left-last), found.3))
        (one-or-other key (digits_of 4 m));
  }

-- CONTROL has its record when it is rewritten
pub control-there : (files : FileRecords) (order content number : List ℕ) → record_at 4 (files 1) (codes "LAST") ≡ Some content
    → has_key 4 (upd files 2 (with_record 4 (files 2) order) 1) (take 4 (control_with content number)) ≡ false → ⊥
control-there files order content number is none =
    true≢false
    (sym (ap is_some is)
    ∙ ap (has_key 4 (files 1)) (sym (control-key (files 1) (codes "LAST") content number refl is))
    ∙ ap (λ xs. has_key 4 xs (take 4 (control_with content number))) (sym (upd-other files 2 (with_record 4 (files 2) order) 1 (differ 1 2 (λ e. absurd cc))))
    ∙ none)

-- the key of a record of STOCK stays
pub stock-key : (files : FileRecords) (message content stock more : List ℕ) → record_at 4 (files 0) (message_item message) ≡ Some content
    → take 4 (stock_with content stock more) ≡ message_item message
stock-key files message content stock more is =
    take-first 4 (fitted 4 (fitted 20 content)) _ (length-fitted 4 (fitted 20 content))
    ∙ key-fitted 4 20 content (message_item message) (omega arith) (length-fitted 4 (fitted 8 message)) (record_at-found 4 (files 0) (message_item message) content is).1

-- so STOCK has its record when it is rewritten
pub stock-there : (files : FileRecords) (message content stock more : List ℕ) → record_at 4 (files 0) (message_item message) ≡ Some content
    → has_key 4 (files 0) (take 4 (stock_with content stock more)) ≡ false → ⊥
stock-there files message content stock more is none =
    true≢false (sym (ap is_some is) ∙ ap (has_key 4 (files 0)) (sym (stock-key files message content stock more is)) ∙ none)

-- ---- the servers

pub stock-sized : HaveSizes stock_sizes (texts_in (initial_store stock_program))
stock-sized = (refl, (refl, (refl, (refl, (refl, (refl, (refl, (refl, tt))))))))

pub order-sized : HaveSizes order_sizes (texts_in (initial_store order_program))
order-sized = (refl, (refl, (refl, (refl, (refl, (refl, tt))))))

module _ (choices : OrderChoices) where
  -- what holds of each reply
  abbrev Leaves : List ℕ → FileRecords → Type 0
  Leaves reply left = IsNumbered left

  stock-keeps : (message reply : List ℕ) (records left : FileRecords) → IsNumbered records
      → served_alone (order_deck choices) 0 message records ≡ Reply reply left → IsNumbered left
  stock-keeps message reply records left now served =
      let Sized : Program → Type 0 = λ program. HaveSizes stock_sizes (texts_in (initial_store program)) in
      let Met : Program → Type 0 = λ program. ServerMeets (order_deck choices) program stock_sizes message Leaves records in
      let changed : (stock : List (List ℕ)) → IsNumbered (upd records 0 stock) =
      λ stock. same-files records (upd records 0 stock) (upd-other records 0 stock 1 (differ 1 0 (λ e. absurd cc))) (upd-other records 0 stock 2 (differ 2 0 (λ e. absurd cc))) now in
      program-replies (order_deck choices) (sample_program true (codes "STOCK-P") [] stock_data stock_text) stock_sizes message Leaves records
      (subst Sized (sym stock-is) stock-sized)
      (subst Met (sym stock-is)
      (stock-meets choices message Leaves records (λ reply other_code. now) (stock-there records message)
      (λ content chars reply found added taken code. changed (with_record 4 (records 0) (stock_with content (fitted 5 chars) (delivered_read content))))
      (λ content chars more reply found added given delivered code. changed (with_record 4 (records 0) (stock_with content (fitted 5 chars) (fitted 5 more))))))
      reply left served

  order-keeps : (message reply : List ℕ) (records left : FileRecords) → IsNumbered records
      → served_alone (order_deck choices) 1 message records ≡ Reply reply left → IsNumbered left
  order-keeps message reply records left now served =
      let Sized : Program → Type 0 = λ program. HaveSizes order_sizes (texts_in (initial_store program)) in
      let Met : Program → Type 0 = λ program. ServerMeets (order_deck choices) program order_sizes message Leaves records in
      program-replies (order_deck choices) (sample_program true (codes "ORDER-P") [] order_data order_text) order_sizes message Leaves records
      (subst Sized (sym order-is) order-sized)
      (subst Met (sym order-is)
      (order-meets choices message Leaves records (λ reply other_code. now) (control-there records)
      (λ content number reply is kept fresh code. numbered-more records now content number message is kept)))
      reply left served

  pub orders-keep : (rule : LockRule) → ServersKeep (behaviour rule (order_deck choices)) IsNumbered
  orders-keep rule zero message reply records left known are served now = stock-keeps message reply records left now served
  orders-keep rule (suc zero) message reply records left known are served now = order-keeps message reply records left now served
  orders-keep rule (suc (suc c)) message reply records left known are served now = absurd (omega (arith, known))
