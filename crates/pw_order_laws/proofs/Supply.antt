-- Each server of the order entry that replies does to the supply what its request says.
use Rattle.std.proofs.Common.{◌≡◌, ℕ, zero, suc, ◌+◌, Bool, true, false, List, [], ◌++◌, length, take, drop, if◌then◌else◌, Option, Some, None, is_some, ℤ, pos, neg_ℤ, ◌+ℤ◌, ◌-ℤ◌, ◌*ℤ◌, refl, sym, ap, ◌∙◌, subst, arith}
use Rattle.std.specs.Prelude.{bytes_eq, codes}
use Rattle.std.specs.Ordering.{int_cmp, is_gt}
use Rattle.std.proofs.lemmas.Int.{ints}
use Rattle.std.proofs.lemmas.List.{drop-drop, length-append, length-drop, take_all}
use Rattle.pw_code.specs.declared.lock.LockRule.{LockRule}
use Rattle.pw_files.specs.Records.{IsFile, has_key, record_at, with_record}
use Rattle.pw_files.proofs.Lookups.{record_at-found}
use Rattle.pw_invariants.specs.Requests.{ServersStep}
use Rattle.pw_invariants.specs.Units.{FileRecords}
use Rattle.pw_number.specs.Arithmetic.{sum}
use Rattle.pw_onecopy.proofs.Update.{upd-other, upd-same}
use Rattle.pw_onecopy.specs.Behaviour.{Reply}
use Rattle.pw_order_laws.proofs.Keeps.{control-there, differ, order-sized, orders-written, stock-key, stock-sized, stock-stays, stock-there}
use Rattle.pw_order_laws.proofs.Order.{files_with, order-meets, order_sizes, order_with}
use Rattle.pw_order_laws.proofs.Numbers.{control_with, four}
use Rattle.pw_order_laws.proofs.Read.{order-is, stock-is}
use Rattle.pw_order_laws.proofs.Stock.{Added, delivered_read, five, is_delivery, message_change, message_item, stock-meets, stock_read, stock_sizes, stock_with, stocked, three}
use Rattle.pw_order_laws.specs.Servers.{OrderChoices, order_data, order_deck, order_text, stock_data, stock_text}
use Rattle.pw_order_laws.specs.Stock.{TakenIsOrdered, delivered_in, lines_in, ordered_by, ordered_in, pieces_of, stock_in, supplied_by, supply, supply_behind, taken_by}
use Rattle.pw_picture.specs.Stored.{moved, read_of, value_of}
use Rattle.pw_picture.specs.Symbols.{begins_with}
use Rattle.pw_picture.specs.Text.{fitted}
use Rattle.pw_program_laws.proofs.Amounts.{given-units, stored-value, taken-units, times-one, units_in}
use Rattle.pw_program_laws.proofs.Parts.{drop-first, fitted-whole, fitted-within, take-first}
use Rattle.pw_program_laws.proofs.Servers.{program-replies}
use Rattle.pw_program_laws.proofs.Texts.{length-fitted}
use Rattle.pw_program_laws.proofs.Totals.{total-with_record}
use Rattle.pw_program_laws.specs.Meets.{ServerMeets}
use Rattle.pw_program_laws.specs.Texts.{HaveSizes, texts_in}
use Rattle.pw_program_laws.specs.Totals.{counted_of, total_of}
use Rattle.pw_tree_meaning.specs.OfDeck.{behaviour}
use Rattle.pw_tree_meaning.specs.Program.{Program}
use Rattle.pw_tree_meaning.specs.Runs.{served_alone}
use Rattle.pw_tree_meaning.specs.Samples.{sample_program}
use Rattle.pw_tree_meaning.specs.Store.{initial_store}

-- ---- numbers

-- a change is added to pieces
added-value : (read change chars : List ℕ) → Added read change chars → (length chars ≡ 5) × (pos (value_of 0 chars) ≡ pos (value_of 0 read) +ℤ units_in change)
added-value read change chars e =
    let both = stored-value 5 0 (sum (read_of five read) (read_of three change)) refl chars e in (
      both.0,
      both.1
          ∙ ap (λ z. z +ℤ (units_in change *ℤ pos 1)) (times-one (pos (value_of 0 read)))
          ∙ ap (λ z. pos (value_of 0 read) +ℤ z) (times-one (units_in change)),
    )

delivery-test : (change : List ℕ) → is_delivery change ≡ is_gt (int_cmp (units_in change) (pos 0))
delivery-test change = ap (λ z. is_gt (int_cmp z (pos 0))) (times-one (units_in change))

-- the pieces that a change takes
abbrev taken_in : List ℕ → ℕ
taken_in change = if begins_with 45 change then value_of 0 (drop 1 change) else 0

-- ---- records

-- what is read of a record
stock-chars : (content : List ℕ) → stock_read content ≡ take 5 (drop 10 (fitted 20 content))
stock-chars content =
    let whole : List ℕ = fitted 20 content in
    ap (fitted 5) (drop-drop 6 4 whole) ∙ fitted-within 5 (drop 10 whole) (omega (arith, length-fitted 20 content, length-drop 10 whole))

delivered-chars : (content : List ℕ) → delivered_read content ≡ take 5 (drop 15 (fitted 20 content))
delivered-chars content =
    let whole : List ℕ = fitted 20 content in
    ap (λ xs. fitted 5 (drop 5 xs)) (drop-drop 6 4 whole) ∙ ap (fitted 5) (drop-drop 5 10 whole)
    ∙ fitted-within 5 (drop 15 whole) (omega (arith, length-fitted 20 content, length-drop 15 whole))

-- what is in the new record
module _ (content stock delivered : List ℕ) (one : length stock ≡ 5) (two : length delivered ≡ 5) where
  abbrev new : List ℕ
  new = stock_with content stock delivered

  item-long : length (fitted 4 (fitted 20 content)) ≡ 4
  item-long = length-fitted 4 (fitted 20 content)

  price-long : length (fitted 6 (drop 4 (fitted 20 content))) ≡ 6
  price-long = length-fitted 6 (drop 4 (fitted 20 content))

  new-long : length new ≡ 20
  new-long =
      omega (
        arith,
        length-append (fitted 4 (fitted 20 content)) (fitted 6 (drop 4 (fitted 20 content)) ++ (stock ++ delivered)),
        length-append (fitted 6 (drop 4 (fitted 20 content))) (stock ++ delivered),
        length-append stock delivered,
        item-long,
        price-long,
        one,
        two,
      )

  behind : drop 10 (fitted 20 new) ≡ stock ++ delivered
  behind =
      ap (drop 10) (fitted-whole 20 new new-long)
      ∙ sym (drop-drop 6 4 new)
      ∙ ap (drop 6) (drop-first 4 (fitted 4 (fitted 20 content)) (fitted 6 (drop 4 (fitted 20 content)) ++ (stock ++ delivered)) item-long)
      ∙ drop-first 6 (fitted 6 (drop 4 (fitted 20 content))) (stock ++ delivered) price-long

  stock-new : take 5 (drop 10 (fitted 20 new)) ≡ stock
  stock-new = ap (take 5) behind ∙ take-first 5 stock delivered one

  delivered-new : take 5 (drop 15 (fitted 20 new)) ≡ delivered
  delivered-new =
      ap (take 5) (sym (drop-drop 5 10 (fitted 20 new)) ∙ ap (drop 5) behind ∙ drop-first 5 stock delivered one)
      ∙ take_all 5 delivered (omega (arith, two))

-- an order has the lines of its message
ordered-lines : (items : List ℕ → Bool) (message number : List ℕ) → ordered_in items (order_with message number) ≡ ordered_by items message
ordered-lines items message number =
    let own : List ℕ = fitted 4 (moved four (read_of four (fitted 4 number))) in
    let rest : List ℕ = fitted 30 (fitted 30 message) in
    let order : List ℕ = order_with message number in
    let first : length own ≡ 4 = length-fitted 4 (moved four (read_of four (fitted 4 number))) in
    let long : length order ≡ 34 = omega (arith, length-append own rest, first, length-fitted 30 (fitted 30 message)) in
    ap (λ xs. lines_in items (drop 12 xs)) (fitted-whole 34 order long)
    ∙ ap (lines_in items) (sym (drop-drop 8 4 order))
    ∙ ap (λ xs. lines_in items (drop 8 xs)) (drop-first 4 own rest first)
    ∙ ap (λ xs. lines_in items (drop 8 xs)) (fitted-whole 30 (fitted 30 message) (length-fitted 30 message))

-- ---- sums

-- one record of STOCK more and one less
moved-sums : (b : Bool) (stock after delivered delivered_after orders s t d e taken : ℕ)
    → after + (if b then s else 0) ≡ stock + (if b then t else 0)
    → delivered_after + (if b then d else 0) ≡ delivered + (if b then e else 0)
    → t + d + taken ≡ s + e
    → pos (after + orders) -ℤ pos delivered_after ≡ pos (stock + orders) -ℤ pos delivered +ℤ neg_ℤ (pos (if b then taken else 0))
moved-sums true stock after delivered delivered_after orders s t d e taken one two same = omega (arith, ints, one, two, same)
moved-sums false stock after delivered delivered_after orders s t d e taken one two same = omega (arith, ints, one, two)

taken-turned : (minus b : Bool) (m : ℕ) → (if b then (if minus then m else 0) else 0) ≡ (if minus then (if b then m else 0) else 0)
taken-turned true b m = refl
taken-turned false true m = refl
taken-turned false false m = refl

none-counted : (count : List ℕ → ℕ) (o : Option (List ℕ)) → is_some o ≡ false → counted_of count o ≡ 0
none-counted count None e = refl
none-counted count (Some content) e = absurd cc

-- ---- what each reply says

module _ (items : List ℕ → Bool) (message : List ℕ) (files : FileRecords) where
  -- the supply is the one behind the request
  abbrev pub Supplies : ℕ → List ℕ → FileRecords → Type 0
  Supplies c reply left = supply items left ≡ supply_behind items (supply items files) (record { class = c; message = message; reply = reply })

  supply-parts : (left : FileRecords) (stock orders : List (List ℕ)) → left 0 ≡ stock → left 2 ≡ orders
      → supply items left ≡ pos (total_of (stock_in items) stock + total_of (ordered_in items) orders) -ℤ pos (total_of (delivered_in items) stock)
  supply-parts left stock orders one two =
      ap (λ xs. pos (total_of (stock_in items) xs + total_of (ordered_in items) (left 2)) -ℤ pos (total_of (delivered_in items) xs)) one
      ∙ ap (λ xs. pos (total_of (stock_in items) stock + total_of (ordered_in items) xs) -ℤ pos (total_of (delivered_in items) stock)) two

  by-refusal : (b : Bool) → b ≡ false → (s z : ℤ) → s ≡ (if b then s +ℤ z else s)
  by-refusal true e s z = absurd cc
  by-refusal false e s z = refl

  -- another code than 0
  refuses : (c : ℕ) (reply : List ℕ) → bytes_eq (take 4 reply) (codes "0000") ≡ false → Supplies c reply files
  refuses c reply e = by-refusal (bytes_eq (take 4 reply) (codes "0000")) e (supply items files) (supplied_by items c message)

  by-code : (b : Bool) → b ≡ true → (s z after : ℤ) → after ≡ s +ℤ z → after ≡ (if b then s +ℤ z else s)
  by-code true e s z after is = is
  by-code false e s z after is = absurd cc

  supplies : (c : ℕ) (reply : List ℕ) (left : FileRecords) → take 4 reply ≡ codes "0000" → supply items left ≡ supply items files +ℤ supplied_by items c message → Supplies c reply left
  supplies c reply left code is =
      by-code (bytes_eq (take 4 reply) (codes "0000")) (ap (λ xs. bytes_eq xs (codes "0000")) code) (supply items files) (supplied_by items c message) (supply items left) is

  -- ---- STOCK-P

  -- a record with other pieces, where the pieces in stock and those delivered differ by those that the message takes
  stocked-supply : IsFile 4 (files 0) → (content stock more : List ℕ) → record_at 4 (files 0) (message_item message) ≡ Some content
      → length stock ≡ 5 → length more ≡ 5
      → value_of 0 stock + value_of 0 (delivered_read content) + taken_in (message_change message) ≡ value_of 0 (stock_read content) + value_of 0 more
      → supply items (stocked files (stock_with content stock more)) ≡ supply items files +ℤ supplied_by items 0 message
  stocked-supply file content stock more is one two same =
      let record_of : List ℕ = stock_with content stock more in
      let item : List ℕ = message_item message in
      let key : take 4 record_of ≡ item = stock-key files message content stock more is in
      let own : take 4 content ≡ item = (record_at-found 4 (files 0) item content is).1 in
      let item_is : item ≡ take 4 (fitted 8 message) = fitted-within 4 (fitted 8 message) (omega (arith, length-fitted 8 message)) in
      let change_is : message_change message ≡ take 4 (drop 4 (fitted 8 message)) =
      fitted-within 4 (drop 4 (fitted 8 message)) (omega (arith, length-fitted 8 message, length-drop 4 (fitted 8 message))) in
      let old : (count : List ℕ → ℕ) → counted_of count (record_at 4 (files 0) (take 4 record_of)) ≡ count content =
      λ count. ap (λ k. counted_of count (record_at 4 (files 0) k)) key ∙ ap (counted_of count) is in
      let stock_old : stock_in items content ≡ pieces_of items item (value_of 0 (stock_read content)) =
      ap (λ k. pieces_of items k (value_of 0 (take 5 (drop 10 (fitted 20 content))))) own ∙ ap (λ xs. pieces_of items item (value_of 0 xs)) (sym (stock-chars content)) in
      let stock_new : stock_in items record_of ≡ pieces_of items item (value_of 0 stock) =
      ap (λ k. pieces_of items k (value_of 0 (take 5 (drop 10 (fitted 20 record_of))))) key ∙ ap (λ xs. pieces_of items item (value_of 0 xs)) (stock-new content stock more one two) in
      let more_old : delivered_in items content ≡ pieces_of items item (value_of 0 (delivered_read content)) =
      ap (λ k. pieces_of items k (value_of 0 (take 5 (drop 15 (fitted 20 content))))) own ∙ ap (λ xs. pieces_of items item (value_of 0 xs)) (sym (delivered-chars content)) in
      let more_new : delivered_in items record_of ≡ pieces_of items item (value_of 0 more) =
      ap (λ k. pieces_of items k (value_of 0 (take 5 (drop 15 (fitted 20 record_of))))) key ∙ ap (λ xs. pieces_of items item (value_of 0 xs)) (delivered-new content stock more one two) in
      let stock_whole = total-with_record (stock_in items) 4 (files 0) record_of file in
      let more_whole = total-with_record (delivered_in items) 4 (files 0) record_of file in
      let taken_is : pieces_of items item (taken_in (message_change message)) ≡ taken_by items message =
      ap (λ k. pieces_of items k (taken_in (message_change message))) item_is
      ∙ ap (λ change. pieces_of items (take 4 (fitted 8 message)) (taken_in change)) change_is
      ∙ taken-turned (begins_with 45 (take 4 (drop 4 (fitted 8 message)))) (items (take 4 (fitted 8 message))) (value_of 0 (drop 1 (take 4 (drop 4 (fitted 8 message))))) in
      supply-parts (stocked files record_of) (with_record 4 (files 0) record_of) (files 2) (upd-same files 0 _ 0 refl) (upd-other files 0 _ 2 (differ 2 0 (λ e. absurd cc)))
      ∙ moved-sums (items item) (total_of (stock_in items) (files 0)) (total_of (stock_in items) (with_record 4 (files 0) record_of))
      (total_of (delivered_in items) (files 0)) (total_of (delivered_in items) (with_record 4 (files 0) record_of)) (total_of (ordered_in items) (files 2))
      (value_of 0 (stock_read content)) (value_of 0 stock) (value_of 0 (delivered_read content)) (value_of 0 more) (taken_in (message_change message))
      (omega (arith, stock_whole, old (stock_in items), stock_old, stock_new)) (omega (arith, more_whole, old (delivered_in items), more_old, more_new)) same
      ∙ ap (λ m. supply items files +ℤ neg_ℤ (pos m)) taken_is

  -- pieces are taken
  takes : IsFile 4 (files 0) → (content chars reply : List ℕ) → record_at 4 (files 0) (message_item message) ≡ Some content
      → Added (stock_read content) (message_change message) chars → is_delivery (message_change message) ≡ false → take 4 reply ≡ codes "0000"
      → Supplies 0 reply (stocked files (stock_with content (fitted 5 chars) (delivered_read content)))
  takes file content chars reply is added none code =
      let change : List ℕ = message_change message in
      let both = added-value (stock_read content) change chars added in
      let whole : fitted 5 chars ≡ chars = fitted-whole 5 chars both.0 in
      let units : units_in change ≡ neg_ℤ (pos (taken_in change)) =
      taken-units (begins_with 45 change) (value_of 0 (drop 1 change)) (sym (delivery-test change) ∙ none) in
      supplies 0 reply (stocked files (stock_with content (fitted 5 chars) (delivered_read content))) code
      (stocked-supply file content (fitted 5 chars) (delivered_read content) is (length-fitted 5 chars) (length-fitted 5 (drop 5 (drop 6 (drop 4 (fitted 20 content)))))
      (omega (arith, ints, both.1, units, ap (value_of 0) whole)))

  -- pieces are delivered
  delivers : IsFile 4 (files 0) → (content chars more reply : List ℕ) → record_at 4 (files 0) (message_item message) ≡ Some content
      → Added (stock_read content) (message_change message) chars → is_delivery (message_change message) ≡ true
      → Added (delivered_read content) (message_change message) more → take 4 reply ≡ codes "0000"
      → Supplies 0 reply (stocked files (stock_with content (fitted 5 chars) (fitted 5 more)))
  delivers file content chars more reply is added some given code =
      let change : List ℕ = message_change message in
      let both = added-value (stock_read content) change chars added in
      let other = added-value (delivered_read content) change more given in
      let none : taken_in change ≡ 0 = given-units (begins_with 45 change) (value_of 0 (drop 1 change)) (sym (delivery-test change) ∙ some) in
      supplies 0 reply (stocked files (stock_with content (fitted 5 chars) (fitted 5 more))) code
      (stocked-supply file content (fitted 5 chars) (fitted 5 more) is (length-fitted 5 chars) (length-fitted 5 more)
      (omega (arith, ints, both.1, other.1, none, ap (value_of 0) (fitted-whole 5 chars both.0), ap (value_of 0) (fitted-whole 5 more other.0))))

  -- ---- ORDER-P

  orders : IsFile 4 (files 2) → (content number reply : List ℕ) → has_key 4 (files 2) (take 4 (order_with message number)) ≡ false → take 4 reply ≡ codes "0000"
      → Supplies 1 reply (files_with files (order_with message number) (control_with content number))
  orders file content number reply fresh code =
      let order : List ℕ = order_with message number in
      let left : FileRecords = files_with files order (control_with content number) in
      let whole = total-with_record (ordered_in items) 4 (files 2) order file in
      let none : counted_of (ordered_in items) (record_at 4 (files 2) (take 4 order)) ≡ 0 = none-counted (ordered_in items) _ fresh in
      let more : total_of (ordered_in items) (with_record 4 (files 2) order) ≡ total_of (ordered_in items) (files 2) + ordered_by items message =
      omega (arith, whole, none, ordered-lines items message number) in
      supplies 1 reply left code
      (supply-parts left (files 0) (with_record 4 (files 2) order) (stock-stays files order (control_with content number)) (orders-written files order (control_with content number))
      ∙ omega (arith, ints, more))

module _ (items : List ℕ → Bool) (choices : OrderChoices) where
  stock-supplies : (message reply : List ℕ) (records left : FileRecords) → IsFile 4 (records 0)
      → served_alone (order_deck choices) 0 message records ≡ Reply reply left → Supplies items message records 0 reply left
  stock-supplies message reply records left file served =
      let Sized : Program → Type 0 = λ program. HaveSizes stock_sizes (texts_in (initial_store program)) in
      let Met : Program → Type 0 = λ program. ServerMeets (order_deck choices) program stock_sizes message (Supplies items message records 0) records in
      program-replies (order_deck choices) (sample_program true (codes "STOCK-P") [] stock_data stock_text) stock_sizes message (Supplies items message records 0) records
      (subst Sized (sym stock-is) stock-sized)
      (subst Met (sym stock-is)
      (stock-meets choices message (Supplies items message records 0) records (refuses items message records 0) (stock-there records message)
      (takes items message records file) (delivers items message records file)))
      reply left served

  order-supplies : (message reply : List ℕ) (records left : FileRecords) → IsFile 4 (records 2)
      → served_alone (order_deck choices) 1 message records ≡ Reply reply left → Supplies items message records 1 reply left
  order-supplies message reply records left file served =
      let Sized : Program → Type 0 = λ program. HaveSizes order_sizes (texts_in (initial_store program)) in
      let Met : Program → Type 0 = λ program. ServerMeets (order_deck choices) program order_sizes message (Supplies items message records 1) records in
      program-replies (order_deck choices) (sample_program true (codes "ORDER-P") [] order_data order_text) order_sizes message (Supplies items message records 1) records
      (subst Sized (sym order-is) order-sized)
      (subst Met (sym order-is)
      (order-meets choices message (Supplies items message records 1) records (refuses items message records 1) (control-there records)
      (λ content number reply is kept fresh code. orders items message records file content number reply fresh code)))
      reply left served

  pub servers-supply : (rule : LockRule) → ServersStep (behaviour rule (order_deck choices)) (λ records. Unit {0}) (supply items) (supply_behind items)
  servers-supply rule zero message reply records left known are served holds = stock-supplies message reply records left (are 0) served
  servers-supply rule (suc zero) message reply records left known are served holds = order-supplies message reply records left (are 2) served
  servers-supply rule (suc (suc c)) message reply records left known are served holds = absurd (omega (arith, known))

-- a supply that stays
pub taken-ordered : (items : List ℕ → Bool) (first now : FileRecords) → supply items now ≡ supply items first → TakenIsOrdered items first now
taken-ordered items first now same = omega (arith, ints, same)

pub ordered-supply : (items : List ℕ → Bool) (first now : FileRecords) → TakenIsOrdered items first now → supply items now ≡ supply items first
ordered-supply items first now same = omega (arith, ints, same)
