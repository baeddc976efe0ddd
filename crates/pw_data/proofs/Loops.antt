-- The loops over entries: one entry further, with its members.
use Rattle.std.proofs.Common.{◌≡◌, ℕ, ◌+◌, ◌*◌, ◌<◌, ◌≤◌, min, Bool, false, not, List, [], ◌∷◌, ◌++◌, length, take, drop, Option, Some, sym, ap, ◌∙◌, arith}
use Rattle.std.specs.Prelude.{take_while, ◌||◌, ◌==◌}
use Rattle.std.specs.List.{repeat}
use Rattle.pw_base.specs.declared.fault_code.FaultCode.TheVariants.{BadDataEntry, StorageTooLarge}
use Rattle.pw_base.specs.declared.fault.Fault.{Fault}
use Rattle.pw_base.specs.First.{fault_noted, least}
use Rattle.pw_base.specs.Limits.{most_storage}
use Rattle.pw_data.specs.declared.entry.Entry.{Entry}
use Rattle.pw_data.specs.declared.item.ItemTable.{ItemTable}
use Rattle.pw_data.specs.declared.item.Item.{Item}
use Rattle.pw_data.specs.Entries.{fault, has_occurs}
use Rattle.pw_data.specs.Tree.{Node, forest, stands_in, is_group, is_misplaced, tree_faults}
use Rattle.pw_data.specs.Laid.{times, size_in, too_large, table_of, item_of, items_in, initial, chars_in}
use Rattle.pw_data.proofs.Forests.{forest-front, is_group-forest}
use Rattle.pw_data.proofs.Sizes.{grows, times-some, exact, size_in-step, too_large-step, too_large-found}
use Rattle.pw_data.proofs.Steps.{tree_faults-step, items_in-step, chars_in-step}

-- an entry in front of others, cut from them with its members
pub record Cut (rest : List Entry) (entry : Entry) (behind members next : List Entry) (count : ℕ) : Type 0 where
  pub rest_is : rest ≡ entry ∷ behind
  pub count_is : count ≡ length (take_while (stands_in entry) behind)
  pub members_is : members ≡ take count behind
  pub next_is : next ≡ drop count behind

module _ (rest : List Entry) (entry : Entry) (behind members next : List Entry) (count : ℕ) (cut : Cut rest entry behind members next count) where
  -- the trees of the others are the entry's and those behind it
  pub trees : forest rest ≡ Node entry (forest members) (forest next)
  trees = ap forest cut.rest_is ∙ forest-front entry behind members next count cut.count_is cut.members_is cut.next_is

  pub faults-further : (top table misplaced : Bool) (known noted_known next_known whole : Option Fault)
      → misplaced ≡ is_misplaced top table (not (length members == 0)) entry → noted_known ≡ fault_noted known misplaced (fault entry.line BadDataEntry)
      → next_known ≡ least noted_known (tree_faults false (table || has_occurs entry) (forest members))
      → least known (tree_faults top table (forest rest)) ≡ whole → least next_known (tree_faults top table (forest next)) ≡ whole
  faults-further top table misplaced known noted_known next_known whole misplaced_is noted_is next_known_is so_far =
      let inner : List Fault = tree_faults false (table || has_occurs entry) (forest members) in
      let wrong : misplaced ≡ is_misplaced top table (is_group (forest members)) entry = misplaced_is ∙ ap (λ group. is_misplaced top table group entry) (sym (is_group-forest members)) in
      ap (λ k. least k (tree_faults top table (forest next))) (next_known_is ∙ ap (λ k. least k inner) (noted_is ∙ ap (λ b. fault_noted known b (fault entry.line BadDataEntry)) wrong))
      ∙ tree_faults-step top table known entry (forest members) (forest next) ∙ ap (λ f. least known (tree_faults top table f)) (sym trees) ∙ so_far

  pub size-further : (size extent inner whole : ℕ) → inner ≡ min (size_in (forest members)) (most_storage + 1) → extent ≡ min (times entry * (entry.size + inner)) (most_storage + 1)
      → min (size + size_in (forest rest)) (most_storage + 1) ≡ whole → min (min (size + extent) (most_storage + 1) + size_in (forest next)) (most_storage + 1) ≡ whole
  size-further size extent inner whole inner_is extent_is so_far =
      size_in-step size extent inner entry (forest members) (forest next) whole inner_is extent_is (ap (λ f. min (size + size_in f) (most_storage + 1)) (sym trees) ∙ so_far)

  pub too_large-further : (size extent inner : ℕ) (whole : Option Fault) → inner ≡ min (size_in (forest members)) (most_storage + 1) → extent ≡ min (times entry * (entry.size + inner)) (most_storage + 1)
      → size + extent ≤ most_storage → too_large size (forest rest) ≡ whole → too_large (size + extent) (forest next) ≡ whole
  too_large-further size extent inner whole inner_is extent_is small so_far =
      sym (too_large-step size extent inner entry (forest members) (forest next) inner_is extent_is small) ∙ ap (too_large size) (sym trees) ∙ so_far

  pub too_large-stops : (size extent inner : ℕ) (whole : Option Fault) → inner ≡ min (size_in (forest members)) (most_storage + 1) → extent ≡ min (times entry * (entry.size + inner)) (most_storage + 1)
      → size ≤ most_storage → most_storage < size + extent → too_large size (forest rest) ≡ whole → Some (fault entry.line StorageTooLarge) ≡ whole
  too_large-stops size extent inner whole inner_is extent_is before large so_far =
      sym (too_large-found size extent inner entry (forest members) (forest next) inner_is extent_is before large) ∙ ap (too_large size) (sym trees) ∙ so_far

  -- the sizes of an entry that fits, with those of its members and of what stands behind them
  pub record Fits (at extent inner : ℕ) : Type 0 where
    pub inner_is : inner ≡ size_in (forest members)
    pub extent_is : extent ≡ times entry * (entry.size + size_in (forest members))
    pub members_fit : at + (entry.size + inner) ≤ most_storage
    pub next_fit : at + extent + size_in (forest next) ≤ most_storage

  pub fits : (at extent inner : ℕ) → inner ≡ min (size_in (forest members)) (most_storage + 1) → extent ≡ min (times entry * (entry.size + inner)) (most_storage + 1)
      → at + size_in (forest rest) ≤ most_storage → Fits at extent inner
  fits at extent inner inner_is extent_is small =
      let whole : size_in (forest rest) ≡ times entry * (entry.size + size_in (forest members)) + size_in (forest next) = ap size_in trees in
      let product : ℕ = times entry * (entry.size + size_in (forest members)) in
      let one : entry.size + size_in (forest members) ≤ product = grows (times entry) (entry.size + size_in (forest members)) (entry.size + size_in (forest members)) (times-some entry) (omega arith) in
      let extent_cut : extent ≡ min product (most_storage + 1) = exact extent inner entry (forest members) inner_is extent_is in
      record { inner_is = omega arith; extent_is = omega arith; members_fit = omega arith; next_fit = omega arith }

  pub items-further : (text : List ℕ) (at extent inner size : ℕ) (around table : ItemTable) (item : Item) (before pushed laid whole : List Item) → Fits at extent inner
      → size ≡ entry.size + inner → table ≡ table_of around entry.occurs size → item ≡ item_of text at size table entry
      → pushed ≡ before ++ item ∷ [] → laid ≡ pushed ++ items_in text at table (forest members)
      → before ++ items_in text at around (forest rest) ≡ whole → laid ++ items_in text (at + extent) around (forest next) ≡ whole
  items-further text at extent inner size around table item before pushed laid whole fit size_is table_is item_is pushed_is laid_is so_far =
      let exact_size : size ≡ entry.size + size_in (forest members) = size_is ∙ ap (λ n. entry.size + n) fit.inner_is in
      let own : ℕ → ItemTable = λ n. table_of around entry.occurs n in
      let s : ℕ = entry.size + size_in (forest members) in
      let table_exact : table ≡ own s = table_is ∙ ap own exact_size in
      let item_exact : item ≡ item_of text at s (own s) entry = item_is ∙ ap (λ n. item_of text at n table entry) exact_size ∙ ap (λ t. item_of text at s t entry) table_exact in
      let laid_exact : laid ≡ (before ++ item_of text at s (own s) entry ∷ []) ++ items_in text at (own s) (forest members) =
      laid_is ∙ ap (λ xs. xs ++ items_in text at table (forest members)) (pushed_is ∙ ap (λ i. before ++ i ∷ []) item_exact) ∙ ap (λ t. (before ++ item_of text at s (own s) entry ∷ []) ++ items_in text at t (forest members)) table_exact in
      ap (λ xs. xs ++ items_in text (at + extent) around (forest next)) laid_exact
      ∙ ap (λ n. ((before ++ item_of text at s (own s) entry ∷ []) ++ items_in text at (own s) (forest members)) ++ items_in text (at + n) around (forest next)) fit.extent_is
      ∙ items_in-step text at around entry (forest members) (forest next) before
      ∙ ap (λ f. before ++ items_in text at around f) (sym trees) ∙ so_far

  pub chars-further : (text : List ℕ) (before piece inner own next_chars whole : List ℕ) (count_times : ℕ)
      → own ≡ initial text entry → inner ≡ chars_in text (forest members) → piece ≡ own ++ inner → count_times ≡ times entry → next_chars ≡ before ++ repeat count_times piece
      → before ++ chars_in text (forest rest) ≡ whole → next_chars ++ chars_in text (forest next) ≡ whole
  chars-further text before piece inner own next_chars whole count_times own_is inner_is piece_is times_is next_is so_far =
      let piece_exact : piece ≡ initial text entry ++ chars_in text (forest members) = piece_is ∙ ap (λ xs. xs ++ inner) own_is ∙ ap (λ xs. initial text entry ++ xs) inner_is in
      let next_exact : next_chars ≡ before ++ repeat (times entry) (initial text entry ++ chars_in text (forest members)) =
      next_is ∙ ap (λ n. before ++ repeat n piece) times_is ∙ ap (λ p. before ++ repeat (times entry) p) piece_exact in
      ap (λ xs. xs ++ chars_in text (forest next)) next_exact ∙ chars_in-step text entry (forest members) (forest next) before ∙ ap (λ f. before ++ chars_in text f) (sym trees) ∙ so_far
