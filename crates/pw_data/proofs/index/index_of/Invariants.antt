-- What the index has of the items so far, and what those that are left would add, is all.
use Rattle.std.proofs.Common.{◌≡◌, ℕ, List, drop}
use Rattle.std.specs.Option.{option_or}
use Rattle.pw_data.specs.Index.{indexed_item_number, first_item_number}
use Rattle.pw_data.proofs.index.index_of.Given as goal

abbrev pub invariant-loop-item : goal.invariant-loop-item
invariant-loop-item l = record {
  number : l.number ≡ l.item-index;
  so_far : (word : List ℕ) → option_or (indexed_item_number l.index word) (first_item_number l.item-index (drop l.item-index l.items) word) ≡ first_item_number 0 l.items word;
}
