-- Pieces of items: in stock, delivered, in orders, and in requests. items: which ones are asked about, by their numbers of four
-- characters, as one item alone, or all.
use Rattle.std.specs.Prelude.{◌≡◌, ℕ, zero, suc, ◌+◌, Bool, List, take, drop, codes, bytes_eq, ℤ, pos, neg_ℤ, ◌+ℤ◌, ◌-ℤ◌, if◌then◌else◌}
use Rattle.pw_invariants.specs.Requests.{RepliedRequest}
use Rattle.pw_invariants.specs.Units.{FileRecords}
use Rattle.pw_picture.specs.Stored.{value_of}
use Rattle.pw_picture.specs.Symbols.{begins_with}
use Rattle.pw_picture.specs.Text.{fitted}
use Rattle.pw_program_laws.specs.Totals.{total_of}

module _ (items : List ℕ → Bool) where
  -- the pieces of an item, where it is one that is asked about
  abbrev pub pieces_of : List ℕ → ℕ → ℕ
  pieces_of item pieces = if items item then pieces else 0

  -- ---- records

  -- in stock by a record of STOCK: five digits behind the item and its price
  abbrev pub stock_in : List ℕ → ℕ
  stock_in stock = pieces_of (take 4 stock) (value_of 0 (take 5 (drop 10 (fitted 20 stock))))

  -- delivered by a record of STOCK: five digits behind those
  abbrev pub delivered_in : List ℕ → ℕ
  delivered_in stock = pieces_of (take 4 stock) (value_of 0 (take 5 (drop 15 (fitted 20 stock))))

  -- in a line: an item and three digits
  abbrev pub line_in : List ℕ → ℕ
  line_in line = pieces_of (take 4 line) (value_of 0 (take 3 (drop 4 line)))

  -- in the two lines that a text begins with
  abbrev pub lines_in : List ℕ → ℕ
  lines_in text = line_in text + line_in (drop 7 text)

  -- in an order: its lines are behind its number and the customer
  abbrev pub ordered_in : List ℕ → ℕ
  ordered_in order = lines_in (drop 12 (fitted 34 order))

  -- ---- files

  -- all pieces in stock, all that were delivered, and all in orders
  abbrev pub in_stock : FileRecords → ℕ
  in_stock records = total_of stock_in (records 0)

  abbrev pub delivered : FileRecords → ℕ
  delivered records = total_of delivered_in (records 0)

  abbrev pub in_orders : FileRecords → ℕ
  in_orders records = total_of ordered_in (records 2)

  -- What left the stock is what was ordered: the pieces at first and those delivered since are those in stock now and those ordered
  -- since.
  abbrev pub TakenIsOrdered : FileRecords → FileRecords → Type 0
  TakenIsOrdered first now =
      in_stock first + delivered now + in_orders first ≡ in_stock now + delivered first + in_orders now

  -- ---- requests

  -- in stock and in orders, without those delivered
  abbrev pub supply : FileRecords → ℤ
  supply records = pos (in_stock records + in_orders records) -ℤ pos (delivered records)

  -- taken by a message to STOCK-P: an item, a sign and three digits, which is `-` where pieces are taken
  abbrev pub taken_by : List ℕ → ℕ
  taken_by message =
      let change = take 4 (drop 4 (fitted 8 message)) in
      if begins_with 45 change then pieces_of (take 4 (fitted 8 message)) (value_of 0 (drop 1 change)) else 0

  -- ordered by a message to ORDER-P: its lines are behind the customer
  abbrev pub ordered_by : List ℕ → ℕ
  ordered_by message = lines_in (drop 8 (fitted 30 message))

  -- what a message to a class does to the supply
  abbrev pub supplied_by : ℕ → List ℕ → ℤ
  supplied_by zero message = neg_ℤ (pos (taken_by message))
  supplied_by (suc zero) message = pos (ordered_by message)
  supplied_by _ message = pos 0

  -- the supply behind a request: a reply of another code than 0 leaves it
  abbrev pub supply_behind : ℤ → RepliedRequest → ℤ
  supply_behind supply request =
      if bytes_eq (take 4 request.reply) (codes "0000") then supply +ℤ supplied_by request.class request.message else supply
