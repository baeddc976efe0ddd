-- What the requests of ORDERS do to the supply.
use Rattle.std.proofs.Common.{◌≡◌, ℕ, zero, suc, ◌+◌, ◌^◌, ◌<◌, Bool, true, false, List, [], ◌∷◌, ◌++◌, length, take, drop, if◌then◌else◌, Some, ℤ, pos, neg_ℤ, ◌+ℤ◌, unsigned_abs, refl, sym, ap, ◌∙◌, subst, arith}
use Rattle.std.specs.Prelude.{bytes_eq, codes}
use Rattle.std.proofs.lemmas.Int.{ints}
use Rattle.std.proofs.lemmas.List.{drop-drop, length-append, take_all}
use Rattle.pw_invariants.specs.Invariants.{stepped}
use Rattle.pw_invariants.specs.Requests.{RepliedRequest}
use Rattle.pw_number.specs.Arithmetic.{difference, sized}
use Rattle.pw_number.specs.Number.{Number, number}
use Rattle.pw_number.specs.Sign.{signed}
use Rattle.pw_order_laws.proofs.Stock.{three}
use Rattle.pw_order_laws.specs.Stock.{line_in, lines_in, ordered_by, pieces_of, supply_behind, taken_by}
use Rattle.pw_picture.specs.Stored.{moved, value_of}
use Rattle.pw_picture.specs.Symbols.{begins_with}
use Rattle.pw_picture.specs.Text.{fitted}
use Rattle.pw_program_laws.proofs.Amounts.{amount-long, amount-received, amount-units, units_in, value-below}
use Rattle.pw_program_laws.proofs.Parts.{drop-first, fitted-whole, take-first}
use Rattle.pw_program_laws.specs.Meets.{received}

-- ---- changes of three digits

-- the pieces of a line or a delivery, and those pieces taken from zero
abbrev pub pieces : List ℕ → Number
pieces qty = number (pos (value_of 0 qty)) 0

abbrev pub taken_from_zero : List ℕ → Number
taken_from_zero qty = difference (number (pos 0) 0) (pieces qty)

taken-units : (qty : List ℕ) → (taken_from_zero qty).units ≡ neg_ℤ (pos (value_of 0 qty))
taken-units qty = omega (arith, ints)

abs-neg : (m : ℕ) → unsigned_abs (neg_ℤ (pos m)) ≡ m
abs-neg zero = refl
abs-neg (suc m) = refl

pieces-small : (qty : List ℕ) → length qty ≡ 3 → value_of 0 qty < 10 ^ 3
pieces-small qty long =
    let below = value-below 0 qty in
    let power : 10 ^ length qty ≡ 10 ^ 3 = ap (λ k. 10 ^ k) long in
    omega (arith, below, power)

taken-small : (qty : List ℕ) → length qty ≡ 3 → unsigned_abs (taken_from_zero qty).units < 10 ^ 3
taken-small qty long =
    let own : unsigned_abs (taken_from_zero qty).units ≡ value_of 0 qty = ap unsigned_abs (taken-units qty) ∙ abs-neg (value_of 0 qty) in
    omega (arith, own, pieces-small qty long)

-- SUBTRACT from 0 is never a size error
pub taken-received : (qty : List ℕ) → length qty ≡ 3 → received (Some three) (sized (taken_from_zero qty)) ≡ Some (moved three (taken_from_zero qty))
taken-received qty long = amount-received 3 0 (taken_from_zero qty) refl (taken-small qty long) _ (omega (arith, taken-small qty long))

taken-change : (qty got : List ℕ) → length qty ≡ 3 → received (Some three) (sized (taken_from_zero qty)) ≡ Some got
    → (length got ≡ 4) × (units_in got ≡ neg_ℤ (pos (value_of 0 qty)))
taken-change qty got long e =
    let n : Number = taken_from_zero qty in
    let both : Some (moved three n) ≡ Some got = sym (taken-received qty long) ∙ e in
    let same : moved three n ≡ got = cc in (
      ap length (sym same) ∙ amount-long 3 0 n refl (taken-small qty long),
      ap units_in (sym same) ∙ amount-units 3 0 n refl (taken-small qty long) ∙ taken-units qty,
    )

given-change : (qty : List ℕ) → length qty ≡ 3 → (length (moved three (pieces qty)) ≡ 4) × (units_in (moved three (pieces qty)) ≡ pos (value_of 0 qty))
given-change qty long = (amount-long 3 0 (pieces qty) refl (pieces-small qty long), amount-units 3 0 (pieces qty) refl (pieces-small qty long))

-- ---- messages

-- a message to ORDER-P: a customer, two lines, and a total
abbrev pub order_message : List ℕ → List ℕ → List ℕ → List ℕ → List ℕ → List ℕ → List ℕ
order_message customer one first other second total = customer ++ (one ++ (first ++ (other ++ (second ++ total))))

-- a request with a reply
abbrev pub asked_of : ℕ → List ℕ → List ℕ → RepliedRequest
asked_of c message reply = record { class = c; message = message; reply = reply }

module _ (items : List ℕ → Bool) where
  no-pieces : (item : List ℕ) → pieces_of items item 0 ≡ 0
  no-pieces item = by (items item)
    where
      by : (b : Bool) → ◌≡◌ {A = ℕ} (if b then 0 else 0) 0
      by true = refl
      by false = refl

  -- a message to STOCK-P: an item and a change
  message-takes : (item change : List ℕ) → length item ≡ 4 → length change ≡ 4
      → taken_by items (item ++ change) ≡ (if begins_with 45 change then pieces_of items item (value_of 0 (drop 1 change)) else 0)
  message-takes item change one two =
      let whole : fitted 8 (item ++ change) ≡ item ++ change = fitted-whole 8 (item ++ change) (omega (arith, length-append item change, one, two)) in
      let Taken : List ℕ → List ℕ → ℕ = λ own sign. if begins_with 45 sign then pieces_of items own (value_of 0 (drop 1 sign)) else 0 in
      ap (λ xs. Taken (take 4 xs) (take 4 (drop 4 xs))) whole
      ∙ ap (λ own. Taken own (take 4 (drop 4 (item ++ change)))) (take-first 4 item change one)
      ∙ ap (λ xs. Taken item (take 4 xs)) (drop-first 4 item change one)
      ∙ ap (Taken item) (take_all 4 change (omega (arith, two)))

  -- a change of so many pieces less
  less-by : (minus : Bool) (m v : ℕ) (item : List ℕ) → signed minus m ≡ neg_ℤ (pos v) → (if minus then pieces_of items item m else 0) ≡ pieces_of items item v
  less-by true m v item e = let same : m ≡ v = omega (arith, ints, e) in ap (pieces_of items item) same
  less-by false m v item e = let none : v ≡ 0 = omega (arith, ints, e) in sym (no-pieces item) ∙ ap (pieces_of items item) (sym none)

  -- a change of so many pieces more
  more-by : (minus : Bool) (m v : ℕ) (item : List ℕ) → signed minus m ≡ pos v → (if minus then pieces_of items item m else 0) ≡ 0
  more-by true m v item e = let none : m ≡ 0 = omega (arith, ints, e) in ap (pieces_of items item) none ∙ no-pieces item
  more-by false m v item e = refl

  line-is : (item qty rest : List ℕ) → length item ≡ 4 → length qty ≡ 3 → line_in items (item ++ (qty ++ rest)) ≡ pieces_of items item (value_of 0 qty)
  line-is item qty rest one two =
      ap (λ own. pieces_of items own (value_of 0 (take 3 (drop 4 (item ++ (qty ++ rest)))))) (take-first 4 item (qty ++ rest) one)
      ∙ ap (λ xs. pieces_of items item (value_of 0 (take 3 xs))) (drop-first 4 item (qty ++ rest) one)
      ∙ ap (λ xs. pieces_of items item (value_of 0 xs)) (take-first 3 qty rest two)

  message-orders : (customer one first other second total : List ℕ) → length customer ≡ 8 → length one ≡ 4 → length first ≡ 3 → length other ≡ 4 → length second ≡ 3 → length total ≡ 8
      → ordered_by items (order_message customer one first other second total) ≡ pieces_of items one (value_of 0 first) + pieces_of items other (value_of 0 second)
  message-orders customer one first other second total a b c d e f =
      let behind : List ℕ = other ++ (second ++ total) in
      let lines : List ℕ = one ++ (first ++ behind) in
      let message : List ℕ = customer ++ lines in
      let long : length message ≡ 30 =
      omega (
        arith,
        length-append customer lines,
        length-append one (first ++ behind),
        length-append first behind,
        length-append other (second ++ total),
        length-append second total,
        a,
        b,
        c,
        d,
        e,
        f,
      ) in
      let next : drop 7 lines ≡ behind = sym (drop-drop 3 4 lines) ∙ ap (drop 3) (drop-first 4 one (first ++ behind) b) ∙ drop-first 3 first behind c in
      ap (λ xs. lines_in items (drop 8 xs)) (fitted-whole 30 message long)
      ∙ ap (lines_in items) (drop-first 8 customer lines a)
      ∙ ap (λ k. k + line_in items (drop 7 lines)) (line-is one first behind b c)
      ∙ ap (λ k. pieces_of items one (value_of 0 first) + k) (ap (line_in items) next ∙ line-is other second total d e)

  -- ---- requests

  -- the requests of a unit bring each supply back to itself
  abbrev pub Balance : List RepliedRequest → Type 0
  Balance requests = (value : ℤ) → stepped (supply_behind items) value requests ≡ value

  -- so far they have taken so many pieces
  pub record Taken (n : ℕ) (requests : List RepliedRequest) : Type 0 where
    pub steps : (value : ℤ) → stepped (supply_behind items) value requests ≡ value +ℤ neg_ℤ (pos n)

  stepped-more : (requests : List RepliedRequest) (one : RepliedRequest) (value : ℤ)
      → stepped (supply_behind items) value (requests ++ one ∷ []) ≡ supply_behind items (stepped (supply_behind items) value requests) one
  stepped-more [] one value = refl
  stepped-more (first ∷ requests) one value = stepped-more requests one (supply_behind items value first)

  by-code : (b : Bool) → b ≡ true → (value z : ℤ) → (if b then value +ℤ z else value) ≡ value +ℤ z
  by-code true e value z = refl
  by-code false e value z = absurd cc

  none-left : (value : ℤ) → value +ℤ neg_ℤ (pos 0) ≡ value
  none-left value = omega (arith, ints)

  either-way : (b : Bool) (value : ℤ) → (if b then value +ℤ neg_ℤ (pos 0) else value) ≡ value
  either-way true value = none-left value
  either-way false value = refl

  pub taken-none : Taken 0 []
  taken-none = record { steps = λ value. sym (none-left value) }

  more-taken : (value : ℤ) (n m : ℕ) → value +ℤ neg_ℤ (pos n) +ℤ neg_ℤ (pos m) ≡ value +ℤ neg_ℤ (pos (n + m))
  more-taken value n m = omega (arith, ints)

  -- a line whose pieces were taken
  pub taken-more : (n : ℕ) (sent : List RepliedRequest) (item qty got reply : List ℕ) → Taken n sent → length item ≡ 4 → length qty ≡ 3
      → received (Some three) (sized (taken_from_zero qty)) ≡ Some got → bytes_eq (take 4 reply) (codes "0000") ≡ true
      → Taken (n + pieces_of items item (value_of 0 qty)) (sent ++ asked_of 0 (fitted 4 (fitted 4 item) ++ fitted 4 got) reply ∷ [])
  taken-more n sent item qty got reply taken one two is zero_code = record {
    steps = λ value.
        let change = taken-change qty got two is in
        let item_is : fitted 4 (fitted 4 item) ≡ item = ap (fitted 4) (fitted-whole 4 item one) ∙ fitted-whole 4 item one in
        let change_is : fitted 4 got ≡ got = fitted-whole 4 got change.0 in
        let message : List ℕ = fitted 4 (fitted 4 item) ++ fitted 4 got in
        let takes : taken_by items message ≡ pieces_of items item (value_of 0 qty) =
        ap (λ xs. taken_by items (xs ++ fitted 4 got)) item_is ∙ ap (λ xs. taken_by items (item ++ xs)) change_is
        ∙ message-takes item got one change.0 ∙ less-by (begins_with 45 got) (value_of 0 (drop 1 got)) (value_of 0 qty) item change.1 in
        stepped-more sent (asked_of 0 message reply) value
        ∙ ap (λ z. supply_behind items z (asked_of 0 message reply)) (taken.steps value)
        ∙ by-code (bytes_eq (take 4 reply) (codes "0000")) zero_code (value +ℤ neg_ℤ (pos n)) (neg_ℤ (pos (taken_by items message)))
        ∙ ap (λ k. value +ℤ neg_ℤ (pos n) +ℤ neg_ℤ (pos k)) takes
        ∙ more-taken value n (pieces_of items item (value_of 0 qty));
  }

  -- a line without pieces
  pub taken-same : (n : ℕ) (sent : List RepliedRequest) (item qty : List ℕ) → Taken n sent → value_of 0 qty ≡ 0
      → Taken (n + pieces_of items item (value_of 0 qty)) sent
  taken-same n sent item qty taken none =
      let same : n + pieces_of items item (value_of 0 qty) ≡ n = ap (λ k. n + pieces_of items item k) none ∙ omega (arith, no-pieces item) in
      subst (λ k. Taken k sent) (sym same) taken

  back : (value : ℤ) (m : ℕ) → value +ℤ neg_ℤ (pos m) +ℤ pos m ≡ value
  back value m = omega (arith, ints)

  -- the order is written
  pub order-balances : (sent : List RepliedRequest) (customer one first other second total reply : List ℕ)
      → length customer ≡ 8 → length one ≡ 4 → length first ≡ 3 → length other ≡ 4 → length second ≡ 3 → length total ≡ 8
      → Taken (0 + pieces_of items one (value_of 0 first) + pieces_of items other (value_of 0 second)) sent
      → bytes_eq (take 4 reply) (codes "0000") ≡ true
      → Balance (sent ++ asked_of 1 (order_message customer one first other second total) reply ∷ [])
  order-balances sent customer one first other second total reply a b c d e f taken zero_code value =
      let message : List ℕ = order_message customer one first other second total in
      let m : ℕ = 0 + pieces_of items one (value_of 0 first) + pieces_of items other (value_of 0 second) in
      let orders : ordered_by items message ≡ m = omega (arith, message-orders customer one first other second total a b c d e f) in
      stepped-more sent (asked_of 1 message reply) value
      ∙ ap (λ z. supply_behind items z (asked_of 1 message reply)) (taken.steps value)
      ∙ by-code (bytes_eq (take 4 reply) (codes "0000")) zero_code (value +ℤ neg_ℤ (pos m)) (pos (ordered_by items message))
      ∙ ap (λ k. value +ℤ neg_ℤ (pos m) +ℤ pos k) orders
      ∙ back value m

  -- a delivery takes nothing, whatever the reply
  pub delivery-balances : (item qty reply : List ℕ) → length item ≡ 4 → length qty ≡ 3
      → Balance (asked_of 0 (fitted 4 (fitted 4 item) ++ fitted 4 (moved three (pieces qty))) reply ∷ [])
  delivery-balances item qty reply one two value =
      let got : List ℕ = moved three (pieces qty) in
      let change = given-change qty two in
      let item_is : fitted 4 (fitted 4 item) ≡ item = ap (fitted 4) (fitted-whole 4 item one) ∙ fitted-whole 4 item one in
      let change_is : fitted 4 got ≡ got = fitted-whole 4 got change.0 in
      let message : List ℕ = fitted 4 (fitted 4 item) ++ fitted 4 got in
      let takes : taken_by items message ≡ 0 =
      ap (λ xs. taken_by items (xs ++ fitted 4 got)) item_is ∙ ap (λ xs. taken_by items (item ++ xs)) change_is
      ∙ message-takes item got one change.0 ∙ more-by (begins_with 45 got) (value_of 0 (drop 1 got)) (value_of 0 qty) item change.1 in
      ap (λ k. if bytes_eq (take 4 reply) (codes "0000") then value +ℤ neg_ℤ (pos k) else value) takes
      ∙ either-way (bytes_eq (take 4 reply) (codes "0000")) value
