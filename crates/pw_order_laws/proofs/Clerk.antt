-- What ORDERS's statements have to meet, and that they do: the requests of each unit balance.
use Rattle.std.proofs.Common.{◌≡◌, ℕ, suc, ◌+◌, Bool, true, false, List, [], ◌∷◌, ◌++◌, length, take, drop, Some, None, refl, sym, ◌∙◌, subst}
use Rattle.std.specs.Prelude.{bytes_eq, codes}
use Rattle.std.proofs.lemmas.Bool.{false≢true, true≢false}
use Rattle.pw_code.specs.declared.field.ScreenTable.{ScreenTable}
use Rattle.pw_forms.specs.declared.statement.Statement.{Statement}
use Rattle.pw_forms.specs.declared.statement.Statement.{Row_of-Statement, end_of-Statement, more_of-Statement}
use Rattle.pw_invariants.specs.Requests.{RepliedRequest}
use Rattle.pw_number.specs.Arithmetic.{sized}
use Rattle.pw_order_laws.proofs.ClerkItems.{both, by-some, clerk_sizes, digit, digit_behind, is_blank, neither, no-pieces, with_classes}
use Rattle.pw_order_laws.proofs.ClerkTrees.{all_checked, all_taken, clerk_program, code as send_code, delivery_done, goods_totalled, line_taken, lines_checked, lines_taken, next_taken, order_answered, order_begun, order_checked, order_settled, order_totalled, pieces_priced, pieces_taken, stock_changed, store_full}
use Rattle.pw_order_laws.proofs.Requests.{Balance, Taken, asked_of, delivery-balances, order-balances, order_message, pieces, taken-more, taken-none, taken-received, taken-same, taken_from_zero}
use Rattle.pw_order_laws.proofs.Stock.{three}
use Rattle.pw_order_laws.specs.Stock.{pieces_of}
use Rattle.pw_picture.specs.Stored.{moved, value_of}
use Rattle.pw_picture.specs.Text.{fitted}
use Rattle.pw_program_laws.proofs.Texts.{length-fitted, parted, text_no, texts-parted}
use Rattle.pw_program_laws.specs.Meets.{received}
use Rattle.pw_program_laws.specs.Texts.{HaveSizes, with_moved}
use Rattle.pw_program_laws.proofs.requests.Codes.{reply-cases}
use Rattle.pw_program_laws.specs.Requests.{AloneMeets, BranchMeets, ParagraphMeets, ProgramMeets, RequesterMoment, TurnMeets, TurnsMeet, sent_behind}
use Rattle.pw_tree_meaning.specs.Program.{DeckModel}
use Rattle.pw_tree_meaning.specs.State.{Registers}
use Rattle.pw_tree_meaning.specs.Store.{Spot}
use Rattle.pw_tree_meaning.specs.Values.{Text'}

module _ (items : List ℕ → Bool) (screens : List ScreenTable) (rest : DeckModel) (stock_processes order_processes : ℕ) where
  abbrev deck : DeckModel
  deck = with_classes rest stock_processes order_processes

  abbrev Turn : ℕ → List ℕ → (RequesterMoment → Type 0) → RequesterMoment → Type 0
  Turn d name next k = TurnMeets deck (clerk_program screens) clerk_sizes (Balance items) d name next k

  -- statements of a paragraph in which so many PERFORMs may be active
  abbrev Part : ℕ → List Statement → (RequesterMoment → Type 0) → RequesterMoment → Type 0
  Part d statements next k =
      ParagraphMeets deck (clerk_program screens) clerk_sizes (Balance items) (TurnMeets deck (clerk_program screens) clerk_sizes (Balance items) d) statements next k

  -- those of a branch
  abbrev Row : {n : _} → ℕ → Row_of-Statement n → (RequesterMoment → Type 0) → RequesterMoment → Type 0
  Row d row next k =
      BranchMeets deck (clerk_program screens) clerk_sizes (Balance items) (TurnMeets deck (clerk_program screens) clerk_sizes (Balance items) d) row next k

  -- behind a request no transaction is open
  abbrev Done : RequesterMoment → Type 0
  Done after = (after.inside ≡ false) × (after.sent ≡ [])

  abbrev stock_spot : Spot
  stock_spot = record { at = 105; size = 10; picture = None }

  abbrev order_spot : Spot
  order_spot = record { at = 89; size = 8; picture = None }

  abbrev stock_request : List ℕ → List ℕ → List ℕ → RepliedRequest
  stock_request item change reply = asked_of 0 (item ++ change) reply

  -- a reply of STOCK-P in its items
  abbrev code_of : List ℕ → List ℕ
  code_of reply = fitted 4 (fitted 10 reply)

  abbrev price_of : List ℕ → List ℕ
  price_of reply = fitted 6 (drop 4 (fitted 10 reply))

  module _ (done item1 qty1 item2 qty2 customer one first other second : List ℕ) where
    abbrev at : Bool → List ℕ → List ℕ → List ℕ → List ℕ → List ℕ → List ℕ → List ℕ → List ℕ → List ℕ → List ℕ → List ℕ → List ℕ → List ℕ → List ℕ → Registers → List RepliedRequest → RequesterMoment
    at inside message filler digits total code number item change reply_code price amount goods discount i registers sent = record {
      texts = done ∷ message ∷ item1 ∷ qty1 ∷ item2 ∷ qty2 ∷ filler ∷ digits ∷ customer ∷ one ∷ first ∷ other ∷ second ∷ total
          ∷ code ∷ number ∷ item ∷ change ∷ reply_code ∷ price ∷ amount ∷ goods ∷ discount ∷ i ∷ [];
      registers = registers;
      inside = inside;
      sent = sent;
    }

    -- ---- CHANGE-STOCK

    change-meets : (d : ℕ) (inside : Bool) (next : RequesterMoment → Type 0) (message filler digits total code number item change reply_code price amount goods discount i : List ℕ) (registers : Registers) (sent : List RepliedRequest)
        → ((reply : List ℕ) → AloneMeets (Balance items) inside (stock_request item change reply))
        → ((reply : List ℕ) → bytes_eq (take 4 reply) (codes "0000") ≡ true
        → next (at inside message filler digits total code number item change (code_of reply) (price_of reply) amount goods discount i (record registers { termination = 1 }) (sent_behind inside sent (stock_request item change reply))))
        → ((reply : List ℕ)
        → next (at inside (fitted 40 (codes "NO SUCH ITEM")) filler digits total code number item change (code_of reply) (price_of reply) amount goods discount i (record registers { termination = 2 }) (sent_behind inside sent (stock_request item change reply))))
        → ((reply : List ℕ)
        → next (at inside message filler digits total code number item change (code_of reply) (price_of reply) amount goods discount i (record registers { termination = 3 }) (sent_behind inside sent (stock_request item change reply))))
        → ((reply : List ℕ)
        → next (at inside (fitted 40 (codes "STOCK RECORD IS DAMAGED: CALL THE STORE")) filler digits total code number item change (code_of reply) (price_of reply) amount goods discount i (record registers { termination = 4 }) (sent_behind inside sent (stock_request item change reply))))
        → Turn (suc d) (codes "CHANGE-STOCK") next (at inside message filler digits total code number item change reply_code price amount goods discount i registers sent)
    change-meets d inside next message filler digits total code number item change reply_code price amount goods discount i registers sent alone ok missing short damaged = λ reply. (
      alone reply,
      λ place found.
          reply-cases reply
          (λ (place : ℕ × Spot). Part d stock_changed next (record {
            texts = with_moved (Text' reply) place.1 clerk_sizes
                (done ∷ message ∷ item1 ∷ qty1 ∷ item2 ∷ qty2 ∷ filler ∷ digits ∷ customer ∷ one ∷ first ∷ other ∷ second ∷ total
                ∷ code ∷ number ∷ item ∷ change ∷ reply_code ∷ price ∷ amount ∷ goods ∷ discount ∷ i ∷ []);
            registers = record registers { termination = place.0 + 1 };
            inside = inside;
            sent = sent_behind inside sent (stock_request item change reply);
          }))
          (send_code 0 (codes "STOCK-REPLY")) (send_code 1 (codes "STOCK-REPLY") ∷ send_code 2 (codes "STOCK-REPLY") ∷ send_code 3 (codes "STOCK-REPLY") ∷ [])
          stock_spot (stock_spot ∷ stock_spot ∷ stock_spot ∷ []) place refl
          (λ zero_code. (λ x. absurd (false≢true x), λ x. (λ y. absurd (false≢true y), λ y. ok reply zero_code))) (
            (λ x. (λ y. absurd (false≢true y), λ y. missing reply), λ x. absurd (true≢false x)),
            (
              (λ x. absurd (false≢true x), λ x. (λ y. absurd (false≢true y), λ y. short reply)),
              (
                (λ x. absurd (false≢true x), λ x. (λ y. damaged reply, λ y. absurd (true≢false y))),
                tt,
              ),
            ),
          )
          found,
    )

    -- ---- the lines of an order

    module _ (customer_long : length customer ≡ 8) (one_long : length one ≡ 4) (first_long : length first ≡ 3) (other_long : length other ≡ 4)
        (second_long : length second ≡ 3) where
      -- the item and the pieces of a line
      abbrev item_of : Bool → List ℕ
      item_of false = one
      item_of true = other

      abbrev qty_of : Bool → List ℕ
      qty_of false = first
      qty_of true = second

      abbrev line_pieces : Bool → ℕ
      line_pieces line = pieces_of items (item_of line) (value_of 0 (qty_of line))

      -- what has to be met where I is so: an order that goes on, with these pieces taken, and one that was refused
      abbrev GoesOn : List ℕ → ℕ → (RequesterMoment → Type 0) → Type 0
      GoesOn i n next =
          (message filler digits total code number item change reply_code price amount goods discount : List ℕ) (registers : Registers) (sent : List RepliedRequest)
          → is_blank message ≡ true → length total ≡ 8 → Taken items n sent → next (at true message filler digits total code number item change reply_code price amount goods discount i registers sent)

      abbrev IsRefused : List ℕ → (RequesterMoment → Type 0) → Type 0
      IsRefused i next =
          (message filler digits total code number item change reply_code price amount goods discount : List ℕ) (registers : Registers) (sent : List RepliedRequest)
          → is_blank message ≡ false → next (at true message filler digits total code number item change reply_code price amount goods discount i registers sent)

      -- the pieces are priced, by the line
      priced : (line : Bool) (next : RequesterMoment → Type 0) (message filler digits total code number item change reply_code price amount goods discount : List ℕ) (registers : Registers) (sent : List RepliedRequest)
          → ((amount goods : List ℕ) → next (at true message filler digits total code number item change reply_code price amount goods discount (digit line) registers sent)) → IsRefused (digit line) next
          → Part 58 pieces_priced next (at true message filler digits total code number item change reply_code price amount goods discount (digit line) registers sent)
      priced false next message filler digits total code number item change reply_code price amount goods discount registers sent same large = (
        λ none. (λ e. large (fitted 40 (codes "ORDER IS TOO LARGE")) filler digits total code number item change reply_code price amount goods discount registers sent refl, λ goods' e. same amount (fitted 8 goods')),
        λ amount' is. (λ e. large (fitted 40 (codes "ORDER IS TOO LARGE")) filler digits total code number item change reply_code price (fitted 9 amount') goods discount registers sent refl, λ goods' e. same (fitted 9 amount') (fitted 8 goods')),
      )
      priced true next message filler digits total code number item change reply_code price amount goods discount registers sent same large = (
        λ none. (λ e. large (fitted 40 (codes "ORDER IS TOO LARGE")) filler digits total code number item change reply_code price amount goods discount registers sent refl, λ goods' e. same amount (fitted 8 goods')),
        λ amount' is. (λ e. large (fitted 40 (codes "ORDER IS TOO LARGE")) filler digits total code number item change reply_code price (fitted 9 amount') goods discount registers sent refl, λ goods' e. same (fitted 9 amount') (fitted 8 goods')),
      )

      -- a line that was refused is priced all the same
      refused-priced : (line : Bool) (next : RequesterMoment → Type 0) → IsRefused (digit line) next → (message filler digits total code number item change reply_code price amount goods discount : List ℕ) (registers : Registers) (sent : List RepliedRequest)
          → is_blank message ≡ false → Part 58 pieces_priced next (at true message filler digits total code number item change reply_code price amount goods discount (digit line) registers sent)
      refused-priced line next refused message filler digits total code number item change reply_code price amount goods discount registers sent is =
          priced line next message filler digits total code number item change reply_code price amount goods discount registers sent (λ amount' goods'. refused message filler digits total code number item change reply_code price (amount') (goods') discount registers sent is) refused

      -- a line is sent to STOCK-P
      pieces-sent : (line : Bool) (n : ℕ) (next : RequesterMoment → Type 0) → GoesOn (digit line) (n + line_pieces line) next → IsRefused (digit line) next
          → length (item_of line) ≡ 4 → length (qty_of line) ≡ 3 → (message filler digits total code number item change reply_code price amount goods discount : List ℕ) (registers : Registers) (sent : List RepliedRequest)
          → is_blank message ≡ true → length total ≡ 8 → Taken items n sent
          → (got : List ℕ) → received (Some three) (sized (taken_from_zero (qty_of line))) ≡ Some got
          → Turn 58 (codes "CHANGE-STOCK") (Part 58 pieces_taken next) (at true message filler digits total code number (fitted 4 (fitted 4 (item_of line))) (fitted 4 got) reply_code price amount goods discount (digit line) registers sent)
      pieces-sent line n next on refused item_long qty_long message filler digits total code number item change reply_code price amount goods discount registers sent blank long taken got is =
          change-meets 57 true (Part 58 pieces_taken next) message filler digits total code number (fitted 4 (fitted 4 (item_of line))) (fitted 4 got) reply_code price amount goods discount (digit line) registers sent (λ reply. tt)
          (λ reply zero_code. (
            λ x. absurd (false≢true x),
            λ x.
                priced line next message filler digits total code number (fitted 4 (fitted 4 (item_of line))) (fitted 4 got) (code_of reply) (price_of reply) amount goods discount (record registers { termination = 1 }) (sent ++ stock_request (fitted 4 (fitted 4 (item_of line))) (fitted 4 got) reply ∷ [])
                (λ amount' goods'.
                on message filler digits total code number (fitted 4 (fitted 4 (item_of line))) (fitted 4 got) (code_of reply) (price_of reply) (amount') (goods') discount (record registers { termination = 1 }) (sent ++ stock_request (fitted 4 (fitted 4 (item_of line))) (fitted 4 got) reply ∷ []) blank long
                (taken-more items n sent (item_of line) (qty_of line) got reply taken item_long qty_long is zero_code))
                refused,
          ))
          (λ reply. (
            λ x. absurd (false≢true x),
            λ x. refused-priced line next refused (fitted 40 (codes "NO SUCH ITEM")) filler digits total code number (fitted 4 (fitted 4 (item_of line))) (fitted 4 got) (code_of reply) (price_of reply) amount goods discount (record registers { termination = 2 }) (sent ++ stock_request (fitted 4 (fitted 4 (item_of line))) (fitted 4 got) reply ∷ []) refl,
          ))
          (λ reply. (
            λ x. (
              λ y. tt,
              λ y. refused-priced line next refused (fitted 40 (codes "NOT ENOUGH IN STOCK")) filler digits total code number (fitted 4 (fitted 4 (item_of line))) (fitted 4 got) (code_of reply) (price_of reply) amount goods discount (record registers { termination = 3 }) (sent ++ stock_request (fitted 4 (fitted 4 (item_of line))) (fitted 4 got) reply ∷ []) refl,
            ),
            λ x. absurd (true≢false x),
          ))
          (λ reply. (
            λ x. absurd (false≢true x),
            λ x. refused-priced line next refused (fitted 40 (codes "STOCK RECORD IS DAMAGED: CALL THE STORE")) filler digits total code number (fitted 4 (fitted 4 (item_of line))) (fitted 4 got) (code_of reply) (price_of reply) amount goods discount (record registers { termination = 4 }) (sent ++ stock_request (fitted 4 (fitted 4 (item_of line))) (fitted 4 got) reply ∷ []) refl,
          ))

      -- the pieces are taken
      pieces-meet : (line : Bool) (n : ℕ) (next : RequesterMoment → Type 0) → GoesOn (digit line) (n + line_pieces line) next → IsRefused (digit line) next
          → (message filler digits total code number item change reply_code price amount goods discount : List ℕ) (registers : Registers) (sent : List RepliedRequest)
          → is_blank message ≡ true → length total ≡ 8 → Taken items n sent → Turn 59 (codes "TAKE-PIECES") next (at true message filler digits total code number item change reply_code price amount goods discount (digit line) registers sent)
      pieces-meet false n next on refused message filler digits total code number item change reply_code price amount goods discount registers sent blank long taken = (
        λ none.
            let is : received (Some three) (sized (taken_from_zero first)) ≡ None = none in
            let no_error : None ≡ Some (moved three (taken_from_zero first)) = sym is ∙ taken-received first first_long in
            absurd (cc no_error),
        λ got is. pieces-sent false n next on refused one_long first_long message filler digits total code number item change reply_code price amount goods discount registers sent blank long taken got is,
      )
      pieces-meet true n next on refused message filler digits total code number item change reply_code price amount goods discount registers sent blank long taken = (
        λ none.
            let is : received (Some three) (sized (taken_from_zero second)) ≡ None = none in
            let no_error : None ≡ Some (moved three (taken_from_zero second)) = sym is ∙ taken-received second second_long in
            absurd (cc no_error),
        λ got is. pieces-sent true n next on refused other_long second_long message filler digits total code number item change reply_code price amount goods discount registers sent blank long taken got is,
      )

      -- ADD 1 TO I
      counted : (d : ℕ) (line inside : Bool) (next : RequesterMoment → Type 0) (message filler digits total code number item change reply_code price amount goods discount : List ℕ) (registers : Registers) (sent : List RepliedRequest)
          → next (at inside message filler digits total code number item change reply_code price amount goods discount (digit_behind line) registers sent) → Part d line_taken next (at inside message filler digits total code number item change reply_code price amount goods discount (digit line) registers sent)
      counted d false inside next message filler digits total code number item change reply_code price amount goods discount registers sent now = (
        λ none. let is : Some (codes "2") ≡ None = none in absurd cc,
        λ chars e. subst (λ c. next (at inside message filler digits total code number item change reply_code price amount goods discount (fitted 1 c) registers sent)) (by-some (codes "2") chars e) now,
      )
      counted d true inside next message filler digits total code number item change reply_code price amount goods discount registers sent now = (
        λ none. let is : Some (codes "3") ≡ None = none in absurd cc,
        λ chars e. subst (λ c. next (at inside message filler digits total code number item change reply_code price amount goods discount (fitted 1 c) registers sent)) (by-some (codes "3") chars e) now,
      )

      line-meets : (line : Bool) (n : ℕ) (next : RequesterMoment → Type 0) → GoesOn (digit_behind line) (n + line_pieces line) next → IsRefused (digit_behind line) next
          → (message filler digits total code number item change reply_code price amount goods discount : List ℕ) (registers : Registers) (sent : List RepliedRequest)
          → is_blank message ≡ true → length total ≡ 8 → Taken items n sent → Turn 60 (codes "TAKE-LINE") next (at true message filler digits total code number item change reply_code price amount goods discount (digit line) registers sent)
      line-meets false n next on refused message filler digits total code number item change reply_code price amount goods discount registers sent blank long taken = (
        λ some.
            pieces-meet false n (Part 59 line_taken next)
            (λ message' filler' digits' total' code' number' item' change' reply_code' price' amount' goods' discount' registers' sent' is_blank' long' taken'.
            counted 59 false true next message' filler' digits' total' code' number' item' change' reply_code' price' amount' goods' discount' registers' sent' (on message' filler' digits' total' code' number' item' change' reply_code' price' amount' goods' discount' registers' sent' is_blank' long' taken'))
            (λ message' filler' digits' total' code' number' item' change' reply_code' price' amount' goods' discount' registers' sent' is'. counted 59 false true next message' filler' digits' total' code' number' item' change' reply_code' price' amount' goods' discount' registers' sent' (refused message' filler' digits' total' code' number' item' change' reply_code' price' amount' goods' discount' registers' sent' is'))
            message filler digits total code number item change reply_code price amount goods discount registers sent blank long taken,
        λ none. counted 59 false true next message filler digits total code number item change reply_code price amount goods discount registers sent (on message filler digits total code number item change reply_code price amount goods discount registers sent blank long (taken-same items n sent one first taken (no-pieces first none))),
      )
      line-meets true n next on refused message filler digits total code number item change reply_code price amount goods discount registers sent blank long taken = (
        λ some.
            pieces-meet true n (Part 59 line_taken next)
            (λ message' filler' digits' total' code' number' item' change' reply_code' price' amount' goods' discount' registers' sent' is_blank' long' taken'.
            counted 59 true true next message' filler' digits' total' code' number' item' change' reply_code' price' amount' goods' discount' registers' sent' (on message' filler' digits' total' code' number' item' change' reply_code' price' amount' goods' discount' registers' sent' is_blank' long' taken'))
            (λ message' filler' digits' total' code' number' item' change' reply_code' price' amount' goods' discount' registers' sent' is'. counted 59 true true next message' filler' digits' total' code' number' item' change' reply_code' price' amount' goods' discount' registers' sent' (refused message' filler' digits' total' code' number' item' change' reply_code' price' amount' goods' discount' registers' sent' is'))
            message filler digits total code number item change reply_code price amount goods discount registers sent blank long taken,
        λ none. counted 59 true true next message filler digits total code number item change reply_code price amount goods discount registers sent (on message filler digits total code number item change reply_code price amount goods discount registers sent blank long (taken-same items n sent other second taken (no-pieces second none))),
      )

      -- ---- the order

      -- a refused one is dropped
      dropped : (message filler digits total code number item change reply_code price amount goods discount : List ℕ) (i : List ℕ) (registers : Registers) (sent : List RepliedRequest) → is_blank message ≡ false → Part 60 order_settled Done (at true message filler digits total code number item change reply_code price amount goods discount i registers sent)
      dropped message filler digits total code number item change reply_code price amount goods discount i registers sent is = (λ x. absurd (false≢true (sym is ∙ x)), λ x. (refl, refl))

      skipped : (message filler digits total code number item change reply_code price amount goods discount : List ℕ) (i : List ℕ) (registers : Registers) (sent : List RepliedRequest) → is_blank message ≡ false → Part 60 lines_taken Done (at true message filler digits total code number item change reply_code price amount goods discount i registers sent)
      skipped message filler digits total code number item change reply_code price amount goods discount i registers sent is =
          (λ x. absurd (false≢true (sym is ∙ x)), λ x. (λ y. absurd (false≢true (sym is ∙ y)), λ y. dropped message filler digits total code number item change reply_code price amount goods discount i registers sent is))

      abbrev all_pieces : ℕ
      all_pieces = 0 + line_pieces false + line_pieces true

      abbrev order_request : List ℕ → List ℕ → RepliedRequest
      order_request total reply = asked_of 1 (order_message customer one first other second total) reply

      -- it is written
      written : (message filler digits total code number item change reply_code price amount goods discount : List ℕ) (i : List ℕ) (registers : Registers) (sent : List RepliedRequest) → is_blank message ≡ true → length total ≡ 8 → Taken items all_pieces sent
          → Turn 60 (codes "WRITE-ORDER") (Part 60 order_settled Done) (at true message filler digits total code number item change reply_code price amount goods discount i registers sent)
      written message filler digits total code number item change reply_code price amount goods discount i registers sent blank long taken = λ reply. (
        tt,
        λ place found.
            reply-cases reply
            (λ (place : ℕ × Spot). Part 59 order_answered (Part 60 order_settled Done) (record {
              texts = with_moved (Text' reply) place.1 clerk_sizes
                  (done ∷ message ∷ item1 ∷ qty1 ∷ item2 ∷ qty2 ∷ filler ∷ digits ∷ customer ∷ one ∷ first ∷ other ∷ second ∷ total
                  ∷ code ∷ number ∷ item ∷ change ∷ reply_code ∷ price ∷ amount ∷ goods ∷ discount ∷ i ∷ []);
              registers = record registers { termination = place.0 + 1 };
              inside = true;
              sent = sent ++ order_request total reply ∷ [];
            }))
            (send_code 0 (codes "ORDER-REPLY")) (send_code 1 (codes "ORDER-REPLY") ∷ []) order_spot (order_spot ∷ []) place refl
            (λ zero_code. (
              λ x. absurd (false≢true x),
              λ x. (
                λ y. (
                  order-balances items sent customer one first other second total reply customer_long one_long first_long other_long second_long long taken zero_code,
                  (refl, refl),
                ),
                λ y. absurd (true≢false (sym blank ∙ y)),
              ),
            )) (
              (λ x. (λ y. absurd (false≢true y), λ y. (refl, refl)), λ x. absurd (true≢false x)),
              tt,
            )
            found,
      )

      -- its total is added up
      totalled : (message filler digits total code number item change reply_code price amount goods discount : List ℕ) (i : List ℕ) (registers : Registers) (sent : List RepliedRequest) → is_blank message ≡ true → length total ≡ 8 → Taken items all_pieces sent
          → Part 59 goods_totalled (Part 60 order_totalled Done) (at true message filler digits total code number item change reply_code price amount goods discount i registers sent)
      totalled message filler digits total code number item change reply_code price amount goods discount i registers sent blank long taken = (
        λ none. (λ x. written message filler digits total code number item change reply_code price amount goods discount i registers sent blank long taken, λ x. absurd (true≢false (sym blank ∙ x))),
        λ total' is. (
          λ x. written message filler digits (fitted 8 total') code number item change reply_code price amount goods discount i registers sent blank (length-fitted 8 total') taken,
          λ x. absurd (true≢false (sym blank ∙ x)),
        ),
      )

      added-up : (message filler digits total code number item change reply_code price amount goods discount : List ℕ) (i : List ℕ) (registers : Registers) (sent : List RepliedRequest) → is_blank message ≡ true → length total ≡ 8 → Taken items all_pieces sent
          → Part 60 lines_taken Done (at true message filler digits total code number item change reply_code price amount goods discount i registers sent)
      added-up message filler digits total code number item change reply_code price amount goods discount i registers sent blank long taken = (
        λ x. (
          λ y. (
            λ none. totalled message filler digits total code number item change reply_code price amount goods discount i registers sent blank long taken,
            λ discount' is. totalled message filler digits total code number item change reply_code price amount goods (fitted 8 discount') i registers sent blank long taken,
          ),
          λ y. totalled message filler digits total code number item change reply_code price amount goods discount i registers sent blank long taken,
        ),
        λ x. absurd (true≢false (sym blank ∙ x)),
      )

      -- ---- ENTER-ORDER

      -- the turns of its loop, and what is behind it
      abbrev Turns : ℕ → (RequesterMoment → Type 0) → RequesterMoment → Type 0
      Turns turns next k =
          TurnsMeet deck (clerk_program screens) clerk_sizes (Balance items) (TurnMeets deck (clerk_program screens) clerk_sizes (Balance items) 60) turns all_taken (codes "TAKE-LINE") next k

      module _ (next : RequesterMoment → Type 0) (on : GoesOn (codes "3") all_pieces next) (refused_first : IsRefused (codes "2") next) (refused : IsRefused (codes "3") next) where
        -- a test of the loop: behind so many turns more
        ended : (turns : ℕ) → GoesOn (codes "3") all_pieces (Turns (suc turns) next)
        ended turns message filler digits total code number item change reply_code price amount goods discount registers sent blank long taken = (λ x. on message filler digits total code number item change reply_code price amount goods discount registers sent blank long taken, λ x. absurd (true≢false x))

        ended-refused : (turns : ℕ) → IsRefused (codes "3") (Turns (suc turns) next)
        ended-refused turns message filler digits total code number item change reply_code price amount goods discount registers sent is = (λ x. refused message filler digits total code number item change reply_code price amount goods discount registers sent is, λ x. absurd (true≢false x))

        left-refused : (turns : ℕ) → IsRefused (codes "2") (Turns (suc turns) next)
        left-refused turns message filler digits total code number item change reply_code price amount goods discount registers sent is = (λ x. refused_first message filler digits total code number item change reply_code price amount goods discount registers sent is, λ x. absurd (neither (is_blank message) is x))

        goes-on : (turns : ℕ) (line : Bool) (message filler digits total code number item change reply_code price amount goods discount : List ℕ) (registers : Registers) (sent : List RepliedRequest) → is_blank message ≡ true
            → Turn 60 (codes "TAKE-LINE") (Turns turns next) (at true message filler digits total code number item change reply_code price amount goods discount (digit line) registers sent) → Turns (suc turns) next (at true message filler digits total code number item change reply_code price amount goods discount (digit line) registers sent)
        goes-on turns false message filler digits total code number item change reply_code price amount goods discount registers sent blank now = (λ x. absurd (both (is_blank message) blank x), λ x. now)
        goes-on turns true message filler digits total code number item change reply_code price amount goods discount registers sent blank now = (λ x. absurd (both (is_blank message) blank x), λ x. now)

        second-line : GoesOn (codes "2") (0 + line_pieces false) (Turns 2 next)
        second-line message filler digits total code number item change reply_code price amount goods discount registers sent blank long taken =
            goes-on 1 true message filler digits total code number item change reply_code price amount goods discount registers sent blank
            (line-meets true (0 + line_pieces false) (Turns 1 next) (ended 0) (ended-refused 0) message filler digits total code number item change reply_code price amount goods discount registers sent blank long taken)

        both-lines : (message filler digits total code number item change reply_code price amount goods discount : List ℕ) (registers : Registers) → is_blank message ≡ true → length total ≡ 8 → Turns 3 next (at true message filler digits total code number item change reply_code price amount goods discount (codes "1") registers [])
        both-lines message filler digits total code number item change reply_code price amount goods discount registers blank long =
            goes-on 2 false message filler digits total code number item change reply_code price amount goods discount registers [] blank
            (line-meets false 0 (Turns 2 next) second-line (left-refused 1) message filler digits total code number item change reply_code price amount goods discount registers [] blank long (taken-none items))

      begun : (message filler digits total code number item change reply_code price amount goods discount : List ℕ) (i : List ℕ) (registers : Registers) → is_blank message ≡ true → length total ≡ 8 → Part 60 order_begun Done (at true message filler digits total code number item change reply_code price amount goods discount i registers [])
      begun message filler digits total code number item change reply_code price amount goods discount i registers blank long = (
        3,
        both-lines (Part 60 lines_taken Done)
            (λ message' filler' digits' total' code' number' item' change' reply_code' price' amount' goods' discount' registers' sent' blank' long' taken'. added-up message' filler' digits' total' code' number' item' change' reply_code' price' amount' goods' discount' (codes "3") registers' sent' blank' long' taken')
            (λ message' filler' digits' total' code' number' item' change' reply_code' price' amount' goods' discount' registers' sent' is'. skipped message' filler' digits' total' code' number' item' change' reply_code' price' amount' goods' discount' (codes "2") registers' sent' is')
            (λ message' filler' digits' total' code' number' item' change' reply_code' price' amount' goods' discount' registers' sent' is'. skipped message' filler' digits' total' code' number' item' change' reply_code' price' amount' goods' discount' (codes "3") registers' sent' is')
            message filler digits total code number item change reply_code price amount goods discount registers blank long,
      )

      begun-refused : (message filler digits total code number item change reply_code price amount goods discount : List ℕ) (i : List ℕ) (registers : Registers) → is_blank message ≡ false → Part 60 order_begun Done (at true message filler digits total code number item change reply_code price amount goods discount i registers [])
      begun-refused message filler digits total code number item change reply_code price amount goods discount i registers is = (
        1,
        (λ x. skipped message filler digits total code number item change reply_code price amount goods discount (codes "1") registers [] is, λ x. absurd (neither (is_blank message) is x)),
      )

      -- whatever the restarts
      entered : (message filler digits total code number item change reply_code price amount goods discount : List ℕ) (i : List ℕ) (registers : Registers) → is_blank message ≡ true → length total ≡ 8 → Turn 61 (codes "ENTER-ORDER") Done (at false message filler digits total code number item change reply_code price amount goods discount i registers [])
      entered message filler digits total code number item change reply_code price amount goods discount i registers blank long = λ r. (
        λ x. (
          λ y. begun-refused (fitted 40 (codes "THE STOCK IS TOO BUSY: TRY LATER")) filler digits total code number item change reply_code price amount goods discount i (record registers { restarts = r }) refl,
          λ y. begun message filler digits total code number item change reply_code price amount goods discount i (record registers { restarts = r }) blank long,
        ),
        λ x. (
          λ y. begun-refused (fitted 40 (codes "THE STOCK IS TOO BUSY: TRY LATER")) filler digits total code number item change reply_code price amount goods discount i (record registers { restarts = r }) refl,
          λ y. begun message filler digits total code number item change reply_code price amount goods discount i (record registers { restarts = r }) blank long,
        ),
      )

      -- ---- TAKE-ORDER, behind its tests of the customer and the pieces

      abbrev Checks : ℕ → (RequesterMoment → Type 0) → RequesterMoment → Type 0
      Checks turns next k =
          TurnsMeet deck (clerk_program screens) clerk_sizes (Balance items) (TurnMeets deck (clerk_program screens) clerk_sizes (Balance items) 61) turns all_checked (codes "CHECK-LINE") next k

      -- what has to be met where I is so
      abbrev IsChecked : List ℕ → (RequesterMoment → Type 0) → Type 0
      IsChecked i next = (message filler digits total code number item change reply_code price amount goods discount : List ℕ) (registers : Registers) → length total ≡ 8 → next (at false message filler digits total code number item change reply_code price amount goods discount i registers [])

      checked : (line : Bool) (next : RequesterMoment → Type 0) → IsChecked (digit_behind line) next → (message filler digits total code number item change reply_code price amount goods discount : List ℕ) (registers : Registers) → length total ≡ 8
          → Turn 61 (codes "CHECK-LINE") next (at false message filler digits total code number item change reply_code price amount goods discount (digit line) registers [])
      checked false next on message filler digits total code number item change reply_code price amount goods discount registers long = (
        λ x. counted 60 false false next (fitted 40 (codes "AN ITEM IS A LETTER AND THREE DIGITS")) (fitted 1 (fitted 4 one)) (fitted 3 (drop 1 (fitted 4 one))) total code number item change reply_code price amount goods discount registers [] (on (fitted 40 (codes "AN ITEM IS A LETTER AND THREE DIGITS")) (fitted 1 (fitted 4 one)) (fitted 3 (drop 1 (fitted 4 one))) total code number item change reply_code price amount goods discount registers long),
        λ x. counted 60 false false next message (fitted 1 (fitted 4 one)) (fitted 3 (drop 1 (fitted 4 one))) total code number item change reply_code price amount goods discount registers [] (on message (fitted 1 (fitted 4 one)) (fitted 3 (drop 1 (fitted 4 one))) total code number item change reply_code price amount goods discount registers long),
      )
      checked true next on message filler digits total code number item change reply_code price amount goods discount registers long = (
        λ x. counted 60 true false next (fitted 40 (codes "AN ITEM IS A LETTER AND THREE DIGITS")) (fitted 1 (fitted 4 other)) (fitted 3 (drop 1 (fitted 4 other))) total code number item change reply_code price amount goods discount registers [] (on (fitted 40 (codes "AN ITEM IS A LETTER AND THREE DIGITS")) (fitted 1 (fitted 4 other)) (fitted 3 (drop 1 (fitted 4 other))) total code number item change reply_code price amount goods discount registers long),
        λ x. counted 60 true false next message (fitted 1 (fitted 4 other)) (fitted 3 (drop 1 (fitted 4 other))) total code number item change reply_code price amount goods discount registers [] (on message (fitted 1 (fitted 4 other)) (fitted 3 (drop 1 (fitted 4 other))) total code number item change reply_code price amount goods discount registers long),
      )

      module _ (next : RequesterMoment → Type 0) (on : IsChecked (codes "3") next) where
        all-checked : (turns : ℕ) → IsChecked (codes "3") (Checks (suc turns) next)
        all-checked turns message filler digits total code number item change reply_code price amount goods discount registers long = (λ x. on message filler digits total code number item change reply_code price amount goods discount registers long, λ x. absurd (true≢false x))

        check-goes-on : (turns : ℕ) (line : Bool) (message filler digits total code number item change reply_code price amount goods discount : List ℕ) (registers : Registers)
            → Turn 61 (codes "CHECK-LINE") (Checks turns next) (at false message filler digits total code number item change reply_code price amount goods discount (digit line) registers []) → Checks (suc turns) next (at false message filler digits total code number item change reply_code price amount goods discount (digit line) registers [])
        check-goes-on turns false message filler digits total code number item change reply_code price amount goods discount registers now = (λ x. absurd (false≢true x), λ x. now)
        check-goes-on turns true message filler digits total code number item change reply_code price amount goods discount registers now = (λ x. absurd (false≢true x), λ x. now)

        second-checked : IsChecked (codes "2") (Checks 2 next)
        second-checked message filler digits total code number item change reply_code price amount goods discount registers long = check-goes-on 1 true message filler digits total code number item change reply_code price amount goods discount registers (checked true (Checks 1 next) (all-checked 0) message filler digits total code number item change reply_code price amount goods discount registers long)

        both-checked : (message filler digits total code number item change reply_code price amount goods discount : List ℕ) (registers : Registers) → length total ≡ 8 → Checks 3 next (at false message filler digits total code number item change reply_code price amount goods discount (codes "1") registers [])
        both-checked message filler digits total code number item change reply_code price amount goods discount registers long = check-goes-on 2 false message filler digits total code number item change reply_code price amount goods discount registers (checked false (Checks 2 next) second-checked message filler digits total code number item change reply_code price amount goods discount registers long)

      lines-checked : (message filler digits total code number item change reply_code price amount goods discount : List ℕ) (i : List ℕ) (registers : Registers) → length total ≡ 8 → Part 61 lines_checked Done (at false message filler digits total code number item change reply_code price amount goods discount i registers [])
      lines-checked message filler digits total code number item change reply_code price amount goods discount i registers long = (
        3,
        both-checked (Part 61 order_checked Done)
            (λ message' filler' digits' total' code' number' item' change' reply_code' price' amount' goods' discount' registers' long'. (λ y. entered message' filler' digits' total' code' number' item' change' reply_code' price' amount' goods' discount' (codes "3") registers' y long', λ y. (refl, refl)))
            message filler digits total code number item change reply_code price amount goods discount registers long,
      )

    -- ---- BOOK-DELIVERY

    booked : (message filler digits total code number item change reply_code price amount goods discount : List ℕ) (i : List ℕ) (registers : Registers) → length item1 ≡ 4 → length qty1 ≡ 3 → Turn 62 (codes "BOOK-DELIVERY") Done (at false message filler digits total code number item change reply_code price amount goods discount i registers [])
    booked message filler digits total code number item change reply_code price amount goods discount i registers item_long qty_long = (
      λ x. (λ y. (refl, refl), λ y. (refl, refl)),
      λ x.
          change-meets 60 false (Row 61 (more_of-Statement store_full end_of-Statement) (Part 61 delivery_done Done))
          message filler digits total code number (fitted 4 (fitted 4 item1)) (fitted 4 (moved three (pieces qty1))) reply_code price amount goods discount i registers [] (λ reply. delivery-balances items item1 qty1 reply item_long qty_long)
          (λ reply zero_code. (λ y. absurd (false≢true y), λ y. (λ z. (refl, refl), λ z. (refl, refl))))
          (λ reply. (λ y. absurd (false≢true y), λ y. (λ z. (refl, refl), λ z. (refl, refl))))
          (λ reply. (λ y. (λ z. (refl, refl), λ z. (refl, refl)), λ y. absurd (true≢false y)))
          (λ reply. (λ y. absurd (false≢true y), λ y. (λ z. (refl, refl), λ z. (refl, refl)))),
    )

  -- ---- a request

  -- the lines of an order as they are moved from TYPED
  abbrev typed : List ℕ → List ℕ → List ℕ → List ℕ → List ℕ
  typed item1 qty1 item2 qty2 = fitted 14 (item1 ++ (qty1 ++ (item2 ++ qty2)))

  ordered : (done item1 qty1 item2 qty2 customer one first other second : List ℕ) → length customer ≡ 8
      → (message filler digits total code number item change reply_code price amount goods discount : List ℕ) (i : List ℕ) (registers : Registers) → length total ≡ 8
      → Turn 62 (codes "TAKE-ORDER") Done (at done item1 qty1 item2 qty2 customer one first other second false message filler digits total code number item change reply_code price amount goods discount i registers [])
  ordered done item1 qty1 item2 qty2 customer one first other second customer_long message filler digits total code number item change reply_code price amount goods discount i registers long =
      let all : List ℕ = typed item1 qty1 item2 qty2 in
      let checks : (message : List ℕ)
      → Part 61 lines_checked Done
      (at done item1 qty1 item2 qty2 customer (fitted 4 all) (fitted 3 (drop 4 all)) (fitted 4 (drop 3 (drop 4 all))) (fitted 3 (drop 4 (drop 3 (drop 4 all)))) false message filler digits total code number item change reply_code price amount goods discount i registers []) =
      λ message.
      lines-checked done item1 qty1 item2 qty2 customer (fitted 4 all) (fitted 3 (drop 4 all)) (fitted 4 (drop 3 (drop 4 all))) (fitted 3 (drop 4 (drop 3 (drop 4 all)))) customer_long
      (length-fitted 4 all) (length-fitted 3 (drop 4 all)) (length-fitted 4 (drop 3 (drop 4 all))) (length-fitted 3 (drop 4 (drop 3 (drop 4 all)))) message filler digits total code number item change reply_code price amount goods discount i registers long in (
        λ x. (λ y. checks (fitted 40 (codes "HOW MANY PIECES?")), λ y. checks (fitted 40 (codes "WHO ORDERS?"))),
        λ x. (λ y. checks (fitted 40 (codes "HOW MANY PIECES?")), λ y. checks message),
      )

  -- behind an entry
  abbrev Entered : Registers → List (List ℕ) → Type 0
  Entered registers all = Part 63 next_taken Done (record { texts = all; registers = registers; inside = false; sent = [] })

  request-meets : (done item1 qty1 item2 qty2 customer one first other second : List ℕ) → length customer ≡ 8 → length item1 ≡ 4 → length qty1 ≡ 3
      → (message filler digits total code number item change reply_code price amount goods discount : List ℕ) (i : List ℕ) (registers : Registers)
      → Part 63 next_taken Done (at done item1 qty1 item2 qty2 customer one first other second false message filler digits total code number item change reply_code price amount goods discount i registers [])
  request-meets done item1 qty1 item2 qty2 customer one first other second customer_long item_long qty_long message filler digits total code number item change reply_code price amount goods discount i registers = (
    λ x. (refl, refl),
    λ x. (
      ordered done item1 qty1 item2 qty2 customer one first other second customer_long
          (fitted 40 []) filler digits (codes "00000000") code (codes "0000") item change reply_code price amount (codes "00000000") (codes "+0000000") i registers refl,
      (
        booked done item1 qty1 item2 qty2 customer one first other second
            (fitted 40 []) filler digits (codes "00000000") code (codes "0000") item change reply_code price amount (codes "00000000") (codes "+0000000") i registers item_long qty_long,
        (refl, refl),
      ),
    ),
  )

  entry-meets : (all : List (List ℕ)) (registers : Registers) → HaveSizes clerk_sizes all → Entered registers all
  entry-meets all registers sized =
      let same = texts-parted clerk_sizes all sized in
      let parts : HaveSizes clerk_sizes (parted clerk_sizes all) = subst (HaveSizes clerk_sizes) same sized in
      subst (Entered registers) (sym same)
      (request-meets (text_no 0 all) (text_no 2 all) (text_no 3 all) (text_no 4 all) (text_no 5 all) (text_no 8 all) (text_no 9 all) (text_no 10 all) (text_no 11 all) (text_no 12 all) parts.1.1.1.1.1.1.1.1.0 parts.1.1.0 parts.1.1.1.0
      (text_no 1 all) (text_no 6 all) (text_no 7 all) (text_no 13 all) (text_no 14 all) (text_no 15 all) (text_no 16 all) (text_no 17 all) (text_no 18 all) (text_no 19 all) (text_no 20 all) (text_no 21 all) (text_no 22 all) (text_no 23 all) registers)

  pub clerk-meets : ProgramMeets deck (clerk_program screens) clerk_sizes (Balance items)
  clerk-meets = (0, λ all registers sized. (λ others after_registers others_sized. entry-meets others after_registers others_sized, tt))
