-- What TELLER's statements have to meet, and that they do: the requests of each unit balance.
use Rattle.std.proofs.Common.{◌≡◌, ℕ, ◌+◌, Bool, true, false, List, [], ◌∷◌, ◌++◌, length, take, replicate, Some, None, pos, neg_ℤ, ◌+ℤ◌, refl, sym, ap, ◌∙◌, subst}
use Rattle.std.specs.Prelude.{bytes_eq, codes}
use Rattle.std.specs.Ordering.{is_eq}
use Rattle.std.proofs.lemmas.Bool.{false≢true, true≢false}
use Rattle.pw_bank_laws.proofs.Amounts.{Balance, Posted, amount_of, asked_of, credit-first, credit-value, debit-first, debit-received, debit-value, debit_of, posting-posts, posting_of}
use Rattle.pw_bank_laws.proofs.Numbers.{seven}
use Rattle.pw_bank_laws.proofs.Tellers.{code, money_moved, money_settled, next_shown, next_taken, post_answered, teller_program}
use Rattle.pw_program_laws.proofs.Trees.{move, own}
use Rattle.pw_bank_laws.specs.Servers.{BankChoices}
use Rattle.pw_bank_laws.specs.Teller.{teller_bank}
use Rattle.pw_code.specs.declared.field.ScreenTable.{ScreenTable}
use Rattle.pw_forms.specs.declared.statement.Statement.{Statement}
use Rattle.pw_forms.specs.declared.statement.Statement as form
use Rattle.pw_forms.specs.declared.statement.Statement.{Row_of-Statement, end_of-Statement, more_of-Statement}
use Rattle.pw_invariants.specs.Requests.{RepliedRequest}
use Rattle.pw_number.specs.Arithmetic.{sized}
use Rattle.pw_picture.specs.Stored.{moved, value_of}
use Rattle.pw_picture.specs.Text.{fitted}
use Rattle.pw_picture.specs.declared.picture.Picture.TheVariants.{Text as TextPicture}
use Rattle.pw_program_laws.proofs.Texts.{length-fitted, parted, text_no, texts-parted}
use Rattle.pw_program_laws.specs.Meets.{received}
use Rattle.pw_program_laws.specs.Texts.{HaveSizes, with_moved}
use Rattle.pw_program_laws.proofs.requests.Codes.{reply-cases}
use Rattle.pw_program_laws.specs.Requests.{BranchMeets, ParagraphMeets, ProgramMeets, RequesterMoment, TurnMeets}
use Rattle.pw_tree_meaning.specs.Conditions.{compared}
use Rattle.pw_tree_meaning.specs.State.{Registers}
use Rattle.pw_tree_meaning.specs.Store.{Spot}
use Rattle.pw_tree_meaning.specs.Values.{Chars, Spaces', Text'}

-- the sizes of the items of TELLER
abbrev pub teller_sizes : List ℕ
teller_sizes = 1 ∷ 40 ∷ 4 ∷ 4 ∷ 7 ∷ 1 ∷ 4 ∷ 4 ∷ 8 ∷ 36 ∷ 36 ∷ 4 ∷ 15 ∷ 9 ∷ 8 ∷ 4 ∷ 4 ∷ 10 ∷ []

-- the test of MESSAGE, and SPACES in it
abbrev is_blank : List ℕ → Bool
is_blank message = is_eq (compared (Chars (Some (TextPicture 40)) message) Spaces')

abbrev blank : List ℕ
blank = replicate 40 32

-- the item of the answers
abbrev answer_spot : Spot
answer_spot = record { at = 73; size = 36; picture = Some (TextPicture 36) }

-- a text of an account's number, and one of an answer, as they are moved
abbrev number_moved : List ℕ → List ℕ
number_moved text = fitted 4 (fitted 4 text)

abbrev answer_moved : List ℕ → List ℕ
answer_moved text = fitted 36 (fitted 36 text)

module _ (screens : List ScreenTable) (bank : BankChoices) where
  abbrev Turn : ℕ → List ℕ → (RequesterMoment → Type 0) → RequesterMoment → Type 0
  Turn d name next k = TurnMeets (teller_bank screens bank) (teller_program screens) teller_sizes Balance d name next k

  -- statements of a paragraph in which so many PERFORMs may be active
  abbrev Part : ℕ → List Statement → (RequesterMoment → Type 0) → RequesterMoment → Type 0
  Part d statements next k =
      ParagraphMeets (teller_bank screens bank) (teller_program screens) teller_sizes Balance (TurnMeets (teller_bank screens bank) (teller_program screens) teller_sizes Balance d) statements next k

  -- those of a branch
  abbrev Row : {n : _} → ℕ → Row_of-Statement n → (RequesterMoment → Type 0) → RequesterMoment → Type 0
  Row d row next k =
      BranchMeets (teller_bank screens bank) (teller_program screens) teller_sizes Balance (TurnMeets (teller_bank screens bank) (teller_program screens) teller_sizes Balance d) row next k

  -- Done: what has to be met behind the work of a request, where no transaction is open
  module _ (Done : RequesterMoment → Type 0)
      (finish : (texts : List (List ℕ)) (registers : Registers) → Done (record { texts = texts; registers = registers; inside = false; sent = [] }))
      (done from to amount : List ℕ) (long : length amount ≡ 7) (a b c d before e f : List ℕ) where
    abbrev texts : List ℕ → List ℕ → List ℕ → List ℕ → List ℕ → List ℕ → List ℕ → List (List ℕ)
    texts message op account other posted answer payer =
        done ∷ message ∷ from ∷ to ∷ amount ∷ op ∷ account ∷ other ∷ posted ∷ answer ∷ payer ∷ a ∷ b ∷ c ∷ d ∷ before ∷ e ∷ f ∷ []

    -- a moment in the transaction
    abbrev within : List ℕ → List ℕ → List ℕ → List ℕ → List ℕ → List ℕ → List ℕ → Registers → List RepliedRequest → RequesterMoment
    within message op account other posted answer payer registers sent =
        record { texts = texts message op account other posted answer payer; registers = registers; inside = true; sent = sent }

    -- ---- POST

    abbrev posted_to : List ℕ → List ℕ → List ℕ → List ℕ → List ℕ → List ℕ → Registers → ℕ → List RepliedRequest → RequesterMoment
    posted_to message account other posted payer reply registers n sent =
        within message (codes "P") account other posted (answer_moved reply) payer (record registers { termination = n }) (sent ++ asked_of (posting_of account other posted) reply ∷ [])

    post-meets : (next : RequesterMoment → Type 0) (op account other posted answer payer : List ℕ) (registers : Registers) (sent : List RepliedRequest)
        → ((reply : List ℕ) → bytes_eq (take 4 reply) (codes "0000") ≡ true → next (posted_to blank account other posted payer reply registers 1 sent))
        → ((reply message : List ℕ) (n : ℕ) → is_blank message ≡ false → next (posted_to message account other posted payer reply registers n sent))
        → Turn 60 (codes "POST") next (within blank op account other posted answer payer registers sent)
    post-meets next op account other posted answer payer registers sent ok bad = λ reply. (
      tt,
      λ place found.
          reply-cases reply
          (λ (place : ℕ × Spot). Part 59 post_answered next (record {
            texts = with_moved (Text' reply) place.1 teller_sizes (texts blank (codes "P") account other posted answer payer);
            registers = record registers { termination = place.0 + 1 };
            inside = true;
            sent = sent ++ asked_of (posting_of account other posted) reply ∷ [];
          }))
          (code 0 (codes "ANSWER")) (code 1 (codes "ANSWER") ∷ code 2 (codes "ANSWER") ∷ code 3 (codes "ANSWER") ∷ [])
          answer_spot (answer_spot ∷ answer_spot ∷ answer_spot ∷ []) place refl
          (λ zero_code. (λ x. absurd (false≢true x), λ x. (λ y. absurd (false≢true y), λ y. (λ z. absurd (false≢true z), λ z. ok reply zero_code)))) (
            (
              λ x. (
                λ y. (λ z. absurd (false≢true z), λ z. (λ w. absurd (false≢true w), λ w. bad reply (fitted 40 (codes "FROM: NO SUCH ACCOUNT")) 2 refl)),
                λ y. (λ z. absurd (false≢true z), λ z. (λ w. absurd (false≢true w), λ w. bad reply (fitted 40 (codes "TO: NO SUCH ACCOUNT")) 2 refl)),
              ),
              λ x. absurd (true≢false x),
            ),
            (
              (
                λ x. absurd (false≢true x),
                λ x. (
                  λ y. (λ z. absurd (false≢true z), λ z. bad reply (fitted 40 (codes "NOT ENOUGH MONEY")) 3 refl),
                  λ y. absurd (true≢false y),
                ),
              ),
              (
                (
                  λ x. absurd (false≢true x),
                  λ x. (
                    λ y. absurd (false≢true y),
                    λ y. (
                      λ z. bad reply (fitted 40 (codes "THE ACCOUNT IS FULL")) 4 refl,
                      λ z. absurd (true≢false z),
                    ),
                  ),
                ),
                tt,
              ),
            ),
          )
          found,
    )

    -- ---- DEBIT and CREDIT

    debit-meets : (next : RequesterMoment → Type 0) (op account other posted answer payer : List ℕ) (registers : Registers) (sent : List RepliedRequest)
        → ((reply got : List ℕ) → bytes_eq (take 4 reply) (codes "0000") ≡ true → received (Some seven) (sized (debit_of amount)) ≡ Some got
        → next (posted_to blank (number_moved from) (number_moved to) (fitted 8 got) (answer_moved (answer_moved reply)) reply registers 1 sent))
        → ((reply got message : List ℕ) (n : ℕ) → is_blank message ≡ false
        → next (posted_to message (number_moved from) (number_moved to) (fitted 8 got) (answer_moved (answer_moved reply)) reply registers n sent))
        → Turn 61 (codes "DEBIT") next (within blank op account other posted answer payer registers sent)
    debit-meets next op account other posted answer payer registers sent ok bad = (
      λ none. let no_error : None ≡ Some (moved seven (debit_of amount)) = sym none ∙ debit-received amount long in absurd (cc no_error),
      λ got is. (
        λ x.
            post-meets (Row 60 (more_of-Statement (move (own (codes "ANSWER")) (codes "PAYER")) end_of-Statement) next) op (number_moved from) (number_moved to) (fitted 8 got) answer payer registers sent
            (λ reply zero_code. ok reply got zero_code is)
            (λ reply message n other_message. bad reply got message n other_message),
        λ x. absurd (true≢false x),
      ),
    )

    debit-skipped : (next : RequesterMoment → Type 0) (message op account other posted answer payer : List ℕ) (registers : Registers) (sent : List RepliedRequest)
        → is_blank message ≡ false
        → ((posted : List ℕ) → next (within message op (number_moved from) (number_moved to) posted answer payer registers sent))
        → Turn 61 (codes "DEBIT") next (within message op account other posted answer payer registers sent)
    debit-skipped next message op account other posted answer payer registers sent is go = (
      λ none. (λ x. absurd (false≢true (sym is ∙ x)), λ x. go posted),
      λ got kept. (λ x. absurd (false≢true (sym is ∙ x)), λ x. go (fitted 8 got)),
    )

    abbrev credited : List ℕ
    credited = fitted 8 (moved seven (amount_of amount))

    credit-meets : (next : RequesterMoment → Type 0) (op account other posted answer payer : List ℕ) (registers : Registers) (sent : List RepliedRequest)
        → ((reply : List ℕ) → bytes_eq (take 4 reply) (codes "0000") ≡ true
        → next (posted_to blank (number_moved to) (number_moved from) credited payer reply registers 1 sent))
        → ((reply message : List ℕ) (n : ℕ) → is_blank message ≡ false
        → next (posted_to message (number_moved to) (number_moved from) credited payer reply registers n sent))
        → Turn 61 (codes "CREDIT") next (within blank op account other posted answer payer registers sent)
    credit-meets next op account other posted answer payer registers sent ok bad = (
      λ x. post-meets (Row 60 end_of-Statement next) op (number_moved to) (number_moved from) credited answer payer registers sent ok bad,
      λ x. absurd (true≢false x),
    )

    credit-skipped : (next : RequesterMoment → Type 0) (message op account other posted answer payer : List ℕ) (registers : Registers) (sent : List RepliedRequest)
        → is_blank message ≡ false
        → next (within message op (number_moved to) (number_moved from) credited answer payer registers sent)
        → Turn 61 (codes "CREDIT") next (within message op account other posted answer payer registers sent)
    credit-skipped next message op account other posted answer payer registers sent is go = (λ x. absurd (false≢true (sym is ∙ x)), λ x. go)

    -- ---- MOVE-MONEY

    settled : (op account other posted answer payer : List ℕ) (registers : Registers) (sent : List RepliedRequest) → Balance sent
        → Part 61 money_settled Done (within blank op account other posted answer payer registers sent)
    settled op account other posted answer payer registers sent balance = (λ x. (balance, finish _ registers), λ x. absurd (true≢false x))

    dropped : (message op account other posted answer payer : List ℕ) (registers : Registers) (sent : List RepliedRequest) → is_blank message ≡ false
        → Part 61 money_settled Done (within message op account other posted answer payer registers sent)
    dropped message op account other posted answer payer registers sent is = (λ x. absurd (false≢true (sym is ∙ x)), λ x. finish _ registers)

    debited : (account other got reply : List ℕ) → bytes_eq (take 4 reply) (codes "0000") ≡ true → received (Some seven) (sized (debit_of amount)) ≡ Some got
        → Posted (neg_ℤ (pos (value_of 0 amount))) (asked_of (posting_of (number_moved account) (number_moved other) (fitted 8 got)) reply)
    debited account other got reply zero_code is = record {
      posts = λ value.
          posting-posts (number_moved account) (number_moved other) (fitted 8 got) reply (length-fitted 4 (fitted 4 account)) (length-fitted 4 (fitted 4 other)) (length-fitted 8 got) zero_code value
          ∙ ap (λ z. value +ℤ z) (debit-value amount got long is);
    }

    was_credited : (account other reply : List ℕ) → bytes_eq (take 4 reply) (codes "0000") ≡ true
        → Posted (pos (value_of 0 amount)) (asked_of (posting_of (number_moved account) (number_moved other) credited) reply)
    was_credited account other reply zero_code = record {
      posts = λ value.
          posting-posts (number_moved account) (number_moved other) credited reply (length-fitted 4 (fitted 4 account)) (length-fitted 4 (fitted 4 other)) (length-fitted 8 (moved seven (amount_of amount))) zero_code value
          ∙ ap (λ z. value +ℤ z) (credit-value amount long);
    }

    -- what is left of a transfer behind its first request, and behind its second
    abbrev Left : {n : _} → Row_of-Statement n → RequesterMoment → Type 0
    Left row k = Row 61 row (Part 61 money_settled Done) k

    abbrev debit_message : List ℕ → List ℕ
    debit_message got = posting_of (number_moved from) (number_moved to) (fitted 8 got)

    abbrev credit_message : List ℕ
    credit_message = posting_of (number_moved to) (number_moved from) credited

    debit-credit : (op account other posted answer payer : List ℕ) (registers : Registers)
        → Turn 61 (codes "DEBIT") (Left (more_of-Statement (form.Perform 1 (codes "CREDIT")) end_of-Statement)) (within blank op account other posted answer payer registers [])
    debit-credit op account other posted answer payer registers =
        debit-meets (Left (more_of-Statement (form.Perform 1 (codes "CREDIT")) end_of-Statement)) op account other posted answer payer registers []
        (λ reply got zero_code is.
        credit-meets (Left end_of-Statement) (codes "P") (number_moved from) (number_moved to) (fitted 8 got) (answer_moved reply) (answer_moved (answer_moved reply))
        (record registers { termination = 1 }) (asked_of (debit_message got) reply ∷ [])
        (λ second second_code.
        settled (codes "P") (number_moved to) (number_moved from) credited (answer_moved second) (answer_moved (answer_moved reply)) (record registers { termination = 1 })
        (asked_of (debit_message got) reply ∷ asked_of credit_message second ∷ [])
        (debit-first (value_of 0 amount) (asked_of (debit_message got) reply) (asked_of credit_message second) (debited from to got reply zero_code is) (was_credited to from second second_code)))
        (λ second message n other_message.
        dropped message (codes "P") (number_moved to) (number_moved from) credited (answer_moved second) (answer_moved (answer_moved reply)) (record registers { termination = n })
        (asked_of (debit_message got) reply ∷ asked_of credit_message second ∷ []) other_message))
        (λ reply got message n other_message.
        credit-skipped (Left end_of-Statement) message (codes "P") (number_moved from) (number_moved to) (fitted 8 got) (answer_moved reply) (answer_moved (answer_moved reply))
        (record registers { termination = n }) (asked_of (debit_message got) reply ∷ []) other_message
        (dropped message (codes "P") (number_moved to) (number_moved from) credited (answer_moved reply) (answer_moved (answer_moved reply)) (record registers { termination = n })
        (asked_of (debit_message got) reply ∷ []) other_message))

    credit-debit : (op account other posted answer payer : List ℕ) (registers : Registers)
        → Turn 61 (codes "CREDIT") (Left (more_of-Statement (form.Perform 1 (codes "DEBIT")) end_of-Statement)) (within blank op account other posted answer payer registers [])
    credit-debit op account other posted answer payer registers =
        credit-meets (Left (more_of-Statement (form.Perform 1 (codes "DEBIT")) end_of-Statement)) op account other posted answer payer registers []
        (λ reply zero_code.
        debit-meets (Left end_of-Statement) (codes "P") (number_moved to) (number_moved from) credited (answer_moved reply) payer
        (record registers { termination = 1 }) (asked_of credit_message reply ∷ [])
        (λ second got second_code is.
        settled (codes "P") (number_moved from) (number_moved to) (fitted 8 got) (answer_moved second) (answer_moved (answer_moved second)) (record registers { termination = 1 })
        (asked_of credit_message reply ∷ asked_of (debit_message got) second ∷ [])
        (credit-first (value_of 0 amount) (asked_of credit_message reply) (asked_of (debit_message got) second) (was_credited to from reply zero_code) (debited from to got second second_code is)))
        (λ second got message n other_message.
        dropped message (codes "P") (number_moved from) (number_moved to) (fitted 8 got) (answer_moved second) (answer_moved (answer_moved second)) (record registers { termination = n })
        (asked_of credit_message reply ∷ asked_of (debit_message got) second ∷ []) other_message))
        (λ reply message n other_message.
        debit-skipped (Left end_of-Statement) message (codes "P") (number_moved to) (number_moved from) credited (answer_moved reply) payer
        (record registers { termination = n }) (asked_of credit_message reply ∷ []) other_message
        (λ left_posted.
        dropped message (codes "P") (number_moved from) (number_moved to) left_posted (answer_moved reply) payer (record registers { termination = n })
        (asked_of credit_message reply ∷ []) other_message))

    money-moved : (op account other posted answer payer : List ℕ) (registers : Registers)
        → Part 61 money_moved Done (within blank op account other posted answer payer registers [])
    money-moved op account other posted answer payer registers =
        (λ x. debit-credit op account other posted answer payer registers, λ x. credit-debit op account other posted answer payer registers)

    -- ---- the requests

    -- a moment outside
    abbrev outside : List ℕ → List ℕ → List ℕ → List ℕ → List ℕ → List ℕ → List ℕ → Registers → RequesterMoment
    outside message op account other posted answer payer registers =
        record { texts = texts message op account other posted answer payer; registers = registers; inside = false; sent = [] }

    transfer-meets : (op account other posted answer payer : List ℕ) (registers : Registers) → Turn 63 (codes "TRANSFER") Done (outside blank op account other posted answer payer registers)
    transfer-meets op account other posted answer payer registers = (
      λ x. (
        λ y. (λ z. absurd (false≢true z), λ z. finish _ registers),
        λ y. (λ z. absurd (false≢true z), λ z. finish _ registers),
      ),
      λ x. (
        λ y. (λ z. absurd (false≢true z), λ z. finish _ registers),
        λ y. (λ z r. money-moved op account other posted answer payer (record registers { restarts = r }), λ z. absurd (true≢false z)),
      ),
    )

    inquiry-meets : (op account other posted answer payer : List ℕ) (registers : Registers) → Turn 63 (codes "INQUIRY") Done (outside blank op account other posted answer payer registers)
    inquiry-meets op account other posted answer payer registers = λ reply. (
      λ value. refl,
      λ place found. (λ x. (λ y. finish _ _, λ y. finish _ _), λ x. finish _ _),
    )

    total-meets : (op account other posted answer payer : List ℕ) (registers : Registers) → Turn 63 (codes "CONTROL-TOTAL") Done (outside blank op account other posted answer payer registers)
    total-meets op account other posted answer payer registers = λ reply. (λ value. refl, λ place found. finish _ _)

    sign_off-meets : (op account other posted answer payer : List ℕ) (registers : Registers) → Turn 63 (codes "SIGN-OFF") Done (outside blank op account other posted answer payer registers)
    sign_off-meets op account other posted answer payer registers = finish _ registers

  -- behind the work of a request: no transaction is open
  abbrev Finish : RequesterMoment → Type 0
  Finish k = Part 63 next_shown (λ after. (after.inside ≡ false) × (after.sent ≡ [])) k

  finish : (texts : List (List ℕ)) (registers : Registers) → Finish (record { texts = texts; registers = registers; inside = false; sent = [] })
  finish texts registers = (λ e. (refl, refl), λ e. (refl, refl))

  -- behind an entry
  abbrev Entered : Registers → List (List ℕ) → Type 0
  Entered registers all = Part 63 next_taken (λ after. (after.inside ≡ false) × (after.sent ≡ [])) (record { texts = all; registers = registers; inside = false; sent = [] })

  entered-meets : (done message from to amount op account other posted answer payer a b c d before e f : List ℕ) (registers : Registers) → length amount ≡ 7
      → Entered registers (done ∷ message ∷ from ∷ to ∷ amount ∷ op ∷ account ∷ other ∷ posted ∷ answer ∷ payer ∷ a ∷ b ∷ c ∷ d ∷ before ∷ e ∷ f ∷ [])
  entered-meets done message from to amount op account other posted answer payer a b c d before e f registers long = (
    transfer-meets Finish finish done from to amount long a b c d before e f op account other posted answer payer registers,
    (
      inquiry-meets Finish finish done from to amount long a b c d before e f op account other posted answer payer registers,
      (
        total-meets Finish finish done from to amount long a b c d before e f op account other posted answer payer registers,
        (
          sign_off-meets Finish finish done from to amount long a b c d before e f op account other posted answer payer registers,
          finish (done ∷ blank ∷ from ∷ to ∷ amount ∷ op ∷ account ∷ other ∷ posted ∷ answer ∷ payer ∷ a ∷ b ∷ c ∷ d ∷ before ∷ e ∷ f ∷ []) registers,
        ),
      ),
    ),
  )

  request-meets : (all : List (List ℕ)) (registers : Registers) → HaveSizes teller_sizes all → Entered registers all
  request-meets all registers sized =
      let same = texts-parted teller_sizes all sized in
      let parts : HaveSizes teller_sizes (parted teller_sizes all) = subst (HaveSizes teller_sizes) same sized in
      subst (Entered registers) (sym same)
      (entered-meets (text_no 0 all) (text_no 1 all) (text_no 2 all) (text_no 3 all) (text_no 4 all) (text_no 5 all) (text_no 6 all) (text_no 7 all) (text_no 8 all) (text_no 9 all) (text_no 10 all) (text_no 11 all) (text_no 12 all) (text_no 13 all) (text_no 14 all) (text_no 15 all) (text_no 16 all) (text_no 17 all) registers parts.1.1.1.1.0)

  pub teller-meets : ProgramMeets (teller_bank screens bank) (teller_program screens) teller_sizes Balance
  teller-meets = (0, λ all registers sized. (λ others after_registers others_sized. request-meets others after_registers others_sized, tt))
