-- The server of a generated deck on one request, run by itself.
use Rattle.std.proofs.Common.{◌≡◌, ℕ, zero, suc, ◌+◌, ◌*◌, ◌%◌, ◌^◌, ◌<◌, Bool, true, false, List, [], ◌∷◌, ◌++◌, Option, Some, None, Result, Ok, Err, refl, ap, sym, ◌∙◌, arith}
use Rattle.std.specs.Prelude.{◌==◌, ◌&&◌, ◌||◌, not, nat_lt, codes, if◌then◌else◌, is_some, pos}
use Rattle.std.proofs.Math.Nat.{mod-eq_of_lt}
use Rattle.std.proofs.lemmas.Bool.{le-ltb, lt-ltb}
use denote.Hole.Carrier.{hidden}
use Rattle.pw_forms.specs.declared.statement.Statement.TheBlock.{hidden-the_row-Statement-0}
use Rattle.pw_forms.specs.declared.statement.Statement.{Statement, Row_of-Statement, end_of-Statement, more_of-Statement}
use Rattle.pw_forms.specs.declared.statement.Statement.TheVariants as form
use Rattle.pw_forms.specs.declared.statement.Operation.TheVariants as operation
use Rattle.pw_forms.specs.declared.operand.Operand.TheVariants as operands
use Rattle.pw_files.specs.Records.{record_at, with_record}
use Rattle.pw_number.specs.Number.{Number, number}
use Rattle.pw_code.specs.declared.lock.LockRule.{LockRule}
use Rattle.pw_onecopy.proofs.Update.{upd-same}
use Rattle.pw_picture.proofs.Digits.{size_at-own}
use Rattle.pw_picture.proofs.Reading.{value_of-digits}
use Rattle.pw_tree_meaning.specs.OfDeck.{behaviour}
use Rattle.pw_number.specs.declared.size_error.SizeError.{SizeError}
use Rattle.pw_onecopy.specs.Behaviour.{Served}
use Rattle.pw_onecopy.specs.Behaviour as served
use Rattle.pw_onecopy.specs.Operation.{change_answer, read_answer}
use Rattle.pw_onecopy.specs.Path.{FileResult}
use Rattle.pw_onecopy.specs.Update.{upd}
use Rattle.pw_picture.specs.Stored.{digits_of, is_kept, is_negative, moved, size_at, value_of}
use Rattle.pw_picture.specs.declared.picture.Picture.{Picture}
use Rattle.pw_picture.specs.declared.picture.Picture.TheVariants as picture
use Rattle.pw_terminal.specs.Screen.{blank_cells}
use Rattle.pw_tree_meaning.specs.Arithmetic.{operated, or_else, stored_in}
use Rattle.pw_tree_meaning.specs.Files.{file_done}
use Rattle.pw_tree_meaning.specs.Program.{DeckModel}
use Rattle.pw_tree_meaning.specs.Runs.{flow, performed, program_ended, served_alone, served_by, server_setting}
use Rattle.pw_tree_meaning.specs.Setting.{Setting}
use Rattle.pw_tree_meaning.specs.State.{ProgramState, Out, Goes, faults, no_registers, then_do}
use Rattle.pw_tree_meaning.specs.Statements.{body, branch_row}
use Rattle.pw_tree_meaning.specs.Store.{Spot, Store, put_at}
use Rattle.pw_data.specs.Store.{Cell}
use Rattle.pw_generated_runs.specs.Counts.{stock_record, stock_with}
use Rattle.pw_generated_runs.specs.Rounds.{CountsRequests, request_of}
use Rattle.pw_generated_runs.specs.Trees.{CountingParts, counting_deck, item, replying}

abbrev cell : ℕ → List ℕ → Cell
cell place chars = record { item = place; occurrence = 1; chars = chars }

abbrev cells : ℕ → List ℕ → Store
cells d digits =
    cell 1 (73 ∷ []) ∷ cell 3 (65 ∷ (48 + d) ∷ []) ∷ cell 4 digits
    ∷ cell 6 (codes "0000") ∷ cell 7 (codes "0000") ∷ cell 8 (codes "      ") ∷ []

abbrev four : Picture
four = picture.Number 4 0 false

abbrev rec_spot : Spot
rec_spot = record { at = 1; size = 6; picture = None }

abbrev n_spot : Spot
n_spot = record { at = 3; size = 4; picture = Some four }

-- ---- numbers

-- the number of a record is read from its digits
digits-read : (n : ℕ) → n < 10000 → value_of 0 (digits_of 4 n) ≡ n
digits-read n few = omega (arith, value_of-digits 4 0 n, mod-eq_of_lt few)

-- and 1 is added
abbrev sum_of : ℕ → Result Number SizeError
sum_of n = operated operation.Add 0 (number (pos 1) 0) (number (pos (value_of 0 (digits_of 4 n))) 0)

one-added : (n : ℕ) → n < 9999 → sum_of n ≡ Ok (number (pos (n + 1)) 0)
one-added n few =
    let same : value_of 0 (digits_of 4 n) * 1 + 1 ≡ n + 1 = omega (arith, digits-read n (omega (arith, few))) in
    ap (λ (m : ℕ). if nat_lt m (10 ^ 30) then Ok (number (pos m) 0) else Err (record {})) same
    ∙ ap (λ (b : Bool). if b then Ok (number (pos (n + 1)) 0) else Err (record {})) (lt-ltb (n + 1) (10 ^ 30) (omega (arith, few)))

-- the sum has room in 4 digits
own-size : (n : ℕ) → size_at 0 (number (pos (n + 1)) 0) ≡ n + 1
own-size n = sym (size_at-own (number (pos (n + 1)) 0) 0 (n + 1) 0 refl refl refl)

is-kept : (n : ℕ) → n < 9999 → is_kept four (number (pos (n + 1)) 0) ≡ true
is-kept n few =
    let positive : is_negative (number (pos (n + 1)) 0) ≡ false = le-ltb (n + 1) 0 (omega arith) in
    ap (λ (m : ℕ). nat_lt m (10 ^ 4) && (false || not (is_negative (number (pos (n + 1)) 0)))) (own-size n)
    ∙ (ap (λ (b : Bool). b && (false || not (is_negative (number (pos (n + 1)) 0)))) (lt-ltb (n + 1) (10 ^ 4) (omega (arith, few)))
    ∙ ap (λ (b : Bool). not b) positive)

is-moved : (n : ℕ) → n < 9999 → moved four (number (pos (n + 1)) 0) ≡ digits_of 4 (n + 1)
is-moved n few =
    let small : n + 1 < 10000 = omega (arith, few) in
    ap (λ (m : ℕ). digits_of 4 (m % 10 ^ 4)) (own-size n) ∙ ap (digits_of 4) (mod-eq_of_lt small)

-- what is stored
is-stored : (n : ℕ) → n < 9999 → (s : ProgramState) → stored_in n_spot (sum_of n) s ≡ Some (record s { store = put_at n_spot (digits_of 4 (n + 1)) s.store })
is-stored n few s =
    let sum : Number = number (pos (n + 1)) 0 in
    ap (λ (r : Result Number SizeError). stored_in n_spot r s) (one-added n few)
    ∙ (ap (λ (b : Bool). if b then Some (record s { store = put_at n_spot (moved four sum) s.store }) else None) (is-kept n few)
    ∙ ap (λ (chars : List ℕ). Some (record s { store = put_at n_spot chars s.store })) (is-moved n few))

-- ---- the records

-- what holds of each of the ten digits holds of all
pub ten : (P : ℕ → Type 0) → P 0 → P 1 → P 2 → P 3 → P 4 → P 5 → P 6 → P 7 → P 8 → P 9 → (d : ℕ) → d < 10 → P d
ten P a b c e f g h i j k zero lt = a
ten P a b c e f g h i j k (suc zero) lt = b
ten P a b c e f g h i j k (suc (suc zero)) lt = c
ten P a b c e f g h i j k (suc (suc (suc zero))) lt = e
ten P a b c e f g h i j k (suc (suc (suc (suc zero)))) lt = f
ten P a b c e f g h i j k (suc (suc (suc (suc (suc zero))))) lt = g
ten P a b c e f g h i j k (suc (suc (suc (suc (suc (suc zero)))))) lt = h
ten P a b c e f g h i j k (suc (suc (suc (suc (suc (suc (suc zero))))))) lt = i
ten P a b c e f g h i j k (suc (suc (suc (suc (suc (suc (suc (suc zero)))))))) lt = j
ten P a b c e f g h i j k (suc (suc (suc (suc (suc (suc (suc (suc (suc zero))))))))) lt = k
ten P a b c e f g h i j k (suc (suc (suc (suc (suc (suc (suc (suc (suc (suc more)))))))))) lt = absurd (omega (arith, lt))

-- the record of a digit is found
found : (number_of : ℕ → ℕ) (d : ℕ) → d < 10 → record_at 2 (stock_with number_of) (65 ∷ (48 + d) ∷ []) ≡ Some (stock_record d (number_of d))
found number_of = ten (λ d. record_at 2 (stock_with number_of) (65 ∷ (48 + d) ∷ []) ≡ Some (stock_record d (number_of d))) refl refl refl refl refl refl refl refl refl refl

-- and written
written : (number_of : ℕ → ℕ) (m d : ℕ) → d < 10 → with_record 2 (stock_with number_of) (stock_record d m) ≡ stock_with (upd number_of d m)
unfolding upd
written number_of m = ten (λ d. with_record 2 (stock_with number_of) (stock_record d m) ≡ stock_with (upd number_of d m)) refl refl refl refl refl refl refl refl refl refl

-- ---- the run

module _ (parts : CountingParts) (d : ℕ) (files : ℕ → List (List ℕ)) where
  abbrev deck : DeckModel
  deck = counting_deck parts

  abbrev line : ℕ → ℕ
  line = parts.server_line

  abbrev setting : Setting
  setting = server_setting deck 0 (request_of d) true

  abbrev call : ℕ → List (List ℕ) → ProgramState → Out
  call q arguments t = faults 202 t

  abbrev ends : {n : _} → Row_of-Statement n → Out → Served
  ends row out =
      served_by (program_ended setting (then_do (then_do (then_do out (branch_row setting (performed 64 setting call) call row))
      (body setting (performed 64 setting call) call (replying line))) (flow setting (performed 64 setting call) call [])))

  -- the state of so many statements, with a number and files
  abbrev at_count : ℕ → List ℕ → (ℕ → List (List ℕ)) → ProgramState
  at_count count digits files = record {
    count = count;
    answers = [];
    store = cells d digits;
    registers = no_registers;
    in_unit = false;
    screen = blank_cells;
    files = files;
  }

  abbrev moving : Statement
  moving = form.Move (line 9) (item (codes "M-REC")) (item (codes "A-REC") ∷ [])

  abbrev rewriting : Statement
  rewriting = form.Rewrite (line 8) (codes "STOCK") (item (codes "M-REC"))

  abbrev adding : Statement
  adding = form.Arithmetic (line 8) (record { operation = operation.Add; first = operands.Number (codes "1"); second = item (codes "M-N"); giving = None })

  abbrev read_files : ℕ → List (List ℕ)
  read_files = upd files 0 (files 0)

  abbrev key : List ℕ
  key = 65 ∷ (48 + d) ∷ []

  -- what was read goes into the record of the message
  abbrev behind_read : Option (List ℕ) → Served
  behind_read found = ends (more_of-Statement adding (more_of-Statement rewriting (more_of-Statement moving end_of-Statement))) (file_done (Some rec_spot) (read_answer 11 found).status (read_answer 11 found).content (at_count 8 (codes "0000") read_files))

  reads : served_alone deck 0 (request_of d) files ≡ behind_read (record_at 2 (files 0) key)
  unfolding hidden hidden-the_row-Statement-0 upd
  reads = refl

  module _ (n : ℕ) where
    -- 1 is added to its number
    abbrev behind_add : Option ProgramState → Served
    behind_add after = ends (more_of-Statement rewriting (more_of-Statement moving end_of-Statement)) (or_else after (at_count 9 (digits_of 4 n) read_files) Goes Goes)

    adds : behind_read (Some (stock_record d n)) ≡ behind_add (stored_in n_spot (sum_of n) (at_count 9 (digits_of 4 n) read_files))
    unfolding hidden hidden-the_row-Statement-0 upd
    adds = refl

    -- the record is written
    abbrev status_of : Option (List ℕ) → FileResult
    status_of found = change_answer 11 (is_some found)

    abbrev content : List ℕ
    content = stock_record d (n + 1)

    abbrev behind_rewrite : Option (List ℕ) → Served
    behind_rewrite found =
        ends (more_of-Statement moving end_of-Statement) (file_done None (status_of found).status (status_of found).content
        (at_count 10 (digits_of 4 (n + 1)) (upd read_files 0 (if (status_of found).status == 0 then with_record 2 (files 0) content else files 0))))

    abbrev added : ProgramState
    added = let s : ProgramState = at_count 9 (digits_of 4 n) read_files in record s { store = put_at n_spot (digits_of 4 (n + 1)) s.store }

    rewrites : behind_add (Some added) ≡ behind_rewrite (record_at 2 (files 0) key)
    unfolding hidden hidden-the_row-Statement-0 upd
    rewrites = refl

    replies : behind_rewrite (Some (stock_record d n)) ≡ served.Reply (codes "00000000" ++ content) (upd read_files 0 (with_record 2 (files 0) content))
    unfolding hidden hidden-the_row-Statement-0
    replies = refl

    -- the whole run
    serves : n < 9999 → record_at 2 (files 0) key ≡ Some (stock_record d n)
        → served_alone deck 0 (request_of d) files ≡ served.Reply (codes "00000000" ++ content) (upd read_files 0 (with_record 2 (files 0) content))
    serves few has =
        reads
        ∙ (ap behind_read has
        ∙ (adds
        ∙ (ap behind_add (is-stored n few (at_count 9 (digits_of 4 n) read_files))
        ∙ (rewrites
        ∙ (ap behind_rewrite has ∙ replies)))))

-- the server counts
pub counts-requests : (rule : LockRule) (parts : CountingParts) → CountsRequests (behaviour rule (counting_deck parts))
counts-requests rule parts number_of d files digit few is =
    let n : ℕ = number_of d in
    let content : List ℕ = stock_record d (n + 1) in
    let has : record_at 2 (files 0) (65 ∷ (48 + d) ∷ []) ≡ Some (stock_record d n) = ap (λ (records : List (List ℕ)). record_at 2 records (65 ∷ (48 + d) ∷ [])) is ∙ found number_of d digit in (
      upd (upd files 0 (files 0)) 0 (with_record 2 (files 0) content),
      serves parts d files n few has,
      upd-same (upd files 0 (files 0)) 0 (with_record 2 (files 0) content) 0 refl
          ∙ (ap (λ (records : List (List ℕ)). with_record 2 records content) is ∙ written number_of (n + 1) d digit),
    )
