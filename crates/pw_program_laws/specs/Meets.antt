-- What a server's statements have to meet so that each reply of its run by itself, with the files that it leaves then, is as
-- it should be: by recursion on the statements, from what is known before each. A run fault and an end without a reply meet all.
use Rattle.std.specs.Prelude.{◌≡◌, ℕ, zero, suc, Bool, true, false, ◌&&◌, ◌||◌, List, [], ◌∷◌, map, take, Option, Some, None, Result, Ok, Err, if◌then◌else◌}
use Rattle.pw_files.specs.Records.{has_key, record_after, record_at, with_record, without_key}
use Rattle.pw_forms.specs.declared.cond.ComparisonForm.{ComparisonForm}
use Rattle.pw_forms.specs.declared.cond.ComparisonForm.TheVariants as comparison
use Rattle.pw_forms.specs.declared.operand.Operand.{Operand}
use Rattle.pw_forms.specs.declared.operand.Operand.TheVariants as operands
use Rattle.pw_forms.specs.declared.operand.Subscript.{Subscript}
use Rattle.pw_forms.specs.declared.operand.Subscript.TheVariants as subscripts
use Rattle.pw_forms.specs.declared.statement.ArithmeticForm as arithmetic
use Rattle.pw_forms.specs.declared.statement.Paragraph.{Paragraph}
use Rattle.pw_forms.specs.declared.statement.Statement.{Statement}
use Rattle.pw_forms.specs.declared.statement.Statement as form
use Rattle.pw_forms.specs.declared.statement.Statement.{Row_of-Statement, end_of-Statement, more_of-Statement}
use Rattle.pw_number.specs.Number.{Number}
use Rattle.pw_number.specs.declared.size_error.SizeError.{SizeError}
use Rattle.pw_onecopy.specs.Update.{upd}
use Rattle.pw_picture.specs.declared.picture.Picture.{Picture}
use Rattle.pw_picture.specs.Stored.{is_kept, moved}
use Rattle.pw_program_laws.specs.Known.{KnownMoment, RecordsByFile, known_start, with_status}
use Rattle.pw_program_laws.specs.Texts.{HaveSizes, said, with_moved, with_moves, with_text}
use Rattle.pw_tree_meaning.specs.Arithmetic.{operated, receiver_decimals, receiver_of}
use Rattle.pw_tree_meaning.specs.Conditions.{compared, condition_turned, holds_by, is_numeric}
use Rattle.pw_tree_meaning.specs.Operands.{ResolvedOperand, Fixed, plain, spot_in, taken_item}
use Rattle.pw_tree_meaning.specs.Program.{DeckModel, Program, body_named, file_number, item_named, key_length}
use Rattle.pw_tree_meaning.specs.Runs.{most_performs}
use Rattle.pw_tree_meaning.specs.State.{Registers}
use Rattle.pw_tree_meaning.specs.Store.{Spot}
use Rattle.pw_tree_meaning.specs.Values.{Number', Spaces', Text', Zeros', as_it_stands, number_in, number_of, whole_part}
use Rattle.pw_words.specs.Words.{Word}

-- ---- operands

module _ (program : Program) (sizes : List ℕ) (k : KnownMoment) where
  -- the value of a subscript
  abbrev pub known_subscript : Subscript → ℕ
  known_subscript (subscripts.Number spelling) = whole_part (number_in spelling)
  known_subscript (subscripts.Item name) =
      whole_part (number_of (said sizes k.texts (plain (item_named program name) k.registers name)))

  -- the occurrence of a subscript; where it is outside, nothing can be shown
  abbrev pub WithTaken : Option ResolvedOperand → (ResolvedOperand → Type 0) → Type 0
  WithTaken None next = ⊥
  WithTaken (Some found) next = next found

  -- an operand
  abbrev pub WithKnown : Operand → (ResolvedOperand → Type 0) → Type 0
  WithKnown (operands.Item name None) next = next (plain (item_named program name) k.registers name)
  WithKnown (operands.Item name (Some subscript)) next =
      WithTaken (taken_item (item_named program name) k.registers name (Some (known_subscript subscript))) next
  WithKnown (operands.Number spelling) next = next (Fixed (Number' spelling))
  WithKnown (operands.Text chars) next = next (Fixed (Text' chars))
  WithKnown operands.Spaces next = next (Fixed Spaces')
  WithKnown operands.Zeros next = next (Fixed Zeros')

  -- each of some
  abbrev pub WithAllKnown : List Operand → (List ResolvedOperand → Type 0) → Type 0
  WithAllKnown [] next = next []
  WithAllKnown (operand ∷ rest) next = WithKnown operand (λ one. WithAllKnown rest (λ others. next (one ∷ others)))

-- ---- conditions

-- the one where a condition holds, and the other where it does not
abbrev pub BranchesOn : Bool → Type 0 → Type 0 → Type 0
BranchesOn b first second = (b ≡ true → first) × (b ≡ false → second)

module _ (program : Program) (sizes : List ℕ) (k : KnownMoment) where
  abbrev pub ComparisonMeets : ComparisonForm → (Bool → Type 0) → Type 0
  ComparisonMeets (comparison.Compare left negated op right) next =
      WithKnown program sizes k left (λ a. WithKnown program sizes k right (λ b.
      next (condition_turned negated (holds_by op (compared (said sizes k.texts a) (said sizes k.texts b))))))
  ComparisonMeets (comparison.Numeric operand negated) next =
      WithKnown program sizes k operand (λ a. next (condition_turned negated (is_numeric (said sizes k.texts a))))

  abbrev pub AllMeet : List ComparisonForm → (Bool → Type 0) → Type 0
  AllMeet [] next = next true
  AllMeet (c ∷ []) next = ComparisonMeets c next
  AllMeet (c ∷ d ∷ cs) next = ComparisonMeets c (λ a. AllMeet (d ∷ cs) (λ b. next (a && b)))

  abbrev pub AnyMeets : List (List ComparisonForm) → (Bool → Type 0) → Type 0
  AnyMeets [] next = next false
  AnyMeets (cs ∷ []) next = AllMeet cs next
  AnyMeets (cs ∷ ds ∷ css) next = AllMeet cs (λ a. AnyMeets (ds ∷ css) (λ b. next (a || b)))

-- ---- arithmetic

-- the characters that a receiver gets, and none on a size error
abbrev pub kept_by : Option Picture → Number → Option (List ℕ)
kept_by None n = None
kept_by (Some p) n = if is_kept p n then Some (moved p n) else None

-- the same of a result
abbrev pub received : Option Picture → Result Number SizeError → Option (List ℕ)
received p (Ok n) = kept_by p n
received p (Err error) = None

-- ---- statements

module _ (deck : DeckModel) (program : Program) (sizes message : List ℕ) (replies : List ℕ → RecordsByFile → Type 0) where
  -- the items of a moment with a text moved to one
  abbrev pub moved_text : List ℕ → Spot → KnownMoment → KnownMoment
  moved_text chars spot k = record k { texts = with_moved (Text' chars) spot sizes k.texts }

  -- behind a read: nothing is found, or a record, which is moved to an item
  abbrev pub FindMeets : ℕ → Option (List ℕ) → Spot → (KnownMoment → Type 0) → KnownMoment → Type 0
  FindMeets missing found spot next k =
      (found ≡ None → next (with_status missing k))
      × ((content : List ℕ) → found ≡ Some content → next (moved_text content spot (with_status 0 k)))

  -- behind a change of a file: it is refused, or done
  abbrev pub ChangeMeets : ℕ → Bool → ℕ → List (List ℕ) → (KnownMoment → Type 0) → KnownMoment → Type 0
  ChangeMeets refused may f after next k =
      BranchesOn may (next (with_status 0 (record k { files = upd k.files f after }))) (next (with_status refused k))

  -- behind arithmetic: a size error, or the receiver has its characters
  abbrev pub ArithmeticMeets : arithmetic.ArithmeticForm → (KnownMoment → Type 0) → (KnownMoment → Type 0)
      → KnownMoment → Type 0
  ArithmeticMeets a on_error next k =
      WithKnown program sizes k a.first (λ x. WithKnown program sizes k a.second (λ y.
      WithKnown program sizes k (receiver_of a) (λ z.
      let spot = spot_in z in
      let result =
      received spot.picture
      (operated a.operation (receiver_decimals spot.picture) (number_of (said sizes k.texts x)) (number_of (said sizes k.texts y))) in
      (result ≡ None → on_error k)
      × ((chars : List ℕ) → result ≡ Some chars → next (record k { texts = with_text spot chars sizes k.texts })))))

  -- performs: what a turn of a paragraph has to meet
  module _ (performs : Word → (KnownMoment → Type 0) → KnownMoment → Type 0) where
    -- each turn leaves the files, whatever the items and registers are; of these nothing is known behind the loop
    abbrev pub LoopMeets : Word → (KnownMoment → Type 0) → KnownMoment → Type 0
    LoopMeets paragraph next k =
        (texts : List (List ℕ)) (registers : Registers) → HaveSizes sizes texts
        → performs paragraph (λ after. after.files ≡ k.files) (record k { texts = texts; registers = registers })
        × next (record k { texts = texts; registers = registers })

    abbrev mutual
      -- what follows has to be met behind the statement; of statements that are not spoken of nothing can be shown
      pub StatementMeets : Statement → (KnownMoment → Type 0) → KnownMoment → Type 0
      StatementMeets (form.Move line from to) next k =
          WithKnown program sizes k from (λ source. WithAllKnown program sizes k to (λ targets.
          next (record k { texts = with_moves source (map spot_in targets) sizes k.texts })))
      StatementMeets (form.Arithmetic line a) next k = ArithmeticMeets a next next k
      StatementMeets (form.OnSizeError' line a n first m second) next k =
          ArithmeticMeets a (RowMeets first next) (RowMeets second next) k
      StatementMeets (form.If' line cond n first m second) next k =
          AnyMeets program sizes k cond.any (λ b. BranchesOn b (RowMeets first next k) (RowMeets second next k))
      StatementMeets (form.Perform line paragraph) next k = performs paragraph next k
      StatementMeets (form.PerformUntil line paragraph cond) next k = LoopMeets paragraph next k
      StatementMeets (form.Exit line) next k = next k
      StatementMeets (form.ExitProgram line) next k = Unit {0}
      StatementMeets (form.StopRun line) next k = Unit {0}
      StatementMeets (form.Receive line into) next k =
          WithKnown program sizes k into (λ item. next (moved_text message (spot_in item) k))
      StatementMeets (form.Reply line from) next k =
          WithKnown program sizes k from (λ found. replies (as_it_stands (said sizes k.texts found)) k.files)
      StatementMeets (form.Read line file locking key into) next k =
          WithKnown program sizes k key (λ found. WithKnown program sizes k into (λ item.
          let f = file_number deck file in
          FindMeets 11 (record_at (key_length deck f) (k.files f) (as_it_stands (said sizes k.texts found))) (spot_in item) next k))
      StatementMeets (form.ReadNext line file locking after into) next k =
          WithKnown program sizes k after (λ found. WithKnown program sizes k into (λ item.
          let f = file_number deck file in
          FindMeets 1 (record_after (key_length deck f) (k.files f) (as_it_stands (said sizes k.texts found))) (spot_in item) next k))
      StatementMeets (form.Write line file from) next k =
          WithKnown program sizes k from (λ found.
          let f = file_number deck file in
          let n = key_length deck f in
          let content = as_it_stands (said sizes k.texts found) in
          ChangeMeets 10 (if has_key n (k.files f) (take n content) then false else true) f (with_record n (k.files f) content) next k)
      StatementMeets (form.Rewrite line file from) next k =
          WithKnown program sizes k from (λ found.
          let f = file_number deck file in
          let n = key_length deck f in
          let content = as_it_stands (said sizes k.texts found) in
          ChangeMeets 11 (has_key n (k.files f) (take n content)) f (with_record n (k.files f) content) next k)
      StatementMeets (form.Delete line file key) next k =
          WithKnown program sizes k key (λ found.
          let f = file_number deck file in
          let n = key_length deck f in
          let own = as_it_stands (said sizes k.texts found) in
          ChangeMeets 11 (has_key n (k.files f) own) f (without_key n (k.files f) own) next k)
      StatementMeets _ next k = ⊥

      -- the statements of a branch
      pub RowMeets : {n : _} → Row_of-Statement n → (KnownMoment → Type 0) → KnownMoment → Type 0
      RowMeets end_of-Statement next k = next k
      RowMeets (more_of-Statement one rest) next k = StatementMeets one (RowMeets rest next) k

    -- the statements of a paragraph
    abbrev pub BodyMeets : List Statement → (KnownMoment → Type 0) → KnownMoment → Type 0
    BodyMeets [] next k = next k
    BodyMeets (one ∷ rest) next k = StatementMeets one (BodyMeets rest next) k

    -- the paragraphs from one on, of which each runs on into the next
    abbrev pub FlowMeets : List Paragraph → KnownMoment → Type 0
    FlowMeets [] k = Unit {0}
    FlowMeets (paragraph ∷ paragraphs) k = BodyMeets paragraph.body (FlowMeets paragraphs) k

  -- a turn of a paragraph; d: how many more PERFORMs may be active
  abbrev pub PerformMeets : ℕ → Word → (KnownMoment → Type 0) → KnownMoment → Type 0
  PerformMeets zero paragraph next k = Unit {0}
  PerformMeets (suc d) paragraph next k = BodyMeets (PerformMeets d) (body_named program paragraph) next k

  -- the whole server, from what is known at its start
  abbrev pub ServerMeets : RecordsByFile → Type 0
  ServerMeets files = FlowMeets (PerformMeets most_performs) program.paragraphs (known_start program files)
