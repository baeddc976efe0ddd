-- The instructions of a program whose names resolve are valid.
use Rattle.std.proofs.Common.{◌≡◌, ℕ, zero, suc, ◌+◌, ◌<◌, ◌≤◌, Bool, true, false, not, List, [], ◌∷◌, ◌++◌, length, map, flat_map, All, Option, Some, None, IsSome, IsTrue, is_some, refl, sym, ap, ◌∙◌, subst, arith}
use Rattle.std.specs.Prelude.{slice_get, slice_index_or, position, unwrap_or, option_map, bytes_eq, codes, nat_le, if◌then◌else◌}
use Rattle.std.specs.Option.{option_or}
use Rattle.std.proofs.lemmas.Bool.{and_parts, eqb-true, leb-true, false≢true, not-true}
use Rattle.std.proofs.lemmas.Iterator.Adapters.{position_from-zero}
use Rattle.std.proofs.lemmas.List.{length-append, length-map}
use Rattle.std.proofs.lemmas.List.Elements.{All-nil, All-cons}
use Rattle.std.proofs.lemmas.Slice.Eq.{bytes_eq-Decides}
use Rattle.std.proofs.lemmas.Option.{same_Some, none-some, slice_get_within}
use Rattle.pw_words.specs.Words.{Word, same_word}
use Rattle.pw_data.specs.Layouts.{place_at}
use Rattle.pw_data.specs.declared.item.Item.{Item}
use Rattle.pw_forms.specs.declared.cond.ComparisonForm.{ComparisonForm}
use Rattle.pw_forms.specs.declared.cond.ComparisonForm.TheVariants as comparisons
use Rattle.pw_forms.specs.declared.cond.ConditionForm.{ConditionForm}
use Rattle.pw_forms.specs.declared.lists.SendCode as sending
use Rattle.pw_forms.specs.declared.operand.Operand.{Operand}
use Rattle.pw_forms.specs.declared.operand.Operand.TheVariants as operands
use Rattle.pw_forms.specs.declared.operand.Subscript.{Subscript}
use Rattle.pw_forms.specs.declared.statement.ArithmeticForm.{ArithmeticForm}
use Rattle.pw_forms.specs.declared.statement.Paragraph.{Paragraph}
use Rattle.pw_forms.specs.declared.statement.Statement.{Statement, Row_of-Statement, end_of-Statement, more_of-Statement}
use Rattle.pw_forms.specs.declared.statement.Statement as form
use Rattle.pw_operands.specs.Resolved.{Each, NamesVariable, IsItem, IsShownName, IsOfFile, FitsPlace, Resolves, RowResolves, is_key, is_record, is_sum}
use Rattle.pw_operands.specs.Scope.{Scope, paragraph_of, screen_of, program_of, class_of}
use Rattle.pw_operands.specs.Uses.{Use, cond_uses, comparison_uses}
use Rattle.pw_operands.specs.Uses as place
use Rattle.pw_operands.specs.Variables.{is_any, is_item, is_number_variable, of_place, of_register, register_of, digits_of}
use Rattle.pw_operands.specs.declared.register.SpecialRegister as registers
use Rattle.pw_operands.specs.declared.variable.Variable.{Variable}
use Rattle.pw_code.specs.Instrs.{is_for, HasRanges, IsInstr, AreInstrs, IsTurn, IsScreen, IsProgramCall, IsSend, IsKey, IsRecord, IsItemOperand, IsReplyCode, IsArithmetic, most_keys, file_at, size_of_item, digits_of_register}
use Rattle.pw_code.specs.Places.{IsPlace, IsOperand, IsComparison, IsCond}
use Rattle.pw_code.specs.declared.code.Code.{Code}
use Rattle.pw_code.specs.declared.file.FileInfo.{FileInfo}
use Rattle.pw_code.specs.declared.instr.Instr.{Instr}
use Rattle.pw_code.specs.declared.instr.Instr.TheVariants as instr
use Rattle.pw_code.specs.declared.lock.LockRule.{LockRule}
use Rattle.pw_code.specs.declared.system.ClassInfo.{ClassInfo}
use Rattle.pw_code.specs.declared.system.System.{System}
use Rattle.pw_tree_meaning.specs.Program.{DeckModel, Program, item_named, program_number}
use Rattle.pw_tree_meaning.specs.Sound.{links_of, scope_of, HasForms, RowHasForms, IsLayout}
use Rattle.pw_tree_meaning.proofs.Resolved.{class-below, file-got}
use Rattle.pw_compile.specs.Conditions as compiled
use Rattle.pw_compile.specs.Emitted.{statement_code, row_code, body_code, procedure_code, has_screen, display_by, display_of, reply_code}
use Rattle.pw_compile.specs.Operands as code
use Rattle.pw_compile.specs.Plan as plans
use Rattle.pw_compile.specs.Plan.{Plan, plan_of, turn_of}
use Rattle.pw_compile.specs.Sizes.{row_size, body_size}
use Rattle.pw_compiler_laws.specs.Premises.{IsLiteral, AreLiterals, CallFits, DeckCallsFit, DeckRowCallsFit, IsReadStatement, RowIsRead}
use Rattle.pw_tree_meaning.specs.Written.{IsWritten, RowIsWritten}
use Rattle.pw_compiler_laws.specs.Systems.{code_in, codes_in, system_of}
use Rattle.pw_compiler_laws.proofs.Decks.{code-in, codes-long, program-below}
use Rattle.pw_compiler_laws.proofs.Items.{variable-of, place-lies, item-lies, any-lies, amount-lies, is-item-there}
use Rattle.pw_compile.proofs.Lengths.{row_length, body_length}
use Rattle.pw_compiler_laws.proofs.Whole.{number-same, class-same}

requester-only : (server : Bool) (P : Bool → Type 0) → (P true → ⊥) → P server → IsTrue (not server)
requester-only true P never p = absurd (never p)
requester-only false P never p = refl

server-only : (server : Bool) (P : Bool → Type 0) → (P false → ⊥) → P server → IsTrue server
server-only true P never p = refl
server-only false P never p = absurd (never p)

got-or : {A : Type 0} (xs : List A) (i : ℕ) (d x : A) → slice_get xs i ≡ Some x → slice_index_or xs i d ≡ x
got-or [] i d x e = absurd cc
got-or (y ∷ ys) zero d x e = same_Some y x e
got-or (y ∷ ys) (suc i) d x e = got-or ys i d x e

-- a register of a server has the digits that the code gives it
register-by : (a b : Bool) → (b ≡ true → ⊥) → digits_of_register (if a then code.register_named (codes "TERMINATION-STATUS") else if b then code.register_named (codes "RESTART-COUNTER") else code.register_named (codes "FILE-STATUS")) ≡ 4
register-by true b never = refl
register-by false true never = absurd (never refl)
register-by false false never = refl

register-size : (server : Bool) (name : Word) (r : registers.SpecialRegister) → server ≡ true → register_of server name ≡ Some r → digits_of_register (code.register_named name) ≡ digits_of r
register-size false name r is e = absurd cc
register-size true name r is e = by (same_word name (codes "FILE-STATUS")) refl e
  where
    by : (b : Bool) → same_word name (codes "FILE-STATUS") ≡ b → (if b then Some registers.TheVariants.FileStatus else None) ≡ Some r → digits_of_register (code.register_named name) ≡ digits_of r
    by true same found =
        register-by (bytes_eq name (codes "TERMINATION-STATUS")) (bytes_eq name (codes "RESTART-COUNTER"))
        (λ other.
        let is_that : name ≡ codes "RESTART-COUNTER" = (bytes_eq-Decides name (codes "RESTART-COUNTER")).0 other in
        false≢true (subst (λ (word : Word). same_word word (codes "FILE-STATUS") ≡ true) is_that same))
        ∙ ap digits_of (same_Some registers.TheVariants.FileStatus r found)
    by false same found = absurd (none-some r found)

module _ (rule : LockRule) (deck : DeckModel) (server : Bool) (program : Program) (first : ℕ) (laid : IsLayout server program.layout) where
  abbrev system : System
  system = system_of rule deck

  abbrev own : Code
  own = code_in (links_of deck) first program

  abbrev scope : Scope
  scope = scope_of server deck program

  abbrev long : ℕ
  long = length program.layout.storage

  abbrev plan : Plan
  plan = plan_of program.layout program.screens program.paragraphs first (links_of deck)

  module _ (turn-there : (name : Word) → IsSome (paragraph_of scope name) → IsTurn own (turn_of plan name))
      (screen-there : server ≡ false → (name : Word) → IsSome (screen_of scope name) → IsScreen system long (plans.planned_screen plan name)) where
    -- these instructions are valid, with so many more behind them
    abbrev pub AreIn : List Instr → ℕ → Type 0
    AreIn [] more = Unit {0}
    AreIn (i ∷ is) more = IsInstr server system own (length is + more) i × AreIn is more

    append-in : (a b : List Instr) (more : ℕ) → AreIn a (length b + more) → AreIn b more → AreIn (a ++ b) more
    append-in [] b more h g = g
    append-in (i ∷ a) b more h g =
        let same : length a + (length b + more) ≡ length (a ++ b) + more = omega (arith, length-append a b) in
        (subst (λ n. IsInstr server system own n i) same h.0, append-in a b more h.1 g)

    pub to-instrs : (is : List Instr) → AreIn is 0 → AreInstrs server system own is
    to-instrs [] h = tt
    to-instrs (i ∷ is) h = let same : length is + 0 ≡ length is = omega arith in (subst (λ n. IsInstr server system own n i) same h.0, to-instrs is h.1)

    -- ---- lists

    places-lie : (ones : List Operand) → Each (FitsPlace scope) (map place.Receiver ones) → All (IsPlace long) (map (code.place_in program.layout) ones)
    places-lie [] each = All-nil (IsPlace long)
    places-lie (one ∷ ones) each =
        All-cons (IsPlace long) (code.place_in program.layout one) (map (code.place_in program.layout) ones) (place-lies server deck program laid is_item one each.0) (places-lie ones each.1)

    codes-lie : (ones : List sending.SendCode) → Each (FitsPlace scope) (map (λ (one : sending.SendCode). place.Receiver one.yields) ones) → Each (λ (one : sending.SendCode). one.number ≤ 9999) ones
        → All (IsReplyCode long) (map (reply_code plan) ones)
    codes-lie [] each few = All-nil (IsReplyCode long)
    codes-lie (one ∷ ones) each few =
        All-cons (IsReplyCode long) (reply_code plan one) (map (reply_code plan) ones) (few.0, place-lies server deck program laid is_item one.yields each.0) (codes-lie ones each.1 few.1)

    each-front : (xs ys : List Use) → Each (FitsPlace scope) (xs ++ ys) → Each (FitsPlace scope) xs
    each-front [] ys each = tt
    each-front (x ∷ xs) ys each = (each.0, each-front xs ys each.1)

    each-back : (xs ys : List Use) → Each (FitsPlace scope) (xs ++ ys) → Each (FitsPlace scope) ys
    each-back [] ys each = each
    each-back (x ∷ xs) ys each = each-back xs ys each.1

    turns-there : (names : List Word) → Each (FitsPlace scope) (map place.Paragraph names) → All (IsTurn own) (map (turn_of plan) names)
    turns-there [] each = All-nil (IsTurn own)
    turns-there (name ∷ names) each = All-cons (IsTurn own) (turn_of plan name) (map (turn_of plan) names) (turn-there name each.0) (turns-there names each.1)

    -- ---- conditions and arithmetic

    comparison-lies : (one : ComparisonForm) → Each (FitsPlace scope) (comparison_uses one) → AreLiterals one → IsComparison long (compiled.comparison_of program.layout one)
    comparison-lies (comparisons.Compare left negated op right) each read = (any-lies server deck program laid left each.0 read.0, any-lies server deck program laid right each.1.0 read.1)
    comparison-lies (comparisons.Numeric one negated) each read = any-lies server deck program laid one each.0 read

    all-lie : (ones : List ComparisonForm) → Each (FitsPlace scope) (flat_map comparison_uses ones) → Each AreLiterals ones → All (IsComparison long) (map (compiled.comparison_of program.layout) ones)
    all-lie [] each read = All-nil (IsComparison long)
    all-lie (one ∷ ones) each read =
        All-cons (IsComparison long) (compiled.comparison_of program.layout one) (map (compiled.comparison_of program.layout) ones)
        (comparison-lies one (each-front (comparison_uses one) (flat_map comparison_uses ones) each) read.0)
        (all-lie ones (each-back (comparison_uses one) (flat_map comparison_uses ones) each) read.1)

    lists-lie : (lists : List (List ComparisonForm)) → Each (FitsPlace scope) (flat_map (λ all. flat_map comparison_uses all) lists) → Each (Each AreLiterals) lists
        → All (All (IsComparison long)) (map (map (compiled.comparison_of program.layout)) lists)
    lists-lie [] each read = All-nil (All (IsComparison long))
    lists-lie (list ∷ lists) each read =
        All-cons (All (IsComparison long)) (map (compiled.comparison_of program.layout) list) (map (map (compiled.comparison_of program.layout)) lists)
        (all-lie list (each-front (flat_map comparison_uses list) (flat_map (λ all. flat_map comparison_uses all) lists) each) read.0)
        (lists-lie lists (each-back (flat_map comparison_uses list) (flat_map (λ all. flat_map comparison_uses all) lists) each) read.1)

    cond-lies : (cond : ConditionForm) → Each (FitsPlace scope) (cond_uses cond) → Each (Each AreLiterals) cond.any → IsCond long (compiled.cond_of program.layout cond)
    cond-lies cond each read = lists-lie cond.any each read

    arithmetic-lies : (a : ArithmeticForm) → Each (FitsPlace scope) (place.arithmetic_uses a) → IsLiteral a.first → IsLiteral a.second → IsArithmetic long (compiled.arithmetic_of program.layout a)
    arithmetic-lies a each one two = let r = by a.giving each.1 in record { first = amount-lies server deck program laid a.first each.0 one; second = r.0; receiver = r.1 }
      where
        by : (giving : Option Operand) → Each (FitsPlace scope) (place.result_uses a.second giving)
            → IsOperand long (code.operand_of program.layout a.second) × IsPlace long (code.place_in program.layout (compiled.receiver_by giving a.second))
        by None rest = (item-lies server deck program laid is_sum a.second rest.0, place-lies server deck program laid is_sum a.second rest.0)
        by (Some item) rest = (amount-lies server deck program laid a.second rest.0 two, place-lies server deck program laid is_sum item rest.1.0)

    -- ---- files

    named-size : server ≡ true → (test : Variable → Bool) (name : Word) (subscript : Option Subscript) → (is : NamesVariable scope test name subscript)
        → size_of_item (code.operand_of program.layout (operands.Item name subscript)) ≡ is.variable.size
    named-size here test name subscript is = by (item_named program name) refl
      where
        by-register : (r : Option registers.SpecialRegister) → register_of server name ≡ r → option_or (option_map of_register r) None ≡ Some is.variable → digits_of_register (code.register_named name) ≡ is.variable.size
        by-register None e found = absurd (none-some is.variable found)
        by-register (Some r) e found = register-size server name r here e ∙ ap (λ (v : Variable). v.size) (same_Some (of_register r) is.variable found)

        by : (o : Option Item) → item_named program name ≡ o → size_of_item (code.operand_by program.layout (option_map place_at o) name subscript) ≡ is.variable.size
        by None e =
            by-register (register_of server name) refl
            (ap (λ (o : Option Item). option_or (option_map of_register (register_of server name)) (option_map of_place (option_map place_at o))) (sym e) ∙ is.found)
        by (Some item) e = ap (λ (v : Variable). v.size) (variable-of server deck program laid name item is.variable e is.found)

    item-size : server ≡ true → (test : Variable → Bool) (one : Operand) → IsItem scope test one → (variable : Variable) × (test variable ≡ true) × (size_of_item (code.operand_of program.layout one) ≡ variable.size)
    item-size here test (operands.Item name subscript) is = (is.variable, is.passes, named-size here test name subscript is)
    item-size here test (operands.Number digits) is = absurd is
    item-size here test (operands.Text chars) is = absurd is
    item-size here test operands.Spaces is = absurd is
    item-size here test operands.Zeros is = absurd is

    item-operand : (test : Variable → Bool) (one : Operand) → IsItem scope test one → IsItemOperand long (code.operand_of program.layout one)
    item-operand test one is = record { operand = item-lies server deck program laid test one is; item = is-item-there server deck program laid test one is }

    key-lies : server ≡ true → (file : Word) (key : Operand) → IsOfFile scope is_key file key → IsKey system long (plans.file_of plan file) (code.operand_of program.layout key)
    key-lies here file key is =
        let got : slice_get deck.files (plans.file_of plan file) ≡ Some is.file = file-got deck.files file is.file is.found in
        let s = item-size here (is_key is.file) key is.item in
        let same : s.0.size ≡ is.file.key = eqb-true s.0.size is.file.key s.1 in
        record {
          known = slice_get_within deck.files (plans.file_of plan file) is.file got;
          operand = item-operand (is_key is.file) key is.item;
          size = s.2 ∙ same ∙ sym (ap (λ (one : FileInfo). one.key) (got-or deck.files (plans.file_of plan file) _ is.file got));
        }

    record-lies : server ≡ true → (file : Word) (from : Operand) → IsOfFile scope is_record file from → IsRecord system long (plans.file_of plan file) (code.operand_of program.layout from)
    record-lies here file from is =
        let got : slice_get deck.files (plans.file_of plan file) ≡ Some is.file = file-got deck.files file is.file is.found in
        let s = item-size here (is_record is.file) from is.item in
        let parts = and_parts (nat_le is.file.key s.0.size) (nat_le s.0.size 4000) s.1 in
        let least : is.file.key ≤ s.0.size = leb-true is.file.key s.0.size parts.0 in
        let most : s.0.size ≤ 4000 = leb-true s.0.size 4000 parts.1 in
        let key : (file_at system (plans.file_of plan file)).key ≡ is.file.key = ap (λ (one : FileInfo). one.key) (got-or deck.files (plans.file_of plan file) _ is.file got) in
        record {
          known = slice_get_within deck.files (plans.file_of plan file) is.file got;
          operand = item-operand (is_record is.file) from is.item;
          least = omega (arith, key, least, s.2);
          most = omega (arith, most, s.2);
        }

    -- ---- calls and sends

    call-lies : (name : Word) (arguments : List Operand) → IsSome (program_of scope name) → Each (FitsPlace scope) (map place.Receiver arguments) → CallFits deck program name arguments
        → IsProgramCall system long (plans.planned_program plan name) (map (code.place_in program.layout) arguments)
    call-lies name arguments named each fits =
        let there = program-below deck.programs name named in
        let n : plans.planned_program plan name ≡ program_number deck name = number-same (λ (one : Program). one.name) deck.programs name in
        let below : program_number deck name < length (codes_in (links_of deck) 0 deck.programs) = omega (arith, there, codes-long (links_of deck) deck.programs 0) in
        subst (λ k. IsProgramCall system long k (map (code.place_in program.layout) arguments)) (sym n)
        (record {
          known = below;
          places = places-lie arguments each;
          sizes = fits.sizes ∙ sym (ap (λ (one : Code). map (λ (item : ℕ × ℕ). item.1) one.linkage) (code-in (links_of deck) deck.programs (program_number deck name) 0 there));
        })

    send-lies : (more : ℕ) (message : Operand) (class : Word) (ones : List sending.SendCode) → IsItem scope is_any message → IsSome (class_of scope class)
        → Each (FitsPlace scope) (map (λ (one : sending.SendCode). place.Receiver one.yields) ones) → length ones ≤ most_keys → Each (λ (one : sending.SendCode). one.number ≤ 9999) ones
        → IsSend system long (suc more) (plans.planned_class plan class) (code.operand_of program.layout message) (map (reply_code plan) ones)
    send-lies more message class ones sent named each few numbers =
        let n : plans.planned_class plan class ≡ unwrap_or (position (λ (one : ClassInfo). bytes_eq one.name class) deck.classes) 0 = class-same (λ (one : ClassInfo). one.name) deck.classes class in
        let below = class-below deck.classes class named in
        record {
          known = omega (arith, n, below);
          sent = item-operand is_any message sent;
          few = omega (arith, few, length-map ones (reply_code plan));
          each = codes-lie ones each numbers;
          over = omega arith;
        }

    -- ---- statements

    valid : (behind : ℕ) (i : Instr) → IsTrue (is_for server i) → HasRanges system own behind i → IsInstr server system own behind i
    valid behind i kind ranges = record { kind = kind; ranges = ranges }

    shown-lies : (shown : Operand) → server ≡ false → FitsPlace scope (place.Shown shown) → IsLiteral shown → (more : ℕ) → AreIn (display_of plan shown ∷ []) more
    shown-lies (operands.Item name None) here is read more = by (screen_of scope name) refl is (has_screen program.screens name) (ap is_some (position_from-zero (λ screen. bytes_eq screen.name name) program.screens))
      where
        by : (o : Option ℕ) → screen_of scope name ≡ o → IsShownName scope name None o → (b : Bool) → b ≡ is_some (screen_of scope name)
            → AreIn (display_by plan b name (operands.Item name None) ∷ []) more
        by (Some n) e shows true b_is = (valid (0 + more) _ (ap not here) (screen-there here name (ap is_some e)), tt)
        by (Some n) e shows false b_is = let wrong : false ≡ true = b_is ∙ ap is_some e in absurd (false≢true wrong)
        by None e shows true b_is = let wrong : true ≡ false = b_is ∙ ap is_some e in absurd (false≢true (sym wrong))
        by None e shows false b_is = (valid (0 + more) _ (ap not here) (any-lies server deck program laid (operands.Item name None) shows tt), tt)
    shown-lies (operands.Item name (Some one)) here is read more = by (screen_of scope name) is
      where
        by : (o : Option ℕ) → IsShownName scope name (Some one) o → AreIn (instr.Display (code.operand_of program.layout (operands.Item name (Some one))) ∷ []) more
        by (Some n) shows = absurd cc
        by None shows = (valid (0 + more) _ (ap not here) (any-lies server deck program laid (operands.Item name (Some one)) shows tt), tt)
    shown-lies (operands.Number digits) here is read more = (valid (0 + more) _ (ap not here) read, tt)
    shown-lies (operands.Text chars) here is read more = (valid (0 + more) _ (ap not here) tt, tt)
    shown-lies operands.Spaces here is read more = (valid (0 + more) _ (ap not here) tt, tt)
    shown-lies operands.Zeros here is read more = (valid (0 + more) _ (ap not here) tt, tt)

    -- the two branches of a choice, behind its test
    branches-in : {n m : _} (first : Row_of-Statement n) (second : Row_of-Statement m) (more : ℕ) → AreIn (row_code plan first) (length (instr.Jump (row_size second) ∷ row_code plan second) + more) → AreIn (row_code plan second) more
        → AreIn (row_code plan first ++ instr.Jump (row_size second) ∷ row_code plan second) more
    branches-in first second more one two =
        append-in (row_code plan first) (instr.Jump (row_size second) ∷ row_code plan second) more one
        (valid (length (row_code plan second) + more) (instr.Jump (row_size second)) refl (omega (arith, row_length plan second)), two)

    jump-over : {n m : _} (first : Row_of-Statement n) (second : Row_of-Statement m) (more : ℕ)
        → row_size first + 1 ≤ length (row_code plan first ++ instr.Jump (row_size second) ∷ row_code plan second) + more
    jump-over first second more =
        omega (arith, length-append (row_code plan first) (instr.Jump (row_size second) ∷ row_code plan second), row_length plan first)

    mutual
      pub statement-in : (one : Statement) → Resolves scope one → HasForms server one → (server ≡ false → DeckCallsFit deck program one) → IsReadStatement one → IsWritten one → (more : ℕ) → AreIn (statement_code plan one) more
      statement-in (form.Move line from to) is forms fit read written more = (valid (0 + more) _ refl (any-lies server deck program laid from is.0 read, places-lie to is.1), tt)
      statement-in (form.Arithmetic line a) is forms fit read written more = (valid (0 + more) _ refl (arithmetic-lies a is read.0 read.1), tt)
      statement-in (form.OnSizeError' line a n first m second) is forms fit read written more = (
        valid _ _ refl (arithmetic-lies a is.0 read.0 read.1, jump-over first second more),
        branches-in first second more (row-in first is.1 forms.0 (λ e. (fit e).0) read.2 written.0 _) (row-in second is.2 forms.1 (λ e. (fit e).1) read.3 written.1 more),
      )
      statement-in (form.If' line cond n first m second) is forms fit read written more = (
        valid _ _ refl (cond-lies cond is.0 read.0, jump-over first second more),
        branches-in first second more (row-in first is.1 forms.0 (λ e. (fit e).0) read.1 written.0 _) (row-in second is.2 forms.1 (λ e. (fit e).1) read.2 written.1 more),
      )
      statement-in (form.Perform line name) is forms fit read written more = (valid (0 + more) _ refl (turn-there name is.0), tt)
      statement-in (form.PerformTimes line name times) is forms fit read written more = (valid (0 + more) _ refl (turn-there name is.0, amount-lies server deck program laid times is.1.0 read), tt)
      statement-in (form.PerformUntil line name cond) is forms fit read written more = (valid (1 + more) instr.Exit refl tt, (valid (0 + more) _ refl (turn-there name is.0, cond-lies cond is.1 read), tt))
      statement-in (form.PerformOneOf line names position) is forms fit read written more = (
        valid (0 + more) _ refl (
          turns-there names (each-front (map place.Paragraph names) (place.Position position ∷ []) is),
          item-lies server deck program laid is_number_variable position (each-back (map place.Paragraph names) (place.Position position ∷ []) is).0,
        ),
        tt,
      )
      statement-in (form.Exit line) is forms fit read written more = (valid (0 + more) instr.Exit refl tt, tt)
      statement-in (form.ExitProgram line) is forms fit read written more = (valid (0 + more) instr.ExitProgram refl tt, tt)
      statement-in (form.StopRun line) is forms fit read written more = (valid (0 + more) instr.StopRun refl tt, tt)
      statement-in (form.DisplayBase line name) is forms fit read written more =
          let here = requester-only server (λ b. HasForms b (form.DisplayBase line name)) (λ never. never) forms in
          (valid (0 + more) _ here (screen-there (not-true server here) name is.0), tt)
      statement-in (form.Display line shown) is forms fit read written more =
          let here = requester-only server (λ b. HasForms b (form.Display line shown)) (λ never. never) forms in
          shown-lies shown (not-true server here) is.0 read more
      statement-in (form.Accept line name keys) is forms fit read written more =
          let here = requester-only server (λ b. HasForms b (form.Accept line name keys)) (λ never. never) forms in
          (valid (0 + more) _ here (screen-there (not-true server here) name is.0, written), tt)
      statement-in (form.Call line name arguments) is forms fit read written more =
          let here = requester-only server (λ b. HasForms b (form.Call line name arguments)) (λ never. never) forms in
          (valid (0 + more) _ here (call-lies name arguments is.0 is.1 (fit (not-true server here))), tt)
      statement-in (form.Send line message class ones) is forms fit read written more =
          let here = requester-only server (λ b. HasForms b (form.Send line message class ones)) (λ never. never) forms in
          let same : suc more ≡ 1 + more = omega arith in (
            valid (1 + more) _ here (subst (λ n. IsSend system long n (plans.planned_class plan class) (code.operand_of program.layout message) (map (reply_code plan) ones)) same (send-lies more message class ones is.0 is.1.0 is.1.1 written.0 written.1)),
            (valid (0 + more) instr.NoCode here tt, tt),
          )
      statement-in (form.Begin line) is forms fit read written more = (valid (0 + more) instr.Begin (requester-only server (λ b. HasForms b (form.Begin line)) (λ never. never) forms) tt, tt)
      statement-in (form.End line) is forms fit read written more = (valid (0 + more) instr.End (requester-only server (λ b. HasForms b (form.End line)) (λ never. never) forms) tt, tt)
      statement-in (form.Abort line) is forms fit read written more = (valid (0 + more) instr.Abort (requester-only server (λ b. HasForms b (form.Abort line)) (λ never. never) forms) tt, tt)
      statement-in (form.Restart line) is forms fit read written more = (valid (0 + more) instr.Restart (requester-only server (λ b. HasForms b (form.Restart line)) (λ never. never) forms) tt, tt)
      statement-in (form.Receive line into) is forms fit read written more =
          (valid (0 + more) _ (server-only server (λ b. HasForms b (form.Receive line into)) (λ never. never) forms) (place-lies server deck program laid is_item into is.0), tt)
      statement-in (form.Reply line from) is forms fit read written more =
          (valid (0 + more) _ (server-only server (λ b. HasForms b (form.Reply line from)) (λ never. never) forms) (item-operand is_any from is.0), tt)
      statement-in (form.Read line file locking key into) is forms fit read written more =
          let here = server-only server (λ b. HasForms b (form.Read line file locking key into)) (λ never. never) forms in
          (valid (0 + more) _ here (key-lies here file key is.0, place-lies server deck program laid is_item into is.1.0), tt)
      statement-in (form.ReadNext line file locking key into) is forms fit read written more =
          let here = server-only server (λ b. HasForms b (form.ReadNext line file locking key into)) (λ never. never) forms in
          (valid (0 + more) _ here (key-lies here file key is.0, place-lies server deck program laid is_item into is.1.0), tt)
      statement-in (form.Write line file from) is forms fit read written more =
          let here = server-only server (λ b. HasForms b (form.Write line file from)) (λ never. never) forms in
          (valid (0 + more) _ here (record-lies here file from is.0), tt)
      statement-in (form.Rewrite line file from) is forms fit read written more =
          let here = server-only server (λ b. HasForms b (form.Rewrite line file from)) (λ never. never) forms in
          (valid (0 + more) _ here (record-lies here file from is.0), tt)
      statement-in (form.Delete line file key) is forms fit read written more =
          let here = server-only server (λ b. HasForms b (form.Delete line file key)) (λ never. never) forms in
          (valid (0 + more) _ here (key-lies here file key is.0), tt)

      row-in : {n : _} (row : Row_of-Statement n) → RowResolves scope row → RowHasForms server row → (server ≡ false → DeckRowCallsFit deck program row) → RowIsRead row → RowIsWritten row → (more : ℕ) → AreIn (row_code plan row) more
      row-in end_of-Statement is forms fit read written more = tt
      row-in (more_of-Statement one rest) is forms fit read written more =
          append-in (statement_code plan one) (row_code plan rest) more
          (statement-in one is.0 forms.0 (λ e. (fit e).0) read.0 written.0 (length (row_code plan rest) + more)) (row-in rest is.1 forms.1 (λ e. (fit e).1) read.1 written.1 more)

    body-in : (ones : List Statement) → Each (Resolves scope) ones → Each (HasForms server) ones → (server ≡ false → Each (DeckCallsFit deck program) ones) → Each IsReadStatement ones → Each IsWritten ones → (more : ℕ) → AreIn (body_code plan ones) more
    body-in [] is forms fit read written more = tt
    body-in (one ∷ ones) is forms fit read written more =
        append-in (statement_code plan one) (body_code plan ones) more
        (statement-in one is.0 forms.0 (λ e. (fit e).0) read.0 written.0 (length (body_code plan ones) + more)) (body-in ones is.1 forms.1 (λ e. (fit e).1) read.1 written.1 more)

    -- the paragraphs from a place on, where as many instructions stand in front as that says
    paragraphs-in : (ps : List Paragraph) (at : ℕ) → Each (λ (p : Paragraph). Each (Resolves scope) p.body) ps → Each (λ (p : Paragraph). Each (HasForms server) p.body) ps
        → (server ≡ false → Each (λ (p : Paragraph). Each (DeckCallsFit deck program) p.body) ps) → Each (λ (p : Paragraph). Each IsReadStatement p.body) ps → Each (λ (p : Paragraph). Each IsWritten p.body) ps
        → at + length (procedure_code plan at ps) ≤ length own.instrs → AreIn (procedure_code plan at ps) 0
    paragraphs-in [] at is forms fit read written le = tt
    paragraphs-in (p ∷ ps) at is forms fit read written le =
        let later = procedure_code plan (at + body_size p.body + 1) ps in
        let long_here = length-append (body_code plan p.body) (instr.ParagraphEnd at ∷ later) in
        append-in (body_code plan p.body) (instr.ParagraphEnd at ∷ later) 0
        (body-in p.body is.0 forms.0 (λ e. (fit e).0) read.0 written.0 (length (instr.ParagraphEnd at ∷ later) + 0)) (
          valid (length later + 0) (instr.ParagraphEnd at) refl (omega (arith, le, long_here)),
          paragraphs-in ps (at + body_size p.body + 1) is.1 forms.1 (λ e. (fit e).1) read.1 written.1 (omega (arith, le, long_here, body_length plan p.body)),
        )

    pub instrs-are : Each (λ (p : Paragraph). Each (Resolves scope) p.body) program.paragraphs → Each (λ (p : Paragraph). Each (HasForms server) p.body) program.paragraphs
        → (server ≡ false → Each (λ (p : Paragraph). Each (DeckCallsFit deck program) p.body) program.paragraphs) → Each (λ (p : Paragraph). Each IsReadStatement p.body) program.paragraphs → Each (λ (p : Paragraph). Each IsWritten p.body) program.paragraphs
        → AreInstrs server system own own.instrs
    instrs-are is forms fit read written = to-instrs own.instrs (paragraphs-in program.paragraphs 0 is forms fit read written (omega arith))
