-- Where the names of a program have no fault, the arguments of its CALLs are as long as the items of USING.
use Rattle.std.proofs.Common.{◌≡◌, ℕ, zero, suc, ◌+◌, ◌<◌, Bool, true, false, List, [], ◌∷◌, ◌++◌, length, map, flat_map, Option, Some, None, IsSome, refl, sym, ap, ◌∙◌, subst, arith}
use Rattle.std.specs.Prelude.{slice_get, position, unwrap_or, option_map, bytes_eq}
use Rattle.std.specs.Option.{option_or}
use Rattle.std.proofs.lemmas.Bool.{and_parts, eqb-true, false≢true}
use Rattle.std.proofs.lemmas.Iterator.Adapters.{position_from-zero}
use Rattle.std.proofs.lemmas.List.{length-map}
use Rattle.std.proofs.lemmas.Option.{same_Some, none-some, slice_get_within, slice_get-map}
use Rattle.pw_base.specs.declared.fault_code.FaultCode.TheVariants.{WrongLength}
use Rattle.pw_base.proofs.Plain.{append-none}
use Rattle.pw_words.specs.Words.{Word}
use Rattle.pw_data.specs.Layouts.{Laid, place_at, place_of}
use Rattle.pw_data.specs.declared.item.Item.{Item}
use Rattle.pw_data.specs.declared.item.Place as items
use Rattle.pw_forms.specs.declared.operand.Operand.{Operand}
use Rattle.pw_forms.specs.declared.operand.Operand.TheVariants as operands
use Rattle.pw_forms.specs.declared.operand.Subscript.{Subscript}
use Rattle.pw_forms.specs.declared.statement.Paragraph.{Paragraph}
use Rattle.pw_forms.specs.declared.statement.Statement.{Statement, Row_of-Statement, end_of-Statement, more_of-Statement}
use Rattle.pw_forms.specs.declared.statement.Statement as form
use Rattle.pw_operands.specs.Resolved.{Each, NamesVariable, IsItem, FitsPlace, Resolves, RowResolves}
use Rattle.pw_operands.specs.Scope.{Scope, program_of}
use Rattle.pw_operands.specs.Uses as place
use Rattle.pw_operands.specs.Uses.{uses}
use Rattle.pw_operands.specs.Variables.{is_item, of_place, of_register, register_of}
use Rattle.pw_operands.specs.declared.register.SpecialRegister as registers
use Rattle.pw_operands.specs.declared.variable.Variable.{Variable}
use Rattle.pw_code.specs.declared.place.StoragePlace.{StoragePlace}
use Rattle.pw_names.specs.Calls as names
use Rattle.pw_names.specs.Calls.{Lengths, lengths_of, is_long, arguments_fit, found_fit, numbered_fit, call_fits, statement_flaws}
use Rattle.pw_names.specs.Faults.{own_faults, faults, row_faults, paragraph_faults, program_faults}
use Rattle.pw_names.specs.Flaws.{passes, unless_holds, variable_at, flaws_of}
use Rattle.pw_names.proofs.Accepted.{at_line-none}
use Rattle.pw_names.proofs.Fitting.{holds}
use Rattle.pw_tree_meaning.specs.Program.{DeckModel, Program, item_named, program_number}
use Rattle.pw_tree_meaning.specs.Program as tree
use Rattle.pw_tree_meaning.specs.Sound.{scope_of, IsLayout, IsSoundProgram}
use Rattle.pw_compile.specs.Operands as code
use Rattle.pw_compile.specs.Programs.{linked_by, linkage_of}
use Rattle.pw_compiler_laws.specs.Premises.{arguments_of, CallFits, DeckCallsFit, DeckRowCallsFit}
use Rattle.pw_compiler_laws.specs.Systems.{named_in}
use Rattle.pw_compiler_laws.proofs.Decks.{found-at, some-found}
use Rattle.pw_compiler_laws.proofs.Items.{variable-of}
use Rattle.pw_compiler_laws.proofs.Sending.{position-map}

none-each : {A B : Type 0} (f : A → List B) (xs : List A) → flat_map f xs ≡ [] → Each (λ x. f x ≡ []) xs
none-each f [] e = tt
none-each f (x ∷ xs) e = let parts = append-none (f x) (flat_map f xs) e in (parts.0, none-each f xs parts.1)

got-program : (programs : List Program) (q : ℕ) → q < length programs → slice_get programs q ≡ Some (tree.program_at programs q)
got-program [] q lt = absurd (omega (arith, lt))
got-program (x ∷ xs) zero lt = refl
got-program (x ∷ xs) (suc q) lt = got-program xs q (omega (arith, lt))

module _ (deck : DeckModel) (program : Program) (laid : IsLayout false program.layout) where
  abbrev scope : Scope
  scope = scope_of false deck program

  abbrev named : names.CallScope
  named = named_in deck program

  -- ---- one argument

  register-is : (r : registers.SpecialRegister) (v : Variable) → of_register r ≡ v → is_item v ≡ true → ⊥
  register-is r v e item = false≢true (subst (λ (w : Variable). is_item w ≡ true) (sym e) item)

  item-long : (name : Word) (subscript : Option Subscript) → (is : NamesVariable scope is_item name subscript) → (code.place_in program.layout (operands.Item name subscript)).size ≡ is.variable.size
  item-long name subscript is = by (item_named program name) refl
    where
      by-register : (r : Option registers.SpecialRegister) → option_or (option_map of_register r) None ≡ Some is.variable → (code.place_by program.layout None subscript).size ≡ is.variable.size
      by-register None found = absurd (none-some is.variable found)
      by-register (Some r) found = absurd (register-is r is.variable (same_Some (of_register r) is.variable found) is.passes)

      by : (o : Option Item) → item_named program name ≡ o → (code.place_by program.layout (option_map place_at o) subscript).size ≡ is.variable.size
      by None e =
          by-register (register_of false name)
          (ap (λ (o : Option Item). option_or (option_map of_register (register_of false name)) (option_map of_place (option_map place_at o))) (sym e) ∙ is.found)
      by (Some item) e = ap (λ (v : Variable). v.size) (variable-of false deck program laid name item is.variable e is.found)

  long-by : (o : Option items.Place) (v : Variable) → is_long (option_map (λ (one : items.Place). one.size) o) v ≡ true → v.size ≡ (linked_by o).1
  long-by None v e = absurd cc
  long-by (Some one) v e = eqb-true v.size one.size e

  argument-long : (one : Operand) (o : Option items.Place) → IsItem scope is_item one → passes (is_long (option_map (λ (at : items.Place). at.size) o)) (variable_at scope one) ≡ true
      → (code.place_in program.layout one).size ≡ (linked_by o).1
  argument-long (operands.Item name subscript) o is fits =
      let long : is_long (option_map (λ (at : items.Place). at.size) o) is.variable ≡ true = ap (passes (is_long (option_map (λ (at : items.Place). at.size) o))) (sym is.found) ∙ fits in
      item-long name subscript is ∙ long-by o is.variable long
  argument-long (operands.Number digits) o is fits = absurd is
  argument-long (operands.Text chars) o is fits = absurd is
  argument-long operands.Spaces o is fits = absurd is
  argument-long operands.Zeros o is fits = absurd is

  -- ---- all of a CALL

  arguments-long : (ones : List Operand) (layout : Laid) (using : List Word) → Each (FitsPlace scope) (map place.Receiver ones) → arguments_fit scope ones (lengths_of layout using) ≡ true
      → map (λ (one : StoragePlace). one.size) (arguments_of program ones) ≡ map (λ (item : ℕ × ℕ). item.1) (linkage_of layout using)
  arguments-long [] layout [] each fits = refl
  arguments-long [] layout (name ∷ using) each fits = absurd cc
  arguments-long (one ∷ ones) layout [] each fits = absurd cc
  arguments-long (one ∷ ones) layout (name ∷ using) each fits =
      let parts = and_parts (passes (is_long (option_map (λ (at : items.Place). at.size) (place_of layout name))) (variable_at scope one)) (arguments_fit scope ones (lengths_of layout using)) fits in
      ap (λ (n : ℕ). n ∷ map (λ (at : StoragePlace). at.size) (arguments_of program ones)) (argument-long one (place_of layout name) each.0 parts.0)
      ∙ ap (λ (ns : List ℕ). (linked_by (place_of layout name)).1 ∷ ns) (arguments-long ones layout using each.1 parts.1)

  call-fits : (name : Word) (ones : List Operand) → IsSome (program_of scope name) → Each (FitsPlace scope) (map place.Receiver ones) → call_fits named name ones ≡ true → CallFits deck program name ones
  call-fits name ones some each fits =
      let programs = deck.programs in
      let words = map (λ (one : Program). one.name) programs in
      let test : Word → Bool = λ one. bytes_eq one name in
      let s = some-found test 0 words some in
      let r = found-at test 0 words s.0 s.1 in
      let same : 0 + r.number ≡ r.number = omega arith in
      let number : program_number deck name ≡ r.number =
      ap (λ o. unwrap_or o 0) (sym (position-map (λ (one : Program). one.name) test programs) ∙ position_from-zero test words ∙ r.place) ∙ same in
      let below : r.number < length programs = omega (arith, slice_get_within words r.number s.0 r.got, length-map programs (λ (one : Program). one.name)) in
      let callee = tree.program_at programs r.number in
      let got : slice_get named.usings r.number ≡ Some (lengths_of callee.layout callee.parameters) =
      slice_get-map (λ (one : Program). lengths_of one.layout one.parameters) programs r.number ∙ ap (option_map (λ (one : Program). lengths_of one.layout one.parameters)) (got-program programs r.number below) in
      let all : arguments_fit scope ones (lengths_of callee.layout callee.parameters) ≡ true =
      sym (ap (numbered_fit named ones) r.place ∙ ap (λ n. found_fit scope ones (slice_get named.usings n)) same ∙ ap (found_fit scope ones) got) ∙ fits in
      record {
        sizes = arguments-long ones callee.layout callee.parameters each all
            ∙ ap (λ n. map (λ (item : ℕ × ℕ). item.1) (linkage_of (tree.program_at programs n).layout (tree.program_at programs n).parameters)) (sym number);
      }

  mutual
    calls-fit : (one : Statement) → faults named one ≡ [] → Resolves scope one → DeckCallsFit deck program one
    calls-fit (form.OnSizeError' line a n first m second) none is =
        let rest = append-none (own_faults named (form.OnSizeError' line a n first m second)) (row_faults named first ++ row_faults named second) none in
        let rows = append-none (row_faults named first) (row_faults named second) rest.1 in
        (row-fits first rows.0 is.1, row-fits second rows.1 is.2)
    calls-fit (form.If' line cond n first m second) none is =
        let rest = append-none (own_faults named (form.If' line cond n first m second)) (row_faults named first ++ row_faults named second) none in
        let rows = append-none (row_faults named first) (row_faults named second) rest.1 in
        (row-fits first rows.0 is.1, row-fits second rows.1 is.2)
    calls-fit (form.Call line name arguments) none is =
        let flaws = at_line-none line (statement_flaws named (form.Call line name arguments)) none in
        let parts = append-none (flaws_of scope (uses (form.Call line name arguments))) (unless_holds (call_fits named name arguments) WrongLength) flaws in
        call-fits name arguments is.0 is.1 (holds (call_fits named name arguments) WrongLength parts.1)
    calls-fit (form.Move line from to) none is = tt
    calls-fit (form.Arithmetic line a) none is = tt
    calls-fit (form.Perform line name) none is = tt
    calls-fit (form.PerformTimes line name times) none is = tt
    calls-fit (form.PerformUntil line name cond) none is = tt
    calls-fit (form.PerformOneOf line several position) none is = tt
    calls-fit (form.Exit line) none is = tt
    calls-fit (form.ExitProgram line) none is = tt
    calls-fit (form.StopRun line) none is = tt
    calls-fit (form.DisplayBase line name) none is = tt
    calls-fit (form.Display line shown) none is = tt
    calls-fit (form.Accept line name keys) none is = tt
    calls-fit (form.Send line message class codes) none is = tt
    calls-fit (form.Begin line) none is = tt
    calls-fit (form.End line) none is = tt
    calls-fit (form.Abort line) none is = tt
    calls-fit (form.Restart line) none is = tt
    calls-fit (form.Receive line into) none is = tt
    calls-fit (form.Reply line from) none is = tt
    calls-fit (form.Read line file locking key into) none is = tt
    calls-fit (form.ReadNext line file locking key into) none is = tt
    calls-fit (form.Write line file from) none is = tt
    calls-fit (form.Rewrite line file from) none is = tt
    calls-fit (form.Delete line file key) none is = tt

    row-fits : {n : _} (row : Row_of-Statement n) → row_faults named row ≡ [] → RowResolves scope row → DeckRowCallsFit deck program row
    row-fits end_of-Statement none is = tt
    row-fits (more_of-Statement one rest) none is =
        let parts = append-none (faults named one) (row_faults named rest) none in (calls-fit one parts.0 is.0, row-fits rest parts.1 is.1)

  body-fits : (ones : List Statement) → Each (λ (one : Statement). faults named one ≡ []) ones → Each (Resolves scope) ones → Each (DeckCallsFit deck program) ones
  body-fits [] none is = tt
  body-fits (one ∷ ones) none is = (calls-fit one none.0 is.0, body-fits ones none.1 is.1)

  paragraphs-fit : (ps : List Paragraph) → Each (λ (p : Paragraph). paragraph_faults named p ≡ []) ps → Each (λ (p : Paragraph). Each (Resolves scope) p.body) ps
      → Each (λ (p : Paragraph). Each (DeckCallsFit deck program) p.body) ps
  paragraphs-fit [] none is = tt
  paragraphs-fit (p ∷ ps) none is = (body-fits p.body (none-each (faults named) p.body none.0) is.0, paragraphs-fit ps none.1 is.1)

-- the CALLs of a program whose names have no fault
pub program-fits : (deck : DeckModel) (program : Program) → IsSoundProgram false deck program → program_faults (named_in deck program) ≡ []
    → Each (λ (p : Paragraph). Each (DeckCallsFit deck program) p.body) program.paragraphs
program-fits deck program sound none =
    paragraphs-fit deck program sound.laid program.paragraphs (none-each (paragraph_faults (named_in deck program)) program.paragraphs none) sound.resolves
