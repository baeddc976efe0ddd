-- What the law of the compiler still takes of a deck beside that its names resolve: what the readers of screens, of
-- USING and of CALL see to.
use Rattle.std.specs.Prelude.{◌≡◌, ℕ, ◌^◌, ◌<◌, pos, List, map, length, All, Some, IsSome, unwrap_or}
use Rattle.pw_picture.specs.declared.picture.Picture.{Picture}
use Rattle.pw_words.specs.Words.{Word}
use Rattle.pw_number.specs.Number.{number}
use Rattle.pw_data.specs.Literals.{number_of_literal}
use Rattle.pw_forms.specs.declared.cond.ComparisonForm.{ComparisonForm}
use Rattle.pw_forms.specs.declared.cond.ComparisonForm.TheVariants as comparisons
use Rattle.pw_forms.specs.declared.operand.Operand.{Operand}
use Rattle.pw_forms.specs.declared.operand.Operand.TheVariants as operands
use Rattle.pw_forms.specs.declared.statement.Statement.{Statement, Row_of-Statement, end_of-Statement, more_of-Statement}
use Rattle.pw_forms.specs.declared.statement.Statement as form
use Rattle.pw_operands.specs.Resolved.{Each}
use Rattle.pw_code.specs.declared.field.FieldKind.{FieldKind}
use Rattle.pw_code.specs.declared.field.FieldKind.TheVariants as fields
use Rattle.pw_code.specs.Fields.{IsTable}
use Rattle.pw_tree_meaning.specs.Written.{IsWritten}
use Rattle.pw_code.specs.Places.{IsOperand}
use Rattle.pw_code.specs.declared.operand.InstructionOperand.TheVariants as coded
use Rattle.pw_data.specs.Layouts.{Laid, place_of}
use Rattle.pw_data.specs.declared.item.Place.{Place}
use Rattle.pw_code.specs.declared.place.StoragePlace as coded_place
use Rattle.pw_code.specs.Valid.{IsTerminal, IsClass, HasNames, HasFew}
use Rattle.pw_code.specs.declared.system.System.{System}
use Rattle.pw_tree_meaning.specs.Program.{DeckModel, Program, program_at, program_number, item_named}
use Rattle.pw_compile.specs.Operands.{place_in}
use Rattle.pw_compile.specs.Programs.{linkage_of}
use Rattle.pw_compile.specs.Lengths.{instructions_of}

-- ---- screens

-- an item of the layout lies at a place and has this picture
pub record IsItemAt (laid : Laid) (at : ℕ) (source : Picture) : Type 0 where
  pub name : Word
  pub place : Place
  pub there : place_of laid name ≡ Some place
  pub same : at ≡ place.at
  pub shown : place.picture ≡ Some source

-- a field shows a literal, or such an item
abbrev pub IsShownOf : Laid → FieldKind → Type 0
IsShownOf laid (fields.Literal text) = Unit {0}
IsShownOf laid (fields.Item picture at source show) = IsItemAt laid at source

-- ---- USING

-- the names are those of items
abbrev pub AreItems : Program → List Word → Type 0
AreItems program names = Each (λ name. IsSome (item_named program name)) names

-- ---- CALL

-- the places of arguments
abbrev pub arguments_of : Program → List Operand → List coded_place.StoragePlace
arguments_of program arguments = map (place_in program.layout) arguments

-- each argument is as long as its item of USING
pub record CallFits (deck : DeckModel) (program : Program) (name : Word) (arguments : List Operand) : Type 0 where
  pub sizes :
      let callee = program_at deck.programs (program_number deck name) in
      map (λ (place : coded_place.StoragePlace). place.size) (arguments_of program arguments)
      ≡ map (λ (item : ℕ × ℕ). item.1) (linkage_of callee.layout callee.parameters)

abbrev mutual
  -- each CALL of the statement, and of those of its branches, fits
  pub DeckCallsFit : DeckModel → Program → Statement → Type 0
  DeckCallsFit deck program (form.OnSizeError' line a n first m second) =
      DeckRowCallsFit deck program first × DeckRowCallsFit deck program second
  DeckCallsFit deck program (form.If' line cond n first m second) =
      DeckRowCallsFit deck program first × DeckRowCallsFit deck program second
  DeckCallsFit deck program (form.Call line name arguments) = CallFits deck program name arguments
  DeckCallsFit deck program _ = Unit {0}

  pub DeckRowCallsFit : {n : _} → DeckModel → Program → Row_of-Statement n → Type 0
  DeckRowCallsFit deck program end_of-Statement = Unit {0}
  DeckRowCallsFit deck program (more_of-Statement one rest) =
      DeckCallsFit deck program one × DeckRowCallsFit deck program rest

-- ---- literals and lists that were read

-- a number literal is the number that it is written as, and has at most 18 digits
abbrev pub IsLiteral : Operand → Type 0
IsLiteral (operands.Number spelling) = IsOperand 0 (coded.Number spelling (unwrap_or (number_of_literal spelling) (number (pos 0) 0)))
IsLiteral _ = Unit {0}

-- each number literal of a comparison is the number that it is written as
abbrev pub AreLiterals : ComparisonForm → Type 0
AreLiterals (comparisons.Compare left negated op right) = IsLiteral left × IsLiteral right
AreLiterals (comparisons.Numeric one negated) = IsLiteral one

abbrev mutual
  -- the number literals of a statement, and of those of its branches, are numbers
  pub IsReadStatement : Statement → Type 0
  IsReadStatement (form.Move line from to) = IsLiteral from
  IsReadStatement (form.Arithmetic line a) = IsLiteral a.first × IsLiteral a.second
  IsReadStatement (form.OnSizeError' line a n first m second) =
      IsLiteral a.first × IsLiteral a.second × RowIsRead first × RowIsRead second
  IsReadStatement (form.If' line cond n first m second) =
      Each (Each AreLiterals) cond.any × RowIsRead first × RowIsRead second
  IsReadStatement (form.PerformTimes line name times) = IsLiteral times
  IsReadStatement (form.PerformUntil line name cond) = Each (Each AreLiterals) cond.any
  IsReadStatement (form.Display line shown) = IsLiteral shown
  IsReadStatement _ = Unit {0}

  pub RowIsRead : {n : _} → Row_of-Statement n → Type 0
  RowIsRead end_of-Statement = Unit {0}
  RowIsRead (more_of-Statement one rest) = IsReadStatement one × RowIsRead rest

-- what the readers of a program see to: its statements, its screens, and that its code is not too long
pub record IsReadProgram (program : Program) : Type 0 where
  pub statements : Each (λ paragraph. Each IsReadStatement paragraph.body) program.paragraphs
  pub written : Each (λ paragraph. Each IsWritten paragraph.body) program.paragraphs
  pub screens : Each (IsTable (length program.layout.storage)) program.screens
  pub short : instructions_of program.paragraphs < 2 ^ 32

-- each program of a deck
pub record AreRead (deck : DeckModel) : Type 0 where
  pub programs : Each IsReadProgram deck.programs
  pub servers : Each IsReadProgram deck.servers

-- ---- programs

-- a requester's fields show its items, its USING names items, and its CALLs fit
pub record IsFitting (deck : DeckModel) (program : Program) : Type 0 where
  pub screens : Each (λ table. Each (λ field. IsShownOf program.layout field.shown) table.fields) program.screens
  pub items : AreItems program program.parameters
  pub calls : Each (λ paragraph. Each (DeckCallsFit deck program) paragraph.body) program.paragraphs
  pub written : Each (λ paragraph. Each IsWritten paragraph.body) program.paragraphs

-- each requester of a deck
abbrev pub AreFitting : DeckModel → Type 0
AreFitting deck = Each (IsFitting deck) deck.programs

-- ---- tables

-- the tables of a system are those that a deck may say
pub record HasTables (system : System) : Type 0 where
  pub terminals : All (IsTerminal system) system.terminals
  pub classes : All (IsClass system) system.classes
  pub names : HasNames system
  pub few : HasFew system
