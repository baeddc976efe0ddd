-- When every name of a program resolves, and every operand has its kind and length.
use Rattle.std.specs.Prelude.{◌≡◌, ℕ, ◌<◌, List, [], ◌∷◌, Bool, not, ◌&&◌, ◌==◌, nat_le, IsTrue, IsSome, Option, Some, None}
use Rattle.std.specs.List.{list_all}
use Rattle.pw_base.specs.Characters.{full_stop}
use Rattle.pw_base.specs.Limits.{most_content}
use Rattle.pw_words.specs.Words.{Word}
use Rattle.pw_code.specs.declared.field.ScreenTable.{ScreenTable}
use Rattle.pw_code.specs.declared.file.FileInfo.{FileInfo}
use Rattle.pw_code.specs.declared.links.Links.{Links}
use Rattle.pw_data.specs.Layouts.{Laid}
use Rattle.pw_forms.specs.declared.operand.Subscript.{Subscript}
use Rattle.pw_forms.specs.declared.operand.Subscript.TheVariants as subscripts
use Rattle.pw_forms.specs.declared.operand.Operand.{Operand}
use Rattle.pw_forms.specs.declared.operand.Operand.TheVariants as operands
use Rattle.pw_forms.specs.declared.statement.Paragraph.{Paragraph}
use Rattle.pw_forms.specs.declared.statement.Procedure.{Procedure}
use Rattle.pw_forms.specs.declared.statement.Statement.{Statement, Row_of-Statement, end_of-Statement, more_of-Statement}
use Rattle.pw_forms.specs.declared.statement.Statement as form
use Rattle.pw_operands.specs.declared.variable.Variable.{Variable}
use Rattle.pw_operands.specs.Variables.{is_any, is_item, is_number_variable, is_index}
use Rattle.pw_operands.specs.Scope.{Scope, requester_scope, server_scope, variable_in, paragraph_of, screen_of, program_of, class_of, file_of}
use Rattle.pw_operands.specs.Uses.{Use, uses}
use Rattle.pw_operands.specs.Uses as place

-- the fact holds of each
abbrev pub Each : {A : Type 0} → (A → Type 0) → List A → Type 0
Each P [] = Unit {0}
Each P (x ∷ xs) = P x × Each P xs

-- ---- items and registers

-- there is an item or register of the name, and it passes the test
pub record IsVariable (scope : Scope) (test : Variable → Bool) (name : Word) : Type 0 where
  pub variable : Variable
  pub found : variable_in scope name ≡ Some variable
  pub passes : IsTrue (test variable)

-- a number without a point
abbrev pub is_whole : List ℕ → Bool
is_whole digits = list_all (λ byte. not (byte == full_stop)) digits

-- a subscript: a whole number, or a Number without a sign that stands outside each OCCURS
abbrev pub IsSubscript : Scope → Subscript → Type 0
IsSubscript scope (subscripts.Number digits) = IsTrue (is_whole digits)
IsSubscript scope (subscripts.Item name) = IsVariable scope is_index name

-- what is within OCCURS has a subscript, and nothing else has one
abbrev pub HasSubscript : Scope → Variable → Option Subscript → Type 0
HasSubscript scope variable None = variable.occurs ≡ 0
HasSubscript scope variable (Some subscript) = (0 < variable.occurs) × IsSubscript scope subscript

-- the name is that of an item or register that passes the test, with the subscript that it wants
pub record NamesVariable (scope : Scope) (test : Variable → Bool) (name : Word)
    (subscript : Option Subscript) : Type 0 where
  pub variable : Variable
  pub found : variable_in scope name ≡ Some variable
  pub passes : IsTrue (test variable)
  pub subscripted : HasSubscript scope variable subscript

-- ---- operands

-- the operand is an item or register that passes the test
abbrev pub IsItem : Scope → (Variable → Bool) → Operand → Type 0
IsItem scope test (operands.Item name subscript) = NamesVariable scope test name subscript
IsItem scope test (operands.Number digits) = ⊥
IsItem scope test (operands.Text chars) = ⊥
IsItem scope test operands.Spaces = ⊥
IsItem scope test operands.Zeros = ⊥

-- an item or register, a literal, SPACES or ZEROS
abbrev pub IsAny : Scope → Operand → Type 0
IsAny scope (operands.Item name subscript) = NamesVariable scope is_any name subscript
IsAny scope (operands.Number digits) = Unit {0}
IsAny scope (operands.Text chars) = Unit {0}
IsAny scope operands.Spaces = Unit {0}
IsAny scope operands.Zeros = Unit {0}

-- a Number or a number literal
abbrev pub IsAmount : Scope → Operand → Type 0
IsAmount scope (operands.Item name subscript) = NamesVariable scope is_number_variable name subscript
IsAmount scope (operands.Number digits) = Unit {0}
IsAmount scope (operands.Text chars) = ⊥
IsAmount scope operands.Spaces = ⊥
IsAmount scope operands.Zeros = ⊥

-- a screen has no subscript, and what is no screen is an item or register
abbrev pub IsShownName : Scope → Word → Option Subscript → Option ℕ → Type 0
IsShownName scope name subscript (Some screen) = subscript ≡ None
IsShownName scope name subscript None = NamesVariable scope is_any name subscript

-- a screen, or any of what MOVE takes
abbrev pub IsDisplayOperand : Scope → Operand → Type 0
IsDisplayOperand scope (operands.Item name subscript) =
    IsShownName scope name subscript (screen_of scope name)
IsDisplayOperand scope (operands.Number digits) = Unit {0}
IsDisplayOperand scope (operands.Text chars) = Unit {0}
IsDisplayOperand scope operands.Spaces = Unit {0}
IsDisplayOperand scope operands.Zeros = Unit {0}

-- ---- files

-- a key is as long as the file's key
abbrev pub is_key : FileInfo → Variable → Bool
is_key file variable = variable.size == file.key

-- a record has a whole key, and at most 4,000 characters
abbrev pub is_record : FileInfo → Variable → Bool
is_record file variable = nat_le file.key variable.size && nat_le variable.size most_content

-- there is a file of the name, and the operand is an item or register that passes the test with it
pub record IsOfFile (scope : Scope) (test : FileInfo → Variable → Bool) (name : Word)
    (operand : Operand) : Type 0 where
  pub file : FileInfo
  pub found : file_of scope name ≡ Some file
  pub item : IsItem scope (test file) operand

-- ---- programs

-- an item that is a Number
abbrev pub is_sum : Variable → Bool
is_sum variable = is_item variable && is_number_variable variable

-- a name or operand is one that its place takes
abbrev pub FitsPlace : Scope → Use → Type 0
FitsPlace scope (place.Paragraph name) = IsSome (paragraph_of scope name)
FitsPlace scope (place.Screen name) = IsSome (screen_of scope name)
FitsPlace scope (place.Program name) = IsSome (program_of scope name)
FitsPlace scope (place.Class name) = IsSome (class_of scope name)
FitsPlace scope (place.Any operand) = IsAny scope operand
FitsPlace scope (place.Shown operand) = IsDisplayOperand scope operand
FitsPlace scope (place.Amount operand) = IsAmount scope operand
FitsPlace scope (place.Position operand) = IsItem scope is_number_variable operand
FitsPlace scope (place.Sent operand) = IsItem scope is_any operand
FitsPlace scope (place.Receiver operand) = IsItem scope is_item operand
FitsPlace scope (place.Sum operand) = IsItem scope is_sum operand
FitsPlace scope (place.Key file operand) = IsOfFile scope is_key file operand
FitsPlace scope (place.Record file operand) = IsOfFile scope is_record file operand

-- the names and operands of a statement fit
abbrev pub StatementFits : Scope → Statement → Type 0
StatementFits scope statement = Each (FitsPlace scope) (uses statement)

abbrev mutual
  -- the statement stands, and those of its branches do
  pub Resolves : Scope → Statement → Type 0
  Resolves scope (form.OnSizeError' line arithmetic n first m second) =
      StatementFits scope (form.OnSizeError' line arithmetic n first m second)
      × RowResolves scope first × RowResolves scope second
  Resolves scope (form.If' line cond n first m second) =
      StatementFits scope (form.If' line cond n first m second)
      × RowResolves scope first × RowResolves scope second
  Resolves scope statement = StatementFits scope statement

  -- the same of each statement of a branch
  pub RowResolves : {n : _} → Scope → Row_of-Statement n → Type 0
  RowResolves scope end_of-Statement = Unit {0}
  RowResolves scope (more_of-Statement statement rest) =
      Resolves scope statement × RowResolves scope rest

-- the statements of a paragraph resolve
abbrev pub ParagraphResolves : Scope → Paragraph → Type 0
ParagraphResolves scope paragraph = Each (Resolves scope) paragraph.body

-- every paragraph of a scope does
abbrev pub AllResolve : Scope → Type 0
AllResolve scope = Each (ParagraphResolves scope) scope.paragraphs

-- Every name of a requester with these parts resolves, and every operand has its kind and length.
-- How many arguments a CALL has, and how long they are, is not looked at.
abbrev pub RequesterResolves : Laid → List ScreenTable → Procedure → Links → Type 0
RequesterResolves layout screens procedure links =
    AllResolve (requester_scope layout screens procedure links)

-- the same of a server
abbrev pub ServerResolves : Laid → Procedure → Links → Type 0
ServerResolves layout procedure links = AllResolve (server_scope layout procedure links)
