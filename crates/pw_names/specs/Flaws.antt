-- What is wrong with the names and operands of a statement.
use Rattle.std.specs.Prelude.{List, [], ◌∷◌, ◌++◌, flat_map, Bool, true, false, not, ◌&&◌, ◌==◌, is_some, Option, Some, None}
use Rattle.pw_base.specs.declared.fault_code.FaultCode.{FaultCode}
use Rattle.pw_base.specs.declared.fault_code.FaultCode.TheVariants.{UnknownItem, UnknownParagraph, UnknownName, WrongLength, WrongKind}
use Rattle.pw_words.specs.Words.{Word}
use Rattle.pw_code.specs.declared.file.FileInfo.{FileInfo}
use Rattle.pw_forms.specs.declared.operand.Subscript.{Subscript}
use Rattle.pw_forms.specs.declared.operand.Subscript.TheVariants as subscripts
use Rattle.pw_forms.specs.declared.operand.Operand.{Operand}
use Rattle.pw_forms.specs.declared.operand.Operand.TheVariants as operands
use Rattle.pw_operands.specs.declared.variable.Variable.{Variable}
use Rattle.pw_operands.specs.Variables.{is_any, is_item, is_number_variable, is_index}
use Rattle.pw_operands.specs.Scope.{Scope, variable_in, paragraph_of, screen_of, program_of, class_of, file_of}
use Rattle.pw_operands.specs.Uses.{Use, uses}
use Rattle.pw_operands.specs.Uses as place
use Rattle.pw_operands.specs.Resolved.{is_whole, is_key, is_record, is_sum}

-- the code, unless the test holds
abbrev pub unless_holds : Bool → FaultCode → List FaultCode
unless_holds true code = []
unless_holds false code = code ∷ []

-- ---- items and registers

-- the name that a subscript is stands for an item or register
abbrev pub knows_subscript : Scope → Option Subscript → Bool
knows_subscript scope None = true
knows_subscript scope (Some (subscripts.Number digits)) = true
knows_subscript scope (Some (subscripts.Item name)) = is_some (variable_in scope name)

-- the name stands for an item or register, and so does that of the subscript
abbrev pub knows : Scope → Word → Option Subscript → Bool
knows scope name subscript = is_some (variable_in scope name) && knows_subscript scope subscript

-- an item or register passes the test, if there is one
abbrev pub passes : (Variable → Bool) → Option Variable → Bool
passes test None = true
passes test (Some variable) = test variable

-- a whole number, or a Number without a sign outside each OCCURS
abbrev pub is_subscript : Scope → Subscript → Bool
is_subscript scope (subscripts.Number digits) = is_whole digits
is_subscript scope (subscripts.Item name) = passes is_index (variable_in scope name)

-- what is within OCCURS has a subscript, and nothing else has one
abbrev pub has_subscript : Scope → Option Subscript → Variable → Bool
has_subscript scope None variable = variable.occurs == 0
has_subscript scope (Some subscript) variable =
    not (variable.occurs == 0) && is_subscript scope subscript

-- an item or register passes the test, and has the subscript that it wants
abbrev pub is_of_kind : Scope → (Variable → Bool) → Option Subscript → Variable → Bool
is_of_kind scope test subscript variable = test variable && has_subscript scope subscript variable

-- UnknownItem and WrongKind for a name with its subscript
abbrev pub named_flaws : Scope → (Variable → Bool) → Word → Option Subscript → List FaultCode
named_flaws scope test name subscript =
    unless_holds (knows scope name subscript) UnknownItem
    ++ unless_holds (passes (is_of_kind scope test subscript) (variable_in scope name)) WrongKind

-- ---- operands

-- an item or register that passes the test
abbrev pub item_flaws : Scope → (Variable → Bool) → Operand → List FaultCode
item_flaws scope test (operands.Item name subscript) = named_flaws scope test name subscript
item_flaws scope test (operands.Number digits) = WrongKind ∷ []
item_flaws scope test (operands.Text chars) = WrongKind ∷ []
item_flaws scope test operands.Spaces = WrongKind ∷ []
item_flaws scope test operands.Zeros = WrongKind ∷ []

-- an item or register, a literal, SPACES or ZEROS
abbrev pub any_flaws : Scope → Operand → List FaultCode
any_flaws scope (operands.Item name subscript) = named_flaws scope is_any name subscript
any_flaws scope (operands.Number digits) = []
any_flaws scope (operands.Text chars) = []
any_flaws scope operands.Spaces = []
any_flaws scope operands.Zeros = []

-- a Number or a number literal
abbrev pub amount_flaws : Scope → Operand → List FaultCode
amount_flaws scope (operands.Item name subscript) = named_flaws scope is_number_variable name subscript
amount_flaws scope (operands.Number digits) = []
amount_flaws scope (operands.Text chars) = WrongKind ∷ []
amount_flaws scope operands.Spaces = WrongKind ∷ []
amount_flaws scope operands.Zeros = WrongKind ∷ []

-- a screen takes no subscript
abbrev pub screen_name_flaws : Scope → Option Subscript → List FaultCode
screen_name_flaws scope subscript =
    unless_holds (knows_subscript scope subscript) UnknownItem
    ++ unless_holds (not (is_some subscript)) WrongKind

-- the name of a screen, or of an item or register
abbrev pub shown_name_flaws : Scope → Word → Option Subscript → Bool → List FaultCode
shown_name_flaws scope name subscript true = screen_name_flaws scope subscript
shown_name_flaws scope name subscript false = named_flaws scope is_any name subscript

-- a screen, or an item or register, a literal, SPACES or ZEROS
abbrev pub shown_flaws : Scope → Operand → List FaultCode
shown_flaws scope (operands.Item name subscript) =
    shown_name_flaws scope name subscript (is_some (screen_of scope name))
shown_flaws scope (operands.Number digits) = []
shown_flaws scope (operands.Text chars) = []
shown_flaws scope operands.Spaces = []
shown_flaws scope operands.Zeros = []

-- ---- lengths

-- the item or register that an operand names
abbrev pub variable_at : Scope → Operand → Option Variable
variable_at scope (operands.Item name subscript) = variable_in scope name
variable_at scope (operands.Number digits) = None
variable_at scope (operands.Text chars) = None
variable_at scope operands.Spaces = None
variable_at scope operands.Zeros = None

-- the item or register, if there is one, has a length that the file takes, if there is one
abbrev pub has_length : (FileInfo → Variable → Bool) → Option FileInfo → Option Variable → Bool
has_length test None variable = true
has_length test (Some file) variable = passes (test file) variable

-- UnknownName, WrongLength, and what is wrong with the operand, for a key or a record of a file
abbrev pub file_flaws : Scope → (FileInfo → Variable → Bool) → Word → Operand → List FaultCode
file_flaws scope test name operand =
    unless_holds (is_some (file_of scope name)) UnknownName
    ++ (unless_holds (has_length test (file_of scope name) (variable_at scope operand)) WrongLength
    ++ item_flaws scope is_any operand)

-- ---- statements

-- what is wrong with a name or operand in its place
abbrev pub flaws : Scope → Use → List FaultCode
flaws scope (place.Paragraph name) =
    unless_holds (is_some (paragraph_of scope name)) UnknownParagraph
flaws scope (place.Screen name) = unless_holds (is_some (screen_of scope name)) UnknownName
flaws scope (place.Program name) = unless_holds (is_some (program_of scope name)) UnknownName
flaws scope (place.Class name) = unless_holds (is_some (class_of scope name)) UnknownName
flaws scope (place.Any operand) = any_flaws scope operand
flaws scope (place.Shown operand) = shown_flaws scope operand
flaws scope (place.Amount operand) = amount_flaws scope operand
flaws scope (place.Position operand) = item_flaws scope is_number_variable operand
flaws scope (place.Sent operand) = item_flaws scope is_any operand
flaws scope (place.Receiver operand) = item_flaws scope is_item operand
flaws scope (place.Sum operand) = item_flaws scope is_sum operand
flaws scope (place.Key file operand) = file_flaws scope is_key file operand
flaws scope (place.Record file operand) = file_flaws scope is_record file operand

-- what is wrong with names and operands
abbrev pub flaws_of : Scope → List Use → List FaultCode
flaws_of scope found = flat_map (flaws scope) found
