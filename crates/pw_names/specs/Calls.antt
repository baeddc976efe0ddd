-- The arguments of a CALL against the USING items of the program that it calls.
use Rattle.std.specs.Prelude.{ℕ, List, [], ◌∷◌, ◌++◌, map, Bool, true, false, ◌&&◌, ◌==◌, Option, Some, None, option_map, slice_get}
use Rattle.pw_base.specs.declared.fault_code.FaultCode.{FaultCode}
use Rattle.pw_base.specs.declared.fault_code.FaultCode.TheVariants.{WrongLength}
use Rattle.pw_words.specs.Words.{Word}
use Rattle.pw_data.specs.Layouts.{Laid, place_of}
use Rattle.pw_forms.specs.declared.operand.Operand.{Operand}
use Rattle.pw_forms.specs.declared.statement.Statement.{Statement}
use Rattle.pw_forms.specs.declared.statement.Statement as form
use Rattle.pw_operands.specs.declared.variable.Variable.{Variable}
use Rattle.pw_operands.specs.Scope.{Scope, program_of}
use Rattle.pw_operands.specs.Uses.{uses}
use Rattle.pw_names.specs.Flaws.{unless_holds, passes, variable_at, flaws_of}

-- how long the USING items of a program are; a name that is no item has no length
abbrev pub Lengths : Type 0
Lengths = List (Option ℕ)

-- how long the items of these names are
abbrev pub lengths_of : Laid → List Word → Lengths
lengths_of layout names =
    map (λ name. option_map (λ place. place.size) (place_of layout name)) names

-- A program with its names, and how long the USING items of each program are, by its number.
pub record CallScope : Type 0 where
  pub scope : Scope
  pub usings : List Lengths

-- the item or register is so long
abbrev pub is_long : Option ℕ → Variable → Bool
is_long None variable = false
is_long (Some length) variable = variable.size == length

-- as many arguments as lengths, and each that is an item or register has its length
abbrev pub arguments_fit : Scope → List Operand → Lengths → Bool
arguments_fit scope [] [] = true
arguments_fit scope [] (length ∷ lengths) = false
arguments_fit scope (argument ∷ arguments) [] = false
arguments_fit scope (argument ∷ arguments) (length ∷ lengths) =
    passes (is_long length) (variable_at scope argument) && arguments_fit scope arguments lengths

-- the arguments fit the USING items that are found
abbrev pub found_fit : Scope → List Operand → Option Lengths → Bool
found_fit scope arguments None = false
found_fit scope arguments (Some lengths) = arguments_fit scope arguments lengths

-- the arguments fit the USING items of the program of a number, if there is one
abbrev pub numbered_fit : CallScope → List Operand → Option ℕ → Bool
numbered_fit program arguments None = true
numbered_fit program arguments (Some number) =
    found_fit program.scope arguments (slice_get program.usings number)

-- a CALL of a program with arguments fits
abbrev pub call_fits : CallScope → Word → List Operand → Bool
call_fits program name arguments = numbered_fit program arguments (program_of program.scope name)

-- What is wrong with a statement, without the statements of its branches. A CALL with another
-- number of arguments or other lengths is WrongLength besides.
abbrev pub statement_flaws : CallScope → Statement → List FaultCode
statement_flaws program (form.Call line name arguments) =
    flaws_of program.scope (uses (form.Call line name arguments))
    ++ unless_holds (call_fits program name arguments) WrongLength
statement_flaws program statement = flaws_of program.scope (uses statement)
