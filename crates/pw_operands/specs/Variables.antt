-- Items and registers, as statements see them.
use Rattle.std.specs.Prelude.{ℕ, Bool, true, false, not, ◌&&◌, ◌==◌, codes, Option, Some, None, option_map, if◌then◌else◌}
use Rattle.std.specs.Option.{option_or}
use Rattle.pw_words.specs.Words.{Word, same_word}
use Rattle.pw_picture.specs.declared.picture.Picture.{Picture}
use Rattle.pw_picture.specs.declared.picture.Picture.TheVariants as picture
use Rattle.pw_data.specs.declared.item.Place.{Place}
use Rattle.pw_data.specs.Layouts.{Laid, place_of}
use Rattle.pw_operands.specs.declared.register.SpecialRegister.{SpecialRegister}
use Rattle.pw_operands.specs.declared.register.SpecialRegister.TheVariants.{TerminationStatus, RestartCounter, FileStatus}
use Rattle.pw_operands.specs.declared.variable.Variable.{Variable}

-- the register of a name, in a server or in a requester
abbrev pub register_of : Bool → Word → Option SpecialRegister
register_of true name = if same_word name (codes "FILE-STATUS") then Some FileStatus else None
register_of false name =
    if same_word name (codes "TERMINATION-STATUS") then Some TerminationStatus
    else if same_word name (codes "RESTART-COUNTER") then Some RestartCounter
    else None

-- how many digits a register has
abbrev pub digits_of : SpecialRegister → ℕ
digits_of TerminationStatus = 4
digits_of RestartCounter = 5
digits_of FileStatus = 4

-- a register is a whole number without a sign
abbrev pub of_register : SpecialRegister → Variable
of_register register =
    record {
      size = digits_of register;
      picture = Some (picture.Number (digits_of register) 0 false);
      occurs = 0;
      register = true;
    }

-- an item, which lies at a place
abbrev pub of_place : Place → Variable
of_place place =
    record { size = place.size; picture = place.picture; occurs = place.occurs; register = false }

-- the register of a name, or the item of that name
abbrev pub variable_of : Bool → Laid → Word → Option Variable
variable_of server laid name =
    option_or (option_map of_register (register_of server name))
    (option_map of_place (place_of laid name))

-- a Number
abbrev pub has_digits : Option Picture → Bool
has_digits None = false
has_digits (Some (picture.Text size)) = false
has_digits (Some (picture.Number digits places signed)) = true
has_digits (Some (picture.Edited symbols)) = false

-- a Number without a sign
abbrev pub has_no_sign : Option Picture → Bool
has_no_sign None = false
has_no_sign (Some (picture.Text size)) = false
has_no_sign (Some (picture.Number digits places signed)) = not signed
has_no_sign (Some (picture.Edited symbols)) = false

-- ---- what a variable may have to be

-- any item or register: a group, a Text or a Number
abbrev pub is_any : Variable → Bool
is_any variable = true

-- an item: a register receives nothing
abbrev pub is_item : Variable → Bool
is_item variable = not variable.register

-- a Number
abbrev pub is_number_variable : Variable → Bool
is_number_variable variable = has_digits variable.picture

-- a Number without a sign, outside each OCCURS
abbrev pub is_index : Variable → Bool
is_index variable = has_no_sign variable.picture && variable.occurs == 0
