-- What the code asks of an item or register.
use Rattle.std.specs.Prelude.{Bool}
use Rattle.pw_code.specs.declared.file.FileInfo.{FileInfo}
use Rattle.pw_operands.specs.declared.variable.Variable.{Variable}
use Rattle.pw_operands.specs.Variables.{is_any, is_item, is_number_variable}
use Rattle.pw_operands.specs.Resolved.{is_sum, is_key, is_record}
use Rattle.pw_names.specs.declared.wanted.Wanted.{Wanted}
use Rattle.pw_names.specs.declared.wanted.Wanted.TheVariants as wanted
use Rattle.pw_names.specs.declared.wanted.Extent.{Extent}
use Rattle.pw_names.specs.declared.wanted.Extent.TheVariants as extent

-- the test of what is wanted
abbrev pub test_of : Wanted → Variable → Bool
test_of wanted.Any = is_any
test_of wanted.Item = is_item
test_of wanted.Number = is_number_variable
test_of wanted.Sum = is_sum

-- the test of a length
abbrev pub length_test_of : Extent → FileInfo → Variable → Bool
length_test_of extent.Key = is_key
length_test_of extent.Record = is_record
