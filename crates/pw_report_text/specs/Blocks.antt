-- Blocks that a system has words for.
use Rattle.std.specs.Prelude.{◌<◌, length}
use Rattle.std.specs.List.{AllByRecursion}
use Rattle.pw_code.specs.declared.system.System.{System}
use Rattle.pw_event.specs.Line.{IsWordOfSystem, ending_words}
use Rattle.pw_serial_order.specs.declared.block.Block.{Block}
use Rattle.pw_serial_order.specs.declared.block.Block.TheVariants.{Out, Ended, Done}

-- the block's terminals and pairs are the system's
abbrev pub IsBlockOf : System → Block → Type 0
IsBlockOf system (Out t) = t < length system.terminals
IsBlockOf system (Ended t n how) = t < length system.terminals
IsBlockOf system (Done t ending) =
    (t < length system.terminals) × AllByRecursion (IsWordOfSystem system) (ending_words ending)
