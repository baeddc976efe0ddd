-- The serial order without the numbers of answers.
use Rattle.std.specs.Prelude.{List, map}
use Rattle.pw_event.specs.declared.event.Event.{Event}
use Rattle.pw_onecopy.specs.Behaviour.{Behaviour}
use Rattle.pw_onecopy.specs.Blocks.{Aborted, Attempted, SerialBlock, Committed, Done, AttemptEnding, Left, Out, Restarted}
use Rattle.pw_serial_order.specs.Shadow.{reading_after}
use Rattle.pw_serial_order.specs.declared.block.Block as order
use Rattle.pw_serial_order.specs.declared.block.Block.TheVariants as block
use Rattle.pw_serial_order.specs.declared.block.How as order_how
use Rattle.pw_serial_order.specs.declared.block.How.TheVariants as how
use Rattle.pw_paired.specs.Serial.{blocks_of, entry_blocks_from, last_blocks_from, reading_starts}
use Rattle.pw_paired.specs.State.{starting}
use Rattle.pw_paired.specs.Step.{after}

-- how an attempt is over
abbrev pub how_told : AttemptEnding → order_how.How
how_told Committed = how.Commit
how_told Aborted = how.Dropped
how_told Restarted = how.Restart
how_told Left = how.Left

-- a block without its number of answers
abbrev pub told : SerialBlock → order.Block
told (Out t) = block.Out t
told (Attempted t n over j) = block.Ended t n (how_told over)
told (Done t ending) = block.Done t ending

-- the blocks that an entry behind a log gives
abbrev pub blocks_behind : Behaviour → List Event → Event → List order.Block
blocks_behind sys log entry =
    map told (blocks_of sys (after sys log) (reading_after sys log) entry)

-- the blocks that the entries of a log give
abbrev pub entry_order : Behaviour → List Event → List order.Block
entry_order sys log = map told (entry_blocks_from sys (starting sys) reading_starts log)

-- the blocks at the end of a log
abbrev pub last_order : Behaviour → List Event → List order.Block
last_order sys log = map told (last_blocks_from sys (starting sys) reading_starts log)
