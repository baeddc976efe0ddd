-- What the machine needs of the programs at work.
use Rattle.std.specs.Prelude.{◌≡◌, ◌+◌, ◌-◌, ◌^◌, ◌<◌, Bool, true, false, List, length, All, Option, Some, None}
use Rattle.pw_code.specs.Instrs.{HasRanges}
use Rattle.pw_code.specs.declared.context.Context.{Context}
use Rattle.pw_code.specs.declared.context.Frame.{Frame}
use Rattle.pw_code.specs.declared.instr.Instr.{Instr}
use Rattle.pw_code.specs.declared.instr.Instr.TheVariants.{Call, Compute, ExitProgram, Jump, JumpUnless, Move, NoCode, OnSizeError, ParagraphEnd, Until}
use Rattle.pw_code.specs.declared.system.System.{System}
use Rattle.pw_code_meaning.specs.Config.{Config, code_at}

-- the programs are the system's
abbrev pub AreKnown : System → List Frame → Type 0
AreKnown system frames = All (λ frame. frame.program < length system.programs + length system.servers) frames

-- some programs, of which the last one was taken out
abbrev pub popped : List Frame → Option Frame → Option (List Frame × Frame)
popped before None = None
popped before (Some last) = Some (before, last)

-- the same programs are at work, and the storage of the last has its size
pub record StaysAt (old new : Config) : Type 0 where
  pub program : new.top.program ≡ old.top.program
  pub size : length new.top.storage ≡ length old.top.storage
  pub frames : new.rest.frames ≡ old.rest.frames

-- The instruction at which a program stands: its numbers, its places and its operands are those of the system and of
-- the program's storage.
pub record CanDoInstr (system : System) (frame : Frame) (instr : Instr) : Type 0 where
  pub within : frame.at < length (code_at system frame.program).instrs
  pub many : length (code_at system frame.program).instrs < 2 ^ 32
  pub ranges :
      HasRanges system (record (code_at system frame.program) { storage = frame.storage })
      (length (code_at system frame.program).instrs - (frame.at + 1)) instr

-- the counts of a path that is not too long
pub record HasRoom (context : Context) : Type 0 where
  pub shown : context.shown < 1000000
  pub entries : context.entries < 1000000
  pub units : context.units < 1000000

-- the statement leaves the same programs at work
abbrev pub stays_at_work : Instr → Bool
stays_at_work (Call program arguments keeps) = false
stays_at_work ExitProgram = false
stays_at_work _ = true

-- the instruction is done at once: one of control, which counts as no statement, IF, MOVE or arithmetic
abbrev pub is_at_once : Instr → Bool
is_at_once (Jump n) = true
is_at_once (ParagraphEnd start) = true
is_at_once (Until paragraph cond) = true
is_at_once NoCode = true
is_at_once (JumpUnless cond n) = true
is_at_once (Move from to) = true
is_at_once (Compute a) = true
is_at_once (OnSizeError a n) = true
is_at_once _ = false
