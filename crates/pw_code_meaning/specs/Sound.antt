-- What is sound: the programs at work are the system's, each has the storage of its items, and each but the last
-- waits at its CALL of the next.
use Rattle.std.specs.Prelude.{◌≡◌, ℕ, ◌+◌, ◌<◌, ◌≤◌, Bool, List, [], ◌∷◌, length, slice_get, slice_index_or, Some, if◌then◌else◌}
use Rattle.pw_code.specs.declared.context.Context.{Context}
use Rattle.pw_code.specs.declared.context.Frame.{Frame}
use Rattle.pw_code.specs.declared.instr.Instr.TheVariants.{Call}
use Rattle.pw_code.specs.declared.place.StoragePlace.{StoragePlace}
use Rattle.pw_code.specs.declared.system.System.{System}
use Rattle.pw_code_meaning.specs.Calls.{most_calls}
use Rattle.pw_code_meaning.specs.Config.{Config, closed, code_at}

-- the program is the system's, and its items lie in its storage
pub record IsFrame (system : System) (frame : Frame) : Type 0 where
  pub known : frame.program < length system.programs + length system.servers
  pub storage : length (code_at system frame.program).storage ≤ length frame.storage

-- how many characters a CALL keeps behind the items of the called program: 4 and 5 digits of registers
abbrev pub kept_size : Bool → ℕ
kept_size keeps = if keeps then 9 else 0

-- a program waits at its CALL of another
pub record Waits (system : System) (caller callee : Frame) : Type 0 where
  pub arguments : List StoragePlace
  pub keeps : Bool
  pub frame : IsFrame system caller
  pub call : slice_get (code_at system caller.program).instrs caller.at ≡ Some (Call callee.program arguments keeps)
  pub size : length callee.storage ≡ length (code_at system callee.program).storage + kept_size keeps

-- each of these programs waits for the next, and the last of them for the one at work
abbrev pub AreWaiting : System → List Frame → Frame → Type 0
AreWaiting system [] top = Unit {0}
AreWaiting system (frame ∷ frames) top =
    Waits system frame (slice_index_or frames 0 top) × AreWaiting system frames top

-- a configuration is sound: each program at work is one of the system, and few wait
pub record IsSound (system : System) (c : Config) : Type 0 where
  pub top : IsFrame system c.top
  pub waiting : AreWaiting system c.rest.frames c.top
  pub few : length c.rest.frames ≤ most_calls

-- the context is one of a sound configuration
pub record IsSoundContext (system : System) (context : Context) : Type 0 where
  pub at : Config
  pub sound : IsSound system at
  pub is : context ≡ closed at
