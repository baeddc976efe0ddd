-- What the values of a context are, whatever it is: numbers of their types, and characters.
use Rattle.std.specs.Prelude.{ℕ, ◌<◌, ◌^◌, List, All, slice_index}
use Rattle.pw_code.specs.Screen.{IsWhole}
use Rattle.pw_code.specs.declared.context.Context.{Context}
use Rattle.pw_code.specs.declared.context.Frame.{Frame}
use Rattle.pw_code.specs.declared.context.Return.{Return}

-- they are bytes
abbrev pub AreBytes : List ℕ → Type 0
AreBytes bytes = (place : ℕ) → slice_index bytes place < 256

-- the numbers of an active PERFORM
pub record ReturnHasValues (active : Return) : Type 0 where
  pub resume : active.resume < 2 ^ 32
  pub until : active.until < 2 ^ 32
  pub turns : active.turns < 2 ^ 64

-- the numbers and characters of an active program
pub record FrameHasValues (frame : Frame) : Type 0 where
  pub program : frame.program < 2 ^ 16
  pub at : frame.at < 2 ^ 32
  pub storage : AreBytes frame.storage
  pub returns : All ReturnHasValues frame.returns

-- the numbers that begin an image
pub record CountsHaveValues (context : Context) : Type 0 where
  pub termination : context.termination < 2 ^ 16
  pub restarts : context.restarts < 2 ^ 32
  pub phase : context.phase < 2 ^ 32
  pub attempt : context.attempt < 2 ^ 32
  pub shown : context.shown < 2 ^ 32
  pub entries : context.entries < 2 ^ 32
  pub units : context.units < 2 ^ 32

-- the numbers and characters of a context
pub record HasValues (context : Context) : Type 0 where
  pub counts : CountsHaveValues context
  pub whole : IsWhole context.screen
  pub screen : AreBytes context.screen
  pub frames : All FrameHasValues context.frames
