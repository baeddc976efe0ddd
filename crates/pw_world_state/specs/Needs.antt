-- What an entry needs beside that it is legal, so that what is kept can follow it.
use Rattle.std.specs.Prelude.{◌≡◌, ℕ, ◌<◌, ◌≤◌, List, length, Option, Some, slice_get}
use Rattle.pw_code.specs.declared.context.Context.{Context}
use Rattle.pw_code.specs.declared.system.ClassInfo.{ClassInfo}
use Rattle.pw_code.specs.declared.system.System.{System}
use Rattle.pw_code.specs.declared.verb.Answer.TheVariants as answer
use Rattle.pw_code.specs.declared.verb.Verb.TheVariants as verb
use Rattle.pw_event.specs.declared.event.Event.{Event}
use Rattle.pw_event.specs.declared.event.Event.TheVariants.{Show, Key, CheckStart, CheckEnd, CheckCopy, Applied, Begin, Send, Take, File, Reply, Again, Commit, Back, Restart, FailTcp, FailServer, Takeover, Raise, End}
use Rattle.pw_event.specs.declared.script.FailLine.{FailLine}
use Rattle.pw_code_meaning.specs.OfSystem.{behaviour}
use Rattle.pw_image.specs.Image.{HasImage}
use Rattle.pw_image.specs.Values.{HasValues}
use Rattle.pw_world_state.specs.Asked.{answered_with}
use Rattle.pw_world_state.specs.Entered.{copied}
use Rattle.pw_world_state.specs.Kept.{Kept}
use Rattle.pw_world_state.specs.Tested.{CarriesPath, IsAsking, IsPlaced, IsServing}
use Rattle.pw_onecopy.specs.Path.{PathAnswer}
use Rattle.pw_paired.specs.Raising.{copied_path}
use Rattle.pw_paired.specs.State.{OpenUnit, State}
use Rattle.pw_paired.specs.Terminal.{next_verb, path_of}

-- the context is there, and can go to a backup as the image of the path
pub record SomeCarries (path : List PathAnswer) (context : Option Context) : Type 0 where
  pub own : Context
  pub there : context ≡ Some own
  pub carries : CarriesPath path own

-- a class is there
pub record IsClassThere (system : System) (c : ℕ) : Type 0 where
  pub info : ClassInfo
  pub here : slice_get system.classes c ≡ Some info

-- a process is one of a class
pub record IsProcess (system : System) (c i : ℕ) : Type 0 where
  pub class : IsClassThere system c
  pub low : 1 ≤ i
  pub high : i ≤ class.info.processes

-- where the verb ends a transaction, the context behind its answer has an image
pub record ClosingFits (system : System) (script : List FailLine) (state : State) (kept : Kept)
    (t : ℕ) : Type 0 where
  pub asking : IsAsking system script state kept t
  pub ends : next_verb (behaviour script system) state t ≡ verb.End
      → HasImage (answered_with system answer.Ended asking.context)
      × HasValues (answered_with system answer.Ended asking.context)
  pub drops : next_verb (behaviour script system) state t ≡ verb.Drop
      → HasImage (answered_with system answer.Dropped asking.context)
      × HasValues (answered_with system answer.Dropped asking.context)

-- the program stands at its verb, and an open unit of the terminal has this number
pub record MayBeginAt (system : System) (script : List FailLine) (state : State) (kept : Kept)
    (t n : ℕ) : Type 0 where
  pub asking : IsAsking system script state kept t
  pub number : (own : OpenUnit) → state.units t ≡ Some own → own.number ≡ n

-- the programs of which an entry speaks stand at their verbs, what goes to a backup has an image,
-- and pairs, classes and processes are there
abbrev pub Needs : System → List FailLine → State → Kept → Event → Type 0
Needs system script state kept (Show t phase attempt k) = IsAsking system script state kept t
Needs system script state kept (Key t k) = IsAsking system script state kept t
Needs system script state kept (CheckStart t) =
    IsAsking system script state kept t
    × SomeCarries (path_of state t) (kept.terminals t).context
Needs system script state kept (CheckEnd t) = ClosingFits system script state kept t
Needs system script state kept (CheckCopy t) =
    IsPlaced system t
    × SomeCarries (copied_path state t)
    (copied (kept.terminals t).start (kept.terminals t).context)
Needs system script state kept (Applied t) = IsPlaced system t
Needs system script state kept (Begin t n r) = MayBeginAt system script state kept t n
Needs system script state kept (Send t n c) = IsAsking system script state kept t
Needs system script state kept (Take c i t) = IsClassThere system c
Needs system script state kept (File c i op mode f status) =
    IsServing system script state kept c i
Needs system script state kept (Reply c i t fault) =
    IsServing system script state kept c i × IsAsking system script state kept t
Needs system script state kept (Again t n) = IsAsking system script state kept t
Needs system script state kept (Commit t n) = IsAsking system script state kept t
Needs system script state kept (Back t n) = IsAsking system script state kept t
Needs system script state kept (Restart t n cause) = IsPlaced system t
Needs system script state kept (FailTcp p primary k) = p < length system.tcps
Needs system script state kept (FailServer c i k) = IsProcess system c i
Needs system script state kept (Takeover p) = p < length system.tcps
Needs system script state kept (Raise p) = Unit {0}
Needs system script state kept (End t ending) = IsPlaced system t
