-- The image of a context: its bytes in a checkpoint message.
use Rattle.std.specs.Prelude.{◌≡◌, ℕ, ◌<◌, ◌≤◌, ◌^◌, Bool, true, false, List, [], ◌∷◌, ◌++◌, length, All}
use Rattle.std.specs.Int.{w16, w32, w64, to_be_bytes}
use Rattle.std.specs.List.{flat_map}
use Rattle.pw_code.specs.Courses.{is_advisory, is_run_fault}
use Rattle.pw_code.specs.Limits.{most_active}
use Rattle.pw_code.specs.Screen.{IsWhole}
use Rattle.pw_code.specs.declared.context.Context.{Context}
use Rattle.pw_code.specs.declared.context.Frame.{Frame}
use Rattle.pw_code.specs.declared.context.Return.{Return}

-- the first bytes of each image
abbrev pub mark : List ℕ
mark = 80 ∷ 87 ∷ 1 ∷ []

-- an active PERFORM: 16 bytes
abbrev pub return_bytes : Return → List ℕ
return_bytes active =
    to_be_bytes w32 active.resume
    ++ (to_be_bytes w32 active.until ++ to_be_bytes w64 active.turns)

-- an active program
abbrev pub frame_bytes : Frame → List ℕ
frame_bytes frame =
    to_be_bytes w16 frame.program
    ++ (to_be_bytes w32 frame.at
    ++ ((to_be_bytes w32 (length frame.storage) ++ frame.storage)
    ++ (length frame.returns ∷ flat_map return_bytes frame.returns)))

-- a truth as a byte
abbrev pub truth : Bool → ℕ
truth false = 0
truth true = 1

-- the numbers that begin an image
abbrev pub count_bytes : Context → List ℕ
count_bytes context =
    to_be_bytes w16 context.termination
    ++ (to_be_bytes w32 context.restarts
    ++ (to_be_bytes w32 context.phase
    ++ (to_be_bytes w32 context.attempt
    ++ (to_be_bytes w32 context.shown
    ++ (to_be_bytes w32 context.entries ++ to_be_bytes w32 context.units)))))

-- the image of a context
abbrev pub image_of : Context → List ℕ
image_of context =
    mark
    ++ (count_bytes context
    ++ (truth context.in_unit ∷ []
    ++ (truth (is_advisory context.course) ∷ []
    ++ (context.screen
    ++ (length context.frames ∷ flat_map frame_bytes context.frames)))))

-- the program has room in an image
pub record FrameFits (frame : Frame) : Type 0 where
  pub storage : length frame.storage ≤ most_active
  pub returns : length frame.returns ≤ 64

-- The context has an image: it is one of a terminal that stands at an answer, without a count, a run
-- fault or a file status; and it has from 1 to 9 active programs, each of which has room.
pub record HasImage (context : Context) : Type 0 where
  pub file_status : context.file_status ≡ 0
  pub at_answer : context.at_verb ≡ false
  pub count : context.count ≡ 0
  pub no_fault : is_run_fault context.course ≡ false
  pub some : 1 ≤ length context.frames
  pub few : length context.frames ≤ 9
  pub frames : All FrameFits context.frames
