-- What a TMF over files in blocks and a lock book is seen as, and what it tells.
use Rattle.std.specs.Prelude.{◌≡◌, ℕ, ◌<◌, List, [], ◌∷◌, ◌++◌, flat_map, length, slice_index_or, All, Option, Some, None}
use Rattle.std.specs.Option.{IfSome}
use Rattle.pw_blocks.specs.Blocks.{BlocksState, records_of}
use Rattle.pw_code.specs.declared.lock.LockRule.{LockRule}
use Rattle.pw_files.specs.Records.{IsContent}
use Rattle.pw_locks.specs.declared.lock.Lock.{Lock}
use Rattle.pw_paired.specs.State.{BeforeImage}
use Rattle.pw_paired.specs.Units.{restored_files}
use Rattle.pw_tmf.specs.Committed.{images_of}
use Rattle.pw_tmf.specs.Slots.{SlotState}
use Rattle.pw_tmf.specs.Told.{ToldUnit, Told}

-- The files as they lie in their blocks, and the before-images that are still to be put back there, in
-- lists one after another; the locks in the order in which they were added; the units of each terminal; how many have
-- committed.
pub record TmfState : Type 0 where
  pub rule : LockRule
  pub files : List BlocksState
  pub pending : List (List BeforeImage)
  pub locks : List Lock
  pub slots : List SlotState
  pub commits : ℕ

-- a terminal and a file that are not there
abbrev pub no_slot : SlotState
no_slot = record { open_unit = None; ended = record { number = 0; reply = None } }

-- a file that is not there
abbrev pub no_file : BlocksState
no_file = record { key = 1; blocks = [] }

-- the units of a terminal
abbrev pub slot_at : List SlotState → ℕ → SlotState
slot_at slots t = slice_index_or slots t no_slot

-- the file of a number
abbrev pub file_at : List BlocksState → ℕ → BlocksState
file_at files f = slice_index_or files f no_file

-- the length of each file's keys, and its records as they lie in the blocks
abbrev pub key_lengths : List BlocksState → ℕ → ℕ
key_lengths files f = (file_at files f).key

-- the records of a file as they lie in the blocks
abbrev pub stored : List BlocksState → ℕ → List (List ℕ)
stored files f = records_of (file_at files f).blocks

-- all that is still to be put back, in order
abbrev pub all_pending : List (List BeforeImage) → List BeforeImage
all_pending pending = flat_map (λ images. images) pending

-- the records of each file
abbrev pub files_of : List BlocksState → List (List BeforeImage) → ℕ → List (List ℕ)
files_of files pending = restored_files (key_lengths files) (all_pending pending) (stored files)

-- the open unit of a terminal
abbrev pub unit_at : List SlotState → ℕ → Option ToldUnit
unit_at slots t = (slot_at slots t).open_unit

-- what it tells
abbrev pub told_of : TmfState → Told
told_of state = record {
  rule = state.rule;
  terminals = length state.slots;
  file_count = length state.files;
  key_length = key_lengths state.files;
  files = files_of state.files state.pending;
  locks = state.locks;
  units = unit_at state.slots;
  ended = λ t. (slot_at state.slots t).ended;
  faults = 0;
  commits = state.commits;
}

-- the lists with the before-images of an open unit behind them
abbrev pub with_images : List (List BeforeImage) → Option ToldUnit → List (List BeforeImage)
with_images lists None = lists
with_images lists (Some unit) = lists ++ unit.before ∷ []

-- the image is of one of the files, and its content is one of that file
pub record IsImage (key_length : ℕ → ℕ) (files : ℕ) (image : BeforeImage) : Type 0 where
  pub file : image.file < files
  pub content : IfSome image.content (IsContent (key_length image.file))

-- all of these are such images
abbrev pub AreImages : (ℕ → ℕ) → ℕ → List BeforeImage → Type 0
AreImages key_length files images = All (IsImage key_length files) images

-- a terminal's open unit has this number
abbrev pub HasNumber : ℕ → Option ToldUnit → Type 0
HasNumber number None = ⊥
HasNumber number (Some unit) = unit.number ≡ number

-- the lock is one of the open unit of its terminal
abbrev pub IsLockOfOpenUnit : List SlotState → Lock → Type 0
IsLockOfOpenUnit slots lock = HasNumber lock.unit.number (unit_at slots lock.unit.terminal)

-- each lock is one of an open unit, and each before-image can be put back
pub record IsTmf (state : TmfState) : Type 0 where
  pub locks : All (IsLockOfOpenUnit state.slots) state.locks
  pub pending : All (AreImages (key_lengths state.files) (length state.files)) state.pending
  pub images : All (λ slot. AreImages (key_lengths state.files) (length state.files) (images_of slot.open_unit)) state.slots
