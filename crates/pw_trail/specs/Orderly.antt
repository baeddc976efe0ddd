-- What a disc over a trail keeps of its records and its before-images.
use Rattle.std.specs.Prelude.{◌≡◌, ℕ, ◌<◌, List, length, take, true, Some}
use Rattle.std.specs.List.{AllByRecursion}
use Rattle.pw_files.specs.Records.{IsContent, IsFile}
use Rattle.pw_laws.specs.locking.Held.{has_key_lock}
use Rattle.pw_onecopy.specs.Behaviour.{Behaviour}
use Rattle.pw_paired.specs.State.{BeforeImage, State}
use Rattle.pw_paired.specs.Units.{has_image}
use Rattle.pw_tmf.specs.Committed.{committed}
use Rattle.pw_tmf.specs.Leaving.{AreSingle}
use Rattle.pw_tmf.specs.Tells.{Tells}
use Rattle.pw_tmf.specs.Told.{Told}

-- the image is of a terminal and of a key of a file that are there
pub record IsImagePlaced (terminals files : ℕ) (key_length : ℕ → ℕ) (image : BeforeImage) : Type 0 where
  pub terminal : image.terminal < terminals
  pub file : image.file < files
  pub key : length image.key ≡ key_length image.file

-- what it puts back is a record with its key
pub record PutsBackRecord (key_length : ℕ → ℕ) (image : BeforeImage) : Type 0 where
  pub content : (c : List ℕ) → image.content ≡ Some c → IsContent (key_length image.file) c
  pub key : (c : List ℕ) → image.content ≡ Some c → take (key_length image.file) c ≡ image.key

-- The disc tells a state of the paired system in which files are files, before-images can be put back, each is under an
-- exclusive lock of its unit, and no key has those of two units.
pub record IsOrderly (told : Told) : Type 0 where
  pub sys : Behaviour
  pub state : State
  pub tells : Tells sys state told
  pub files : (f : ℕ) → IsFile (sys.key_length f) (state.files f)
  pub places : AllByRecursion (IsImagePlaced told.terminals told.file_count sys.key_length) state.before
  pub records : AllByRecursion (PutsBackRecord sys.key_length) state.before
  pub locked : (t f : ℕ) (key : List ℕ) → has_image t f key state.before ≡ true → has_key_lock t f key state.locks ≡ true
  pub single : AreSingle state.before

-- behind a call the records are in order, and the committed ones are those from before it
pub record Stays (told next : Told) : Type 0 where
  pub orderly : IsOrderly next
  pub same : committed next ≡ committed told
