-- Records that a recovery changes for good, and what an open unit has changed.
use Rattle.std.specs.Prelude.{ℕ, List, Option, map, reverse}
use Rattle.pw_files.specs.Records.{record_at}
use Rattle.pw_onecopy.specs.Update.{upd}
use Rattle.pw_paired.specs.State.{BeforeImage}
use Rattle.pw_paired.specs.Units.{put_back}
use Rattle.pw_tmf.specs.declared.answer.ChangedKey.{ChangedKey}
use Rattle.pw_tmf.specs.Committed.{images_of}
use Rattle.pw_tmf.specs.Told.{Told}

-- at a key of a file there is this content, or nothing
abbrev pub restored : Told → ℕ → List ℕ → Option (List ℕ) → Told
restored told file key content =
    record told { files = upd told.files file (put_back (told.key_length file) (told.files file) key content) }

-- what is at the key of a before-image in these files
abbrev pub changed_in : (ℕ → ℕ) → (ℕ → List (List ℕ)) → BeforeImage → ChangedKey
changed_in key_length files image = record {
  file = image.file;
  key = image.key;
  content = record_at (key_length image.file) (files image.file) image.key;
}

-- what is now at each key that the open unit of a terminal has changed, the first change first
abbrev pub changes_of : Told → ℕ → List ChangedKey
changes_of told t = map (changed_in told.key_length told.files) (reverse (images_of (told.units t)))
