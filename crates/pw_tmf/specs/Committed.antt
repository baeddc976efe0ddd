-- The committed records: what the files are once the changes of all open units are put back.
use Rattle.std.specs.Prelude.{◌≡◌, ◌==◌, ℕ, zero, suc, List, [], ◌∷◌, ◌++◌, Option, Some, None, if◌then◌else◌}
use Rattle.std.specs.Option.{IfSome}
use Rattle.pw_files.specs.Records.{IsContent}
use Rattle.pw_paired.specs.State.{BeforeImage}
use Rattle.pw_paired.specs.Units.{put_back, restored_files}
use Rattle.pw_tmf.specs.Told.{ToldUnit, Told}

-- the before-images of an open unit
abbrev pub images_of : Option ToldUnit → List BeforeImage
images_of None = []
images_of (Some unit) = unit.before

-- the before-images of the units of the first n terminals
abbrev pub images_below : (ℕ → Option ToldUnit) → ℕ → List BeforeImage
images_below units zero = []
images_below units (suc n) = images_below units n ++ images_of (units n)

-- the committed records of each file
abbrev pub committed : Told → ℕ → List (List ℕ)
committed told = restored_files told.key_length (images_below told.units told.terminals) told.files

-- the records of one file with a before-image put back, where it is one of that file
abbrev pub put_back_if : ℕ → ℕ → BeforeImage → List (List ℕ) → List (List ℕ)
put_back_if n file image records = if image.file == file then put_back n records image.key image.content else records

-- the records of one file with before-images put back, one after the other, where they are of that file
abbrev pub all_put_back : ℕ → ℕ → List BeforeImage → List (List ℕ) → List (List ℕ)
all_put_back n file [] records = records
all_put_back n file (image ∷ images) records = all_put_back n file images (put_back_if n file image records)

-- where the image is of this file, its content is one of it
abbrev pub FitsFile : ℕ → ℕ → BeforeImage → Type 0
FitsFile file n image = image.file ≡ file → IfSome image.content (IsContent n)
