-- What a message carries of its image.
use Rattle.std.specs.Prelude.{◌≡◌, ℕ, ◌==◌, ◌&&◌, Bool, true, false, List, [], length, Option, Some, None, is_some, if◌then◌else◌}
use Rattle.std.specs.List.{list_all}
use Rattle.pw_image.specs.Reading.{context_in}
use Rattle.pw_image.specs.Records.{changed_records, lies_in, patched}
use Rattle.pw_pair.specs.declared.message.Body.{Body}
use Rattle.pw_pair.specs.declared.message.Body.TheVariants.{Whole, Delta}

-- the bytes are in the image format
unfoldable pub is_image : List ℕ → Bool
is_image bytes = is_some (context_in bytes)

-- the image that a body stands for, over the start image that is held
abbrev pub image_in : Option (List ℕ) → Body → List ℕ
image_in held (Whole image) = image
image_in None (Delta changes) = []
image_in (Some start) (Delta changes) = patched start changes

-- a body of changes has the start image beside it, and each of them lies in it
abbrev pub fits_held : Option (List ℕ) → Body → Bool
fits_held held (Whole image) = true
fits_held None (Delta changes) = false
fits_held (Some start) (Delta changes) = list_all (lies_in start) changes

-- the body is a whole image
abbrev pub is_whole : Body → Bool
is_whole (Whole image) = true
is_whole (Delta changes) = false

-- What is carried of an image: its changes against the start image that is held, where that is as
-- long, and else the whole.
abbrev pub body_of : Option (List ℕ) → List ℕ → Body
body_of None image = Whole image
body_of (Some start) image =
    if length start == length image then Delta (changed_records start image) else Whole image
