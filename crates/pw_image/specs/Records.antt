-- The records of an image, and those that changed.
use Rattle.std.specs.Prelude.{ℕ, ◌+◌, ◌*◌, ◌==◌, ◌&&◌, Bool, true, not, List, [], ◌∷◌, ◌++◌, length, take, drop, map, filter, nat_lt, bytes_eq}
use Rattle.std.specs.Int.{div_ceil}
use Rattle.std.specs.List.{range_with_len}
use Rattle.pw_image.specs.declared.changed.Changed.{Changed}

-- a record of an image: 64 of its bytes, and perhaps fewer at its end
abbrev pub record_at : List ℕ → ℕ → List ℕ
record_at image number = take 64 (drop (64 * number) image)

-- how many records so many bytes have
abbrev pub record_count : ℕ → ℕ
record_count bytes = div_ceil bytes 64

-- a record with its number
abbrev pub numbered_record : List ℕ → ℕ → Changed
numbered_record image number = record { number = number; bytes = record_at image number }

-- the bytes of so many records of an image from a number on
abbrev pub records_between : List ℕ → ℕ → ℕ → List ℕ
records_between image from count = take (64 * count) (drop (64 * from) image)

-- the records of an image, in order
abbrev pub records : List ℕ → List Changed
records image = map (numbered_record image) (range_with_len 0 (record_count (length image)))

-- the old image has another record of this number
abbrev pub differs : List ℕ → Changed → Bool
differs old changed = not (bytes_eq (record_at old changed.number) changed.bytes)

-- the records of the new image that differ from those of the old one
abbrev pub changed_records : List ℕ → List ℕ → List Changed
changed_records old new = filter (differs old) (records new)

-- those of so many numbers from one on
abbrev pub changed_between : List ℕ → List ℕ → ℕ → ℕ → List Changed
changed_between old new from count = filter (differs old) (map (numbered_record new) (range_with_len from count))

-- the record lies in the image, with its length
abbrev pub lies_in : List ℕ → Changed → Bool
lies_in image changed =
    nat_lt (64 * changed.number) (length image)
    && length changed.bytes == length (record_at image changed.number)

-- the image with this record in its place
abbrev pub with_record : List ℕ → Changed → List ℕ
with_record image changed =
    take (64 * changed.number) image
    ++ (changed.bytes ++ drop (64 * changed.number + length changed.bytes) image)

-- the image with each record in its place
abbrev pub patched : List ℕ → List Changed → List ℕ
patched image [] = image
patched image (changed ∷ changes) = patched (with_record image changed) changes

-- the numbers of the records rise, from above a number on
abbrev pub rises_above : ℕ → List Changed → Bool
rises_above number [] = true
rises_above number (changed ∷ changes) =
    nat_lt number changed.number && rises_above changed.number changes

-- the numbers of the records rise
abbrev pub is_rising : List Changed → Bool
is_rising [] = true
is_rising (changed ∷ changes) = rises_above changed.number changes
