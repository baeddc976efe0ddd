-- What becomes of the block in which a record is written or taken away.
use Rattle.std.specs.Prelude.{◌≡◌, ℕ, ◌+◌, nat_le, Bool, true, false, List, [], ◌∷◌, ◌++◌, length, take, slice_index_or, Result, Ok, Err, if◌then◌else◌}
use Rattle.pw_base.specs.declared.memory.Memory.{Memory}
use Rattle.pw_files.specs.Records.{below, above}
use Rattle.pw_blocks.specs.Blocks.{IsHome, with_blocks}
use Rattle.pw_blocks.specs.Packing.{packed_all}

-- Blocks of some records that take so many bytes, a content that takes so many, and more records: one
-- where all fit into 4,096 bytes, two where the content fits beside either part, and else three.
abbrev pub split_by : ℕ → ℕ → ℕ → List (List ℕ) → List ℕ → List (List ℕ) → List (List (List ℕ))
split_by x size y before content behind =
    if nat_le (x + size + y) 4096 then (before ++ content ∷ behind) ∷ []
    else if nat_le (x + size) 4096 then (before ++ content ∷ []) ∷ behind ∷ []
    else if nat_le (size + y) 4096 then before ∷ (content ∷ behind) ∷ []
    else before ∷ (content ∷ []) ∷ behind ∷ []

-- the blocks of some records, a content and more records, where each takes 2 bytes for its length
abbrev pub split : List (List ℕ) → List ℕ → List (List ℕ) → List (List (List ℕ))
split before content behind = split_by (length (packed_all before)) (length content + 2) (length (packed_all behind)) before content behind

-- the block of some records and more records, and none where there are none
abbrev pub block_joined : List (List ℕ) → List (List ℕ) → List (List (List ℕ))
block_joined [] [] = []
block_joined [] (content ∷ behind) = (content ∷ behind) ∷ []
block_joined (content ∷ before) behind = (content ∷ (before ++ behind)) ∷ []

-- the block of the content's key has become those of its records with the content in its place
pub record IsRecordWritten (n : ℕ) (blocks : List (List (List ℕ))) (content : List ℕ) (now : List (List (List ℕ))) : Type 0 where
  pub place : ℕ
  pub home : IsHome n blocks (take n content) place
  pub split_is : let block : List (List ℕ) = slice_index_or blocks place [] in
      now ≡ with_blocks blocks place (split (below n block (take n content)) content (above n block (take n content)))

-- the block of the key has become that of its other records, or has gone with its last one
pub record IsRecordRemoved (n : ℕ) (blocks : List (List (List ℕ))) (key : List ℕ) (now : List (List (List ℕ))) : Type 0 where
  pub place : ℕ
  pub home : IsHome n blocks key place
  pub joined_is : let block : List (List ℕ) = slice_index_or blocks place [] in
      now ≡ with_blocks blocks place (block_joined (below n block key) (above n block key))

-- what holds where a change was done, and where it was not
abbrev pub IfChanged : Result Bool Memory → Type 0 → Type 0 → Type 0
IfChanged (Ok true) changed same = changed
IfChanged (Ok false) changed same = same
IfChanged (Err memory) changed same = same
