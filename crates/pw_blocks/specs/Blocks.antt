-- The blocks of a file, and the index of their first keys.
use Rattle.std.specs.Ordering.{is_le}
use Rattle.std.specs.Prelude.{◌≡◌, ◌≢◌, ℕ, suc, ◌-◌, ◌<◌, ◌≤◌, true, List, [], ◌∷◌, ◌++◌, length, map, take, drop, flat_map, slice_index_or, All}
use Rattle.std.specs.declared.cmp.Ordering.TheVariants.{Less, Greater}
use Rattle.pw_files.specs.Records.{key_cmp, compared, IsFile}

-- the length of the keys, and the contents of each block in order
pub record BlocksState : Type 0 where
  pub key : ℕ
  pub blocks : List (List (List ℕ))

-- the records of all blocks in order
abbrev pub records_of : List (List (List ℕ)) → List (List ℕ)
records_of blocks = flat_map (λ block. block) blocks

-- the key of the first of some contents
abbrev pub first_key : ℕ → List (List ℕ) → List ℕ
first_key n [] = []
first_key n (content ∷ contents) = take n content

-- the blocks with others in place of one
abbrev pub with_blocks : {A : Type 0} → List A → ℕ → List A → List A
with_blocks blocks place pieces = take place blocks ++ (pieces ++ drop (suc place) blocks)

-- the records of the blocks are a file, no block is empty, and the index has the first key of each
pub record IsBlockFile (n : ℕ) (blocks : List (List (List ℕ))) (index : List (List ℕ)) : Type 0 where
  pub file : IsFile n (records_of blocks)
  pub none_empty : All (λ block. block ≢ []) blocks
  pub first_keys : index ≡ map (first_key n) blocks

-- The only block that may have a key: the last one whose first key is not above it, and the first block where there is
-- none such. So the records of the blocks before it are below the key, and those of the blocks behind it above.
pub record IsHome (n : ℕ) (blocks : List (List (List ℕ))) (key : List ℕ) (place : ℕ) : Type 0 where
  pub within : place ≤ length blocks - 1
  pub begins : 0 < place → is_le (key_cmp (first_key n (slice_index_or blocks place [])) key) ≡ true
  pub low : All (λ content. compared n key content ≡ Less) (records_of (take place blocks))
  pub high : All (λ content. compared n key content ≡ Greater) (records_of (drop (suc place) blocks))
