-- Files of the same names and keys, by their numbers.
use Rattle.std.proofs.Common.{◌≡◌, ◌∙◌, ℕ, zero, suc, List, [], ◌∷◌, length, map, refl, sym, ap, slice_get, slice_index_or, option_map}
use Rattle.pw_code.specs.declared.file.FileInfo.{FileInfo}
use Rattle.pw_records.specs.Records.{AreAlike, files_with}
use Rattle.pw_tree_meaning.specs.Program.{key_length_by}

abbrev keys : List FileInfo → List ℕ
keys files = map (λ (file : FileInfo). file.key) files

keys-many : (files : List FileInfo) → length (keys files) ≡ length files
keys-many [] = refl
keys-many (file ∷ files) = ap suc (keys-many files)

pub as-many : (files others : List FileInfo) → AreAlike files others → length files ≡ length others
as-many files others alike = sym (keys-many files) ∙ (ap length alike.keys ∙ keys-many others)

keys-by : (files others : List FileInfo) → keys files ≡ keys others → (f : ℕ)
    → key_length_by (slice_get files f) ≡ key_length_by (slice_get others f)
keys-by [] [] same f = refl
keys-by [] (other ∷ others) same f = absurd cc
keys-by (file ∷ files) [] same f = absurd cc
keys-by (file ∷ files) (other ∷ others) same zero = let own : file.key ≡ other.key = cc in own
keys-by (file ∷ files) (other ∷ others) same (suc f) = let rest : keys files ≡ keys others = cc in keys-by files others rest f

pub keys-same : (files others : List FileInfo) → AreAlike files others → (f : ℕ)
    → key_length_by (slice_get files f) ≡ key_length_by (slice_get others f)
keys-same files others alike f = keys-by files others alike.keys f

key-by : (files others : List FileInfo) → keys files ≡ keys others → (f : ℕ) (none : FileInfo)
    → (slice_index_or files f none).key ≡ (slice_index_or others f none).key
key-by [] [] same f none = refl
key-by [] (other ∷ others) same f none = absurd cc
key-by (file ∷ files) [] same f none = absurd cc
key-by (file ∷ files) (other ∷ others) same zero none = let own : file.key ≡ other.key = cc in own
key-by (file ∷ files) (other ∷ others) same (suc f) none = let rest : keys files ≡ keys others = cc in key-by files others rest f none

-- the key of a file by its number
pub key-at : (files others : List FileInfo) → AreAlike files others → (f : ℕ) (none : FileInfo)
    → (slice_index_or files f none).key ≡ (slice_index_or others f none).key
key-at files others alike f none = key-by files others alike.keys f none

-- ---- the same files with other records

names-kept : (files : List FileInfo) (records : ℕ → List (List ℕ))
    → map (λ (file : FileInfo). file.name) (files_with files records) ≡ map (λ (file : FileInfo). file.name) files
names-kept [] records = refl
names-kept (file ∷ files) records = ap (λ (names : List (List ℕ)). file.name ∷ names) (names-kept files (λ f. records (suc f)))

keys-kept : (files : List FileInfo) (records : ℕ → List (List ℕ)) → keys (files_with files records) ≡ keys files
keys-kept [] records = refl
keys-kept (file ∷ files) records = ap (λ (ks : List ℕ). file.key ∷ ks) (keys-kept files (λ f. records (suc f)))

pub alike-with : (files : List FileInfo) (records : ℕ → List (List ℕ)) → AreAlike (files_with files records) files
alike-with files records = record { names = names-kept files records; keys = keys-kept files records }

-- a file with other records
abbrev pub filed : List (List ℕ) → FileInfo → FileInfo
filed records file = record file { records = records }

pub at-place : (files : List FileInfo) (records : ℕ → List (List ℕ)) (f : ℕ)
    → slice_get (files_with files records) f ≡ option_map (filed (records f)) (slice_get files f)
at-place [] records f = refl
at-place (file ∷ files) records zero = refl
at-place (file ∷ files) records (suc f) = at-place files (λ g. records (suc g)) f
