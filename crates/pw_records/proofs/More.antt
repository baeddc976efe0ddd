-- Files up to a number, and one more.
use Rattle.std.proofs.Common.{◌≡◌, ◌∙◌, ℕ, zero, suc, ◌+◌, ◌<◌, List, [], ◌∷◌, ◌++◌, length, map, take, refl, sym, ap, arith, slice_index_or}
use Rattle.pw_code.specs.declared.file.FileInfo.{FileInfo}
use Rattle.pw_records.specs.Records.{AreAlike, files_with}

with-more : (files : List FileInfo) (records : ℕ → List (List ℕ)) (n : ℕ) (none : FileInfo) → n < length files
    → files_with (take (n + 1) files) records
    ≡ files_with (take n files) records ++ (record (slice_index_or files n none) { records = records n }) ∷ []
with-more [] records n none low = absurd (omega (arith, low))
with-more (file ∷ files) records zero none low = refl
with-more (file ∷ files) records (suc n) none low =
    let more : suc n + 1 ≡ suc (n + 1) = omega arith in
    ap (λ (m : ℕ). files_with (take m (file ∷ files)) records) more
    ∙ ap (λ (rest : List FileInfo). (record file { records = records 0 }) ∷ rest)
    (with-more files (λ f. records (suc f)) n none (omega (arith, low)))

-- a file with records is as it was made
filed-as : (file got : FileInfo) (name : List ℕ) (records own : List (List ℕ)) → name ≡ file.name → records ≡ own → file ≡ got
    → ◌≡◌ {A = FileInfo} (record { name = name; key = file.key; records = records }) (record got { records = own })
filed-as file got name records own same_name same_records is =
    (λ i. record { name = same_name i; key = file.key; records = same_records i }) ∙ ap (λ (one : FileInfo). record one { records = own }) is

-- one file more is pushed
pub pushed : (files : List FileInfo) (records : ℕ → List (List ℕ)) (n : ℕ) (file : FileInfo) (name : List ℕ) (own : List (List ℕ))
    (made new : List FileInfo) → n < length files → made ≡ files_with (take n files) records
    → new ≡ made ++ (record { name = name; key = file.key; records = own }) ∷ [] → name ≡ file.name → own ≡ records n
    → file ≡ slice_index_or files n file → new ≡ files_with (take (n + 1) files) records
pushed files records n file name own made new low so_far push same_name same is =
    push
    ∙ (ap (λ (all : List FileInfo). all ++ (record { name = name; key = file.key; records = own }) ∷ []) so_far
    ∙ (ap (λ (one : FileInfo). files_with (take n files) records ++ one ∷ [])
    (filed-as file (slice_index_or files n file) name own (records n) same_name same is)
    ∙ sym (with-more files records n file low)))

map-at : {A : Type 0} (of : FileInfo → A) (files others : List FileInfo) → map of files ≡ map of others → (n : ℕ) (a b : FileInfo)
    → n < length files → of (slice_index_or files n a) ≡ of (slice_index_or others n b)
map-at of [] others same n a b low = absurd (omega (arith, low))
map-at of (file ∷ files) [] same n a b low = absurd cc
map-at of (file ∷ files) (other ∷ others) same zero a b low = let own : of file ≡ of other = cc in own
map-at of (file ∷ files) (other ∷ others) same (suc n) a b low =
    let rest : map of files ≡ map of others = cc in map-at of files others rest n a b (omega (arith, low))

-- files that are alike have the same name and keys at each number
pub alike-at : (files others : List FileInfo) → AreAlike files others → (n : ℕ) (a b : FileInfo) → n < length files
    → a ≡ slice_index_or files n a → b ≡ slice_index_or others n b → (a.name ≡ b.name) × (a.key ≡ b.key)
alike-at files others alike n a b low is is_too = (
  ap (λ (file : FileInfo). file.name) is
      ∙ (map-at (λ (file : FileInfo). file.name) files others alike.names n a b low ∙ sym (ap (λ (file : FileInfo). file.name) is_too)),
  ap (λ (file : FileInfo). file.key) is
      ∙ (map-at (λ (file : FileInfo). file.key) files others alike.keys n a b low ∙ sym (ap (λ (file : FileInfo). file.key) is_too)),
)
