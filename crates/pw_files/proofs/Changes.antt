-- What a change of the list at the place of a key makes of the records.
use Rattle.std.proofs.Common.{◌≡◌, ℕ, ◌∙◌, sym, ap, subst, List, ◌∷◌, ◌++◌, suc, take, drop, set}
use Rattle.std.specs.Prelude.{insert, remove}
use Rattle.std.proofs.lemmas.List.{set_split}
use Rattle.pw_files.specs.Records.{below, with_record, without_key, IsFile, IsContent}
use Rattle.pw_files.specs.Places.{IsRecordAt, IsMissing}
use Rattle.pw_files.proofs.RecordLemmas.{IsFile-with_record, IsFile-without_key}

module _ (n : ℕ) (records : List (List ℕ)) (place : ℕ) where
  -- a record put where its key is missing is in its place
  pub inserted_is : (content : List ℕ) → IsMissing n records (take n content) place → insert records place content ≡ with_record n records content
  inserted_is content missing = ap (λ xs. xs ++ content ∷ drop place records) missing.before ∙ ap (λ ys. below n records (take n content) ++ content ∷ ys) missing.after

  -- a content written over the record with its key is in its place
  pub replaced_is : (content : List ℕ) → IsRecordAt n records (take n content) place → set records place content ≡ with_record n records content
  replaced_is content found =
      set_split records place content found.within ∙ ap (λ xs. xs ++ content ∷ drop (suc place) records) found.before ∙ ap (λ ys. below n records (take n content) ++ content ∷ ys) found.after

  -- without the record at the place of a key no record has this key
  pub removed_is : (key : List ℕ) → IsRecordAt n records key place → remove records place ≡ without_key n records key
  removed_is key found = ap (λ xs. xs ++ drop (suc place) records) found.before ∙ ap (λ ys. below n records key ++ ys) found.after

  module _ (file : IsFile n records) where
    -- and the file is still a file
    pub IsFile-inserted : (content : List ℕ) → IsContent n content → IsMissing n records (take n content) place → (new : List (List ℕ)) → new ≡ insert records place content → IsFile n new
    IsFile-inserted content fits missing new is = subst (IsFile n) (sym (is ∙ inserted_is content missing)) (IsFile-with_record n records file content fits)

    pub IsFile-replaced : (content : List ℕ) → IsContent n content → IsRecordAt n records (take n content) place → IsFile n (set records place content)
    IsFile-replaced content fits found = subst (IsFile n) (sym (replaced_is content found)) (IsFile-with_record n records file content fits)

    pub IsFile-removed : (key : List ℕ) → IsRecordAt n records key place → (new : List (List ℕ)) → new ≡ remove records place → IsFile n new
    IsFile-removed key found new is = subst (IsFile n) (sym (is ∙ removed_is key found)) (IsFile-without_key n records file key)
