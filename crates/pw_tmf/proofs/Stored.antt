-- The stored records of files, of which one is changed.
use Rattle.std.proofs.Common.{◌≡◌, ℕ, ◌<◌, ◌∙◌, refl, sym, ap, List, length, Result, Ok, Err}
use Rattle.std.specs.Prelude.{slice_set, slice_index_or, OnOk}
use Rattle.std.proofs.Math.Path.{fun_ext}
use Rattle.std.proofs.lemmas.List.{get_or-set_same, get_or-set_other, get_or_default}
use Rattle.pw_blocks.specs.Blocks.{BlocksState, records_of}
use Rattle.pw_onecopy.proofs.Update.{upd_elim}
use Rattle.pw_onecopy.specs.Update.{upd}
use Rattle.pw_tmf.specs.Tmf.{file_at, key_lengths, no_file, stored}

-- one item of a list is changed
pub get-set : {A B : Type 0} (f : A → B) (xs : List A) (i : ℕ) (x d : A) → i < length xs
    → (λ (j : ℕ). f (slice_index_or (slice_set xs i x) j d)) ≡ upd (λ j. f (slice_index_or xs j d)) i (f x)
get-set f xs i x d lt = fun_ext (λ j.
    upd_elim (λ k. f (slice_index_or xs k d)) i (f x) j (λ y. f (slice_index_or (slice_set xs i x) j d) ≡ y)
    (λ is. ap (λ k. f (slice_index_or (slice_set xs i x) k d)) is ∙ ap f (get_or-set_same xs i x d lt))
    (λ ne. ap f (get_or-set_other xs i j x d ne)))

-- a function that is changed at a place to what it is there
pub upd-itself : {A : Type 0} (f : ℕ → A) (i : ℕ) (x : A) → x ≡ f i → upd f i x ≡ f
upd-itself f i x is = fun_ext (λ j. upd_elim f i x j (λ y. y ≡ f j) (λ same. is ∙ ap f (sym same)) (λ _. refl))

-- a file is changed and keeps its key length
pub keys-set : (files : List BlocksState) (i : ℕ) (file : BlocksState) → i < length files → file.key ≡ key_lengths files i → key_lengths (slice_set files i file) ≡ key_lengths files
keys-set files i file lt is = get-set (λ (s : BlocksState). s.key) files i file no_file lt ∙ upd-itself (key_lengths files) i file.key is

pub stored-set : (files : List BlocksState) (i : ℕ) (file : BlocksState) → i < length files → stored (slice_set files i file) ≡ upd (stored files) i (records_of file.blocks)
stored-set files i file lt = get-set (λ (s : BlocksState). records_of s.blocks) files i file no_file lt

pub stored-same : (files : List BlocksState) (i : ℕ) (file : BlocksState) → i < length files → records_of file.blocks ≡ stored files i → stored (slice_set files i file) ≡ stored files
stored-same files i file lt is = stored-set files i file lt ∙ upd-itself (stored files) i (records_of file.blocks) is

-- a file that is read at its place
pub file-is : (files : List BlocksState) (i : ℕ) (file : BlocksState) → i < length files → file ≡ slice_index_or files i file → file_at files i ≡ file
file-is files i file lt is = get_or_default files i no_file file lt ∙ sym is

-- whatever an answer is, this holds beside it
pub on-ok : {T E : Type 0} (r : Result T E) (P : Type 0) → P → OnOk r P
on-ok (Ok x) P p = p
on-ok (Err e) P p = tt
