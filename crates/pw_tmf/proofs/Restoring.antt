-- A record that is changed for good, and what an open unit has changed.
use Rattle.std.proofs.Common.{◌≡◌, ℕ, ◌<◌, ◌∙◌, refl, sym, ap, subst, List, [], length, Option, Result, Ok, Err}
use Rattle.std.specs.Prelude.{OnErr, map, reverse, slice_index_or}
use Rattle.std.proofs.lemmas.List.Elements.{All-get_or}
use Rattle.pw_blocks.specs.Blocks.{BlocksState}
use Rattle.pw_onecopy.specs.Update.{upd}
use Rattle.pw_paired.specs.Units.{put_back}
use Rattle.pw_tmf.specs.Committed.{images_of}
use Rattle.pw_tmf.specs.Restored.{changed_in, changes_of, restored}
use Rattle.pw_tmf.specs.Slots.{SlotState}
use Rattle.pw_tmf.specs.Tmf.{AreImages, IsTmf, TmfState, key_lengths, stored, told_of, unit_at}
use Rattle.pw_tmf.proofs.Kept.{slot-is}
use Rattle.pw_tmf.proofs.Operated.{settled-files, told-is}

-- whatever an error is, more holds beside it
pub on-err-more : {T E : Type 0} (r : Result T E) (P Q : Type 0) → (P → Q) → OnErr r P → OnErr r Q
on-err-more (Ok x) P Q f h = tt
on-err-more (Err e) P Q f h = f h

module _ (state : TmfState) (settled : state.pending ≡ []) where
  -- one record of the stored ones is changed
  pub restored-told : (files' : List BlocksState) (f : ℕ) (key : List ℕ) (content : Option (List ℕ))
      → key_lengths files' ≡ key_lengths state.files → length files' ≡ length state.files
      → stored files' ≡ upd (stored state.files) f (put_back (key_lengths state.files f) (stored state.files f) key content)
      → told_of (record { rule = state.rule; files = files'; pending = state.pending; locks = state.locks; slots = state.slots; commits = state.commits }) ≡ restored (told_of state) f key content
  restored-told files' f key content keys count put =
      told-is (restored (told_of state) f key content) _ _ _ _ _ _ _ refl count keys
      (settled-files files' state.pending settled
      ∙ (put
      ∙ sym (ap (λ (g : ℕ → List (List ℕ)). upd g f (put_back (key_lengths state.files f) (g f) key content)) (settled-files state.files state.pending settled))))
      refl refl refl

  module _ (t : ℕ) (slot : SlotState) (lt : t < length state.slots) (is : slot ≡ slice_index_or state.slots t slot) where
    -- the images of a slot can be put back
    pub slot-images : IsTmf state → AreImages (key_lengths state.files) (length state.files) (images_of slot.open_unit)
    slot-images ok =
        let P : SlotState → Type 0 = λ x. AreImages (key_lengths state.files) (length state.files) (images_of x.open_unit) in
        subst P (sym is) (All-get_or P state.slots t slot lt ok.images)

    -- what stands at their keys is told
    pub changes-told : map (changed_in (key_lengths state.files) (stored state.files)) (reverse (images_of slot.open_unit)) ≡ changes_of (told_of state) t
    changes-told =
        ap (λ (x : SlotState). map (changed_in (key_lengths state.files) (stored state.files)) (reverse (images_of x.open_unit))) (sym (slot-is state.slots t slot lt is))
        ∙ ap (λ (g : ℕ → List (List ℕ)). map (changed_in (key_lengths state.files) g) (reverse (images_of (unit_at state.slots t)))) (sym (settled-files state.files state.pending settled))
