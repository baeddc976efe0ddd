-- A state of which nothing is told anew.
use Rattle.std.proofs.Common.{◌≡◌, ℕ, ◌<◌, ◌-◌, ◌∙◌, refl, sym, ap, subst, List, [], ◌∷◌, ◌++◌, length, take, arith}
use Rattle.std.specs.Prelude.{All, slice_set, slice_index_or}
use Rattle.std.proofs.lemmas.List.{get_or_default, length-append, set-get_or, take-append-le, take_all}
use Rattle.pw_blocks.specs.Blocks.{BlocksState}
use Rattle.pw_locks.specs.declared.lock.Lock.{Lock}
use Rattle.pw_paired.specs.State.{BeforeImage}
use Rattle.pw_tmf.specs.Committed.{images_of}
use Rattle.pw_tmf.specs.Slots.{SlotState}
use Rattle.pw_tmf.specs.Tmf.{AreImages, IsTmf, TmfState, files_of, key_lengths, no_slot, slot_at, told_of}
use Rattle.pw_tmf.proofs.Operated.{told-is}

-- a slot that is read at its place
pub slot-is : (slots : List SlotState) (t : ℕ) (slot : SlotState) → t < length slots → slot ≡ slice_index_or slots t slot → slot_at slots t ≡ slot
slot-is slots t slot lt is = get_or_default slots t no_slot slot lt ∙ sym is

-- and put back there
pub slot-stays : (slots : List SlotState) (t : ℕ) (slot : SlotState) → slot ≡ slice_index_or slots t slot → slice_set slots t slot ≡ slots
slot-stays slots t slot is = ap (slice_set slots t) is ∙ set-get_or slots t slot

-- a lock that was added is taken back
pub taken-back : (locks : List Lock) (lock : Lock) (after : List Lock) → after ≡ locks ++ lock ∷ [] → take (length after - 1) after ≡ locks
taken-back locks lock after is =
    ap (λ ls. take (length ls - 1) ls) is
    ∙ (ap (λ n. take n (locks ++ lock ∷ [])) (omega (arith, length-append locks (lock ∷ []))) ∙ (take-append-le (length locks) locks (lock ∷ []) (omega arith) ∙ take_all (length locks) locks (omega arith)))

module _ (state : TmfState) (files' : List BlocksState) (pending' : List (List BeforeImage)) (keys : key_lengths files' ≡ key_lengths state.files) (count : length files' ≡ length state.files) where
  -- the state with other files, and other images that are still to be put back
  abbrev pub kept : TmfState
  kept = record { rule = state.rule; files = files'; pending = pending'; locks = state.locks; slots = state.slots; commits = state.commits }

  pub told-kept : files_of files' pending' ≡ files_of state.files state.pending → told_of kept ≡ told_of state
  told-kept same = told-is (told_of state) _ _ _ _ _ _ _ refl count keys same refl refl refl

  pub IsTmf-kept : IsTmf state → All (AreImages (key_lengths state.files) (length state.files)) pending' → IsTmf kept
  IsTmf-kept ok fit =
      let Q : (ℕ → ℕ) → ℕ → SlotState → Type 0 = λ k m x. AreImages k m (images_of x.open_unit) in
      record {
        locks = ok.locks;
        pending = subst (λ (k : ℕ → ℕ). All (AreImages k (length files')) pending') (sym keys) (subst (λ m. All (AreImages (key_lengths state.files) m) pending') (sym count) fit);
        images = subst (λ (k : ℕ → ℕ). All (Q k (length files')) state.slots) (sym keys) (subst (λ m. All (Q (key_lengths state.files) m) state.slots) (sym count) ok.images);
      }
