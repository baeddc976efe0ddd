-- What the calls of a log make of its units.
use Rattle.std.proofs.Common.{◌≡◌, ◌⊎◌, inl, inr, ℕ, List, [], ◌∷◌, ◌++◌, take, sym, ◌∙◌, ap, subst, arith, length-take}
use Rattle.std.proofs.lemmas.List.{take_at}
use Rattle.std.specs.Prelude.{Ok}
use Rattle.pw_code.specs.declared.file.FileInfo.{FileInfo}
use Rattle.pw_trail.specs.Format.{units_in, with_last}
use Rattle.pw_trail.specs.Stored.{AreRecords, HasUnits, IsBeforeOrAfter, IsRecovered, IsSynced, Keeps, those}
use Rattle.pw_trail.specs.declared.changes.UnitChanges.{UnitChanges}
use Rattle.pw_trail.proofs.Commits.{synced_images, synced_size, synced_stores}

-- a trail that is synced is kept
pub keeps_of : (files : List FileInfo) (bytes : List ℕ) (may_leave : List ℕ → Type 0) (end : ℕ) (units : List UnitChanges) → IsSynced files bytes may_leave end units → Keeps files bytes may_leave end
keeps_of files bytes may_leave end units s =
    let front : take end bytes ≡ s.front = ap (take end) s.is ∙ take_at s.front (0 ∷ []) end s.size in
    let are : those (units_in files bytes) ≡ units = ap those (synced_stores files bytes may_leave end units s) in
    record {
      records = subst (λ (l : List ℕ). AreRecords files (those (units_in files bytes)) l) (sym front) (subst (λ (us : List UnitChanges). AreRecords files us s.front) (sym are) s.records);
      gate = s.is ∙ ap (λ (l : List ℕ). l ++ 0 ∷ []) (sym front);
      size = synced_size files bytes may_leave end units s;
      durable = s.durable;
    }

module _ (files : List FileInfo) (bytes : List ℕ) (may_leave : List ℕ → Type 0) (end : ℕ) (k : Keeps files bytes may_leave end) where
  abbrev pub kept : List UnitChanges
  kept = those (units_in files bytes)

  pub synced_of : IsSynced files bytes may_leave end kept
  synced_of = record {
    front = take end bytes;
    records = k.records;
    is = k.gate;
    size = length-take end bytes ∙ omega (arith, k.size);
    durable = k.durable;
  }

  pub kept_units : units_in files bytes ≡ Ok kept
  kept_units = synced_stores files bytes may_leave end kept synced_of

  pub kept_images : (image : List ℕ) → may_leave image → units_in files image ≡ units_in files bytes
  kept_images image may = ap (units_in files) (k.durable image may)

  -- the units, or these with one more
  pub before_or_after : (unit : UnitChanges) (image : List ℕ) → IsBeforeOrAfter files kept unit image
      → (units_in files image ≡ units_in files bytes) ⊎ (units_in files image ≡ with_last (units_in files bytes) unit)
  before_or_after unit image (inl before) = inl (before ∙ sym kept_units)
  before_or_after unit image (inr after) = inr (after ∙ sym (ap (λ read. with_last read unit) kept_units))

  pub now_after : (unit : UnitChanges) (now : List ℕ) (leaves : List ℕ → Type 0) (next : ℕ) → IsSynced files now leaves next (kept ++ unit ∷ []) → units_in files now ≡ with_last (units_in files bytes) unit
  now_after unit now leaves next s = synced_stores files now leaves next (kept ++ unit ∷ []) s ∙ sym (ap (λ read. with_last read unit) kept_units)

  pub images_after : (unit : UnitChanges) (now : List ℕ) (leaves : List ℕ → Type 0) (next : ℕ) → IsSynced files now leaves next (kept ++ unit ∷ []) → (image : List ℕ) → leaves image → units_in files image ≡ with_last (units_in files bytes) unit
  images_after unit now leaves next s image may = synced_images files now leaves next (kept ++ unit ∷ []) s image may ∙ sym (ap (λ read. with_last read unit) kept_units)

-- what was recovered
module _ (files : List FileInfo) (before : List ℕ) (Taken : List UnitChanges → Type 0) (now : List ℕ) (may_leave : List ℕ → Type 0) (end : ℕ) (r : IsRecovered files before Taken now may_leave end) where
  pub recovered_keeps : Keeps files now may_leave end
  recovered_keeps = keeps_of files now may_leave end r.units r.synced

  pub recovered_units : HasUnits Taken (units_in files before)
  recovered_units = record { units = r.units; reads = r.reads; taken = r.taken }

  pub recovered_same : units_in files now ≡ units_in files before
  recovered_same = synced_stores files now may_leave end r.units r.synced ∙ sym r.reads
