-- What the steps of a trail leave of its units.
use Rattle.std.proofs.Common.{◌≡◌, ◌≢◌, ◌⊎◌, inl, inr, ℕ, ◌+◌, ◌^◌, ◌<◌, ◌≤◌, List, [], ◌∷◌, ◌++◌, length, take, All, Some, true, sym, ◌∙◌, ap, subst, arith, length-append, length-take}
use Rattle.std.specs.Prelude.{Ok}
use Rattle.std.proofs.lemmas.Bool.{cases_eq}
use Rattle.std.proofs.lemmas.List.{append_assoc, take_at}
use Rattle.pw_code.specs.declared.file.FileInfo.{FileInfo}
use Rattle.pw_volume.specs.Crash.{Shortened, Only}
use Rattle.pw_trail.specs.Body.{body_of, unit_in}
use Rattle.pw_trail.specs.Format.{framed, units_in}
use Rattle.pw_trail.specs.Stored.{AreRecords, IsBeforeOrAfter, IsBehind, IsGated, IsSynced, staged}
use Rattle.pw_trail.specs.declared.changes.UnitChanges.{UnitChanges}
use Rattle.pw_trail.specs.Body.{fits}
use Rattle.pw_trail.specs.Values.{UnitChangesHaveValues}
use Rattle.pw_trail.proofs.BodyForms.{unit_again}
use Rattle.pw_trail.proofs.Framing.{framed_is}
use Rattle.pw_trail.proofs.Reading.{closed, records_more}

-- A cut behind the zero gate at `end`.
module _ (files : List FileInfo) (bytes : List ℕ) (units : List UnitChanges) (end : ℕ) (within : end ≤ length bytes) (are : AreRecords files units (take end bytes))
    (is_end : take (end + 1) bytes ≡ take end bytes ++ 0 ∷ []) where
  -- a crash leaves the units
  pub trim_keeps : (image : List ℕ) → Shortened (end + 1) bytes image → units_in files image ≡ Ok units
  trim_keeps image cut =
      let is : image ≡ take end bytes ++ 0 ∷ cut.tail = cut.is ∙ ap (λ (l : List ℕ). l ++ cut.tail) is_end ∙ append_assoc (take end bytes) (0 ∷ []) cut.tail in
      ap (units_in files) is ∙ closed files units (take end bytes) cut.tail are

  pub trim_synced : (now : List ℕ) (may_leave : List ℕ → Type 0) → now ≡ take (end + 1) bytes → Only now may_leave → IsSynced files now may_leave end units
  trim_synced now may_leave is only = record {
    front = take end bytes;
    records = are;
    is = is ∙ is_end;
    size = length-take end bytes ∙ omega arith;
    durable = only;
  }

-- A record that is stored behind a trail that is synced.
module _ (files : List FileInfo) (bytes : List ℕ) (may_leave : List ℕ → Type 0) (end : ℕ) (units : List UnitChanges) (s : IsSynced files bytes may_leave end units) where
  pub front_is : take end bytes ≡ s.front
  front_is = ap (take end) s.is ∙ take_at s.front (0 ∷ []) end s.size

  -- the trail itself
  pub synced_stores : units_in files bytes ≡ Ok units
  synced_stores = ap (units_in files) s.is ∙ closed files units s.front [] s.records

  pub synced_images : (image : List ℕ) → may_leave image → units_in files image ≡ Ok units
  synced_images image may = ap (units_in files) (s.durable image may) ∙ synced_stores

  pub synced_size : length bytes ≡ end + 1
  synced_size = ap length s.is ∙ length-append s.front (0 ∷ []) ∙ omega (arith, s.size)

  pub behind_keeps : (image : List ℕ) → IsBehind bytes image → units_in files image ≡ Ok units
  behind_keeps image more =
      ap (units_in files) (more.is ∙ ap (λ (l : List ℕ). l ++ more.tail) s.is ∙ append_assoc s.front (0 ∷ []) more.tail) ∙ closed files units s.front more.tail s.records

  module _ (unit : UnitChanges) (again : unit_in files (body_of unit) ≡ Some unit) (fits : length (body_of unit) < 2 ^ 32) where
    -- the records and the new one behind an open gate
    more : (gate : ℕ) → gate ≢ 0 → AreRecords files (units ++ unit ∷ []) (s.front ++ gate ∷ framed (body_of unit))
    more gate is_open = records_more files units s.front s.records gate (framed (body_of unit)) (body_of unit) unit is_open (framed_is (body_of unit) fits) again

    added : (gate : ℕ) (tail : List ℕ) → gate ≢ 0 → units_in files (s.front ++ (gate ∷ (staged unit ++ tail))) ≡ Ok (units ++ unit ∷ [])
    added gate tail is_open =
        let parts : s.front ++ (gate ∷ (staged unit ++ tail)) ≡ (s.front ++ gate ∷ framed (body_of unit)) ++ 0 ∷ tail =
        ap (λ (l : List ℕ). s.front ++ (gate ∷ l)) (append_assoc (framed (body_of unit)) (0 ∷ []) tail) ∙ sym (append_assoc s.front (gate ∷ framed (body_of unit)) (0 ∷ tail)) in
        ap (units_in files) parts ∙ closed files (units ++ unit ∷ []) (s.front ++ gate ∷ framed (body_of unit)) tail (more gate is_open)

    gated_keeps : (image : List ℕ) → IsGated end bytes (staged unit) image → IsBeforeOrAfter files units unit image
    gated_keeps image g =
        let is : image ≡ s.front ++ (g.gate ∷ (staged unit ++ g.tail)) = g.is ∙ ap (λ (l : List ℕ). l ++ (g.gate ∷ (staged unit ++ g.tail))) front_is in
        elim (cases_eq g.gate 0) [
          | inl is_shut ↦ inl (ap (units_in files) (is ∙ ap (λ (b : ℕ). s.front ++ (b ∷ (staged unit ++ g.tail))) is_shut) ∙ closed files units s.front (staged unit ++ g.tail) s.records)
          | inr is_open ↦ inr (ap (units_in files) is ∙ added g.gate g.tail is_open)
        ]

    -- every crash leaves the units, or these and the new one
    pub store_keeps : (image : List ℕ) → IsBehind bytes image ⊎ IsGated end bytes (staged unit) image → IsBeforeOrAfter files units unit image
    store_keeps image (inl behind) = inl (behind_keeps image behind)
    store_keeps image (inr gated) = gated_keeps image gated

    -- behind the second sync it leaves the latter alone
    pub store_synced : (now : List ℕ) (leaves : List ℕ → Type 0) (next : ℕ) → now ≡ take end bytes ++ (1 ∷ staged unit) → Only now leaves → next ≡ end + length (staged unit)
        → IsSynced files now leaves next (units ++ unit ∷ [])
    store_synced now leaves next is only is_next = record {
      front = s.front ++ 1 ∷ framed (body_of unit);
      records = more 1 (omega arith);
      is = is ∙ ap (λ (l : List ℕ). l ++ (1 ∷ staged unit)) front_is ∙ sym (append_assoc s.front (1 ∷ framed (body_of unit)) (0 ∷ []));
      size = length-append s.front (1 ∷ framed (body_of unit)) ∙ omega (arith, s.size, is_next, length-append (framed (body_of unit)) (0 ∷ []));
      durable = only;
    }

-- What was staged of a unit whose changes are of the files is stored.
module _ (files : List FileInfo) (bytes : List ℕ) (may_leave : List ℕ → Type 0) (end : ℕ) (units : List UnitChanges) (s : IsSynced files bytes may_leave end units)
    (own : UnitChanges) (values : UnitChangesHaveValues own) (fit : All (λ change. fits files change ≡ true) own.changes) (size : length (body_of own) < 2 ^ 32)
    (piece : List ℕ) (is_staged : piece ≡ staged own) where
  pub append_keeps : (image : List ℕ) → IsBehind bytes image ⊎ IsGated end bytes piece image → IsBeforeOrAfter files units own image
  append_keeps image left =
      store_keeps files bytes may_leave end units s own (unit_again files own values fit) size image (subst (λ l. IsBehind bytes image ⊎ IsGated end bytes l image) is_staged left)

  pub append_synced : (now : List ℕ) (leaves : List ℕ → Type 0) (next : ℕ) → now ≡ take end bytes ++ (1 ∷ piece) → Only now leaves → next ≡ end + length piece
      → IsSynced files now leaves next (units ++ own ∷ [])
  append_synced now leaves next is only is_next =
      store_synced files bytes may_leave end units s own (unit_again files own values fit) size now leaves next
      (is ∙ ap (λ (l : List ℕ). take end bytes ++ (1 ∷ l)) is_staged) only (is_next ∙ ap (λ (l : List ℕ). end + length l) is_staged)
