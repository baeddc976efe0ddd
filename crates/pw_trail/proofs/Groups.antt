-- Records of several units that are put behind a trail together.
use Rattle.std.proofs.Common.{◌≡◌, ◌≢◌, ◌⊎◌, inl, inr, ℕ, ◌+◌, ◌^◌, ◌<◌, ◌≤◌, List, [], ◌∷◌, ◌++◌, length, take, drop, All, true, refl, sym, ◌∙◌, ap, subst, arith, length-append}
use Rattle.std.specs.Prelude.{Result, Ok}
use Rattle.std.proofs.lemmas.Bool.{cases_eq}
use Rattle.std.proofs.lemmas.List.{append-nil, append_assoc}
use Rattle.pw_code.specs.declared.file.FileInfo.{FileInfo}
use Rattle.pw_volume.specs.Crash.{Only}
use Rattle.pw_trail.specs.Body.{body_of, fits}
use Rattle.pw_trail.specs.Format.{framed, units_from, units_in, with_units}
use Rattle.pw_trail.specs.Groups.{AreRecordsBehind, IsGroup, units_of}
use Rattle.pw_trail.specs.Stored.{AreRecords, IsBehind, IsGated, IsSynced, Keeps, staged, with_earlier_units}
use Rattle.pw_trail.specs.Values.{UnitChangesHaveValues}
use Rattle.pw_trail.specs.declared.changes.UnitChanges.{UnitChanges}
use Rattle.pw_trail.proofs.BodyForms.{unit_again}
use Rattle.pw_trail.proofs.Commits.{behind_keeps, front_is, synced_images, synced_stores}
use Rattle.pw_trail.proofs.Framing.{framed_is}
use Rattle.pw_trail.proofs.Logging.{keeps_of, kept, kept_units, synced_of}
use Rattle.pw_trail.proofs.Reading.{closed, open_gate, records_more, records_none, shut}

-- ---- what is gathered

-- the units of a group are those that are read of it
pub group-units : (files : List FileInfo) (units : List UnitChanges) (bytes : List ℕ) → IsGroup files units bytes → units_in files bytes ≡ Ok units
group-units files units bytes g = ap (units_in files) g.is ∙ closed files units g.front [] (g.records [] [] (records_none files))

-- a group of none
pub group-none : (files : List FileInfo) → IsGroup files [] (0 ∷ [])
group-none files = record {
  front = [];
  records = λ units front are.
      subst (λ (us : List UnitChanges). AreRecords files us (front ++ [])) (sym (append-nil units))
      (subst (λ (l : List ℕ). AreRecords files units l) (sym (append-nil front)) are);
  is = refl;
}

-- and of one more
pub group-more : (files : List FileInfo) (units : List UnitChanges) (bytes : List ℕ) (g : IsGroup files units bytes) (own : UnitChanges)
    → UnitChangesHaveValues own → All (λ change. fits files change ≡ true) own.changes → length (body_of own) < 2 ^ 32
    → (next : List ℕ) → next ≡ g.front ++ (1 ∷ staged own) → IsGroup files (units ++ own ∷ []) next
group-more files units bytes g own values fit size next is = record {
  front = g.front ++ 1 ∷ framed (body_of own);
  records = λ earlier front are.
      let more : AreRecords files ((earlier ++ units) ++ own ∷ []) ((front ++ g.front) ++ 1 ∷ framed (body_of own)) =
      records_more files (earlier ++ units) (front ++ g.front) (g.records earlier front are) 1 (framed (body_of own)) (body_of own) own
      (omega arith) (framed_is (body_of own) size) (unit_again files own values fit) in
      subst (λ (us : List UnitChanges). AreRecords files us (front ++ (g.front ++ 1 ∷ framed (body_of own)))) (append_assoc earlier units (own ∷ []))
      (subst (λ (l : List ℕ). AreRecords files ((earlier ++ units) ++ own ∷ []) l) (append_assoc front g.front (1 ∷ framed (body_of own))) more);
  is = is ∙ sym (append_assoc g.front (1 ∷ framed (body_of own)) (0 ∷ []));
}

-- ---- what is put behind a trail

-- a group of some units begins with an open gate
pub record IsOpenGroup (files : List FileInfo) (units : List UnitChanges) (bytes : List ℕ) : Type 0 where
  pub gate : ℕ
  pub rest : List ℕ
  pub is_open : gate ≢ 0
  pub records : AreRecordsBehind files units (gate ∷ rest)
  pub is : bytes ≡ gate ∷ (rest ++ 0 ∷ [])

same-units : (a b : List UnitChanges) → ◌≡◌ {A = Result (List UnitChanges) ℕ} (Ok a) (Ok b) → a ≡ b
same-units a b e = cc

pub open-group : (files : List FileInfo) (units : List UnitChanges) (bytes : List ℕ) → IsGroup files units bytes → units ≢ [] → IsOpenGroup files units bytes
open-group files units bytes g some = by g.front g.records g.is
  where
    by : (front : List ℕ) → AreRecordsBehind files units front → bytes ≡ front ++ 0 ∷ [] → IsOpenGroup files units bytes
    by [] records is =
        absurd (some (same-units units [] (sym (closed files units [] [] (records [] [] (records_none files))) ∙ shut files 0 0 [] refl)))
    by (gate ∷ rest) records is = elim (cases_eq gate 0) [
      | inl is_shut ↦ absurd (some (same-units units []
          (sym (closed files units (gate ∷ rest) [] (records [] [] (records_none files))) ∙ shut files 0 gate (rest ++ 0 ∷ []) is_shut)))
      | inr is_open ↦ record { gate = gate; rest = rest; is_open = is_open; records = records; is = is }
    ]

-- whichever open gate the first one is
gates : (files : List FileInfo) (units all : List UnitChanges) (front rest : List ℕ) (own gate : ℕ) → AreRecords files units front → own ≢ 0 → gate ≢ 0
    → AreRecords files all (front ++ own ∷ rest) → AreRecords files all (front ++ gate ∷ rest)
gates files units all front rest own gate are is_open opens records other =
    let size : length (front ++ own ∷ rest) ≡ length (front ++ gate ∷ rest) =
    omega (arith, length-append front (own ∷ rest), length-append front (gate ∷ rest)) in
    ap (units_from files 0 0) (append_assoc front (gate ∷ rest) other)
    ∙ are (gate ∷ (rest ++ other))
    ∙ ap (with_earlier_units units)
    (open_gate files (length front) gate (rest ++ other) opens ∙ sym (open_gate files (length front) own (rest ++ other) is_open))
    ∙ sym (are (own ∷ (rest ++ other)))
    ∙ sym (ap (units_from files 0 0) (append_assoc front (own ∷ rest) other))
    ∙ records other
    ∙ ap (λ (n : ℕ). with_earlier_units all (units_from files n 0 other)) size

-- A group that is stored behind a trail that is synced.
module _ (files : List FileInfo) (bytes : List ℕ) (may_leave : List ℕ → Type 0) (end : ℕ) (units : List UnitChanges)
    (s : IsSynced files bytes may_leave end units) (more : List UnitChanges) (group : List ℕ) (o : IsOpenGroup files more group) where
  all-records : (gate : ℕ) → gate ≢ 0 → AreRecords files (units ++ more) (s.front ++ gate ∷ o.rest)
  all-records gate opens =
      gates files units (units ++ more) s.front o.rest o.gate gate s.records o.is_open opens (o.records units s.front s.records)

  all-units : (gate : ℕ) (tail : List ℕ) → gate ≢ 0
      → units_in files (s.front ++ (gate ∷ ((o.rest ++ 0 ∷ []) ++ tail))) ≡ Ok (units ++ more)
  all-units gate tail opens =
      let parts : s.front ++ (gate ∷ ((o.rest ++ 0 ∷ []) ++ tail)) ≡ (s.front ++ gate ∷ o.rest) ++ 0 ∷ tail =
      ap (λ (l : List ℕ). s.front ++ (gate ∷ l)) (append_assoc o.rest (0 ∷ []) tail)
      ∙ sym (append_assoc s.front (gate ∷ o.rest) (0 ∷ tail)) in
      ap (units_in files) parts ∙ closed files (units ++ more) (s.front ++ gate ∷ o.rest) tail (all-records gate opens)

  gated : (image : List ℕ) → IsGated end bytes (o.rest ++ 0 ∷ []) image
      → (units_in files image ≡ Ok units) ⊎ (units_in files image ≡ Ok (units ++ more))
  gated image g =
      let tail : List ℕ = (o.rest ++ 0 ∷ []) ++ g.tail in
      let is : image ≡ s.front ++ (g.gate ∷ tail) =
      g.is ∙ ap (λ (l : List ℕ). l ++ (g.gate ∷ tail)) (front_is files bytes may_leave end units s) in
      elim (cases_eq g.gate 0) [
        | inl is_shut ↦ inl (ap (units_in files) (is ∙ ap (λ (b : ℕ). s.front ++ (b ∷ tail)) is_shut) ∙ closed files units s.front tail s.records)
        | inr opens ↦ inr (ap (units_in files) is ∙ all-units g.gate g.tail opens)
      ]

  -- every crash leaves the units, or these and all of the group
  group-keeps : (image : List ℕ) → IsBehind bytes image ⊎ IsGated end bytes (o.rest ++ 0 ∷ []) image
      → (units_in files image ≡ Ok units) ⊎ (units_in files image ≡ Ok (units ++ more))
  group-keeps image (inl behind) = inl (behind_keeps files bytes may_leave end units s image behind)
  group-keeps image (inr torn) = gated image torn

  -- behind the second sync it leaves the latter alone
  group-synced : (now : List ℕ) (leaves : List ℕ → Type 0) (next : ℕ) → now ≡ take end bytes ++ (1 ∷ (o.rest ++ 0 ∷ [])) → Only now leaves
      → next ≡ end + length (o.rest ++ 0 ∷ []) → IsSynced files now leaves next (units ++ more)
  group-synced now leaves next is only is_next = record {
    front = s.front ++ 1 ∷ o.rest;
    records = all-records 1 (omega arith);
    is =
        is ∙ ap (λ (l : List ℕ). l ++ (1 ∷ (o.rest ++ 0 ∷ []))) (front_is files bytes may_leave end units s)
        ∙ sym (append_assoc s.front (1 ∷ o.rest) (0 ∷ []));
    size = length-append s.front (1 ∷ o.rest) ∙ omega (arith, s.size, is_next, length-append o.rest (0 ∷ []));
    durable = only;
  }

-- The same of a trail that is kept, and what was staged of a group.
module _ (files : List FileInfo) (bytes : List ℕ) (may_leave : List ℕ → Type 0) (end : ℕ) (k : Keeps files bytes may_leave end)
    (group : List ℕ) (g : IsGroup files (units_of files group) group) (some : units_of files group ≢ [])
    (piece : List ℕ) (is_staged : piece ≡ drop 1 group) where
  abbrev pub more : List UnitChanges
  more = units_of files group

  opened : IsOpenGroup files more group
  opened = open-group files more group g some

  piece-is : piece ≡ opened.rest ++ 0 ∷ []
  piece-is = is_staged ∙ ap (drop 1) opened.is

  pub piece-some : 1 ≤ length piece
  piece-some = omega (arith, ap length piece-is, length-append opened.rest (0 ∷ []))

  with-kept : Ok (kept files bytes may_leave end k ++ more) ≡ with_units (units_in files bytes) more
  with-kept = sym (ap (λ (r : Result (List UnitChanges) ℕ). with_units r more) (kept_units files bytes may_leave end k))

  pub append-group-images : (image : List ℕ) → IsBehind bytes image ⊎ IsGated end bytes piece image
      → (units_in files image ≡ units_in files bytes) ⊎ (units_in files image ≡ with_units (units_in files bytes) more)
  append-group-images image left =
      by (group-keeps files bytes may_leave end (kept files bytes may_leave end k) (synced_of files bytes may_leave end k) more group opened image
      (subst (λ (l : List ℕ). IsBehind bytes image ⊎ IsGated end bytes l image) piece-is left))
    where
      by : (units_in files image ≡ Ok (kept files bytes may_leave end k)) ⊎ (units_in files image ≡ Ok (kept files bytes may_leave end k ++ more))
          → (units_in files image ≡ units_in files bytes) ⊎ (units_in files image ≡ with_units (units_in files bytes) more)
      by (inl is) = inl (is ∙ sym (kept_units files bytes may_leave end k))
      by (inr is) = inr (is ∙ with-kept)

  -- behind a fault the last sync has left what was there
  pub append-group-before : (image : List ℕ) → IsBehind bytes image → units_in files image ≡ units_in files bytes
  append-group-before image behind =
      behind_keeps files bytes may_leave end (kept files bytes may_leave end k) (synced_of files bytes may_leave end k) image behind
      ∙ sym (kept_units files bytes may_leave end k)

  module _ (now : List ℕ) (leaves : List ℕ → Type 0) (next : ℕ) (is : now ≡ take end bytes ++ (1 ∷ piece)) (only : Only now leaves)
      (is_next : next ≡ end + length piece) where
    all-synced : IsSynced files now leaves next (kept files bytes may_leave end k ++ more)
    all-synced =
        group-synced files bytes may_leave end (kept files bytes may_leave end k) (synced_of files bytes may_leave end k) more group opened now leaves next
        (is ∙ ap (λ (l : List ℕ). take end bytes ++ (1 ∷ l)) piece-is) only (is_next ∙ ap (λ (l : List ℕ). end + length l) piece-is)

    pub append-group-kept : Keeps files now leaves next
    append-group-kept = keeps_of files now leaves next (kept files bytes may_leave end k ++ more) all-synced

    pub append-group-holds : units_in files now ≡ with_units (units_in files bytes) more
    append-group-holds = synced_stores files now leaves next (kept files bytes may_leave end k ++ more) all-synced ∙ with-kept

    pub append-group-leaves : (image : List ℕ) → leaves image → units_in files image ≡ with_units (units_in files bytes) more
    append-group-leaves image may =
        synced_images files now leaves next (kept files bytes may_leave end k ++ more) all-synced image may ∙ with-kept
