-- How a trail reads.
use Rattle.std.proofs.Common.{◌≡◌, ◌≢◌, inl, inr, ℕ, zero, suc, ◌+◌, ◌≤◌, List, [], ◌∷◌, ◌++◌, length, take, drop, Option, Some, None, option_map, refl, sym, ◌∙◌, ap, subst, arith, length-append, length-take, length-drop}
use Rattle.std.specs.Prelude.{Result, Ok, Err}
use Rattle.std.proofs.Math.Seq.{take-add}
use Rattle.std.proofs.lemmas.Bool.{cases_eq}
use Rattle.std.proofs.lemmas.Bool.Decides.{nat_tests}
use Rattle.std.proofs.lemmas.List.{append-nil, append_assoc, take-append-drop, take_at}
use Rattle.pw_code.specs.declared.file.FileInfo.{FileInfo}
use Rattle.pw_image.specs.Reading.{◌>>=◌}
use Rattle.pw_trail.specs.Body.{unit_in}
use Rattle.pw_trail.specs.Format.{body_in, recorded, units_from, units_in, with_first, size_of}
use Rattle.pw_trail.specs.Stored.{AreRecords, with_earlier_units, piece_in}
use Rattle.pw_trail.specs.declared.changes.UnitChanges.{UnitChanges}
use Rattle.pw_trail.proofs.Framing.{IsFrame, IsTaken, found_is, frame_body, frame_size, piece_open, piece_shut}

-- bytes before the next gate are passed over
passes : (files : List FileInfo) (front other : List ℕ) (place n next : ℕ) → length front ≡ n → place + n ≡ next
    → units_from files place n (front ++ other) ≡ units_from files next 0 other
passes files [] other place zero next size is = let e : place ≡ next = omega arith in ap (λ (p : ℕ). units_from files p 0 other) e
passes files [] other place (suc n) next size is = absurd (omega arith)
passes files (byte ∷ front) other place zero next size is = absurd (omega arith)
passes files (byte ∷ front) other place (suc n) next size is = passes files front other (place + 1) n next (omega arith) (omega arith)

-- a closed gate, and an open one
pub shut : (files : List FileInfo) (place gate : ℕ) (rest : List ℕ) → gate ≡ 0 → units_from files place 0 (gate ∷ rest) ≡ Ok []
shut files place gate rest is = grind (arith, nat_tests)

pub open_gate : (files : List FileInfo) (place gate : ℕ) (rest : List ℕ) → gate ≢ 0
    → units_from files place 0 (gate ∷ rest) ≡ with_first (recorded files rest) place (units_from files (place + 1) (4 + size_of rest) rest)
open_gate files place gate rest is_open = grind (arith, nat_tests)

first_behind : (unit : UnitChanges) (place : ℕ) (later : Result (List UnitChanges) ℕ) → with_first (Some unit) place later ≡ with_earlier_units (unit ∷ []) later
first_behind unit place (Ok later) = refl
first_behind unit place (Err at) = refl

behind_twice : (units : List UnitChanges) (unit : UnitChanges) (later : Result (List UnitChanges) ℕ) → with_earlier_units units (with_earlier_units (unit ∷ []) later) ≡ with_earlier_units (units ++ unit ∷ []) later
behind_twice units unit (Ok later) = ap Ok (sym (append_assoc units (unit ∷ []) later))
behind_twice units unit (Err at) = refl

behind_none : (later : Result (List UnitChanges) ℕ) → later ≡ with_earlier_units [] later
behind_none (Ok later) = refl
behind_none (Err at) = refl

-- a whole record behind an open gate, and then what stands behind it
gated : (files : List FileInfo) (place next gate : ℕ) (frame body other : List ℕ) (unit : UnitChanges) → gate ≢ 0 → IsFrame frame body → unit_in files body ≡ Some unit
    → place + (1 + length frame) ≡ next
    → units_from files place 0 (gate ∷ (frame ++ other)) ≡ with_earlier_units (unit ∷ []) (units_from files next 0 other)
gated files place next gate frame body other unit is_open f is there =
    let found : recorded files (frame ++ other) ≡ Some unit = ap (λ o. o >>= λ b. unit_in files b) (frame_body frame body other f) ∙ is in
    let passed : units_from files (place + 1) (4 + size_of (frame ++ other)) (frame ++ other) ≡ units_from files next 0 other =
    ap (λ (n : ℕ). units_from files (place + 1) n (frame ++ other)) (frame_size frame body other f) ∙ passes files frame other (place + 1) (length frame) next refl (omega arith) in
    open_gate files place gate (frame ++ other) is_open
    ∙ ap (λ (o : Option UnitChanges). with_first o place (units_from files (place + 1) (4 + size_of (frame ++ other)) (frame ++ other))) found
    ∙ ap (with_first (Some unit) place) passed
    ∙ first_behind unit place (units_from files next 0 other)

-- no records, and one more
pub records_none : (files : List FileInfo) → AreRecords files [] []
records_none files other = behind_none (units_from files 0 0 other)

pub records_more : (files : List FileInfo) (units : List UnitChanges) (front : List ℕ) → AreRecords files units front
    → (gate : ℕ) (frame body : List ℕ) (unit : UnitChanges) → gate ≢ 0 → IsFrame frame body → unit_in files body ≡ Some unit
    → AreRecords files (units ++ unit ∷ []) (front ++ gate ∷ frame)
records_more files units front are gate frame body unit is_open f is other =
    ap (units_from files 0 0) (append_assoc front (gate ∷ frame) other)
    ∙ are (gate ∷ (frame ++ other))
    ∙ ap (with_earlier_units units) (gated files (length front) (length (front ++ gate ∷ frame)) gate frame body other unit is_open f is (omega (arith, length-append front (gate ∷ frame))))
    ∙ behind_twice units unit (units_from files (length (front ++ gate ∷ frame)) 0 other)

-- records, a zero gate, and anything
pub closed : (files : List FileInfo) (units : List UnitChanges) (front rest : List ℕ) → AreRecords files units front → units_in files (front ++ 0 ∷ rest) ≡ Ok units
closed files units front rest are =
    are (0 ∷ rest) ∙ ap (with_earlier_units units) (shut files (length front) 0 rest refl) ∙ ap Ok (append-nil units)

-- what a reader finds at a gate, behind the records so far
mapped_none : {A B : Type 0} (f : A → B) (o : Option A) → None ≡ option_map f o → o ≡ None
mapped_none f None e = refl
mapped_none f (Some x) e = absurd cc

mapped_body : (o : Option (List ℕ)) (body : List ℕ) → Some (Some body) ≡ option_map Some o → o ≡ Some body
mapped_body None body e = absurd cc
mapped_body (Some x) body e = cc

mapped_end : (o : Option (List ℕ)) → Some None ≡ option_map Some o → ⊥
mapped_end None e = cc
mapped_end (Some x) e = cc

-- what stands at a gate
pub record IsEnd (bytes : List ℕ) : Type 0 where
  pub rest : List ℕ
  pub is : bytes ≡ 0 ∷ rest

pub record IsBody (bytes body : List ℕ) : Type 0 where
  pub gate : ℕ
  pub rest : List ℕ
  pub is : bytes ≡ gate ∷ rest
  pub is_open : gate ≢ 0
  pub found : body_in rest ≡ Some body

pub record IsBroken (files : List FileInfo) (bytes : List ℕ) : Type 0 where
  pub fails : (place : ℕ) → units_from files place 0 bytes ≡ Err place

is_end : (bytes : List ℕ) → Some None ≡ piece_in bytes → IsEnd bytes
is_end [] e = absurd cc
is_end (gate ∷ rest) e = elim (cases_eq gate 0) [
  | inl is_shut ↦ record { rest = rest; is = ap (λ (g : ℕ). g ∷ rest) is_shut }
  | inr is_open ↦ absurd (mapped_end (body_in rest) (e ∙ piece_open gate rest is_open))
]

is_body : (bytes body : List ℕ) → Some (Some body) ≡ piece_in bytes → IsBody bytes body
is_body [] body e = absurd cc
is_body (gate ∷ rest) body e = elim (cases_eq gate 0) [
  | inl is_shut ↦ let other : Some (Some body) ≡ Some None = e ∙ piece_shut gate rest is_shut in absurd cc
  | inr is_open ↦ record { gate = gate; rest = rest; is = refl; is_open = is_open; found = mapped_body (body_in rest) body (e ∙ piece_open gate rest is_open) }
]

is_broken : (files : List FileInfo) (bytes : List ℕ) → None ≡ piece_in bytes → IsBroken files bytes
is_broken files [] e = record { fails = λ place. refl }
is_broken files (gate ∷ rest) e = elim (cases_eq gate 0) [
  | inl is_shut ↦ let other : None ≡ Some None = e ∙ piece_shut gate rest is_shut in absurd cc
  | inr is_open ↦ record {
    fails = λ place.
        let none : recorded files rest ≡ None = ap (λ o. o >>= λ b. unit_in files b) (mapped_none Some (body_in rest) (e ∙ piece_open gate rest is_open)) in
        open_gate files place gate rest is_open
        ∙ ap (λ (o : Option UnitChanges). with_first o place (units_from files (place + 1) (4 + size_of rest) rest)) none;
  }
]

module _ (files : List FileInfo) (bytes : List ℕ) (units : List UnitChanges) (at : ℕ) (within : at ≤ length bytes) (are : AreRecords files units (take at bytes)) where
  size : length (take at bytes) ≡ at
  size = length-take at bytes ∙ omega arith

  split : bytes ≡ take at bytes ++ drop at bytes
  split = sym (take-append-drop at bytes)

  reads : units_in files bytes ≡ with_earlier_units units (units_from files at 0 (drop at bytes))
  reads = ap (units_in files) split ∙ are (drop at bytes) ∙ ap (λ (n : ℕ). with_earlier_units units (units_from files n 0 (drop at bytes))) size

  -- the trail ends
  pub ends : Some None ≡ piece_in (drop at bytes) → units_in files bytes ≡ Ok units
  ends e =
      let here = is_end (drop at bytes) e in
      ap (units_in files) (split ∙ ap (λ (l : List ℕ). take at bytes ++ l) here.is) ∙ closed files units (take at bytes) here.rest are

  -- and nothing behind its gate matters
  pub ends_at : Some None ≡ piece_in (drop at bytes) → take (at + 1) bytes ≡ take at bytes ++ 0 ∷ []
  ends_at e =
      let here = is_end (drop at bytes) e in
      let parts : bytes ≡ (take at bytes ++ 0 ∷ []) ++ here.rest = split ∙ ap (λ (l : List ℕ). take at bytes ++ l) here.is ∙ sym (append_assoc (take at bytes) (0 ∷ []) here.rest) in
      ap (take (at + 1)) parts ∙ take_at (take at bytes ++ 0 ∷ []) here.rest (at + 1) (length-append (take at bytes) (0 ∷ []) ∙ omega (arith, size))

  pub ends_within : Some None ≡ piece_in (drop at bytes) → at + 1 ≤ length bytes
  ends_within e = let here = is_end (drop at bytes) e in omega (arith, ap length here.is, length-drop at bytes)

  -- neither a record nor the end stands there
  pub breaks : None ≡ piece_in (drop at bytes) → units_in files bytes ≡ Err at
  breaks e = reads ∙ ap (with_earlier_units units) ((is_broken files (drop at bytes) e).fails at)

  -- a record stands there whose body is of no unit
  pub refuses : (body : List ℕ) → Some (Some body) ≡ piece_in (drop at bytes) → unit_in files body ≡ None → units_in files bytes ≡ Err at
  refuses body e none =
      let here = is_body (drop at bytes) body e in
      let nothing : recorded files here.rest ≡ None = ap (λ o. o >>= λ b. unit_in files b) here.found ∙ none in
      reads
      ∙ ap (λ (l : List ℕ). with_earlier_units units (units_from files at 0 l)) here.is
      ∙ ap (with_earlier_units units) (open_gate files at here.gate here.rest here.is_open
      ∙ ap (λ (o : Option UnitChanges). with_first o at (units_from files (at + 1) (4 + size_of here.rest) here.rest)) nothing)

  -- a record of one unit more stands there
  module _ (body : List ℕ) (e : Some (Some body) ≡ piece_in (drop at bytes)) where
    here : IsBody (drop at bytes) body
    here = is_body (drop at bytes) body e

    taken : IsTaken here.rest body
    taken = found_is here.rest body here.found

    pub body_within : at + (5 + length body) ≤ length bytes
    body_within = omega (arith, ap length here.is, length-drop at bytes, taken.fits)

    pub body_more : (unit : UnitChanges) → unit_in files body ≡ Some unit → AreRecords files (units ++ unit ∷ []) (take (at + (5 + length body)) bytes)
    body_more unit is =
        let one_more : 5 + length body ≡ suc (4 + length body) = omega arith in
        let front : take (at + (5 + length body)) bytes ≡ take at bytes ++ here.gate ∷ take (4 + length body) here.rest =
        take-add at (5 + length body) bytes
        ∙ ap (λ (l : List ℕ). take at bytes ++ take (5 + length body) l) here.is
        ∙ ap (λ (n : ℕ). take at bytes ++ take n (here.gate ∷ here.rest)) one_more in
        subst (AreRecords files (units ++ unit ∷ [])) (sym front)
        (records_more files units (take at bytes) are here.gate (take (4 + length body) here.rest) body unit here.is_open taken.frame is)
