-- What a log of groups keeps, call by call.
use Rattle.std.proofs.Common.{◌≡◌, ◌⊎◌, inl, inr, ◌∙◌, ℕ, ◌+◌, ◌<◌, ◌≤◌, true, false, List, [], ◌∷◌, ◌++◌, Ok, length, drop, refl, sym, ap, subst, arith, length-append}
use Rattle.std.specs.Prelude.{Result}
use Rattle.std.proofs.lemmas.Bool.{false≢true}
use Rattle.std.proofs.lemmas.List.{append-nil, append_assoc, drop_at}
use Rattle.pw_base.specs.Outside.{Rose}
use Rattle.pw_code.specs.declared.file.FileInfo.{FileInfo}
use Rattle.pw_group_commit.specs.Grouped.{GroupState, GroupStops, HasOrWithGroup, IsGroupLog, added_units, most_in_group, settled_units, waiting_units}
use Rattle.pw_trail.specs.Calls.{DiskHoldsUnits, moment}
use Rattle.pw_trail.specs.Format.{units_in, with_units}
use Rattle.pw_trail.specs.Groups.{IsGroup}
use Rattle.pw_trail.specs.Stored.{those}
use Rattle.pw_trail.specs.declared.changes.UnitChanges.{UnitChanges}
use Rattle.pw_trail.proofs.Groups.{group-none, group-units}
use Rattle.pw_volume.specs.Crash.{NoMore}

module _ {S : Type 0} (held : S → List ℕ) (images : S → List ℕ → Type 0) (settled : S → List ℕ) (faulted : S → ℕ)
    (files : List FileInfo) (before : List UnitChanges) (least : ℕ) where
  abbrev Kept : GroupState S → Type 0
  Kept log = IsGroupLog held images settled faulted files before least log

  -- the units of a log, by what they are
  settled-are : (log : GroupState S) (us : List UnitChanges) → units_in log.files (settled log.disk) ≡ Ok (before ++ us)
      → settled_units settled before log ≡ us
  settled-are log us is = ap (λ (r : Result (List UnitChanges) ℕ). drop (length before) (those r)) is ∙ drop_at before us (length before) refl

  waiting-are : (log : GroupState S) (ws : List UnitChanges) → IsGroup log.files ws log.waiting → waiting_units log ≡ ws
  waiting-are log ws g = ap those (group-units log.files ws log.waiting g)

  pub added-are : (log : GroupState S) (us ws : List UnitChanges) → units_in log.files (settled log.disk) ≡ Ok (before ++ us)
      → IsGroup log.files ws log.waiting → added_units settled before log ≡ us ++ ws
  added-are log us ws is g =
      ap (λ (l : List UnitChanges). l ++ waiting_units log) (settled-are log us is) ∙ ap (λ (l : List UnitChanges). us ++ l) (waiting-are log ws g)

  -- such a log keeps what its type says
  module _ (log : GroupState S) (us ws : List UnitChanges) (files_are : log.files ≡ files) (waits : IsGroup log.files ws log.waiting)
      (count : log.count ≡ length ws) (few : log.count ≤ most_in_group)
      (synced : units_in log.files (settled log.disk) ≡ Ok (before ++ us)) (faults : least ≤ faulted log.disk) where
    us-are : settled_units settled before log ≡ us
    us-are = settled-are log us synced

    ws-are : waiting_units log ≡ ws
    ws-are = waiting-are log ws waits

    pub of-units : (log.is_broken ≡ false → DiskHoldsUnits held images (moment log.files log.disk log.is_broken) (Ok (before ++ us)))
        → (log.is_broken ≡ true → GroupStops images faulted least (before ++ us) ws log) → Kept log
    of-units goes stops = record {
      files_are = files_are;
      waits = subst (λ (l : List UnitChanges). IsGroup log.files l log.waiting) (sym ws-are) waits;
      count = count ∙ ap length (sym ws-are);
      few = few;
      synced = synced ∙ ap (λ (l : List UnitChanges). Ok (before ++ l)) (sym us-are);
      faults = faults;
      goes = λ is.
          subst (λ (l : List UnitChanges). DiskHoldsUnits held images (moment log.files log.disk log.is_broken) (Ok (before ++ l))) (sym us-are) (goes is);
      stops = λ is.
          subst (λ (l : List UnitChanges). GroupStops images faulted least (before ++ l) (waiting_units log) log) (sym us-are)
          (subst (λ (l : List UnitChanges). GroupStops images faulted least (before ++ us) l log) (sym ws-are) (stops is));
    }

  -- a log to which none was added yet
  pub begins : (log : GroupState S) → images log.disk (settled log.disk) → log.files ≡ files
      → DiskHoldsUnits held images (moment log.files log.disk log.is_broken) (Ok before) → least ≤ faulted log.disk
      → log.waiting ≡ 0 ∷ [] → log.count ≡ 0 → Kept log
  begins log stays files_are stands faults empty none =
      let own : DiskHoldsUnits held images (moment log.files log.disk log.is_broken) (Ok (before ++ [])) =
      subst (λ (us : List UnitChanges). DiskHoldsUnits held images (moment log.files log.disk log.is_broken) (Ok us)) (sym (append-nil before)) stands in
      of-units log [] [] files_are (subst (IsGroup log.files []) (sym empty) (group-none log.files)) none (omega (arith, none))
      (own.leaves (settled log.disk) stays) faults (λ is. own) (λ is. absurd (false≢true (sym stands.goes ∙ is)))

  -- none was added to it
  pub begins-none : (log : GroupState S) → units_in log.files (settled log.disk) ≡ Ok before → log.waiting ≡ 0 ∷ []
      → added_units settled before log ≡ []
  begins-none log is empty =
      added-are log [] [] (is ∙ ap Ok (sym (append-nil before))) (subst (IsGroup log.files []) (sym empty) (group-none log.files))

  module _ (old : GroupState S) (k : Kept old) where
    abbrev us : List UnitChanges
    us = settled_units settled before old

    abbrev ws : List UnitChanges
    ws = waiting_units old

    -- one unit more waits
    module _ (own : UnitChanges) (new : GroupState S) (goes : old.is_broken ≡ false) (room : old.count < most_in_group)
        (files_are : new.files ≡ old.files) (disk : new.disk ≡ old.disk) (broken : new.is_broken ≡ old.is_broken)
        (count : new.count ≡ old.count + 1) (gathered : IsGroup old.files (ws ++ own ∷ []) new.waiting) where
      waits : IsGroup new.files (ws ++ own ∷ []) new.waiting
      waits = subst (λ (fs : List FileInfo). IsGroup fs (ws ++ own ∷ []) new.waiting) (sym files_are) gathered

      synced : units_in new.files (settled new.disk) ≡ Ok (before ++ us)
      synced = ap (λ (fs : List FileInfo). units_in fs (settled new.disk)) files_are ∙ (ap (λ (d : S). units_in old.files (settled d)) disk ∙ k.synced)

      pub more-kept : Kept new
      more-kept =
          of-units new us (ws ++ own ∷ []) (files_are ∙ k.files_are) waits (omega (arith, count, k.count, length-append ws (own ∷ []))) (omega (arith, count))
          synced (subst (λ (d : S). least ≤ faulted d) (sym disk) k.faults)
          (λ is.
          let stands = k.goes goes in
          record {
            goes = is;
            holds = ap (λ (fs : List FileInfo). units_in fs (held new.disk)) files_are ∙ (ap (λ (d : S). units_in old.files (held d)) disk ∙ stands.holds);
            leaves = λ image there.
                ap (λ (fs : List FileInfo). units_in fs image) files_are
                ∙ stands.leaves image (subst (λ (d : S). images d image) disk there);
          })
          (λ is. absurd (false≢true (sym goes ∙ (sym broken ∙ is))))

      pub more-waits : waiting_units new ≡ ws ++ own ∷ []
      more-waits = waiting-are new (ws ++ own ∷ []) waits

      pub more-settled : settled_units settled before new ≡ us
      more-settled = settled-are new us synced

    -- the group was put behind the trail
    module _ (new : GroupState S) (stays : images new.disk (settled new.disk)) (files_are : new.files ≡ old.files)
        (was : old.is_broken ≡ false) (goes : new.is_broken ≡ false) (faults : faulted old.disk ≤ faulted new.disk)
        (holds : units_in old.files (held new.disk) ≡ with_units (units_in old.files (held old.disk)) ws)
        (leaves : (image : List ℕ) → images new.disk image → units_in old.files image ≡ with_units (units_in old.files (held old.disk)) ws)
        (empty : new.waiting ≡ 0 ∷ []) (none : new.count ≡ 0) where
      all-there : with_units (units_in old.files (held old.disk)) ws ≡ Ok (before ++ (us ++ ws))
      all-there = ap (λ (r : Result (List UnitChanges) ℕ). with_units r ws) (k.goes was).holds ∙ ap Ok (append_assoc before us ws)

      read : (bytes : List ℕ) → units_in old.files bytes ≡ with_units (units_in old.files (held old.disk)) ws
          → units_in new.files bytes ≡ Ok (before ++ (us ++ ws))
      read bytes is = ap (λ (fs : List FileInfo). units_in fs bytes) files_are ∙ (is ∙ all-there)

      none-wait : IsGroup new.files [] new.waiting
      none-wait = subst (IsGroup new.files []) (sym empty) (group-none new.files)

      pub flushed-kept : Kept new
      flushed-kept =
          of-units new (us ++ ws) [] (files_are ∙ k.files_are) none-wait none (omega (arith, none)) (read (settled new.disk) (leaves (settled new.disk) stays))
          (omega (arith, k.faults))
          (λ is. record { goes = is; holds = read (held new.disk) holds; leaves = λ image there. read image (leaves image there) })
          (λ is. absurd (false≢true (sym goes ∙ is)))

      pub flushed-none : waiting_units new ≡ []
      flushed-none = waiting-are new [] none-wait

      pub flushed-settled : settled_units settled before new ≡ added_units settled before old
      flushed-settled = settled-are new (us ++ ws) (read (settled new.disk) (leaves (settled new.disk) stays))

    -- the disk has failed at it, or there was no memory
    module _ (new : GroupState S) (files_are : new.files ≡ old.files) (was : old.is_broken ≡ false) (faults : faulted old.disk ≤ faulted new.disk)
        (waiting : new.waiting ≡ old.waiting) (count : new.count ≡ old.count)
        (unsettled : units_in old.files (settled new.disk) ≡ units_in old.files (held old.disk)) where
      still : IsGroup new.files ws new.waiting
      still =
          subst (λ (fs : List FileInfo). IsGroup fs ws new.waiting) (sym files_are)
          (subst (λ (l : List ℕ). IsGroup old.files ws l) (sym waiting) k.waits)

      as-before : units_in new.files (settled new.disk) ≡ Ok (before ++ us)
      as-before = ap (λ (fs : List FileInfo). units_in fs (settled new.disk)) files_are ∙ (unsettled ∙ (k.goes was).holds)

      pub still-settled : settled_units settled before new ≡ us
      still-settled = settled-are new us as-before

      pub still-waits : waiting_units new ≡ ws
      still-waits = waiting-are new ws still

      pub stopped-kept : new.is_broken ≡ true → Rose (faulted old.disk) (faulted new.disk)
          → ((image : List ℕ) → images new.disk image → (units_in old.files image ≡ units_in old.files (held old.disk))
          ⊎ (units_in old.files image ≡ with_units (units_in old.files (held old.disk)) ws)) → Kept new
      stopped-kept broken rose leaves =
          of-units new us ws (files_are ∙ k.files_are) still (count ∙ k.count) (omega (arith, count, k.few)) as-before (omega (arith, k.faults))
          (λ is. absurd (false≢true (sym is ∙ broken)))
          (λ is. record { leaves = λ image there. by image (leaves image there); rose = omega (arith, k.faults, rose) })
        where
          by : (image : List ℕ) → (units_in old.files image ≡ units_in old.files (held old.disk))
              ⊎ (units_in old.files image ≡ with_units (units_in old.files (held old.disk)) ws)
              → HasOrWithGroup new.files (before ++ us) ws image
          by image (inl same) = inl (ap (λ (fs : List FileInfo). units_in fs image) files_are ∙ (same ∙ (k.goes was).holds))
          by image (inr all) =
              inr (ap (λ (fs : List FileInfo). units_in fs image) files_are
              ∙ (all ∙ ap (λ (r : Result (List UnitChanges) ℕ). with_units r ws) (k.goes was).holds))

      pub full-kept : new.is_broken ≡ false → held new.disk ≡ held old.disk → NoMore (images old.disk) (images new.disk) → Kept new
      full-kept goes same fewer =
          let stands = k.goes was in
          of-units new us ws (files_are ∙ k.files_are) still (count ∙ k.count) (omega (arith, count, k.few)) as-before (omega (arith, k.faults))
          (λ is. record {
            goes = is;
            holds = ap (λ (fs : List FileInfo). units_in fs (held new.disk)) files_are ∙ (ap (units_in old.files) same ∙ stands.holds);
            leaves = λ image there. ap (λ (fs : List FileInfo). units_in fs image) files_are ∙ stands.leaves image (fewer image there);
          })
          (λ is. absurd (false≢true (sym goes ∙ is)))
