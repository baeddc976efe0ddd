-- What runs of calls leave on the disk of a trail.
use Rattle.std.proofs.Common.{◌≡◌, inl, inr, ◌∙◌, ℕ, ◌+◌, ◌≤◌, true, List, [], ◌∷◌, ◌++◌, length, refl, sym, ap, subst, arith, append_assoc, length-append}
use Rattle.std.specs.Prelude.{Result, Ok, Err}
use Rattle.std.proofs.lemmas.List.{append-nil}
use Rattle.pw_code.specs.declared.file.FileInfo.{FileInfo}
use Rattle.pw_code.specs.declared.system.System.{System}
use Rattle.pw_tmf.specs.Told.{Told}
use Rattle.pw_tmf.specs.declared.answer.DiscFault.TheVariants as fault
use Rattle.pw_trail.specs.Calls.{Call, Commit, HasEither, HasPrefixOf, IsPrefix, Moment, Other, RecoversPrefixOf, CallsLeadTo, DiskHoldsUnits, acknowledged_by, committed_by}
use Rattle.pw_trail.specs.Files.{files_after, files_read, told_with}
use Rattle.pw_trail.specs.Format.{units_in}
use Rattle.pw_trail.specs.Restoring.{IsReadBack}
use Rattle.pw_trail.specs.declared.changes.UnitChanges.{UnitChanges}

-- ---- prefixes

prefix-all : (units : List UnitChanges) → IsPrefix units units
prefix-all units = record { rest = []; is = sym (append-nil units) }

prefix-more : (front whole more : List UnitChanges) → IsPrefix front whole → IsPrefix front (whole ++ more)
prefix-more front whole more p = record {
  rest = p.rest ++ more;
  is = ap (λ (us : List UnitChanges). us ++ more) p.is ∙ append_assoc front p.rest more;
}

-- an image has the units from before and a prefix of these, with all that were acknowledged and at most one more
record Has (files : List FileInfo) (before units acknowledged : List UnitChanges)
    (image : List ℕ) : Type 0 where
  found : List UnitChanges
  all : IsPrefix acknowledged found
  few : length found ≤ length acknowledged + 1
  first : IsPrefix found units
  is : units_in files image ≡ Ok (before ++ found)

-- more units do no harm
has-more : (files : List FileInfo) (before units more acknowledged : List UnitChanges) (image : List ℕ)
    → Has files before units acknowledged image → Has files before (units ++ more) acknowledged image
has-more files before units more acknowledged image h = record {
  found = h.found;
  all = h.all;
  few = h.few;
  first = prefix-more h.found units more h.first;
  is = h.is;
}

-- all of them
has-all : (files : List FileInfo) (before units : List UnitChanges) (image : List ℕ)
    → units_in files image ≡ Ok (before ++ units) → Has files before units units image
has-all files before units image is = record {
  found = units;
  all = prefix-all units;
  few = omega arith;
  first = prefix-all units;
  is = is;
}

-- all of them, and one more or not
has-either : (files : List FileInfo) (before units : List UnitChanges) (unit : UnitChanges)
    (image : List ℕ) → HasEither files (Ok (before ++ units)) unit image
    → Has files before (units ++ unit ∷ []) units image
has-either files before units unit image (inl is) =
    has-more files before units (unit ∷ []) units image (has-all files before units image is)
has-either files before units unit image (inr is) = record {
  found = units ++ unit ∷ [];
  all = record { rest = unit ∷ []; is = refl };
  few = omega (arith, length-append units (unit ∷ []));
  first = prefix-all (units ++ unit ∷ []);
  is = is ∙ ap Ok (append_assoc before units (unit ∷ []));
}

-- ---- runs

module _ {S : Type 0} (held : S → List ℕ) (images : S → List ℕ → Type 0) where
  -- once the disk has failed its images stay
  broken-on : (calls : List Call) (now next : Moment S) (before units acknowledged : List UnitChanges)
      → now.is_broken ≡ true
      → ((image : List ℕ) → images now.disk image → Has now.files before units acknowledged image)
      → CallsLeadTo held images now calls next → (image : List ℕ) → images next.disk image
      → Has now.files before (units ++ committed_by calls) (acknowledged ++ acknowledged_by calls) image
  broken-on [] now next before units acknowledged broken has run image may =
      subst (λ (us : List UnitChanges). Has now.files before (units ++ []) us image)
      (sym (append-nil acknowledged))
      (has-more now.files before units [] acknowledged image
      (has image (subst (λ (m : Moment S). images m.disk image) run may)))
  broken-on (Other ∷ calls) now next before units acknowledged broken has run image may =
      broken-on calls now next before units acknowledged broken has
      (subst (λ (m : Moment S). CallsLeadTo held images m calls next) run.1.0 run.1.1) image may
  broken-on (Commit unit (Ok done) ∷ calls) now next before units acknowledged broken has run image may =
      let failed = (run.1.0.broken broken).0 in absurd (cc failed)
  broken-on (Commit unit (Err fault.Memory) ∷ calls) now next before units acknowledged broken has run image may =
      let failed = (run.1.0.broken broken).0 in absurd (cc failed)
  broken-on (Commit unit (Err fault.Failed) ∷ calls) now next before units acknowledged broken has run image may =
      let same = (run.1.0.broken broken).1 in
      let rest = broken-on calls now next before (units ++ unit ∷ []) acknowledged broken
      (λ other left. has-more now.files before units (unit ∷ []) acknowledged other (has other left))
      (subst (λ (m : Moment S). CallsLeadTo held images m calls next) same run.1.1) image may in
      subst (λ (us : List UnitChanges). Has now.files before us (acknowledged ++ acknowledged_by calls) image)
      (append_assoc units (unit ∷ []) (committed_by calls)) rest

  -- until then each image has all that was put there
  run-on : (calls : List Call) (now next : Moment S) (before units : List UnitChanges)
      → DiskHoldsUnits held images now (Ok (before ++ units)) → CallsLeadTo held images now calls next
      → (image : List ℕ) → images next.disk image
      → Has now.files before (units ++ committed_by calls) (units ++ acknowledged_by calls) image
  run-on [] now next before units stands run image may =
      let all = has-all now.files before units image
      (stands.leaves image (subst (λ (m : Moment S). images m.disk image) run may)) in
      subst (λ (us : List UnitChanges). Has now.files before us us image) (sym (append-nil units)) all
  run-on (Other ∷ calls) now next before units stands run image may =
      run-on calls now next before units stands
      (subst (λ (m : Moment S). CallsLeadTo held images m calls next) run.1.0 run.1.1) image may
  run-on (Commit unit (Ok done) ∷ calls) now next before units stands run image may =
      let left = run.1.0.stands (Ok (before ++ units)) stands in
      let more = subst (λ (us : List UnitChanges). DiskHoldsUnits held images run.0 (Ok us))
      (append_assoc before units (unit ∷ [])) left in
      let rest = run-on calls run.0 next before (units ++ unit ∷ []) more run.1.1 image may in
      let at-files = subst
      (λ (fs : List FileInfo). Has fs before ((units ++ unit ∷ []) ++ committed_by calls)
      ((units ++ unit ∷ []) ++ acknowledged_by calls) image) run.1.0.files rest in
      let at-units = subst
      (λ (us : List UnitChanges). Has now.files before us ((units ++ unit ∷ []) ++ acknowledged_by calls) image)
      (append_assoc units (unit ∷ []) (committed_by calls)) at-files in
      subst (λ (us : List UnitChanges). Has now.files before (units ++ unit ∷ committed_by calls) us image)
      (append_assoc units (unit ∷ []) (acknowledged_by calls)) at-units
  run-on (Commit unit (Err fault.Memory) ∷ calls) now next before units stands run image may =
      let left = run.1.0.stands (Ok (before ++ units)) stands in
      subst (λ (fs : List FileInfo). Has fs before (units ++ committed_by calls) (units ++ acknowledged_by calls) image)
      run.1.0.files (run-on calls run.0 next before units left run.1.1 image may)
  run-on (Commit unit (Err fault.Failed) ∷ calls) now next before units stands run image may =
      let left = run.1.0.stands (Ok (before ++ units)) stands in
      let rest = broken-on calls run.0 next before (units ++ unit ∷ []) units left.broken
      (λ other lost. has-either run.0.files before units unit other (left.leaves other lost)) run.1.1 image may in
      let at-files = subst
      (λ (fs : List FileInfo). Has fs before ((units ++ unit ∷ []) ++ committed_by calls)
      (units ++ acknowledged_by calls) image) run.1.0.files rest in
      subst (λ (us : List UnitChanges). Has now.files before us (units ++ acknowledged_by calls) image)
      (append_assoc units (unit ∷ []) (committed_by calls)) at-files

  pub leaves : (before : List UnitChanges) (calls : List Call) (first now : Moment S)
      → DiskHoldsUnits held images first (Ok before) → CallsLeadTo held images first calls now
      → (image : List ℕ) → images now.disk image → HasPrefixOf first.files before calls image
  leaves before calls first now stands run image may =
      let none = subst (λ (us : List UnitChanges). DiskHoldsUnits held images first (Ok us))
      (sym (append-nil before)) stands in
      let has : Has first.files before (committed_by calls) (acknowledged_by calls) image =
      run-on calls first now before [] none run image may in
      record {
        found = has.found;
        are = record { all = has.all; few = has.few; first = has.first };
        units = has.is;
        records = ap (files_read first.files) has.is;
      }

-- ---- what is found again

the-ok : {A E : Type 0} (a b : A) → ◌≡◌ {A = Result A E} (Ok a) (Ok b) → a ≡ b
the-ok a b is = cc is

pub recovers : (system : System) (before : List UnitChanges) (calls : List Call) (image : List ℕ)
    (told : Told) → HasPrefixOf system.files before calls image
    → IsReadBack system (units_in system.files image) told → RecoversPrefixOf system before calls told
recovers system before calls image told h read =
    let same : read.units ≡ before ++ h.found = the-ok _ _ (sym read.reads ∙ h.units) in
    record {
      found = h.found;
      are = h.are;
      is = read.restored.is
          ∙ ap (λ (us : List UnitChanges). told_with system (files_after system.files us)) same;
    }

pub reopens : (files : List FileInfo) (before : List UnitChanges) (calls : List Call) (image other : List ℕ)
    → HasPrefixOf files before calls image → units_in files other ≡ units_in files image
    → HasPrefixOf files before calls other
reopens files before calls image other h same = record {
  found = h.found;
  are = h.are;
  units = same ∙ h.units;
  records = ap (files_read files) same ∙ h.records;
}
