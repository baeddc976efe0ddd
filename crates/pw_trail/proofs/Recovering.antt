-- What a reader of a trail keeps from gate to gate.
use Rattle.std.proofs.Common.{◌≡◌, ℕ, ◌+◌, ◌≤◌, List, [], ◌∷◌, ◌++◌, length, take, drop, Some, None, sym, ◌∙◌, ap, subst, arith}
use Rattle.std.specs.Prelude.{Ok, Err}
use Rattle.pw_code.specs.declared.file.FileInfo.{FileInfo}
use Rattle.pw_volume.specs.Crash.{Only, Shortened}
use Rattle.pw_trail.specs.Body.{unit_in}
use Rattle.pw_trail.specs.Format.{units_in}
use Rattle.pw_trail.specs.Stored.{AreRecords, HasTakenOne, IsTrailRead, IsRecovered, piece_in}
use Rattle.pw_trail.proofs.Commits.{trim_keeps, trim_synced}
use Rattle.pw_trail.specs.declared.changes.UnitChanges.{UnitChanges}
use Rattle.pw_trail.proofs.Reading.{body_more, body_within, breaks, ends, ends_at, ends_within, records_none, refuses}

-- the units so far were taken, and the bytes so far are their records
pub record IsReading (files : List FileInfo) (bytes : List ℕ) (Taken : List UnitChanges → Type 0) (at : ℕ) : Type 0 where
  pub units : List UnitChanges
  pub taken : Taken units
  pub records : AreRecords files units (take at bytes)
  pub within : at ≤ length bytes

pub reading_none : (files : List FileInfo) (bytes : List ℕ) (Taken : List UnitChanges → Type 0) → Taken [] → IsReading files bytes Taken 0
reading_none files bytes Taken none = record { units = []; taken = none; records = records_none files; within = omega arith }

module _ (files : List FileInfo) (bytes : List ℕ) (Taken : List UnitChanges → Type 0) (at : ℕ) (r : IsReading files bytes Taken at) where
  pub reading_end : Some None ≡ piece_in (drop at bytes) → IsTrailRead files bytes Taken at
  reading_end e = record {
    units = r.units;
    reads = ends files bytes r.units at r.within r.records e;
    taken = r.taken;
    records = r.records;
    gate = ends_at files bytes r.units at r.within r.records e;
    within = ends_within files bytes r.units at r.within r.records e;
  }

  pub reading_broken : None ≡ piece_in (drop at bytes) → units_in files bytes ≡ Err at
  reading_broken e = breaks files bytes r.units at r.within r.records e

  module _ (body : List ℕ) (e : Some (Some body) ≡ piece_in (drop at bytes)) where
    pub reading_bad : unit_in files body ≡ None → units_in files bytes ≡ Err at
    reading_bad none = refuses files bytes r.units at r.within r.records body e none

    pub reading_within : at + (5 + length body) ≤ length bytes
    reading_within = body_within files bytes r.units at r.within r.records body e

    pub reading_more : (Next : List UnitChanges → Type 0) (next : ℕ) → HasTakenOne (unit_in files body) Taken Next → next ≡ at + (5 + length body) → IsReading files bytes Next next
    reading_more Next next one is =
        let there : IsReading files bytes Next (at + (5 + length body)) = record {
          units = r.units ++ one.unit ∷ [];
          taken = one.takes r.units r.taken;
          records = body_more files bytes r.units at r.within r.records body e one.unit one.is;
          within = reading_within;
        } in
        subst (λ n. IsReading files bytes Next n) (sym is) there

-- A cut behind the zero gate that was found.
module _ (files : List FileInfo) (before bytes read : List ℕ) (Taken : List UnitChanges → Type 0) (end : ℕ) (found : IsTrailRead files bytes Taken end) (same : bytes ≡ before) (is_read : read ≡ bytes) where
  reads : units_in files before ≡ Ok found.units
  reads = ap (units_in files) (sym same) ∙ found.reads

  within : end ≤ length bytes
  within = omega (arith, found.within)

  pub cut_keeps : (image : List ℕ) → Shortened (end + 1) read image → units_in files image ≡ units_in files before
  cut_keeps image cut =
      trim_keeps files bytes found.units end within found.records found.gate image (subst (λ l. Shortened (end + 1) l image) is_read cut) ∙ sym reads

  pub cut_recovers : (now : List ℕ) (may_leave : List ℕ → Type 0) → now ≡ take (end + 1) read → Only now may_leave → IsRecovered files before Taken now may_leave end
  cut_recovers now may_leave is only = record {
    units = found.units;
    reads = reads;
    taken = found.taken;
    synced = trim_synced files bytes found.units end within found.records found.gate now may_leave (is ∙ ap (take (end + 1)) is_read) only;
  }
