-- A trail that was formatted.
use Rattle.std.proofs.Common.{◌≡◌, ◌≢◌, inr, ℕ, zero, suc, ◌-◌, Bool, List, [], ◌∷◌, Option, None, Some, refl, sym, ◌∙◌, ap, subst, arith}
use Rattle.std.specs.Prelude.{Result, Ok, Err}
use Rattle.pw_code.specs.declared.file.FileInfo.{FileInfo}
use Rattle.pw_code.specs.declared.system.System.{System}
use Rattle.pw_deck_runs.proofs.Calling.{starts}
use Rattle.pw_deck_runs.specs.recovery.InMemory.{held, lives, synced}
use Rattle.pw_deck_runs.specs.recovery.Kept.{IsKept, TrailState, life_to}
use Rattle.pw_tmf.specs.Faulty.{with_faults}
use Rattle.pw_tmf.specs.Starting.{told_at_start}
use Rattle.pw_tmf.specs.Told.{Told}
use Rattle.pw_trail.specs.Calls.{DiskHoldsUnits, moment}
use Rattle.pw_trail.specs.Files.{files_after, told_with}
use Rattle.pw_trail.specs.Format.{units_in}
use Rattle.pw_trail.specs.Restoring.{IsReadBack}
use Rattle.pw_trail.specs.declared.changes.UnitChanges.{UnitChanges}
use Rattle.pw_volume.specs.Life.{Calls, Endless}
use Rattle.pw_volume.specs.MemDisk.{MayLeave, MemDiskState, life_by}

-- it has no unit
pub no-unit : (files : List FileInfo) (bytes : List ℕ) → bytes ≡ 0 ∷ [] → units_in files bytes ≡ Ok []
no-unit files bytes is = ap (units_in files) is

-- what is told of it is what the system begins with
pub told-first : (system : System) (bytes : List ℕ) (told : Told) → bytes ≡ 0 ∷ []
    → IsReadBack system (units_in system.files bytes) told → told ≡ told_at_start system
told-first system bytes told is back =
    let joined : ◌≡◌ {A = Result (List UnitChanges) ℕ} (Ok back.units) (Ok []) = sym back.reads ∙ no-unit system.files bytes is in
    let none : back.units ≡ [] = cc in
    back.restored.is ∙ ap (λ (us : List UnitChanges). told_with system (files_after system.files us)) none

-- a disk that lives on has no stop
pub no-stop : (left : Option ℕ) → life_by left ≡ Endless → left ≡ None
no-stop None is = refl
no-stop (Some calls) is = absurd (cc)

-- it can be read
pub whole-first : (files : List FileInfo) (bytes : List ℕ) → bytes ≡ 0 ∷ [] → (at : ℕ) → units_in files bytes ≡ Err at → ⊥
whole-first files bytes is at bad = let joined : ◌≡◌ {A = Result (List UnitChanges) ℕ} (Err at) (Ok []) = sym bad ∙ no-unit files bytes is in cc

-- with its count of faults
pub told-counted : (system : System) (told : Told) (faults : ℕ) → told ≡ told_at_start system → faults ≡ 0
    → with_faults faults told ≡ told_at_start system
told-counted system told faults is none = ap (λ (n : ℕ). with_faults n told) none ∙ ap (with_faults 0) is

-- a stop leaves what stands on its disk
pub stands-stopping : (files other : List FileInfo) (disk now : MemDiskState) (broken next : Bool) (calls : ℕ)
    (read : Result (List UnitChanges) ℕ) → other ≡ files → now ≡ record disk { left = Some calls } → next ≡ broken
    → DiskHoldsUnits held MayLeave (moment files disk broken) read → DiskHoldsUnits held MayLeave (moment other now next) read
stands-stopping files other disk now broken next calls read same_files same_disk same_broken stands =
    subst (λ (fs : List FileInfo). DiskHoldsUnits held MayLeave (moment fs now next) read) (sym same_files)
    (subst (λ (d : MemDiskState). DiskHoldsUnits held MayLeave (moment files d next) read) (sym same_disk)
    (subst (λ (b : Bool). DiskHoldsUnits held MayLeave (moment files (record disk { left = Some calls }) b) read) (sym same_broken)
    (record { goes = stands.goes; holds = stands.holds; leaves = stands.leaves })))

-- what it keeps
pub first-kept : (trail : TrailState MemDiskState) (files : List FileInfo) (bytes : List ℕ) → bytes ≡ 0 ∷ []
    → DiskHoldsUnits held MayLeave (moment trail.files trail.disk trail.is_broken) (units_in files bytes)
    → trail.faults ≡ 0 → trail.tmf.commits ≡ 0 → IsKept held MayLeave synced lives trail.files [] (lives trail.disk) trail
first-kept trail files bytes is stands none new =
    starts held MayLeave synced lives [] trail (inr refl)
    (subst (λ (r : Result (List UnitChanges) ℕ). DiskHoldsUnits held MayLeave (moment trail.files trail.disk trail.is_broken) r)
    (no-unit files bytes is) stands) none new

-- ---- the life of its disk

pub life-endless : (at : ℕ) (left : Option ℕ) → at ≡ 0 → left ≡ None → life_by left ≡ life_to at
life-endless at left none is = ap life_by is ∙ ap life_to (sym none)

pub life-calls : (at : ℕ) (left : Option ℕ) (calls : ℕ) → at ≢ 0 → calls ≡ at - 1 → left ≡ Some calls
    → life_by left ≡ life_to at
life-calls zero left calls some is there = absurd (some refl)
life-calls (suc n) left calls some is there = ap life_by there ∙ ap Calls (omega arith)
