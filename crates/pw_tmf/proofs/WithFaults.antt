-- A disc that tells more faults than the one inside.
use Rattle.std.proofs.Common.{◌≡◌, ℕ, ◌∙◌, refl, ap, Bool, true, false, List, [], ◌∷◌, Result, Ok, Err}
use Rattle.std.specs.Prelude.{All, OnOk}
use Rattle.std.proofs.lemmas.List.Elements.{All-weaker}
use Rattle.pw_code.specs.declared.unit.Unit as unit
use Rattle.pw_tmf.specs.Faulty.{with_faults}
use Rattle.pw_tmf.specs.Told.{Told}
use Rattle.pw_tmf.specs.Units.{CanBackOut, IsOpen, IsRunning, all_backed_out, backed_out}

-- a unit is open, and an attempt of it runs, where it is so inside
abbrev pub open-inside : (n : ℕ) (told : Told) (u : unit.Unit) → IsOpen (with_faults n told) u → IsOpen told u
open-inside n told u is = record { terminal = is.terminal; open_unit = is.open_unit; here = is.here; number = is.number; birth = is.birth }

pub running-inside : (n : ℕ) (told : Told) (u : unit.Unit) → IsRunning (with_faults n told) u → IsRunning told u
running-inside n told u is = record { is_open = open-inside n told u is.is_open; runs = is.runs }

pub can-inside : (ends : Bool) (n : ℕ) (told : Told) (u : unit.Unit) → CanBackOut ends (with_faults n told) u → CanBackOut ends told u
can-inside true n told u can = open-inside n told u can
can-inside false n told u can = running-inside n told u can

pub all-inside : (ends : Bool) (n : ℕ) (told : Told) (units : List unit.Unit) → All (CanBackOut ends (with_faults n told)) units → All (CanBackOut ends told) units
all-inside ends n told units can = All-weaker (CanBackOut ends (with_faults n told)) (CanBackOut ends told) (can-inside ends n told) units can

-- backing out changes no fault
one-backed_out : (ends : Bool) (n : ℕ) (told : Told) (u : unit.Unit) → with_faults n (backed_out ends told u) ≡ backed_out ends (with_faults n told) u
one-backed_out true n told u = refl
one-backed_out false n told u = refl

pub faults-backed_out : (ends : Bool) (n : ℕ) (told : Told) (units : List unit.Unit) → with_faults n (all_backed_out ends told units) ≡ all_backed_out ends (with_faults n told) units
faults-backed_out ends n told [] = refl
faults-backed_out ends n told (u ∷ units) = faults-backed_out ends n (backed_out ends told u) units ∙ ap (λ (t : Told). all_backed_out ends t units) (one-backed_out ends n told u)

-- what follows from what holds at Ok
pub on-ok-more : {T E : Type 0} (r : Result T E) (P Q : Type 0) → (P → Q) → OnOk r P → OnOk r Q
on-ok-more (Ok x) P Q more p = more p
on-ok-more (Err e) P Q more p = tt
