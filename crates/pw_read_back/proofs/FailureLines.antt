-- A failure line that names what is there is one of the system.
use Rattle.std.proofs.Common.{◌≡◌, ℕ, zero, suc, ◌<◌, List, [], ◌∷◌, length, All, refl, arith}
use Rattle.std.specs.Prelude.{slice_get, slice_index_or}
use Rattle.std.proofs.lemmas.List.Elements.{All-nil, All-cons, All-head, All-tail}
use Rattle.pw_code.specs.declared.system.ClassInfo.{ClassInfo}
use Rattle.pw_code.specs.declared.system.System.{System}
use Rattle.pw_event.specs.Line.{no_class}
use Rattle.pw_event.specs.declared.script.FailLine.{FailLine}
use Rattle.pw_event.specs.declared.script.FailLine.TheVariants as line
use Rattle.pw_code_meaning.specs.OfSystem.{processes_by}
use Rattle.pw_world_state.specs.May.{IsLineThere}
use Rattle.pw_compiled_deck.proofs.Lines.{line-like}
use Rattle.pw_compiled_deck.specs.Named.{IsFailNamed}

processes-same : (classes : List ClassInfo) (c : ℕ) → c < length classes
    → (slice_index_or classes c no_class).processes ≡ processes_by (slice_get classes c)
processes-same [] c less = absurd (omega (arith, less))
processes-same (x ∷ xs) zero less = refl
processes-same (x ∷ xs) (suc c) less = processes-same xs c (omega (arith, less))

line-there : (system : System) (one : FailLine) → IsFailNamed system one → IsLineThere system one
line-there system (line.Tcp p primary after) named = named.0
line-there system (line.Server c i after) named =
    record {
      class = named.0.0;
      low = named.1.0;
      high = omega (arith, named.0.1, processes-same system.classes c named.0.0);
    }

-- those of a system are there in one with the same pairs and classes too
pub lines-like : (system other : System) → system.tcps ≡ other.tcps → system.classes ≡ other.classes
    → (lines : List FailLine) → All (IsFailNamed system) lines → All (IsLineThere other) lines
lines-like system other pairs classes [] all = All-nil (IsLineThere other)
lines-like system other pairs classes (one ∷ lines) all =
    All-cons (IsLineThere other) one lines
    (line-there other one (line-like system other pairs classes one (All-head (IsFailNamed system) one lines all)))
    (lines-like system other pairs classes lines (All-tail (IsFailNamed system) one lines all))

pub lines-there : (system : System) (lines : List FailLine) → All (IsFailNamed system) lines
    → All (IsLineThere system) lines
lines-there system lines all = lines-like system system refl refl lines all
