-- Codes that a system may have.
use Rattle.std.proofs.Common.{◌≡◌, ℕ, ◌<◌, ◌≤◌, ◌^◌, List, [], ◌∷◌, length, Bool, sym, ap, subst, arith}
use Rattle.std.specs.Prelude.{All}
use Rattle.std.proofs.lemmas.List.Elements.{All-nil}
use Rattle.pw_code.specs.Instrs.{AreInstrs}
use Rattle.pw_code.specs.Valid.{IsLinked, IsCode}
use Rattle.pw_code.specs.declared.code.Code.{Code}
use Rattle.pw_code.specs.declared.instr.Instr.{Instr}
use Rattle.pw_code.specs.declared.system.System.{System}

-- a code without storage and linkage
pub IsCode-plain : (server : Bool) (system : System) (code : Code) → AreInstrs server system code code.instrs
    → length code.instrs < 2 ^ 32 → code.storage ≡ [] → code.linkage ≡ [] → IsCode server system code
IsCode-plain server system code instrs short no_storage no_linkage =
    let size : length code.storage ≡ 0 = ap length no_storage in
    record {
      places = short;
      instrs = instrs;
      storage = omega arith;
      linkage = subst (λ (l : List (ℕ × ℕ)). All (IsLinked (length code.storage)) l) (sym no_linkage) (All-nil (IsLinked (length code.storage)));
    }

-- a code without anything
pub IsCode-empty : (server : Bool) (system : System) (code : Code) → code.instrs ≡ [] → code.storage ≡ [] → code.linkage ≡ [] → IsCode server system code
IsCode-empty server system code no_instrs no_storage no_linkage =
    let size : length code.instrs ≡ 0 = ap length no_instrs in
    IsCode-plain server system code (subst (λ (l : List Instr). AreInstrs server system code l) (sym no_instrs) tt) (omega arith) no_storage no_linkage
