-- Whether one unit's operation meets a lock of another.
use Rattle.std.proofs.Common.{◌≡◌, ◌≢◌, ℕ, ◌∙◌, ⊎_elim, sym, ap, Bool, false, not, ◌&&◌, ◌==◌, List}
use Rattle.std.specs.List.{list_any}
use Rattle.std.proofs.Math.Path.{fun_ext}
use Rattle.std.proofs.lemmas.Bool.{and_parts, cases_Bool, eqb-true, ne_eqb}
use Rattle.pw_code.specs.declared.lock.LockMode.{LockMode}
use Rattle.pw_code.specs.declared.unit.Unit as unit
use Rattle.pw_locks.specs.Conflicts.{conflict, exclude, is_same_unit, lock_of}
use Rattle.pw_locks.specs.declared.lock.Lock.{Lock}
use Rattle.pw_locks.specs.declared.span.Span.{Span}

-- a lock of another terminal's unit is not the unit's own
pub blocks-conflict : (u holder : unit.Unit) (file : ℕ) (span : Span) (mode : LockMode) (locks : List Lock) → u.terminal ≢ holder.terminal
    → list_any (λ held. is_same_unit held.unit holder && exclude file span mode held) locks ≡ list_any (λ held. is_same_unit held.unit holder && conflict (lock_of u file span mode) held) locks
blocks-conflict u holder file span mode locks apart = ap (λ (p : Lock → Bool). list_any p locks) (fun_ext same)
  where
    same : (held : Lock) → (is_same_unit held.unit holder && exclude file span mode held) ≡ (is_same_unit held.unit holder && conflict (lock_of u file span mode) held)
    same held =
        ⊎_elim
        (λ is.
        let theirs : held.unit.terminal ≡ holder.terminal = eqb-true held.unit.terminal holder.terminal (and_parts (held.unit.terminal == holder.terminal) (held.unit.number == holder.number) is).0 in
        let other : is_same_unit u held.unit ≡ false = ap (λ b. b && (u.number == held.unit.number)) (ne_eqb u.terminal held.unit.terminal (λ e. apart (e ∙ theirs))) in
        ap (λ b. is_same_unit held.unit holder && (b && exclude file span mode held)) (sym (ap not other)))
        (λ is. ap (λ b. b && exclude file span mode held) is ∙ sym (ap (λ b. b && conflict (lock_of u file span mode) held) is))
        (cases_Bool (is_same_unit held.unit holder))
