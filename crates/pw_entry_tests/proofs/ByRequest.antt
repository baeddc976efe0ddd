-- Where two units meet by the request of a process.
use Rattle.std.proofs.Common.{◌≡◌, ◌≢◌, ℕ, ◌==◌, Bool, true, false, refl, sym, ◌∙◌, cond}
use Rattle.std.proofs.lemmas.Bool.{eq-eqb, eqb-true, true≢false}
use Rattle.pw_class.specs.declared.request.Request.{Request}
use Rattle.pw_code.specs.declared.file.FileCall.{FileCall}
use Rattle.pw_code.specs.declared.system.System.{System}
use Rattle.pw_code.specs.declared.unit.Unit as unit
use Rattle.pw_world_state.specs.Kept.{Kept}
use Rattle.pw_entry_tests.proofs.Meets.{meets-first, meets-neither, meets-second}
use Rattle.pw_entry_tests.specs.Calls.{AsksCall}
use Rattle.pw_entry_tests.specs.Causes.{IsUnit, meets_by, process_meets}
use Rattle.pw_entry_tests.specs.Known.{IsKnown}
use Rattle.pw_tmf.specs.Operation.{awaits}

module _ (system : System) (kept : Kept) (known : IsKnown system kept) (c i : ℕ) (request : Request)
    (call : FileCall)
    (asks : AsksCall system kept c i request call) (one other : unit.Unit)
    (its : IsUnit system kept one) (others : IsUnit system kept other)
    (apart : one.terminal ≢ other.terminal) where
  differ : {a b : ℕ} → (a == b) ≡ false → a ≡ b → ⊥
  differ {a} {b} e same = true≢false (sym (eq-eqb a b same) ∙ e)

  by-other : (b : Bool) → (request.terminal == other.terminal) ≡ b
      → (request.terminal == one.terminal) ≡ false
      → process_meets system kept one other c i ≡ cond b (awaits kept.disc other call one) false
  by-other true e out =
      meets-second system kept known c i request call asks one other others
      (eqb-true request.terminal other.terminal e) apart
  by-other false e out =
      meets-neither system kept known c i request call asks one other (differ out) (differ e)

  by-one : (b : Bool) → (request.terminal == one.terminal) ≡ b
      → process_meets system kept one other c i
      ≡ cond b (awaits kept.disc one call other)
      (cond (request.terminal == other.terminal) (awaits kept.disc other call one) false)
  by-one true e =
      meets-first system kept known c i request call asks one other its
      (eqb-true request.terminal one.terminal e) apart
  by-one false e = by-other (request.terminal == other.terminal) refl e

  pub meets-by : process_meets system kept one other c i ≡ meets_by kept one other request call
  meets-by = by-one (request.terminal == one.terminal) refl
