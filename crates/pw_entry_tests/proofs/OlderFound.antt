-- Whether a process finds an older unit that a unit meets.
use Rattle.std.proofs.Common.{◌≡◌, ◌≢◌, ℕ, ◌<◌, ◌≤◌, nat_lt, Bool, true, false, Some, None, refl, ap, sym, ◌∙◌, cond, arith}
use Rattle.std.proofs.lemmas.Bool.{lt-ltb, ltb-true}
use Rattle.pw_base.proofs.Plain.{refutes}
use Rattle.pw_class.specs.declared.request.Request.{Request}
use Rattle.pw_code.specs.declared.file.FileCall.{FileCall}
use Rattle.pw_code.specs.declared.system.System.{System}
use Rattle.pw_code.specs.declared.unit.Unit as unit
use Rattle.pw_world_state.specs.Kept.{Kept}
use Rattle.pw_entry_tests.proofs.Meets.{holder-awaited, holder-open, meets-first, meets-neither, meets-second, none-awaited, none-older, quiet-meets, same-unit, works-for}
use Rattle.pw_entry_tests.specs.Calls.{AsksCall}
use Rattle.pw_entry_tests.specs.Causes.{IsOlder, IsOlderFound, IsUnit, older_holder, process_meets}
use Rattle.pw_entry_tests.specs.Known.{IsKnown}
use Rattle.pw_tmf.specs.Answers.{Foresees}
use Rattle.pw_tmf.specs.Leaving.{unit_told}
use Rattle.pw_tmf.specs.Operation.{awaits}
use Rattle.pw_tmf.specs.declared.answer.Foreseen.{Foreseen}
use Rattle.pw_tmf.specs.declared.answer.Foreseen.TheVariants as foreseen

none-some : {u : unit.Unit} → None ≡ Some u → ⊥
none-some e = cc e

module _ (system : System) (kept : Kept) (own : unit.Unit) (is : IsUnit system kept own) where
  -- an older unit is of another terminal
  pub apart : (older : unit.Unit) → IsUnit system kept older → older.birth < own.birth
      → own.terminal ≢ older.terminal
  apart older open_one first e =
      let same : own ≡ older = same-unit system kept own older is open_one e in
      let births : own.birth ≡ older.birth = ap (λ (u : unit.Unit). u.birth) same in
      absurd (omega (arith, first, births))

module _ (system : System) (kept : Kept) (own : unit.Unit) (is : IsUnit system kept own) (c i : ℕ) where
  abbrev met : unit.Unit → Bool
  met older = process_meets system kept own older c i

  apart-of : (older : unit.Unit) → IsUnit system kept older → older.birth < own.birth
      → own.terminal ≢ older.terminal
  apart-of = apart system kept own is

  -- a process that asks for nothing finds none
  pub quiet-found : ((request : Request) (call : FileCall) → AsksCall system kept c i request call → ⊥)
      → IsOlderFound system kept own (λ older. process_meets system kept own older c i) None
  quiet-found quiet older h = refutes h.meets (quiet-meets system kept c i quiet own older)

  module _ (known : IsKnown system kept) (request : Request) (call : FileCall)
      (asks : AsksCall system kept c i request call) where
    -- ---- it works for the unit itself
    module _ (e : request.terminal ≡ own.terminal) where
      waits : (older : unit.Unit) → IsUnit system kept older → older.birth < own.birth
          → met older ≡ awaits kept.disc own call older
      waits older open_one first =
          meets-first system kept known c i request call asks own older is e
          (apart-of older open_one first)

      pub holder-found : (found : Foreseen) → Foresees found kept.disc own call
          → IsOlderFound system kept own (λ older. process_meets system kept own older c i)
          (older_holder own found)
      holder-found (foreseen.Done status) h = λ older found.
          refutes (sym (waits older found.is_open found.first) ∙ found.meets)
          (none-awaited system kept known c i request call asks own is older h.0)
      holder-found (foreseen.Conflict holder) h = by-birth (nat_lt holder.birth own.birth) refl
        where
          by-birth : (b : Bool) → nat_lt holder.birth own.birth ≡ b
              → IsOlderFound system kept own (λ older. process_meets system kept own older c i)
              (cond b (Some holder) None)
          by-birth true below =
              let open_one = holder-open system kept known c i request call asks own is holder h in
              let first = ltb-true holder.birth own.birth below in
              record {
                is_open = open_one;
                first = first;
                meets = waits holder open_one first
                    ∙ holder-awaited system kept known c i request call asks own is holder h;
              }
          by-birth false above = λ older found.
              let low : holder.birth ≤ older.birth =
              none-older system kept known c i request call asks own is holder older h found.is_open
              (sym (waits older found.is_open found.first) ∙ found.meets) in
              let first = found.first in
              let below : holder.birth < own.birth = omega (arith, low, first) in
              refutes (lt-ltb holder.birth own.birth below) above

    -- ---- it works for another one

    -- which has an open unit
    pub never-none : unit_told request.terminal (kept.disc.units request.terminal) ≡ None → ⊥
    never-none none =
        none-some (sym none ∙ (works-for system kept known c i request call asks).open_unit)

    module _ (other : request.terminal ≢ own.terminal) (worker : unit.Unit)
        (its : IsUnit system kept worker)
        (e : request.terminal ≡ worker.terminal) where
      pub worker-found : worker.birth < own.birth → awaits kept.disc worker call own ≡ true
          → IsOlder system kept own (λ older. process_meets system kept own older c i) worker
      worker-found first waits_for = record {
        is_open = its;
        first = first;
        meets = meets-second system kept known c i request call asks own worker its e
            (apart-of worker its first) ∙ waits_for;
      }

      -- where it meets an older one, that is its own unit
      is-worker : (older : unit.Unit) → IsOlder system kept own met older
          → request.terminal ≡ older.terminal → older ≡ worker
      is-worker older h same = same-unit system kept older worker h.is_open its (sym same ∙ e)

      neither : (older : unit.Unit) → IsOlder system kept own met older
          → (request.terminal ≡ older.terminal → ⊥) → ⊥
      neither older h differs =
          refutes h.meets
          (meets-neither system kept known c i request call asks own older (λ same. other same) differs)

      pub worker-younger : own.birth ≤ worker.birth
          → IsOlderFound system kept own (λ older. process_meets system kept own older c i) None
      worker-younger young older h =
          neither older h (λ same.
          let first = h.first in
          let births : older.birth ≡ worker.birth =
          ap (λ (u : unit.Unit). u.birth) (is-worker older h same) in
          absurd (omega (arith, young, first, births)))

      pub worker-calm : awaits kept.disc worker call own ≡ false
          → IsOlderFound system kept own (λ older. process_meets system kept own older c i) None
      worker-calm calm older h =
          neither older h (λ same.
          refutes
          (sym (meets-second system kept known c i request call asks own older h.is_open same
          (apart-of older h.is_open h.first)) ∙ h.meets)
          (ap (λ u. awaits kept.disc u call own) (is-worker older h same) ∙ calm))
