-- The clauses of a field, one after the other.
use Rattle.std.proofs.Common.{◌≡◌, ℕ, zero, suc, ◌<◌, ◌≤◌, true, false, List, length, Option, Some, None, refl, sym, ap, ◌∙◌, arith}
use Rattle.pw_text.specs.Cursor.{Left}
use Rattle.pw_data.specs.Clauses.{is_end}
use Rattle.pw_data.specs.Layouts.{Laid}
use Rattle.pw_data.proofs.Readings.{some-left}
use Rattle.pw_screen.specs.declared.clauses.Clause.{Clause}
use Rattle.pw_screen.specs.declared.clauses.Clauses.{Clauses}
use Rattle.pw_screen.specs.Clauses.{added, one_clause, clauses_from}

module _ (text : List ℕ) (laid : Laid) where
  -- one clause is read
  pub clauses-step : (turns : ℕ) (found : Clauses) (left rest : Left) (one : Clause) → is_end left.tokens ≡ false → one_clause left ≡ Some (one, rest)
      → clauses_from text laid (suc turns) found left ≡ clauses_from text laid turns (added text laid found one) rest
  unfolding clauses_from
  clauses-step turns found left rest one end is = rw (end, is) refl

  -- there is no clause
  pub clauses-none : (turns : ℕ) (found : Clauses) (left : Left) → is_end left.tokens ≡ false → one_clause left ≡ None → clauses_from text laid turns found left ≡ None
  unfolding clauses_from
  clauses-none zero found left end is = refl
  clauses-none (suc turns) found left end is = rw (end, is) refl

  -- a period is left
  pub clauses-end : (turns : ℕ) (found : Clauses) (left : Left) → is_end left.tokens ≡ true → length left.tokens ≤ turns → clauses_from text laid turns found left ≡ Some found
  unfolding clauses_from
  clauses-end zero found left end enough = absurd (some-left left.tokens end enough)
  clauses-end (suc turns) found left end enough = rw end refl

  -- one clause further
  pub clauses-further : (turns : ℕ) (found next : Clauses) (left rest : Left) (one : Clause) (whole : Option Clauses) → is_end left.tokens ≡ false → one_clause left ≡ Some (one, rest) → next ≡ added text laid found one
      → length rest.tokens < length left.tokens → length left.tokens ≤ turns → clauses_from text laid turns found left ≡ whole
      → (fewer : ℕ) × (length rest.tokens ≤ fewer) × (clauses_from text laid fewer next rest ≡ whole)
  clauses-further zero found next left rest one whole end is adds shorter enough so_far = absurd (omega arith)
  clauses-further (suc turns) found next left rest one whole end is adds shorter enough so_far =
      (turns, omega arith, ap (λ c. clauses_from text laid turns c rest) adds ∙ sym (clauses-step turns found left rest one end is) ∙ so_far)
