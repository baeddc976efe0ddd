-- What a call leaves of a pair that its script cannot lose.
use Rattle.std.proofs.Common.{◌≡◌, ◌≢◌, ◌∙◌, List, [], ◌∷◌, Bool, true, false, Result, Ok, Err, drop, length, refl, sym, ap, subst, inl, inr}
use Rattle.std.specs.Prelude.{OnOk, if◌then◌else◌}
use Rattle.pw_code.specs.declared.file.FileCall.{FileCall}
use Rattle.pw_code.specs.declared.unit.Unit.{Unit as DiscUnit}
use Rattle.pw_disc.specs.Lasting.{IsLasting}
use Rattle.pw_disc.specs.Lines.{acting, disc_lines_behind, is_held_at_front, may_lose}
use Rattle.pw_disc.specs.Pair.{AfterCall, AfterOperation, RanOutOfMemory, PairState, done_with, prepared}
use Rattle.pw_disc.specs.declared.standing.DiscPairState.{DiscPairState}
use Rattle.pw_disc.specs.declared.standing.DiscPairState.TheVariants.{Two, One, Lost}
use Rattle.pw_disc.proofs.LineLemmas.{not_lost, some_less}
use Rattle.pw_disc.specs.declared.script.DiscLine.{DiscLine}
use Rattle.pw_tmf.specs.Answers.{Operates}
use Rattle.pw_tmf.specs.Told.{Told}
use Rattle.pw_tmf.specs.Units.{all_backed_out, backed_out}
use Rattle.pw_tmf.specs.declared.answer.DiscFault.{DiscFault}
use Rattle.pw_tmf.specs.declared.answer.DiscFault.TheVariants as fault
use Rattle.pw_tmf.specs.declared.answer.FileAnswer.{FileAnswer}
use Rattle.pw_tmf.specs.declared.answer.FileAnswer.TheVariants as answer

-- ---- no unit that is backed out makes the count rise

one-faults : (ends : Bool) (told : Told) (u : DiscUnit) → (backed_out ends told u).faults ≡ told.faults
one-faults true told u = refl
one-faults false told u = refl

pub backed-faults : (ends : Bool) (told : Told) (units : List DiscUnit) → (all_backed_out ends told units).faults ≡ told.faults
backed-faults ends told [] = refl
backed-faults ends told (u ∷ units) = backed-faults ends (backed_out ends told u) units ∙ one-faults ends told u

-- ---- a member is left

two-stand : Two ≢ Lost
two-stand e = absurd (cc e)

held-stands : (b : Bool) → (if b then One else Two) ≢ Lost
held-stands true e = absurd (cc e)
held-stands false e = absurd (cc e)

held-lines : (b : Bool) (lines : List DiscLine) → may_lose lines ≡ false → may_lose (if b then drop 1 lines else lines) ≡ false
held-lines true lines never = some_less 1 lines never
held-lines false lines never = never

module _ (old : PairState) (is : IsLasting old) where
  left : may_lose (disc_lines_behind old.done old.lines) ≡ false
  left = some_less (length (acting old.done old.lines)) old.lines is.lines

  done-keeps : (new : PairState) → new ≡ done_with old new.told → new.told.faults ≡ old.told.faults → IsLasting new
  done-keeps new same faults =
      let held = is_held_at_front old.done (disc_lines_behind old.done old.lines) in
      record {
        stands = λ lost. held-stands held (sym (ap (λ (p : PairState). p.standing) same) ∙ lost);
        lines = ap (λ (p : PairState). may_lose p.lines) same ∙ held-lines held (disc_lines_behind old.done old.lines) left;
        sound = faults ∙ is.sound;
      }

  short-keeps : (new : PairState) → RanOutOfMemory old new → IsLasting new
  short-keeps new (inl same) = subst IsLasting (sym same.1) is
  short-keeps new (inr made) = record {
    stands = made.1;
    lines = ap (λ (p : PairState). may_lose p.lines) made.2 ∙ left;
    sound = ap (λ (p : PairState). p.told.faults) made.2 ∙ is.sound;
  }

  pub call-keeps : (r : Result (Unit {0}) DiscFault) (new : PairState) → AfterCall r old new → OnOk r (new.told.faults ≡ old.told.faults) → IsLasting new
  call-keeps (Ok done) new after faults = done-keeps new after.1 faults
  call-keeps (Err fault.Failed) new after faults = absurd (not_lost old is.stands is.lines after.0)
  call-keeps (Err fault.Memory) new after faults = short-keeps new after

  pub operation-keeps : (a : FileAnswer) (new : PairState) (u : DiscUnit) (call : FileCall) → AfterOperation a old new → Operates a old.told u call new.told → IsLasting new
  operation-keeps (answer.Done status content) new u call after does = done-keeps new after.1 (ap (λ (t : Told). t.faults) does.2)
  operation-keeps (answer.Conflict holder) new u call after does = record {
    stands = λ lost. two-stand (sym (ap (λ (p : PairState). p.standing) after.1) ∙ lost);
    lines = ap (λ (p : PairState). may_lose p.lines) after.1 ∙ left;
    sound = ap (λ (t : Told). t.faults) does.1 ∙ is.sound;
  }
  operation-keeps answer.Failed new u call after does = absurd (not_lost old is.stands is.lines after.0)
  operation-keeps answer.Memory new u call after does = short-keeps new after
