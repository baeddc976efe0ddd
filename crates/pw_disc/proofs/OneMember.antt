-- What a call of one member comes to.
use Rattle.std.proofs.Common.{◌≡◌, ◌≤◌, subst, sym, Result, Ok, Err, List, Option, ℕ, Bool, arith}
use Rattle.std.specs.Prelude.{IfErr, IfOk, OnErr, OnOk}
use Rattle.pw_base.specs.Outside.{counted}
use Rattle.pw_base.specs.declared.memory.Memory.{Memory}
use Rattle.pw_code.specs.declared.file.FileCall.{FileCall}
use Rattle.pw_code.specs.declared.unit.Unit as unit
use Rattle.pw_disc.specs.declared.call.DiscCall.{DiscCall}
use Rattle.pw_disc.specs.declared.call.DiscCall.TheVariants.{Begin, Operate, Commit, BackOut}
use Rattle.pw_tmf.specs.Answers.{OnlyFaultsRose, Leaves, Operates}
use Rattle.pw_disc.specs.Format.{IsMessageOf}
use Rattle.pw_tmf.specs.Tmf.{TmfState, told_of}
use Rattle.pw_tmf.specs.Told.{Told}
use Rattle.pw_tmf.specs.Units.{after_commit, all_backed_out, begun}
use Rattle.pw_tmf.specs.declared.answer.DiscFault.{DiscFault}
use Rattle.pw_tmf.specs.declared.answer.DiscFault.TheVariants as fault
use Rattle.pw_tmf.specs.declared.answer.FileAnswer.{FileAnswer}
use Rattle.pw_tmf.specs.declared.answer.FileAnswer.TheVariants as answer
use Rattle.pw_disc.specs.Calls.{Makes, came_of, came_of_operation}
use Rattle.pw_disc.specs.declared.outcome.DiscOutcome.{DiscOutcome}

-- the same of a call that is that one
pub of_call : (r : Result DiscOutcome Memory) (old new : Told) (call own : DiscCall) → call ≡ own → IfOk r (λ outcome. Makes outcome old own new)
    → IfOk r (λ outcome. Makes outcome old call new)
of_call r old new call own is made = subst (λ (k : DiscCall). IfOk r (λ outcome. Makes outcome old k new)) (sym is) made

-- and of each call with the same message, where this is the only one
pub of_message : (r : Result DiscOutcome Memory) (old new : Told) (own : DiscCall) (message : List ℕ) → ((call : DiscCall) → IsMessageOf message call → call ≡ own)
    → IfOk r (λ outcome. Makes outcome old own new) → IfOk r (λ outcome. (call : DiscCall) → IsMessageOf message call → Makes outcome old call new)
of_message (Ok outcome) old new own message only made = λ call is. subst (λ (k : DiscCall). Makes outcome old k new) (sym (only call is)) made
of_message (Err memory) old new own message only made = tt

module _ (old new : TmfState) where
  -- a `Tmf` does not fail
  not_failed : OnlyFaultsRose (told_of old) (told_of new) → ⊥
  not_failed failed = let count : counted 0 ≤ 0 = failed.count in omega arith

  stays : (of : DiscFault) → Leaves of (told_of old) (told_of new) → told_of new ≡ told_of old
  stays fault.Failed leaves = absurd (not_failed leaves)
  stays fault.Memory leaves = leaves

  pub plain_err : (a : Result (Unit {0}) DiscFault) (r : Result DiscOutcome Memory) → r ≡ came_of a → IfErr a (λ of. Leaves of (told_of old) (told_of new))
      → OnErr r (told_of new ≡ told_of old)
  plain_err (Ok x) r is leaves = subst (λ (s : Result DiscOutcome Memory). OnErr s (told_of new ≡ told_of old)) (sym is) tt
  plain_err (Err of) r is leaves = subst (λ (s : Result DiscOutcome Memory). OnErr s (told_of new ≡ told_of old)) (sym is) (stays of leaves)

  pub begun_ok : (u : unit.Unit) (a : Result (Unit {0}) DiscFault) (r : Result DiscOutcome Memory) → r ≡ came_of a → OnOk a (told_of new ≡ begun (told_of old) u)
      → IfOk r (λ outcome. Makes outcome (told_of old) (Begin u) (told_of new))
  begun_ok u (Ok x) r is made = subst (λ (s : Result DiscOutcome Memory). IfOk s (λ outcome. Makes outcome (told_of old) (Begin u) (told_of new))) (sym is) made
  begun_ok u (Err of) r is made = subst (λ (s : Result DiscOutcome Memory). IfOk s (λ outcome. Makes outcome (told_of old) (Begin u) (told_of new))) (sym is) tt

  pub ended_ok : (u : unit.Unit) (reply : Option (List ℕ)) (a : Result (Unit {0}) DiscFault) (r : Result DiscOutcome Memory) → r ≡ came_of a
      → OnOk a (told_of new ≡ after_commit (told_of old) u reply) → IfOk r (λ outcome. Makes outcome (told_of old) (Commit u reply) (told_of new))
  ended_ok u reply (Ok x) r is made = subst (λ (s : Result DiscOutcome Memory). IfOk s (λ outcome. Makes outcome (told_of old) (Commit u reply) (told_of new))) (sym is) made
  ended_ok u reply (Err of) r is made = subst (λ (s : Result DiscOutcome Memory). IfOk s (λ outcome. Makes outcome (told_of old) (Commit u reply) (told_of new))) (sym is) tt

  pub backed_out_ok : (units : List unit.Unit) (ends : Bool) (a : Result (Unit {0}) DiscFault) (r : Result DiscOutcome Memory) → r ≡ came_of a
      → OnOk a (told_of new ≡ all_backed_out ends (told_of old) units) → IfOk r (λ outcome. Makes outcome (told_of old) (BackOut units ends) (told_of new))
  backed_out_ok units ends (Ok x) r is made = subst (λ (s : Result DiscOutcome Memory). IfOk s (λ outcome. Makes outcome (told_of old) (BackOut units ends) (told_of new))) (sym is) made
  backed_out_ok units ends (Err of) r is made = subst (λ (s : Result DiscOutcome Memory). IfOk s (λ outcome. Makes outcome (told_of old) (BackOut units ends) (told_of new))) (sym is) tt

  pub operated_ok : (u : unit.Unit) (call : FileCall) (a : FileAnswer) (r : Result DiscOutcome Memory) → r ≡ came_of_operation a
      → Operates a (told_of old) u call (told_of new) → IfOk r (λ outcome. Makes outcome (told_of old) (Operate u call) (told_of new))
  operated_ok u call (answer.Done status content) r is made =
      subst (λ (s : Result DiscOutcome Memory). IfOk s (λ outcome. Makes outcome (told_of old) (Operate u call) (told_of new))) (sym is) made
  operated_ok u call (answer.Conflict holder) r is made =
      subst (λ (s : Result DiscOutcome Memory). IfOk s (λ outcome. Makes outcome (told_of old) (Operate u call) (told_of new))) (sym is) made
  operated_ok u call answer.Failed r is made =
      subst (λ (s : Result DiscOutcome Memory). IfOk s (λ outcome. Makes outcome (told_of old) (Operate u call) (told_of new))) (sym is) tt
  operated_ok u call answer.Memory r is made =
      subst (λ (s : Result DiscOutcome Memory). IfOk s (λ outcome. Makes outcome (told_of old) (Operate u call) (told_of new))) (sym is) tt

  pub operated_err : (u : unit.Unit) (call : FileCall) (a : FileAnswer) (r : Result DiscOutcome Memory) → r ≡ came_of_operation a
      → Operates a (told_of old) u call (told_of new) → OnErr r (told_of new ≡ told_of old)
  operated_err u call (answer.Done status content) r is made = subst (λ (s : Result DiscOutcome Memory). OnErr s (told_of new ≡ told_of old)) (sym is) tt
  operated_err u call (answer.Conflict holder) r is made = subst (λ (s : Result DiscOutcome Memory). OnErr s (told_of new ≡ told_of old)) (sym is) tt
  operated_err u call answer.Failed r is made = absurd (not_failed made)
  operated_err u call answer.Memory r is made = subst (λ (s : Result DiscOutcome Memory). OnErr s (told_of new ≡ told_of old)) (sym is) made
