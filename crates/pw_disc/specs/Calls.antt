-- The calls of a disc, each as one value, and what they come to.
use Rattle.std.specs.Prelude.{◌≡◌, ◌≢◌, ℕ, Bool, true, false, List, [], All, Result, Ok, Err}
use Rattle.pw_disc.specs.declared.call.DiscCall.{DiscCall}
use Rattle.pw_disc.specs.declared.call.DiscCall.TheVariants.{Begin, Operate, Commit, BackOut}
use Rattle.pw_disc.specs.Format.{IsMessageOf}
use Rattle.pw_tmf.specs.Answers.{Operates}
use Rattle.pw_base.specs.declared.memory.Memory.{Memory}
use Rattle.pw_tmf.specs.declared.answer.DiscFault.{DiscFault}
use Rattle.pw_tmf.specs.declared.answer.FileAnswer.{FileAnswer}
use Rattle.pw_tmf.specs.declared.answer.FileAnswer.TheVariants as answer
use Rattle.pw_tmf.specs.Operation.{IsCall}
use Rattle.pw_tmf.specs.Told.{Told}
use Rattle.pw_tmf.specs.Units.{HaveDistinctTerminals, CanBackOut, CanBegin, IsRunning, after_commit, all_backed_out, begun}
use Rattle.pw_disc.specs.declared.outcome.DiscOutcome.{DiscOutcome}
use Rattle.pw_disc.specs.declared.outcome.DiscOutcome.TheVariants as outcome

-- the conditions of a call
abbrev pub CanMake : Told → DiscCall → Type 0
CanMake told (Begin unit) = CanBegin told unit
CanMake told (Operate unit call) = IsRunning told unit × IsCall told call
CanMake told (Commit unit reply) = IsRunning told unit
CanMake told (BackOut units ends) = (units ≢ []) × HaveDistinctTerminals units × All (CanBackOut ends told) units

-- the bytes are the message of a call that meets them
pub record IsMessageFor (told : Told) (message : List ℕ) : Type 0 where
  pub call : DiscCall
  pub is : IsMessageOf message call
  pub can : CanMake told call

-- what a call makes of what is told, and what it comes to
abbrev pub Makes : DiscOutcome → Told → DiscCall → Told → Type 0
Makes outcome.Done old (Begin unit) new = new ≡ begun old unit
Makes outcome.Done old (Operate unit call) new = ⊥
Makes outcome.Done old (Commit unit reply) new = new ≡ after_commit old unit reply
Makes outcome.Done old (BackOut units ends) new = new ≡ all_backed_out ends old units
Makes (outcome.Operated status content) old (Operate unit call) new = Operates (answer.Done status content) old unit call new
Makes (outcome.Operated status content) old _ new = ⊥
Makes (outcome.Conflict holder) old (Operate unit call) new = Operates (answer.Conflict holder) old unit call new
Makes (outcome.Conflict holder) old _ new = ⊥

-- the call was done
abbrev pub is_done : DiscOutcome → Bool
is_done (outcome.Conflict holder) = false
is_done _ = true

-- it comes to what an operation does
abbrev pub IsAnswer : DiscOutcome → FileAnswer → Type 0
IsAnswer outcome.Done result = ⊥
IsAnswer (outcome.Operated status content) result = result ≡ answer.Done status content
IsAnswer (outcome.Conflict holder) result = result ≡ answer.Conflict holder

-- it is of an operation
abbrev pub is_operation : DiscOutcome → Bool
is_operation outcome.Done = false
is_operation _ = true

-- what a member's answer comes to, which does not fail
abbrev pub came_of : Result (Unit {0}) DiscFault → Result DiscOutcome Memory
came_of (Ok done) = Ok outcome.Done
came_of (Err fault) = Err (record {})

-- what came of an operation of a member: a disc in memory answers no fault but want of memory
abbrev pub came_of_operation : FileAnswer → Result DiscOutcome Memory
came_of_operation (answer.Done status content) = Ok (outcome.Operated status content)
came_of_operation (answer.Conflict holder) = Ok (outcome.Conflict holder)
came_of_operation _ = Err (record {})
