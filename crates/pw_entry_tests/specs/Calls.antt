-- The verb at which a server stands, and the operation on a file that it asks.
use Rattle.std.specs.Prelude.{◌≡◌, ◌==◌, ℕ, Bool, true, false, Option, Some, None}
use Rattle.pw_class.specs.Queue.{at_process}
use Rattle.pw_class.specs.declared.request.Request.{Request}
use Rattle.pw_code.specs.declared.context.Context.{Context}
use Rattle.pw_code.specs.declared.file.FileCall.{FileCall}
use Rattle.pw_code.specs.declared.system.System.{System}
use Rattle.pw_code.specs.declared.verb.Verb.{Verb}
use Rattle.pw_code.specs.declared.verb.Verb.TheVariants as verb
use Rattle.pw_world_state.specs.Asked.{verb_in}
use Rattle.pw_world_state.specs.Kept.{Kept}
use Rattle.pw_tmf.specs.declared.answer.Foreseen.{Foreseen}
use Rattle.pw_tmf.specs.declared.answer.Foreseen.TheVariants as foreseen

-- a server works in the process, and stands at this verb
pub record IsAtVerb (system : System) (kept : Kept) (c i : ℕ) (v : Verb) : Type 0 where
  pub context : Context
  pub job : kept.jobs c i ≡ Some context
  pub at_verb : context.at_verb ≡ true
  pub asks : verb_in system context ≡ v

-- it stands at this one, or at none
abbrev pub IsVerbAt : System → Kept → ℕ → ℕ → Option Verb → Type 0
IsVerbAt system kept c i None = (v : Verb) → IsAtVerb system kept c i v → ⊥
IsVerbAt system kept c i (Some v) = IsAtVerb system kept c i v

-- the process works on the request, and its server stands at the operation
pub record AsksCall (system : System) (kept : Kept) (c i : ℕ) (request : Request) (call : FileCall) : Type 0 where
  pub works : at_process (kept.queues c) i ≡ Some request
  pub stands : IsAtVerb system kept c i (verb.File call)

-- it stands at this one, or at none
abbrev pub IsCallFound : System → Kept → ℕ → ℕ → Option (Request × FileCall) → Type 0
IsCallFound system kept c i None = (request : Request) (call : FileCall) → AsksCall system kept c i request call → ⊥
IsCallFound system kept c i (Some found) = AsksCall system kept c i found.0 found.1

-- the operation at which a verb stands, if it does
abbrev pub call_in : Option Verb → Option FileCall
call_in (Some (verb.File call)) = Some call
call_in _ = None

-- what is foreseen is that the operation is done with this status
abbrev pub is_done : Foreseen → ℕ → Bool
is_done (foreseen.Done found) status = status == found
is_done (foreseen.Conflict holder) status = false
