-- What is kept stands for the same state where a kept context has run on to its next verb.
use Rattle.std.proofs.Common.{◌≡◌, ℕ, List, Option, Some, None, map, refl, sym, ap, subst, ◌∙◌}
use Rattle.std.specs.Prelude.{slice_get}
use Rattle.pw_code.specs.declared.context.Context.{Context}
use Rattle.pw_code.specs.declared.system.ClassInfo.{ClassInfo}
use Rattle.pw_code.specs.declared.system.System.{System}
use Rattle.pw_code.specs.declared.system.TermInfo.{TermInfo}
use Rattle.pw_code.specs.declared.verb.Verb.{Verb}
use Rattle.pw_event.specs.declared.script.FailLine.{FailLine}
use Rattle.pw_code_meaning.specs.Answers.{put}
use Rattle.pw_code_meaning.specs.Config.{Config, closed, starting_server}
use Rattle.pw_code_meaning.specs.Contexts.{RanToVerb, RunsOn}
use Rattle.pw_code_meaning.specs.OfSystem.{file_told}
use Rattle.pw_code_meaning.specs.Runs.{at_verb}
use Rattle.pw_code_meaning.specs.Steps.{step, verb_of}
use Rattle.pw_code_meaning.proofs.RunLemmas as lemmas
use Rattle.pw_world_state.specs.Arrivals.{StandsForPath}
use Rattle.pw_world_state.specs.Asked.{verb_in}
use Rattle.pw_world_state.specs.Changes.{kept_ran, with_job}
use Rattle.pw_world_state.specs.Kept.{Kept}
use Rattle.pw_world_state.specs.Stands.{Stands, StandsForJob, StandsForKnown, StandsIfAny}
use Rattle.pw_world_state.proofs.Answered.{ran}
use Rattle.pw_world_state.proofs.Arrived.{runs-on}
use Rattle.pw_world_state.proofs.Behind.{open-closed}
use Rattle.pw_world_state.proofs.Served.{ran-job}
use Rattle.pw_paired.specs.State.{Job, State}
use Rattle.pw_paired.specs.Terminal.{path_of}

-- the verb of a context that has run on
asks : (system : System) (c : Config) (new : Context) (verb : Verb) → RanToVerb system c new verb → verb_in system new ≡ verb
asks system c new verb r = ap (verb_in system) r.is ∙ (ap (verb_of system) (open-closed r.at) ∙ sym r.asks)

module _ (system : System) (script : List FailLine) (state : State) (kept : Kept) (stands : Stands system script state kept) where
  module _ (t : ℕ) (info : TermInfo) (old new : Context) (verb : Verb) (here : slice_get system.terminals t ≡ Some info) (is : (kept.terminals t).context ≡ Some old) (on : RunsOn system old new verb) where
    own : StandsForPath system info (path_of state t) old
    own = subst (StandsForKnown system info (path_of state t)) is (stands.terminals t info here).path

    pub terminal-on : Stands system script state (kept_ran t new kept)
    terminal-on = ran system script state kept t info new stands here (runs-on system info (path_of state t) old new verb own on)

    pub terminal-asks : verb_in system new ≡ verb
    terminal-asks = asks system own.at new verb (on own.at own.is)

  module _ (c i : ℕ) (info : ClassInfo) (old new : Context) (verb : Verb) (here : slice_get system.classes c ≡ Some info) (is : kept.jobs c i ≡ Some old) (on : RunsOn system old new verb) where
    job-on : (job : Job) → StandsForJob system info job old → StandsForJob system info job new
    job-on job one =
        let r : RanToVerb system one.at new verb = on one.at one.is in
        record {
          at = r.at;
          comes = lemmas.runs_on at_verb (step system) (put system) (starting_server system info.server job.request.message) one.at r.at (map file_told job.done) one.comes r.reaches.0;
          is = r.is;
        }

    by : (o : Option Job) → (state.classes c).busy i ≡ o → StandsIfAny (StandsForJob system info) o (Some old) → Stands system script state (with_job c i (Some new) kept) × (verb_in system new ≡ verb)
    by (Some job) works one = (ran-job system script state kept c i info job new stands here works (job-on job one), asks system one.at new verb (on one.at one.is))
    by None idle one = absurd one

    both : Stands system script state (with_job c i (Some new) kept) × (verb_in system new ≡ verb)
    both = by ((state.classes c).busy i) refl (subst (StandsIfAny (StandsForJob system info) ((state.classes c).busy i)) is ((stands.classes c info here).works_on i))

    pub process-on : Stands system script state (with_job c i (Some new) kept)
    process-on = both.0

    pub process-asks : verb_in system new ≡ verb
    process-asks = both.1
