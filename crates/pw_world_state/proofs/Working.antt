-- What is kept behind a TAKE, a FILE and a REPLY stands for the state behind it.
use Rattle.std.proofs.Common.{◌≡◌, ℕ, List, [], ◌∷◌, ◌++◌, map, Option, Some, None, Bool, true, false, cond, refl, sym, ap, ap₂, subst, ◌∙◌}
use Rattle.std.specs.Prelude.{slice_get}
use Rattle.std.proofs.lemmas.List.{map-append}
use Rattle.pw_base.proofs.Plain.{some_is}
use Rattle.pw_class.specs.Queue.{Queue}
use Rattle.pw_code.specs.declared.context.Context.{Context}
use Rattle.pw_code.specs.declared.file.FileCall.{FileCall}
use Rattle.pw_code.specs.declared.file.FileOp.{FileOp}
use Rattle.pw_code.specs.declared.lock.LockMode.{LockMode}
use Rattle.pw_code.specs.declared.system.ClassInfo.{ClassInfo}
use Rattle.pw_code.specs.declared.system.System.{System}
use Rattle.pw_code.specs.declared.verb.Answer.TheVariants as answer
use Rattle.pw_code.specs.declared.verb.Verb.TheVariants as verb
use Rattle.pw_event.specs.declared.script.FailLine.{FailLine}
use Rattle.pw_code_meaning.specs.Answers.{put}
use Rattle.pw_code_meaning.specs.Config.{starting_server}
use Rattle.pw_code_meaning.specs.OfSystem.{behaviour, file_told}
use Rattle.pw_code_meaning.specs.Runs.{StandsForFiles, at_verb}
use Rattle.pw_code_meaning.specs.Steps.{step}
use Rattle.pw_code_meaning.proofs.RunLemmas as lemmas
use Rattle.pw_world_state.specs.Arrivals.{StandsForPath}
use Rattle.pw_world_state.specs.Asked.{answered_with, verb_in}
use Rattle.pw_world_state.specs.Changes.{free_process, kept_file, kept_take, unit_at, without_unit}
use Rattle.pw_world_state.specs.Entered.{answer_on, entered_file, entered_reply, entered_take, file_at, file_by, is_outside_at, replies_last, replies_to, reply_by, started_on, unit_of_ready}
use Rattle.pw_world_state.specs.Kept.{Kept}
use Rattle.pw_world_state.specs.Stands.{Stands, StandsForJob, StandsIfAny}
use Rattle.pw_world_state.specs.Tested.{IsAsking, IsServing}
use Rattle.pw_world_state.proofs.Behind.{answering-is, behind, takes-one}
use Rattle.pw_world_state.proofs.Replying.{failed-reply, replied, replied-last}
use Rattle.pw_world_state.proofs.Served.{file-stands, take-stands}
use Rattle.pw_world_state.proofs.Serving.{at-work}
use Rattle.pw_onecopy.specs.Operation.{answer_of}
use Rattle.pw_onecopy.specs.Path.{Failed, FileResult, Replied, is_outside, unit_number}
use Rattle.pw_onecopy.specs.Update.{upd}
use Rattle.pw_paired.specs.Server as paired
use Rattle.pw_paired.specs.Server.{LegalFile, LegalTake, do_file, do_reply, do_take, reply_at, reply_of, server_verb, with_answer}
use Rattle.pw_paired.specs.State.{Job, State}
use Rattle.pw_paired.specs.Terminal.{path_of}
use Rattle.pw_tmf.specs.Units.{after_commit}

-- a server goes on with an answer
goes-on : (system : System) (info : ClassInfo) (job : Job) (context : Context) (found : FileResult) → StandsForJob system info job context → context.at_verb ≡ true
    → StandsForJob system info (with_answer found job) (answered_with system (file_told found) context)
goes-on system info job context found stands asks =
    subst (λ answers. StandsForFiles system info.server job.request.message answers (answered_with system (file_told found) context)) (sym (map-append file_told job.done (found ∷ [])))
    (record {
      at = put system (file_told found) stands.at;
      comes = lemmas.answers_on at_verb (step system) (put system) (starting_server system info.server job.request.message) stands.at (map file_told job.done) (file_told found) stands.comes
          (ap (λ (x : Context). x.at_verb) (sym stands.is) ∙ asks);
      is = takes-one system (file_told found) context stands.at stands.is;
    })

module _ (system : System) (script : List FailLine) (state : State) (kept : Kept) (stands : Stands system script state kept) where
  pub take-enters : (c i t : ℕ) (info : ClassInfo) → slice_get system.classes c ≡ Some info → LegalTake (behaviour script system) state c i t
      → Stands system script (do_take c i state) (entered_take system c i kept)
  take-enters c i t info here legal =
      let first : (kept.queues c).waiting ≡ legal.request ∷ legal.others = ap (λ (q : Queue). q.waiting) (stands.classes c info here).queue_is ∙ legal.first in
      subst (λ new. Stands system script (do_take c i state) (kept_take c i new kept)) (sym (ap₂ (started_on system) here first))
      (take-stands system script state kept c i info legal.request legal.others _ stands here legal.first legal.free
      (record { at = starting_server system info.server legal.request.message; comes = (0, refl); is = refl }))

  module _ (c i : ℕ) (serving : IsServing system script state kept c i) where
    -- what a server's context stands for
    job-stands : StandsForJob system serving.info serving.job serving.context
    job-stands =
        both ((state.classes c).busy i) (kept.jobs c i) ((stands.classes c serving.info serving.here).works_on i) serving.works serving.ready
      where
        both : (job : Option Job) (context : Option Context) → StandsIfAny (StandsForJob system serving.info) job context → job ≡ Some serving.job → context ≡ Some serving.context → StandsForJob system serving.info serving.job serving.context
        both None context h e f = absurd (cc e)
        both (Some job) None h e f = absurd (cc f)
        both (Some job) (Some context) h e f = subst (λ x. StandsForJob system serving.info x serving.context) (some_is e) (subst (StandsForJob system serving.info job) (some_is f) h)

    answer-same : (call : FileCall) → answer_on kept call ≡ paired.answer_on (behaviour script system) state call
    answer-same call = ap₂ (λ (k : ℕ → ℕ) (f : ℕ → List (List ℕ)). answer_of (k call.file) (f call.file) call.op call) stands.disc.keys stands.disc.files

    pub file-enters : (op : FileOp) (mode : LockMode) (f status : ℕ) → LegalFile (behaviour script system) state c i op mode f status → Stands system script (do_file (behaviour script system) c i state) (entered_file system c i kept)
    file-enters op mode f status legal =
        let same : legal.job ≡ serving.job = some_is (sym legal.at_work ∙ serving.works) in
        let asks : server_verb (behaviour script system) c serving.job ≡ verb.File legal.call = ap (server_verb (behaviour script system) c) (sym same) ∙ legal.asks in
        subst (λ o. Stands system script (do_file (behaviour script system) c i state) (file_by system c i o kept)) (sym serving.ready)
        (subst (λ r. Stands system script (do_file (behaviour script system) c i state) (file_at system c i r serving.context (verb_in system serving.context) kept)) (sym (at-work system script state kept stands c i serving))
        (subst (λ v. Stands system script (do_file (behaviour script system) c i state) (file_at system c i (Some serving.job.request) serving.context v kept)) (sym (serving.says ∙ asks))
        (subst (λ a. Stands system script (do_file (behaviour script system) c i state) (kept_file c i serving.job.request legal.call (answered_with system (file_told a) serving.context) kept)) (sym (answer-same legal.call))
        (file-stands system script state kept c i serving.info serving.job legal.call serving.own serving.start _ stands serving.here serving.works asks serving.is_open serving.runs
        (goes-on system serving.info serving.job serving.context (paired.answer_on (behaviour script system) state legal.call) job-stands serving.at_verb)))))

    module _ (t : ℕ) (asking : IsAsking system script state kept t) where
      reply-is : reply_by system (kept.jobs c i) ≡ reply_at (behaviour script system) c ((state.classes c).busy i)
      reply-is = ap (reply_by system) serving.ready ∙ (ap reply_of serving.says ∙ ap (reply_at (behaviour script system) c) (sym serving.works))

      outside-is : is_outside_at (kept.terminals t).ready ≡ is_outside (path_of state t)
      outside-is = ap is_outside_at asking.ready ∙ asking.says.counts.outside

      unit-is : unit_of_ready (kept.terminals t).ready ≡ unit_number (path_of state t)
      unit-is = ap unit_of_ready asking.ready ∙ asking.says.counts.unit

      pub fault-enters : (x : ℕ) → Stands system script (do_reply (behaviour script system) c i t (Some x) state) (entered_reply system c i t (Some x) kept)
      fault-enters x =
          subst (λ own. Stands system script (do_reply (behaviour script system) c i t (Some x) state) (record (free_process c i kept) { terminals = upd kept.terminals t own })) (sym (answering-is system script state kept t stands asking (answer.Failed x)))
          (failed-reply system script state kept c i serving.info serving.job stands serving.here serving.works t asking.placed.info asking.placed.here _ x (behind system script state kept t stands asking (Failed x)))

      within-enters : (reply : List ℕ) → reply ≡ reply_at (behaviour script system) c ((state.classes c).busy i) → is_outside (path_of state t) ≡ false
          → Stands system script (do_reply (behaviour script system) c i t None state) (replies_to system c i t reply kept)
      within-enters reply is inside =
          subst (λ own. Stands system script (do_reply (behaviour script system) c i t None state) (record (free_process c i kept) { terminals = upd kept.terminals t own })) (sym (answering-is system script state kept t stands asking (answer.Replied reply)))
          (replied system script state kept c i serving.info serving.job stands serving.here serving.works t asking.placed.info asking.placed.here _ inside
          (subst (λ r. StandsForPath system asking.placed.info (path_of state t ++ Replied r ∷ []) (answered_with system (answer.Replied reply) asking.context)) is (behind system script state kept t stands asking (Replied reply))))

      last-enters : (reply : List ℕ) → reply ≡ reply_at (behaviour script system) c ((state.classes c).busy i) → is_outside (path_of state t) ≡ true
          → Stands system script (do_reply (behaviour script system) c i t None state) (replies_last system c i t (unit_number (path_of state t)) reply kept)
      last-enters reply is outside =
          subst (λ own. Stands system script (do_reply (behaviour script system) c i t None state) (record (free_process c i kept) { terminals = upd kept.terminals t (without_unit own); disc = after_commit kept.disc (unit_at kept t (unit_number (path_of state t))) (Some reply) })) (sym (answering-is system script state kept t stands asking (answer.Replied reply)))
          (replied-last system script state kept c i serving.info serving.job stands serving.here serving.works t asking.placed.info asking.placed.here _ reply outside is (behind system script state kept t stands asking (Replied reply)))

      pub reply-enters : Stands system script (do_reply (behaviour script system) c i t None state) (entered_reply system c i t None kept)
      reply-enters =
          subst (λ b. Stands system script (do_reply (behaviour script system) c i t None state) (cond b (replies_last system c i t (unit_of_ready (kept.terminals t).ready) (reply_by system (kept.jobs c i)) kept) (replies_to system c i t (reply_by system (kept.jobs c i)) kept))) (sym outside-is)
          (subst (λ n. Stands system script (do_reply (behaviour script system) c i t None state) (cond (is_outside (path_of state t)) (replies_last system c i t n (reply_by system (kept.jobs c i)) kept) (replies_to system c i t (reply_by system (kept.jobs c i)) kept))) (sym unit-is)
          (by (is_outside (path_of state t)) refl))
        where
          by : (b : Bool) → is_outside (path_of state t) ≡ b → Stands system script (do_reply (behaviour script system) c i t None state) (cond b (replies_last system c i t (unit_number (path_of state t)) (reply_by system (kept.jobs c i)) kept) (replies_to system c i t (reply_by system (kept.jobs c i)) kept))
          by true outside = last-enters (reply_by system (kept.jobs c i)) reply-is outside
          by false inside = within-enters (reply_by system (kept.jobs c i)) reply-is inside

      pub reply-any-enters : (fault : Option ℕ) → Stands system script (do_reply (behaviour script system) c i t fault state) (entered_reply system c i t fault kept)
      reply-any-enters None = reply-enters
      reply-any-enters (Some x) = fault-enters x
