-- In every run a context at its verb says what its path or its job says.
use Rattle.std.proofs.Common.{◌≡◌, ℕ, ◌<◌, List, Option, Some, Bool, true, false, map, length, refl, sym, ap, subst, subst₂, ◌∙◌}
use Rattle.std.specs.Prelude.{slice_get}
use Rattle.pw_code.specs.Valid.{IsValid}
use Rattle.pw_code.specs.declared.context.Context.{Context}
use Rattle.pw_code.specs.declared.system.ClassInfo.{ClassInfo}
use Rattle.pw_code.specs.declared.system.System.{System}
use Rattle.pw_code.specs.declared.system.TermInfo.{TermInfo}
use Rattle.pw_event.specs.declared.event.Event.{Event}
use Rattle.pw_event.specs.declared.script.FailLine.{FailLine}
use Rattle.pw_code_meaning.specs.Config.{closed, starting_server}
use Rattle.pw_code_meaning.specs.Counts.{CountsOf}
use Rattle.pw_code_meaning.specs.OfSystem.{behaviour, file_told, operation_of}
use Rattle.pw_code_meaning.specs.Steps.{verb_of}
use Rattle.pw_code_meaning.proofs.Bounds.{after_server}
use Rattle.pw_code_meaning.proofs.Counting.{HasCountsOf, asks-it, counts-of, follows}
use Rattle.pw_world_state.specs.Arrivals.{IsReady, StandsForPath}
use Rattle.pw_world_state.specs.Asked.{SaysOf, verb_in}
use Rattle.pw_world_state.specs.Kept.{Kept}
use Rattle.pw_world_state.specs.Stands.{IsReadyIfAny, Stands, StandsForJob, StandsIfAny}
use Rattle.pw_world_state.specs.Tested.{IsAsking, IsPlaced, IsServing}
use Rattle.pw_world_state.proofs.Agreeing.{there-is}
use Rattle.pw_world_state.proofs.Arrived.{at-its-verb, stands-behind, stands-ready}
use Rattle.pw_world_state.proofs.Behind.{open-closed}
use Rattle.pw_world_state.proofs.Components.{pair-of}
use Rattle.pw_onecopy.specs.Behaviour.{Behaviour}
use Rattle.pw_onecopy.specs.IsBehaviour.{IsBehaviour, IsPath}
use Rattle.pw_onecopy.specs.Path.{PathAnswer}
use Rattle.pw_paired.specs.Raising.{is_takeover}
use Rattle.pw_paired.specs.Server.{server_verb}
use Rattle.pw_paired.specs.State.{Job, OpenUnit, State}
use Rattle.pw_paired.specs.Step.{IsRun, after}
use Rattle.pw_paired.specs.Terminal.{CanStep, path_of}
use Rattle.pw_laws.proofs.induction.Runs as runs
use Rattle.pw_laws.proofs.kept.Kept.{Inv}
use Rattle.pw_laws.proofs.requests.Requests.{Sent, place_of_job, sent_of}
use Rattle.pw_laws.proofs.terms.KeepsChecks.{path_ok-is}
use Rattle.pw_laws.proofs.terms.KeepsEnds.{OutOk}

module _ (system : System) (script : List FailLine) (valid : IsValid system) (b : IsBehaviour (behaviour script system)) (log : List Event) (run : IsRun (behaviour script system) log) where
  abbrev pub sys : Behaviour
  sys = behaviour script system

  abbrev pub state : State
  state = after sys log

  pub inv : Inv sys state
  inv = runs.kept sys b log run

  -- a started terminal and its pair are there
  pub placed : (t : ℕ) → t < length system.terminals → IsPlaced system t
  placed t low =
      let found = there-is system.terminals t low in
      record {
        info = found.0;
        here = found.1;
        pair = subst (λ p. p < length system.tcps) (pair-of system script t found.0 found.1) (b.pairs t low);
      }

  -- ---- terminals

  module _ (t : ℕ) (info : TermInfo) (here : slice_get system.terminals t ≡ Some info) (path : List PathAnswer) (is_path : IsPath sys t path) (context : Context) where
    -- the counts of a context behind an answer
    pub counts-behind : StandsForPath system info path context → HasCountsOf path context
    counts-behind arrived =
        let stands = stands-behind system info path context arrived in
        let f = follows system script t info valid here path stands.at is_path stands.comes in
        subst (HasCountsOf path) (sym stands.is) f.counts

    pub says : IsReady system info path context → SaysOf sys system t path context
    says ready =
        let stands = stands-ready system info path context ready in
        let f = follows system script t info valid here path stands.at is_path stands.comes in
        let at_verb : stands.at.rest.at_verb ≡ true = ap (λ (x : Context). x.at_verb) (sym stands.is) ∙ at-its-verb system info path context ready in
        record {
          verb = ap (verb_in system) stands.is ∙ (ap (verb_of system) (open-closed stands.at) ∙ sym (asks-it system script t info valid here path stands.at stands.comes at_verb));
          counts = subst (CountsOf path) (sym stands.is) (counts-of path (closed stands.at) f.counts);
        }

  -- the path of a terminal that can step is one that its program may have
  pub stepping-path : (t : ℕ) → CanStep sys state t → IsPath sys t (path_of state t)
  stepping-path t can =
      path_ok-is _ (state.units t) ((inv.terms t can.live.known).path_ok can.live.going_on (rw can.paired tt) (ap is_takeover can.calm))

  -- so is that of one whose request is at work
  abbrev sent-by : ℕ → Job → Sent
  sent-by c job = record { class = c; request = job.request }

  out-of : (c i : ℕ) (job : Job) → (state.classes c).busy i ≡ Some job → OutOk sys state job.request.terminal (sent-by c job)
  out-of c i job works = inv.out job.request.terminal _ (ap sent_of (place_of_job inv.requests works refl))

  pub waiting-path : (c i : ℕ) (job : Job) → (state.classes c).busy i ≡ Some job → IsPath sys job.request.terminal (path_of state job.request.terminal)
  waiting-path c i job works =
      let out = out-of c i job works in
      path_ok-is _ (state.units job.request.terminal) ((inv.terms job.request.terminal out.live.known).path_ok out.live.going_on out.working (ap is_takeover out.calm))

  -- the class of a server at work is one of the system
  pub class-there : (c i : ℕ) (job : Job) → (state.classes c).busy i ≡ Some job → c < length system.classes
  class-there c i job works = b.sends job.request.terminal c job.request.message (path_of state job.request.terminal) (waiting-path c i job works) (out-of c i job works).asks

  module _ (kept : Kept) (stands : Stands system script state kept) where
    -- a program that has run on asks what its path asks
    pub asking : (t : ℕ) → IsPath sys t (path_of state t) → (context : Context) → (kept.terminals t).ready ≡ Some context → IsAsking system script state kept t
    asking t is_path context ready =
        let at = placed t is_path.known in
        record {
          placed = at;
          context = context;
          ready = ready;
          says = says t at.info at.here (path_of state t) is_path context (subst (IsReadyIfAny system at.info (path_of state t)) ready (stands.terminals t at.info at.here).ready);
        }

    -- ---- servers

    pub serving : (c i : ℕ) (job : Job) → (state.classes c).busy i ≡ Some job → (context : Context) → kept.jobs c i ≡ Some context → context.at_verb ≡ true → IsServing system script state kept c i
    serving c i job works context ready at_verb =
        let out = out-of c i job works in
        let found = there-is system.classes c (class-there c i job works) in
        let stands_for : StandsForJob system found.0 job context =
        subst₂ (λ one other. StandsIfAny (StandsForJob system found.0) one other) works ready ((stands.classes c found.0 found.1).works_on i) in
        let at : stands_for.at.rest.at_verb ≡ true = ap (λ (x : Context). x.at_verb) (sym stands_for.is) ∙ at_verb in
        record {
          info = found.0;
          here = found.1;
          job = job;
          works = works;
          context = context;
          ready = ready;
          at_verb = at_verb;
          says = ap (verb_in system) stands_for.is
              ∙ (ap (verb_of system) (open-closed stands_for.at)
              ∙ (ap (verb_of system) (sym (after_server system found.0.server job.request.message (map file_told job.done) stands_for.at valid stands_for.comes at))
              ∙ ap (λ o. operation_of system o job.request.message job.done) (sym found.1)));
          own = out.unit;
          is_open = out.is_open;
          start = out.start;
          runs = out.runs;
        }
