-- Each context that is kept is sound.
use Rattle.std.proofs.Common.{◌≡◌, ℕ, ◌<◌, List, Option, Some, None, map, length, refl, sym, subst, ◌∙◌}
use Rattle.std.specs.Prelude.{slice_get}
use Rattle.std.proofs.lemmas.Option.{get_or_from_slice_get, slice_get_within}
use Rattle.pw_code.specs.Valid.{IsClass, IsTerminal, IsValid}
use Rattle.pw_code.specs.declared.context.Context.{Context}
use Rattle.pw_code.specs.declared.system.ClassInfo.{ClassInfo}
use Rattle.pw_code.specs.declared.system.System.{System}
use Rattle.pw_code.specs.declared.system.TermInfo.{TermInfo}
use Rattle.pw_event.specs.declared.script.FailLine.{FailLine}
use Rattle.pw_code_meaning.specs.OfSystem.{file_told, told}
use Rattle.pw_code_meaning.specs.Sound.{IsSoundContext}
use Rattle.pw_code_meaning.proofs.Sizes.{sound-stands}
use Rattle.pw_code_meaning.proofs.SizesOfServers.{server-stands}
use Rattle.pw_world_state.specs.Arrivals.{IsReady, StandsForPath}
use Rattle.pw_world_state.specs.Kept.{Kept}
use Rattle.pw_world_state.specs.Stands.{IsReadyIfAny, Stands, StandsForJob, StandsForKnown, StandsIfAny}
use Rattle.pw_world_state.proofs.Arrived.{stands-behind, stands-ready}
use Rattle.pw_onecopy.specs.Path.{PathAnswer}
use Rattle.pw_paired.specs.State.{Job, State}
use Rattle.pw_paired.specs.Units.{attempt_of}

program-known : (system : System) → IsValid system → (t : ℕ) (info : TermInfo) → slice_get system.terminals t ≡ Some info → info.program < length system.programs
program-known system valid t info here =
    (subst (IsTerminal system) (get_or_from_slice_get system.terminals t info info here) (valid.terminals t info (slice_get_within system.terminals t info here))).program

server-known : (system : System) → IsValid system → (c : ℕ) (info : ClassInfo) → slice_get system.classes c ≡ Some info → info.server < length system.servers
server-known system valid c info here =
    (subst (IsClass system) (get_or_from_slice_get system.classes c info info here) (valid.classes c info (slice_get_within system.classes c info here))).server

module _ (system : System) (valid : IsValid system) (t : ℕ) (info : TermInfo) (here : slice_get system.terminals t ≡ Some info) where
  pub path-sound : (path : List PathAnswer) (context : Context) → StandsForPath system info path context → IsSoundContext system context
  path-sound path context stands =
      sound-stands system info.program (map (told info.entries) path) context valid (program-known system valid t info here) (stands-behind system info path context stands)

  ready-sound : (path : List PathAnswer) (context : Context) → IsReady system info path context → IsSoundContext system context
  ready-sound path context ready =
      sound-stands system info.program (map (told info.entries) path) context valid (program-known system valid t info here) (stands-ready system info path context ready)

  start-sound : (attempt : Option (List PathAnswer)) (context : Context) → StandsIfAny (StandsForPath system info) attempt (Some context) → IsSoundContext system context
  start-sound (Some path) context stands = path-sound path context stands
  start-sound None context stands = absurd stands

module _ (system : System) (script : List FailLine) (state : State) (kept : Kept) (valid : IsValid system) (stands : Stands system script state kept) where
  pub kept-sound : (t : ℕ) (info : TermInfo) (context : Context) → slice_get system.terminals t ≡ Some info → (kept.terminals t).context ≡ Some context → IsSoundContext system context
  kept-sound t info context here is = path-sound system valid t info here (state.terms t).path context (subst (StandsForKnown system info (state.terms t).path) is (stands.terminals t info here).path)

  pub ready-kept-sound : (t : ℕ) (info : TermInfo) (context : Context) → slice_get system.terminals t ≡ Some info → (kept.terminals t).ready ≡ Some context → IsSoundContext system context
  ready-kept-sound t info context here is = ready-sound system valid t info here (state.terms t).path context (subst (IsReadyIfAny system info (state.terms t).path) is (stands.terminals t info here).ready)

  pub start-kept-sound : (t : ℕ) (info : TermInfo) (context : Context) → slice_get system.terminals t ≡ Some info → (kept.terminals t).start ≡ Some context → IsSoundContext system context
  start-kept-sound t info context here is =
      start-sound system valid t info here (attempt_of (state.units t)) context (subst (StandsIfAny (StandsForPath system info) (attempt_of (state.units t))) is (stands.terminals t info here).start)

  pub job-sound : (c i : ℕ) (info : ClassInfo) (context : Context) → slice_get system.classes c ≡ Some info → kept.jobs c i ≡ Some context → IsSoundContext system context
  job-sound c i info context here is = by ((state.classes c).busy i) (subst (StandsIfAny (StandsForJob system info) ((state.classes c).busy i)) is ((stands.classes c info here).works_on i))
    where
      by : (o : Option Job) → StandsIfAny (StandsForJob system info) o (Some context) → IsSoundContext system context
      by (Some job) one = server-stands system info.server job.request.message (map file_told job.done) context valid (server-known system valid c info here) one
      by None one = absurd one
