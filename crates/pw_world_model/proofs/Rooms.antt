-- The contexts that a world keeps are sound and have room.
use Rattle.std.proofs.Common.{◌≡◌, ℕ, ◌<◌, ◌≤◌, ◌&&◌, List, map, length, Option, Some, None, Bool, true, false, refl, sym, subst, ◌∙◌, arith}
use Rattle.std.specs.Prelude.{if◌then◌else◌, slice_get}
use Rattle.std.proofs.lemmas.Bool.{ltb-true}
use Rattle.std.proofs.lemmas.List.{length-map}
use Rattle.std.proofs.lemmas.Option.{slice_get_within}
use Rattle.pw_base.proofs.Plain.{some_is}
use Rattle.pw_code.specs.declared.context.Context.{Context}
use Rattle.pw_code.specs.declared.system.ClassInfo.{ClassInfo}
use Rattle.pw_code.specs.declared.system.TermInfo.{TermInfo}
use Rattle.pw_code_meaning.specs.OfSystem.{file_told, processes_by, told}
use Rattle.pw_code_meaning.specs.Sound.{IsSoundContext}
use Rattle.pw_world_state.specs.Arrivals.{StandsForPath}
use Rattle.pw_world_state.specs.Asked.{SaysOf}
use Rattle.pw_world_state.specs.Stands.{IsReadyIfAny, StandsForJob, StandsForKnown, StandsIfAny}
use Rattle.pw_world_state.specs.TerminalTests.{can_step}
use Rattle.pw_world_state.proofs.Agreeing.{there-is}
use Rattle.pw_world_state.proofs.Arrived.{stands-behind, stands-ready}
use Rattle.pw_world_state.proofs.PathLengths.{done-short, path-short, start-short}
use Rattle.pw_world_state.proofs.Readings as readings
use Rattle.pw_world_state.proofs.Testing.{can-same}
use Rattle.pw_world_state.proofs.Sounds.{job-sound, kept-sound, ready-kept-sound, start-kept-sound}
use Rattle.pw_laws.proofs.decided.Terminals as decided
use Rattle.pw_machine.proofs.RoomLemmas.{room_of_servers, room_of_terminals}
use Rattle.pw_machine.specs.Stack.{HasRoom}
use Rattle.pw_world_model.specs.Actors.{IsActor}
use Rattle.pw_world_model.specs.Seen.{Seen, at_answer, context_of, first_of, state_of, sys_of, work_of}
use Rattle.pw_world_model.specs.Worlds.{Books, IsWorld}
use Rattle.pw_onecopy.specs.Path.{PathAnswer}
use Rattle.pw_paired.specs.State.{Job}
use Rattle.pw_paired.specs.Terminal.{CanStep, path_of}
use Rattle.pw_paired.specs.Units.{attempt_of}
use Rattle.pw_actor_queue.specs.declared.actor.Actor.{Actor}
use Rattle.pw_actor_queue.specs.declared.actor.Actor.TheVariants as actor

module _ (world : Seen) (books : Books) (w : IsWorld world books) where
  low : (t : ℕ) (info : TermInfo) → slice_get world.system.terminals t ≡ Some info → t < length world.system.terminals
  low t info here = slice_get_within world.system.terminals t info here

  -- a path of a run is short
  few-told : (info : TermInfo) (path : List PathAnswer) → length path ≤ length world.log → length (map (told info.entries) path) < 1000000
  few-told info path short =
      let room = w.room in
      let few = w.few in
      let same : length (map (told info.entries) path) ≡ length path = length-map path (told info.entries) in
      omega (arith, short, room, few, same)

  path-few : (t : ℕ) (info : TermInfo) → slice_get world.system.terminals t ≡ Some info → length (map (told info.entries) (path_of (state_of world) t)) < 1000000
  path-few t info here = few-told info (path_of (state_of world) t) (path-short (sys_of world) w.deck world.log w.run t (low t info here))

  pub behind : (t : ℕ) (info : TermInfo) (context : Context) → slice_get world.system.terminals t ≡ Some info → (world.kept.terminals t).context ≡ Some context → IsSoundContext world.system context × HasRoom context
  behind t info context here is = (
    kept-sound world.system world.script (state_of world) world.kept w.valid w.stands t info context here is,
    room_of_terminals world.system info.program (map (told info.entries) (path_of (state_of world) t)) context
        (stands-behind world.system info (path_of (state_of world) t) context (subst (StandsForKnown world.system info (path_of (state_of world) t)) is (w.stands.terminals t info here).path))
        (path-few t info here),
  )

  pub ready : (t : ℕ) (info : TermInfo) (context : Context) → slice_get world.system.terminals t ≡ Some info → (world.kept.terminals t).ready ≡ Some context → IsSoundContext world.system context × HasRoom context
  ready t info context here is = (
    ready-kept-sound world.system world.script (state_of world) world.kept w.valid w.stands t info context here is,
    room_of_terminals world.system info.program (map (told info.entries) (path_of (state_of world) t)) context
        (stands-ready world.system info (path_of (state_of world) t) context (subst (IsReadyIfAny world.system info (path_of (state_of world) t)) is (w.stands.terminals t info here).ready))
        (path-few t info here),
  )

  pub start : (t : ℕ) (info : TermInfo) (context : Context) → slice_get world.system.terminals t ≡ Some info → (world.kept.terminals t).start ≡ Some context → IsSoundContext world.system context × HasRoom context
  start t info context here is = (
    start-kept-sound world.system world.script (state_of world) world.kept w.valid w.stands t info context here is,
    by (attempt_of ((state_of world).units t)) refl
        (subst (StandsIfAny (StandsForPath world.system info) (attempt_of ((state_of world).units t))) is (w.stands.terminals t info here).start),
  )
    where
      by : (o : Option (List PathAnswer)) → attempt_of ((state_of world).units t) ≡ o → StandsIfAny (StandsForPath world.system info) o (Some context) → HasRoom context
      by None none stands = absurd stands
      by (Some path) runs stands =
          room_of_terminals world.system info.program (map (told info.entries) path) context (stands-behind world.system info path context stands)
          (few-told info path (start-short (sys_of world) w.deck world.log w.run t path (low t info here) runs))

  pub job-room : (c i : ℕ) (info : ClassInfo) (context : Context) → slice_get world.system.classes c ≡ Some info → world.kept.jobs c i ≡ Some context → IsSoundContext world.system context × HasRoom context
  job-room c i info context here is = (
    job-sound world.system world.script (state_of world) world.kept w.valid w.stands c i info context here is,
    by (((state_of world).classes c).busy i) refl
        (subst (StandsIfAny (StandsForJob world.system info) (((state_of world).classes c).busy i)) is ((w.stands.classes c info here).works_on i)),
  )
    where
      by : (o : Option Job) → ((state_of world).classes c).busy i ≡ o → StandsIfAny (StandsForJob world.system info) o (Some context) → HasRoom context
      by None none stands = absurd stands
      by (Some job) works stands =
          let short = done-short (sys_of world) world.log w.run c i job works in
          let room = w.room in
          let few = w.few in
          let same : length (map file_told job.done) ≡ length job.done = length-map job.done file_told in
          room_of_servers world.system info.server job.request.message (map file_told job.done) context stands (omega (arith, short, room, few, same))

  -- ---- what is to be run on

  at-answer-is : (o : Option Context) (context : Context) → at_answer o ≡ Some context → o ≡ Some context
  at-answer-is None context is = absurd (cc is)
  at-answer-is (Some own) context is = by own.at_verb is
    where
      by : (b : Bool) → (if b then None else Some own) ≡ Some context → Some own ≡ Some context
      by true e = absurd (cc e)
      by false e = e

  terminal-work : (t : ℕ) (info : TermInfo) (context : Context) → slice_get world.system.terminals t ≡ Some info → (o : Option Context) → (world.kept.terminals t).ready ≡ o → first_of o (world.kept.terminals t).context ≡ Some context
      → IsSoundContext world.system context × HasRoom context
  terminal-work t info context here None none is = behind t info context here is
  terminal-work t info context here (Some own) some is = ready t info context here (some ∙ is)

  process-work : (c i : ℕ) (context : Context) (o : Option ClassInfo) → slice_get world.system.classes c ≡ o → 1 ≤ i → i ≤ processes_by o → world.kept.jobs c i ≡ Some context → IsSoundContext world.system context × HasRoom context
  process-work c i context None none from within is = absurd (omega (arith, from, within))
  process-work c i context (Some info) here from within is = job-room c i info context here is

  pub work : (actor : Actor) (context : Context) → IsActor world.system actor → work_of world actor ≡ Some context → IsSoundContext world.system context × HasRoom context
  work (actor.Terminal t) context of is =
      let found = there-is world.system.terminals t of in
      terminal-work t found.0 context found.1 (world.kept.terminals t).ready refl (at-answer-is (context_of (world.kept.terminals t)) context is)
  work (actor.Process c i) context of is = process-work c i context (slice_get world.system.classes c) refl of.0 of.1 (at-answer-is (world.kept.jobs c i) context is)
  work (actor.Pair p) context of is = absurd (cc is)
  work (actor.Class c) context of is = absurd (cc is)

  -- ---- at verbs

  and-first : (a b : Bool) → (a && b) ≡ true → a ≡ true
  and-first true b e = refl
  and-first false b e = absurd (cc e)

  pub stepping-low : (t : ℕ) → can_step world.system world.kept t ≡ true → t < length world.system.terminals
  stepping-low t can = ltb-true t (length world.system.terminals) (and-first _ _ (and-first _ _ can))

  pub steps : (t : ℕ) → can_step world.system world.kept t ≡ true → CanStep (sys_of world) (state_of world) t
  steps t can =
      (decided.can (sys_of world) (state_of world) t).0
      (sym (can-same world.system world.script (state_of world) world.kept w.stands t (readings.placed world.system world.script w.valid w.deck world.log w.run t (stepping-low t can))) ∙ can)

  pub says : (t : ℕ) (context : Context) → can_step world.system world.kept t ≡ true → (world.kept.terminals t).ready ≡ Some context → SaysOf (sys_of world) world.system t (path_of (state_of world) t) context
  says t context can is =
      let at =
      readings.asking world.system world.script w.valid w.deck world.log w.run world.kept w.stands t
      (readings.stepping-path world.system world.script w.valid w.deck world.log w.run t (steps t can)) context is in
      let own = at.ready in
      let same : at.context ≡ context = some_is (sym own ∙ is) in
      subst (λ x. SaysOf (sys_of world) world.system t (path_of (state_of world) t) x) same at.says
