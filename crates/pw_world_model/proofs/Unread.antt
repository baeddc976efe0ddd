-- An actor that has nothing to run on has been read: its steps speak of programs at their verbs.
use Rattle.std.proofs.Common.{◌≡◌, ◌⊎◌, ℕ, List, [], ◌∷◌, ◌++◌, map, Option, Some, None, Bool, true, false, inl, inr, refl, sym, ap, subst, ◌∙◌}
use Rattle.std.specs.Prelude.{IsSome, slice_get}
use Rattle.std.proofs.lemmas.List.{map-append}
use Rattle.pw_code.specs.Valid.{IsValid}
use Rattle.pw_code.specs.declared.context.Context.{Context}
use Rattle.pw_code.specs.declared.system.System.{System}
use Rattle.pw_code.specs.declared.system.TermInfo.{TermInfo}
use Rattle.pw_event.specs.declared.event.Cause.{Cause}
use Rattle.pw_event.specs.declared.event.Cause.TheVariants as cause
use Rattle.pw_event.specs.declared.event.Ending.TheVariants.{Stopped, NoEntries, Fault, Suspended, Lost}
use Rattle.pw_event.specs.declared.event.Event.{Event}
use Rattle.pw_event.specs.declared.event.Event.TheVariants.{Show, Key, CheckStart, CheckEnd, CheckCopy, Applied, Begin, Send, Take, File, Reply, Again, Commit, Back, Restart, FailTcp, FailServer, Takeover, Raise, End}
use Rattle.pw_event.specs.declared.script.FailLine.{FailLine}
use Rattle.pw_code_meaning.specs.Answers.{put}
use Rattle.pw_code_meaning.specs.Config.{Config, starting}
use Rattle.pw_code_meaning.specs.OfSystem.{behaviour, told}
use Rattle.pw_code_meaning.proofs.Counting.{IsBehind, behind-answer, follows, follows-on}
use Rattle.pw_world_state.specs.Arrivals.{Arrives, StandsForPath}
use Rattle.pw_world_state.specs.Meeting.{IsRedoRead, IsStepRead}
use Rattle.pw_world_state.specs.Read.{IsRead, IsServerRead}
use Rattle.pw_world_state.specs.Stands.{StandsForKnown}
use Rattle.pw_world_state.proofs.Arrived.{arrives-comes}
use Rattle.pw_world_state.proofs.Forced.{suits-behind, suits-front}
use Rattle.pw_world_state.proofs.Imaged.{arrives-last, last-of}
use Rattle.pw_world_state.proofs.Readings as readings
use Rattle.pw_world_state.proofs.UnitChanges.{has-context}
use Rattle.pw_world_model.specs.Actors.{actor_of}
use Rattle.pw_world_model.specs.Seen.{Seen, at_answer, first_of, state_of, sys_of, work_of}
use Rattle.pw_world_model.specs.Worlds.{Books, IsWorld}
use Rattle.pw_world_model.proofs.Rooms.{stepping-low, steps}
use Rattle.pw_onecopy.specs.Behaviour.{Behaviour}
use Rattle.pw_onecopy.specs.IsBehaviour.{IsPath, SuitsFrom}
use Rattle.pw_onecopy.specs.Path.{PathAnswer, entries_on, standing}
use Rattle.pw_paired.specs.Terminal.{path_of}
use Rattle.pw_actor_queue.specs.declared.actor.Actor.TheVariants as actor

-- ---- a context behind a path stands at an answer

module _ (system : System) (script : List FailLine) (t : ℕ) (info : TermInfo) (valid : IsValid system) (here : slice_get system.terminals t ≡ Some info) where
  abbrev sys : Behaviour
  sys = behaviour script system

  behind-path : (path : List PathAnswer) (a : PathAnswer) (d : Config) → IsPath sys t (path ++ a ∷ []) → Arrives system (starting system info.program) (map (told info.entries) (path ++ a ∷ [])) d → d.rest.at_verb ≡ false
  behind-path path a d is_path arrives =
      let parts = arrives-last system (map (told info.entries) path) (told info.entries a) (starting system info.program) d
      (subst (λ l. Arrives system (starting system info.program) l d) (map-append (told info.entries) path (a ∷ [])) arrives) in
      let before : IsPath sys t path = record { known = is_path.known; suits = suits-front sys t [] path (a ∷ []) is_path.suits } in
      let suits : SuitsFrom sys t path (a ∷ []) = suits-behind sys t [] path (a ∷ []) is_path.suits in
      let first = follows system script t info valid here path parts.0 before (arrives-comes system (map (told info.entries) path) (starting system info.program) parts.0 parts.2) in
      let second = follows-on system script t info valid here path parts.0 parts.1 parts.3.0 first in
      let behind : IsBehind (standing path) (entries_on path) _ a (put system (told info.entries a) parts.1).rest = behind-answer system script t info valid here path a parts.1 parts.3.1 suits.0 second in
      subst (λ (c : Config). c.rest.at_verb ≡ false) parts.4 behind.at_answer

  pub stands-at-answer : (path : List PathAnswer) (context : Context) → IsPath sys t path → StandsForPath system info path context → context.at_verb ≡ false
  stands-at-answer path context is_path stands = ap (λ (c : Context). c.at_verb) stands.is ∙ by (last-of path)
    where
      by : (path ≡ []) ⊎ ((before : List PathAnswer) × (a : PathAnswer) × (path ≡ before ++ a ∷ [])) → stands.at.rest.at_verb ≡ false
      by (inl none) = ap (λ (c : Config). c.rest.at_verb) (sym (subst (λ p. Arrives system (starting system info.program) (map (told info.entries) p) stands.at) none stands.arrives))
      by (inr some) =
          behind-path some.0 some.1 stands.at (subst (IsPath sys t) some.2 is_path)
          (subst (λ p. Arrives system (starting system info.program) (map (told info.entries) p) stands.at) some.2 stands.arrives)

-- ---- an actor with nothing to run on

module _ (world : Seen) (books : Books) (w : IsWorld world books) where
  -- a terminal that can step stands at its verb
  pub terminal-read : (t : ℕ) → work_of world (actor.Terminal t) ≡ None → IsRead world.system world.kept t
  terminal-read t none can =
      let low = stepping-low world books w t can in
      let step = steps world books w t can in
      let at = readings.placed world.system world.script w.valid w.deck world.log w.run t low in
      by at.info at.here (world.kept.terminals t).ready (world.kept.terminals t).context refl refl
      (has-context world.system world.script (state_of world) world.kept t at.info w.stands at.here step)
      (readings.stepping-path world.system world.script w.valid w.deck world.log w.run t step)
    where
      by : (info : TermInfo) → slice_get world.system.terminals t ≡ Some info → (ready context : Option Context) → (world.kept.terminals t).ready ≡ ready → (world.kept.terminals t).context ≡ context → IsSome context
          → IsPath (sys_of world) t (path_of (state_of world) t) → IsSome (world.kept.terminals t).ready
      by info here (Some own) context is there some is_path = rw is refl
      by info here None None is there some is_path = absurd (cc some)
      by info here None (Some own) is there some is_path =
          let answer = stands-at-answer world.system world.script t info w.valid here (path_of (state_of world) t) own is_path
          (subst (StandsForKnown world.system info (path_of (state_of world) t)) there (w.stands.terminals t info here).path) in
          let work : work_of world (actor.Terminal t) ≡ Some own =
          ap (λ o. at_answer (first_of o (world.kept.terminals t).context)) is ∙ (ap at_answer there ∙ rw answer refl) in
          absurd (cc (none, work))

  -- a server at work stands at its verb
  pub process-read : (c i : ℕ) → work_of world (actor.Process c i) ≡ None → IsServerRead world.kept c i
  process-read c i none context is = by context.at_verb refl
    where
      by : (b : Bool) → context.at_verb ≡ b → b ≡ true
      by true e = refl
      by false e = let work : work_of world (actor.Process c i) ≡ Some context = ap at_answer is ∙ rw e refl in absurd (cc (none, work))

  redo-read : (t : ℕ) → work_of world (actor.Terminal t) ≡ None → (kind : Cause) → IsRedoRead world.system world.kept t kind
  redo-read t none cause.Redo = terminal-read t none
  redo-read t none (cause.Older o m) = tt
  redo-read t none (cause.Takeover p) = tt
  redo-read t none (cause.Server k) = tt

  -- what the test of an entry speaks of has been read, where the actor of the entry has nothing to run on
  pub read-of : (entry : Event) → work_of world (actor_of (sys_of world) entry) ≡ None → IsStepRead world.system world.kept entry
  read-of (Show t phase attempt k) none = terminal-read t none
  read-of (Key t k) none = terminal-read t none
  read-of (CheckStart t) none = terminal-read t none
  read-of (CheckEnd t) none = terminal-read t none
  read-of (CheckCopy t) none = tt
  read-of (Applied t) none = tt
  read-of (Begin t n r) none = terminal-read t none
  read-of (Send t n c) none = terminal-read t none
  read-of (Take c i t) none = tt
  read-of (File c i op mode f status) none = process-read c i none
  read-of (Reply c i t fault) none = process-read c i none
  read-of (Again t n) none = terminal-read t none
  read-of (Commit t n) none = terminal-read t none
  read-of (Back t n) none = terminal-read t none
  read-of (Restart t n kind) none = redo-read t none kind
  read-of (FailTcp p primary k) none = tt
  read-of (FailServer c i k) none = tt
  read-of (Takeover p) none = tt
  read-of (Raise p) none = tt
  read-of (End t Stopped) none = terminal-read t none
  read-of (End t NoEntries) none = terminal-read t none
  read-of (End t (Fault x)) none = terminal-read t none
  read-of (End t (Suspended kind)) none = redo-read t none kind
  read-of (End t Lost) none = tt
