-- A legal reply finds its terminal at its verb; and while the log is not finished an actor may work.
use Rattle.std.proofs.Common.{◌≡◌, ◌⊎◌, ℕ, ◌<◌, length, Option, Some, None, Bool, true, false, inl, inr, refl, ap, subst, subst₂, ◌∙◌, ⊎_elim}
use Rattle.pw_code.specs.declared.context.Context.{Context}
use Rattle.pw_code.specs.declared.unit.Unit as unit
use Rattle.pw_event.specs.declared.event.Cause.{Cause}
use Rattle.pw_event.specs.declared.event.Cause.TheVariants as cause
use Rattle.pw_event.specs.declared.event.Ending.TheVariants.{Stopped, NoEntries, Fault, Suspended, Lost}
use Rattle.pw_event.specs.declared.event.Event.{Event}
use Rattle.pw_event.specs.declared.event.Event.TheVariants.{Show, Key, CheckStart, CheckEnd, CheckCopy, Applied, Begin, Send, Take, File, Reply, Again, Commit, Back, Restart, FailTcp, FailServer, Takeover, Raise, End}
use Rattle.pw_world_state.specs.Meeting.{MeetsAtVerb, ShowsAtVerb, StepShows, UnitsMeet}
use Rattle.pw_world_state.specs.Read.{IsReplyRead}
use Rattle.pw_world_state.specs.Stands.{StandsForJob, StandsIfAny}
use Rattle.pw_world_state.specs.TerminalTests as kept-out
use Rattle.pw_world_state.proofs.Agreeing.{there-is}
use Rattle.pw_world_model.specs.Actors.{IsActor, actor_of}
use Rattle.pw_world_model.specs.Enabled.{MayWork}
use Rattle.pw_world_model.specs.Seen.{Seen, at_answer, finished, state_of, sys_of}
use Rattle.pw_world_model.specs.Worlds.{Books, IsWorld}
use Rattle.pw_world_model.proofs.Outs.{job-out, out-same}
use Rattle.pw_world_model.proofs.Steps.{acts, there}
use Rattle.pw_paired.specs.Failure.{IsCaused, LegalOlder, Meets, unit_named}
use Rattle.pw_paired.specs.State.{Job, OpenUnit}
use Rattle.pw_paired.specs.Step.{Legal}
use Rattle.pw_actor_queue.specs.declared.actor.Actor.{Actor}
use Rattle.pw_actor_queue.specs.declared.actor.Actor.TheVariants as actor
use Rattle.pw_laws.proofs.induction.Runs.{kept}
use Rattle.pw_laws.proofs.kept.Kept.{Inv}
use Rattle.pw_laws.proofs.requests.Classes.{IsProcess}
use Rattle.pw_laws.proofs.requests.Requests.{place_of_job, sent_of}
use Rattle.pw_laws.proofs.steps.Unstuck.{some-actor-steps}

module _ (world : Seen) (books : Books) (w : IsWorld world books) where
  inv : Inv (sys_of world) (state_of world)
  inv = kept (sys_of world) w.deck world.log w.run

  process-of : (c i : ℕ) (job : Job) → ((state_of world).classes c).busy i ≡ Some job → IsProcess (sys_of world) c i
  process-of = inv.requests.bounds.work

  pub reply-read : (entry : Event) → Legal (sys_of world) (state_of world) entry → IsReplyRead world.kept entry
  reply-read (Reply c i t fault) legal =
      let fits = legal.fits in
      let out : is_out-of t ≡ true = subst (λ x. is_out-of x ≡ true) fits.whose
      (out-same world.system world.script (state_of world) world.kept w.stands fits.job.request.terminal ∙ job-out (sys_of world) (state_of world) c i fits.job (process-of c i fits.job fits.at_work) fits.at_work) in
      w.asking t (subst (λ x. x < length world.system.terminals) fits.whose (known-of c i fits.job fits.at_work)) out
    where
      is_out-of : ℕ → Bool
      is_out-of x = kept-out.is_out world.system world.kept x

      known-of : (c i : ℕ) (job : Job) → ((state_of world).classes c).busy i ≡ Some job → job.request.terminal < length world.system.terminals
      known-of c i job works = (inv.out job.request.terminal _ (ap sent_of (place_of_job inv.requests works refl))).live.known
  reply-read (Show t phase attempt k) legal = tt
  reply-read (Key t k) legal = tt
  reply-read (CheckStart t) legal = tt
  reply-read (CheckEnd t) legal = tt
  reply-read (CheckCopy t) legal = tt
  reply-read (Applied t) legal = tt
  reply-read (Begin t n r) legal = tt
  reply-read (Send t n c) legal = tt
  reply-read (Take c i t) legal = tt
  reply-read (File c i op mode f status) legal = tt
  reply-read (Again t n) legal = tt
  reply-read (Commit t n) legal = tt
  reply-read (Back t n) legal = tt
  reply-read (Restart t n cause) legal = tt
  reply-read (FailTcp p primary k) legal = tt
  reply-read (FailServer c i k) legal = tt
  reply-read (Takeover p) legal = tt
  reply-read (Raise p) legal = tt
  reply-read (End t ending) legal = tt

  -- ---- an actor that may work

  abbrev Works : Type 0
  Works = (actor : Actor) × (IsActor world.system actor × MayWork world actor)

  -- a legal step that shows
  enabled : (entry : Event) → Legal (sys_of world) (state_of world) entry → StepShows (sys_of world) (state_of world) world.kept entry → Works
  enabled entry legal shows =
      let here = there world books w entry legal in
      (actor_of (sys_of world) entry, (acts world.system world.script w.deck entry here, inl (entry, record { legal = legal; at_verb = shows; own = refl })))

  -- a conflict shows where its process stands at its verb, and else that process is to run on
  module _ (one other : unit.Unit) (m : Meets (sys_of world) (state_of world) one other) where
    at : IsProcess (sys_of world) m.class m.process
    at = process-of m.class m.process m.job m.at_work

    by-verb : (context : Context) → world.kept.jobs m.class m.process ≡ Some context → (b : Bool) → context.at_verb ≡ b → MeetsAtVerb (sys_of world) (state_of world) world.kept one other ⊎ Works
    by-verb context is true e = inl (record { meets = m; context = context; is_kept = is; at_verb = e })
    by-verb context is false e =
        inr (actor.Process m.class m.process, ((at.from_one, at.within), inr (context, ap at_answer is ∙ (rw e refl))))

    by-job : (o : Option Context) → world.kept.jobs m.class m.process ≡ o → MeetsAtVerb (sys_of world) (state_of world) world.kept one other ⊎ Works
    by-job (Some context) is = by-verb context is context.at_verb refl
    by-job None none =
        let found = there-is world.system.classes m.class at.there in
        absurd (subst₂ (λ x y. StandsIfAny (StandsForJob world.system found.0) x y) m.at_work none ((w.stands.classes m.class found.0 found.1).works_on m.process))

    pub met : MeetsAtVerb (sys_of world) (state_of world) world.kept one other ⊎ Works
    met = by-job (world.kept.jobs m.class m.process) refl

  -- the cause of a restart or a suspension shows, or an actor may work
  older-shows : (t : ℕ) (own : OpenUnit) (o m : ℕ) → (state_of world).units t ≡ Some own → LegalOlder (sys_of world) (state_of world) t own o m → UnitsMeet (sys_of world) (state_of world) world.kept t o ⊎ Works
  older-shows t own o m is l = by l.meets
    where
      by : Meets (sys_of world) (state_of world) (unit_named t own) (unit_named o l.older) ⊎ Meets (sys_of world) (state_of world) (unit_named o l.older) (unit_named t own)
          → UnitsMeet (sys_of world) (state_of world) world.kept t o ⊎ Works
      by (inl first) = ⊎_elim (λ x. inl (record { own = own; is_own = is; other = l.older; is_other = l.is_open; meets = inl x })) inr (met (unit_named t own) (unit_named o l.older) first)
      by (inr second) = ⊎_elim (λ x. inl (record { own = own; is_own = is; other = l.older; is_other = l.is_open; meets = inr x })) inr (met (unit_named o l.older) (unit_named t own) second)

  cause-shows : (t n : ℕ) (cause : Cause) (own : OpenUnit) → IsCaused (sys_of world) (state_of world) t n cause own → ShowsAtVerb (sys_of world) (state_of world) world.kept t cause ⊎ Works
  cause-shows t n (cause.Older o m) own caused = older-shows t own o m caused.is_open caused.holds
  cause-shows t n (cause.Takeover p) own caused = inl tt
  cause-shows t n (cause.Server k) own caused = inl tt
  cause-shows t n cause.Redo own caused = inl tt

  step-works : (entry : Event) → Legal (sys_of world) (state_of world) entry → Works
  step-works (Restart t n cause) legal = ⊎_elim (λ shows. enabled (Restart t n cause) legal shows) (λ works. works) (cause-shows t n cause legal.fits.unit legal.fits.caused)
  step-works (End t (Suspended cause)) legal = ⊎_elim (λ shows. enabled (End t (Suspended cause)) legal shows) (λ works. works) (cause-shows t legal.fits.unit.number cause legal.fits.unit legal.fits.caused)
  step-works (Show t phase attempt k) legal = enabled (Show t phase attempt k) legal tt
  step-works (Key t k) legal = enabled (Key t k) legal tt
  step-works (CheckStart t) legal = enabled (CheckStart t) legal tt
  step-works (CheckEnd t) legal = enabled (CheckEnd t) legal tt
  step-works (CheckCopy t) legal = enabled (CheckCopy t) legal tt
  step-works (Applied t) legal = enabled (Applied t) legal tt
  step-works (Begin t n r) legal = enabled (Begin t n r) legal tt
  step-works (Send t n c) legal = enabled (Send t n c) legal tt
  step-works (Take c i t) legal = enabled (Take c i t) legal tt
  step-works (File c i op mode f status) legal = enabled (File c i op mode f status) legal tt
  step-works (Reply c i t fault) legal = enabled (Reply c i t fault) legal tt
  step-works (Again t n) legal = enabled (Again t n) legal tt
  step-works (Commit t n) legal = enabled (Commit t n) legal tt
  step-works (Back t n) legal = enabled (Back t n) legal tt
  step-works (FailTcp p primary k) legal = enabled (FailTcp p primary k) legal tt
  step-works (FailServer c i k) legal = enabled (FailServer c i k) legal tt
  step-works (Takeover p) legal = enabled (Takeover p) legal tt
  step-works (Raise p) legal = enabled (Raise p) legal tt
  step-works (End t Stopped) legal = enabled (End t Stopped) legal tt
  step-works (End t NoEntries) legal = enabled (End t NoEntries) legal tt
  step-works (End t (Fault x)) legal = enabled (End t (Fault x)) legal tt
  step-works (End t Lost) legal = enabled (End t Lost) legal tt

  pub idle : finished world ≡ false → (actor : Actor) × (IsActor world.system actor × MayWork world actor)
  idle unfinished =
      let found = some-actor-steps (sys_of world) w.deck world.log w.run unfinished in
      step-works found.1.entry found.1.legal
