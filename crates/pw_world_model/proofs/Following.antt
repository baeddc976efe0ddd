-- A world behind calls, as the work of one actor follows.
use Rattle.std.proofs.Common.{◌≡◌, ◌⊎◌, ℕ, ◌+◌, ◌-◌, ◌≤◌, List, [], ◌∷◌, ◌++◌, length, None, Bool, true, false, inl, inr, refl, sym, ap, ap₂, subst, subst₂, ◌∙◌, ⊎_elim, length-append, arith}
use Rattle.std.specs.Prelude.{Result, Ok, Err}
use Rattle.std.proofs.Math.Seq.{take-length}
use Rattle.std.proofs.lemmas.List.{take-append-le}
use Rattle.pw_base.specs.declared.memory.Memory.{Memory}
use Rattle.pw_event.specs.declared.event.Event.{Event}
use Rattle.pw_world_state.specs.Changes.{at_pair}
use Rattle.pw_world_state.specs.Entered.{tcp_of}
use Rattle.pw_world_state.specs.Kept.{Kept}
use Rattle.pw_pair.specs.Pairs.{changed_at}
use Rattle.pw_pair.specs.Seats.{built}
use Rattle.pw_world_state.specs.Members.{members_of}
use Rattle.pw_code_meaning.specs.OfSystem.{behaviour}
use Rattle.pw_onecopy.specs.Behaviour.{Behaviour}
use Rattle.pw_paired.specs.State.{starting}
use Rattle.pw_paired.specs.Step.{after}
use Rattle.pw_actor_queue.specs.declared.actor.Actor.{Actor}
use Rattle.pw_actor_queue.specs.declared.actor.Actor.TheVariants as actor
use Rattle.pw_laws.proofs.RunSteps.{after_from-append}
use Rattle.pw_world_model.specs.Actors.{IsActor}
use Rattle.pw_world_model.specs.Answers.{AnswersApply, Claims, IsSameWorld, LeavesApplied, LeavesEntered, Pushes, ran, with_out}
use Rattle.pw_world_model.specs.Seen.{Seen, at_answer, context_of, kept_context, sys_of, work_of}
use Rattle.pw_world_model.specs.Stamps.{IsStamp, state_at, state_in}
use Rattle.pw_world_model.specs.Worlds.{Books, IsWorld}
use Rattle.pw_world_model.specs.declared.answers.Applied.{Applied}
use Rattle.pw_world_model.specs.declared.answers.Applied.TheVariants as applied
use Rattle.pw_world_model.specs.declared.answers.Claim.{Claim}
use Rattle.pw_world_model.specs.declared.answers.Entered.{Entered}
use Rattle.pw_world_model.specs.declared.answers.Entered.TheVariants as enter
use Rattle.pw_world_model.specs.declared.answers.Claim.TheVariants as claim
use Rattle.pw_world_model.specs.Between.{AreCalls, IsApply, IsWorldCall, IsEnter, IsGiveBack}
use Rattle.pw_world_model.proofs.KeptContext.{context-stays}
use Rattle.pw_world_model.proofs.RanAway.{ran-read}

-- ---- stamps, before an entry

module _ (sys : Behaviour) (log : List Event) (entry : Event) (a : Actor) where
  abbrev longer : List Event
  longer = log ++ entry ∷ []

  long : length longer ≡ length log + 1
  long = length-append log (entry ∷ [])

  at-before : (k : ℕ) → k ≤ length log → state_at sys longer a k ≡ state_at sys log a k
  at-before k low = ap (λ (l : List Event). state_in sys (after sys l) a) (take-append-le k log (entry ∷ []) low)

  -- since an old stamp the entry has left the state
  pub state-left : (n : ℕ) → n ≤ length log → IsStamp sys longer a n → state_in sys (after sys log) a ≡ state_in sys (after sys longer) a
  state-left n low is =
      ap (λ (l : List Event). state_in sys (after sys l) a) (sym (take-length log))
      ∙ (sym (at-before (length log) (omega arith))
      ∙ (is.since (length log) low (omega (arith, long))
      ∙ ap (λ (l : List Event). state_in sys (after sys l) a) (take-length longer)))

  -- an old stamp was one before the entry
  pub stamp-before : (n : ℕ) → n ≤ length log → IsStamp sys longer a n → IsStamp sys log a n
  stamp-before n low is = record {
    within = low;
    since = λ k from to. sym (at-before k to)
        ∙ (is.since k from (omega (arith, to, long))
        ∙ (sym (is.since (length log) low (omega (arith, long)))
        ∙ at-before (length log) (omega arith)));
    changed = ⊎_elim (λ none. inl none)
        (λ differ. inr (λ same. differ (at-before (n - 1) (omega (arith, low)) ∙ (same ∙ sym (at-before n low)))))
        is.changed;
  }

-- ---- one call

-- The world goes on from another one: while an old stamp of the actor is one of it still, it was one before, and the
-- actor has the work that it had, or none.
pub record Follows (a : Actor) (world new : Seen) : Type 0 where
  pub system : new.system ≡ world.system
  pub longer : length world.log ≤ length new.log
  pub stamp : (n : ℕ) → n ≤ length world.log → IsStamp (sys_of new) new.log a n → IsStamp (sys_of world) world.log a n
  pub work : (n : ℕ) → n ≤ length world.log → IsStamp (sys_of new) new.log a n → (work_of new a ≡ work_of world a) ⊎ (work_of new a ≡ None)

-- what is kept is another, of which the actor has the same work, or none
beside : (a : Actor) (world : Seen) (kept : Kept) (failed : Bool) (out : Actor → Bool) → (at_answer (kept_context kept a) ≡ work_of world a) ⊎ (at_answer (kept_context kept a) ≡ None)
    → Follows a world (record world { kept = kept; failed = failed; out = out })
beside a world kept failed out work = record { system = refl; longer = omega arith; stamp = λ n low is. is; work = λ n low is. work }

-- where terminals and jobs are the same, so is the work
same-work : (a : Actor) (world : Seen) (kept : Kept) → kept.terminals ≡ world.kept.terminals → kept.jobs ≡ world.kept.jobs → at_answer (kept_context kept a) ≡ work_of world a
same-work (actor.Terminal t) world kept terminals jobs = ap (λ f. at_answer (context_of (f t))) terminals
same-work (actor.Process c i) world kept terminals jobs = ap (λ f. at_answer (f c i)) jobs
same-work (actor.Pair p) world kept terminals jobs = refl
same-work (actor.Class c) world kept terminals jobs = refl

then : (a : Actor) (one two three : Seen) → Follows a one two → Follows a two three → Follows a one three
then a one two three first second = record {
  system = second.system ∙ first.system;
  longer = let x = first.longer in let y = second.longer in omega (arith, x, y);
  stamp = λ n low is. first.stamp n low (second.stamp n (let x = first.longer in omega (arith, low, x)) is);
  work = λ n low is.
      let high : n ≤ length two.log = let x = first.longer in omega (arith, low, x) in
      ⊎_elim
      (λ same. ⊎_elim (λ old. inl (same ∙ old)) (λ none. inr (same ∙ none)) (first.work n low (second.stamp n high is)))
      (λ none. inr none)
      (second.work n high is);
}

module _ (a : Actor) (world : Seen) (books : Books) (w : IsWorld world books) (of : IsActor world.system a) where
  -- the world itself, where others are out
  outside : (out : Actor → Bool) → Follows a world (record world { out = out })
  outside out = beside a world world.kept world.failed out (inl refl)

  claimed : (answer : Result Claim Memory) (new : Seen) → Claims world answer new → Follows a world new
  claimed (Ok (claim.Work task)) new is = subst (Follows a world) (sym is.1.1) (outside (with_out task.actor true world).out)
  claimed (Ok claim.Idle) new is = subst (Follows a world) (sym is.1) (outside world.out)
  claimed (Ok claim.Finished) new is = subst (Follows a world) (sym is.1) (outside world.out)
  claimed (Err memory) new is = subst (Follows a world) (sym is) (outside world.out)

  given-back : (new : Seen) → IsGiveBack world new → Follows a world new
  given-back new call = by call.filed refl
    where
      filed : Kept
      filed = at_pair (tcp_of world.system call.done.task.terminal) (changed_at call.done.task.terminal built) world.kept

      by : (b : Bool) → call.filed ≡ b → Follows a world new
      by true e = subst (Follows a world) (sym (call.gives.files_it e)) (beside a world filed world.failed world.out (inl (same-work a world filed refl refl)))
      by false e = subst (Follows a world) (sym (call.gives.late e)) (outside world.out)

  -- an entry is pushed, behind a world in which contexts have run on
  pushed-on : (kept : Kept) (out : Actor → Bool) (own : Actor) (entry : Event) (new : Seen) → (at_answer (kept_context kept a) ≡ work_of world a) ⊎ (at_answer (kept_context kept a) ≡ None)
      → Pushes (members_of world.system) (record world { kept = kept; out = out }) new own entry → Follows a world new
  pushed-on kept out own entry new before push = subst (Follows a world) (sym push.is) (record {
    system = refl;
    longer = let l = long (sys_of world) world.log entry a in omega (arith, l);
    stamp = stamp-before (sys_of world) world.log entry a;
    work = λ n low is.
        let left = state-left (sys_of world) world.log entry a n low is ∙ ap (λ s. state_in (sys_of world) s a) (after_from-append (sys_of world) (starting (sys_of world)) world.log (entry ∷ [])) in
        ⊎_elim
        (λ same. ⊎_elim (λ old. inl (ap at_answer same ∙ old)) (λ none. inr (ap at_answer same ∙ none)) before)
        (λ gone. inr (ap at_answer gone))
        (context-stays world books w entry push.enabled.legal kept a of left);
  })

  applied-so : (new : Seen) → IsApply world new → Follows a world new
  applied-so new call = by call.answer call.comes call.leaves
    where
      failed : Kept
      failed = record world.kept { disc = record world.kept.disc { faults = new.kept.disc.faults } }

      by : (answer : Applied) → AnswersApply world call.outcome answer → LeavesApplied (members_of world.system) world call.outcome answer new → Follows a world new
      by applied.Done comes leaves =
          pushed-on (ran world call.outcome).kept (with_out call.outcome.actor false world).out call.outcome.actor leaves.0 new (ran-read world books w call.outcome call.over call.actor comes.0.run a) leaves.1
      by applied.Limit comes leaves = subst (Follows a world) (sym leaves) (outside (with_out call.outcome.actor false world).out)
      by (applied.Stale carried found) comes leaves = subst (Follows a world) (sym leaves) (outside (with_out call.outcome.actor false world).out)
      by applied.Unrun comes leaves = subst (Follows a world) (sym leaves) (outside (with_out call.outcome.actor false world).out)
      by applied.Held comes leaves = subst (Follows a world) (sym leaves)
          (beside a world (ran world call.outcome).kept world.failed (with_out call.outcome.actor false world).out (ran-read world books w call.outcome call.over call.actor comes.0.run a))
      by applied.Unbuilt comes leaves = subst (Follows a world) (sym leaves) (outside (with_out call.outcome.actor false world).out)
      by applied.DiscFault comes leaves = subst (Follows a world) (sym leaves.rest) (beside a world failed true (with_out call.outcome.actor false world).out (inl (same-work a world failed refl refl)))
      by applied.Memory comes leaves = subst (Follows a world) (sym leaves) (outside (with_out call.outcome.actor false world).out)

  -- an entry is taken, or none
  entered-so : (new : Seen) → IsEnter world new → Follows a world new
  entered-so new call = by call.answer call.leaves
    where
      same-sys : new.script ≡ world.script → new.system ≡ world.system → sys_of new ≡ sys_of world
      same-sys script system = ap₂ behaviour script system

      kept-so : (n : ℕ) → sys_of new ≡ sys_of world → new.log ≡ world.log → (work_of new a ≡ work_of world a) ⊎ (work_of new a ≡ None)
      kept-so n sys log = call.works a of (ap₂ (λ s l. state_in s (after s l) a) (sym sys) (sym log))

      unlogged : IsSameWorld world new → new.log ≡ world.log → Follows a world new
      unlogged is log =
          let sys = same-sys is.script is.system in
          record {
            system = is.system;
            longer = let l = ap length log in omega (arith, l);
            stamp = λ n low stamp. subst₂ (λ s l. IsStamp s l a n) sys log stamp;
            work = λ n low stamp. kept-so n sys log;
          }

      logged : IsSameWorld world new → new.log ≡ world.log ++ call.entry ∷ [] → Follows a world new
      logged is log =
          let sys = same-sys is.script is.system in
          record {
            system = is.system;
            longer = let l = ap length log in let more = long (sys_of world) world.log call.entry a in omega (arith, l, more);
            stamp = λ n low stamp. stamp-before (sys_of world) world.log call.entry a n low (subst₂ (λ s l. IsStamp s l a n) sys log stamp);
            work = λ n low stamp. call.works a of
                (state-left (sys_of world) world.log call.entry a n low (subst₂ (λ s l. IsStamp s l a n) sys log stamp)
                ∙ ap₂ (λ s l. state_in s (after s l) a) (sym sys) (sym log));
          }

      by : (answer : Entered) → LeavesEntered world call.entry answer new → Follows a world new
      by enter.Done leaves = logged leaves.0 leaves.1.0
      by enter.NotAStep leaves = unlogged leaves.0 leaves.1.0
      by enter.DiscFault leaves = unlogged leaves.0 leaves.1.0
      by enter.Memory leaves = unlogged leaves.0 leaves.1.0

  called : (new : Seen) → IsWorldCall world new → Follows a world new
  called new call = ⊎_elim (λ claim. claimed claim.answer new claim.claims)
      (λ other. ⊎_elim (λ apply. applied-so new apply) (λ more. ⊎_elim (λ back. given-back new back) (λ one. entered-so new one) more) other) call

-- ---- calls

pub all-called : (a : Actor) (world : Seen) (books : Books) → IsWorld world books → IsActor world.system a → (between : List Seen) (last : Seen) → AreCalls world between last → Follows a world last
all-called a world books w of [] last is = subst (Follows a world) (sym is) (outside a world books w of world.out)
all-called a world books w of (next ∷ others) last calls =
    let one : Follows a world next = called a world books w of next calls.1.0 in
    then a world next last one (all-called a next calls.0.0 calls.0.1 (subst (λ s. IsActor s a) (sym one.system) of) others last calls.1.1)
