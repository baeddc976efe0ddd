-- A world in which a program has run on to its next verb.
use Rattle.std.proofs.Common.{◌≡◌, ◌⊎◌, ◌∙◌, ⊎_elim, inl, inr, ℕ, ◌<◌, ◌≤◌, Bool, true, false, Option, Some, None, ap, length, refl, subst, sym, arith}
use Rattle.std.proofs.lemmas.Option.{slice_get_within}
use Rattle.std.specs.Prelude.{if◌then◌else◌, slice_get}
use Rattle.pw_code.specs.declared.context.Context.{Context}
use Rattle.pw_code.specs.declared.system.ClassInfo.{ClassInfo}
use Rattle.pw_code.specs.declared.system.System.{System}
use Rattle.pw_code.specs.declared.verb.Verb.{Verb}
use Rattle.pw_code_meaning.specs.Contexts.{RanToVerb}
use Rattle.pw_code_meaning.specs.OfSystem.{processes_by}
use Rattle.pw_code_meaning.specs.Steps.{verb_of}
use Rattle.pw_world_store.specs.Keeps.{IsChanged, KeepState, kept_in}
use Rattle.pw_world_state.specs.Asked.{verb_in}
use Rattle.pw_world_state.specs.Changes.{with_ready}
use Rattle.pw_world_state.specs.Kept.{Kept, KeptTerminal}
use Rattle.pw_world_state.specs.Read.{IsServerRead}
use Rattle.pw_world_state.proofs.Agreeing.{there-is}
use Rattle.pw_world_state.proofs.Behind.{open-closed}
use Rattle.pw_world.proofs.Filing.{marked-monitor, marked-seen}
use Rattle.pw_world.proofs.Noting.{all-mark, marks_of}
use Rattle.pw_world.specs.Ledgers.{IsNoted, LedgerState, books_of}
use Rattle.pw_world.specs.Running.{HasProgram, HasRunOn, RunsTo, ran_to}
use Rattle.pw_world.specs.States.{IsMonitor, WorldState, seen}
use Rattle.pw_world_model.proofs.Outcomes.{process-busy, terminal-work}
use Rattle.pw_world_model.proofs.RanOn.{process-ran, terminal-ran}
use Rattle.pw_world_model.proofs.Rooms.{work}
use Rattle.pw_world_model.proofs.Steps.{placed}
use Rattle.pw_world_model.specs.Actors.{IsActor}
use Rattle.pw_world_model.specs.Answers.{run_on}
use Rattle.pw_world_model.specs.Pushed.{AreMarked}
use Rattle.pw_world_model.specs.Seen.{Seen, at_answer, context_of, kept_context, work_of}
use Rattle.pw_world_model.specs.Worlds.{Books, IsWorld}
use Rattle.pw_onecopy.proofs.Update.{upd_elim}
use Rattle.pw_actor_queue.specs.Places.{all_marked, notes_in}
use Rattle.pw_actor_queue.specs.declared.actor.Actor.{Actor}
use Rattle.pw_actor_queue.specs.declared.actor.Actor.TheVariants as actor
use Rattle.pw_actor_queue.specs.declared.roster.ActorNote.{ActorNote}
use Rattle.pw_tmf.specs.Told.{Told}

-- ---- contexts at answers and at verbs

pub answered-is : (o : Option Context) (context : Context) → at_answer o ≡ Some context
    → o ≡ Some context
answered-is None context is = absurd (cc is)
answered-is (Some own) context is = by own.at_verb is
  where
    by : (b : Bool) → (if b then None else Some own) ≡ Some context → Some own ≡ Some context
    by true is = absurd (cc is)
    by false is = is

verb-none : (context : Context) → context.at_verb ≡ true → at_answer (Some context) ≡ None
verb-none context stands = ap (λ b. if b then None else Some context) stands

none-verb : (context : Context) → at_answer (Some context) ≡ None → context.at_verb ≡ true
none-verb context none = by context.at_verb refl none
  where
    by : (b : Bool) → context.at_verb ≡ b → (if b then None else Some context) ≡ None
        → context.at_verb ≡ true
    by true e none = e
    by false e none = absurd (cc none)

-- the server in a process has been read where the process has nothing to run on
pub read-server : (kept : Kept) (c i : ℕ) → at_answer (kept.jobs c i) ≡ None → IsServerRead kept c i
read-server kept c i none context is = none-verb context (ap at_answer (sym is) ∙ none)

pub server-read : (kept : Kept) (c i : ℕ) → IsServerRead kept c i → at_answer (kept.jobs c i) ≡ None
server-read kept c i read = by (kept.jobs c i) refl
  where
    by : (o : Option Context) → kept.jobs c i ≡ o → at_answer o ≡ None
    by None is = refl
    by (Some context) is = verb-none context (read context is)

-- ---- programs have run on

pub ran-none : (world : Seen) → HasRunOn world world
ran-none world =
    record { rest = refl; contexts = refl; stay = λ actor none. none; works = λ actor. inl refl }

pub ran-both : (one two three : Seen) → HasRunOn one two → HasRunOn two three → HasRunOn one three
ran-both one two three first second = record {
  rest = second.rest ∙ ap (λ (world : Seen). record world { kept = three.kept }) first.rest;
  contexts = second.contexts
      ∙ ap (λ (kept : Kept). record kept { terminals = three.kept.terminals; jobs = three.kept.jobs })
      first.contexts;
  stay = λ actor none. second.stay actor (first.stay actor none);
  works = λ actor. ⊎_elim
      (λ same. ⊎_elim (λ old. inl (same ∙ old)) (λ none. inr (same ∙ none)) (first.works actor))
      (λ none. inr none) (second.works actor);
}

-- where the context of one actor stands at a verb, each other stands where it stood
stay-terminal : (kept : Kept) (t : ℕ) (work : Context) (a : Actor) → work.at_verb ≡ true
    → at_answer (kept_context kept a) ≡ None
    → at_answer (kept_context (run_on (actor.Terminal t) (Some work) kept) a) ≡ None
stay-terminal kept t work (actor.Terminal u) stands none =
    upd_elim kept.terminals t (with_ready work (kept.terminals t)) u
    (λ (own : KeptTerminal). at_answer (context_of own) ≡ None)
    (λ same. verb-none work stands) (λ differ. none)
stay-terminal kept t work (actor.Process c i) stands none = none
stay-terminal kept t work (actor.Pair p) stands none = none
stay-terminal kept t work (actor.Class c) stands none = none

stay-process : (kept : Kept) (c i : ℕ) (work : Context) (a : Actor) → work.at_verb ≡ true
    → at_answer (kept_context kept a) ≡ None
    → at_answer (kept_context (run_on (actor.Process c i) (Some work) kept) a) ≡ None
stay-process kept c i work (actor.Process d j) stands none =
    upd_elim kept.jobs c _ d (λ (jobs : ℕ → Option Context). at_answer (jobs j) ≡ None)
    (λ same. upd_elim (kept.jobs c) i (Some work) j (λ o. at_answer o ≡ None)
    (λ here. verb-none work stands)
    (λ differ. subst (λ e. at_answer (kept.jobs e j) ≡ None) same none))
    (λ differ. none)
stay-process kept c i work (actor.Terminal t) stands none = none
stay-process kept c i work (actor.Pair p) stands none = none
stay-process kept c i work (actor.Class e) stands none = none

-- each other has the work that it had
abbrev WorksIn : Kept → Kept → Actor → Type 0
WorksIn kept new a = (at_answer (kept_context new a) ≡ at_answer (kept_context kept a))
    ⊎ (at_answer (kept_context new a) ≡ None)

works-terminal : (kept : Kept) (t : ℕ) (work : Context) (a : Actor) → work.at_verb ≡ true
    → WorksIn kept (run_on (actor.Terminal t) (Some work) kept) a
works-terminal kept t work (actor.Terminal u) stands =
    upd_elim kept.terminals t (with_ready work (kept.terminals t)) u
    (λ (own : KeptTerminal). (at_answer (context_of own) ≡ at_answer (context_of (kept.terminals u)))
    ⊎ (at_answer (context_of own) ≡ None))
    (λ same. inr (verb-none work stands)) (λ differ. inl refl)
works-terminal kept t work (actor.Process c i) stands = inl refl
works-terminal kept t work (actor.Pair p) stands = inl refl
works-terminal kept t work (actor.Class c) stands = inl refl

works-process : (kept : Kept) (c i : ℕ) (work : Context) (a : Actor) → work.at_verb ≡ true
    → WorksIn kept (run_on (actor.Process c i) (Some work) kept) a
works-process kept c i work (actor.Process d j) stands =
    upd_elim kept.jobs c _ d
    (λ (jobs : ℕ → Option Context). (at_answer (jobs j) ≡ at_answer (kept.jobs d j)) ⊎ (at_answer (jobs j) ≡ None))
    (λ same. upd_elim (kept.jobs c) i (Some work) j
    (λ o. (at_answer o ≡ at_answer (kept.jobs d j)) ⊎ (at_answer o ≡ None))
    (λ here. inr (verb-none work stands))
    (λ differ. inl (ap (λ e. at_answer (kept.jobs e j)) (sym same))))
    (λ differ. inl refl)
works-process kept c i work (actor.Terminal t) stands = inl refl
works-process kept c i work (actor.Pair p) stands = inl refl
works-process kept c i work (actor.Class e) stands = inl refl

pub ran-on : (world : Seen) (a : Actor) (work : Context) → work.at_verb ≡ true
    → HasRunOn world (ran_to a work world)
ran-on world (actor.Terminal t) work stands =
    record {
      rest = refl;
      contexts = refl;
      stay = λ other none. stay-terminal world.kept t work other stands none;
      works = λ other. works-terminal world.kept t work other stands;
    }
ran-on world (actor.Process c i) work stands =
    record {
      rest = refl;
      contexts = refl;
      stay = λ other none. stay-process world.kept c i work other stands none;
      works = λ other. works-process world.kept c i work other stands;
    }
ran-on world (actor.Pair p) work stands = ran-none world
ran-on world (actor.Class c) work stands = ran-none world

-- the actor has nothing to run on then
pub ran-read : (world : Seen) (a : Actor) (given work : Context) → work.at_verb ≡ true
    → work_of world a ≡ Some given
    → work_of (ran_to a work world) a ≡ None
ran-read world (actor.Terminal t) given work stands from =
    upd_elim world.kept.terminals t (with_ready work (world.kept.terminals t)) t
    (λ (own : KeptTerminal). at_answer (context_of own) ≡ None)
    (λ same. verb-none work stands) (λ differ. absurd (differ refl))
ran-read world (actor.Process c i) given work stands from =
    upd_elim world.kept.jobs c _ c (λ (jobs : ℕ → Option Context). at_answer (jobs i) ≡ None)
    (λ same. upd_elim (world.kept.jobs c) i (Some work) i (λ o. at_answer o ≡ None)
    (λ here. verb-none work stands) (λ differ. absurd (differ refl)))
    (λ differ. absurd (differ refl))
ran-read world (actor.Pair p) given work stands from = absurd (cc from)
ran-read world (actor.Class c) given work stands from = absurd (cc from)

-- ---- the world

module _ (world : Seen) (books : Books) (w : IsWorld world books) where
  -- where a class has a process of this number, it is there
  class-there : (c i : ℕ) → 1 ≤ i → i ≤ processes_by (slice_get world.system.classes c)
      → c < length world.system.classes
  class-there c i low high = by (slice_get world.system.classes c) refl high
    where
      by : (o : Option ClassInfo) → slice_get world.system.classes c ≡ o → i ≤ processes_by o
          → c < length world.system.classes
      by None none high = absurd (omega (arith, low, high))
      by (Some info) some high = slice_get_within world.system.classes c info some

  pub has-program : (a : Actor) (given : Context) → IsActor world.system a
      → work_of world a ≡ Some given
      → HasProgram world.system world.kept a
  has-program (actor.Terminal t) given of from = of
  has-program (actor.Process c i) given of from =
      let low = class-there c i of.0 of.1 in
      (low, process-busy world books w c i given low (answered-is (world.kept.jobs c i) given from))
  has-program (actor.Pair p) given of from = absurd (cc from)
  has-program (actor.Class c) given of from = absurd (cc from)

  -- a program that has run on stands at its verb
  pub runs-at : (a : Actor) (verb : Verb) (work-at : Context) → IsActor world.system a
      → RunsTo world a verb work-at
      → (verb ≡ verb_in world.system work-at) × (work-at.at_verb ≡ true)
  runs-at a verb work-at of runs =
      let sound = (work world books w a runs.given of runs.is).0 in
      let ran : RanToVerb world.system sound.at work-at verb = runs.runs sound.at sound.is in (
        ran.asks ∙ (ap (verb_of world.system) (sym (open-closed ran.at)) ∙ ap (verb_in world.system)
            (sym ran.is)),
        ap (λ (context : Context). context.at_verb) ran.is ∙ ran.reaches.1,
      )

  pub actor-ran : (a : Actor) (verb : Verb) (work-at : Context) (marked : Actor → Bool)
      → IsActor world.system a
      → RunsTo world a verb work-at → AreMarked (ran_to a work-at world) marked
      → IsWorld (ran_to a work-at world) (record books { marked = marked })
  actor-ran (actor.Terminal t) verb work-at marked of runs are =
      let found = there-is world.system.terminals t of in
      terminal-ran world books w t found.0 runs.given work-at verb marked found.1
      (terminal-work world books w t runs.given of runs.is).0 runs.runs are
  actor-ran (actor.Process c i) verb work-at marked of runs are =
      let found = there-is world.system.classes c (class-there c i of.0 of.1) in
      process-ran world books w c i found.0 runs.given work-at verb marked found.1
      (answered-is (world.kept.jobs c i) runs.given runs.is) runs.runs are
  actor-ran (actor.Pair p) verb work-at marked of runs are = let is = runs.is in absurd (cc is)
  actor-ran (actor.Class c) verb work-at marked of runs are = let is = runs.is in absurd (cc is)

-- ---- a world over a disc

pub on-seen : {D : Type 0} (told : D → Told) (w : WorldState D) (k : KeepState D)
    (a : Actor) (work-at : Context)
    → IsChanged told (run_on a (Some work-at)) w.keep k
    → seen told (record w { keep = k }) ≡ ran_to a work-at (seen told w)
on-seen told w k a work-at changed =
    ap (λ (s : System). record (seen told w) { system = s; kept = kept_in told k }) changed.system
    ∙ ap (λ (kept : Kept). record (seen told w) { kept = kept }) changed.kept

pub on-monitor : {D : Type 0} (told : D → Told) (w : WorldState D) (k : KeepState D)
    (a : Actor) (verb : Verb) (work-at : Context)
    → IsMonitor told w → IsActor w.keep.system a → RunsTo (seen told w) a verb work-at
    → ((other : Actor) → IsActor w.keep.system other → marks_of (notes_in w.ledger.notes) other ≡ true)
    → IsChanged told (run_on a (Some work-at)) w.keep k → IsMonitor told (record w { keep = k })
on-monitor told w k a verb work-at m of runs marked changed =
    subst (λ (world : Seen). IsWorld world (books_of w.ledger))
    (sym (on-seen told w k a work-at changed))
    (actor-ran (seen told w) (books_of w.ledger) m a verb work-at
    (marks_of (notes_in w.ledger.notes)) of runs
    (λ other known may. marked other known))

-- the same where every actor is marked first
pub ran-seen : {D : Type 0} (told : D → Told) (w : WorldState D) (k : KeepState D)
    (l : LedgerState) (a : Actor) (work-at : Context)
    → IsNoted w.ledger l → notes_in l.notes ≡ all_marked (notes_in w.ledger.notes)
    → IsChanged told (run_on a (Some work-at)) w.keep k
    → seen told (record w { keep = k; ledger = l }) ≡ ran_to a work-at (seen told w)
ran-seen told w k l a work-at rest notes changed =
    on-seen told (record w { ledger = l }) k a work-at changed ∙ ap (ran_to a work-at)
    (marked-seen told w l rest notes)

pub ran-monitor : {D : Type 0} (told : D → Told) (w : WorldState D) (k : KeepState D)
    (l : LedgerState) (a : Actor) (verb : Verb)
    (work-at : Context)
    → IsNoted w.ledger l → notes_in l.notes ≡ all_marked (notes_in w.ledger.notes)
    → IsMonitor told w → IsActor w.keep.system a → RunsTo (seen told w) a verb work-at
    → IsChanged told (run_on a (Some work-at)) w.keep k
    → IsMonitor told (record w { keep = k; ledger = l })
ran-monitor told w k l a verb work-at rest notes m of runs changed =
    on-monitor told (record w { ledger = l }) k a verb work-at (marked-monitor told w l m rest notes) of
    (subst (λ (world : Seen). RunsTo world a verb work-at) (sym (marked-seen told w l rest notes)) runs)
    (λ other known. ap (λ (n : Actor → ActorNote). (n other).marked) notes
    ∙ all-mark (notes_in w.ledger.notes) other (placed w.keep.system m.valid other known))
    changed
