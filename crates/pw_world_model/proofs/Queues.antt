-- A terminal has at most one request, in one class; and only the pair to which an entry belongs gets another mode.
use Rattle.std.proofs.Common.{◌≡◌, ◌≢◌, ℕ, ◌<◌, length, Option, Some, None, true, false, refl, sym, ap, subst, ◌∙◌, ⊎_elim}
use Rattle.std.specs.List.{list_any}
use Rattle.std.proofs.lemmas.Bool.{cases_Bool, cases_eq, eqb-true}
use Rattle.pw_class.specs.Queue as queue
use Rattle.pw_class.specs.Queue.{at_process, is_of, works_for}
use Rattle.pw_class.specs.declared.request.Request.{Request}
use Rattle.pw_event.specs.Due.{owner_of}
use Rattle.pw_event.specs.declared.event.Event.{Event}
use Rattle.pw_event.specs.declared.event.Event.TheVariants.{Show, Key, CheckStart, CheckEnd, CheckCopy, Applied, Begin, Send, Take, File, Reply, Again, Commit, Back, Restart, FailTcp, FailServer, Takeover, Raise, End}
use Rattle.pw_event.specs.declared.script.Owner.TheVariants.{Tcp}
use Rattle.pw_world_state.proofs.Agreeing.{there-is}
use Rattle.pw_world_model.specs.Pushed.{CanPush}
use Rattle.pw_world_model.specs.Seen.{Seen, state_of, sys_of}
use Rattle.pw_world_model.specs.Touches.{turns}
use Rattle.pw_world_model.specs.Worlds.{Books, IsWorld}
use Rattle.pw_world_model.proofs.OfUnits.{job-at}
use Rattle.pw_world_model.proofs.Outs.{has-same}
use Rattle.pw_world_model.proofs.Placed.{none-waits, without-has}
use Rattle.pw_world_model.proofs.Touched.{turns-mode}
use Rattle.pw_onecopy.specs.Behaviour.{Behaviour}
use Rattle.pw_onecopy.proofs.Update.{upd-other}
use Rattle.pw_paired.specs.State.{Class, Job, State}
use Rattle.pw_paired.specs.Step.{change}
use Rattle.pw_paired.specs.Units.{has_request}
use Rattle.pw_laws.proofs.induction.Failed.{end-any, fail-cases, process-cases}
use Rattle.pw_laws.proofs.induction.Runs.{kept}
use Rattle.pw_laws.proofs.induction.Served.{file-cases, reply-any}
use Rattle.pw_laws.proofs.kept.Kept.{Inv}
use Rattle.pw_laws.proofs.requests.Classes.{HasAtWork}
use Rattle.pw_laws.proofs.requests.Requests.{AtWork, InLine, Nowhere, OnlyAt, Place, Placed, place_of_job}

-- ---- places

line-none : (classes : ℕ → Class) (t c i d : ℕ) (job : Job) → OnlyAt t c (HasAtWork t i job) classes → list_any (is_of t) (classes d).waiting ≡ false
line-none classes t c i d job at = ⊎_elim
    (λ here. subst (λ (e : ℕ). list_any (is_of t) (classes e).waiting ≡ false) (sym here) (none-waits t (classes c).waiting at.here.line))
    (λ differ. none-waits t (classes d).waiting (at.elsewhere d differ).line) (cases_eq d c)

-- where a process works for a terminal, no request of it waits
none-waiting : (classes : ℕ → Class) (t c i d : ℕ) (job : Job) (place : Place) → Placed classes t place → place ≡ AtWork c i job → list_any (is_of t) (classes d).waiting ≡ false
none-waiting classes t c i d job place placed is = line-none classes t c i d job (subst (λ (p : Place). Placed classes t p) is placed)

-- ---- modes

modes-stay : (sys : Behaviour) (s : State) (entry : Event) (q : ℕ) → (owner_of sys.pair_of entry ≡ Tcp q → ⊥) → (change sys s entry).modes q ≡ s.modes q
modes-stay sys s (Applied t) q other = upd-other s.modes (sys.pair_of t) _ q (λ is. other (ap Tcp (sym is)))
modes-stay sys s (File c i op mode f status) q other = file-cases sys s c i (λ x. x.modes q ≡ s.modes q) refl (λ job call works asks. refl)
modes-stay sys s (Reply c i t fault) q other = reply-any sys s c i t (λ x. x.modes q ≡ s.modes q) fault (λ reply outside. refl) (λ reply inside. refl) (λ x. refl)
modes-stay sys s (FailTcp p primary k) q other =
    let apart : q ≢ p = λ is. other (ap Tcp (sym is)) in
    fail-cases sys s (λ x. x.modes q ≡ s.modes q) p refl (λ paired. upd-other s.modes p _ q apart) (λ member breaks. upd-other s.modes p _ q apart) (λ has. upd-other s.modes p _ q apart) primary
modes-stay sys s (FailServer c i k) q other = process-cases sys s (λ x. x.modes q ≡ s.modes q) c i k refl (λ job works. refl)
modes-stay sys s (Takeover p) q other = upd-other s.modes p _ q (λ is. other (ap Tcp (sym is)))
modes-stay sys s (Raise p) q other = upd-other s.modes p _ q (λ is. other (ap Tcp (sym is)))
modes-stay sys s (End t ending) q other =
    let apart : q ≢ sys.pair_of t = λ is. other (ap Tcp (sym is)) in
    end-any sys s (λ x. x.modes q ≡ s.modes q) t ending (upd-other s.modes (sys.pair_of t) _ q apart) (upd-other s.modes (sys.pair_of t) _ q apart)
modes-stay sys s (Show t phase attempt k) q other = refl
modes-stay sys s (Key t k) q other = refl
modes-stay sys s (CheckStart t) q other = refl
modes-stay sys s (CheckEnd t) q other = refl
modes-stay sys s (CheckCopy t) q other = refl
modes-stay sys s (Begin t n r) q other = refl
modes-stay sys s (Send t n c) q other = refl
modes-stay sys s (Take c i t) q other = refl
modes-stay sys s (Again t n) q other = refl
modes-stay sys s (Commit t n) q other = refl
modes-stay sys s (Back t n) q other = refl
modes-stay sys s (Restart t n cause) q other = refl

module _ (world : Seen) (books : Books) (w : IsWorld world books) where
  pub others-stay : (entry : Event) → CanPush world entry → (q : ℕ) → q < length world.system.tcps → (owner_of (sys_of world).pair_of entry ≡ Tcp q → ⊥) → turns world.system world.kept entry q ≡ false
  others-stay entry can q few other = ⊎_elim
      (λ turn. absurd (turns-mode world books w entry can q few turn (sym (modes-stay (sys_of world) (state_of world) entry q other))))
      (λ stays. stays) (cases_Bool (turns world.system world.kept entry q))

  -- ---- requests

  abbrev state : State
  state = state_of world

  inv : Inv (sys_of world) state
  inv = kept (sys_of world) w.deck world.log w.run

  -- the class of a place
  abbrev class_in : Place → ℕ
  class_in Nowhere = 0
  class_in (InLine c request) = c
  class_in (AtWork c i job) = c

  -- a class that has the request of a terminal is that of its place
  class-is : (t c : ℕ) → has_request t ((sys_of world).processes c) (state.classes c) ≡ true → (place : Place) → Placed state.classes t place → class_in place ≡ c
  class-is t c has Nowhere placed = let none = without-has t ((sys_of world).processes c) (state.classes c) (placed c) in absurd (cc (none, has))
  class-is t c has (InLine d request) placed = ⊎_elim (λ same. sym same)
      (λ differ. let none = without-has t ((sys_of world).processes c) (state.classes c) (placed.elsewhere c differ) in absurd (cc (none, has))) (cases_eq c d)
  class-is t c has (AtWork d i job) placed = ⊎_elim (λ same. sym same)
      (λ differ. let none = without-has t ((sys_of world).processes c) (state.classes c) (placed.elsewhere c differ) in absurd (cc (none, has))) (cases_eq c d)

  pub one-class : (t c d : ℕ) → c < length world.system.classes → d < length world.system.classes → queue.has_request t (world.kept.queues c) ≡ true → queue.has_request t (world.kept.queues d) ≡ true → c ≡ d
  one-class t c d low few first second =
      sym (class-is t c (sym (has-same world.system world.script state world.kept w.stands t c low) ∙ first) (inv.places t) (inv.requests.placed t))
      ∙ class-is t d (sym (has-same world.system world.script state world.kept w.stands t d few) ∙ second) (inv.places t) (inv.requests.placed t)

  -- the job of a process that works for a terminal
  job-for : (t c i : ℕ) → c < length world.system.classes → works_for t (at_process (world.kept.queues c) i) ≡ true → (job : Job) × (((state.classes c).busy i ≡ Some job) × (job.request.terminal ≡ t))
  job-for t c i low works = by (at_process (world.kept.queues c) i) refl works
    where
      by : (o : Option Request) → at_process (world.kept.queues c) i ≡ o → works_for t o ≡ true → (job : Job) × (((state.classes c).busy i ≡ Some job) × (job.request.terminal ≡ t))
      by None none e = absurd (cc e)
      by (Some request) some e =
          let found = job-at world books w c i request low some in
          (found.0, (found.1.0, ap (λ (r : Request). r.terminal) found.1.1 ∙ eqb-true request.terminal t e))

  pub one-process : (t c i d j : ℕ) → c < length world.system.classes → d < length world.system.classes → works_for t (at_process (world.kept.queues c) i) ≡ true → works_for t (at_process (world.kept.queues d) j) ≡ true
      → (c ≡ d) × (i ≡ j)
  one-process t c i d j low few first second =
      let one = job-for t c i low first in
      let two = job-for t d j few second in
      let a : inv.places t ≡ AtWork c i one.0 = place_of_job inv.requests one.1.0 one.1.1 in
      let b : inv.places t ≡ AtWork d j two.0 = place_of_job inv.requests two.1.0 two.1.1 in
      (cc (a, b), cc (a, b))

  -- where a process works for a terminal, no request of it waits at any class
  pub none-in-line : (t c i d : ℕ) → c < length world.system.classes → d < length world.system.classes → works_for t (at_process (world.kept.queues c) i) ≡ true → list_any (is_of t) (world.kept.queues d).waiting ≡ false
  none-in-line t c i d low few works =
      let one = job-for t c i low works in
      let found = there-is world.system.classes d few in
      let same : (world.kept.queues d).waiting ≡ (state.classes d).waiting = ap (λ (q : queue.Queue). q.waiting) (w.stands.classes d found.0 found.1).queue_is in
      ap (list_any (is_of t)) same ∙ none-waiting state.classes t c i d one.0 (inv.places t) (inv.requests.placed t) (place_of_job inv.requests one.1.0 one.1.1)
