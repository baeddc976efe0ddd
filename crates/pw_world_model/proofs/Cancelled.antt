-- Which actors an entry touches, one by one.
use Rattle.std.proofs.Common.{◌≡◌, ℕ, zero, suc, ◌-◌, ◌<◌, ◌==◌, ◌&&◌, ◌||◌, List, [], ◌∷◌, length, map, Option, None, Bool, true, false, refl, sym, ap, subst, ◌∙◌, arith, ⊎_elim}
use Rattle.std.specs.Prelude.{IsTrue, if◌then◌else◌, slice_index_or}
use Rattle.std.specs.List.{list_any}
use Rattle.std.proofs.lemmas.Bool.{cases_eq, eq-eqb, ne_eqb, or_left, or_right, false_from_ne_true, and_right}
use Rattle.pw_base.proofs.Plain.{or-first-false, or-second-false, eqb-swap}
use Rattle.pw_class.specs.Queue as queue
use Rattle.pw_class.specs.Queue.{IsIn, Queue, at_process, class_of_place, is_of, works_for}
use Rattle.pw_class.specs.declared.request.RequestPlace.{RequestPlace}
use Rattle.pw_class.specs.declared.request.RequestPlace.TheVariants.{Waiting, Busy}
use Rattle.pw_class.specs.declared.request.Request.{Request}
use Rattle.pw_event.specs.Due.{owner_of}
use Rattle.pw_event.specs.declared.event.Event.{Event}
use Rattle.pw_event.specs.declared.script.Owner.TheVariants as owner
use Rattle.pw_world_state.specs.Entered.{tcp_of}
use Rattle.pw_world_state.specs.TerminalTests.{is_out}
use Rattle.pw_world_model.specs.Actors.{IsActor, is_same_actor}
use Rattle.pw_world_state.specs.Members.{members_of}
use Rattle.pw_world_model.specs.Pushed.{CanPush}
use Rattle.pw_world_model.specs.Seen.{Seen, sys_of}
use Rattle.pw_world_model.specs.Touches.{is_at, tells_of_pair, touches, turns}
use Rattle.pw_world_model.specs.Touching.{actors_at, actors_of_pair, touches_at}
use Rattle.pw_world_model.specs.Worlds.{Books, IsWorld}
use Rattle.pw_world_state.proofs.Members.{members-are}
use Rattle.pw_world_model.proofs.Queues.{none-in-line, one-class, one-process, others-stay}
use Rattle.pw_world_state.proofs.Agreeing.{pair-among}
use Rattle.pw_paired.specs.Units.{any_below}
use Rattle.pw_actor_queue.specs.declared.actor.Actor.{Actor}
use Rattle.pw_actor_queue.specs.declared.actor.Actor.TheVariants as actor
use Rattle.pw_tmf.specs.Leaving.{is_among}

-- ---- tests

or-none : (a b : Bool) → b ≡ false → a ≡ (a || b)
or-none true b e = refl
or-none false b e = sym e

and-one : (a b : Bool) → b ≡ true → (a && b) ≡ a
and-one true b e = e
and-one false b e = refl

none-same : (own : Actor) (ts : List ℕ) → ((t : ℕ) → is_same_actor own (actor.Terminal t) ≡ false) → list_any (is_same_actor own) (map actor.Terminal ts) ≡ false
none-same own [] none = refl
none-same own (t ∷ ts) none = let first = none t in let later = none-same own ts none in rw (first, later) refl

same-terminal : (t : ℕ) (ts : List ℕ) → list_any (is_same_actor (actor.Terminal t)) (map actor.Terminal ts) ≡ is_among ts t
same-terminal t [] = refl
same-terminal t (u ∷ ts) = ap (λ b. b || list_any (is_same_actor (actor.Terminal t)) (map actor.Terminal ts)) (eqb-swap t u) ∙ ap (λ b. (u == t) || b) (same-terminal t ts)

tcp-same : {p q : ℕ} → owner.Tcp p ≡ owner.Tcp q → p ≡ q
tcp-same e = cc e

tcp-class : {p c : ℕ} → owner.Class c ≡ owner.Tcp p → ⊥
tcp-class e = absurd (cc e)

pub true-is : (b : Bool) → IsTrue b → b ≡ true
true-is b is = is

module _ (world : Seen) (books : Books) (w : IsWorld world books) where
  module _ (entry : Event) (can : CanPush world entry) where
    abbrev turned : ℕ → Bool
    turned p = turns world.system world.kept entry p

    -- only the owner's pair turns
    turns-own : (p q : ℕ) → owner_of (sys_of world).pair_of entry ≡ owner.Tcp p → q < length world.system.tcps → turned q ≡ (turned p && (q == p))
    turns-own p q of few = ⊎_elim
        (λ same. ap turned same ∙ sym (and-one (turned p) (q == p) (eq-eqb q p same)))
        (λ differ. others-stay world books w entry can q few (λ is. differ (tcp-same (sym is ∙ of))) ∙ sym (and_right (turned p) (q == p) (ne_eqb q p differ)))
        (cases_eq q p)

    pub by-pair : (p : ℕ) (own : Actor) → IsActor world.system own → owner_of (sys_of world).pair_of entry ≡ owner.Tcp p
        → touches world.system world.kept entry own
        ≡ (touches_at world.system world.kept entry own || (turned p && list_any (is_same_actor own) (actors_of_pair p (members_of world.system p))))
    by-pair p (actor.Terminal t) low of =
        let q : ℕ = tcp_of world.system t in
        let of-pair : (q == p) ≡ is_among (members_of world.system p) t = pair-among world.system world.script p (members_of world.system p) (members-are world.system p) t low in
        let those : (q == p) ≡ list_any (is_same_actor (actor.Terminal t)) (map actor.Terminal (members_of world.system p)) = of-pair ∙ sym (same-terminal t (members_of world.system p)) in
        ap (λ b. is_at world.kept t entry || b) (turns-own p q of (w.deck.pairs t low) ∙ ap (λ b. turned p && b) those)
    by-pair p (actor.Pair q) few of =
        let none : list_any (is_same_actor (actor.Pair q)) (map actor.Terminal (members_of world.system p)) ≡ false = none-same (actor.Pair q) (members_of world.system p) (λ t. refl) in
        ap (λ b. tells_of_pair world.system world.kept q entry || b)
        (turns-own p q of few ∙ ap (λ b. turned p && b) (or-none (q == p) (list_any (is_same_actor (actor.Pair q)) (map actor.Terminal (members_of world.system p))) none))
    by-pair p (actor.Process c i) is of =
        or-none _ (turned p && list_any (is_same_actor (actor.Process c i)) (actors_of_pair p (members_of world.system p)))
        (and_right (turned p) (list_any (is_same_actor (actor.Process c i)) (map actor.Terminal (members_of world.system p))) (none-same (actor.Process c i) (members_of world.system p) (λ t. refl)))
    by-pair p (actor.Class c) is of =
        or-none _ (turned p && list_any (is_same_actor (actor.Class c)) (actors_of_pair p (members_of world.system p)))
        (and_right (turned p) (list_any (is_same_actor (actor.Class c)) (map actor.Terminal (members_of world.system p))) (none-same (actor.Class c) (members_of world.system p) (λ t. refl)))

    pub by-class : (c : ℕ) (own : Actor) → IsActor world.system own → owner_of (sys_of world).pair_of entry ≡ owner.Class c
        → touches world.system world.kept entry own ≡ touches_at world.system world.kept entry own
    by-class c (actor.Terminal t) low of =
        sym (or-none (is_at world.kept t entry) (turned (tcp_of world.system t)) (others-stay world books w entry can (tcp_of world.system t) (w.deck.pairs t low) (λ is. tcp-class (sym of ∙ is))))
    by-class c (actor.Pair q) few of =
        sym (or-none (tells_of_pair world.system world.kept q entry) (turned q) (others-stay world books w entry can q few (λ is. tcp-class (sym of ∙ is))))
    by-class c (actor.Process d i) is of = refl
    by-class c (actor.Class d) is of = refl

  -- ---- requests

  abbrev queues : ℕ → Queue
  queues = world.kept.queues

  -- a process that works for a terminal has its request
  at-busy : (t : ℕ) (busy : List (Option Request)) (k : ℕ) → works_for t (slice_index_or busy k None) ≡ true → list_any (works_for t) busy ≡ true
  at-busy t [] zero e = absurd (cc e)
  at-busy t [] (suc k) e = absurd (cc e)
  at-busy t (o ∷ os) zero e = or_left (works_for t o) (list_any (works_for t) os) e
  at-busy t (o ∷ os) (suc k) e = or_right (works_for t o) (list_any (works_for t) os) (at-busy t os k e)

  works-has : (t i : ℕ) (q : Queue) → works_for t (at_process q i) ≡ true → queue.has_request t q ≡ true
  works-has t zero q e = absurd (cc e)
  works-has t (suc i) q e =
      let same : suc i - 1 ≡ i = omega arith in
      let some : (suc i == 0) ≡ false = ne_eqb (suc i) 0 (λ is. omega (arith, is)) in
      let there : works_for t (slice_index_or q.busy (suc i - 1) None) ≡ true = subst (λ b. works_for t (if b then None else slice_index_or q.busy (suc i - 1) None) ≡ true) some e in
      let at : works_for t (slice_index_or q.busy i None) ≡ true = subst (λ k. works_for t (slice_index_or q.busy k None) ≡ true) same there in
      or_right (list_any (is_of t) q.waiting) (list_any (works_for t) q.busy) (at-busy t q.busy i at)

  is-in-has : (t : ℕ) (place : RequestPlace) → IsIn (queues (class_of_place place)) (class_of_place place) t place → queue.has_request t (queues (class_of_place place)) ≡ true
  is-in-has t (Waiting d) at = or_left (list_any (is_of t) (queues d).waiting) (list_any (works_for t) (queues d).busy) (true-is _ at.1)
  is-in-has t (Busy d j) at = works-has t j (queues d) (true-is _ at.1)

  same-class : (c : ℕ) (place : RequestPlace) → (c == class_of_place place) ≡ list_any (is_same_actor (actor.Class c)) (actors_at place)
  same-class c (Waiting d) = or-none (c == d) false refl
  same-class c (Busy d j) = or-none (c == d) false refl

  pub of-request : (t : ℕ) (place : RequestPlace) (c : ℕ) → class_of_place place < length world.system.classes → c < length world.system.classes
      → IsIn (queues (class_of_place place)) (class_of_place place) t place → queue.has_request t (queues c) ≡ list_any (is_same_actor (actor.Class c)) (actors_at place)
  of-request t place c few low at =
      let d : ℕ = class_of_place place in
      let has : queue.has_request t (queues d) ≡ true = is-in-has t place at in
      let mine : queue.has_request t (queues c) ≡ (c == d) = ⊎_elim
      (λ same. ap (λ x. queue.has_request t (queues x)) same ∙ has ∙ sym (eq-eqb c d same))
      (λ differ. false_from_ne_true (queue.has_request t (queues c)) (λ e. differ (one-class world books w t c d low few e has)) ∙ sym (ne_eqb c d differ))
      (cases_eq c d) in
      mine ∙ same-class c place

  pub of-process : (t : ℕ) (place : RequestPlace) (c i : ℕ) → class_of_place place < length world.system.classes → c < length world.system.classes
      → IsIn (queues (class_of_place place)) (class_of_place place) t place → works_for t (at_process (queues c) i) ≡ list_any (is_same_actor (actor.Process c i)) (actors_at place)
  of-process t (Waiting d) c i few low at =
      false_from_ne_true (works_for t (at_process (queues c) i))
      (λ e. let none : list_any (is_of t) (queues d).waiting ≡ false = none-in-line world books w t c i d low few e in let some : list_any (is_of t) (queues d).waiting ≡ true = true-is _ at.1 in absurd (cc (none, some)))
  of-process t (Busy d j) c i few low at =
      let works : works_for t (at_process (queues d) j) ≡ true = true-is _ at.1 in
      let two : works_for t (at_process (queues c) i) ≡ ((c == d) && (i == j)) = ⊎_elim
      (λ one. ⊎_elim
      (λ other. ap (λ x. works_for t (at_process (queues x) i)) one ∙ (ap (λ k. works_for t (at_process (queues d) k)) other ∙ (works ∙ sym (and-one (c == d) (i == j) (eq-eqb i j other) ∙ eq-eqb c d one))))
      (λ differ. false_from_ne_true _ (λ e. differ ((one-process world books w t c i d j low few e works).1)) ∙ sym (and_right (c == d) (i == j) (ne_eqb i j differ)))
      (cases_eq i j))
      (λ differ. false_from_ne_true _ (λ e. differ ((one-process world books w t c i d j low few e works).0)) ∙ let apart : (c == d) ≡ false = ne_eqb c d differ in sym (ap (λ b. b && (i == j)) apart))
      (cases_eq c d) in
      two ∙ or-none ((c == d) && (i == j)) false refl

  none-below : (n : ℕ) (has : ℕ → Bool) → any_below n has ≡ false → (c : ℕ) → c < n → has c ≡ false
  none-below zero has none c low = absurd (omega (arith, low))
  none-below (suc n) has none c low = ⊎_elim
      (λ same. ap has same ∙ or-second-false (any_below n has) (has n) none)
      (λ differ. none-below n has (or-first-false (any_below n has) (has n) none) c (omega (arith, low, differ)))
      (cases_eq c n)

  pub of-none : (t c : ℕ) → c < length world.system.classes → is_out world.system world.kept t ≡ false → queue.has_request t (queues c) ≡ false
  of-none t c low inside = none-below (length world.system.classes) (λ d. queue.has_request t (queues d)) inside c low

  pub of-idle : (t c i : ℕ) → c < length world.system.classes → is_out world.system world.kept t ≡ false → works_for t (at_process (queues c) i) ≡ false
  of-idle t c i low inside = false_from_ne_true _ (λ e. let has = works-has t i (queues c) e in let none = of-none t c low inside in absurd (cc (none, has)))
