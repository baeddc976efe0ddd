-- The terminals of a pair, one after the other.
use Rattle.std.proofs.Common.{◌≡◌, ⊎_elim, ℕ, zero, suc, ◌+◌, ◌<◌, ◌≤◌, ◌==◌, ◌&&◌, ◌||◌, Bool, true, false, List, [], ◌∷◌, length, take, map, get_or, Option, Some, None, refl, ap, sym, subst, ◌∙◌, cond, arith}
use Rattle.std.proofs.lemmas.Bool.{and_from, and_parts, eqb-true, true≢false}
use Rattle.std.proofs.lemmas.List.{take_all}
use Rattle.std.proofs.lemmas.List.Elements.{All-contains, All-head, All-more, All-tail, All-weaker}
use Rattle.std.proofs.lemmas.Option.{slice_get_cases, slice_get_within}
use Rattle.std.specs.Prelude.{All, Contains, IfSome, IsSome}
use Rattle.std.specs.List.{list_any}
use Rattle.std.specs.Option.{option_map}
use Rattle.pw_code.specs.declared.system.System.{System}
use Rattle.pw_code.specs.declared.system.TermInfo.{TermInfo}
use Rattle.pw_event.specs.declared.event.Event.{Event}
use Rattle.pw_event.specs.declared.event.Event.TheVariants.{Applied}
use Rattle.pw_code_meaning.specs.OfSystem.{number_by}
use Rattle.pw_world_store.specs.Keeps.{terminals_in}
use Rattle.pw_world_state.specs.Entered.{tcp_of}
use Rattle.pw_world_state.specs.Kept.{Kept}
use Rattle.pw_world_state.specs.Members.{AreOf, IsOf}
use Rattle.pw_world_state.specs.PairTests.{may_apply, may_copy, may_raise, may_take_over}
use Rattle.pw_world_state.specs.TerminalTests.{seat_at}
use Rattle.pw_pair.specs.Pairs.{SeenPair, passes}
use Rattle.pw_pair.specs.Seats.{is_waiting}
use Rattle.pw_pair.specs.declared.seat.BackupSeat.{BackupSeat}
use Rattle.pw_actor_queue.specs.declared.actor.Actor.TheVariants.{Pair}
use Rattle.pw_entry_tests.proofs.NoStep.{step-of-pair}
use Rattle.pw_entry_tests.specs.Members.{IsBuiltFound, IsMember, IsPassed}
use Rattle.pw_entry_tests.specs.Steps.{IsStepFound, IsStepOf, IsUnbuilt}

-- a terminal has a message in flight that is not built
abbrev is_unbuilt : System → Kept → ℕ → Bool
is_unbuilt system kept t = may_apply system kept t && passes is_waiting (seat_at system kept t)

module _ (system : System) (kept : Kept) (p : ℕ) where
  -- one that is noted
  pub record IsNoted (t : ℕ) : Type 0 where
    pub member : IsMember system p t
    pub applies : may_apply system kept t ≡ true
    pub waits : passes is_waiting (seat_at system kept t) ≡ true

  -- behind some terminals: they have nothing else, and one that has an APPLIED is noted
  pub record IsBehind (seats : List BackupSeat) (unbuilt : Option ℕ) : Type 0 where
    pub passed : All (λ (seat : BackupSeat). IsPassed system kept seat.terminal) seats
    pub noted : IfSome unbuilt IsNoted
    pub all : All (λ (seat : BackupSeat). may_apply system kept seat.terminal ≡ true → IsSome unbuilt) seats

  noted-step : (t : ℕ) → IsNoted t → IsStepOf system kept (Pair p) (Applied t)
  noted-step t h = record { own = ap Pair h.member.of_pair; there = h.member.there; read = tt; passes = h.applies }

  -- what is found for a terminal of the pair is a step
  pub built-step : (t : ℕ) → tcp_of system t ≡ p → (entry : Event) → IsBuiltFound system kept (tcp_of system t) t (Some entry)
      → IsStepFound system kept (Pair p) (Some entry)
  built-step t of_pair entry h = (
    subst (λ q. IsStepOf system kept (Pair q) entry) of_pair h.0,
    λ unbuilt other step. absurd (h.1 unbuilt),
  )

  -- ---- one terminal more

  note-it : (t : ℕ) (b : Bool) (unbuilt : Option ℕ) → (b ≡ true → IsNoted t) → IfSome unbuilt IsNoted → IfSome (cond b (Some t) unbuilt) IsNoted
  note-it t true unbuilt is h = is refl
  note-it t false unbuilt is h = h

  still-some : (t : ℕ) (b : Bool) (unbuilt : Option ℕ) → IsSome unbuilt → IsSome (cond b (Some t) unbuilt)
  still-some t true unbuilt h = refl
  still-some t false unbuilt h = h

  some-now : (t : ℕ) (b : Bool) (unbuilt : Option ℕ) → b ≡ true → IsSome (cond b (Some t) unbuilt)
  some-now t true unbuilt e = refl
  some-now t false unbuilt e = cc e

  module _ (seats : List BackupSeat) (i : ℕ) (seat : BackupSeat) (lt : i < length seats) (is : seat ≡ get_or seats i seat) (unbuilt : Option ℕ)
      (member : IsMember system p seat.terminal) (here : IsPassed system kept seat.terminal) where
    behind-here : (new : Option ℕ) → new ≡ cond (is_unbuilt system kept seat.terminal) (Some seat.terminal) unbuilt
        → may_apply system kept seat.terminal ≡ true → IsSome new
    behind-here new e applies =
        subst (λ (o : Option ℕ). IsSome o) (sym e)
        (some-now seat.terminal (is_unbuilt system kept seat.terminal) unbuilt (and_from _ _ applies (here.applies applies)))

    behind-before : (new : Option ℕ) → new ≡ cond (is_unbuilt system kept seat.terminal) (Some seat.terminal) unbuilt → IsSome unbuilt
        → IsSome new
    behind-before new e known =
        subst (λ (o : Option ℕ). IsSome o) (sym e) (still-some seat.terminal (is_unbuilt system kept seat.terminal) unbuilt known)

    pub behind-more : IsBehind (take i seats) unbuilt → (new : Option ℕ)
        → new ≡ cond (is_unbuilt system kept seat.terminal) (Some seat.terminal) unbuilt → IsBehind (take (i + 1) seats) new
    behind-more h new e = record {
      passed =
          All-more (λ (x : BackupSeat). IsPassed system kept x.terminal) seats i seat lt h.passed
          (subst (λ (x : BackupSeat). IsPassed system kept x.terminal) is here);
      noted =
          subst (λ (o : Option ℕ). IfSome o IsNoted) (sym e)
          (note-it seat.terminal (is_unbuilt system kept seat.terminal) unbuilt
          (λ yes. let both = and_parts _ _ yes in record { member = member; applies = both.0; waits = both.1 }) h.noted);
      all =
          All-more (λ (x : BackupSeat). may_apply system kept x.terminal ≡ true → IsSome new) seats i seat lt
          (All-weaker (λ (x : BackupSeat). may_apply system kept x.terminal ≡ true → IsSome unbuilt)
          (λ (x : BackupSeat). may_apply system kept x.terminal ≡ true → IsSome new) (λ x known applies. behind-before new e (known applies))
          (take i seats) h.all)
          (subst (λ (x : BackupSeat). may_apply system kept x.terminal ≡ true → IsSome new) is (behind-here new e));
    }

  -- ---- all of them

  among : (t : ℕ) (seats : List BackupSeat) → list_any (λ one. one == t) (map (λ (seat : BackupSeat). seat.terminal) seats) ≡ true
      → (seat : BackupSeat) × (Contains seats seat × (seat.terminal ≡ t))
  among t seats h = find-it seats h
    where
      later : (x : BackupSeat) (xs : List BackupSeat) → (seat : BackupSeat) × (Contains xs seat × (seat.terminal ≡ t)) → (seat : BackupSeat) × (Contains (x ∷ xs) seat × (seat.terminal ≡ t))
      later x xs found = (found.0, ((suc found.1.0.0, omega (arith, found.1.0.1), found.1.0.2), found.1.1))

      step : (x : BackupSeat) (xs : List BackupSeat) (b : Bool) → (x.terminal == t) ≡ b
          → ((list_any (λ one. one == t) (map (λ (seat : BackupSeat). seat.terminal) xs) ≡ true) → (seat : BackupSeat) × (Contains xs seat × (seat.terminal ≡ t)))
          → (b || list_any (λ one. one == t) (map (λ (seat : BackupSeat). seat.terminal) xs)) ≡ true
          → (seat : BackupSeat) × (Contains (x ∷ xs) seat × (seat.terminal ≡ t))
      step x xs true e rest h = (x, ((0, omega arith, refl), eqb-true x.terminal t e))
      step x xs false e rest h = later x xs (rest h)

      find-it : (xs : List BackupSeat) → list_any (λ one. one == t) (map (λ (seat : BackupSeat). seat.terminal) xs) ≡ true
          → (seat : BackupSeat) × (Contains xs seat × (seat.terminal ≡ t))
      find-it [] h = cc h
      find-it (x ∷ xs) h = step x xs (x.terminal == t) refl (λ e. find-it xs e) h

  -- behind the last of them
  pub behind-all : (seats : List BackupSeat) (i : ℕ) (unbuilt : Option ℕ) → length seats ≤ i → IsBehind (take i seats) unbuilt → IsBehind seats unbuilt
  behind-all seats i unbuilt past h = subst (λ xs. IsBehind xs unbuilt) (take_all i seats past) h

  module _ (seats : List BackupSeat) (pair : SeenPair) (same : seats ≡ pair.seats) (members : AreOf system p (terminals_in pair)) where
    own : AreOf system p (map (λ (seat : BackupSeat). seat.terminal) seats)
    own = subst (λ xs. AreOf system p (map (λ (seat : BackupSeat). seat.terminal) xs)) (sym same) members

    -- the terminals of its seats are its own, and each of its own has a seat
    pub member-of-seat : (seat : BackupSeat) (i : ℕ) → i < length seats → seat ≡ get_or seats i seat → IsMember system p seat.terminal
    member-of-seat seat i lt is =
        let found : IsOf system p seat.terminal = of-all (λ (x : BackupSeat). x.terminal) seats i seat lt is own.each in
        record {
          there = slice_get_within system.terminals seat.terminal found.info found.here;
          of_pair = ap (number_by (λ (info : TermInfo). info.tcp)) found.here ∙ found.of_pair;
        }
      where
        of-all : (f : BackupSeat → ℕ) (xs : List BackupSeat) (k : ℕ) (x : BackupSeat) → k < length xs → x ≡ get_or xs k x → All (IsOf system p) (map f xs) → IsOf system p (f x)
        of-all f [] k x low e all = absurd (omega (arith, low))
        of-all f (y ∷ ys) zero x low e all = subst (λ z. IsOf system p (f z)) (sym e) (All-head (IsOf system p) (f y) (map f ys) all)
        of-all f (y ∷ ys) (suc k) x low e all = of-all f ys k x (omega (arith, low)) e (All-tail (IsOf system p) (f y) (map f ys) all)

    module _ (taken : may_take_over kept p ≡ false) (raised : may_raise system kept p ≡ false) (unbuilt : Option ℕ) (h : IsBehind seats unbuilt) where
      seat-for : (t : ℕ) → IsMember system p t → (seat : BackupSeat) × (Contains seats seat × (seat.terminal ≡ t))
      seat-for t m =
          ⊎_elim
          (λ got.
          among t seats
          (own.every t got.0 got.2 (sym (ap (number_by (λ (info : TermInfo). info.tcp)) got.2) ∙ m.of_pair)))
          (λ none. let past = none.0 in let low = m.there in absurd (omega (arith, past, low))) (slice_get_cases system.terminals t).1

      passed-by : (t : ℕ) → IsMember system p t → IsPassed system kept t
      passed-by t m =
          let found = seat-for t m in
          subst (IsPassed system kept) found.1.1
          (All-contains (λ (x : BackupSeat). IsPassed system kept x.terminal) seats found.0 h.passed found.1.0)

      noted-by : (t : ℕ) → IsMember system p t → may_apply system kept t ≡ true → IsSome unbuilt
      noted-by t m =
          let found = seat-for t m in
          subst (λ x. may_apply system kept x ≡ true → IsSome unbuilt) found.1.1
          (All-contains (λ (x : BackupSeat). may_apply system kept x.terminal ≡ true → IsSome unbuilt) seats found.0 h.all found.1.0)

      no-copy : (t : ℕ) → IsMember system p t → may_copy system kept t ≡ true → ⊥
      no-copy t m passes = true≢false (sym passes ∙ (passed-by t m).copies)

      pub found-of-pair : IsStepFound system kept (Pair p) (option_map Applied unbuilt)
      found-of-pair = pick unbuilt refl
        where
          pick : (one : Option ℕ) → unbuilt ≡ one → IsStepFound system kept (Pair p) (option_map Applied one)
          pick None e =
              step-of-pair system kept p taken raised (λ any. ⊥) no-copy
              (λ t m yes. cc (subst (λ (o : Option ℕ). IsSome o) e (noted-by t m yes)))
          pick (Some t) e = (
            noted-step t (subst (λ (o : Option ℕ). IfSome o IsNoted) e h.noted),
            λ waits other step.
                step-of-pair system kept p taken raised (IsUnbuilt system kept) no-copy (λ o m yes. (passed-by o m).applies yes) other step,
          )
