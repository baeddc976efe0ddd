-- The entries of pairs and the failures: TAKEOVER and RAISE, with which what may still be entered falls, and FAIL TCP and FAIL
-- SERVER, which give some.
use Rattle.std.proofs.Common.{◌≡◌, ℕ, ◌+◌, ◌<◌, ◌≤◌, ⊎_elim, Bool, is_none, Some, None, refl, ap, sym, subst, ◌∙◌, arith}
use Rattle.std.proofs.lemmas.Bool.{and_left, cases_eq, cond-false, eqb-true, ne_eqb}
use Rattle.pw_base.proofs.Plain.{and-first}
use Rattle.pw_event.specs.declared.event.Event.TheVariants as event
use Rattle.pw_laws.proofs.Lacking.{any_below-some}
use Rattle.pw_laws.proofs.induction.Failed.{fail-cases, process-cases}
use Rattle.pw_laws.proofs.induction.Moving.{View-is}
use Rattle.pw_laws.proofs.induction.Views.{View, view_of}
use Rattle.pw_laws.proofs.requests.Requests.{Nowhere, Place, RequestsOk, requests_cancelled, requests_freed, without_places}
use Rattle.pw_laws.proofs.steps.Living.{ending-stays}
use Rattle.pw_laws.proofs.terms.KeepsPairs.{mode-of-other, mode-of-pair, not-of-pair, of-pair}
use Rattle.pw_onecopy.proofs.Update.{upd-other, upd-same}
use Rattle.pw_onecopy.specs.Behaviour.{Behaviour}
use Rattle.pw_onecopy.specs.IsBehaviour.{IsBehaviour}
use Rattle.pw_onecopy.specs.Update.{upd}
use Rattle.pw_paired.specs.Failure.{is_live_of, is_of_pair, lose_backup, lose_pair, lose_primary, process_fails}
use Rattle.pw_paired.specs.State.{Alone, Down, Gone, PairMode, Paired, Raising, State}
use Rattle.pw_paired.specs.Step.{Fits, change}
use Rattle.pw_run_bounds.specs.Bound.{failure_entries, stretch, sum_below}
use Rattle.pw_run_bounds.proofs.Falling.{fails-most, raised-most, taken-over-most}
use Rattle.pw_run_bounds.proofs.Known.{PairsThere}
use Rattle.pw_run_bounds.proofs.Left.{attempts, left}
use Rattle.pw_run_bounds.proofs.Sums.{sum-less, sum-most, sum-raised}
use Rattle.pw_run_bounds.proofs.Total.{Falls, beside, left_at, rank, ranks}

-- a pair has no more to enter than behind the failure of its primary
rank-few : (mode : PairMode) → rank mode ≤ 2
rank-few Alone = omega arith
rank-few Raising = omega arith
rank-few Paired = omega arith
rank-few Down = omega arith
rank-few Gone = omega arith

module _ (sys : Behaviour) (n m : ℕ) (s : State) (places : ℕ → Place) (ok : RequestsOk sys s.classes places) where
  -- a pair has less to enter
  pair-less : (p : ℕ) (mode : PairMode) → p < sys.pairs → rank mode < rank (s.modes p) → (x : State) → x.modes ≡ upd s.modes p mode → ranks sys x < ranks sys s
  pair-less p mode there less x is =
      subst (λ (f : ℕ → PairMode). sum_below sys.pairs (λ q. rank (f q)) < ranks sys s) (sym is)
      (sum-less sys.pairs (λ q. rank (upd s.modes p mode q)) (λ q. rank (s.modes q)) p there
      (λ q low differ. let same : rank (upd s.modes p mode q) ≡ rank (s.modes q) = ap rank (upd-other s.modes p mode q differ) in omega (arith, same))
      (let same : rank (upd s.modes p mode p) ≡ rank mode = ap rank (upd-same s.modes p mode p refl) in omega (arith, same, less)))

  -- or it has at most two more
  pair-more : (p : ℕ) (mode : PairMode) (x : State) → x.modes ≡ upd s.modes p mode → ranks sys x ≤ ranks sys s + 2
  pair-more p mode x is =
      subst (λ (f : ℕ → PairMode). sum_below sys.pairs (λ q. rank (f q)) ≤ ranks sys s + 2) (sym is)
      (sum-raised sys.pairs 2 (λ q. rank (upd s.modes p mode q)) (λ q. rank (s.modes q)) p
      (λ q differ. let same : rank (upd s.modes p mode q) ≡ rank (s.modes q) = ap rank (upd-other s.modes p mode q differ) in omega (arith, same))
      (let few = rank-few (upd s.modes p mode p) in omega (arith, few)))

  -- no terminal has more to enter, and the pairs have less
  pairs-fall : (x : State) → RequestsOk sys x.classes places → ((j : ℕ) → left_at sys n m x places j ≤ left_at sys n m s places j) → ranks sys x < ranks sys s
      → Falls sys n m s places x 0
  pairs-fall x requests terminals pairs = record {
    next = places;
    requests = requests;
    less = let all = sum-most sys.terminals 0 (left_at sys n m x places) (left_at sys n m s places) (λ j low. let here = terminals j in omega (arith, here)) in omega (arith, all, pairs);
  }

  pub falls-takeover : (p : ℕ) → Fits sys s (event.Takeover p) → PairsThere sys s → Falls sys n m s places (change sys s (event.Takeover p)) 0
  falls-takeover p l there =
      let x : State = change sys s (event.Takeover p) in
      let down : rank (s.modes p) ≡ 2 = ap rank l.down in
      pairs-fall x ok
      (λ j. ⊎_elim
      (λ of. taken-over-most sys n m j (view_of sys s j) (view_of sys x j) (places j) (places j) (ap s.modes of ∙ l.down)
      (ending-stays sys s j (event.Takeover p) l (λ e is. absurd (cc is))) (omega arith))
      (λ differ. beside sys n m s x places places j
      (View-is refl refl (not-of-pair sys p j None (s.memory j) differ) refl
      (cond-false (is_live_of sys p s j) _ (s.terms j) (and_left (is_of_pair sys p j) (is_none (s.terms j).ending) (ne_eqb (sys.pair_of j) p differ))) (mode-of-other sys s p j Alone differ)) refl)
      (cases_eq (sys.pair_of j) p))
      (pair-less p Alone (there p (rw l.down tt)) (omega (arith, down)) x refl)

  pub falls-raise : IsBehaviour sys → (p : ℕ) → Fits sys s (event.Raise p) → Falls sys n m s places (change sys s (event.Raise p)) 0
  falls-raise b p l =
      let x : State = change sys s (event.Raise p) in
      let alone : rank (s.modes p) ≡ 1 = ap rank l.alone in
      let one = any_below-some sys.terminals (is_live_of sys p s) l.wanted in
      let of : sys.pair_of one.0 ≡ p = eqb-true (sys.pair_of one.0) p (and-first (is_of_pair sys p one.0) _ one.2) in
      pairs-fall x ok
      (λ j. ⊎_elim
      (λ of. subst (λ (w : View). left sys n m j w (places j) ≤ left_at sys n m s places j)
      (View-is {v = view_of sys x j} {w = record (view_of sys s j) { mode = Raising; memory = None }} refl refl (sym (of-pair sys p j None (s.memory j) of)) refl refl (sym (mode-of-pair sys s p j Raising of)))
      (raised-most sys n m j (view_of sys s j) (places j) (ap s.modes of ∙ l.alone)))
      (λ differ. beside sys n m s x places places j
      (View-is refl refl (not-of-pair sys p j None (s.memory j) differ) refl refl (mode-of-other sys s p j Raising differ)) refl)
      (cases_eq (sys.pair_of j) p))
      (pair-less p Raising (subst (λ (q : ℕ). q < sys.pairs) of (b.pairs one.0 one.1)) (omega (arith, alone)) x refl)

  -- what a failure leaves of the endings and of the attempts
  abbrev Spares : State → Type 0
  Spares x = (j : ℕ) → ((x.terms j).ending ≡ (s.terms j).ending)
      × (attempts n (sys.max_restarts j) (view_of sys x j) ≤ attempts n (sys.max_restarts j) (view_of sys s j))

  -- a failure gives each terminal a stretch, and a pair two entries
  fails : (x : State) (next : ℕ → Place) → RequestsOk sys x.classes next → ranks sys x ≤ ranks sys s + 2 → Spares x
      → Falls sys n m s places x (failure_entries sys.terminals n m)
  fails x next requests pairs spares = record {
    next = next;
    requests = requests;
    less =
        let all = sum-most sys.terminals (stretch n m) (left_at sys n m x next) (left_at sys n m s places)
        (λ j low. fails-most sys n m j (view_of sys s j) (view_of sys x j) (places j) (next j) (spares j).0 (spares j).1) in
        omega (arith, all, pairs);
  }

  same-pairs : ranks sys s ≤ ranks sys s + 2
  same-pairs = omega arith

  pub falls-fail-tcp : (p : ℕ) (primary : Bool) (k : ℕ) → Spares (change sys s (event.FailTcp p primary k))
      → Falls sys n m s places (change sys s (event.FailTcp p primary k)) (failure_entries sys.terminals n m)
  falls-fail-tcp p primary k =
      fail-cases sys s (λ x. Spares x → Falls sys n m s places x (failure_entries sys.terminals n m)) p
      (fails s places ok same-pairs)
      (λ paired. fails (lose_primary sys p s) (without_places (is_of_pair sys p) places) (requests_cancelled (is_of_pair sys p) ok) (pair-more p Down (lose_primary sys p s) refl))
      (λ member breaks. fails (lose_pair sys p s) (without_places (is_of_pair sys p) places) (requests_cancelled (is_of_pair sys p) ok) (pair-more p Gone (lose_pair sys p s) refl))
      (λ has. fails (lose_backup sys p s) places ok (pair-more p Alone (lose_backup sys p s) refl))
      primary

  pub falls-fail-server : (c p k : ℕ) → Spares (change sys s (event.FailServer c p k))
      → Falls sys n m s places (change sys s (event.FailServer c p k)) (failure_entries sys.terminals n m)
  falls-fail-server c p k =
      process-cases sys s (λ x. Spares x → Falls sys n m s places x (failure_entries sys.terminals n m)) c p k
      (fails s places ok same-pairs)
      (λ job works. fails (process_fails c p k (Some job) s) (upd places job.request.terminal Nowhere) (requests_freed ok works refl) same-pairs)
