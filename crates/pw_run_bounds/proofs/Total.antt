-- What all terminals and pairs may still enter, and an entry of one terminal, with which it falls.
use Rattle.std.proofs.Common.{◌≡◌, ◌≢◌, ℕ, ◌+◌, ◌<◌, ◌≤◌, ⊎_elim, Bool, true, false, refl, ap, sym, ◌∙◌, arith}
use Rattle.std.proofs.lemmas.Bool.{cases_eq, cond-false, ne_eqb}
use Rattle.pw_laws.proofs.induction.Moving.{View-is}
use Rattle.pw_laws.proofs.induction.Views.{View, view_of}
use Rattle.pw_laws.proofs.requests.Requests.{Place, Nowhere, RequestsOk, without_places}
use Rattle.pw_laws.proofs.terms.KeepsPairs.{mode-of-other}
use Rattle.pw_onecopy.proofs.Update.{upd_elim, upd-same}
use Rattle.pw_onecopy.specs.Behaviour.{Behaviour}
use Rattle.pw_paired.specs.Raising.{lacks_one, settle_mode, settled_mode}
use Rattle.pw_paired.specs.State.{Alone, Down, Gone, PairMode, Paired, Raising, State}
use Rattle.pw_paired.specs.Units.{only}
use Rattle.pw_run_bounds.specs.Bound.{sum_below}
use Rattle.pw_run_bounds.proofs.Falling.{settled-same}
use Rattle.pw_run_bounds.proofs.Left.{left}
use Rattle.pw_run_bounds.proofs.Sums.{sum-less, sum-most}

-- what a pair may still enter where nothing fails: a TAKEOVER and a RAISE
abbrev pub rank : PairMode → ℕ
rank Alone = 1
rank Raising = 0
rank Paired = 0
rank Down = 2
rank Gone = 0

-- of all pairs
abbrev pub ranks : Behaviour → State → ℕ
ranks sys s = sum_below sys.pairs (λ p. rank (s.modes p))

-- of a terminal in a state
abbrev pub left_at : Behaviour → ℕ → ℕ → State → (ℕ → Place) → ℕ → ℕ
left_at sys n m s places t = left sys n m t (view_of sys s t) (places t)

-- of all terminals and pairs
abbrev pub total : Behaviour → ℕ → ℕ → State → (ℕ → Place) → ℕ
total sys n m s places = sum_below sys.terminals (left_at sys n m s places) + ranks sys s

-- Behind an entry the requests are at these places, and what may still be entered has fallen, but for so much that a
-- failure gives.
pub record Falls (sys : Behaviour) (n m : ℕ) (s : State) (places : ℕ → Place) (x : State) (more : ℕ) : Type 0 where
  pub next : ℕ → Place
  pub requests : RequestsOk sys x.classes next
  pub less : total sys n m x next + 1 ≤ total sys n m s places + more

settled-rank : (mode : PairMode) (lacks : Bool) → rank (settled_mode mode lacks) ≡ rank mode
settled-rank Alone lacks = refl
settled-rank Raising true = refl
settled-rank Raising false = refl
settled-rank Paired lacks = refl
settled-rank Down lacks = refl
settled-rank Gone lacks = refl

module _ (sys : Behaviour) (n m : ℕ) where
  -- a pair that may be up to date now has as much to enter
  pub settled-ranks : (x : State) (p : ℕ) → ranks sys (settle_mode sys p x) ≤ ranks sys x
  settled-ranks x p =
      let all = sum-most sys.pairs 0 (λ q. rank ((settle_mode sys p x).modes q)) (λ q. rank (x.modes q))
      (λ q low. let same : rank ((settle_mode sys p x).modes q) ≡ rank (x.modes q) =
      upd_elim x.modes p (settled_mode (x.modes p) (lacks_one sys p x)) q (λ (o : PairMode). rank o ≡ rank (x.modes q))
      (λ is. settled-rank (x.modes p) (lacks_one sys p x) ∙ ap (λ (r : ℕ). rank (x.modes r)) (sym is)) (λ _. refl) in omega (arith, same)) in
      omega (arith, all)

  -- and so have its terminals
  pub settled-left : (x : State) (p j : ℕ) (places : ℕ → Place) → left_at sys n m (settle_mode sys p x) places j ≡ left_at sys n m x places j
  settled-left x p j places =
      let mode : PairMode = settled_mode (x.modes p) (lacks_one sys p x) in
      ⊎_elim
      (λ of.
      let view : view_of sys (settle_mode sys p x) j ≡ record (view_of sys x j) { mode = settled_mode (x.modes (sys.pair_of j)) (lacks_one sys p x) } =
      View-is refl refl refl refl refl (upd-same x.modes p mode (sys.pair_of j) of ∙ ap (λ (q : ℕ). settled_mode (x.modes q) (lacks_one sys p x)) (sym of)) in
      ap (λ (v : View). left sys n m j v (places j)) view ∙ settled-same sys n m j (view_of sys x j) (places j) (lacks_one sys p x))
      (λ differ.
      let view : view_of sys (settle_mode sys p x) j ≡ view_of sys x j = View-is refl refl refl refl refl (mode-of-other sys x p j mode differ) in
      ap (λ (v : View). left sys n m j v (places j)) view)
      (cases_eq (sys.pair_of j) p)

  -- an entry leaves the terminal and its request as they were
  pub beside : (s x : State) (places next : ℕ → Place) (j : ℕ) → view_of sys x j ≡ view_of sys s j → next j ≡ places j
      → left_at sys n m x next j ≤ left_at sys n m s places j
  beside s x places next j view place =
      let same : left_at sys n m x next j ≡ left_at sys n m s places j =
      ap (λ (v : View). left sys n m j v (next j)) view ∙ ap (left sys n m j (view_of sys s j)) place in
      omega (arith, same)

  -- an entry of one terminal
  pub own-falls : (s x : State) (places next : ℕ → Place) (own : ℕ) → own < sys.terminals → RequestsOk sys x.classes next → ranks sys x ≤ ranks sys s
      → ((j : ℕ) → j ≢ own → left_at sys n m x next j ≤ left_at sys n m s places j)
      → left_at sys n m x next own < left_at sys n m s places own → Falls sys n m s places x 0
  own-falls s x places next own known requests pairs others less = record {
    next = next;
    requests = requests;
    less = let all = sum-less sys.terminals (left_at sys n m x next) (left_at sys n m s places) own known (λ j low differ. others j differ) less in omega (arith, all, pairs);
  }

-- another terminal's request is not cancelled
pub spared : (places : ℕ → Place) (own j : ℕ) → j ≢ own → without_places (only own) places j ≡ places j
spared places own j differ = cond-false (only own j) Nowhere (places j) (ne_eqb j own differ)
