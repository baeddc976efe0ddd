-- No run is longer than its bound.
use Rattle.std.proofs.Common.{◌≡◌, ℕ, zero, suc, ◌+◌, ◌*◌, ◌-◌, ◌≤◌, List, [], ◌∷◌, ◌++◌, length, length-append, Some, None, refl, ap, subst, ◌∙◌, arith}
use Rattle.pw_event.specs.declared.event.Event.{Event}
use Rattle.pw_event.specs.declared.event.Event.TheVariants as event
use Rattle.pw_laws.proofs.BeginsOnce.{few-restarts}
use Rattle.pw_laws.proofs.induction.Runs.{holds-behind, kept}
use Rattle.pw_laws.proofs.kept.Kept.{Inv}
use Rattle.pw_laws.proofs.requests.Requests.{Nowhere, Place, RequestsOk, requests_starting}
use Rattle.pw_laws.proofs.restarts.Counting.{weight}
use Rattle.pw_laws.proofs.restarts.Failures.{fails-more, fails_in, few-fails}
use Rattle.pw_laws.proofs.restarts.Few.{log-from}
use Rattle.pw_laws.proofs.steps.Living.{ending-stays, live-ok}
use Rattle.pw_laws.specs.serial.Guarded.{is_fail}
use Rattle.pw_onecopy.specs.Behaviour.{Behaviour}
use Rattle.pw_onecopy.specs.IsBehaviour.{IsBehaviour}
use Rattle.pw_paired.specs.State.{OpenUnit, State, starting}
use Rattle.pw_paired.specs.Step.{Fits, IsRun, Legal, after, effect}
use Rattle.std.proofs.lemmas.Nat.{mul-le}
use Rattle.pw_run_bounds.specs.Bound.{ProgramsEnd, failure_entries, run_bound, stretch, sum_below, terminal_entries}
use Rattle.pw_run_bounds.proofs.Entries as entry
use Rattle.pw_run_bounds.proofs.Known.{FliesLive, PairsThere, known}
use Rattle.pw_run_bounds.proofs.Left.{stretch-is}
use Rattle.pw_run_bounds.proofs.Open.{OpenLow, open-low}
use Rattle.pw_run_bounds.proofs.Pairs.{falls-fail-server, falls-fail-tcp, falls-raise, falls-takeover}
use Rattle.pw_run_bounds.proofs.Served.{JobsServed, jobs-served}
use Rattle.pw_run_bounds.proofs.Sums.{sum-most}
use Rattle.pw_run_bounds.proofs.Total.{Falls, left_at, total}

module _ (sys : Behaviour) (b : IsBehaviour sys) (n m : ℕ) (short : ProgramsEnd sys n m) where
  -- what an entry gives
  abbrev given : Event → ℕ
  given one = weight (is_fail one) * failure_entries sys.terminals n m

  module _ (s : State) (i : Inv sys s) (places : ℕ → Place)
      (ok : RequestsOk sys s.classes places) (few : (t : ℕ) (unit : OpenUnit) → s.units t ≡ Some unit → unit.restarts ≤ sys.max_restarts t)
      (live : (t : ℕ) (unit : OpenUnit) → s.units t ≡ Some unit → (s.terms t).ending ≡ None) (flies : FliesLive sys s) (served : JobsServed sys s) (low : OpenLow n s) (there : PairsThere sys s) where
    -- one failure gives so much
    once : (x : State) → Falls sys n m s places x (failure_entries sys.terminals n m) → Falls sys n m s places x (1 * failure_entries sys.terminals n m)
    once x = subst (Falls sys n m s places x) (let one : failure_entries sys.terminals n m ≡ 1 * failure_entries sys.terminals n m = omega arith in one)

    none : (x : State) → Falls sys n m s places x 0 → Falls sys n m s places x (0 * failure_entries sys.terminals n m)
    none x = subst (Falls sys n m s places x) (let zero_times : 0 ≡ 0 * failure_entries sys.terminals n m = omega arith in zero_times)

    -- the entry is none, or one, in the log too
    logged : (x : State) (more : ℕ) (log : List Event) → Falls sys n m s places x more → Falls sys n m s places (record x { log = log }) more
    logged x more log falls = record { next = falls.next; requests = falls.requests; less = falls.less }

    -- behind each entry less may be entered, but for what a failure gives
    pub falls : (one : Event) → Fits sys s one → Falls sys n m s places (effect sys s one) (given one)
    falls (event.Show own phase attempt k) l = logged _ _ _ (none _ (entry.falls-show sys b n m short s i places ok few live flies served low own phase attempt k l))
    falls (event.Key own k) l = logged _ _ _ (none _ (entry.falls-key sys b n m short s i places ok few live flies served low own k l))
    falls (event.CheckStart own) l = logged _ _ _ (none _ (entry.falls-check-start sys b n m short s i places ok few live flies served low own l))
    falls (event.CheckEnd own) l = logged _ _ _ (none _ (entry.falls-check-end sys b n m short s i places ok few live flies served low own l))
    falls (event.CheckCopy own) l = logged _ _ _ (none _ (entry.falls-check-copy sys b n m short s i places ok few live flies served low own l))
    falls (event.Applied own) l = logged _ _ _ (none _ (entry.falls-applied sys b n m short s i places ok few live flies served low own l))
    falls (event.Begin own k r) l = logged _ _ _ (none _ (entry.falls-begin sys b n m short s i places ok few live flies served low own k r l))
    falls (event.Send own k c) l = logged _ _ _ (none _ (entry.falls-send sys b n m short s i places ok few live flies served low own k c l))
    falls (event.Take c p own) l = logged _ _ _ (none _ (entry.falls-take sys b n m short s i places ok few live flies served low c p own l))
    falls (event.File c p op mode f status) l = logged _ _ _ (none _ (entry.falls-file sys b n m short s i places ok few live flies served low c p op mode f status l))
    falls (event.Reply c p own fault) l = logged _ _ _ (none _ (entry.falls-reply sys b n m short s i places ok few live flies served low c p own fault l))
    falls (event.Again own k) l = logged _ _ _ (none _ (entry.falls-again sys b n m short s i places ok few live flies served low own k l))
    falls (event.Commit own k) l = logged _ _ _ (none _ (entry.falls-commit sys b n m short s i places ok few live flies served low own k l))
    falls (event.Back own k) l = logged _ _ _ (none _ (entry.falls-back sys b n m short s i places ok few live flies served low own k l))
    falls (event.Restart own k cause) l = logged _ _ _ (none _ (entry.falls-restart sys b n m short s i places ok few live flies served low own k cause l))
    falls (event.FailTcp p primary k) l =
        logged _ _ _ (once _ (falls-fail-tcp sys n m s places ok p primary k
        (λ j. (ending-stays sys s j (event.FailTcp p primary k) l (λ e is. absurd (cc is)), entry.fewer sys b n m short s i places ok few live flies served low (event.FailTcp p primary k) l j))))
    falls (event.FailServer c p k) l =
        logged _ _ _ (once _ (falls-fail-server sys n m s places ok c p k
        (λ j. (ending-stays sys s j (event.FailServer c p k) l (λ e is. absurd (cc is)), entry.fewer sys b n m short s i places ok few live flies served low (event.FailServer c p k) l j))))
    falls (event.Takeover p) l = logged _ _ _ (none _ (falls-takeover sys n m s places ok p l there))
    falls (event.Raise p) l = logged _ _ _ (none _ (falls-raise sys n m s places ok b p l))
    falls (event.End own e) l = logged _ _ _ (none _ (entry.falls-end sys b n m short s i places ok few live flies served low own e l))

  -- what may be entered at first
  abbrev at_first : ℕ
  at_first = sum_below sys.terminals (λ t. terminal_entries n m (sys.max_restarts t)) + sys.pairs

  -- The requests are at these places, and what was entered and what may still be is no more than what might be entered at first
  -- and what failures have given.
  record Within (s : State) : Type 0 where
    places : ℕ → Place
    requests : RequestsOk sys s.classes places
    most : length s.log + total sys n m s places ≤ at_first + fails_in s.log * failure_entries sys.terminals n m

  ones : (k : ℕ) → sum_below k (λ p. 1) ≡ k
  ones zero = refl
  ones (suc k) = omega (arith, ones k)

  first-terminal : (t : ℕ) → left_at sys n m (starting sys) (λ j. Nowhere) t ≤ terminal_entries n m (sys.max_restarts t)
  first-terminal t =
      let r : ℕ = sys.max_restarts t in
      let w : ℕ = stretch n m + 1 in
      let all : n * (r + 1) + 1 ≡ suc (n * (r + 1)) = omega arith in
      let more : (n * (r + 1) + 1) * w ≡ n * (r + 1) * w + w = rw all (omega arith) in
      let low : n - 0 ≡ n = omega arith in
      let units : (n - 0) * (r + 1) ≡ n * (r + 1) = ap (λ (k : ℕ). k * (r + 1)) low in
      let none : (n - 0) * (r + 1) - 0 ≡ n * (r + 1) = omega (arith, units) in
      let times : ((n - 0) * (r + 1) - 0) * w ≡ n * (r + 1) * w = ap (λ (k : ℕ). k * w) none in
      let zero_off : (n - 0) * (m + 6) ≡ n * (m + 6) = ap (λ (k : ℕ). k * (m + 6)) (let same : n - 0 ≡ n = omega arith in same) in
      omega (arith, more, times, zero_off, stretch-is n m)

  first : Within (starting sys)
  first = record {
    places = λ j. Nowhere;
    requests = requests_starting sys;
    most =
        let terminals = sum-most sys.terminals 0 (left_at sys n m (starting sys) (λ j. Nowhere)) (λ t. terminal_entries n m (sys.max_restarts t)) (λ t low. let here = first-terminal t in omega (arith, here)) in
        omega (arith, terminals, ones sys.pairs);
  }

  step : (log : List Event) → IsRun sys log → (one : Event) → Legal sys (after sys log) one → Within (after sys log) → Within (effect sys (after sys log) one)
  step log run one legal within =
      let s : State = after sys log in
      let ready = known sys b log run in
      let fallen = falls s (kept sys b log run) within.places within.requests (λ t unit. few-restarts sys b log run t unit) (live-ok sys b log run) ready.0 (jobs-served sys b log run) (open-low sys b n m short log run) ready.1 one legal.fits in
      record {
        places = fallen.next;
        requests = fallen.requests;
        most =
            let longer : length (s.log ++ one ∷ []) ≡ length s.log + 1 = length-append s.log (one ∷ []) in
            let failed : fails_in (s.log ++ one ∷ []) * failure_entries sys.terminals n m ≡ fails_in s.log * failure_entries sys.terminals n m + given one =
            ap (λ (k : ℕ). k * failure_entries sys.terminals n m) (fails-more s.log one) ∙ spread (fails_in s.log) (weight (is_fail one)) (failure_entries sys.terminals n m) in
            let less = fallen.less in
            let most = within.most in
            omega (arith, longer, failed, less, most);
      }
    where
      spread : (k j w : ℕ) → (k + j) * w ≡ k * w + j * w
      spread k j w = omega arith

  -- no run is longer than its bound
  pub bounded : (log : List Event) → IsRun sys log → length log ≤ run_bound sys n m
  bounded log run =
      let within : Within (after sys log) = holds-behind sys Within step first log run in
      let most = within.most in
      let is : length (after sys log).log ≡ length log = ap (λ (l : List Event). length l) (log-from sys (starting sys) log) in
      let failed = mul-le (fails_in (after sys log).log) (failure_entries sys.terminals n m) (length sys.script) (failure_entries sys.terminals n m) (few-fails sys log run)
      (let same : failure_entries sys.terminals n m ≤ failure_entries sys.terminals n m = omega arith in same) in
      omega (arith, most, is, failed)
