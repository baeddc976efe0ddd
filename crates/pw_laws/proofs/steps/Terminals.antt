-- A live terminal that is up to date and calm has a step, or another actor has one for it.
use Rattle.std.proofs.Common.{◌≡◌, ◌≢◌, ⊎_elim, ℕ, zero, suc, ◌+◌, ◌<◌, ◌≤◌, true, false, ◌||◌, is_none, List, [], ◌∷◌, ◌++◌, Option, Some, None, if◌then◌else◌, refl, ap, sym, subst, append-nil, append_assoc, arith, ◌∙◌}
use Rattle.std.specs.List.{list_any}
use Rattle.std.proofs.lemmas.Bool.{cases_Bool, cases_eq, cases_lt, false≢true, true≢false}
use Rattle.pw_class.specs.Queue.{is_of, works_for}
use Rattle.pw_class.specs.declared.request.Request.{Request}
use Rattle.pw_code.specs.declared.verb.Verb.{Verb}
use Rattle.pw_code.specs.declared.verb.Verb.TheVariants as verb
use Rattle.pw_event.specs.declared.event.Cause.TheVariants as cause
use Rattle.pw_event.specs.declared.event.Ending.TheVariants as ending
use Rattle.pw_event.specs.declared.event.Event.{Event}
use Rattle.pw_event.specs.declared.event.Event.TheVariants as event
use Rattle.pw_onecopy.specs.Attempt.{BeginsUnit}
use Rattle.pw_onecopy.specs.Behaviour.{Behaviour}
use Rattle.pw_onecopy.specs.IsBehaviour.{IsAsked, IsBehaviour, IsPath, Suits, SuitsFrom}
use Rattle.pw_onecopy.specs.Path.{PathAnswer, Begun, Dropped, Ended, Entry, Failed, Replied, Shown, entries_on, is_outside, next_number, unit_number}
use Rattle.pw_paired.specs.Raising.{is_takeover}
use Rattle.pw_paired.specs.Server.{first_free}
use Rattle.pw_paired.specs.State.{Awaited, Job, OpenUnit, State}
use Rattle.pw_paired.specs.Step.{Fits, IsRun, after, is_finished, line_wanted}
use Rattle.pw_paired.specs.Terminal.{CanStep, HoldsEnd, HoldsStart, IsOver, awaited_of, closing_answer, next_verb, path_of, path_with}
use Rattle.pw_paired.specs.Units.{any_below, attempt_of, has_request, is_out, request_in, restarts_of}
use Rattle.pw_laws.proofs.Lacking.{any_below-some}
use Rattle.pw_laws.proofs.PairSteps.{step-of}
use Rattle.pw_laws.specs.progress.Running.{HasStep}
use Rattle.pw_laws.proofs.induction.Views.{view_of}
use Rattle.pw_laws.proofs.terms.KeepsChecks as checks
use Rattle.pw_laws.proofs.terms.TermOk.{PathOk}
use Rattle.pw_laws.proofs.blocks.Fold.{fold_after}
use Rattle.pw_laws.proofs.blocks.Known.{Known, known}
use Rattle.pw_laws.proofs.frontier.Frontier.{FrontierOk, fails, sends, transacts}
use Rattle.pw_laws.proofs.frontier.Leads.{IsForced, Next, goes_on, is_there, next-of}
use Rattle.pw_laws.proofs.frontier.Standing.{Where, closed, running, waiting, where-of}
use Rattle.pw_laws.proofs.steps.Deciding.{end-decided, start-decided}
use Rattle.pw_laws.proofs.steps.Servers.{caused-step, process-step}

-- entries on a path that goes on
entries-append : (p q : List PathAnswer) → entries_on (p ++ q) ≡ entries_on p + entries_on q
entries-append [] q = omega arith
entries-append (Shown ∷ p) q = entries-append p q
entries-append (Entry k ∷ p) q = let rest = entries-append p q in omega (arith, rest)
entries-append (Begun r ∷ p) q = entries-append p q
entries-append (Replied reply ∷ p) q = entries-append p q
entries-append (Failed x ∷ p) q = entries-append p q
entries-append (Ended ∷ p) q = entries-append p q
entries-append (Dropped ∷ p) q = entries-append p q

-- an entry on a path exists
suits-entry : (sys : Behaviour) (t k : ℕ) (path : List PathAnswer) (v : Verb) → Suits sys t path v (Entry k) → (k ≡ entries_on path + 1) × (k ≤ sys.entries t)
suits-entry sys t k path (verb.Accept screen) suits = suits
suits-entry sys t k path verb.Show suits = absurd suits
suits-entry sys t k path verb.Begin suits = absurd suits
suits-entry sys t k path (verb.Send class message) suits = absurd suits
suits-entry sys t k path verb.End suits = absurd suits
suits-entry sys t k path verb.Drop suits = absurd suits
suits-entry sys t k path verb.Redo suits = absurd suits
suits-entry sys t k path verb.Stop suits = absurd suits
suits-entry sys t k path (verb.Fault x) suits = absurd suits
suits-entry sys t k path (verb.File call) suits = absurd suits
suits-entry sys t k path (verb.Reply reply) suits = absurd suits

-- so a path has no more entries than there are
one-entry : (sys : Behaviour) (t : ℕ) (before : List PathAnswer) (a : PathAnswer) → Suits sys t before (sys.ask t before) a → entries_on before ≤ sys.entries t → entries_on (before ++ a ∷ []) ≤ sys.entries t
one-entry sys t before (Entry k) suits low =
    let both = suits-entry sys t k before (sys.ask t before) suits in
    let next = both.0 in let exists = both.1 in let sum = entries-append before (Entry k ∷ []) in omega (arith, next, exists, sum)
one-entry sys t before Shown suits low = let sum = entries-append before (Shown ∷ []) in omega (arith, low, sum)
one-entry sys t before (Begun r) suits low = let sum = entries-append before (Begun r ∷ []) in omega (arith, low, sum)
one-entry sys t before (Replied reply) suits low = let sum = entries-append before (Replied reply ∷ []) in omega (arith, low, sum)
one-entry sys t before (Failed x) suits low = let sum = entries-append before (Failed x ∷ []) in omega (arith, low, sum)
one-entry sys t before Ended suits low = let sum = entries-append before (Ended ∷ []) in omega (arith, low, sum)
one-entry sys t before Dropped suits low = let sum = entries-append before (Dropped ∷ []) in omega (arith, low, sum)

pub entries-from : (sys : Behaviour) (t : ℕ) (before path : List PathAnswer) → SuitsFrom sys t before path → entries_on before ≤ sys.entries t → entries_on (before ++ path) ≤ sys.entries t
entries-from sys t before [] suits low = subst (λ (p : List PathAnswer). entries_on p ≤ sys.entries t) (sym (append-nil before)) low
entries-from sys t before (a ∷ path) suits low =
    subst (λ (p : List PathAnswer). entries_on p ≤ sys.entries t) (append_assoc before (a ∷ []) path)
    (entries-from sys t (before ++ a ∷ []) path suits.1 (one-entry sys t before a suits.0 low))

-- where no process is free, the first works
none-free : (busy : ℕ → Option Job) (p n : ℕ) → 1 ≤ n → first_free busy p n ≡ None → (job : Job) × (busy p ≡ Some job)
none-free busy p zero low none = absurd (omega (arith, low))
none-free busy p (suc n) low none = by (busy p) refl
  where
    by : (work : Option Job) → busy p ≡ work → (job : Job) × (busy p ≡ Some job)
    by None is = absurd (let free = ap (λ (w : Option Job). if is_none w then Some p else first_free busy (p + 1) n) is in let no = none in cc (free, no))
    by (Some job) is = (job, is)

-- a process that works
works-is : (t : ℕ) (work : Option Job) → works_for t (request_in work) ≡ true → (job : Job) × (work ≡ Some job)
works-is t None is = absurd (false≢true is)
works-is t (Some job) is = (job, refl)

module _ (sys : Behaviour) (b : IsBehaviour sys) (log : List Event) (run : IsRun sys log) (unfinished : is_finished sys (after sys log) ≡ false) where
  abbrev s : State
  s = after sys log

  abbrev k : Known sys b (after sys log) (fold_after sys log)
  k = known sys b log run

  -- a class at which a request waits has a step, or a process of it
  waiting-step : (c : ℕ) → c < sys.classes → (request : Request) (others : List Request) → (s.classes c).waiting ≡ request ∷ others → HasStep sys s
  waiting-step c there request others first = by (first_free (s.classes c).busy 1 (sys.processes c)) refl
    where
      by : (free : Option ℕ) → first_free (s.classes c).busy 1 (sys.processes c) ≡ free → HasStep sys s
      by (Some i) free = step-of sys s unfinished (event.Take c i request.terminal) refl (record { request = request; others = others; first = first; whose = refl; free = free })
      by None none = let busy = none-free (s.classes c).busy 1 (sys.processes c) (b.staffed c there) none in process-step sys b log run unfinished c 1 busy.0 busy.1

  -- a request that is out waits, or is at a process
  requests-step : (t c : ℕ) → c < sys.classes → (waiting : List Request) → (s.classes c).waiting ≡ waiting
      → (list_any (is_of t) waiting || any_below (sys.processes c) (λ i. works_for t (request_in ((s.classes c).busy (i + 1))))) ≡ true → HasStep sys s
  requests-step t c there (request ∷ others) first out = waiting-step c there request others first
  requests-step t c there [] first out =
      let one = any_below-some (sys.processes c) (λ i. works_for t (request_in ((s.classes c).busy (i + 1)))) out in
      let job = works-is t ((s.classes c).busy (one.0 + 1)) one.2 in
      process-step sys b log run unfinished c (one.0 + 1) job.0 job.1

  out-step : (t : ℕ) → is_out sys s t ≡ true → HasStep sys s
  out-step t out =
      let one = any_below-some sys.classes (λ c. has_request t (sys.processes c) (s.classes c)) out in
      requests-step t one.0 one.1 (s.classes one.0).waiting refl one.2

  -- a live terminal that can step, with nothing in flight
  module _ (t : ℕ) (can : CanStep sys s t) (free : s.flight t ≡ None)
      (blocked : (u : OpenUnit) (a : Awaited) → s.units t ≡ Some u → u.awaits ≡ Some a → (s.ended a.terminal).number < a.number → HasStep sys s) where
    abbrev path : List PathAnswer
    path = path_of s t

    path-ok : PathOk sys t (s.ended t).number (s.units t) path
    path-ok = checks.can_path sys b s k.inv.terms t can

    is-path : IsPath sys t path
    is-path = checks.path_ok-is _ (s.units t) path-ok

    ok : FrontierOk sys t (view_of sys s t) ((fold_after sys log).frontier t)
    ok = k.frontiers t can.live.known can.live.going_on (λ gone. absurd (let paired = can.paired in cc (paired, gone)))

    abbrev frontier : List PathAnswer
    frontier = (fold_after sys log).frontier t

    at : Where sys t (s.ended t) (s.units t) path frontier
    at = where-of (s.units t) (ok.stands (rw can.paired tt) (ap is_takeover can.calm))

    -- BEGIN, where the backup holds the start path and the awaited unit has ended
    begins : attempt_of (s.units t) ≡ None → BeginsUnit (next_verb sys s t) path → (s.ended t).number ≢ unit_number path → HasStep sys s
    begins idle opens new =
        ⊎_elim
        (λ held. over held (awaited_of (s.units t)) refl)
        (λ lacking. step-of sys s unfinished (event.CheckStart t) refl (record { can = can; idle = idle; begins = opens; new = new; lacking = lacking; free = free }))
        (start-decided (s.memory t) (unit_number path) path)
      where
        begin : HoldsStart (s.memory t) (unit_number path) path → IsOver s.ended (awaited_of (s.units t)) → HasStep sys s
        begin held over_is =
            step-of sys s unfinished (event.Begin t (unit_number path) (restarts_of (s.units t))) refl
            (record { can = can; idle = idle; begins = opens; number = refl; new = new; over = over_is; held = held; restarts = refl })

        awaits : (unit : Option OpenUnit) (a : Awaited) → s.units t ≡ unit → awaited_of unit ≡ Some a → (s.ended a.terminal).number < a.number → HasStep sys s
        awaits None a is some less = absurd (cc some)
        awaits (Some u) a is some less = blocked u a is some less

        over : HoldsStart (s.memory t) (unit_number path) path → (awaited : Option Awaited) → awaited_of (s.units t) ≡ awaited → HasStep sys s
        over held None none = begin held (subst (IsOver s.ended) (sym none) tt)
        over held (Some a) some =
            ⊎_elim (λ less. awaits (s.units t) a refl some less) (λ ended. begin held (subst (IsOver s.ended) (sym some) ended)) (cases_lt (s.ended a.terminal).number a.number)

    -- a terminal behind its last ended unit is not before it
    not-last : next_verb sys s t ≡ verb.Begin → attempt_of (s.units t) ≡ None → (s.ended t).number ≢ unit_number path
    not-last asks idle same = by at
      where
        not-there : path ≡ frontier → ⊥
        not-there is = let here = ap unit_number is in let base = ok.base.number in absurd (omega (arith, here, base, same))

        go : Next sys t (s.ended t) path frontier → ⊥
        go (is_there is) = not-there is
        go (goes_on a forced leads) = absurd (subst (λ (v : Verb). IsForced (s.ended t) path v a) asks forced)

        by : Where sys t (s.ended t) (s.units t) path frontier → ⊥
        by (closed none leads) = go (next-of leads)
        by (waiting u is rests there) = not-there there
        by (running u q is runs here) = absurd (cc (is, runs, idle))

    -- SEND, or what its request waits for
    send-step : (c : ℕ) (message : List ℕ) → next_verb sys s t ≡ verb.Send c message → (u : OpenUnit) (q : List PathAnswer) → s.units t ≡ Some u → u.running ≡ Some q → HasStep sys s
    send-step c message asks u q is runs =
        ⊎_elim (λ out. out-step t out)
        (λ not_out.
        step-of sys s unfinished (event.Send t u.number c) refl (record { can = can; unit = u; is_open = is; number = refl; start = q; runs = runs; message = message; asks = asks; not_out = not_out }))
        (cases_Bool (is_out sys s t))

    -- AGAIN, or the beginning of the unit
    outside-send : (c : ℕ) (message : List ℕ) → next_verb sys s t ≡ verb.Send c message → attempt_of (s.units t) ≡ None → HasStep sys s
    outside-send c message asks idle =
        let rest = checks.resting (s.units t) idle path-ok in
        ⊎_elim
        (λ same. step-of sys s unfinished (event.Again t (unit_number path)) refl (record { can = can; class = c; message = message; asks = asks; outside = rest.rest.outside; number = refl; last = same }))
        (λ differ. begins idle (subst (λ (v : Verb). BeginsUnit v path) (sym asks) rest.rest.outside) differ)
        (cases_eq (s.ended t).number (unit_number path))

    -- COMMIT and BACK, or the checkpoint of the end
    close-step : (entry : Event) → line_wanted entry ≡ None → (a : PathAnswer) → closing_answer (next_verb sys s t) ≡ Some a → (HoldsEnd (s.memory t) (path ++ a ∷ []) → Fits sys s entry) → HasStep sys s
    close-step entry wanted a closes fits =
        ⊎_elim (λ held. step-of sys s unfinished entry wanted (fits held))
        (λ lacking.
        step-of sys s unfinished (event.CheckEnd t) refl
        (record { can = can; answer = a; closes = closes; lacking = subst (λ (p : List PathAnswer). ¬ HoldsEnd (s.memory t) p) (ap (λ (o : Option PathAnswer). path_with o path) (sym closes)) lacking; free = free }))
        (end-decided (s.memory t) (path ++ a ∷ []))

    by-verb : (v : Verb) → next_verb sys s t ≡ v → HasStep sys s
    by-verb verb.Show asks =
        step-of sys s unfinished (event.Show t (next_number path).phase (next_number path).attempt (next_number path).k) refl (record { can = can; asks = asks; number = refl })
    by-verb (verb.Accept screen) asks =
        ⊎_elim
        (λ less. step-of sys s unfinished (event.Key t (entries_on path + 1)) refl (record { can = can; screen = screen; asks = asks; next = refl; exists = omega (arith, less) }))
        (λ all.
        let low = entries-from sys t [] path is-path.suits (omega arith) in
        step-of sys s unfinished (event.End t ending.NoEntries) refl (record { can = can; screen = screen; asks = asks; all = omega (arith, all, low) }))
        (cases_lt (entries_on path) (sys.entries t))
    by-verb verb.Begin asks = by at
      where
        outside : is_outside path ≡ true
        outside = b.begins t path is-path asks

        begin : attempt_of (s.units t) ≡ None → HasStep sys s
        begin idle = begins idle (subst (λ (v : Verb). BeginsUnit v path) (sym asks) tt) (not-last asks idle)

        by : Where sys t (s.ended t) (s.units t) path frontier → HasStep sys s
        by (closed none leads) = begin (ap attempt_of none)
        by (waiting u is idle there) = begin (ap attempt_of is ∙ idle)
        by (running u q is runs (transacts begins_it more whole inside)) = absurd (true≢false (sym outside ∙ inside))
        by (running u q is runs (sends c message sent same)) = absurd (let asked = ap (sys.ask t) same ∙ sent in let own = asks in cc (own, asked))
        by (running u q is runs (fails c x message sent same)) = absurd (let faulty = ap (sys.ask t) same ∙ b.fails t c x message frontier ok.base.rest.is_path sent in cc (faulty, asks))
    by-verb (verb.Send c message) asks = by at
      where
        by : Where sys t (s.ended t) (s.units t) path frontier → HasStep sys s
        by (closed none leads) = outside-send c message asks (ap attempt_of none)
        by (waiting u is idle there) = outside-send c message asks (ap attempt_of is ∙ idle)
        by (running u q is runs here) = send-step c message asks u q is runs
    by-verb verb.End asks =
        close-step (event.Commit t (unit_number path)) refl Ended (ap closing_answer asks) (λ held. record { can = can; asks = asks; number = refl; held = held })
    by-verb verb.Drop asks =
        close-step (event.Back t (unit_number path)) refl Dropped (ap closing_answer asks) (λ held. record { can = can; asks = asks; number = refl; held = held })
    by-verb verb.Redo asks =
        let who = checks.within (s.units t) (b.redoes t path is-path asks) path-ok in
        caused-step sys b log run unfinished t who.open_unit who.start who.is_open who.runs cause.Redo (record { can = can; asks = asks })
    by-verb verb.Stop asks = step-of sys s unfinished (event.End t ending.Stopped) refl (record { can = can; asks = asks })
    by-verb (verb.Fault x) asks = step-of sys s unfinished (event.End t (ending.Fault x)) refl (record { can = can; asks = asks })
    by-verb (verb.File call) asks = absurd (subst IsAsked asks (b.asks t path is-path))
    by-verb (verb.Reply reply) asks = absurd (subst IsAsked asks (b.asks t path is-path))

    -- so an entry is legal
    pub terminal-step : HasStep sys s
    terminal-step = by-verb (next_verb sys s t) refl
