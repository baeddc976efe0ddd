-- In a state of a run the next step of a live terminal whose pair has a working member may be asked for, and what the state has
-- of it fits together.
use Rattle.std.proofs.Common.{◌≡◌, ◌≢◌, ℕ, ◌+◌, ◌<◌, ◌≤◌, ⊎_elim, inl, inr, Bool, true, false, not, is_some, List, [], ◌∷◌, ◌++◌, Option, Some, None, refl, ap, sym, subst, arith, ◌∙◌}
use Rattle.std.proofs.lemmas.Bool.{cases_Bool, false≢true, true≢false, not-true}
use Rattle.pw_code.specs.declared.verb.Verb.{Verb}
use Rattle.pw_code.specs.declared.verb.Verb.TheVariants as verb
use Rattle.pw_event.specs.declared.event.Cause.{Cause}
use Rattle.pw_event.specs.declared.event.Cause.TheVariants as cause
use Rattle.pw_event.specs.declared.event.Event.{Event}
use Rattle.pw_laws.proofs.decided.Terminals as decided
use Rattle.pw_laws.specs.legal.Terminals.{is_over}
use Rattle.pw_laws.specs.legal.Verbs.{asks_send}
use Rattle.pw_onecopy.specs.Attempt.{BeginsUnit}
use Rattle.pw_onecopy.specs.Behaviour.{Behaviour}
use Rattle.pw_onecopy.specs.IsBehaviour.{IsAsked, IsBehaviour, IsPath}
use Rattle.pw_onecopy.specs.Path.{PathAnswer, is_outside, unit_number}
use Rattle.pw_paired.specs.Raising.{is_takeover}
use Rattle.pw_paired.specs.State.{Alone, Awaited, Down, Gone, LastEnded, PairMode, OpenUnit, Paired, Raising, State}
use Rattle.pw_paired.specs.Step.{IsRun, after}
use Rattle.pw_paired.specs.Terminal.{IsIdle, IsLive, IsOver, awaited_of, next_verb, path_of}
use Rattle.pw_paired.specs.Units.{attempt_of, is_out, restarts_of}
use Rattle.pw_laws.proofs.BeginsOnce.{few-restarts}
use Rattle.pw_laws.proofs.Pending.{Pends, pending-ok}
use Rattle.pw_laws.specs.progress.Running.{Runs}
use Rattle.pw_laws.proofs.induction.Runs.{kept}
use Rattle.pw_laws.proofs.induction.Views.{view_of}
use Rattle.pw_laws.proofs.kept.Kept.{Inv}
use Rattle.pw_laws.proofs.terms.KeepsChecks as checks
use Rattle.pw_laws.proofs.terms.KeepsEnds.{OutOk}
use Rattle.pw_laws.proofs.terms.TermOk.{HasMessages, IsRest, IsWorking, PathOf, PathOk, TermOk}
use Rattle.pw_laws.proofs.frontier.Frontier.{FrontierOk}
use Rattle.pw_laws.proofs.frontier.Frontiers.{frontier_after, frontiers}
use Rattle.pw_laws.proofs.frontier.Leads.{IsForced, Next, goes_on, is_there, next-of}
use Rattle.pw_laws.proofs.frontier.Standing.{Where, closed, running, waiting, where-of, works-there}
use Rattle.pw_laws.proofs.restarts.Few.{counts-ok}
use Rattle.pw_tcp.specs.InState.{FitsTogether, HasMember, IsOfPath, MayPend, MayStep, WaitsAtStart, is_within, note_of, pending_of, terminal_of}
use Rattle.pw_tcp.specs.NextStep.{BeginsAnew, MayAsk, RunsWhere, ends_attempt, is_pending}
use Rattle.pw_tcp.proofs.Known.{IsTaken, out-sent, taken-over}
use Rattle.pw_laws.proofs.steps.Terminals.{entries-from}
use Rattle.pw_laws.proofs.PairSteps.{takeover-cause}

-- a member of the pair works
works-as : (mode : PairMode) → HasMember mode → IsWorking mode
works-as Alone has = tt
works-as Raising has = tt
works-as Paired has = tt
works-as Down has = has
works-as Gone has = has

-- a verb of a terminal's program
may-ask : (v : Verb) → IsAsked v → MayAsk v
may-ask (verb.File call) asked = asked
may-ask (verb.Reply reply) asked = asked
may-ask verb.Show asked = tt
may-ask (verb.Accept screen) asked = tt
may-ask verb.Begin asked = tt
may-ask (verb.Send class message) asked = tt
may-ask verb.End asked = tt
may-ask verb.Drop asked = tt
may-ask verb.Redo asked = tt
may-ask verb.Stop asked = tt
may-ask (verb.Fault x) asked = tt

-- a cause is pending
pends-is : (why : Cause) → is_pending (pending_of (Some why)) ≡ true
pends-is (cause.Takeover p) = refl
pends-is (cause.Server k) = refl
pends-is (cause.Older o m) = refl
pends-is cause.Redo = refl

module _ (sys : Behaviour) (b : IsBehaviour sys) (log : List Event) (run : IsRun sys log) (t : ℕ) (live : IsLive sys (after sys log) t) (member : HasMember ((after sys log).modes (sys.pair_of t))) where
  abbrev s : State
  s = after sys log

  abbrev path : List PathAnswer
  path = path_of s t

  abbrev last : ℕ
  last = (s.ended t).number

  abbrev attempt : Option (List PathAnswer)
  attempt = attempt_of (s.units t)

  abbrev frontier : List PathAnswer
  frontier = frontier_after sys t log

  works : IsWorking (s.modes (sys.pair_of t))
  works = works-as (s.modes (sys.pair_of t)) member

  i : Inv sys s
  i = kept sys b log run

  ok : TermOk sys t last (s.units t) (s.memory t) (s.flight t) (s.terms t) (s.modes (sys.pair_of t))
  ok = i.terms t live.known

  front : FrontierOk sys t (view_of sys s t) frontier
  front = frontiers sys b t live.known log run live.going_on (works-there (s.modes (sys.pair_of t)) works)

  -- ---- the path

  calm-path : is_takeover (s.terms t).pending ≡ false → PathOk sys t last (s.units t) path
  calm-path calm = ok.path_ok live.going_on works calm

  -- the unit whose attempt a pending TAKEOVER stops
  record Stopped : Type 0 where
    own : OpenUnit
    is_open : s.units t ≡ Some own
    start : List PathAnswer
    runs : own.running ≡ Some start
    taken : IsTaken path sys t own

  stopped : is_takeover (s.terms t).pending ≡ true → Stopped
  stopped takeover =
      let of = takeover-cause (s.terms t).pending takeover in
      let runs = (pending-ok sys b log run t (cause.Takeover of.0) of.1).0 in
      record { own = runs.unit; is_open = runs.is_open; start = runs.start; runs = runs.runs; taken = taken-over sys b log run t live.known takeover runs.unit runs.is_open }

  by-takeover : (P : Type 0) → (Stopped → P) → (PathOk sys t last (s.units t) path → P) → P
  by-takeover P taken calm =
      ⊎_elim (λ is. taken (stopped is)) (λ is. calm (calm-path is)) (cases_Bool (is_takeover (s.terms t).pending))

  pub is-path : IsPath sys t path
  is-path = by-takeover (IsPath sys t path) (λ x. x.taken.0.is_path) (λ h. checks.path_ok-is last (s.units t) h)

  -- the next unit to end
  number-of : (own : OpenUnit) → s.units t ≡ Some own → own.number ≡ last + 1
  number-of own is = (ok.unit_ok own is).number

  open-number : (own : OpenUnit) → PathOk sys t last (Some own) path → unit_number path ≡ last + 1
  open-number own h = by own.running refl h
    where
      by : (r : Option (List PathAnswer)) → own.running ≡ r → PathOf sys t last r path → unit_number path ≡ last + 1
      by None is rest = let low = rest.low_is in let high = rest.high_is in omega (arith, low, high)
      by (Some start) is runs = runs.number

  path-number : (own : OpenUnit) → s.units t ≡ Some own → unit_number path ≡ last + 1
  path-number own is =
      by-takeover (unit_number path ≡ last + 1)
      (λ x. x.taken.1 ∙ number-of x.own x.is_open)
      (λ h. open-number own (subst (λ (u : Option OpenUnit). PathOk sys t last u path) is h))

  of-path : (own : OpenUnit) → s.units t ≡ Some own → IsOfPath s t own
  of-path own is =
      let next = number-of own is in
      let same = path-number own is in
      record { number = next ∙ sym same; open_still = λ ended. absurd (omega (arith, next, ended)) }

  -- ---- an attempt runs

  runs-of : (own : OpenUnit) (start : List PathAnswer) → s.units t ≡ Some own → own.running ≡ Some start → is_some attempt ≡ true
  runs-of own start is runs = ap is_some (ap attempt_of is ∙ runs)

  inside-runs : is_outside path ≡ false → is_some attempt ≡ true
  inside-runs inside =
      by-takeover (is_some attempt ≡ true)
      (λ x. absurd (true≢false (sym x.taken.0.outside ∙ inside)))
      (λ h. let w = checks.within (s.units t) inside h in runs-of w.open_unit w.start w.is_open w.runs)

  caused-runs : (pending : Option Cause) → (s.terms t).pending ≡ pending → is_pending (pending_of pending) ≡ true → is_some attempt ≡ true
  caused-runs None is pends = absurd (false≢true pends)
  caused-runs (Some why) is pends = let runs = (pending-ok sys b log run t why is).0 in runs-of runs.unit runs.start runs.is_open runs.runs

  out-is : is_out sys s t ≡ true → (request : _) × OutOk sys s t request
  out-is out = let sent = out-sent sys s i t out in (sent.0, i.out t sent.0 sent.1)

  ending-inside : (v : Verb) → next_verb sys s t ≡ v → ends_attempt v ≡ true → is_outside path ≡ false
  ending-inside verb.End asks ends = b.ends t path is-path asks
  ending-inside verb.Drop asks ends = b.drops t path is-path asks
  ending-inside verb.Redo asks ends = b.redoes t path is-path asks
  ending-inside verb.Show asks ends = absurd (false≢true ends)
  ending-inside (verb.Accept screen) asks ends = absurd (false≢true ends)
  ending-inside verb.Begin asks ends = absurd (false≢true ends)
  ending-inside (verb.Send class message) asks ends = absurd (false≢true ends)
  ending-inside verb.Stop asks ends = absurd (false≢true ends)
  ending-inside (verb.Fault x) asks ends = absurd (false≢true ends)
  ending-inside (verb.File call) asks ends = absurd (false≢true ends)
  ending-inside (verb.Reply reply) asks ends = absurd (false≢true ends)

  runs-where : RunsWhere (terminal_of sys s t) (next_verb sys s t) (is_within s t)
  runs-where = record {
    caused = λ pends. caused-runs (s.terms t).pending refl pends;
    out = λ out. let o = (out-is out).1 in runs-of o.unit o.start o.is_open o.runs;
    within = λ inside. inside-runs (not-true (is_outside path) inside);
    ending = λ ends. inside-runs (ending-inside (next_verb sys s t) refl ends);
  }

  -- ---- a unit that is to begin

  at : is_takeover (s.terms t).pending ≡ false → Where sys t (s.ended t) (s.units t) path frontier
  at calm = where-of (s.units t) (front.stands works calm)

  -- a terminal at Begin is not before its last ended unit
  not-last : next_verb sys s t ≡ verb.Begin → last ≢ unit_number path
  not-last asks same =
      ⊎_elim
      (λ takeover. let x = stopped takeover in let next = number-of x.own x.is_open in let number = x.taken.1 in absurd (omega (arith, next, number, same)))
      (λ calm. by (at calm))
      (cases_Bool (is_takeover (s.terms t).pending))
    where
      opened : (own : OpenUnit) → s.units t ≡ Some own → ⊥
      opened own is = let next = path-number own is in absurd (omega (arith, next, same))

      go : Next sys t (s.ended t) path frontier → ⊥
      go (is_there is) = let here = ap unit_number is in let base = front.base.number in absurd (omega (arith, here, base, same))
      go (goes_on a forced leads) = absurd (subst (λ (v : Verb). IsForced (s.ended t) path v a) asks forced)

      by : Where sys t (s.ended t) (s.units t) path frontier → ⊥
      by (closed none leads) = go (next-of leads)
      by (waiting own is rests there) = opened own is
      by (running own start is runs here) = opened own is

  -- an attempt that runs stands at no Begin
  not-begin : next_verb sys s t ≡ verb.Begin → is_some attempt ≡ true → PathOk sys t last (s.units t) path → ⊥
  not-begin asks runs h = by attempt refl runs
    where
      by : (a : Option (List PathAnswer)) → attempt ≡ a → is_some a ≡ true → ⊥
      by None none there = absurd (false≢true there)
      by (Some start) is there =
          let r = checks.running (s.units t) is h in
          ⊎_elim
          (λ inside. absurd (true≢false (sym (b.begins t path is-path asks) ∙ inside)))
          (λ others. ⊎_elim (λ sends. absurd (let sent = sends.2 in cc (sent, asks))) (λ faults. absurd (let faulty = faults.1 in cc (faulty, asks))) others)
          r.within

  anew : (pending : Option Cause) → (s.terms t).pending ≡ pending → next_verb sys s t ≡ verb.Begin → is_some attempt ≡ true → is_pending (pending_of pending) ≡ true
  anew None none asks runs = absurd (not-begin asks runs (calm-path (ap is_takeover none)))
  anew (Some why) is asks runs = pends-is why

  begins-anew : BeginsAnew (terminal_of sys s t) (next_verb sys s t) (note_of sys s t)
  begins-anew = record { new = λ asks. not-last asks; idle = λ asks runs. anew (s.terms t).pending refl asks runs }

  few : (unit : Option OpenUnit) → s.units t ≡ unit → restarts_of unit ≤ sys.max_restarts t
  few None is = omega arith
  few (Some own) is = few-restarts sys b log run t own is

  pub may-step : MayStep sys s t
  may-step = record {
    asks = may-ask (next_verb sys s t) (b.asks t path is-path);
    few = few (s.units t) refl;
    runs = runs-where;
    begins = begins-anew;
  }

  -- ---- what fits together

  alone-is : (mode : PairMode) → s.modes (sys.pair_of t) ≡ mode → is_takeover (s.terms t).pending ≡ true → s.modes (sys.pair_of t) ≡ Alone
  alone-is Alone is takeover = is
  alone-is Raising is takeover = absurd (false≢true (sym (ok.calm (rw is tt)) ∙ takeover))
  alone-is Paired is takeover = absurd (false≢true (sym (ok.calm (rw is tt)) ∙ takeover))
  alone-is Down is takeover = absurd (subst IsWorking is works)
  alone-is Gone is takeover = absurd (subst IsWorking is works)

  may-pend : (why : Cause) → (s.terms t).pending ≡ Some why → MayPend sys s t why
  may-pend (cause.Takeover p) is = alone-is (s.modes (sys.pair_of t)) refl (ap is_takeover is)
  may-pend (cause.Server k) is = tt
  may-pend (cause.Older o m) is = (pending-ok sys b log run t (cause.Older o m) is).1
  may-pend cause.Redo is = (pending-ok sys b log run t cause.Redo is).1

  -- the awaited unit of an attempt that runs has ended
  over-running : (own : OpenUnit) (start : List PathAnswer) → s.units t ≡ Some own → own.running ≡ Some start → (awaits : Option Awaited) → own.awaits ≡ awaits → IsOver s.ended awaits
  over-running own start is runs None none = tt
  over-running own start is runs (Some a) awaits = (counts-ok sys b t live.known log run).over t own start a is runs awaits

  not-over : IsOver s.ended (awaited_of (s.units t)) → is_over s.ended (awaited_of (s.units t)) ≢ true → ⊥
  not-over over unmet = unmet ((decided.over s.ended (awaited_of (s.units t))).1 over)

  waits-at : (own : OpenUnit) → s.units t ≡ Some own → own.running ≡ None → s.modes (sys.pair_of t) ≡ Paired → WaitsAtStart sys s t
  waits-at own is idle paired =
      let held = ok.has_memory live.going_on (rw paired tt) in
      let here : path ≡ frontier = by (at (ok.calm (rw paired tt))) in
      let starts = (front.held held.0 held.1).at_open own is in
      let memory = ok.memory_ok held.0 held.1 in
      record {
        idle = ap attempt_of is ∙ idle;
        begins = subst (λ (p : List PathAnswer). BeginsUnit (sys.ask t p) p) (sym here) (front.base.begins own is);
        held = record { held = held.0; is_held = held.1; number_is = sym memory.number ∙ ap unit_number (starts ∙ sym here); path_is = starts ∙ sym here };
      }
    where
      by : Where sys t (s.ended t) (s.units t) path frontier → path ≡ frontier
      by (closed none leads) = absurd (cc (none, is))
      by (waiting other other_is rests there) = there
      by (running other start other_is runs here) = absurd (cc (is, other_is, idle, runs))

  awaits-at : (unit : Option OpenUnit) → s.units t ≡ unit → s.modes (sys.pair_of t) ≡ Paired → is_over s.ended (awaited_of (s.units t)) ≢ true → WaitsAtStart sys s t
  awaits-at None is paired unmet = absurd (not-over (subst (λ (u : Option OpenUnit). IsOver s.ended (awaited_of u)) (sym is) tt) unmet)
  awaits-at (Some own) is paired unmet = by own.running refl
    where
      by : (r : Option (List PathAnswer)) → own.running ≡ r → WaitsAtStart sys s t
      by None idle = waits-at own is idle paired
      by (Some start) runs =
          absurd (not-over (subst (λ (u : Option OpenUnit). IsOver s.ended (awaited_of u)) (sym is) (over-running own start is runs own.awaits refl)) unmet)

  pub fits-together : FitsTogether sys s t
  fits-together = record {
    entries = entries-from sys t [] path is-path.suits (omega arith);
    pending = may-pend;
    paired_unit = λ own is paired. of-path own is;
    caused_unit = λ own why is pends. of-path own is;
    out = λ out. let o = (out-is out).1 in ap asks_send o.asks;
    awaited = λ paired unmet. awaits-at (s.units t) refl paired unmet;
  }
