-- The frontier where a unit begins, ends or restarts: BEGIN, REPLY OK of one SEND, COMMIT, BACK and RESTART.
use Rattle.std.proofs.Common.{◌≡◌, ◌≢◌, ℕ, ◌+◌, ◌≤◌, inl, ⊎_elim, true, false, List, [], ◌∷◌, ◌++◌, length, Option, Some, None, unwrap_or, is_none, ◌==◌, refl, ap, sym, subst, append_assoc, length-append, arith, ◌∙◌}
use Rattle.std.proofs.lemmas.Bool.{cond-true, eq-eqb, true≢false}
use Rattle.pw_code.specs.declared.verb.Verb.{Verb}
use Rattle.pw_code.specs.declared.verb.Verb.TheVariants as verb
use Rattle.pw_event.specs.declared.event.Cause.{Cause}
use Rattle.pw_laws.proofs.terms.KeepsChecks as path
use Rattle.pw_laws.proofs.Paths.{Begun-inside, IsClosing as ClosesUnit, IsPath-push, closing-number, closing-outside, reply-outside}
use Rattle.pw_laws.proofs.terms.TermOk.{FlightOk, HasMessages, IsRest, IsWorking, PathOk, RunningPath}
use Rattle.pw_onecopy.specs.IsBehaviour.{IsBehaviour, Suits}
use Rattle.pw_paired.specs.Failure.{awaited_after, with_restart, resumed_path}
use Rattle.pw_onecopy.specs.Path.{PathAnswer, Begun, Replied, Standing, is_outside, unit_number}
use Rattle.pw_paired.specs.Raising.{is_takeover}
use Rattle.pw_paired.specs.State.{Alone, Copy, Down, End, Gone, BackupCopy, Message, PairMode, OpenUnit, Paired, Raising, Start}
use Rattle.pw_onecopy.specs.Behaviour.{Behaviour}
use Rattle.pw_onecopy.specs.Attempt.{BeginsUnit}
use Rattle.pw_paired.specs.Terminal.{HoldsEnd, HoldsStart, unit_with_attempt, begun_path}
use Rattle.pw_paired.specs.Units.{attempt_of, restarts_of}
use Rattle.pw_laws.proofs.frontier.Answers.{no-open, waiting-at}
use Rattle.pw_laws.proofs.frontier.Frontier.{Closes, EndsOne, FrontierOk, IsFlying, RunsFrom, fails, frontier_behind, sends, transacts}
use Rattle.pw_laws.proofs.frontier.Leads.{IsForced, Leads, leads-here, leads-whole}
use Rattle.pw_laws.proofs.frontier.Standing.{Where, closed, grown, one-attempt, one-longer, put, running, to-stand, waiting, where-of}
use Rattle.pw_laws.proofs.induction.Moving.{TermAt}
use Rattle.pw_laws.proofs.induction.Views.{Able, View, Waits, gets, path_in, unit_over_in, verb_in}

module _ (sys : Behaviour) (b : IsBehaviour sys) (t : ℕ) (v : View) (frontier : List PathAnswer) (ok : FrontierOk sys t v frontier) (term : TermAt sys t v) where
  -- the attempt that begins at the frontier
  begun-runs : (r : ℕ) (w : Verb) → sys.ask t (path_in v) ≡ w → BeginsUnit w (path_in v) → path_in v ≡ frontier → RunsFrom sys t r frontier (begun_path r w (path_in v))
  begun-runs r verb.Begin asks begins same =
      transacts (ap (sys.ask t) (sym same) ∙ asks) [] (ap (λ (p : List PathAnswer). p ++ Begun r ∷ []) same) (Begun-inside r (path_in v))
  begun-runs r (verb.Send c message) asks begins same = sends c message (ap (sys.ask t) (sym same) ∙ asks) same
  begun-runs r verb.Show asks begins same = absurd begins
  begun-runs r (verb.Accept screen) asks begins same = absurd begins
  begun-runs r verb.End asks begins same = absurd begins
  begun-runs r verb.Drop asks begins same = absurd begins
  begun-runs r verb.Redo asks begins same = absurd begins
  begun-runs r verb.Stop asks begins same = absurd begins
  begun-runs r (verb.Fault x) asks begins same = absurd begins
  begun-runs r (verb.File call) asks begins same = absurd begins
  begun-runs r (verb.Reply reply) asks begins same = absurd begins

  -- the unit that begins
  begun-parts : (n birth : ℕ) (p : List PathAnswer) (unit : Option OpenUnit) → ((unit_with_attempt n birth p unit).running ≡ Some p) × ((unit_with_attempt n birth p unit).restarts ≡ restarts_of unit)
  begun-parts n birth p None = (refl, refl)
  begun-parts n birth p (Some u) = (refl, refl)

  -- BEGIN
  module _ (able : Able sys t v) (idle : attempt_of v.unit ≡ None) (begins : BeginsUnit (verb_in sys t v) (path_in v)) (new : v.last.number ≢ unit_number (path_in v))
      (holds : HoldsStart v.memory (unit_number (path_in v)) (path_in v)) (birth : ℕ) where
    at-frontier : path_in v ≡ frontier
    at-frontier = by (where-of v.unit (ok.stands (rw able.paired tt) (ap is_takeover able.calm)))
      where
        by : Where sys t v.last v.unit (path_in v) frontier → path_in v ≡ frontier
        by (closed none leads) = leads-whole leads begins new
        by (waiting u is rests same) = same
        by (running u q is runs at) = absurd (cc (is, idle, runs))

    abbrev unit : OpenUnit
    unit = unit_with_attempt (unit_number (path_in v)) birth (path_in v) v.unit

    abbrev after : View
    after = record v { unit = Some unit; term = record v.term { path = begun_path (restarts_of v.unit) (verb_in sys t v) (path_in v) } }

    -- an end path of the unit closes an earlier attempt
    ends-earlier : (u : OpenUnit) (p e : List PathAnswer) → v.unit ≡ Some u → EndsOne sys t u frontier (path_in v) e → EndsOne sys t unit frontier p e
    ends-earlier u p e is ends = record {
      asks = ends.asks;
      attempt = ends.attempt;
      closes = ends.closes;
      which =
          let same : unit.restarts ≡ u.restarts = (begun-parts (unit_number (path_in v)) birth (path_in v) v.unit).1 ∙ ap restarts_of is in
          ⊎_elim (λ earlier. inl (omega (arith, earlier, same))) (λ now. absurd (let runs = now.1.runs in cc (is, idle, runs))) ends.which;
    }

    -- a memory of a unit that was not open has no end path
    ends-begun : (memory : BackupCopy) (e p : List PathAnswer) → v.memory ≡ Some memory → memory.end ≡ Some e → EndsOne sys t unit frontier p e
    ends-begun memory e p is_m is_e = by v.unit refl
      where
        by : (was : Option OpenUnit) → v.unit ≡ was → EndsOne sys t unit frontier p e
        by None none =
            absurd (let one : holds.held ≡ memory = let held = holds.is_held in cc (held, is_m) in
            let n = holds.number_is in
            let same = ap (λ (m : BackupCopy). m.unit) one in
            let no = (ok.held memory is_m).no_end none (λ here. new (sym here ∙ (sym same ∙ n))) in
            cc (no, is_e))
        by (Some u) is = ends-earlier u p e is (ok.ends (rw able.paired tt) u memory e is is_m is_e)

    flies-begun : (message : Message) → FlightOk sys t v.last.number v.unit v.memory (path_in v) message
        → IsFlying sys t v.last v.unit v.memory frontier (path_in v) message → IsFlying sys t v.last (Some unit) v.memory frontier after.term.path message
    unfolding ends-earlier
    flies-begun (Start n p) f flies = tt
    flies-begun (Copy n p) f flies = absurd (let held = holds.is_held in let none = f.1 in cc (held, none))
    flies-begun (End p) f flies = record {
      open_unit = unit;
      is_open = refl;
      ends = ends-earlier flies.open_unit after.term.path p flies.is_open flies.ends;
      later = flies.later;
    }

    -- a BEGIN keeps it
    pub begin-kept : FrontierOk sys t after (frontier_behind v after frontier)
    begin-kept =
        let parts = begun-parts (unit_number (path_in v)) birth (path_in v) v.unit in
        put v after frontier (record {
          base = record {
            rest = ok.base.rest;
            number = ok.base.number;
            begins = λ u is. subst (λ (p : List PathAnswer). BeginsUnit (sys.ask t p) p) at-frontier begins;
            start = λ q runs. let one : path_in v ≡ q = let run = parts.0 in cc (run, runs) in sym one ∙ at-frontier;
          };
          short = λ rests. absurd (let run = parts.0 in cc (run, rests));
          stands = λ works untaken. to-stand {last = v.last} (running unit (path_in v) refl parts.0 (subst (λ (r : ℕ). RunsFrom sys t r frontier after.term.path) (sym parts.1) (begun-runs (restarts_of v.unit) (verb_in sys t v) refl begins at-frontier)));
          held = λ memory is.
              let h = ok.held memory is in
              record {
                resumes = h.resumes;
                at_open = λ u is_u. let one : holds.held ≡ memory = let held = holds.is_held in cc (held, is) in ap (λ (m : BackupCopy). m.start) (sym one) ∙ (holds.path_is ∙ at-frontier);
                no_end = λ none. absurd (cc none);
              };
          ends = λ has u memory e is_u is_m is_e. subst (λ (x : OpenUnit). EndsOne sys t x frontier after.term.path e) (let one : unit ≡ u = cc is_u in one) (ends-begun memory e after.term.path is_m is_e);
          flies = λ message is. flies-begun message (term.flight_ok message is) (ok.flies message is);
          alone = ok.alone;
        })

  -- a unit of this number ends, and the frontier is behind it
  module _ (u : OpenUnit) (q : List PathAnswer) (is_open : v.unit ≡ Some u) (runs : u.running ≡ Some q) (a : PathAnswer) (reply : Option (List ℕ))
      (rest : IsRest sys t (path_in v ++ a ∷ [])) (more : unit_number (path_in v ++ a ∷ []) ≡ unit_number (path_in v) + 1) (here : unit_number (path_in v) ≡ v.last.number + 1) where
    abbrev over : View
    over = gets a (unit_over_in reply v)

    -- what memory holds leads there
    pub unit-over : (longer : length frontier ≤ length (path_in v))
        → ((memory : BackupCopy) → v.memory ≡ Some memory → memory.unit ≡ unit_number (path_in v) → Leads sys t over.last (resumed_path memory over.last) (path_in v ++ a ∷ []))
        → ((message : Message) → v.flight ≡ Some message → IsFlying sys t over.last None v.memory (path_in v ++ a ∷ []) (path_in v ++ a ∷ []) message)
        → FrontierOk sys t over (frontier_behind v over frontier)
    unit-over longer leads flies =
        let sum = one-longer (path_in v) a in
        grown v over frontier refl (omega (arith, longer, sum)) (record {
          base = record { rest = rest; number = more; begins = λ x is. absurd (cc is); start = λ p runs_p. absurd (cc runs_p) };
          short = λ idle. omega arith;
          stands = λ works untaken. leads-here sys t over.last (path_in v ++ a ∷ []) (path_in v ++ a ∷ []) refl;
          held = λ memory is.
              let same = term.memory_unit memory u is is_open in
              let number = (term.unit_ok u is_open).number in
              let unit_is : memory.unit ≡ unit_number (path_in v) = same ∙ (number ∙ sym here) in
              record {
                resumes = leads memory is unit_is;
                at_open = λ x is_x. absurd (cc is_x);
                no_end = λ none differ. absurd (differ unit_is);
              };
          ends = λ has x memory e is_x is_m is_e. absurd (cc is_x);
          flies = flies;
          alone = ok.alone;
        })

  -- the terminal's path where it closes a transaction
  module _ (able : Able sys t v) (a : PathAnswer) (closes : ClosesUnit a) (inside : is_outside (path_in v) ≡ false) (suits : Suits sys t (path_in v) (verb_in sys t v) a)
      (no_send : (c : ℕ) (message : List ℕ) → verb_in sys t v ≢ verb.Send c message) (no_fault : (x : ℕ) → verb_in sys t v ≢ verb.Fault x)
      (holds : HoldsEnd v.memory (path_in v ++ a ∷ [])) where
    abbrev path_ok : PathOk sys t v.last.number v.unit (path_in v)
    path_ok = term.path_ok able.going_on (rw able.paired tt) (ap is_takeover able.calm)

    abbrev who : path.Within sys t v.last.number v.unit (path_in v)
    who = path.within v.unit inside path_ok

    at : RunsFrom sys t who.open_unit.restarts frontier (path_in v)
    at = by (where-of v.unit (ok.stands (rw able.paired tt) (ap is_takeover able.calm)))
      where
        by : Where sys t v.last v.unit (path_in v) frontier → RunsFrom sys t who.open_unit.restarts frontier (path_in v)
        by (closed none leads) = absurd (no-open none who.is_open)
        by (waiting u is idle same) = absurd (let one : u ≡ who.open_unit = let is_w = who.is_open in cc (is, is_w) in let run = ap (λ (x : OpenUnit). x.running) one in let runs = who.runs in cc (run, idle, runs))
        by (running u q is runs here) = subst (λ (x : OpenUnit). RunsFrom sys t x.restarts frontier (path_in v)) (let is_w = who.is_open in let one : u ≡ who.open_unit = cc (is, is_w) in one) here

    -- it closes the running attempt
    closes-it : (p : List PathAnswer) → RunsFrom sys t who.open_unit.restarts frontier p → p ≡ path_in v → Closes frontier who.open_unit.restarts (path_in v ++ a ∷ []) × (length frontier ≤ length (path_in v))
    closes-it p (transacts begins more whole here) same =
        let sum = ap (λ (x : List PathAnswer). length x) (sym same ∙ whole) ∙ length-append frontier (Begun who.open_unit.restarts ∷ more) in (
          record { more = more ++ a ∷ []; whole = ap (λ (x : List PathAnswer). x ++ a ∷ []) (sym same ∙ whole) ∙ append_assoc frontier (Begun who.open_unit.restarts ∷ more) (a ∷ []) },
          omega (arith, sum),
        )
    closes-it p (sends c message asks is) same = absurd (no_send c message (ap (sys.ask t) (sym same ∙ is) ∙ asks))
    closes-it p (fails c x message asks is) same = absurd (no_fault x (ap (sys.ask t) (sym same ∙ is) ∙ b.fails t c x message frontier ok.base.rest.is_path asks))

    abbrev ending : Closes frontier who.open_unit.restarts (path_in v ++ a ∷ []) × (length frontier ≤ length (path_in v))
    ending = closes-it (path_in v) at refl

    abbrev over_it : View
    over_it = gets a (unit_over_in None v)

    -- nothing is in flight any more
    landed : (message : Message) → v.flight ≡ Some message → FlightOk sys t v.last.number v.unit v.memory (path_in v) message
        → IsFlying sys t v.last v.unit v.memory frontier (path_in v) message → ⊥
    landed (Start n p) is f flies = let idle : attempt_of v.unit ≡ None = f.1 in let is_w = who.is_open in let runs = who.runs in absurd cc
    landed (Copy n p) is f flies = let none = f.1 in let held = holds.is_held in absurd (cc (none, held))
    landed (End p) is f flies =
        let old = flies.later holds.held (path_in v ++ a ∷ []) holds.is_held holds.path_is in
        let same = one-attempt frontier (path_in v ++ a ∷ []) old.0 who.open_unit.restarts old.1 ending.0 in
        let below = old.2 in
        let one : flies.open_unit ≡ who.open_unit = let is_f = flies.is_open in let is_w = who.is_open in cc (is_f, is_w) in
        let restarts = ap (λ (x : OpenUnit). x.restarts) one in
        ⊎_elim (λ earlier. absurd (omega (arith, same, below, earlier, restarts))) (λ now. let this = now.0 in absurd (omega (arith, same, below, this, restarts))) flies.ends.which

    -- COMMIT and BACK keep it
    pub close-kept : FrontierOk sys t over_it (frontier_behind v over_it frontier)
    close-kept =
        unit-over who.open_unit who.start who.is_open who.runs a None
        (record { is_path = IsPath-push sys t (path_in v) a who.path_is.is_path suits; outside = closing-outside a closes (path_in v) })
        (closing-number a closes (path_in v)) who.path_is.number ending.1
        (λ memory is unit_is.
        let one : holds.held ≡ memory = let held = holds.is_held in cc (held, is) in
        leads-here sys t over_it.last (resumed_path memory over_it.last) (path_in v ++ a ∷ [])
        (cond-true (unit_number (path_in v) == memory.unit) (unwrap_or memory.end memory.start) memory.start (eq-eqb (unit_number (path_in v)) memory.unit (sym unit_is))
        ∙ ap (λ (e : Option (List PathAnswer)). unwrap_or e memory.start) (ap (λ (m : BackupCopy). m.end) (sym one) ∙ holds.path_is)))
        (λ message is. absurd (landed message is (term.flight_ok message is) (ok.flies message is)))

  -- REPLY OK of a unit that is one SEND
  module _ (w : Waits sys t v) (reply : List ℕ) (outside : is_outside (path_in v) ≡ true) where
    abbrev served : View
    served = gets (Replied reply) (unit_over_in (Some reply) v)

    running_path : RunningPath sys t v.last.number (path_in v)
    running_path = path.running v.unit (let is = w.is_open in let runs = w.runs in ap attempt_of is ∙ runs) (term.path_ok w.going_on w.working (ap is_takeover w.calm))

    -- the unit sends from the frontier
    sent-from : RunsFrom sys t w.unit.restarts frontier (path_in v) → (path_in v ≡ frontier) × (sys.ask t frontier ≡ verb.Send w.class w.message)
    sent-from (transacts begins more whole inside) = absurd (true≢false (sym outside ∙ inside))
    sent-from (sends c message asks is) = (is, ap (sys.ask t) (sym is) ∙ w.asks)
    sent-from (fails c x message asks is) =
        absurd (let faulty = ap (sys.ask t) is ∙ b.fails t c x message frontier ok.base.rest.is_path asks in let sent = w.asks in cc (faulty, sent))

    abbrev from : (path_in v ≡ frontier) × (sys.ask t frontier ≡ verb.Send w.class w.message)
    from = sent-from (waiting-at sys b t v frontier ok w)

    -- its memory has no end path
    no-end : (memory : BackupCopy) → v.memory ≡ Some memory → memory.end ≡ None
    no-end memory is = by v.mode refl w.working memory.end refl
      where
        ended : HasMessages v.mode → (e : List PathAnswer) → memory.end ≡ Some e → ⊥
        ended has e is_e = let asks = (ok.ends has w.unit memory e w.is_open is is_e).asks in let sent = from.1 in absurd (cc (asks, sent))

        by : (mode : PairMode) → v.mode ≡ mode → IsWorking mode → (e : Option (List PathAnswer)) → memory.end ≡ e → memory.end ≡ None
        by mode in_mode works None none = none
        by Alone in_mode works (Some e) is_e = absurd (let none = ok.alone in_mode in cc (none, is))
        by Raising in_mode works (Some e) is_e = absurd (ended (rw in_mode tt) e is_e)
        by Paired in_mode works (Some e) is_e = absurd (ended (rw in_mode tt) e is_e)
        by Down in_mode works (Some e) is_e = absurd works
        by Gone in_mode works (Some e) is_e = absurd works

    served-forced : IsForced served.last frontier (sys.ask t frontier) (Replied reply)
    served-forced = subst (λ (x : Verb). IsForced served.last frontier x (Replied reply)) (sym from.1) (ok.base.rest.outside, ap unit_number (sym from.0), refl)

    leads-served : (p : List PathAnswer) → p ≡ frontier → Leads sys t served.last p (path_in v ++ Replied reply ∷ [])
    leads-served p same = record {
      rest = Replied reply ∷ [];
      whole = ap (λ (x : List PathAnswer). x ++ Replied reply ∷ []) (from.0 ∙ sym same);
      forced = (subst (λ (x : List PathAnswer). IsForced served.last x (sys.ask t x) (Replied reply)) (sym same) served-forced, tt);
    }

    flies-served : (message : Message) → FlightOk sys t v.last.number v.unit v.memory (path_in v) message → IsFlying sys t v.last v.unit v.memory frontier (path_in v) message
        → IsFlying sys t served.last None v.memory (path_in v ++ Replied reply ∷ []) (path_in v ++ Replied reply ∷ []) message
    flies-served (Start n p) f flies = tt
    flies-served (Copy n p) f flies = (leads-served p (flies.1 w.unit w.is_open), λ u is. absurd (cc is))
    flies-served (End p) f flies = absurd (let asks = flies.ends.asks in let sent = from.1 in cc (asks, sent))

    -- the reply of a unit that is one SEND keeps it
    pub serve-kept : FrontierOk sys t served (frontier_behind v served frontier)
    serve-kept =
        let stands = reply-outside reply (path_in v) outside in
        let same = ap (λ (p : List PathAnswer). length p) from.0 in
        unit-over w.unit w.start w.is_open w.runs (Replied reply) (Some reply)
        (record { is_path = IsPath-push sys t (path_in v) (Replied reply) running_path.is_path (rw w.asks tt); outside = ap (λ (at : Standing). is_none at.within) stands })
        (ap (λ (at : Standing). at.ended + 1) stands) running_path.number (omega (arith, same))
        (λ memory is unit_is.
        leads-served (resumed_path memory served.last)
        (cond-true (unit_number (path_in v) == memory.unit) (unwrap_or memory.end memory.start) memory.start (eq-eqb (unit_number (path_in v)) memory.unit (sym unit_is))
        ∙ (ap (λ (e : Option (List PathAnswer)). unwrap_or e memory.start) (no-end memory is) ∙ (ok.held memory is).at_open w.unit w.is_open)))
        (λ message is. flies-served message (term.flight_ok message is) (ok.flies message is))

  -- RESTART
  module _ (unit : OpenUnit) (is_open : v.unit ≡ Some unit) (start : List PathAnswer) (runs : unit.running ≡ Some start) (kind : Cause) where
    abbrev back : View
    back = record v { unit = with_restart kind (Some unit); term = record v.term { path = start; pending = None } }

    abbrev now : OpenUnit
    now = record unit { restarts = unit.restarts + 1; awaits = awaited_after kind unit.awaits; running = None }

    there : start ≡ frontier
    there = ok.base.start start (ap attempt_of is_open ∙ runs)

    -- an end path closes an earlier attempt now
    ends-back : (u now : OpenUnit) (e : List PathAnswer) → v.unit ≡ Some u → now.restarts ≡ unit.restarts + 1 → EndsOne sys t u frontier (path_in v) e → EndsOne sys t now frontier start e
    ends-back u now e is more ends = record {
      asks = ends.asks;
      attempt = ends.attempt;
      closes = ends.closes;
      which =
          let one : u ≡ unit = cc (is, is_open) in
          let same = ap (λ (x : OpenUnit). x.restarts) one in
          ⊎_elim (λ earlier. inl (omega (arith, earlier, same, more))) (λ current. let this = current.0 in inl (omega (arith, this, same, more))) ends.which;
    }

    flies-back : (message : Message) → IsFlying sys t v.last v.unit v.memory frontier (path_in v) message → IsFlying sys t v.last back.unit v.memory frontier start message
    unfolding ends-back
    flies-back (Start n p) flies = tt
    flies-back (Copy n p) flies = (flies.0, λ u is. flies.1 unit is_open)
    flies-back (End p) flies = record {
      open_unit = now;
      is_open = refl;
      ends = ends-back flies.open_unit now p flies.is_open refl flies.ends;
      later = flies.later;
    }

    -- a RESTART keeps it
    pub restart-kept : FrontierOk sys t back (frontier_behind v back frontier)
    restart-kept = put v back frontier (record {
      base = record { rest = ok.base.rest; number = ok.base.number; begins = λ u is. ok.base.begins unit is_open; start = λ q now. absurd (cc now) };
      short = λ idle. let same = ap (λ (p : List PathAnswer). length p) there in omega (arith, same);
      stands = λ works untaken. there;
      held = λ memory is.
          let h = ok.held memory is in
          record { resumes = h.resumes; at_open = λ u is_u. h.at_open unit is_open; no_end = λ none. absurd (cc none) };
      ends = λ has u memory e is_u is_m is_e. subst (λ (x : OpenUnit). EndsOne sys t x frontier start e) (let one : now ≡ u = cc is_u in one) (ends-back unit now e is_open refl (ok.ends has unit memory e is_open is_m is_e));
      flies = λ message is. flies-back message (ok.flies message is);
      alone = ok.alone;
    })
