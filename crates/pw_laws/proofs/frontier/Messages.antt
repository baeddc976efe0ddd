-- The frontier at the entries of messages and pairs: CHECK, APPLIED, RAISE, FAIL and TAKEOVER.
use Rattle.std.proofs.Common.{◌≡◌, ◌≢◌, ℕ, inr, ⊎_elim, Bool, true, false, List, [], ◌∷◌, ◌++◌, Option, Some, None, unwrap_or, is_some, ◌==◌, if◌then◌else◌, refl, ap, sym, subst, append_assoc, arith, ◌∙◌}
use Rattle.std.proofs.lemmas.Bool.{and_from, cond-false, cond-true, eq-eqb, ne_eqb, true≢false}
use Rattle.pw_code.specs.declared.verb.Verb.{Verb}
use Rattle.pw_code.specs.declared.verb.Verb.TheVariants as verb
use Rattle.pw_event.specs.declared.event.Cause.TheVariants as cause
use Rattle.pw_laws.proofs.terms.KeepsChecks as path
use Rattle.pw_laws.proofs.terms.TermOk.{FlightOk, HasMessages}
use Rattle.pw_onecopy.specs.IsBehaviour.{IsBehaviour, IsPath}
use Rattle.pw_paired.specs.Failure.{resume_terminal, resumed_path, runs_unit}
use Rattle.pw_onecopy.specs.Path.{PathAnswer, Begun, is_outside}
use Rattle.pw_paired.specs.Raising.{is_takeover, settled_mode, with_message, with_end}
use Rattle.pw_paired.specs.State.{Alone, Copy, Down, End, LastEnded, BackupCopy, Message, OpenUnit, Raising, Start}
use Rattle.pw_onecopy.specs.Behaviour.{Behaviour}
use Rattle.pw_paired.specs.Terminal.{HoldsEnd, closing_answer}
use Rattle.pw_paired.specs.Units.{attempt_of}
use Rattle.pw_laws.proofs.frontier.Answers.{no-open}
use Rattle.pw_laws.proofs.frontier.Frontier.{EndFlies, EndsOne, FrontierOk, IsFlying, IsHeld, Stands, fails, frontier_behind, sends, transacts}
use Rattle.pw_laws.proofs.frontier.Leads.{Leads, leads-here, leads-short}
use Rattle.pw_laws.proofs.frontier.Standing.{Where, closed, messages-work, put, raised-alone, raised-has, raised-works, resumed-start, running, to-stand, waiting, where-of}
use Rattle.pw_laws.proofs.induction.Moving.{TermAt}
use Rattle.pw_laws.proofs.induction.Views.{Able, View, Waits, path_in, verb_in}

-- a memory of a unit that has not ended resumes at its start
resumed-open : (m : BackupCopy) (last : LastEnded) → last.number ≢ m.unit → resumed_path m last ≡ m.start
resumed-open m last differ = cond-false (last.number == m.unit) (unwrap_or m.end m.start) m.start (ne_eqb last.number m.unit differ)

-- an attempt that closes neither sends nor has a run fault
closing-send : (v : Verb) (a : PathAnswer) → closing_answer v ≡ Some a → ((c : ℕ) (message : List ℕ) → v ≢ verb.Send c message) × ((x : ℕ) → v ≢ verb.Fault x)
closing-send v a closes = (λ c message is. absurd (let none = ap closing_answer is in cc (closes, none)), λ x is. absurd (let none = ap closing_answer is in cc (closes, none)))

closing-inside : (sys : Behaviour) → IsBehaviour sys → (t : ℕ) (path : List PathAnswer) (v : Verb) (a : PathAnswer) → IsPath sys t path → sys.ask t path ≡ v → closing_answer v ≡ Some a
    → is_outside path ≡ false
closing-inside sys b t path verb.End a is_path asks closes = b.ends t path is_path asks
closing-inside sys b t path verb.Drop a is_path asks closes = b.drops t path is_path asks
closing-inside sys b t path verb.Show a is_path asks closes = absurd (cc closes)
closing-inside sys b t path (verb.Accept screen) a is_path asks closes = absurd (cc closes)
closing-inside sys b t path verb.Begin a is_path asks closes = absurd (cc closes)
closing-inside sys b t path (verb.Send c message) a is_path asks closes = absurd (cc closes)
closing-inside sys b t path verb.Redo a is_path asks closes = absurd (cc closes)
closing-inside sys b t path verb.Stop a is_path asks closes = absurd (cc closes)
closing-inside sys b t path (verb.Fault x) a is_path asks closes = absurd (cc closes)
closing-inside sys b t path (verb.File call) a is_path asks closes = absurd (cc closes)
closing-inside sys b t path (verb.Reply reply) a is_path asks closes = absurd (cc closes)

module _ (sys : Behaviour) (b : IsBehaviour sys) (t : ℕ) (v : View) (frontier : List PathAnswer) (ok : FrontierOk sys t v frontier) (term : TermAt sys t v) where
  -- a message is in flight
  module _ (message : Message) (flies : IsFlying sys t v.last v.unit v.memory frontier (path_in v) message) where
    abbrev sent : View
    sent = record v { flight = Some message }

    -- a message that is sent keeps it
    pub sent-kept : FrontierOk sys t sent (frontier_behind v sent frontier)
    sent-kept = put v sent frontier (record {
      base = ok.base;
      short = ok.short;
      stands = ok.stands;
      held = ok.held;
      ends = ok.ends;
      flies = λ other is. subst (IsFlying sys t v.last v.unit v.memory frontier (path_in v)) (let same : message ≡ other = cc is in same) flies;
      alone = ok.alone;
    })

  -- CHECK END
  pub end-flies : Able sys t v → (a : PathAnswer) → closing_answer (verb_in sys t v) ≡ Some a → (¬ HoldsEnd v.memory (path_in v ++ a ∷ []))
      → EndFlies sys t v.unit v.memory frontier (path_in v) (path_in v ++ a ∷ [])
  end-flies able a closes lacking = by (where-of v.unit (ok.stands (rw able.paired tt) (ap is_takeover able.calm)))
    where
      outside-none : is_outside (path_in v) ≡ true → IsPath sys t (path_in v) → ⊥
      outside-none outside is_path = true≢false (sym outside ∙ closing-inside sys b t (path_in v) (verb_in sys t v) a is_path refl closes)

      not-there : path_in v ≡ frontier → ⊥
      not-there same = outside-none (ap is_outside same ∙ ok.base.rest.outside) (subst (IsPath sys t) (sym same) ok.base.rest.is_path)

      flying : (u : OpenUnit) (q : List PathAnswer) → v.unit ≡ Some u → u.running ≡ Some q → sys.ask t frontier ≡ verb.Begin → (more : List PathAnswer) → path_in v ≡ frontier ++ Begun u.restarts ∷ more
          → EndFlies sys t v.unit v.memory frontier (path_in v) (path_in v ++ a ∷ [])
      flying u q is runs begins more whole = record {
        open_unit = u;
        is_open = is;
        ends = record {
          asks = begins;
          attempt = u.restarts;
          closes = record { more = more ++ a ∷ []; whole = ap (λ (p : List PathAnswer). p ++ a ∷ []) whole ∙ append_assoc frontier (Begun u.restarts ∷ more) (a ∷ []) };
          which = inr (refl, record { start = q; runs = runs; answer = a; closes = closes; whole = refl });
        };
        later = λ held old is_held is_old.
            let e = ok.ends (rw able.paired tt) u held old is is_held is_old in (
              e.attempt,
              e.closes,
              ⊎_elim (λ earlier. earlier)
                  (λ now.
                  let same : now.1.answer ≡ a = let one = now.1.closes in cc (one, closes) in
                  absurd (lacking (record { held = held; is_held = is_held; path_is = is_old ∙ ap (λ (p : List PathAnswer). Some p) (now.1.whole ∙ ap (λ (x : PathAnswer). path_in v ++ x ∷ []) same) })))
                  e.which,
            );
      }

      by : Where sys t v.last v.unit (path_in v) frontier → EndFlies sys t v.unit v.memory frontier (path_in v) (path_in v ++ a ∷ [])
      by (closed none leads) =
          let at_rest = path.resting v.unit (ap attempt_of none) (term.path_ok able.going_on (rw able.paired tt) (ap is_takeover able.calm)) in
          absurd (outside-none at_rest.rest.outside at_rest.rest.is_path)
      by (waiting u is idle same) = absurd (not-there same)
      by (running u q is runs (transacts begins more whole inside)) = flying u q is runs begins more whole
      by (running u q is runs (sends c message asks same)) = absurd (not-there same)
      by (running u q is runs (fails c x message asks same)) =
          absurd ((closing-send (verb_in sys t v) a closes).1 x (ap (sys.ask t) same ∙ b.fails t c x message frontier ok.base.rest.is_path asks))

  -- CHECK COPY
  pub copy-flies : v.term.ending ≡ None → v.mode ≡ Raising
      → Leads sys t v.last (unwrap_or (attempt_of v.unit) (path_in v)) frontier × ((u : OpenUnit) → v.unit ≡ Some u → unwrap_or (attempt_of v.unit) (path_in v) ≡ frontier)
  copy-flies live raising = by (where-of v.unit (ok.stands (rw raising tt) (term.calm (rw raising tt))))
    where
      idle-path : attempt_of v.unit ≡ None → unwrap_or (attempt_of v.unit) (path_in v) ≡ path_in v
      idle-path idle = ap (λ (q : Option (List PathAnswer)). unwrap_or q (path_in v)) idle

      by : Where sys t v.last v.unit (path_in v) frontier
          → Leads sys t v.last (unwrap_or (attempt_of v.unit) (path_in v)) frontier × ((u : OpenUnit) → v.unit ≡ Some u → unwrap_or (attempt_of v.unit) (path_in v) ≡ frontier)
      by (closed none leads) =
          (subst (λ (p : List PathAnswer). Leads sys t v.last p frontier) (sym (idle-path (ap attempt_of none))) leads, λ u is. absurd (no-open none is))
      by (waiting u is idle same) =
          let whole = idle-path (ap attempt_of is ∙ idle) ∙ same in
          (leads-here sys t v.last (unwrap_or (attempt_of v.unit) (path_in v)) frontier whole, λ x is_x. whole)
      by (running u q is runs at) =
          let runs_q = ap attempt_of is ∙ runs in
          let whole = ap (λ (p : Option (List PathAnswer)). unwrap_or p (path_in v)) runs_q ∙ ok.base.start q runs_q in
          (leads-here sys t v.last (unwrap_or (attempt_of v.unit) (path_in v)) frontier whole, λ x is_x. whole)

  -- APPLIED
  module _ (has : HasMessages v.mode) (lacks : Bool) where
    abbrev taken : Message → View
    taken message = record v { memory = with_message (Some message) v.memory; flight = None; mode = settled_mode v.mode lacks }

    -- a memory with a start path alone
    start-held : (n : ℕ) (p : List PathAnswer) → Leads sys t v.last p frontier → ((u : OpenUnit) → v.unit ≡ Some u → p ≡ frontier) → (memory : BackupCopy)
        → record { unit = n; start = p; end = None } ≡ memory → IsHeld sys t v.last v.unit memory frontier
    start-held n p leads at_open memory same =
        subst (λ (m : BackupCopy). IsHeld sys t v.last v.unit m frontier) same
        (record {
          resumes = subst (λ (q : List PathAnswer). Leads sys t v.last q frontier) (sym (resumed-start (record { unit = n; start = p; end = None }) v.last refl)) leads;
          at_open = at_open;
          no_end = λ none differ. refl;
        })

    start-taken : (message : Message) (n : ℕ) (p : List PathAnswer) → with_message (Some message) v.memory ≡ Some (record { unit = n; start = p; end = None })
        → Leads sys t v.last p frontier → ((u : OpenUnit) → v.unit ≡ Some u → p ≡ frontier) → FrontierOk sys t (taken message) frontier
    start-taken message n p new leads at_open = record {
      base = ok.base;
      short = ok.short;
      stands = λ works. ok.stands (raised-works v.mode lacks works);
      held = λ memory is. start-held n p leads at_open memory (cc (new, is));
      ends = λ messages u memory e is_u is_m is_e.
          absurd (let one : record { unit = n; start = p; end = None } ≡ memory = cc (new, is_m) in let end = ap (λ (m : BackupCopy). m.end) one in cc (end, is_e));
      flies = λ other is. absurd (cc is);
      alone = λ is. absurd (let was = raised-alone v.mode lacks is in subst HasMessages was has);
    }

    abbrev working : Stands sys t v.last v.unit (path_in v) frontier
    working = ok.stands (messages-work v.mode has) (term.calm has)

    -- START
    start-leads : (n : ℕ) (p : List PathAnswer) → FlightOk sys t v.last.number v.unit v.memory (path_in v) (Start n p)
        → Leads sys t v.last p frontier × ((u : OpenUnit) → v.unit ≡ Some u → p ≡ frontier)
    start-leads n p f = by (where-of v.unit working)
      where
        by : Where sys t v.last v.unit (path_in v) frontier → Leads sys t v.last p frontier × ((u : OpenUnit) → v.unit ≡ Some u → p ≡ frontier)
        by (closed none leads) = (subst (λ (q : List PathAnswer). Leads sys t v.last q frontier) f.2 leads, λ u is. absurd (no-open none is))
        by (waiting u is idle same) = let whole = sym f.2 ∙ same in (leads-here sys t v.last p frontier whole, λ x is_x. whole)
        by (running u q is runs at) = let idle = f.1 in absurd (cc (idle, is, runs))

    -- END
    end-taken : (p : List PathAnswer) (m : BackupCopy) → v.memory ≡ Some m → EndFlies sys t v.unit v.memory frontier (path_in v) p → FrontierOk sys t (taken (End p)) frontier
    end-taken p m is_m flies =
        let new : with_end p v.memory ≡ Some (record m { end = Some p }) = ap (with_end p) is_m in
        let old = ok.held m is_m in
        let unit_is = term.memory_unit m flies.open_unit is_m flies.is_open in
        let next = (term.unit_ok flies.open_unit flies.is_open).number in
        record {
          base = ok.base;
          short = ok.short;
          stands = λ works. ok.stands (raised-works v.mode lacks works);
          held = λ memory is.
              subst (λ (x : BackupCopy). IsHeld sys t v.last v.unit x frontier) (let one : record m { end = Some p } ≡ memory = cc (new, is) in one)
              (record {
                resumes = leads-here sys t v.last (resumed_path (record m { end = Some p }) v.last) frontier
                    (resumed-open (record m { end = Some p }) v.last (λ same. absurd (omega (arith, same, unit_is, next))) ∙ old.at_open flies.open_unit flies.is_open);
                at_open = old.at_open;
                no_end = λ none. absurd (no-open none flies.is_open);
              });
          ends = λ messages u memory e is_u is is_e.
              let one : record m { end = Some p } ≡ memory = cc (new, is) in
              let same : p ≡ e = let end = ap (λ (x : BackupCopy). x.end) one in cc (end, is_e) in
              let unit : flies.open_unit ≡ u = let is_f = flies.is_open in cc (is_f, is_u) in
              subst (λ (q : List PathAnswer). EndsOne sys t u frontier (path_in v) q) same (subst (λ (x : OpenUnit). EndsOne sys t x frontier (path_in v) p) unit flies.ends);
          flies = λ other is. absurd (cc is);
          alone = λ is. absurd (let was = raised-alone v.mode lacks is in subst HasMessages was has);
        }

    taken-kept : (message : Message) → v.flight ≡ Some message → FlightOk sys t v.last.number v.unit v.memory (path_in v) message
        → IsFlying sys t v.last v.unit v.memory frontier (path_in v) message → FrontierOk sys t (taken message) frontier
    taken-kept (Start n p) is f flies = let both = start-leads n p f in start-taken (Start n p) n p refl both.0 both.1
    taken-kept (Copy n p) is f flies = start-taken (Copy n p) n p refl flies.0 flies.1
    taken-kept (End p) is f flies = end-taken p f.0 f.1 flies

    -- a message that is taken in keeps it
    pub applied-kept : (message : Message) → v.flight ≡ Some message → FrontierOk sys t (taken message) (frontier_behind v (taken message) frontier)
    applied-kept message is = put v (taken message) frontier (taken-kept message is (term.flight_ok message is) (ok.flies message is))

  -- the pair may have become up to date
  pub settles-kept : (lacks : Bool) → FrontierOk sys t (record v { mode = settled_mode v.mode lacks }) (frontier_behind v (record v { mode = settled_mode v.mode lacks }) frontier)
  settles-kept lacks = put v (record v { mode = settled_mode v.mode lacks }) frontier (record {
    base = ok.base;
    short = ok.short;
    stands = λ works. ok.stands (raised-works v.mode lacks works);
    held = ok.held;
    ends = λ has. ok.ends (raised-has v.mode lacks has);
    flies = ok.flies;
    alone = λ is. ok.alone (raised-alone v.mode lacks is);
  })

  -- a primary beside an up-to-date backup fails
  pub down-kept : FrontierOk sys t (record v { mode = Down; flight = None; term = record v.term { path = []; pending = None } })
      (frontier_behind v (record v { mode = Down; flight = None; term = record v.term { path = []; pending = None } }) frontier)
  down-kept = put v (record v { mode = Down; flight = None; term = record v.term { path = []; pending = None } }) frontier (record {
    base = ok.base;
    short = λ idle. omega arith;
    stands = λ works. absurd works;
    held = ok.held;
    ends = λ has. absurd has;
    flies = λ message is. absurd (cc is);
    alone = λ is. absurd (cc is);
  })

  -- a backup fails
  pub lone-kept : HasMessages v.mode → FrontierOk sys t (record v { mode = Alone; memory = None; flight = None }) (frontier_behind v (record v { mode = Alone; memory = None; flight = None }) frontier)
  lone-kept has = put v (record v { mode = Alone; memory = None; flight = None }) frontier (record {
    base = ok.base;
    short = ok.short;
    stands = λ works. ok.stands (messages-work v.mode has);
    held = λ memory is. absurd (cc is);
    ends = λ messages. absurd messages;
    flies = λ message is. absurd (cc is);
    alone = λ is. refl;
  })

  -- a process fails
  pub server-kept : Waits sys t v → (k : ℕ) → FrontierOk sys t (record v { term = record v.term { pending = Some (cause.Server k) } })
      (frontier_behind v (record v { term = record v.term { pending = Some (cause.Server k) } }) frontier)
  server-kept w k = put v (record v { term = record v.term { pending = Some (cause.Server k) } }) frontier (record {
    base = ok.base;
    short = ok.short;
    stands = λ works untaken. ok.stands works (ap is_takeover w.calm);
    held = ok.held;
    ends = ok.ends;
    flies = ok.flies;
    alone = ok.alone;
  })

  -- a pair gets a new backup
  pub raise-kept : v.mode ≡ Alone → FrontierOk sys t (record v { mode = Raising; memory = None }) (frontier_behind v (record v { mode = Raising; memory = None }) frontier)
  raise-kept alone = put v (record v { mode = Raising; memory = None }) frontier (record {
    base = ok.base;
    short = ok.short;
    stands = λ works. ok.stands (rw alone tt);
    held = λ memory is. absurd (cc is);
    ends = λ messages u memory e is_u is_m. absurd (cc is_m);
    flies = λ message is. absurd (let none = term.quiet (λ has. subst HasMessages alone has) in cc (none, is));
    alone = λ is. refl;
  })

  -- TAKEOVER
  module _ (p : ℕ) (down : v.mode ≡ Down) (live : v.term.ending ≡ None) (held : BackupCopy) (is_held : v.memory ≡ Some held) where
    abbrev after : View
    after = record v { mode = Alone; memory = None; term = resume_terminal p (Some held) v.unit v.last v.term }

    -- with an open unit it goes on at the frontier
    at-open : (u : OpenUnit) → v.unit ≡ Some u → resumed_path held v.last ≡ frontier
    at-open u is =
        let same = term.memory_unit held u is_held is in
        let next = (term.unit_ok u is).number in
        resumed-open held v.last (λ e. absurd (omega (arith, e, same, next))) ∙ (ok.held held is_held).at_open u is

    stands-by : (unit : Option OpenUnit) → v.unit ≡ unit → is_takeover (if runs_unit held.unit unit then Some (cause.Takeover p) else v.term.pending) ≡ false
        → Stands sys t v.last unit (resumed_path held v.last) frontier
    stands-by None none untaken = (ok.held held is_held).resumes
    stands-by (Some u) is untaken = by u.running refl
      where
        by : (running : Option (List PathAnswer)) → u.running ≡ running → Stands sys t v.last (Some u) (resumed_path held v.last) frontier
        by None idle = to-stand {last = v.last} (waiting u refl idle (at-open u is))
        by (Some q) runs =
            let here : runs_unit held.unit (Some u) ≡ true =
            and_from (u.number == held.unit) (is_some u.running) (eq-eqb u.number held.unit (sym (term.memory_unit held u is_held is))) (ap is_some runs) in
            absurd (true≢false (sym (ap is_takeover (cond-true (runs_unit held.unit (Some u)) (Some (cause.Takeover p)) v.term.pending here)) ∙ untaken))

    -- a takeover keeps it
    pub taken-over-kept : FrontierOk sys t after (frontier_behind v after frontier)
    taken-over-kept = put v after frontier (record {
      base = ok.base;
      short = λ idle. leads-short (ok.held held is_held).resumes;
      stands = λ works untaken. stands-by v.unit refl untaken;
      held = λ memory is. absurd (cc is);
      ends = λ messages. absurd messages;
      flies = λ message is. absurd (let none = term.quiet (λ has. subst HasMessages down has) in cc (none, is));
      alone = λ is. refl;
    })
