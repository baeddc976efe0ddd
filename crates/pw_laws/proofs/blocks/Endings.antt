-- The machine follows where a terminal ends, and at the end of a log.
use Rattle.std.proofs.Common.{◌≡◌, ◌≢◌, ⊎_elim, ℕ, ◌<◌, ◌≤◌, false, List, [], ◌∷◌, ◌++◌, length, Option, Some, None, refl, ap, sym, subst, append-nil, append_assoc, arith, ◌∙◌}
use Rattle.std.proofs.lemmas.Bool.{cases_eq, cond-false, cond-true, eq-eqb, ne_eqb}
use Rattle.pw_code.specs.declared.verb.Verb.{Verb}
use Rattle.pw_code.specs.declared.verb.Verb.TheVariants as verb
use Rattle.pw_event.specs.declared.event.Ending.{Ending}
use Rattle.pw_event.specs.declared.event.Ending.TheVariants as ending
use Rattle.pw_event.specs.declared.event.Event.{Event}
use Rattle.pw_event.specs.declared.event.Event.TheVariants as event
use Rattle.pw_laws.proofs.ends.EndsOnce.{stopped-idle}
use Rattle.pw_onecopy.proofs.Update.{upd-other, upd-same}
use Rattle.pw_onecopy.specs.IsBehaviour.{IsBehaviour, IsPath, Suits, SuitsFrom}
use Rattle.pw_paired.specs.End.{LegalEnd, do_end, end_terminal}
use Rattle.pw_onecopy.specs.OneCopy.{LegalDone, Machine, MayEnd, Single, one_copy, run_blocks, single_behind}
use Rattle.pw_onecopy.specs.Attempt.{attempt}
use Rattle.pw_onecopy.specs.Path.{PathAnswer, Entry, entries_on}
use Rattle.pw_paired.specs.Raising.{is_takeover, settle_mode}
use Rattle.pw_onecopy.specs.Blocks.{SerialBlock, Done, Left}
use Rattle.pw_paired.specs.Serial.{left_block}
use Rattle.pw_paired.specs.State.{Gone, OpenUnit, State, Term}
use Rattle.pw_paired.specs.Step.{Fits, effect}
use Rattle.pw_onecopy.specs.Behaviour.{Behaviour}
use Rattle.pw_paired.specs.Terminal.{CanStep, path_of}
use Rattle.pw_paired.specs.Units.{attempt_of, committed_files, leave_units, only}
use Rattle.pw_laws.proofs.blocks.Fold.{Fold, fold_on, run_blocks-append, serial-append}
use Rattle.pw_laws.proofs.blocks.Following.{Follows, FollowsAll, IsStranger}
use Rattle.pw_laws.proofs.blocks.Known.{Known}
use Rattle.pw_laws.proofs.blocks.Lefts.{LeftOne, left-ending, left-one, left_in, left_term}
use Rattle.pw_laws.proofs.blocks.Losses.{over-follows, refreshes-left}
use Rattle.pw_laws.proofs.blocks.Others.{follow-by, frontier-stays, other-follows, shown-none, stranger-follows}
use Rattle.pw_laws.proofs.blocks.Quiet.{settled-there}
use Rattle.pw_laws.proofs.blocks.Running.{at-work, next-is, ready}
use Rattle.pw_laws.proofs.frontier.Frontier.{FrontierOk}
use Rattle.pw_laws.proofs.frontier.Leads.{IsForced, Leads, Next, goes_on, is_there, next-of}
use Rattle.pw_laws.proofs.frontier.Standing.{Where, closed, running, waiting, where-of}
use Rattle.pw_laws.proofs.induction.Views.{view_of}
use Rattle.pw_laws.specs.locking.Records.{commits_at}

-- each answer on a path is one to the verb before it
suits-from : (sys : Behaviour) (t : ℕ) (before path rest : List PathAnswer) (a : PathAnswer) → SuitsFrom sys t before (path ++ a ∷ rest) → Suits sys t (before ++ path) (sys.ask t (before ++ path)) a
suits-from sys t before [] rest a suits = subst (λ (p : List PathAnswer). Suits sys t p (sys.ask t p) a) (sym (append-nil before)) suits.0
suits-from sys t before (first ∷ path) rest a suits =
    subst (λ (p : List PathAnswer). Suits sys t p (sys.ask t p) a) (append_assoc before (first ∷ []) path) (suits-from sys t (before ++ first ∷ []) path rest a suits.1)

-- an answer on a path is one to the verb before it
pub suits-at : (sys : Behaviour) (t : ℕ) (path rest : List PathAnswer) (a : PathAnswer) → IsPath sys t (path ++ a ∷ rest) → Suits sys t path (sys.ask t path) a
suits-at sys t path rest a is_path = suits-from sys t [] path rest a is_path.suits

-- a terminal whose attempt does not run is left as it is
pub left-idle : (sys : Behaviour) (t : ℕ) (files : ℕ → List (List ℕ)) (j : ℕ) (unit : Option OpenUnit) (single : Single) → attempt_of unit ≡ None → left_term sys t files j unit single ≡ single
left-idle sys t files j None single idle = refl
left-idle sys t files j (Some u) single idle = ap (λ (r : Option (List PathAnswer)). left_in sys t files j r single) idle

-- an attempt that is left is over in the machine
pub left-running : (sys : Behaviour) (t : ℕ) (files : ℕ → List (List ℕ)) (j : ℕ) (unit : Option OpenUnit) (single : Single) (u : OpenUnit) (q : List PathAnswer) → unit ≡ Some u → u.running ≡ Some q
    → left_term sys t files j unit single ≡ single_behind Left (attempt sys t single.path files single.restarts j) single
left-running sys t files j unit single u q is runs =
    ap (λ (x : Option OpenUnit). left_term sys t files j x single) is ∙ ap (λ (r : Option (List PathAnswer)). left_in sys t files j r single) runs

module _ (sys : Behaviour) (b : IsBehaviour sys) (s : State) (f : Fold) (known : Known sys b s f) (all : FollowsAll sys s f)
    (stay : (entry : Event) → commits_at s entry ≡ false → Fits sys s entry → committed_files sys (effect sys s entry) ≡ committed_files sys s) (t : ℕ) where
  abbrev machine : Machine
  machine = one_copy sys f.order

  abbrev single : Single
  single = left_term sys t machine.files (f.reading.answers t) (s.units t) (machine.terms t)

  -- where no answer is forced, the machine's terminal stands where the terminal stands
  end-path : CanStep sys s t → ((a : PathAnswer) → IsForced (s.ended t) (path_of s t) (sys.ask t (path_of s t)) a → Leads sys t (s.ended t) (path_of s t ++ a ∷ []) (f.frontier t) → ⊥)
      → single.path ≡ path_of s t
  end-path can no_forced = by (where-of (s.units t) (ok.stands (rw can.paired tt) (ap is_takeover can.calm)))
    where
      there : s.modes (sys.pair_of t) ≢ Gone
      there gone = absurd (let paired = can.paired in cc (paired, gone))

      ok : FrontierOk sys t (view_of sys s t) (f.frontier t)
      ok = known.frontiers t can.live.known can.live.going_on there

      path : (machine.terms t).path ≡ f.frontier t
      path = ((all.terms t can.live.known).goes can.live.going_on there).path

      idle-at : attempt_of (s.units t) ≡ None → path_of s t ≡ f.frontier t → single.path ≡ path_of s t
      idle-at idle same = ap (λ (x : Single). x.path) (left-idle sys t machine.files (f.reading.answers t) (s.units t) (machine.terms t) idle) ∙ (path ∙ sym same)

      go : s.units t ≡ None → Next sys t (s.ended t) (path_of s t) (f.frontier t) → single.path ≡ path_of s t
      go none (is_there same) = idle-at (ap attempt_of none) same
      go none (goes_on a forced leads) = absurd (no_forced a forced leads)

      by : Where sys t (s.ended t) (s.units t) (path_of s t) (f.frontier t) → single.path ≡ path_of s t
      by (closed none leads) = go none (next-of leads)
      by (waiting u is idle same) = idle-at (ap attempt_of is ∙ idle) same
      by (running u q is runs at) =
          let w = at-work sys b s f known all t u q is runs in
          ap (λ (x : Single). x.path) (left-running sys t machine.files (f.reading.answers t) (s.units t) (machine.terms t) u q is runs)
          ∙ (ap (λ x. x.path) (next-is sys b s f known all t u q w (f.reading.answers t)) ∙ sym (w.at.alone.path_is (rw can.paired tt) (ap is_takeover can.calm)))

  -- the ending may come
  may-end : (e : Ending) → LegalEnd sys s t e → MayEnd sys t single e (sys.ask t single.path)
  may-end ending.Stopped l =
      ap (sys.ask t) (end-path l.can (λ a forced leads. subst (λ (v : Verb). IsForced (s.ended t) (path_of s t) v a) l.asks forced)) ∙ l.asks
  may-end ending.NoEntries l =
      let same = end-path l.can (λ a forced leads. none a (subst (λ (v : Verb). IsForced (s.ended t) (path_of s t) v a) l.asks forced) leads) in
      (l.screen, ap (sys.ask t) same ∙ l.asks, ap entries_on same ∙ l.all)
    where
      none : (a : PathAnswer) → IsForced (s.ended t) (path_of s t) (verb.Accept l.screen) a → Leads sys t (s.ended t) (path_of s t ++ a ∷ []) (f.frontier t) → ⊥
      none (Entry k) forced leads =
          let there : s.modes (sys.pair_of t) ≢ Gone = λ gone. absurd (let paired = l.can.paired in cc (paired, gone)) in
          let ok = known.frontiers t l.can.live.known l.can.live.going_on there in
          let whole : f.frontier t ≡ path_of s t ++ Entry k ∷ leads.rest = leads.whole ∙ append_assoc (path_of s t) (Entry k ∷ []) leads.rest in
          let suits = suits-at sys t (path_of s t) leads.rest (Entry k) (subst (IsPath sys t) whole ok.base.rest.is_path) in
          let both = subst (λ (v : Verb). Suits sys t (path_of s t) v (Entry k)) l.asks suits in
          let low = both.1 in let is_all = l.all in absurd (omega (arith, forced, low, is_all))
      none a forced leads = absurd forced
  may-end (ending.Fault x) l =
      ap (sys.ask t) (end-path l.can (λ a forced leads. subst (λ (v : Verb). IsForced (s.ended t) (path_of s t) v a) l.asks forced)) ∙ l.asks
  may-end (ending.Suspended cause) l =
      let w = at-work sys b s f known all t l.unit l.caused.start l.caused.is_open l.caused.runs in
      ap (λ (x : Single). x.restarts) (left-running sys t machine.files (f.reading.answers t) (s.units t) (machine.terms t) l.unit l.caused.start l.caused.is_open l.caused.runs)
      ∙ (w.restarts_is ∙ l.full)
  may-end ending.Lost l = tt

  -- the terminal is live
  live-at : (e : Ending) → LegalEnd sys s t e → (t < sys.terminals) × ((s.terms t).ending ≡ None)
  live-at ending.Stopped l = (l.can.live.known, l.can.live.going_on)
  live-at ending.NoEntries l = (l.can.live.known, l.can.live.going_on)
  live-at (ending.Fault x) l = (l.can.live.known, l.can.live.going_on)
  live-at (ending.Suspended cause) l = let w = at-work sys b s f known all t l.unit l.caused.start l.caused.is_open l.caused.runs in (w.here, w.going_on)
  live-at ending.Lost l = (l.live.known, l.live.going_on)

  -- what an ending leaves
  record Ended (e : Ending) (x : State) : Type 0 where
    own : (x.terms t).ending ≡ Some e
    idle : attempt_of (x.units t) ≡ None
    terms : (o : ℕ) → o ≢ t → x.terms o ≡ s.terms o
    units : (o : ℕ) → o ≢ t → x.units o ≡ s.units o
    there : (p : ℕ) → x.modes p ≢ Gone → s.modes p ≢ Gone

  over-it : (e : Ending) (x : State) → attempt_of (x.units t) ≡ None → ((o : ℕ) → o ≢ t → x.terms o ≡ s.terms o) → ((o : ℕ) → o ≢ t → x.units o ≡ s.units o)
      → ((p : ℕ) → x.modes p ≢ Gone → s.modes p ≢ Gone) → Ended e (settle_mode sys (sys.pair_of t) (end_terminal t e x))
  over-it e x idle terms units there = record {
    own = ap (λ (y : Term). y.ending) (upd-same x.terms t _ t refl);
    idle = idle;
    terms = λ o differ. upd-other x.terms t _ o differ ∙ terms o differ;
    units = units;
    there = λ p here. there p (settled-there sys (end_terminal t e x) (sys.pair_of t) p here);
  }

  over-left : (e : Ending) → Ended e (settle_mode sys (sys.pair_of t) (end_terminal t e (leave_units sys (only t) s)))
  over-left e =
      over-it e (leave_units sys (only t) s) (ap attempt_of (cond-true (only t t) None (s.units t) (eq-eqb t t refl))) (λ o differ. refl)
      (λ o differ. cond-false (only t o) None (s.units o) (ne_eqb o t differ)) (λ p there. there)

  ended : (e : Ending) → LegalEnd sys s t e → Ended e (do_end sys t e s)
  ended ending.Stopped l = over-it ending.Stopped s (stopped-idle sys b s known.inv 0 0 f.reading t l) (λ o differ. refl) (λ o differ. refl) (λ p there. there)
  ended ending.Lost l = over-it ending.Lost s (ap attempt_of ((known.inv.terms t l.live.known).lost l.lost)) (λ o differ. refl) (λ o differ. refl) (λ p there. there)
  ended ending.NoEntries l = over-left ending.NoEntries
  ended (ending.Fault x) l = over-left (ending.Fault x)
  ended (ending.Suspended cause) l = over-left (ending.Suspended cause)

  -- a running attempt of it is left, and it is done
  pub follows-end : (e : Ending) → Fits sys s (event.End t e) → FollowsAll sys (effect sys s (event.End t e)) (fold_on sys s (event.End t e) f)
  follows-end e l =
      follow-by sys b s f entry more refl all.serial
      (serial-append sys machine (left_block t (f.reading.answers t) (s.units t)) (Done t e ∷ []) one.serial (done, tt))
      (ap (λ (m : Machine). m.files) run ∙ (one.files ∙ (all.files ∙ sym (stay entry refl l))))
      (λ o here. subst (λ (m : Machine). Follows sys (effect sys s entry) (fold_on sys s entry f) o (m.terms o)) (sym run) (⊎_elim (λ same. own o same) (λ differ. others o here differ) (cases_eq o t)))
      (λ o unknown.
      let differ : o ≢ t = λ same. unknown (subst (λ (x : ℕ). x < sys.terminals) (sym same) live.0) in
      subst (λ (x : Single). IsStranger (effect sys s entry) (fold_on sys s entry f) o x) (sym (ap (λ (m : Machine). m.terms o) run ∙ (upd-other _ t _ o differ ∙ one.others o differ)))
      (stranger-follows sys b s f entry o (machine.terms o) (ap (λ (x : Term). x.ending) (left_state.terms o differ)) (shown-none sys b s f entry refl o) (all.strangers o unknown)))
    where
      entry : Event
      entry = event.End t e

      more : List SerialBlock
      more = left_block t (f.reading.answers t) (s.units t) ++ Done t e ∷ []

      live : (t < sys.terminals) × ((s.terms t).ending ≡ None)
      live = live-at e l

      left_state : Ended e (do_end sys t e s)
      left_state = ended e l

      one : LeftOne sys machine t (f.reading.answers t) (s.units t) (left_block t (f.reading.answers t) (s.units t))
      one = left-one sys machine t (f.reading.answers t) (s.units t) (λ u q is runs. ready sys b s f known all t u q is runs)

      middle : Machine
      middle = run_blocks sys machine (left_block t (f.reading.answers t) (s.units t))

      run : run_blocks sys machine more ≡ run_blocks sys middle (Done t e ∷ [])
      run = run_blocks-append sys machine (left_block t (f.reading.answers t) (s.units t)) (Done t e ∷ [])

      done : LegalDone sys middle t e
      done = record {
        live = record {
          known = live.0;
          live = ap (λ (x : Single). x.ending) one.own
              ∙ (left-ending sys t machine.files (f.reading.answers t) (s.units t) (machine.terms t) ∙ ((all.terms t live.0).ending ∙ live.1));
        };
        may_end = subst (λ (x : Single). MayEnd sys t x e (sys.ask t x.path)) (sym one.own) (may-end e l);
      }

      own : (o : ℕ) → o ≡ t → Follows sys (effect sys s entry) (fold_on sys s entry f) o ((run_blocks sys middle (Done t e ∷ [])).terms o)
      own o same =
          subst (λ (x : ℕ). Follows sys (effect sys s entry) (fold_on sys s entry f) x ((run_blocks sys middle (Done t e ∷ [])).terms x)) (sym same)
          (over-follows sys b s f known all stay entry t live.0 ((run_blocks sys middle (Done t e ∷ [])).terms t)
          (ap (λ (x : Single). x.ending) (upd-same middle.terms t _ t refl) ∙ sym left_state.own)
          (λ going there. absurd (let ending = left_state.own in cc (ending, going)))
          left_state.idle (shown-none sys b s f entry refl t)
          (ap (λ (x : Single). x.refreshes) (upd-same middle.terms t _ t refl) ∙ (ap (λ (x : Single). x.refreshes) one.own ∙ refreshes-left sys b s f known all stay t)))

      others : (o : ℕ) → o < sys.terminals → o ≢ t → Follows sys (effect sys s entry) (fold_on sys s entry f) o ((run_blocks sys middle (Done t e ∷ [])).terms o)
      others o here differ =
          subst (λ (x : Single). Follows sys (effect sys s entry) (fold_on sys s entry f) o x) (sym (upd-other middle.terms t _ o differ ∙ one.others o differ))
          (other-follows sys b s f entry o (machine.terms o) (ap (λ (x : Term). x.ending) (left_state.terms o differ)) (left_state.there (sys.pair_of o)) (left_state.units o differ)
          (λ going there.
          frontier-stays sys b s f entry o
          (λ idle. subst (λ (x : Term). length x.path ≤ length (f.frontier o)) (sym (left_state.terms o differ))
          ((known.frontiers o here (ap (λ (x : Term). x.ending) (sym (left_state.terms o differ)) ∙ going) (left_state.there (sys.pair_of o) there)).short (ap attempt_of (sym (left_state.units o differ)) ∙ idle))))
          refl (shown-none sys b s f entry refl o)
          (λ u q is_u runs. ap (λ (x : ℕ → List (List ℕ)). (attempt sys o q x u.restarts (f.reading.answers o)).refreshes) (stay entry refl l))
          (all.terms o here))
