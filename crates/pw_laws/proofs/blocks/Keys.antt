-- The machine follows KEY, AGAIN and BEGIN.
use Rattle.std.proofs.Common.{◌≡◌, ◌≢◌, ℕ, suc, ◌+◌, ◌<◌, ◌≤◌, false, List, [], ◌∷◌, ◌++◌, length, Option, Some, None, unwrap_or, refl, ap, sym, subst, length-append, arith, ◌∙◌}
use Rattle.pw_code.specs.declared.verb.Verb.{Verb}
use Rattle.pw_code.specs.declared.verb.Verb.TheVariants as verb
use Rattle.pw_event.specs.declared.event.Event.{Event}
use Rattle.pw_event.specs.declared.event.Event.TheVariants as event
use Rattle.pw_laws.proofs.terms.KeepsChecks as checks
use Rattle.pw_laws.proofs.Paths.{standing-push}
use Rattle.pw_laws.proofs.terms.TermOk.{IsWorking}
use Rattle.pw_onecopy.proofs.Update.{upd-other, upd-same}
use Rattle.pw_onecopy.specs.IsBehaviour.{IsBehaviour}
use Rattle.pw_onecopy.specs.declared.refresh.Refresh.{Refresh}
use Rattle.pw_onecopy.specs.OneCopy.{AsksOut, IsSerialFrom, Machine, Single, one_copy, single_behind_out, run_blocks}
use Rattle.pw_onecopy.specs.Attempt.{Attempt, attempt, attempt_with_served, answer_verb, BeginsUnit}
use Rattle.pw_onecopy.specs.Path.{PathAnswer, Entry, Replied, Standing, entries_on, standing, unit_number}
use Rattle.pw_paired.specs.Raising.{is_takeover}
use Rattle.pw_paired.specs.Shown.{refresh_of}
use Rattle.pw_onecopy.specs.Blocks.{SerialBlock, Out}
use Rattle.pw_paired.specs.Serial.{answers_at_begin, blocks_of, one_answer_more}
use Rattle.pw_onecopy.specs.Update.{upd}
use Rattle.pw_paired.specs.State.{Gone, OpenUnit, State, Term}
use Rattle.pw_paired.specs.Step.{Fits, effect}
use Rattle.pw_onecopy.specs.Behaviour.{Behaviour, Served, Reply, Fault}
use Rattle.pw_paired.specs.Terminal.{LegalAgain, LegalBegin, LegalKey, unit_with_attempt, kept_reply, next_verb, path_of}
use Rattle.pw_paired.specs.Units.{attempt_of, committed_files, restarts_of}
use Rattle.pw_laws.proofs.blocks.Fold.{Fold, fold_on}
use Rattle.pw_laws.proofs.blocks.Following.{Follows, FollowsAll, GoesOn, running_refreshes}
use Rattle.pw_laws.proofs.blocks.Known.{Known}
use Rattle.pw_laws.proofs.blocks.Others.{frontier-stays, shown-none}
use Rattle.pw_laws.proofs.blocks.Own.{own-follows, plain-follows, same-follows}
use Rattle.pw_laws.proofs.blocks.Running.{AtWork, at-work, running-idle, running-is}
use Rattle.pw_laws.proofs.blocks.Screens.{out-is, out-running, out-short}
use Rattle.pw_laws.proofs.frontier.Frontier.{FrontierOk}
use Rattle.pw_laws.proofs.frontier.Leads.{IsForced, Next, goes_on, is_there, leads-short, next-of}
use Rattle.pw_laws.proofs.frontier.Standing.{Where, closed, grows, one-longer, running, waiting, where-of}
use Rattle.pw_laws.proofs.induction.Views.{view_of}
use Rattle.pw_laws.proofs.screens.Numbers.{AreBounded, covers-other, quiet-bounded}
use Rattle.pw_laws.specs.locking.Records.{commits_at}

-- a verb that shows no screen adds no refresh
served-quiet : (served : Served) (at : Attempt) → (attempt_with_served served at).refreshes ≡ at.refreshes
served-quiet (Reply reply files) at = refl
served-quiet (Fault x) at = refl

-- a verb that shows nothing leaves the refreshes of an attempt
pub verb-quiet : (sys : Behaviour) (t r : ℕ) (files : ℕ → List (List ℕ)) (at : Attempt) (v : Verb) → v ≢ verb.Show → (answer_verb sys t r files v at).refreshes ≡ at.refreshes
verb-quiet sys t r files at verb.Show other = absurd (other refl)
verb-quiet sys t r files at (verb.Accept screen) other = refl
verb-quiet sys t r files at verb.Begin other = refl
verb-quiet sys t r files at (verb.Send class message) other = served-quiet (sys.serve class message at.files) at
verb-quiet sys t r files at verb.End other = refl
verb-quiet sys t r files at verb.Drop other = refl
verb-quiet sys t r files at verb.Redo other = refl
verb-quiet sys t r files at verb.Stop other = refl
verb-quiet sys t r files at (verb.Fault x) other = refl
verb-quiet sys t r files at (verb.File call) other = refl
verb-quiet sys t r files at (verb.Reply reply) other = refl

module _ (sys : Behaviour) (b : IsBehaviour sys) (s : State) (f : Fold) (known : Known sys b s f) (all : FollowsAll sys s f)
    (stay : (entry : Event) → commits_at s entry ≡ false → Fits sys s entry → committed_files sys (effect sys s entry) ≡ committed_files sys s) where
  abbrev machine : Machine
  machine = one_copy sys f.order

  -- the attempt with one answer more adds no refresh, where its verb shows no screen
  pub quiet-more : (t : ℕ) (u : OpenUnit) (q : List PathAnswer) (w : AtWork sys b s f known all t u q) (v : Verb)
      → sys.ask t (attempt sys t q (committed_files sys s) u.restarts (f.reading.answers t)).path ≡ v → v ≢ verb.Show
      → (attempt sys t q (committed_files sys s) u.restarts (suc (f.reading.answers t))).refreshes ≡ (attempt sys t q (committed_files sys s) u.restarts (f.reading.answers t)).refreshes
  quiet-more t u q w v asks other =
      let at : Attempt = attempt sys t q (committed_files sys s) u.restarts (f.reading.answers t) in
      ap (λ (x : Verb). (answer_verb sys t u.restarts (committed_files sys s) x at).refreshes) asks ∙ verb-quiet sys t u.restarts (committed_files sys s) at v other

  -- an entry that puts one answer on the path of a terminal and shows no screen
  module _ (entry : Event) (t : ℕ) (here : t < sys.terminals) (a : PathAnswer)
      (terms : (effect sys s entry).terms ≡ upd s.terms t (record (s.terms t) { path = path_of s t ++ a ∷ [] }))
      (units : (effect sys s entry).units ≡ s.units) (modes : (effect sys s entry).modes ≡ s.modes)
      (answers : (fold_on sys s entry f).reading.answers ≡ one_answer_more t f.reading.answers) (none : refresh_of sys s entry ≡ [])
      (files : committed_files sys (effect sys s entry) ≡ committed_files sys s) where
    abbrev next : State
    next = effect sys s entry

    abbrev now : Fold
    now = fold_on sys s entry f

    abbrev path : List PathAnswer
    path = path_of s t

    own-term : next.terms t ≡ record (s.terms t) { path = path ++ a ∷ [] }
    own-term = ap (λ (x : ℕ → Term). x t) terms ∙ upd-same s.terms t _ t refl

    -- the terminal's path has the answer
    pub new-path : path_of next t ≡ path ++ a ∷ []
    new-path = ap (λ (x : Term). x.path) own-term

    -- its ending is as it was
    pub ending-same : (next.terms t).ending ≡ (s.terms t).ending
    ending-same = ap (λ (x : Term). x.ending) own-term

    -- units are as they were
    pub units-same : next.units t ≡ s.units t
    units-same = ap (λ (u : ℕ → Option OpenUnit). u t) units

    -- with these blocks
    pub by-blocks : (more : List SerialBlock) → blocks_of sys s f.reading entry ≡ more → IsSerialFrom sys machine more → (run_blocks sys machine more).files ≡ machine.files
        → ((o : ℕ) → o ≢ t → (run_blocks sys machine more).terms o ≡ machine.terms o)
        → Follows sys next now t ((run_blocks sys machine more).terms t) → FollowsAll sys next now
    by-blocks more blocks serial files_same others own =
        own-follows sys b s f known all entry t here more blocks serial (files_same ∙ (all.files ∙ sym files)) others
        (λ o differ. ap (λ (x : ℕ → Term). x o) terms ∙ upd-other s.terms t _ o differ) (λ o differ. ap (λ (u : ℕ → Option OpenUnit). u o) units) modes
        (λ o differ. ap (λ (x : ℕ → ℕ). x o) answers ∙ upd-other f.reading.answers t _ o differ) (λ o differ. shown-none sys b s f entry none o)
        (λ o differ u q is runs. ap (λ (x : ℕ → List (List ℕ)). (attempt sys o q x u.restarts (f.reading.answers o)).refreshes) files) own

    same-own : (now.frontier t ≡ f.frontier t) → running_refreshes sys t (committed_files sys next) (now.reading.answers t) (next.units t) ≡ running_refreshes sys t (committed_files sys s) (f.reading.answers t) (s.units t)
        → Follows sys next now t (machine.terms t)
    same-own put running_same =
        same-follows sys b s f known all entry t here ending-same modes (ap restarts_of units-same) (λ live there. put) running_same (shown-none sys b s f entry none t)

    -- outside attempts, where the frontier has the answer already
    pub silent-idle : blocks_of sys s f.reading entry ≡ [] → attempt_of (s.units t) ≡ None → length (path ++ a ∷ []) ≤ length (f.frontier t) → FollowsAll sys next now
    silent-idle blocks idle short =
        by-blocks [] blocks tt refl (λ o differ. refl)
        (same-own (frontier-stays sys b s f entry t (λ _. subst (λ (p : List PathAnswer). length p ≤ length (f.frontier t)) (sym new-path) short))
        (running-idle sys t (committed_files sys next) (now.reading.answers t) (next.units t) (ap attempt_of units-same ∙ idle)
        ∙ sym (running-idle sys t (committed_files sys s) (f.reading.answers t) (s.units t) idle)))

    -- in an attempt
    pub silent-running : blocks_of sys s f.reading entry ≡ [] → (u : OpenUnit) (q : List PathAnswer) → s.units t ≡ Some u → u.running ≡ Some q → (v : Verb)
        → sys.ask t (attempt sys t q (committed_files sys s) u.restarts (f.reading.answers t)).path ≡ v → v ≢ verb.Show → FollowsAll sys next now
    silent-running blocks u q is runs v asks other =
        by-blocks [] blocks tt refl (λ o differ. refl)
        (same-own (frontier-stays sys b s f entry t (λ idle. absurd (let now_is = units-same ∙ is in cc (now_is, runs, idle))))
        (running-is sys t (committed_files sys next) (now.reading.answers t) (next.units t) u q (units-same ∙ is) runs
        ∙ (ap (λ (x : ℕ → List (List ℕ)). (attempt sys t q x u.restarts (now.reading.answers t)).refreshes) files
        ∙ (ap (λ (n : ℕ). (attempt sys t q (committed_files sys s) u.restarts n).refreshes)
        (ap (λ (x : ℕ → ℕ). x t) answers ∙ (upd-same f.reading.answers t _ t refl ∙ (let one : f.reading.answers t + 1 ≡ suc (f.reading.answers t) = omega arith in one)))
        ∙ (quiet-more t u q (at-work sys b s f known all t u q is runs) v asks other ∙ sym (running-is sys t (committed_files sys s) (f.reading.answers t) (s.units t) u q is runs))))))

  -- the attempt stands where the terminal does
  pub stands-at : (t : ℕ) (u : OpenUnit) (q : List PathAnswer) → (w : AtWork sys b s f known all t u q) → IsWorking (s.modes (sys.pair_of t)) → is_takeover (s.terms t).pending ≡ false
      → path_of s t ≡ (attempt sys t q (committed_files sys s) u.restarts (f.reading.answers t)).path
  stands-at t u q w works untaken = w.at.alone.path_is works untaken

  -- KEY
  module _ (t k : ℕ) (l : LegalKey sys s t k) where
    abbrev key : Event
    key = event.Key t k

    there : s.modes (sys.pair_of t) ≢ Gone
    there gone = absurd (let paired = l.can.paired in cc (paired, gone))

    ok : FrontierOk sys t (view_of sys s t) (f.frontier t)
    ok = known.frontiers t l.can.live.known l.can.live.going_on there

    goes : GoesOn sys t (machine.terms t) (f.frontier t) (s.units t)
    goes = (all.terms t l.can.live.known).goes l.can.live.going_on there

    files : committed_files sys (effect sys s key) ≡ committed_files sys s
    files = stay key refl l

    -- at the frontier: Out
    module _ (idle : attempt_of (s.units t) ≡ None) (same : path_of s t ≡ f.frontier t) where
      abbrev single : Single
      single = machine.terms t

      path_is : (machine.terms t).path ≡ path_of s t
      path_is = goes.path ∙ sym same

      asks : sys.ask t (machine.terms t).path ≡ verb.Accept l.screen
      asks = ap (sys.ask t) path_is ∙ l.asks

      abbrev out : Single
      out = record (machine.terms t) { path = (machine.terms t).path ++ Entry k ∷ [] }

      out_is : (run_blocks sys machine (Out t ∷ [])).terms t ≡ out
      out_is =
          upd-same machine.terms t _ t refl
          ∙ (ap (λ (v : Verb). single_behind_out sys t v (machine.terms t)) asks
          ∙ ap (λ (n : ℕ). record (machine.terms t) { path = (machine.terms t).path ++ Entry n ∷ [] }) (ap (λ (p : List PathAnswer). entries_on p + 1) path_is ∙ sym l.next))

      grown-to : (fold_on sys s key f).frontier t ≡ path_of s t ++ Entry k ∷ []
      grown-to =
          let new = new-path key t l.can.live.known (Entry k) refl refl refl refl refl files in
          grows (view_of sys s t) (view_of sys (effect sys s key) t) (f.frontier t) idle
          (subst (λ (p : List PathAnswer). length (f.frontier t) < length p) (sym new) (subst (λ (p : List PathAnswer). length p < length (path_of s t ++ Entry k ∷ [])) same (one-longer (path_of s t) (Entry k)))) ∙ new

      keys-out : FollowsAll sys (effect sys s key) (fold_on sys s key f)
      keys-out =
          by-blocks key t l.can.live.known (Entry k) refl refl refl refl refl files (Out t ∷ [])
          (out-is s f t idle (let long = (all.terms t l.can.live.known).longest ∙ ap (λ (p : List PathAnswer). length p) (sym same) in omega (arith, long))) (
            record {
              live = record { known = l.can.live.known; live = (all.terms t l.can.live.known).ending ∙ l.can.live.going_on };
              not_left = goes.not_left;
              asks = subst (λ (v : Verb). AsksOut sys t single.path v) (sym asks) (subst (λ (n : ℕ). n < sys.entries t) (ap entries_on (sym path_is)) (let next = l.next in let exists = l.exists in omega (arith, next, exists)));
            },
            tt,
          )
          refl (λ o differ. upd-other machine.terms t _ o differ)
          (subst (λ (x : Single). Follows sys (effect sys s key) (fold_on sys s key f) t x) (sym out_is)
          (plain-follows sys b s f known all key t l.can.live.known out
          ((all.terms t l.can.live.known).ending ∙ sym (ending-same key t l.can.live.known (Entry k) refl refl refl refl refl files))
          (λ live open_pair. record {
            path = ap (λ (p : List PathAnswer). p ++ Entry k ∷ []) path_is ∙ sym grown-to;
            restarts = goes.restarts;
            not_left = goes.not_left;
            bounded = subst (λ (x : Standing). AreBounded single.restarts x single.refreshes) (sym (standing-push single.path (Entry k)))
                (quiet-bounded single.restarts (standing single.path) single.refreshes (Entry k) tt goes.bounded).0;
            covers = covers-other sys t single.path (Entry k) single.refreshes (λ is. absurd (cc is)) goes.covers;
          })
          (ap (λ (x : List Refresh). single.refreshes ++ x)
          (running-idle sys t (committed_files sys (effect sys s key)) ((fold_on sys s key f).reading.answers t) (s.units t) idle
          ∙ sym (running-idle sys t (committed_files sys s) (f.reading.answers t) (s.units t) idle)))
          (shown-none sys b s f key refl t)))

    only-entry : (a : PathAnswer) → IsForced (s.ended t) (path_of s t) (verb.Accept l.screen) a → a ≡ Entry k
    only-entry (Entry n) forced = ap (λ (m : ℕ). Entry m) (forced ∙ sym l.next)
    only-entry a forced = absurd forced

    -- the machine follows a KEY
    pub follows-key : FollowsAll sys (effect sys s key) (fold_on sys s key f)
    follows-key = by (where-of (s.units t) (ok.stands (rw l.can.paired tt) (ap is_takeover l.can.calm)))
      where
        go : s.units t ≡ None → Next sys t (s.ended t) (path_of s t) (f.frontier t) → FollowsAll sys (effect sys s key) (fold_on sys s key f)
        go none (is_there same) = keys-out (ap attempt_of none) same
        go none (goes_on a forced leads) =
            let same = only-entry a (subst (λ (v : Verb). IsForced (s.ended t) (path_of s t) v a) l.asks forced) in
            let short = leads-short leads in
            let sum = length-append (path_of s t) (a ∷ []) in
            silent-idle key t l.can.live.known (Entry k) refl refl refl refl refl files
            (out-short s f t (let long = (all.terms t l.can.live.known).longest in omega (arith, long, short, sum))) (ap attempt_of none)
            (subst (λ (x : PathAnswer). length (path_of s t ++ x ∷ []) ≤ length (f.frontier t)) same short)

        by : Where sys t (s.ended t) (s.units t) (path_of s t) (f.frontier t) → FollowsAll sys (effect sys s key) (fold_on sys s key f)
        by (closed none leads) = go none (next-of leads)
        by (waiting u is idle same) = absurd (subst (λ (v : Verb). BeginsUnit v (path_of s t)) l.asks (subst (λ (p : List PathAnswer). BeginsUnit (sys.ask t p) p) (sym same) (ok.base.begins u is)))
        by (running u q is runs at) =
            silent-running key t l.can.live.known (Entry k) refl refl refl refl refl files (out-running s f t q (ap attempt_of is ∙ runs)) u q is runs (verb.Accept l.screen)
            (ap (sys.ask t) (sym (stands-at t u q (at-work sys b s f known all t u q is runs) (rw l.can.paired tt) (ap is_takeover l.can.calm))) ∙ l.asks) (λ e. absurd (cc e))

  -- AGAIN: the answer is on the frontier
  pub follows-again : (t n : ℕ) → LegalAgain sys s t n → FollowsAll sys (effect sys s (event.Again t n)) (fold_on sys s (event.Again t n) f)
  follows-again t n l = by (where-of (s.units t) (ok.stands (rw l.can.paired tt) (ap is_takeover l.can.calm)))
    where
      entry : Event
      entry = event.Again t n

      ok : FrontierOk sys t (view_of sys s t) (f.frontier t)
      ok = known.frontiers t l.can.live.known l.can.live.going_on (λ gone. absurd (let paired = l.can.paired in cc (paired, gone)))

      number : unit_number (path_of s t) ≡ (s.ended t).number
      number = sym l.number ∙ sym l.last

      not-there : path_of s t ≡ f.frontier t → ⊥
      not-there same = let here = ap unit_number same in let base = ok.base.number in absurd (omega (arith, here, base, number))

      only : (x : PathAnswer) → IsForced (s.ended t) (path_of s t) (verb.Send l.class l.message) x → x ≡ Replied (kept_reply (s.ended t))
      only (Replied reply) forced = ap (λ (r : List ℕ). Replied r) (sym (ap (λ (r : Option (List ℕ)). unwrap_or r []) forced.2))
      only x forced = absurd forced

      go : s.units t ≡ None → Next sys t (s.ended t) (path_of s t) (f.frontier t) → FollowsAll sys (effect sys s (event.Again t n)) (fold_on sys s (event.Again t n) f)
      go none (is_there same) = absurd (not-there same)
      go none (goes_on a forced leads) =
          silent-idle (event.Again t n) t l.can.live.known (Replied (kept_reply (s.ended t))) refl refl refl refl refl (stay (event.Again t n) refl l) refl (ap attempt_of none)
          (subst (λ (x : PathAnswer). length (path_of s t ++ x ∷ []) ≤ length (f.frontier t)) (only a (subst (λ (v : Verb). IsForced (s.ended t) (path_of s t) v a) l.asks forced)) (leads-short leads))

      by : Where sys t (s.ended t) (s.units t) (path_of s t) (f.frontier t) → FollowsAll sys (effect sys s (event.Again t n)) (fold_on sys s (event.Again t n) f)
      by (closed none leads) = go none (next-of leads)
      by (waiting u is idle same) = absurd (not-there same)
      by (running u q is runs at) =
          let p = checks.running (s.units t) (ap attempt_of is ∙ runs) ((known.inv.terms t l.can.live.known).path_ok l.can.live.going_on (rw l.can.paired tt) (ap is_takeover l.can.calm)) in
          let next = p.number in
          absurd (omega (arith, next, number))

  -- BEGIN: an attempt without refreshes
  begun-quiet : (t r : ℕ) (files : ℕ → List (List ℕ)) (q : List PathAnswer) (v : Verb) → sys.ask t q ≡ v → BeginsUnit v q → (attempt sys t q files r (answers_at_begin v)).refreshes ≡ []
  begun-quiet t r x q verb.Begin begin begins = ap (λ (v : Verb). (answer_verb sys t r x v (attempt sys t q x r 0)).refreshes) begin
  begun-quiet t r x q (verb.Send class message) begin begins = refl
  begun-quiet t r x q verb.Show begin begins = absurd begins
  begun-quiet t r x q (verb.Accept screen) begin begins = absurd begins
  begun-quiet t r x q verb.End begin begins = absurd begins
  begun-quiet t r x q verb.Drop begin begins = absurd begins
  begun-quiet t r x q verb.Redo begin begins = absurd begins
  begun-quiet t r x q verb.Stop begin begins = absurd begins
  begun-quiet t r x q (verb.Fault n) begin begins = absurd begins
  begun-quiet t r x q (verb.File call) begin begins = absurd begins
  begun-quiet t r x q (verb.Reply reply) begin begins = absurd begins

  begun-parts : (n birth : ℕ) (p : List PathAnswer) (unit : Option OpenUnit) → ((unit_with_attempt n birth p unit).running ≡ Some p) × ((unit_with_attempt n birth p unit).restarts ≡ restarts_of unit)
  begun-parts n birth p None = (refl, refl)
  begun-parts n birth p (Some u) = (refl, refl)

  -- the machine follows a BEGIN
  pub follows-begin : (t n r : ℕ) → LegalBegin sys s t n r → FollowsAll sys (effect sys s (event.Begin t n r)) (fold_on sys s (event.Begin t n r) f)
  follows-begin t n r l =
      let entry : Event = event.Begin t n r in
      let next : State = effect sys s entry in
      let unit : OpenUnit = unit_with_attempt n s.births (path_of s t) (s.units t) in
      let parts = begun-parts n s.births (path_of s t) (s.units t) in
      let now_is : next.units t ≡ Some unit = upd-same s.units t _ t refl in
      own-follows sys b s f known all entry t l.can.live.known [] refl tt (all.files ∙ sym (stay entry refl l)) (λ o differ. refl)
      (λ o differ. upd-other s.terms t _ o differ) (λ o differ. upd-other s.units t _ o differ) refl (λ o differ. upd-other f.reading.answers t _ o differ)
      (λ o differ. shown-none sys b s f entry refl o)
      (λ o differ u q is runs. ap (λ (x : ℕ → List (List ℕ)). (attempt sys o q x u.restarts (f.reading.answers o)).refreshes) (stay entry refl l))
      (same-follows sys b s f known all entry t l.can.live.known
      (ap (λ (x : Term). x.ending) (upd-same s.terms t _ t refl)) refl (ap restarts_of now_is ∙ parts.1)
      (λ live there. frontier-stays sys b s f entry t (λ idle. absurd (let runs = parts.0 in cc (now_is, runs, idle))))
      (running-is sys t (committed_files sys next) ((fold_on sys s entry f).reading.answers t) (next.units t) unit (path_of s t) now_is parts.0
      ∙ (ap (λ (j : ℕ). (attempt sys t (path_of s t) (committed_files sys next) unit.restarts j).refreshes) (upd-same f.reading.answers t _ t refl)
      ∙ (begun-quiet t unit.restarts (committed_files sys next) (path_of s t) (next_verb sys s t) refl l.begins
      ∙ sym (running-idle sys t (committed_files sys s) (f.reading.answers t) (s.units t) l.idle))))
      (shown-none sys b s f entry refl t))
