-- Each entry of a terminal, and of a server that works for one: what may still be entered falls.
use Rattle.std.proofs.Common.{◌≡◌, ◌≢◌, ℕ, ◌+◌, ◌-◌, ◌*◌, ◌<◌, ◌≤◌, ⊎_elim, List, [], ◌∷◌, ◌++◌, length, length-append, Option, Some, None, refl, ap, sym, subst, ◌∙◌, arith}
use Rattle.std.proofs.lemmas.Bool.{cond-false, ne_eqb}
use Rattle.pw_code.specs.declared.file.FileOp.{FileOp}
use Rattle.pw_code.specs.declared.lock.LockMode.{LockMode}
use Rattle.pw_code.specs.declared.verb.Verb.{Verb}
use Rattle.pw_code.specs.declared.verb.Verb.TheVariants as verb
use Rattle.pw_event.specs.declared.event.Cause.{Cause}
use Rattle.pw_event.specs.declared.event.Ending.{Ending}
use Rattle.pw_event.specs.declared.event.Ending.TheVariants as ending
use Rattle.pw_event.specs.declared.event.Event.{Event}
use Rattle.pw_event.specs.declared.event.Event.TheVariants as event
use Rattle.pw_laws.proofs.BeginsOnce.{moves}
use Rattle.pw_laws.proofs.Paths.{IsPath-push}
use Rattle.pw_laws.proofs.induction.Failed.{end-cases}
use Rattle.pw_laws.proofs.induction.Moving.{View-is}
use Rattle.pw_laws.proofs.induction.Served.{file-is, reply-any}
use Rattle.pw_laws.proofs.induction.Views.{View, view_of}
use Rattle.pw_laws.proofs.kept.Failing.{out-job}
use Rattle.pw_laws.proofs.kept.Kept.{Inv}
use Rattle.pw_laws.proofs.requests.Classes.{new_job}
use Rattle.pw_laws.proofs.requests.Requests.{AtWork, InLine, Nowhere, Place, RequestsOk, place_inside, place_of_first, place_of_job, requests_cancelled, requests_filed, requests_freed, requests_sent, requests_taken, sent_of, without_places}
use Rattle.pw_laws.proofs.restarts.Counting.{weight}
use Rattle.pw_laws.proofs.terms.KeepsChecks.{can_path, path_ok-is}
use Rattle.pw_laws.proofs.terms.KeepsEnds.{OutOk, out-path}
use Rattle.pw_laws.proofs.terms.TermOk.{HasMessages, IsWorking}
use Rattle.pw_onecopy.proofs.Update.{upd-other, upd-same}
use Rattle.pw_onecopy.specs.Attempt.{BeginsUnit}
use Rattle.pw_onecopy.specs.Behaviour.{Behaviour}
use Rattle.pw_onecopy.specs.IsBehaviour.{IsBehaviour, IsPath, Suits}
use Rattle.pw_onecopy.specs.Path.{PathAnswer, Begun, Dropped, Ended, Entry, Failed, Replied, Shown, unit_number}
use Rattle.pw_onecopy.specs.Update.{upd}
use Rattle.pw_paired.specs.End.{LegalEnd, end_terminal}
use Rattle.pw_paired.specs.Failure.{do_restart, with_restart, with_start_path}
use Rattle.pw_paired.specs.Raising.{copied_path, settle_mode, with_end, with_message}
use Rattle.pw_paired.specs.Server.{answer_on, with_answer, with_job_at}
use Rattle.pw_paired.specs.State.{BackupCopy, Class, Copy, End, Message, OpenUnit, PairMode, Start, State, Term}
use Rattle.pw_paired.specs.Step.{Fits, change, effect}
use Rattle.pw_paired.specs.Terminal.{CanStep, LegalBegin, begun_path, closed_path, next_verb, path_of, path_with, unit_with_attempt}
use Rattle.pw_paired.specs.Units.{attempt_of, leave_units, only}
use Rattle.pw_run_bounds.specs.Bound.{ProgramsEnd}
use Rattle.pw_run_bounds.proofs.Attempts.{attempts-less, attempts-most}
use Rattle.pw_run_bounds.proofs.Falling.{applies-less, asks-less, begins-less, ends-less, grows-less, restarts-less, sends-less}
use Rattle.pw_run_bounds.proofs.Known.{FliesLive}
use Rattle.pw_run_bounds.proofs.Left.{asking, attempts, copying, is_wanted, left}
use Rattle.pw_run_bounds.proofs.Open.{OpenLow}
use Rattle.pw_run_bounds.proofs.Served.{JobsServed}
use Rattle.pw_run_bounds.proofs.Total.{Falls, beside, left_at, own-falls, ranks, settled-left, settled-ranks, spared}
use Rattle.pw_run_bounds.proofs.Wanted.{copy-wanted, end-sent, end-wanted, start-sent, start-wanted}

-- a start path that is put back leaves the ending
start-ending : (start : Option (List PathAnswer)) (term : Term) → (with_start_path start term).ending ≡ term.ending
start-ending None term = refl
start-ending (Some path) term = refl

module _ (sys : Behaviour) (b : IsBehaviour sys) (n m : ℕ) (short : ProgramsEnd sys n m) (s : State) (i : Inv sys s) (places : ℕ → Place)
    (ok : RequestsOk sys s.classes places) (few : (t : ℕ) (unit : OpenUnit) → s.units t ≡ Some unit → unit.restarts ≤ sys.max_restarts t)
    (live : (t : ℕ) (unit : OpenUnit) → s.units t ≡ Some unit → (s.terms t).ending ≡ None) (flies : FliesLive sys s) (served : JobsServed sys s) (low : OpenLow n s) where
  abbrev FallsTo : State → Type 0
  FallsTo x = Falls sys n m s places x 0

  -- no entry gives a terminal more attempts
  pub fewer : (entry : Event) → Fits sys s entry → (t : ℕ)
      → attempts n (sys.max_restarts t) (view_of sys (effect sys s entry) t) ≤ attempts n (sys.max_restarts t) (view_of sys s t)
  fewer entry l t = attempts-most sys n (sys.max_restarts t) t s (effect sys s entry) entry (few t) (moves sys b s i t entry l)

  same-ranks : ranks sys s ≤ ranks sys s
  same-ranks = omega arith

  -- the path of one terminal gets an answer, and perhaps its unit ends
  answers : (own : ℕ) (a : PathAnswer) (x : State) (next : ℕ → Place) → RequestsOk sys x.classes next → own < sys.terminals → (s.terms own).ending ≡ None
      → IsWorking (s.modes (sys.pair_of own)) → IsPath sys own (path_of s own) → Suits sys own (path_of s own) (next_verb sys s own) a
      → x.terms ≡ upd s.terms own (record (s.terms own) { path = path_of s own ++ a ∷ [] }) → x.memory ≡ s.memory → x.flight ≡ s.flight → x.modes ≡ s.modes
      → ((j : ℕ) → j ≢ own → (x.units j ≡ s.units j) × (x.ended j ≡ s.ended j) × (next j ≡ places j))
      → attempts n (sys.max_restarts own) (view_of sys x own) ≤ attempts n (sys.max_restarts own) (view_of sys s own) → FallsTo x
  answers own a x next requests known going works is_path suits terms memory flight modes others fewer_then =
      let term : x.terms own ≡ record (s.terms own) { path = path_of s own ++ a ∷ [] } = ap (λ (f : ℕ → Term). f own) terms ∙ upd-same s.terms own _ own refl in
      let path = ap (λ (o : Term). o.path) term in
      let longer = IsPath-push sys own (path_of s own) a is_path suits in
      own-falls sys n m s x places next own known requests (subst (λ (f : ℕ → PairMode). ranks sys (record s { modes = f }) ≤ ranks sys s) (sym modes) same-ranks)
      (λ j differ. let same = others j differ in
      beside sys n m s x places next j
      (View-is same.1 same.0 (ap (λ (f : ℕ → Option BackupCopy). f j) memory) (ap (λ (f : ℕ → Option Message). f j) flight)
      (ap (λ (f : ℕ → Term). f j) terms ∙ upd-other s.terms own _ j differ) (ap (λ (f : ℕ → PairMode). f (sys.pair_of j)) modes)) same.2)
      (grows-less sys n m own (view_of sys s own) (view_of sys x own) (places own) (next own) a going (ap (λ (o : Term). o.ending) term ∙ going) works
      (ap (λ (f : ℕ → PairMode). f (sys.pair_of own)) modes) path
      (subst (λ (p : List PathAnswer). length p ≤ n) (sym path) (short.paths own (path_of s own ++ a ∷ []) longer))
      (ap (λ (f : ℕ → Option BackupCopy). f own) memory) (ap (λ (f : ℕ → Option Message). f own) flight) fewer_then)

  module _ (own : ℕ) (can : CanStep sys s own) where
    works-paired : IsWorking (s.modes (sys.pair_of own))
    works-paired = subst IsWorking (sym can.paired) tt

    has-paired : HasMessages (s.modes (sys.pair_of own))
    has-paired = subst HasMessages (sym can.paired) tt

    own-path : IsPath sys own (path_of s own)
    own-path = path_ok-is (s.ended own).number (s.units own) (can_path sys b s i.terms own can)

    -- the terminal answers its own verb
    answers-itself : (a : PathAnswer) (asked : Verb) → next_verb sys s own ≡ asked → Suits sys own (path_of s own) asked a → (x : State) → x.classes ≡ s.classes
        → x.terms ≡ upd s.terms own (record (s.terms own) { path = path_of s own ++ a ∷ [] }) → x.memory ≡ s.memory → x.flight ≡ s.flight → x.modes ≡ s.modes
        → ((j : ℕ) → j ≢ own → (x.units j ≡ s.units j) × (x.ended j ≡ s.ended j))
        → attempts n (sys.max_restarts own) (view_of sys x own) ≤ attempts n (sys.max_restarts own) (view_of sys s own) → FallsTo x
    answers-itself a asked asks suits x classes terms memory flight modes others fewer_then =
        answers own a x places (subst (λ (k : ℕ → Class). RequestsOk sys k places) (sym classes) ok) can.live.known can.live.going_on works-paired own-path
        (subst (λ (v : Verb). Suits sys own (path_of s own) v a) (sym asks) suits) terms memory flight modes
        (λ j differ. ((others j differ).0, (others j differ).1, refl)) fewer_then

  pub falls-show : (own phase attempt k : ℕ) → Fits sys s (event.Show own phase attempt k) → FallsTo (change sys s (event.Show own phase attempt k))
  falls-show own phase attempt k l =
      answers-itself own l.can Shown verb.Show l.asks tt (change sys s (event.Show own phase attempt k)) refl refl refl refl refl (λ j differ. (refl, refl)) (fewer (event.Show own phase attempt k) l own)

  pub falls-key : (own k : ℕ) → Fits sys s (event.Key own k) → FallsTo (change sys s (event.Key own k))
  falls-key own k l =
      answers-itself own l.can (Entry k) (verb.Accept l.screen) l.asks (l.next, l.exists) (change sys s (event.Key own k)) refl refl refl refl refl (λ j differ. (refl, refl)) (fewer (event.Key own k) l own)

  pub falls-again : (own k : ℕ) → Fits sys s (event.Again own k) → FallsTo (change sys s (event.Again own k))
  falls-again own k l =
      answers-itself own l.can (Replied _) (verb.Send l.class l.message) l.asks tt (change sys s (event.Again own k)) refl refl refl refl refl (λ j differ. (refl, refl)) (fewer (event.Again own k) l own)

  pub falls-commit : (own k : ℕ) → Fits sys s (event.Commit own k) → FallsTo (change sys s (event.Commit own k))
  falls-commit own k l =
      answers-itself own l.can Ended verb.End l.asks tt (change sys s (event.Commit own k)) refl refl refl refl refl
      (λ j differ. (upd-other s.units own None j differ, upd-other s.ended own _ j differ)) (fewer (event.Commit own k) l own)

  pub falls-back : (own k : ℕ) → Fits sys s (event.Back own k) → FallsTo (change sys s (event.Back own k))
  falls-back own k l =
      answers-itself own l.can Dropped verb.Drop l.asks tt (change sys s (event.Back own k)) refl refl refl refl refl
      (λ j differ. (upd-other s.units own None j differ, upd-other s.ended own _ j differ)) (fewer (event.Back own k) l own)

  -- ---- checkpoints

  -- a message of one terminal is in flight
  sent : (own : ℕ) (message : Message) → own < sys.terminals → (s.terms own).ending ≡ None → HasMessages (s.modes (sys.pair_of own)) → s.flight own ≡ None
      → 1 + 2 * weight (is_wanted sys own (record (view_of sys s own) { flight = Some message })) < copying None (s.memory own) + 2 * weight (is_wanted sys own (view_of sys s own))
      → FallsTo (record s { flight = upd s.flight own (Some message) })
  sent own message known going has free less =
      let x : State = record s { flight = upd s.flight own (Some message) } in
      own-falls sys n m s x places places own known ok same-ranks
      (λ j differ. beside sys n m s x places places j (View-is refl refl refl (upd-other s.flight own (Some message) j differ) refl refl) refl)
      (subst (λ (w : View). left sys n m own w (places own) < left_at sys n m s places own)
      (View-is {v = view_of sys x own} {w = record (view_of sys s own) { flight = Some message }} refl refl refl (sym (upd-same s.flight own (Some message) own refl)) refl refl)
      (sends-less sys n m own (view_of sys s own) (places own) message going has free less))

  pub falls-check-start : (own : ℕ) → Fits sys s (event.CheckStart own) → FallsTo (change sys s (event.CheckStart own))
  falls-check-start own l =
      let v : View = view_of sys s own in
      sent own _ l.can.live.known l.can.live.going_on (has-paired own l.can) l.free
      (omega (arith, ap weight (start-wanted sys own v l.free l.idle l.begins l.lacking), ap weight (start-sent sys own v l.begins)))

  pub falls-check-end : (own : ℕ) → Fits sys s (event.CheckEnd own) → FallsTo (change sys s (event.CheckEnd own))
  falls-check-end own l =
      let v : View = view_of sys s own in
      let there = (i.terms own l.can.live.known).has_memory l.can.live.going_on (rw l.can.paired tt) in
      let closed : closed_path sys s own ≡ path_of s own ++ l.answer ∷ [] = ap (λ (a : Option PathAnswer). path_with a (path_of s own)) l.closes in
      subst (λ (p : List PathAnswer). FallsTo (record s { flight = upd s.flight own (Some (End p)) })) (sym closed)
      (sent own (End (path_of s own ++ l.answer ∷ [])) l.can.live.known l.can.live.going_on (has-paired own l.can) l.free
      (omega (arith, ap weight (end-wanted sys own v l.answer l.free l.closes (rw closed at l.lacking)), ap weight (end-sent sys own v l.answer there.0 there.1 l.closes))))

  pub falls-check-copy : (own : ℕ) → Fits sys s (event.CheckCopy own) → FallsTo (change sys s (event.CheckCopy own))
  falls-check-copy own l =
      let message : Message = Copy (unit_number (copied_path s own)) (copied_path s own) in
      let most = copy-wanted sys own (view_of sys s own) message l.free l.lacking in
      let none : copying None (s.memory own) ≡ 2 = ap (copying None) l.lacking in
      sent own message l.live.known l.live.going_on (subst HasMessages (sym l.raising) tt) l.free (omega (arith, most, none))

  -- a message that is taken in leaves the terminal in the backup
  taken-in : (own : ℕ) → own < sys.terminals → (message : Message) → s.flight own ≡ Some message → (held : BackupCopy) × (with_message (Some message) (s.memory own) ≡ Some held)
  taken-in own known (Start unit path) is = (record { unit = unit; start = path; end = None }, refl)
  taken-in own known (Copy unit path) is = (record { unit = unit; start = path; end = None }, refl)
  taken-in own known (End path) is =
      let there = (i.terms own known).flight_ok (End path) is in
      (record there.0 { end = Some path }, ap (with_end path) there.1)

  pub falls-applied : (own : ℕ) → Fits sys s (event.Applied own) → FallsTo (change sys s (event.Applied own))
  falls-applied own l =
      let y : State = record s { memory = upd s.memory own (with_message (s.flight own) (s.memory own)); flight = upd s.flight own None } in
      let x : State = settle_mode sys (sys.pair_of own) y in
      let is_live = flies own l.message l.flies in
      let there = taken-in own is_live.0 l.message l.flies in
      own-falls sys n m s x places places own is_live.0 ok (settled-ranks sys n m y (sys.pair_of own))
      (λ j differ. subst (λ (k : ℕ). k ≤ left_at sys n m s places j) (sym (settled-left sys n m y (sys.pair_of own) j places))
      (beside sys n m s y places places j (View-is refl refl (upd-other s.memory own _ j differ) (upd-other s.flight own None j differ) refl refl) refl))
      (subst (λ (k : ℕ). k < left_at sys n m s places own) (sym (settled-left sys n m y (sys.pair_of own) own places))
      (subst (λ (w : View). left sys n m own w (places own) < left_at sys n m s places own)
      (View-is {v = view_of sys y own} {w = record (view_of sys s own) { memory = with_message (Some l.message) (s.memory own); flight = None }} refl refl
      (sym (upd-same s.memory own _ own refl ∙ ap (λ (f : Option Message). with_message f (s.memory own)) l.flies)) (sym (upd-same s.flight own None own refl)) refl refl)
      (applies-less sys n m own (view_of sys s own) (places own) l.message there.0 is_live.1
      (⊎_elim (λ raising. subst HasMessages (sym raising) tt) (λ paired. subst HasMessages (sym paired) tt) l.mode) l.flies there.1)))

  -- ---- the begin of a unit, and its request

  module _ (own k r : ℕ) (l : LegalBegin sys s own k r) where
    abbrev begun : State
    begun = change sys s (event.Begin own k r)

    begun-others : (j : ℕ) → j ≢ own → (begun.units j ≡ s.units j) × (begun.ended j ≡ s.ended j)
    begun-others j differ = (upd-other s.units own _ j differ, refl)

    begins-by : (asked : Verb) → next_verb sys s own ≡ asked → BeginsUnit asked (path_of s own) → FallsTo begun
    begins-by verb.Begin asks begins =
        answers-itself own l.can (Begun r) verb.Begin asks tt begun refl
        (ap (λ (v : Verb). upd s.terms own (record (s.terms own) { path = begun_path r v (path_of s own) })) asks) refl refl refl begun-others (fewer (event.Begin own k r) l own)
    begins-by (verb.Send c message) asks begins =
        let term : begun.terms own ≡ s.terms own =
        upd-same s.terms own _ own refl ∙ ap (λ (v : Verb). record (s.terms own) { path = begun_path r v (path_of s own) }) asks in
        let unit = upd-same s.units own (Some (unit_with_attempt k s.births (path_of s own) (s.units own))) own refl in
        let view : record (view_of sys s own) { unit = Some (unit_with_attempt k s.births (path_of s own) (s.units own)) } ≡ view_of sys begun own =
        View-is refl (sym unit) refl refl (sym term) refl in
        own-falls sys n m s begun places places own l.can.live.known ok same-ranks
        (λ j differ. beside sys n m s begun places places j (View-is refl (upd-other s.units own _ j differ) refl refl (upd-other s.terms own _ j differ) refl) refl)
        (subst (λ (w : View). left sys n m own w (places own) < left_at sys n m s places own) view
        (begins-less sys n m own (view_of sys s own) (places own) c k s.births message l.can.live.going_on (works-paired own l.can) l.idle asks
        (subst (λ (w : View). attempts n (sys.max_restarts own) w ≤ attempts n (sys.max_restarts own) (view_of sys s own)) (sym view) (fewer (event.Begin own k r) l own))))
    begins-by verb.Show asks begins = absurd begins
    begins-by (verb.Accept screen) asks begins = absurd begins
    begins-by verb.End asks begins = absurd begins
    begins-by verb.Drop asks begins = absurd begins
    begins-by verb.Redo asks begins = absurd begins
    begins-by verb.Stop asks begins = absurd begins
    begins-by (verb.Fault code) asks begins = absurd begins
    begins-by (verb.File call) asks begins = absurd begins
    begins-by (verb.Reply reply) asks begins = absurd begins

    pub falls-begin : FallsTo begun
    falls-begin = begins-by (next_verb sys s own) refl l.begins

  -- the request of one terminal goes on
  goes-on : (own : ℕ) (place : Place) (x : State) → own < sys.terminals → (s.terms own).ending ≡ None → IsWorking (s.modes (sys.pair_of own))
      → RequestsOk sys x.classes (upd places own place) → ((j : ℕ) → view_of sys x j ≡ view_of sys s j) → ranks sys x ≤ ranks sys s
      → asking m place < asking m (places own) → FallsTo x
  goes-on own place x known going works requests views pairs less =
      own-falls sys n m s x places (upd places own place) own known requests pairs
      (λ j differ. beside sys n m s x places (upd places own place) j (views j) (upd-other places own place j differ))
      (subst (λ (w : View). left sys n m own w (upd places own place own) < left_at sys n m s places own) (sym (views own))
      (asks-less sys n m own (view_of sys s own) (places own) (upd places own place own) going works
      (subst (λ (p : Place). asking m p < asking m (places own)) (sym (upd-same places own place own refl)) less)))

  pub falls-send : (own k c : ℕ) → Fits sys s (event.Send own k c) → FallsTo (change sys s (event.Send own k c))
  falls-send own k c l =
      let at : places own ≡ Nowhere = place_inside s ok l.not_out in
      let before : asking m (places own) ≡ m + 2 = ap (asking m) at in
      goes-on own (InLine c _) (change sys s (event.Send own k c)) l.can.live.known l.can.live.going_on (works-paired own l.can)
      (requests_sent c _ ok refl (b.sends own c l.message (path_of s own) (own-path own l.can) l.asks) at) (λ j. refl) same-ranks (omega (arith, before))

  pub falls-take : (c p own : ℕ) → Fits sys s (event.Take c p own) → FallsTo (change sys s (event.Take c p own))
  falls-take c p own l =
      let before : asking m (places own) ≡ m + 1 = ap (asking m) (place_of_first ok l.first l.whose) in
      let out : OutOk sys s own _ = i.out own (record { class = c; request = l.request }) (ap sent_of (place_of_first i.requests l.first l.whose)) in
      goes-on own (AtWork c p (new_job l.request)) (change sys s (event.Take c p own)) out.live.known out.live.going_on out.working
      (requests_taken ok l.first l.whose l.free) (λ j. refl) same-ranks (omega (arith, before))

  pub falls-file : (c p : ℕ) (op : FileOp) (mode : LockMode) (f status : ℕ) → Fits sys s (event.File c p op mode f status) → FallsTo (change sys s (event.File c p op mode f status))
  falls-file c p op mode f status l =
      let own : ℕ = l.job.request.terminal in
      let out = out-job sys b s i c p l.job l.at_work in
      let answer = answer_on sys s l.call in
      let before : asking m (places own) ≡ m - length l.job.done = ap (asking m) (place_of_job ok l.at_work refl) in
      let low : length l.job.done < m = short.servers c l.job.request.message l.job.done l.call (ok.bounds.work c p l.job l.at_work).there (served c p l.job l.at_work) l.asks in
      let longer : length (l.job.done ++ answer ∷ []) ≡ length l.job.done + 1 = length-append l.job.done (answer ∷ []) in
      subst FallsTo (sym (file-is sys s c p op mode f status l))
      (goes-on own (AtWork c p (with_answer answer l.job)) _ out.live.known out.live.going_on out.working
      (requests_filed answer ok l.at_work refl) (λ j. refl) same-ranks (omega (arith, before, low, longer)))

  pub falls-reply : (c p own : ℕ) (fault : Option ℕ) → Fits sys s (event.Reply c p own fault) → FallsTo (change sys s (event.Reply c p own fault))
  falls-reply c p own fault l =
      reply-any sys s c p own
      (λ x. attempts n (sys.max_restarts own) (view_of sys x own) ≤ attempts n (sys.max_restarts own) (view_of sys s own) → FallsTo x) fault
      (λ reply outside. answered (Replied reply) (suits (Replied reply) tt) _ refl refl refl refl refl
      (λ j differ. (upd-other s.units own None j differ, upd-other s.ended own _ j differ)))
      (λ reply inside. answered (Replied reply) (suits (Replied reply) tt) _ refl refl refl refl refl (λ j differ. (refl, refl)))
      (λ x. answered (Failed x) (suits (Failed x) tt) _ refl refl refl refl refl (λ j differ. (refl, refl)))
      (fewer (event.Reply c p own fault) l own)
    where
      out : OutOk sys s own (record { class = c; request = l.job.request })
      out = subst (λ (o : ℕ). OutOk sys s o (record { class = c; request = l.job.request })) l.whose (out-job sys b s i c p l.job l.at_work)

      suits : (a : PathAnswer) → Suits sys own (path_of s own) (verb.Send c l.job.request.message) a → Suits sys own (path_of s own) (next_verb sys s own) a
      suits a = subst (λ (v : Verb). Suits sys own (path_of s own) v a) (sym out.asks)

      answered : (a : PathAnswer) → Suits sys own (path_of s own) (next_verb sys s own) a → (x : State) → x.classes ≡ upd s.classes c (with_job_at p None (s.classes c))
          → x.terms ≡ upd s.terms own (record (s.terms own) { path = path_of s own ++ a ∷ [] }) → x.memory ≡ s.memory → x.flight ≡ s.flight → x.modes ≡ s.modes
          → ((j : ℕ) → j ≢ own → (x.units j ≡ s.units j) × (x.ended j ≡ s.ended j))
          → attempts n (sys.max_restarts own) (view_of sys x own) ≤ attempts n (sys.max_restarts own) (view_of sys s own) → FallsTo x
      answered a fits x classes terms memory flight modes others =
          answers own a x (upd places own Nowhere) (subst (λ (k : ℕ → Class). RequestsOk sys k (upd places own Nowhere)) (sym classes) (requests_freed ok l.at_work l.whose))
          out.live.known out.live.going_on out.working (out-path sys b s i.terms own _ out).is_path fits terms memory flight modes
          (λ j differ. ((others j differ).0, (others j differ).1, upd-other places own Nowhere j differ))

  -- ---- restarts and endings

  pub falls-restart : (own k : ℕ) (cause : Cause) → Fits sys s (event.Restart own k cause) → FallsTo (change sys s (event.Restart own k cause))
  falls-restart own k cause l =
      let x : State = do_restart sys own cause s in
      let known = i.known own l.unit l.caused.is_open in
      let going = live own l.unit l.caused.is_open in
      let term = upd-same s.terms own (with_start_path (attempt_of (s.units own)) (s.terms own)) own refl in
      let less = attempts-less sys n (sys.max_restarts own) own s x l.unit _ l.caused.is_open (upd-same s.units own _ own refl ∙ ap (with_restart cause) l.caused.is_open) refl l.few refl (low own l.unit l.caused.is_open) in
      own-falls sys n m s x places (without_places (only own) places) own known (requests_cancelled (only own) ok) same-ranks
      (λ j differ. beside sys n m s x places (without_places (only own) places) j
      (View-is refl (upd-other s.units own _ j differ) refl refl (upd-other s.terms own _ j differ) refl) (spared places own j differ))
      (restarts-less sys n m own (view_of sys s own) (view_of sys x own) (places own) _ going
      (ap (λ (o : Term). o.ending) term ∙ (start-ending (attempt_of (s.units own)) (s.terms own) ∙ going)) less)

  -- a terminal that may end is live
  ends-live : (own : ℕ) (e : Ending) → LegalEnd sys s own e → (own < sys.terminals) × ((s.terms own).ending ≡ None)
  ends-live own ending.Stopped l = (l.can.live.known, l.can.live.going_on)
  ends-live own ending.NoEntries l = (l.can.live.known, l.can.live.going_on)
  ends-live own (ending.Fault x) l = (l.can.live.known, l.can.live.going_on)
  ends-live own (ending.Suspended cause) l = (i.known own l.unit l.caused.is_open, live own l.unit l.caused.is_open)
  ends-live own ending.Lost l = (l.live.known, l.live.going_on)

  pub falls-end : (own : ℕ) (e : Ending) → Fits sys s (event.End own e) → FallsTo (change sys s (event.End own e))
  falls-end own e l =
      end-cases sys s FallsTo own e l
      (λ stopped. ended ending.Stopped s places ok refl (λ j differ. (refl, refl)) (λ j differ. refl))
      (λ lost. ended ending.Lost s places ok refl (λ j differ. (refl, refl)) (λ j differ. refl))
      (λ leaves. ended e (leave_units sys (only own) s) (without_places (only own) places) (requests_cancelled (only own) ok) refl
      (λ j differ. (cond-false (only own j) None (s.units j) (ne_eqb j own differ), cond-false (only own j) _ (s.ended j) (ne_eqb j own differ)))
      (λ j differ. spared places own j differ))
    where
      ended : (how : Ending) (y : State) (next : ℕ → Place) → RequestsOk sys y.classes next
          → record y { files = s.files; before = s.before; locks = s.locks; classes = s.classes; units = s.units; ended = s.ended } ≡ s
          → ((j : ℕ) → j ≢ own → (y.units j ≡ s.units j) × (y.ended j ≡ s.ended j)) → ((j : ℕ) → j ≢ own → next j ≡ places j)
          → FallsTo (settle_mode sys (sys.pair_of own) (end_terminal own how y))
      ended how y next requests alike units spared_then =
          let z : State = end_terminal own how y in
          let x : State = settle_mode sys (sys.pair_of own) z in
          let is_live = ends-live own e l in
          let term = upd-same y.terms own (record (y.terms own) { pending = None; ending = Some how }) own refl in
          own-falls sys n m s x places next own is_live.0 requests
          (let settled = settled-ranks sys n m z (sys.pair_of own) in let same : ranks sys z ≡ ranks sys s = ap (λ (o : State). ranks sys o) alike in omega (arith, settled, same))
          (λ j differ. subst (λ (k : ℕ). k ≤ left_at sys n m s places j) (sym (settled-left sys n m z (sys.pair_of own) j next))
          (beside sys n m s z places next j
          (View-is (units j differ).1 (units j differ).0 (upd-other y.memory own None j differ ∙ ap (λ (o : State). o.memory j) alike) (upd-other y.flight own None j differ ∙ ap (λ (o : State). o.flight j) alike)
          (upd-other y.terms own _ j differ ∙ ap (λ (o : State). o.terms j) alike) (ap (λ (o : State). o.modes (sys.pair_of j)) alike)) (spared_then j differ)))
          (ends-less sys n m own (view_of sys s own) (view_of sys x own) (places own) (next own) how is_live.1 (ap (λ (o : Term). o.ending) term))
