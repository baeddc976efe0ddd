-- The machine follows a REPLY.
use Rattle.std.proofs.Common.{◌≡◌, ℕ, suc, ◌+◌, true, false, List, [], ◌∷◌, ◌++◌, Option, Some, None, refl, ap, sym, subst, ◌∙◌}
use Rattle.std.proofs.lemmas.Bool.{cond-false, cond-true, ne_eqb, true≢false}
use Rattle.std.proofs.lemmas.List.{append_cancel_left}
use Rattle.pw_code.specs.declared.verb.Verb.{Verb}
use Rattle.pw_code.specs.declared.verb.Verb.TheVariants as verb
use Rattle.pw_event.specs.declared.event.Event.{Event}
use Rattle.pw_event.specs.declared.event.Event.TheVariants as event
use Rattle.pw_laws.proofs.kept.Failing.{out-job}
use Rattle.pw_laws.proofs.terms.KeepsEnds.{OutOk}
use Rattle.pw_laws.proofs.requests.Requests.{AtWork as ServerAtWork, Place, place_at_work}
use Rattle.pw_onecopy.proofs.Update.{upd-other, upd-same}
use Rattle.pw_onecopy.specs.IsBehaviour.{IsBehaviour}
use Rattle.pw_onecopy.specs.Attempt.{Attempt, attempt, attempt_with_served, answer_verb}
use Rattle.pw_onecopy.specs.OneCopy.{EndsCommitted, Machine, Single, one_copy}
use Rattle.pw_onecopy.specs.Path.{PathAnswer, Failed, Replied, is_outside, unit_number}
use Rattle.pw_paired.specs.Raising.{is_takeover}
use Rattle.pw_onecopy.specs.Blocks.{Committed, Attempted}
use Rattle.pw_paired.specs.Serial.{reply_commits}
use Rattle.pw_paired.specs.Server.{LegalReply, do_reply, free_process, reply_of, server_verb}
use Rattle.pw_paired.specs.State.{LastEnded, OpenUnit, State, Term}
use Rattle.pw_paired.specs.Step.{Fits, effect}
use Rattle.pw_onecopy.specs.Behaviour.{Behaviour, Served, Reply, Fault}
use Rattle.pw_paired.specs.Terminal.{path_of}
use Rattle.pw_paired.specs.Units.{give_answer, commit_unit, committed_files, only}
use Rattle.pw_laws.proofs.alone.Alone.{AloneOk}
use Rattle.pw_laws.proofs.alone.AloneCommits.{reply-files}
use Rattle.pw_laws.proofs.alone.AloneOwn.{own-replied}
use Rattle.pw_laws.proofs.records.Images.{restored-file}
use Rattle.pw_laws.proofs.blocks.Fold.{Fold, fold_on}
use Rattle.pw_laws.proofs.blocks.Following.{Follows, FollowsAll}
use Rattle.pw_laws.proofs.blocks.Keys.{silent-running, stands-at}
use Rattle.pw_laws.proofs.blocks.Known.{Known, same-everywhere, same-refreshes}
use Rattle.pw_laws.proofs.blocks.Others.{shown-none}
use Rattle.pw_laws.proofs.blocks.Own.{own-follows}
use Rattle.pw_laws.proofs.blocks.Running.{AtWork, at-work}
use Rattle.pw_laws.proofs.blocks.Units.{behind-files, legal-last, machine-last, numbers, over-follows-unit, taken-is}
use Rattle.pw_laws.proofs.frontier.Frontier.{RunsFrom, fails, sends, transacts}
use Rattle.pw_laws.proofs.frontier.Standing.{Where, closed, running, waiting, where-of}
use Rattle.pw_laws.proofs.induction.Served.{reply-cases}
use Rattle.pw_laws.specs.locking.Records.{commits_at}

-- what a REPLY leaves
data Replying (sys : Behaviour) (s : State) (c p t : ℕ) (fault : Option ℕ) (v : Verb) (x : State) : Type 0 where
  ends : (reply : List ℕ) → fault ≡ None → v ≡ verb.Reply reply → is_outside (path_of s t) ≡ true
      → x ≡ give_answer t (Replied reply) (commit_unit t (unit_number (path_of s t)) (Some reply) (free_process c p s)) → Replying sys s c p t fault v x
  goes : (reply : List ℕ) → fault ≡ None → v ≡ verb.Reply reply → is_outside (path_of s t) ≡ false
      → x ≡ give_answer t (Replied reply) (free_process c p s) → Replying sys s c p t fault v x
  faulty : (n : ℕ) → fault ≡ Some n → x ≡ give_answer t (Failed n) (free_process c p s) → Replying sys s c p t fault v x

replying : (sys : Behaviour) (s : State) (c p t : ℕ) (fault : Option ℕ) → (l : LegalReply sys s c p t fault) → Replying sys s c p t fault (server_verb sys c l.job) (do_reply sys c p t fault s)
replying sys s c p t fault l =
    reply-cases sys s c p t (Replying sys s c p t fault (server_verb sys c l.job)) fault l
    (λ reply none asks outside. ends reply none asks outside refl) (λ reply none asks inside. goes reply none asks inside refl) (λ n is asks. faulty n is refl)

-- what a SEND is given joins the path and is the last answer
data Given (at next : Attempt) : Type 0 where
  given_so : (a : PathAnswer) → next.path ≡ at.path ++ a ∷ [] → next.last ≡ Some a → Given at next

served-given : (served : Served) (at : Attempt) → Given at (attempt_with_served served at)
served-given (Reply reply files) at = given_so (Replied reply) refl refl
served-given (Fault x) at = given_so (Failed x) refl refl

module _ (sys : Behaviour) (b : IsBehaviour sys) (s : State) (f : Fold) (known : Known sys b s f) (all : FollowsAll sys s f)
    (stay : (entry : Event) → commits_at s entry ≡ false → Fits sys s entry → committed_files sys (effect sys s entry) ≡ committed_files sys s)
    (c p t : ℕ) (fault : Option ℕ) (l : LegalReply sys s c p t fault) where
  abbrev entry : Event
  entry = event.Reply c p t fault

  abbrev next : State
  next = effect sys s entry

  abbrev now : Fold
  now = fold_on sys s entry f

  abbrev machine : Machine
  machine = one_copy sys f.order

  out : OutOk sys s t (record { class = c; request = l.job.request })
  out = subst (λ (o : ℕ). OutOk sys s o (record { class = c; request = l.job.request })) l.whose (out-job sys b s known.inv c p l.job l.at_work)

  abbrev w : AtWork sys b s f known all t out.unit out.start
  w = at-work sys b s f known all t out.unit out.start out.is_open out.runs

  abbrev j : ℕ
  j = f.reading.answers t

  abbrev at : Attempt
  at = attempt sys t out.start (committed_files sys s) out.unit.restarts j

  abbrev final : Attempt
  final = attempt sys t out.start (committed_files sys s) out.unit.restarts (suc j)

  untaken : is_takeover (s.terms t).pending ≡ false
  untaken = ap is_takeover out.calm

  stands : path_of s t ≡ at.path
  stands = stands-at sys b s f known all stay t out.unit out.start w out.working untaken

  asked : sys.ask t at.path ≡ verb.Send c l.job.request.message
  asked = ap (sys.ask t) (sym stands) ∙ out.asks

  -- an answer in the attempt
  inside : (a : PathAnswer) → do_reply sys c p t fault s ≡ give_answer t a (free_process c p s) → reply_commits s t fault (j + 1) ≡ [] → commits_at s entry ≡ false → FollowsAll sys next now
  inside a is blocks none =
      silent-running sys b s f known all stay entry t w.here a (ap (λ (x : State). x.terms) is) (ap (λ (x : State). x.units) is) (ap (λ (x : State). x.modes) is) refl refl (stay entry none l) blocks
      out.unit out.start out.is_open out.runs (verb.Send c l.job.request.message) asked (λ e. absurd (cc e))

  -- the unit that is one SEND sends from its start
  sent-from : is_outside (path_of s t) ≡ true → (d : ℕ) × (message : List ℕ) × (sys.ask t (machine.terms t).path ≡ verb.Send d message)
  sent-from outside = by (where-of (s.units t) (w.frontier.stands out.working untaken))
    where
      from : (r : ℕ) → RunsFrom sys t r (f.frontier t) (path_of s t) → (d : ℕ) × (message : List ℕ) × (sys.ask t (machine.terms t).path ≡ verb.Send d message)
      from r (transacts begins more whole within) = absurd (true≢false (sym outside ∙ within))
      from r (sends d message asks is) = (d, message, ap (sys.ask t) w.goes.path ∙ asks)
      from r (fails d n message asks is) =
          absurd (let failed = ap (sys.ask t) is ∙ b.fails t d n message (f.frontier t) w.frontier.base.rest.is_path asks in let sent = out.asks in cc (failed, sent))

      by : Where sys t (s.ended t) (s.units t) (path_of s t) (f.frontier t) → (d : ℕ) × (message : List ℕ) × (sys.ask t (machine.terms t).path ≡ verb.Send d message)
      by (closed none leads) = absurd (let is = out.is_open in cc (none, is))
      by (waiting u is idle same) = absurd (let one : u ≡ out.unit = let open_is = out.is_open in cc (is, open_is) in let run = ap (λ (x : OpenUnit). x.running) one in let runs = out.runs in cc (run, idle, runs))
      by (running u q is runs here) = from u.restarts here

  abbrev served : List ℕ
  served = reply_of (server_verb sys c l.job)

  -- the attempt has the server's reply
  final-path : (reply : List ℕ) → server_verb sys c l.job ≡ verb.Reply reply → path_of s t ++ Replied reply ∷ [] ≡ final.path
  final-path reply asks =
      let here : w.at.place ≡ ServerAtWork c p l.job = place_at_work s.classes w.at.place c p l.job l.at_work l.whose w.at.placed in
      let alone = subst (λ (x : Place). AloneOk sys b t out.start out.unit.restarts w.at.start (committed_files sys s) s.files j s.locks s.before x (s.terms t) (s.modes (sys.pair_of t))) here w.at.alone in
      let both =
      own-replied sys b t out.start out.unit.restarts w.at.start (committed_files sys s) s.files j s.locks s.before c p l.job (s.terms t) (record (s.terms t) { path = path_of s t ++ Replied reply ∷ [] }) (s.modes (sys.pair_of t))
      alone (restored-file sys s.before known.records.images s.files known.records.are_files) out.working out.calm out.asks
      (numbers sys b s f known all stay t out.unit out.start w out.is_open out.runs out.working untaken).0 reply asks refl in
      both.0.path_is out.working untaken

  last-is : (reply : List ℕ) → server_verb sys c l.job ≡ verb.Reply reply → final.last ≡ Some (Replied reply)
  last-is reply asks = by (subst (Given at) (sym final_is) (served-given (sys.serve c l.job.request.message at.files) at))
    where
      final_is : final ≡ attempt_with_served (sys.serve c l.job.request.message at.files) at
      final_is = ap (λ (v : Verb). answer_verb sys t out.unit.restarts (committed_files sys s) v at) asked

      by : Given at final → final.last ≡ Some (Replied reply)
      by (given_so a path last) =
          let same = append_cancel_left at.path (a ∷ []) (Replied reply ∷ []) (sym path ∙ (sym (final-path reply asks) ∙ ap (λ (q : List PathAnswer). q ++ Replied reply ∷ []) stands)) in
          last ∙ ap (λ (x : PathAnswer). Some x) (let first : a ≡ Replied reply = cc same in first)

  -- the unit that is one SEND commits
  module _ (known' : Known sys b next now) (reply : List ℕ) (none : fault ≡ None) (asks : server_verb sys c l.job ≡ verb.Reply reply) (outside : is_outside (path_of s t) ≡ true)
      (is : do_reply sys c p t fault s ≡ give_answer t (Replied reply) (commit_unit t (unit_number (path_of s t)) (Some reply) (free_process c p s))) where
    new-path : path_of next t ≡ final.path
    new-path = ap (λ (x : State). path_of x t) is ∙ (ap (λ (x : Term). x.path) (upd-same s.terms t _ t refl) ∙ final-path reply asks)

    no-unit-now : next.units t ≡ None
    no-unit-now = ap (λ (x : State). x.units t) is ∙ upd-same s.units t None t refl

    ended_is : (next.ended t).number ≡ unit_number (path_of s t)
    ended_is = ap (λ (x : State). (x.ended t).number) is ∙ ap (λ (x : LastEnded). x.number) (upd-same s.ended t _ t refl)

    modes : next.modes ≡ s.modes
    modes = ap (λ (x : State). x.modes) is

    going : (next.terms t).ending ≡ (s.terms t).ending
    going = ap (λ (x : State). (x.terms t).ending) is ∙ ap (λ (x : Term). x.ending) (upd-same s.terms t _ t refl)

    files-are : committed_files sys next ≡ final.files
    files-are =
        same-everywhere (λ x.
        ap (λ (y : State). committed_files sys y x) is
        ∙ reply-files sys b s known.records known.inv known.locks f.reading.answers known.alone c p t
        (subst (λ (y : Option ℕ). LegalReply sys s c p t y) none l) out.unit out.start out.is_open out.runs x)

    sends-commit : FollowsAll sys next now
    sends-commit =
        let is_last = machine-last sys b s f known all stay entry known' t out.unit out.start out.is_open out.runs out.working untaken (verb.Send c l.job.request.message) out.asks tt (λ e. absurd (cc e)) no-unit-now ended_is modes going in
        let from = sent-from outside in
        own-follows sys b s f known all entry t w.here (Attempted t (unit_number (path_of s t)) Committed (j + 1) ∷ [])
        (ap (λ (y : Option ℕ). reply_commits s t y (j + 1)) none ∙ cond-true (is_outside (path_of s t)) (Attempted t (unit_number (path_of s t)) Committed (j + 1) ∷ []) [] outside)
        (legal-last sys b s f known all stay entry known' t out.unit out.start out.is_open out.runs out.working untaken (verb.Send c l.job.request.message) out.asks tt (λ e. absurd (cc e)) no-unit-now ended_is modes going
        (unit_number (path_of s t)) Committed refl
        (subst (λ (v : Verb). EndsCommitted v final.last) (sym from.2) (subst (λ (o : Option PathAnswer). EndsCommitted (verb.Send from.0 from.1) o) (sym (last-is reply asks)) tt)))
        (ap (λ (x : Attempt). x.files) is_last ∙ sym files-are)
        (λ o differ. upd-other machine.terms t _ o differ)
        (λ o differ. ap (λ (x : State). x.terms o) is ∙ upd-other s.terms t _ o differ) (λ o differ. ap (λ (x : State). x.units o) is ∙ upd-other s.units t None o differ) modes
        (λ o differ. upd-other f.reading.answers t _ o differ) (λ o differ. shown-none sys b s f entry refl o)
        (λ o differ u q is_u runs.
        same-refreshes sys b s next f.reading.answers known.records known.locks o (only t) (ne_eqb o t differ) (ap (λ (x : State). x.files) is) (ap (λ (x : State). x.before) is)
        (behind-files sys b s f known all stay entry known') u q (known.alone o u q is_u runs))
        (subst (λ (x : Single). Follows sys next now t x) (sym (taken-is sys b s f known all stay t (unit_number (path_of s t)) Committed (j + 1) final is_last))
        (over-follows-unit sys b s f known all stay entry known' t out.unit out.start out.is_open out.runs out.working untaken (verb.Send c l.job.request.message) out.asks tt (λ e. absurd (cc e)) no-unit-now ended_is modes going
        new-path (shown-none sys b s f entry refl t)))

  -- the machine follows it
  pub follows-reply : Known sys b next now → FollowsAll sys next now
  follows-reply known' = by (replying sys s c p t fault l)
    where
      by : Replying sys s c p t fault (server_verb sys c l.job) (do_reply sys c p t fault s) → FollowsAll sys next now
      by (ends reply none asks outside is) = sends-commit known' reply none asks outside is
      by (goes reply none asks within is) =
          inside (Replied reply) is
          (ap (λ (y : Option ℕ). reply_commits s t y (j + 1)) none ∙ cond-false (is_outside (path_of s t)) (Attempted t (unit_number (path_of s t)) Committed (j + 1) ∷ []) [] within)
          (ap (λ (y : Option ℕ). commits_at s (event.Reply c p t y)) none ∙ within)
      by (faulty n failed is) =
          inside (Failed n) is (ap (λ (y : Option ℕ). reply_commits s t y (j + 1)) failed) (ap (λ (y : Option ℕ). commits_at s (event.Reply c p t y)) failed)
