-- Each entry keeps that running attempts are alone on the committed records: operations and replies of servers.
use Rattle.std.proofs.Common.{◌≡◌, ◌≢◌, ℕ, suc, ◌+◌, ⊎_elim, Bool, true, false, not, ◌&&◌, ◌==◌, List, [], ◌∷◌, ◌++◌, Option, Some, None, if◌then◌else◌, refl, ap, sym, subst, subst₂, ◌∙◌, arith}
use Rattle.std.specs.Str.{bytes_eq}
use Rattle.std.proofs.lemmas.Bool.{cases_eq, cases_Bool, true≢false, eq-eqb, ne_eqb, cond-true, and_from, or_left, or_right}
use Rattle.pw_base.proofs.Plain.{bytes_eq-same}
use Rattle.pw_laws.proofs.AttemptOps.{IsLocked, locked-before, locked-cases, locked-last}
use Rattle.pw_laws.proofs.AttemptFiles.{attempt-fine}
use Rattle.pw_laws.proofs.alone.Alone.{AloneOk, Mid, alone-moved}
use Rattle.pw_laws.proofs.alone.AloneEntries.{logged-alone, AllAlone, AloneAt, moved, moved-committed, moved-plain}
use Rattle.pw_laws.proofs.alone.AloneFails.{no-unit}
use Rattle.pw_laws.proofs.alone.AloneOwn.{own-failed, own-operation, own-replied}
use Rattle.pw_laws.proofs.alone.Locked.{key-locked, unshared}
use Rattle.pw_laws.proofs.alone.LockedRecords.{attempt-spares, no-image-same}
use Rattle.pw_code.specs.declared.file.FileCall.{FileCall}
use Rattle.pw_code.specs.declared.file.FileOp.{FileOp}
use Rattle.pw_code.specs.declared.lock.LockMode.{LockMode}
use Rattle.pw_code.specs.declared.verb.Verb.TheVariants as verb
use Rattle.pw_event.specs.declared.event.Event.TheVariants.{File, Reply}
use Rattle.pw_files.specs.Records.{record_at}
use Rattle.pw_laws.proofs.Holding.{LocksOk, operation-locks}
use Rattle.pw_laws.proofs.records.Entries.{Stays, operation-stays, send-stays}
use Rattle.pw_laws.proofs.records.Images.{restored-file}
use Rattle.pw_laws.proofs.records.RecordsOk.{RecordsOk}
use Rattle.pw_laws.proofs.seeing.Plays.{operation_leaves, played_leaves}
use Rattle.pw_laws.specs.locking.Held.{locks_key}
use Rattle.pw_laws.specs.locking.Seen.{AreFiles, HaveSameAt}
use Rattle.pw_locks.specs.Conflicts.{holders}
use Rattle.pw_locks.specs.Spans.{Covers}
use Rattle.pw_locks.specs.declared.lock.Lock.{Lock}
use Rattle.pw_onecopy.proofs.Update.{upd_elim, upd-same, upd-other}
use Rattle.pw_onecopy.specs.Attempt.{attempt}
use Rattle.pw_onecopy.specs.Behaviour.{Behaviour}
use Rattle.pw_onecopy.specs.IsBehaviour.{IsBehaviour}
use Rattle.pw_onecopy.specs.Operation.{changes_records, key_of, span_of}
use Rattle.pw_onecopy.specs.Path.{PathAnswer, Failed, Replied, unit_number}
use Rattle.pw_onecopy.specs.Update.{upd}
use Rattle.pw_paired.specs.Serial.{one_answer_more}
use Rattle.pw_paired.specs.Server.{do_reply, LegalFile, LegalReply, answer_on, do_operation, free_process, lock_of_job, server_verb, with_answer}
use Rattle.pw_paired.specs.State.{Class, Job, OpenUnit, State, Term}
use Rattle.pw_paired.specs.Step.{effect}
use Rattle.pw_paired.specs.Terminal.{path_of}
use Rattle.pw_paired.specs.Units.{give_answer, commit_unit, committed_files, has_image, image_before, only}
use Rattle.pw_laws.proofs.Tests.{any-before}
use Rattle.pw_laws.proofs.induction.Served.{file-is, reply-cases}
use Rattle.pw_laws.proofs.kept.Failing.{out-job}
use Rattle.pw_laws.proofs.kept.Kept.{Inv}
use Rattle.pw_laws.proofs.requests.Requests.{Place, Nowhere, AtWork, Placed, place_at_work, placed_filed, placed_freed, placed_process_other}
use Rattle.pw_laws.proofs.terms.KeepsEnds.{OutOk, out-path}

module _ (sys : Behaviour) (b : IsBehaviour sys) (s : State) (i : Inv sys s) (ok : RecordsOk sys s.files s.before s.locks) (lk : LocksOk s.units s.locks) (answers : ℕ → ℕ) (all : AllAlone sys b s answers) where
  -- an operation of a server
  module _ (c p : ℕ) (job : Job) (works : (s.classes c).busy p ≡ Some job) (call : FileCall) (asks : server_verb sys c job ≡ verb.File call)
      (free : holders (lock_of_job sys s job call) s.locks ≡ []) where
    abbrev after : State
    after = do_operation sys c p job call s

    abbrev t : ℕ
    t = job.request.terminal

    abbrev n : ℕ
    n = sys.key_length call.file

    abbrev key_is : List ℕ
    key_is = key_of n call.op call

    abbrev lock : Lock
    lock = lock_of_job sys s job call

    st : Stays sys s after false
    st = operation-stays sys b s i ok c p job works call asks free

    locks_after : LocksOk after.units after.locks
    locks_after = operation-locks sys b s i lk c p job works call free

    are : AreFiles sys (committed_files sys s)
    are = restored-file sys s.before ok.images s.files ok.are_files

    are_after : AreFiles sys (committed_files sys after)
    are_after = restored-file sys after.before st.ok.images after.files st.ok.are_files

    by-adding : (o f : ℕ) (key : List ℕ) (adds : Bool) → has_image o f key (if adds then image_before (sys.key_length call.file) (s.files call.file) t call ∷ s.before else s.before) ≡ false → has_image o f key s.before ≡ false
    by-adding o f key true none =
        ⊎_elim
        (λ there. absurd (true≢false (sym (or_right (t == o && (call.file == f && bytes_eq key_is key)) (has_image o f key s.before) there) ∙ none)))
        (λ was. was) (cases_Bool (has_image o f key s.before))
    by-adding o f key false none = none

    -- an image of before stays
    image-stays : (o f : ℕ) (key : List ℕ) → has_image o f key after.before ≡ false → has_image o f key s.before ≡ false
    image-stays o f key none = by-adding o f key (changes_records n (s.files call.file) call && not (has_image t call.file key_is s.before)) none

    -- what is changed has an image
    imaged : changes_records n (s.files call.file) call ≡ true → has_image t call.file key_is after.before ≡ true
    imaged change =
        ⊎_elim
        (λ there. ⊎_elim (λ now. now) (λ none. absurd (true≢false (sym there ∙ image-stays t call.file key_is none))) (cases_Bool (has_image t call.file key_is after.before)))
        (λ none.
        let adds : (changes_records n (s.files call.file) call && not (has_image t call.file key_is s.before)) ≡ true =
        and_from (changes_records n (s.files call.file) call) (not (has_image t call.file key_is s.before)) change (ap not none) in
        ap (has_image t call.file key_is) (cond-true (changes_records n (s.files call.file) call && not (has_image t call.file key_is s.before)) (image_before (sys.key_length call.file) (s.files call.file) t call ∷ s.before) s.before adds)
        ∙ or_left (t == t && (call.file == call.file && bytes_eq key_is key_is)) (has_image t call.file key_is s.before)
        (and_from (t == t) (call.file == call.file && bytes_eq key_is key_is) (eq-eqb t t refl)
        (and_from (call.file == call.file) (bytes_eq key_is key_is) (eq-eqb call.file call.file refl) (bytes_eq-same key_is))))
        (cases_Bool (has_image t call.file key_is s.before))

    -- what the operation sees in the open files stands in the attempt's
    seen : (unit : OpenUnit) (q : List PathAnswer) (at : AloneAt sys b s answers t unit q) (mid : ℕ → List (List ℕ))
        → Mid sys b t q unit.restarts at.start (attempt sys t q (committed_files sys s) unit.restarts (answers t)).files s.locks s.before (AtWork c p job) mid
        → ((f : ℕ) (key : List ℕ) → IsLocked t f key s.locks → HaveSameAt sys mid s.files f key)
        → (key : List ℕ) → Covers (span_of n (s.files call.file) call.op call) key → HaveSameAt sys s.files mid call.file key
    seen unit q at mid serving agree key covers =
        ⊎_elim
        (λ there. sym (agree call.file key (key-locked t call.file key s.locks (ok.locked t call.file key there))))
        (λ none.
        let files : ℕ → List (List ℕ) = (attempt sys t q (committed_files sys s) unit.restarts (answers t)).files in
        sym (no-image-same sys s.files s.before s.locks ok call.file key
        (λ o there.
        ⊎_elim (λ same. true≢false (sym there ∙ subst (λ (x : ℕ). has_image x call.file key s.before ≡ false) same none))
        (λ differ. unshared t o call.file key after.locks differ locks_after.apart (locked-last t call.file key s.locks lock (refl, refl, covers))
        (any-before (locks_key o call.file key) s.locks (lock ∷ []) (ok.locked o call.file key there)))
        (cases_eq t o)))
        ∙ (sym (attempt-spares sys b t q unit.restarts at.start (committed_files sys s) are call.file key (answers t) at.alone.is_attempt (at.alone.spared call.file key none))
        ∙ (sym (played_leaves sys c job.request.message files call.file key serving.n
        (λ k below other is at_file change. serving.spared call.file key none k below other is at_file change))
        ∙ ap (λ (m : ℕ → List (List ℕ)). record_at n (m call.file) key) (sym serving.mid_is))))
        (cases_Bool (has_image t call.file key s.before))

    own-file : (unit : OpenUnit) (q : List PathAnswer) → s.units t ≡ Some unit → unit.running ≡ Some q → AloneAt sys b after answers t unit q
    own-file unit q is runs =
        let at = all t unit q is runs in
        let here : at.place ≡ AtWork c p job = place_at_work s.classes at.place c p job works refl at.placed in
        record {
          going = at.going;
          start = at.start;
          place = AtWork c p (with_answer (answer_on sys s call) job);
          placed = placed_filed s.classes c p job works refl (answer_on sys s call) at.place at.placed;
          alone =
              alone-moved sys b t q unit.restarts at.start (committed_files sys s) (committed_files sys after) after.files after.files (answers t) after.locks after.locks after.before after.before
              (AtWork c p (with_answer (answer_on sys s call) job)) (s.terms t) (s.modes (sys.pair_of t)) (s.modes (sys.pair_of t)) are are_after
              (λ f key locked. sym (st.same refl f key)) (λ f key locked. locked) (λ f key locked. locked) (λ f key none. none) (λ f key locked. refl) (λ working. working)
              (own-operation sys b t q unit.restarts at.start (committed_files sys s) s.files (answers t) s.locks s.before after.before c p job (s.terms t) (s.modes (sys.pair_of t)) call lock
              ok.are_files (attempt-fine sys b t q unit.restarts at.start (committed_files sys s) are (answers t) at.alone.is_attempt).are_files refl refl refl asks
              (seen unit q at) (image-stays t) imaged
              (subst (λ (x : Place). AloneOk sys b t q unit.restarts at.start (committed_files sys s) s.files (answers t) s.locks s.before x (s.terms t) (s.modes (sys.pair_of t))) here at.alone));
        }

    other-file : (j : ℕ) (unit : OpenUnit) (q : List PathAnswer) → j ≢ t → s.units j ≡ Some unit → unit.running ≡ Some q → AloneAt sys b after answers j unit q
    other-file j unit q differ is runs =
        moved sys b s after ok lk answers answers j unit q refl refl
        (λ place placed. placed_process_other s.classes c p job (Some (with_answer (answer_on sys s call) job)) works (λ mine. differ (sym mine)) (λ mine. differ (sym mine)) place placed) (λ working. working)
        are_after (λ f key locked. sym (st.same refl f key)) (λ f key locked. locked-before j f key s.locks (lock ∷ []) locked)
        (λ f key locked. ⊎_elim (λ mine. absurd (differ (sym mine.0))) (λ more. more) (locked-cases j f key s.locks lock locked))
        (image-stays j)
        (λ f key locked. sym (operation_leaves sys (verb.File call) (record { files = s.files; done = [] }) f key
        (λ other is at_file change.
        let same : call ≡ other = cc is in
        unshared j t f key after.locks differ locks_after.apart (locked-before j f key s.locks (lock ∷ []) locked)
        (st.ok.locked t f key
        (subst₂ (λ (g : ℕ) (k : List ℕ). has_image t g k after.before ≡ true) (ap (λ (x : FileCall). x.file) same ∙ at_file)
        (sym (subst (λ (x : FileCall). key ≡ key_of (sys.key_length x.file) x.op x) (sym same) change.own))
        (imaged (subst (λ (x : FileCall). changes_records (sys.key_length x.file) (s.files x.file) x ≡ true) (sym same) change.changed)))))))
        (all j unit q is runs)

    file-alone : AllAlone sys b after answers
    file-alone j unit q is runs =
        ⊎_elim
        (λ same. subst (λ (k : ℕ). AloneAt sys b after answers k unit q) (sym same) (own-file unit q (ap s.units (sym same) ∙ is) runs))
        (λ differ. other-file j unit q differ is runs)
        (cases_eq j t)

  -- behind FILE running attempts are alone
  pub alone-file : (c p : ℕ) (op : FileOp) (mode : LockMode) (f status : ℕ) → LegalFile sys s c p op mode f status → AllAlone sys b (effect sys s (File c p op mode f status)) answers
  alone-file c p op mode f status l =
      logged-alone sys b _ answers _ (subst (λ x. AllAlone sys b x answers) (sym (file-is sys s c p op mode f status l)) (file-alone c p l.job l.at_work l.call l.asks l.free))

  -- a server's reply, or its run fault, joins the path of its terminal
  module _ (c p : ℕ) (job : Job) (works : (s.classes c).busy p ≡ Some job) where
    abbrev whose : ℕ
    whose = job.request.terminal

    out : OutOk sys s whose (record { class = c; request = job.request })
    out = out-job sys b s i c p job works

    -- the numbers of its path and of its start path agree
    pub agree : (unit : OpenUnit) (q : List PathAnswer) → s.units whose ≡ Some unit → unit.running ≡ Some q → unit_number (path_of s whose) ≡ unit_number q
    agree unit q is runs =
        (out-path sys b s i.terms whose (record { class = c; request = job.request }) out).number
        ∙ sym (((i.terms whose out.live.known).unit_ok unit is).start q runs).1

    own-alone : (s' : State) (answer : PathAnswer) (unit : OpenUnit) (q : List PathAnswer)
        → s'.files ≡ s.files → s'.before ≡ s.before → s'.locks ≡ s.locks → s'.modes ≡ s.modes
        → s'.classes ≡ (free_process c p s).classes → s'.terms ≡ upd s.terms whose (record (s.terms whose) { path = path_of s whose ++ answer ∷ [] })
        → s.units whose ≡ Some unit → unit.running ≡ Some q
        → ((at : AloneAt sys b s answers whose unit q)
        → AloneOk sys b whose q unit.restarts at.start (committed_files sys s) s.files (answers whose) s.locks s.before (AtWork c p job) (s.terms whose) (s.modes (sys.pair_of whose))
        → AloneOk sys b whose q unit.restarts at.start (committed_files sys s) s.files (suc (answers whose)) s.locks s.before Nowhere (record (s.terms whose) { path = path_of s whose ++ answer ∷ [] }) (s.modes (sys.pair_of whose)))
        → AloneAt sys b s' (one_answer_more whose answers) whose unit q
    own-alone s' answer unit q files before locks modes classes terms is runs own =
        let at = all whose unit q is runs in
        let here : at.place ≡ AtWork c p job = place_at_work s.classes at.place c p job works refl at.placed in
        let term : s'.terms whose ≡ record (s.terms whose) { path = path_of s whose ++ answer ∷ [] } = ap (λ (x : ℕ → Term). x whose) terms ∙ upd-same s.terms whose _ whose refl in
        record {
          going = ap (λ (x : Term). x.ending) term ∙ at.going;
          start = at.start;
          place = Nowhere;
          placed = subst (λ (x : ℕ → Class). Placed x whose Nowhere) (sym classes) (placed_freed s.classes c p job works refl at.place at.placed);
          alone =
              rw (files, before, locks, modes, term)
              (subst (λ (n : ℕ). AloneOk sys b whose q unit.restarts at.start (committed_files sys s) s.files n s.locks s.before Nowhere (record (s.terms whose) { path = path_of s whose ++ answer ∷ [] }) (s.modes (sys.pair_of whose)))
              (let next : suc (answers whose) ≡ answers whose + 1 = omega arith in next ∙ sym (upd-same answers whose (answers whose + 1) whose refl))
              (own at (subst (λ (x : Place). AloneOk sys b whose q unit.restarts at.start (committed_files sys s) s.files (answers whose) s.locks s.before x (s.terms whose) (s.modes (sys.pair_of whose))) here at.alone)));
        }

    all-files : AreFiles sys (committed_files sys s)
    all-files = restored-file sys s.before ok.images s.files ok.are_files

    failed-alone : (x : ℕ) → server_verb sys c job ≡ verb.Fault x → AllAlone sys b (give_answer whose (Failed x) (free_process c p s)) (one_answer_more whose answers)
    failed-alone x asks j unit q is runs =
        ⊎_elim
        (λ same.
        let was = ap s.units (sym same) ∙ is in
        subst (λ (k : ℕ). AloneAt sys b (give_answer whose (Failed x) (free_process c p s)) (one_answer_more whose answers) k unit q) (sym same)
        (own-alone (give_answer whose (Failed x) (free_process c p s)) (Failed x) unit q refl refl refl refl refl refl was runs
        (λ at alone.
        own-failed sys b whose q unit.restarts at.start (committed_files sys s) s.files (answers whose) s.locks s.before c p job (s.terms whose) (record (s.terms whose) { path = path_of s whose ++ Failed x ∷ [] }) (s.modes (sys.pair_of whose))
        alone all-files out.working out.calm out.asks (agree unit q was runs) x asks refl
        (b.fails whose c x job.request.message (path_of s whose) (out-path sys b s i.terms whose (record { class = c; request = job.request }) out).is_path out.asks))))
        (λ differ. moved-plain sys b s (give_answer whose (Failed x) (free_process c p s)) ok lk answers (one_answer_more whose answers) j unit q
        (upd-other s.terms whose _ j differ) (upd-other answers whose (answers whose + 1) j differ)
        (λ place placed. placed_process_other s.classes c p job None works (λ mine. differ (sym mine)) tt place placed) (λ w. w) refl refl refl (all j unit q is runs))
        (cases_eq j whose)

    replied-alone : (reply : List ℕ) → server_verb sys c job ≡ verb.Reply reply → AllAlone sys b (give_answer whose (Replied reply) (free_process c p s)) (one_answer_more whose answers)
    replied-alone reply asks j unit q is runs =
        ⊎_elim
        (λ same.
        let was = ap s.units (sym same) ∙ is in
        subst (λ (k : ℕ). AloneAt sys b (give_answer whose (Replied reply) (free_process c p s)) (one_answer_more whose answers) k unit q) (sym same)
        (own-alone (give_answer whose (Replied reply) (free_process c p s)) (Replied reply) unit q refl refl refl refl refl refl was runs
        (λ at alone.
        (own-replied sys b whose q unit.restarts at.start (committed_files sys s) s.files (answers whose) s.locks s.before c p job (s.terms whose) (record (s.terms whose) { path = path_of s whose ++ Replied reply ∷ [] }) (s.modes (sys.pair_of whose))
        alone all-files out.working out.calm out.asks (agree unit q was runs) reply asks refl).0)))
        (λ differ. moved-plain sys b s (give_answer whose (Replied reply) (free_process c p s)) ok lk answers (one_answer_more whose answers) j unit q
        (upd-other s.terms whose _ j differ) (upd-other answers whose (answers whose + 1) j differ)
        (λ place placed. placed_process_other s.classes c p job None works (λ mine. differ (sym mine)) tt place placed) (λ w. w) refl refl refl (all j unit q is runs))
        (cases_eq j whose)

    -- a unit that is one SEND commits
    sent-alone : (reply : List ℕ)
        → AllAlone sys b (give_answer whose (Replied reply) (commit_unit whose (unit_number (path_of s whose)) (Some reply) (free_process c p s))) (one_answer_more whose answers)
    sent-alone reply j unit q is runs =
        let after : State = give_answer whose (Replied reply) (commit_unit whose (unit_number (path_of s whose)) (Some reply) (free_process c p s)) in
        let st = send-stays sys b s i ok c p whose (unit_number (path_of s whose)) reply in
        upd_elim s.units whose None j (λ (u : Option OpenUnit). u ≡ Some unit → unit.running ≡ Some q → AloneAt sys b after (one_answer_more whose answers) j unit q)
        (λ same none _. absurd (no-unit none))
        (λ differ is runs. moved-committed sys b s after ok lk answers (one_answer_more whose answers) j unit q
        (upd-other s.terms whose _ j differ) (upd-other answers whose (answers whose + 1) j differ)
        (λ place placed. placed_process_other s.classes c p job None works (λ mine. differ (sym mine)) tt place placed) (λ w. w)
        (only whose) (ne_eqb j whose differ) refl refl refl (restored-file sys after.before st.ok.images after.files st.ok.are_files) (all j unit q is runs)) is runs

  -- behind REPLY running attempts are alone
  pub alone-reply : (c p t : ℕ) (fault : Option ℕ) → LegalReply sys s c p t fault → AllAlone sys b (effect sys s (Reply c p t fault)) (one_answer_more t answers)
  alone-reply c p t fault l =
      let own : ℕ = l.job.request.terminal in
      logged-alone sys b _ _ _ (subst (λ (o : ℕ). AllAlone sys b (do_reply sys c p o fault s) (one_answer_more o answers)) l.whose
      (reply-cases sys s c p own (λ x. AllAlone sys b x (one_answer_more own answers)) fault
      (record { job = l.job; at_work = l.at_work; whose = refl; replies = l.replies })
      (λ reply none asks outside. sent-alone c p l.job l.at_work reply)
      (λ reply none asks inside. replied-alone c p l.job l.at_work reply asks)
      (λ x is asks. failed-alone c p l.job l.at_work x asks)))
