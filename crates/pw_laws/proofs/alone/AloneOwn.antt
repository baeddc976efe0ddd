-- What a terminal's own entries do to its attempt alone.
use Rattle.std.proofs.Common.{◌≡◌, ◌≢◌, ℕ, suc, ◌<◌, ⊎_elim, true, false, List, [], ◌∷◌, ◌++◌, None, refl, ap, ap₂, sym, subst, subst₂, ◌∙◌, arith}
use Rattle.std.proofs.lemmas.Bool.{cases_eq, cases_lt, true≢false}
use Rattle.pw_laws.proofs.AttemptOps.{EachOfRun, EachOp, IsLocked, LocksAre, Spares, locked-before, locked-cases, locked-last}
use Rattle.pw_laws.proofs.AttemptFiles.{IsLast, Outcome, faults, one-end, outcome, outcome-last, replies, stays-played, attempt-fine}
use Rattle.pw_laws.proofs.alone.Alone.{AloneOk, Calm, Mid, Serving}
use Rattle.pw_class.specs.declared.request.Request.{Request}
use Rattle.pw_code.specs.declared.file.FileCall.{FileCall}
use Rattle.pw_code.specs.declared.verb.Verb.{Verb}
use Rattle.pw_code.specs.declared.verb.Verb.TheVariants as verb
use Rattle.pw_files.specs.Records.{record_at}
use Rattle.pw_laws.proofs.seeing.Plays.{ChangesAt, ServerWrites-behaviour, played_files}
use Rattle.pw_laws.proofs.seeing.Seeing.{same_answer, same_changes, same_effect, same_span}
use Rattle.pw_laws.specs.locking.Seen.{AgreeOn, AreFiles, CallCovers, HaveSameAt, files_at, verb_at}
use Rattle.pw_locks.specs.Spans.{Covers}
use Rattle.pw_locks.specs.declared.lock.Lock.{Lock}
use Rattle.pw_locks.specs.declared.span.Span.{Span}
use Rattle.pw_onecopy.proofs.Update.{upd_both}
use Rattle.pw_onecopy.specs.Attempt.{Attempt, GoesOn, TakesAnswer, attempt, attempt_with, attempt_with_served, answer_verb}
use Rattle.pw_onecopy.specs.Behaviour.{Behaviour, Served, Reply, Fault}
use Rattle.pw_onecopy.specs.IsBehaviour.{IsBehaviour, IsPath}
use Rattle.pw_onecopy.specs.Operation.{answer_of, changes_records, key_of, records_behind, span_of}
use Rattle.pw_onecopy.specs.Path.{FileResult, PathAnswer, Failed, Replied, unit_number}
use Rattle.pw_onecopy.specs.Play.{Play, play_operation, play_after}
use Rattle.pw_onecopy.specs.Update.{upd}
use Rattle.pw_paired.specs.Raising.{is_takeover}
use Rattle.pw_paired.specs.Server.{with_answer}
use Rattle.pw_paired.specs.State.{BeforeImage, Job, PairMode, Term}
use Rattle.pw_paired.specs.Units.{has_image}
use Rattle.pw_laws.proofs.requests.Requests.{Place, Nowhere, AtWork}
use Rattle.pw_laws.proofs.terms.TermOk.{IsWorking}

module _ (sys : Behaviour) (b : IsBehaviour sys) (t : ℕ) (q : List PathAnswer) (r : ℕ) (start : IsPath sys t q) where
  -- one more answer that is no reply
  pub own-answered : (x now : ℕ → List (List ℕ)) (j : ℕ) (locks : List Lock) (before : List BeforeImage) (term term' : Term) (mode : PairMode) (v : Verb)
      → AloneOk sys b t q r start x now j locks before Nowhere term mode
      → IsWorking mode → term.pending ≡ None → sys.ask t term.path ≡ v → TakesAnswer sys t term.path v → unit_number term.path ≡ unit_number q
      → ((c : ℕ) (message : List ℕ) → v ≢ verb.Send c message) → ((n : ℕ) → v ≢ verb.Fault n)
      → ((at : Attempt) → term.path ≡ at.path → (term'.path ≡ (answer_verb sys t r x v at).path) × ((answer_verb sys t r x v at).files ≡ at.files))
      → AloneOk sys b t q r start x now (suc j) locks before Nowhere term' mode
  own-answered x now j locks before term term' mode v ok working calm asks takes number no_send no_fault answers =
      let at : Attempt = attempt sys t q x r j in
      let path = ok.path_is working (ap is_takeover calm) in
      let asked : sys.ask t at.path ≡ v = ap (sys.ask t) (sym path) ∙ asks in
      let next : attempt sys t q x r (suc j) ≡ answer_verb sys t r x v at = ap (λ (w : Verb). answer_verb sys t r x w at) asked in
      let both = answers at path in
      record {
        is_attempt = (
          ok.is_attempt,
          record {
            takes = subst (λ (w : Verb). TakesAnswer sys t at.path w) (sym asked) (subst (λ (p : List PathAnswer). TakesAnswer sys t p v) path takes);
            is_open = ap unit_number (sym path) ∙ number;
          },
        );
        path_is = λ _ _. both.0 ∙ ap (λ (a : Attempt). a.path) (sym next);
        locked = λ i below c message sends.
            ⊎_elim (λ same. absurd (no_send c message (sym asked ∙ subst (λ (k : ℕ). sys.ask t (attempt sys t q x r k).path ≡ verb.Send c message) same sends)))
            (λ differ. ok.locked i (omega (arith, below, differ)) c message sends) (cases_eq i j);
        spared = λ f key none i below c message sends.
            ⊎_elim (λ same. absurd (no_send c message (sym asked ∙ subst (λ (k : ℕ). sys.ask t (attempt sys t q x r k).path ≡ verb.Send c message) same sends)))
            (λ differ. ok.spared f key none i (omega (arith, below, differ)) c message sends) (cases_eq i j);
        calm = λ _ _ _.
            let old = ok.calm working calm (λ n faulty. no_fault n (sym asks ∙ faulty)) in
            record { mid = old.mid; mid_is = old.mid_is ∙ (sym both.1 ∙ ap (λ (a : Attempt). a.files) (sym next)); agree = old.agree };
      }

  -- the request is sent, and taken: the files are as they were
  pub own-placed : (x now : ℕ → List (List ℕ)) (j : ℕ) (locks : List Lock) (before : List BeforeImage) (place place' : Place) (term : Term) (mode : PairMode)
      → ((mid : ℕ → List (List ℕ)) → Mid sys b t q r start (attempt sys t q x r j).files locks before place mid → Mid sys b t q r start (attempt sys t q x r j).files locks before place' mid)
      → AloneOk sys b t q r start x now j locks before place term mode
      → AloneOk sys b t q r start x now j locks before place' term mode
  own-placed x now j locks before place place' term mode moves ok = record {
    is_attempt = ok.is_attempt;
    path_is = ok.path_is;
    locked = ok.locked;
    spared = ok.spared;
    calm = λ working calm no_fault. let old = ok.calm working calm no_fault in record { mid = old.mid; mid_is = moves old.mid old.mid_is; agree = old.agree };
  }

  -- a request that is taken: no operation yet
  pub taken-mid : (files : ℕ → List (List ℕ)) (locks : List Lock) (before : List BeforeImage) (c p : ℕ) (request : Request) → c < sys.classes
      → (mid : ℕ → List (List ℕ)) → mid ≡ files → Mid sys b t q r start files locks before (AtWork c p (record { request = request; done = [] })) mid
  taken-mid files locks before c p request known mid is = record {
    known = known;
    n = 0;
    done = refl;
    mid_is = is;
    locked = λ k below. absurd (omega (arith, below));
    spared = λ f key none k below. absurd (omega (arith, below));
  }

  -- where nothing is pending any more, or no member works, nothing is said of the open files
  pub own-cut : (x now now' : ℕ → List (List ℕ)) (j : ℕ) (locks : List Lock) (before : List BeforeImage) (place place' : Place) (term term' : Term) (mode mode' : PairMode)
      → (IsWorking mode' → is_takeover term'.pending ≡ false → (IsWorking mode) × (is_takeover term.pending ≡ false) × (term'.path ≡ term.path))
      → (IsWorking mode' → term'.pending ≡ None → ⊥)
      → AloneOk sys b t q r start x now j locks before place term mode
      → AloneOk sys b t q r start x now' j locks before place' term' mode'
  own-cut x now now' j locks before place place' term term' mode mode' paths cut ok = record {
    is_attempt = ok.is_attempt;
    path_is = λ working untaken. let was = paths working untaken in was.2 ∙ ok.path_is was.0 was.1;
    locked = ok.locked;
    spared = ok.spared;
    calm = λ working calm no_fault. absurd (cut working calm);
  }

  -- an operation of the server at work: what it sees in the open files it sees in the attempt's
  module _ (x now : ℕ → List (List ℕ)) (j : ℕ) (locks : List Lock) (before before' : List BeforeImage) (c p : ℕ) (job : Job) (term : Term) (mode : PairMode)
      (call : FileCall) (lock : Lock)
      (are_now : AreFiles sys now) (is_fine : AreFiles sys (attempt sys t q x r j).files)
      (whose : lock.unit.terminal ≡ t) (file : lock.file ≡ call.file) (span : lock.span ≡ span_of (sys.key_length call.file) (now call.file) call.op call)
      (asks : sys.ops c job.request.message job.done ≡ verb.File call)
      (seen : (mid : ℕ → List (List ℕ)) → Mid sys b t q r start (attempt sys t q x r j).files locks before (AtWork c p job) mid
      → ((f : ℕ) (key : List ℕ) → IsLocked t f key locks → HaveSameAt sys mid now f key)
      → (key : List ℕ) → Covers (span_of (sys.key_length call.file) (now call.file) call.op call) key → HaveSameAt sys now mid call.file key)
      (fewer : (f : ℕ) (key : List ℕ) → has_image t f key before' ≡ false → has_image t f key before ≡ false)
      (imaged : changes_records (sys.key_length call.file) (now call.file) call ≡ true → has_image t call.file (key_of (sys.key_length call.file) call.op call) before' ≡ true) where
    abbrev n : ℕ
    n = sys.key_length call.file

    abbrev answer : FileResult
    answer = answer_of n (now call.file) call.op call

    abbrev after : ℕ → List (List ℕ)
    after = upd now call.file (records_behind n (now call.file) call)

    abbrev files : ℕ → List (List ℕ)
    files = (attempt sys t q x r j).files

    served : (mid : ℕ → List (List ℕ)) → Serving sys b t q r start files locks before c job mid → ((f : ℕ) (key : List ℕ) → IsLocked t f key locks → HaveSameAt sys mid now f key)
        → Calm sys b t q r start files after (locks ++ lock ∷ []) before' (AtWork c p (with_answer answer job))
    served mid serving agree =
        let message : List ℕ = job.request.message in
        let at : Play = play_after sys c message files serving.n in
        let mine : AreFiles sys at.files = played_files sys c message (ServerWrites-behaviour sys b c message serving.known) files is_fine serving.n in
        let see : AgreeOn n (now call.file) (at.files call.file) call = λ key covers.
        subst (λ (m : ℕ → List (List ℕ)). HaveSameAt sys now m call.file key) serving.mid_is (seen mid serving agree key covers) in
        let answers = same_answer n (now call.file) (at.files call.file) (are_now call.file) (mine call.file) call see in
        let spans = same_span n (now call.file) (at.files call.file) (are_now call.file) (mine call.file) call see in
        let both = same_changes n (now call.file) (at.files call.file) (are_now call.file) (mine call.file) call see in
        let verb_is : sys.ops c message at.done ≡ verb.File call = ap (sys.ops c message) serving.done ∙ asks in
        let next : play_after sys c message files (suc serving.n) ≡ play_operation sys (verb.File call) at = ap (λ (v : Verb). play_operation sys v at) verb_is in
        record {
          mid = (play_operation sys (verb.File call) at).files;
          mid_is = record {
            known = serving.known;
            n = suc serving.n;
            done = ap (λ (p : Play). p.done) next ∙ ap₂ (λ (d : List FileResult) (a : FileResult). d ++ a ∷ []) serving.done (sym answers);
            mid_is = ap (λ (p : Play). p.files) (sym next);
            locked = λ k below other is key covers.
                ⊎_elim
                (λ same.
                let one : call ≡ other = let v = verb_is in let w = subst (λ (m : ℕ). verb_at sys c message files m ≡ verb.File other) same is in cc (v, w) in
                locked-last t other.file key locks lock (
                  whose,
                  file ∙ ap (λ (y : FileCall). y.file) one,
                  subst (λ (s : Span). Covers s key) (sym (span ∙ spans))
                      (subst (λ (y : FileCall). CallCovers sys at.files y key) (sym one) (subst (λ (m : ℕ). CallCovers sys (files_at sys c message files m) other key) same covers)),
                ))
                (λ differ. locked-before t other.file key locks (lock ∷ []) (serving.locked k (omega (arith, below, differ)) other is key covers))
                (cases_eq k serving.n);
            spared = λ f key none k below other is at_file change.
                ⊎_elim
                (λ same.
                let one : call ≡ other = let v = verb_is in let w = subst (λ (m : ℕ). verb_at sys c message files m ≡ verb.File other) same is in cc (v, w) in
                let changed : ChangesAt sys at.files call key = subst (λ (y : FileCall). ChangesAt sys at.files y key) (sym one) (subst (λ (m : ℕ). ChangesAt sys (files_at sys c message files m) other key) same change) in
                let there : has_image t f key before' ≡ true = subst₂ (λ (g : ℕ) (k : List ℕ). has_image t g k before' ≡ true) (ap (λ (y : FileCall). y.file) one ∙ at_file) (sym changed.own) (imaged (both ∙ changed.changed)) in
                true≢false (sym there ∙ none))
                (λ differ. serving.spared f key (fewer f key none) k (omega (arith, below, differ)) other is at_file change)
                (cases_eq k serving.n);
          };
          agree = λ f key locked.
              let was : HaveSameAt sys at.files now f key =
              ⊎_elim
              (λ new. subst (λ (g : ℕ). HaveSameAt sys at.files now g key) (sym file ∙ new.1) (sym (see key (subst (λ (s : Span). Covers s key) span new.2))))
              (λ old. subst (λ (m : ℕ → List (List ℕ)). HaveSameAt sys m now f key) serving.mid_is (agree f key old)) (locked-cases t f key locks lock locked) in
              upd_both at.files now call.file (records_behind n (at.files call.file) call) (records_behind n (now call.file) call) f
              (λ (one other : List (List ℕ)). record_at (sys.key_length f) one key ≡ record_at (sys.key_length f) other key)
              (λ same.
              subst (λ (g : ℕ). record_at (sys.key_length g) (records_behind n (at.files call.file) call) key ≡ record_at (sys.key_length g) (records_behind n (now call.file) call) key) (sym same)
              (same_effect n call (at.files call.file) (now call.file) key (sym both) (subst (λ (g : ℕ). HaveSameAt sys at.files now g key) same was)))
              (λ _. was);
        }

    -- its own operation
    pub own-operation : AloneOk sys b t q r start x now j locks before (AtWork c p job) term mode
        → AloneOk sys b t q r start x after j (locks ++ lock ∷ []) before' (AtWork c p (with_answer answer job)) term mode
    own-operation ok = record {
      is_attempt = ok.is_attempt;
      path_is = ok.path_is;
      locked = λ i below d message sends m k less other is key covers. locked-before t other.file key locks (lock ∷ []) (ok.locked i below d message sends m k less other is key covers);
      spared = λ f key none. ok.spared f key (fewer f key none);
      calm = λ working calm no_fault. let old = ok.calm working calm no_fault in served old.mid old.mid_is old.agree;
    }

  -- the server replies, or has a run fault
  module _ (x now : ℕ → List (List ℕ)) (j : ℕ) (locks : List Lock) (before : List BeforeImage) (c p : ℕ) (job : Job) (term term' : Term) (mode : PairMode)
      (ok : AloneOk sys b t q r start x now j locks before (AtWork c p job) term mode)
      (are : AreFiles sys x)
      (working : IsWorking mode) (calm : term.pending ≡ None) (sends : sys.ask t term.path ≡ verb.Send c job.request.message)
      (number : unit_number term.path ≡ unit_number q) where
    abbrev at : Attempt
    at = attempt sys t q x r j

    path : term.path ≡ at.path
    path = ok.path_is working (ap is_takeover calm)

    asked : sys.ask t at.path ≡ verb.Send c job.request.message
    asked = ap (sys.ask t) (sym path) ∙ sends

    next : attempt sys t q x r (suc j) ≡ attempt_with_served (sys.serve c job.request.message at.files) at
    next = ap (λ (v : Verb). answer_verb sys t r x v at) asked

    goes : GoesOn sys t q at
    goes = record { takes = subst (λ (v : Verb). TakesAnswer sys t at.path v) (sym asked) tt; is_open = ap unit_number (sym path) ∙ number }

    old : Calm sys b t q r start at.files now locks before (AtWork c p job)
    old = ok.calm working calm (λ n faulty. absurd (let s = sends in cc (s, faulty)))

    -- the server's run by itself ends where this one does
    serving : Serving sys b t q r start at.files locks before c job old.mid
    serving = old.mid_is

    abbrev v : Verb
    v = verb_at sys c job.request.message at.files serving.n

    served-as : IsLast v → Outcome (sys.serve c job.request.message at.files) v (files_at sys c job.request.message at.files serving.n)
    served-as last =
        let fine = attempt-fine sys b t q r start x are j ok.is_attempt in
        let adds = b.adds_up c job.request.message at.files serving.known fine.are_files in
        let comes = outcome (sys.serve c job.request.message at.files) (verb_at sys c job.request.message at.files adds.operations) (files_at sys c job.request.message at.files adds.operations) adds.comes in
        subst (λ (p : Play). Outcome (sys.serve c job.request.message at.files) (sys.ops c job.request.message p.done) p.files)
        (one-end sys c job.request.message at.files adds.operations serving.n (outcome-last comes) last) comes

    -- each operation of the run that has ended
    all-ops : (Q : (ℕ → List (List ℕ)) → FileCall → Type 0) → IsLast v → EachOfRun sys c job.request.message at.files serving.n Q → (m : ℕ) → EachOfRun sys c job.request.message at.files m Q
    all-ops Q last each m k below call is =
        ⊎_elim (λ less. each k less call is)
        (λ above. absurd (subst IsLast (ap (λ (p : Play). sys.ops c job.request.message p.done) (sym (stays-played sys c job.request.message at.files serving.n k above last)) ∙ is) last))
        (cases_lt k serving.n)

    each-more : (Q : (ℕ → List (List ℕ)) → FileCall → Type 0) → IsLast v → EachOp sys b t q r start x j Q → EachOfRun sys c job.request.message at.files serving.n Q → EachOp sys b t q r start x (suc j) Q
    each-more Q last each now_each i below d message sent m =
        ⊎_elim
        (λ same.
        let asks_j : sys.ask t at.path ≡ verb.Send d message = subst (λ (k : ℕ). sys.ask t (attempt sys t q x r k).path ≡ verb.Send d message) same sent in
        let class_is : c ≡ d = let a = asked in cc (a, asks_j) in
        let message_is : job.request.message ≡ message = let a = asked in cc (a, asks_j) in
        subst (λ (k : ℕ). EachOfRun sys d message (attempt sys t q x r k).files m Q) (sym same)
        (subst₂ (λ (e : ℕ) (l : List ℕ). EachOfRun sys e l at.files m Q) class_is message_is (all-ops Q last now_each m)))
        (λ differ. each i (omega (arith, below, differ)) d message sent m)
        (cases_eq i j)

    -- its own reply
    pub own-replied : (reply : List ℕ) → sys.ops c job.request.message job.done ≡ verb.Reply reply → term'.path ≡ term.path ++ Replied reply ∷ []
        → AloneOk sys b t q r start x now (suc j) locks before Nowhere term' mode
        × Calm sys b t q r start (attempt sys t q x r (suc j)).files now locks before Nowhere
    own-replied reply replied path_is =
        let v_is : v ≡ verb.Reply reply = ap (sys.ops c job.request.message) serving.done ∙ replied in
        let last : IsLast v = subst IsLast (sym v_is) tt in
        let served : sys.serve c job.request.message at.files ≡ Reply reply (files_at sys c job.request.message at.files serving.n) = by-reply (served-as last) v_is in
        let is : attempt sys t q x r (suc j) ≡ attempt_with_served (Reply reply (files_at sys c job.request.message at.files serving.n)) at = next ∙ ap (λ (s : Served). attempt_with_served s at) served in
        let calm : Calm sys b t q r start (attempt sys t q x r (suc j)).files now locks before Nowhere =
        record { mid = old.mid; mid_is = serving.mid_is ∙ ap (λ (a : Attempt). a.files) (sym is); agree = old.agree } in (
          record {
            is_attempt = (ok.is_attempt, goes);
            path_is = λ _ _. path_is ∙ (ap (λ (p : List PathAnswer). p ++ Replied reply ∷ []) path ∙ ap (λ (a : Attempt). a.path) (sym is));
            locked = each-more (LocksAre sys t locks) last ok.locked serving.locked;
            spared = λ f key none. each-more (Spares sys f key) last (ok.spared f key none) (serving.spared f key none);
            calm = λ _ _ _. calm;
          },
          calm,
        )
      where
        by-reply : {sv : Served} {w : Verb} {left : ℕ → List (List ℕ)} → Outcome sv w left → w ≡ verb.Reply reply → sv ≡ Reply reply left
        by-reply {left = left} (replies own sv_is w_is) is = sv_is ∙ ap (λ (l : List ℕ). Reply l left) (let same : own ≡ reply = cc (w_is, is) in same)
        by-reply (faults y sv_is w_is) is = absurd (cc (w_is, is))

    -- its own run fault
    pub own-failed : (y : ℕ) → sys.ops c job.request.message job.done ≡ verb.Fault y → term'.path ≡ term.path ++ Failed y ∷ [] → sys.ask t term'.path ≡ verb.Fault y
        → AloneOk sys b t q r start x now (suc j) locks before Nowhere term' mode
    own-failed y failed path_is faulty =
        let v_is : v ≡ verb.Fault y = ap (sys.ops c job.request.message) serving.done ∙ failed in
        let last : IsLast v = subst IsLast (sym v_is) tt in
        let served : sys.serve c job.request.message at.files ≡ Fault y = by-fault (served-as last) v_is in
        let is : attempt sys t q x r (suc j) ≡ attempt_with (Failed y) at = next ∙ ap (λ (s : Served). attempt_with_served s at) served in
        record {
          is_attempt = (ok.is_attempt, goes);
          path_is = λ _ _. path_is ∙ (ap (λ (p : List PathAnswer). p ++ Failed y ∷ []) path ∙ ap (λ (a : Attempt). a.path) (sym is));
          locked = each-more (LocksAre sys t locks) last ok.locked serving.locked;
          spared = λ f key none. each-more (Spares sys f key) last (ok.spared f key none) (serving.spared f key none);
          calm = λ _ _ no_fault. absurd (no_fault y faulty);
        }
      where
        by-fault : {sv : Served} {w : Verb} {left : ℕ → List (List ℕ)} → Outcome sv w left → w ≡ verb.Fault y → sv ≡ Fault y
        by-fault (faults z sv_is w_is) is = sv_is ∙ ap (λ (k : ℕ). Fault k) (let same : z ≡ y = cc (w_is, is) in same)
        by-fault (replies own sv_is w_is) is = absurd (cc (w_is, is))
