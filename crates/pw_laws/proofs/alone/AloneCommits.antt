-- What a unit leaves where it commits: the files of its attempt alone.
use Rattle.std.proofs.Common.{◌≡◌, ℕ, suc, ⊎_elim, false, not, List, [], ◌∷◌, ◌++◌, filter, Some, None, refl, ap, sym, subst, ◌∙◌}
use Rattle.std.proofs.lemmas.Bool.{cases_Bool, true≢false, eq-eqb, eqb-true}
use Rattle.pw_laws.proofs.AttemptOps.{EachOp, Spares}
use Rattle.pw_laws.proofs.AttemptFiles.{attempt-fine}
use Rattle.pw_laws.proofs.alone.Alone.{AloneOk, Calm}
use Rattle.pw_laws.proofs.alone.AloneEntries.{AllAlone}
use Rattle.pw_laws.proofs.alone.AloneOwn.{own-replied}
use Rattle.pw_laws.proofs.alone.AloneServers.{agree}
use Rattle.pw_laws.proofs.alone.AloneSteps.{nowhere}
use Rattle.pw_laws.proofs.alone.Locked.{key-locked}
use Rattle.pw_laws.proofs.alone.LockedRecords.{attempt-spares, committed-without, no-image-same}
use Rattle.pw_code.specs.declared.verb.Verb.TheVariants as verb
use Rattle.pw_files.specs.Records.{record_at}
use Rattle.pw_laws.proofs.Holding.{LocksOk}
use Rattle.pw_laws.proofs.records.Images.{restored-file}
use Rattle.pw_laws.proofs.records.RecordsOk.{RecordsOk, image-kept}
use Rattle.pw_laws.proofs.records.Withdrawn.{ended-ok}
use Rattle.pw_laws.proofs.seeing.SameFiles.{same_files}
use Rattle.pw_laws.specs.locking.Seen.{AreFiles}
use Rattle.pw_onecopy.specs.Attempt.{IsAttempt, attempt}
use Rattle.pw_onecopy.specs.Behaviour.{Behaviour}
use Rattle.pw_onecopy.specs.IsBehaviour.{IsBehaviour, IsPath}
use Rattle.pw_onecopy.specs.Path.{PathAnswer, Replied, unit_number}
use Rattle.pw_paired.specs.Server.{LegalReply, reply_of, server_verb}
use Rattle.pw_paired.specs.State.{BeforeImage, OpenUnit, State}
use Rattle.pw_paired.specs.Terminal.{LegalCommit, path_of}
use Rattle.pw_paired.specs.Units.{committed_files, has_image, only, restored_files}
use Rattle.pw_laws.proofs.induction.Served.{reply-verb}
use Rattle.pw_laws.proofs.kept.Failing.{out-job}
use Rattle.pw_laws.proofs.kept.Kept.{Inv, no-request}
use Rattle.pw_laws.proofs.requests.Requests.{Place, Nowhere, AtWork, place_at_work}
use Rattle.pw_laws.proofs.terms.TermOk.{IsWorking}

module _ (sys : Behaviour) (b : IsBehaviour sys) (s : State) (ok : RecordsOk sys s.files s.before s.locks) where
  are : AreFiles sys (committed_files sys s)
  are = restored-file sys s.before ok.images s.files ok.are_files

  -- the images of a terminal go whose server is done: what stands is what its attempt has
  module _ (t : ℕ) (q : List PathAnswer) (r : ℕ) (start : IsPath sys t q) (j : ℕ) (is : IsAttempt sys t q (committed_files sys s) r j)
      (spared : (f : ℕ) (key : List ℕ) → has_image t f key s.before ≡ false → EachOp sys b t q r start (committed_files sys s) j (Spares sys f key))
      (calm : Calm sys b t q r start (attempt sys t q (committed_files sys s) r j).files s.files s.locks s.before Nowhere) where
    abbrev others : List BeforeImage
    others = filter (λ image. not (only t image.terminal)) s.before

    abbrev files : ℕ → List (List ℕ)
    files = (attempt sys t q (committed_files sys s) r j).files

    at-key : (f : ℕ) (key : List ℕ) → record_at (sys.key_length f) (restored_files sys.key_length others s.files f) key ≡ record_at (sys.key_length f) (files f) key
    at-key f key =
        ⊎_elim
        (λ there.
        no-image-same sys s.files others _ (ended-ok sys s.files s.before s.locks ok (only t)) f key
        (λ o has.
        let was = image-kept (only t) o f key s.before has in
        true≢false (sym (eq-eqb o t (sym (ok.single t o f key there was.0))) ∙ was.1))
        ∙ (sym (calm.agree f key (key-locked t f key s.locks (ok.locked t f key there)))
        ∙ ap (λ (m : ℕ → List (List ℕ)). record_at (sys.key_length f) (m f) key) calm.mid_is))
        (λ none.
        committed-without sys s.files s.before s.locks ok (only t) f key
        (λ o own has. true≢false (sym has ∙ subst (λ (x : ℕ). has_image x f key s.before ≡ false) (sym (eqb-true o t own)) none))
        ∙ sym (attempt-spares sys b t q r start (committed_files sys s) are f key j is (spared f key none)))
        (cases_Bool (has_image t f key s.before))

    left-files : (f : ℕ) → restored_files sys.key_length others s.files f ≡ files f
    left-files f =
        let ended = ended-ok sys s.files s.before s.locks ok (only t) in
        same_files (sys.key_length f) (restored_files sys.key_length others s.files f) (files f) (restored-file sys others ended.images s.files ended.are_files f)
        ((attempt-fine sys b t q r start (committed_files sys s) are j is).are_files f) (at-key f)

  module _ (i : Inv sys s) (lk : LocksOk s.units s.locks) (answers : ℕ → ℕ) (all : AllAlone sys b s answers) where
    -- COMMIT
    pub commit-files : (t n : ℕ) → LegalCommit sys s t n → (unit : OpenUnit) (q : List PathAnswer) → s.units t ≡ Some unit → unit.running ≡ Some q
        → (f : ℕ) → restored_files sys.key_length (filter (λ image. not (only t image.terminal)) s.before) s.files f ≡ (attempt sys t q (committed_files sys s) unit.restarts (answers t)).files f
    commit-files t n l unit q is runs =
        let at = all t unit q is runs in
        let in_it = no-request t i (λ c message sends. absurd (cc (l.asks, sends))) in
        let alone = subst (λ (p : Place). AloneOk sys b t q unit.restarts at.start (committed_files sys s) s.files (answers t) s.locks s.before p (s.terms t) (s.modes (sys.pair_of t)))
        (nowhere sys b s i ok lk answers all t at.place at.placed in_it) at.alone in
        left-files t q unit.restarts at.start (answers t) alone.is_attempt alone.spared
        (alone.calm (rw l.can.paired tt) l.can.calm (λ x faulty. absurd (cc (l.asks, faulty))))

    -- a REPLY of one SEND
    pub reply-files : (c p t : ℕ) → LegalReply sys s c p t None → (unit : OpenUnit) (q : List PathAnswer) → s.units t ≡ Some unit → unit.running ≡ Some q
        → (f : ℕ) → restored_files sys.key_length (filter (λ image. not (only t image.terminal)) s.before) s.files f ≡ (attempt sys t q (committed_files sys s) unit.restarts (suc (answers t))).files f
    reply-files c p t l unit q is runs =
        let at = all t unit q is runs in
        let out = out-job sys b s i c p l.job l.at_work in
        let here : at.place ≡ AtWork c p l.job = place_at_work s.classes at.place c p l.job l.at_work l.whose at.placed in
        let alone = subst (λ (x : Place). AloneOk sys b t q unit.restarts at.start (committed_files sys s) s.files (answers t) s.locks s.before x (s.terms t) (s.modes (sys.pair_of t))) here at.alone in
        let both = own-replied sys b t q unit.restarts at.start (committed_files sys s) s.files (answers t) s.locks s.before c p l.job (s.terms t) (record (s.terms t) { path = path_of s t ++ Replied (reply_of (server_verb sys c l.job)) ∷ [] }) (s.modes (sys.pair_of t))
        alone are
        (subst (λ (o : ℕ). IsWorking (s.modes (sys.pair_of o))) l.whose out.working)
        (subst (λ (o : ℕ). (s.terms o).pending ≡ None) l.whose out.calm)
        (subst (λ (o : ℕ). sys.ask o (path_of s o) ≡ verb.Send c l.job.request.message) l.whose out.asks)
        (subst (λ (o : ℕ). unit_number (path_of s o) ≡ unit_number q) l.whose
        (agree sys b s i ok lk answers all c p l.job l.at_work unit q (ap s.units l.whose ∙ is) runs))
        (reply_of (server_verb sys c l.job)) (reply-verb (server_verb sys c l.job) l.replies) refl in
        left-files t q unit.restarts at.start (suc (answers t)) both.0.is_attempt both.0.spared both.1
