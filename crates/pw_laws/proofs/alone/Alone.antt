-- A running attempt is the attempt alone on the committed records.
use Rattle.std.proofs.Common.{◌≡◌, ◌≢◌, ℕ, ◌<◌, false, List, None, refl, sym, subst, ◌∙◌}
use Rattle.pw_laws.proofs.AttemptOps.{EachOfRun, EachOp, IsLocked, LocksAre, Spares, agree-by-locks, each-passes, locks-pass, run-passes, spares-pass}
use Rattle.pw_laws.proofs.AttemptFiles.{AgreeOnAttempt, attempt-fine, attempts-same}
use Rattle.pw_code.specs.declared.verb.Verb.TheVariants as verb
use Rattle.pw_laws.proofs.seeing.Plays.{ServerWrites-behaviour, same_play}
use Rattle.pw_laws.specs.locking.Seen.{AgreeOnRun, AreFiles, HaveSameAt, files_at}
use Rattle.pw_locks.specs.declared.lock.Lock.{Lock}
use Rattle.pw_onecopy.specs.Attempt.{IsAttempt, attempt}
use Rattle.pw_onecopy.specs.Behaviour.{Behaviour}
use Rattle.pw_onecopy.specs.IsBehaviour.{IsBehaviour, IsPath}
use Rattle.pw_onecopy.specs.Path.{PathAnswer}
use Rattle.pw_onecopy.specs.Play.{play_after}
use Rattle.pw_paired.specs.Raising.{is_takeover}
use Rattle.pw_paired.specs.State.{BeforeImage, Job, PairMode, Term}
use Rattle.pw_paired.specs.Units.{has_image}
use Rattle.pw_laws.proofs.requests.Requests.{Place, Nowhere, InLine, AtWork}
use Rattle.pw_laws.proofs.terms.TermOk.{IsWorking}

module _ (sys : Behaviour) (b : IsBehaviour sys) (t : ℕ) (q : List PathAnswer) (r : ℕ) (start : IsPath sys t q) where
  -- a server at work for the attempt: the operations of its run by itself so far
  pub record Serving (files : ℕ → List (List ℕ)) (locks : List Lock) (before : List BeforeImage) (c : ℕ) (job : Job) (mid : ℕ → List (List ℕ)) : Type 0 where
    pub known : c < sys.classes
    pub n : ℕ
    pub done : (play_after sys c job.request.message files n).done ≡ job.done
    pub mid_is : mid ≡ files_at sys c job.request.message files n
    pub locked : EachOfRun sys c job.request.message files n (LocksAre sys t locks)
    pub spared : (f : ℕ) (key : List ℕ) → has_image t f key before ≡ false → EachOfRun sys c job.request.message files n (Spares sys f key)

  -- the files as the attempt has them now
  abbrev pub Mid : (ℕ → List (List ℕ)) → List Lock → List BeforeImage → Place → (ℕ → List (List ℕ)) → Type 0
  Mid files locks before Nowhere mid = mid ≡ files
  Mid files locks before (InLine c request) mid = mid ≡ files
  Mid files locks before (AtWork c p job) mid = Serving files locks before c job mid

  -- the open files agree with them at the locked keys
  pub record Calm (files now : ℕ → List (List ℕ)) (locks : List Lock) (before : List BeforeImage) (place : Place) : Type 0 where
    pub mid : ℕ → List (List ℕ)
    pub mid_is : Mid files locks before place mid
    pub agree : (f : ℕ) (key : List ℕ) → IsLocked t f key locks → HaveSameAt sys mid now f key

  -- a running attempt is the one that the machine makes alone
  pub record AloneOk (committed now : ℕ → List (List ℕ)) (j : ℕ) (locks : List Lock) (before : List BeforeImage) (place : Place) (term : Term) (mode : PairMode) : Type 0 where
    pub is_attempt : IsAttempt sys t q committed r j
    pub path_is : IsWorking mode → is_takeover term.pending ≡ false → term.path ≡ (attempt sys t q committed r j).path
    pub locked : EachOp sys b t q r start committed j (LocksAre sys t locks)
    pub spared : (f : ℕ) (key : List ℕ) → has_image t f key before ≡ false → EachOp sys b t q r start committed j (Spares sys f key)
    pub calm : IsWorking mode → term.pending ≡ None → ((x : ℕ) → sys.ask t term.path ≢ verb.Fault x)
        → Calm (attempt sys t q committed r j).files now locks before place

  -- what others do: the committed and the open files stay at the locked keys, the locks and the images of the terminal stay
  module _ (x y now now' : ℕ → List (List ℕ)) (j : ℕ) (locks locks' : List Lock) (before before' : List BeforeImage) (place : Place) (term : Term) (mode mode' : PairMode)
      (are : AreFiles sys x) (others : AreFiles sys y)
      (same : (f : ℕ) (key : List ℕ) → IsLocked t f key locks → HaveSameAt sys x y f key)
      (more : (f : ℕ) (key : List ℕ) → IsLocked t f key locks → IsLocked t f key locks')
      (fewer : (f : ℕ) (key : List ℕ) → IsLocked t f key locks' → IsLocked t f key locks)
      (images : (f : ℕ) (key : List ℕ) → has_image t f key before' ≡ false → has_image t f key before ≡ false)
      (opens : (f : ℕ) (key : List ℕ) → IsLocked t f key locks → HaveSameAt sys now now' f key)
      (works : IsWorking mode' → IsWorking mode) where
    moved-run : (c : ℕ) (message : List ℕ) (files : ℕ → List (List ℕ)) (n : ℕ) → EachOfRun sys c message files n (LocksAre sys t locks) → EachOfRun sys c message files n (LocksAre sys t locks')
    moved-run c message files n each k below call asks key covers = more call.file key (each k below call asks key covers)

    moved-mid : (files files' : ℕ → List (List ℕ)) → AreFiles sys files → AreFiles sys files' → ((f : ℕ) (key : List ℕ) → HaveSameAt sys x y f key → HaveSameAt sys files files' f key)
        → (place : Place) (mid : ℕ → List (List ℕ)) → Mid files locks before place mid
        → (mid' : ℕ → List (List ℕ)) × Mid files' locks' before' place mid' × ((f : ℕ) (key : List ℕ) → IsLocked t f key locks → HaveSameAt sys mid mid' f key)
    moved-mid files files' fine fine' stays Nowhere mid is = (files', refl, λ f key locked. subst (λ (m : ℕ → List (List ℕ)). HaveSameAt sys m files' f key) (sym is) (stays f key (same f key locked)))
    moved-mid files files' fine fine' stays (InLine c request) mid is = (files', refl, λ f key locked. subst (λ (m : ℕ → List (List ℕ)). HaveSameAt sys m files' f key) (sym is) (stays f key (same f key locked)))
    moved-mid files files' fine fine' stays (AtWork c p job) mid is =
        let message : List ℕ = job.request.message in
        let agree : AgreeOnRun sys c message files files' is.n = λ k below call asks key covers. stays call.file key (same call.file key (is.locked k below call asks key covers)) in
        let plays = same_play sys c message (ServerWrites-behaviour sys b c message is.known) files files' fine fine' is.n agree in (
          files_at sys c message files' is.n,
          record {
            known = is.known;
            n = is.n;
            done = sym plays.done ∙ is.done;
            mid_is = refl;
            locked = moved-run c message files' is.n (run-passes sys b c message is.known files files' fine fine' (LocksAre sys t locks) (locks-pass sys t locks) is.n agree is.locked);
            spared = λ f key none. run-passes sys b c message is.known files files' fine fine' (Spares sys f key) (spares-pass sys f key) is.n agree (is.spared f key (images f key none));
          },
          λ f key locked. subst (λ (m : ℕ → List (List ℕ)). HaveSameAt sys m (files_at sys c message files' is.n) f key) (sym is.mid_is) (plays.stays f key (stays f key (same f key locked))),
        )

    -- it stays alone where others change what it does not see
    pub alone-moved : AloneOk x now j locks before place term mode → AloneOk y now' j locks' before' place term mode'
    alone-moved ok =
        let agree : AgreeOnAttempt sys b t q r start x y j = agree-by-locks sys b t q r start x y j locks ok.locked same in
        let both = attempts-same sys b t q r start x y are others j ok.is_attempt agree in
        let fine = attempt-fine sys b t q r start x are j ok.is_attempt in
        let fine' = attempt-fine sys b t q r start y others j both.0 in
        record {
          is_attempt = both.0;
          path_is = λ working untaken. ok.path_is (works working) untaken ∙ both.1.path;
          locked = λ i below c message asks n k less call verb_is key covers.
              more call.file key (each-passes sys b t q r start (LocksAre sys t locks) (locks-pass sys t locks) x y are others j ok.is_attempt agree ok.locked i below c message asks n k less call verb_is key covers);
          spared = λ f key none. each-passes sys b t q r start (Spares sys f key) (spares-pass sys f key) x y are others j ok.is_attempt agree (ok.spared f key (images f key none));
          calm = λ working calm no_fault.
              let old = ok.calm (works working) calm no_fault in
              let moved = moved-mid (attempt sys t q x r j).files (attempt sys t q y r j).files fine.are_files fine'.are_files both.1.stays place old.mid old.mid_is in
              record {
                mid = moved.0;
                mid_is = moved.1;
                agree = λ f key locked.
                    let mine = fewer f key locked in sym (moved.2 f key mine) ∙ (old.agree f key mine ∙ opens f key mine);
              };
        }
