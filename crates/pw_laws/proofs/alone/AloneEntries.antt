-- Each entry keeps that running attempts are alone on the committed records.
use Rattle.std.proofs.Common.{◌≡◌, ℕ, Bool, false, not, List, filter, Some, None, ap, ap₂, sym, subst, subst₂, ◌∙◌}
use Rattle.pw_laws.proofs.AttemptOps.{IsLocked}
use Rattle.pw_laws.proofs.alone.Alone.{AloneOk, alone-moved}
use Rattle.pw_laws.proofs.alone.Locked.{images-were, locked-kept, locked-was}
use Rattle.pw_laws.proofs.alone.LockedRecords.{backed-out-same, committed-same}
use Rattle.pw_event.specs.declared.event.Event.{Event}
use Rattle.pw_files.specs.Records.{record_at}
use Rattle.pw_laws.proofs.Holding.{LocksOk}
use Rattle.pw_laws.proofs.records.Images.{restored-file}
use Rattle.pw_laws.proofs.records.RecordsOk.{RecordsOk}
use Rattle.pw_laws.proofs.records.Withdrawn.{backed-out-committed}
use Rattle.pw_laws.specs.locking.Seen.{AreFiles, HaveSameAt}
use Rattle.pw_locks.specs.declared.lock.Lock.{Lock}
use Rattle.pw_onecopy.specs.Behaviour.{Behaviour}
use Rattle.pw_onecopy.specs.IsBehaviour.{IsBehaviour, IsPath}
use Rattle.pw_onecopy.specs.Path.{PathAnswer}
use Rattle.pw_paired.specs.State.{BeforeImage, OpenUnit, State, Term}
use Rattle.pw_paired.specs.Units.{committed_files, has_image, restored_files}
use Rattle.pw_laws.proofs.requests.Requests.{Place, Placed}
use Rattle.pw_laws.proofs.terms.TermOk.{IsWorking}

-- the running attempt of a terminal, from its start path and with its unit's restarts, is alone on the committed records
pub record AloneAt (sys : Behaviour) (b : IsBehaviour sys) (s : State) (answers : ℕ → ℕ) (t : ℕ) (unit : OpenUnit) (q : List PathAnswer) : Type 0 where
  pub going : (s.terms t).ending ≡ None
  pub start : IsPath sys t q
  pub place : Place
  pub placed : Placed s.classes t place
  pub alone : AloneOk sys b t q unit.restarts start (committed_files sys s) s.files (answers t) s.locks s.before place (s.terms t) (s.modes (sys.pair_of t))

-- all running attempts are
abbrev pub AllAlone : (sys : Behaviour) → IsBehaviour sys → State → (ℕ → ℕ) → Type 0
AllAlone sys b s answers = (t : ℕ) (unit : OpenUnit) (q : List PathAnswer) → s.units t ≡ Some unit → unit.running ≡ Some q → AloneAt sys b s answers t unit q

-- the log says nothing of it
pub logged-alone : (sys : Behaviour) (b : IsBehaviour sys) (s : State) (answers : ℕ → ℕ) (log : List Event)
    → AllAlone sys b s answers → AllAlone sys b (record s { log = log }) answers
logged-alone sys b s answers log all t unit q is runs =
    let at = all t unit q is runs in
    record { going = at.going; start = at.start; place = at.place; placed = at.placed; alone = at.alone }

module _ (sys : Behaviour) (b : IsBehaviour sys) (s s' : State) (ok : RecordsOk sys s.files s.before s.locks) (locks : LocksOk s.units s.locks) (answers answers' : ℕ → ℕ) (t : ℕ) (unit : OpenUnit) (q : List PathAnswer)
    (term : s'.terms t ≡ s.terms t) (same_answers : answers' t ≡ answers t) (placed : (place : Place) → Placed s.classes t place → Placed s'.classes t place)
    (works : IsWorking (s'.modes (sys.pair_of t)) → IsWorking (s.modes (sys.pair_of t))) where
  -- an entry of another terminal, or one that changes nothing here, with these changes of files, images and locks
  pub moved : AreFiles sys (committed_files sys s')
      → ((f : ℕ) (key : List ℕ) → IsLocked t f key s.locks → HaveSameAt sys (committed_files sys s) (committed_files sys s') f key)
      → ((f : ℕ) (key : List ℕ) → IsLocked t f key s.locks → IsLocked t f key s'.locks)
      → ((f : ℕ) (key : List ℕ) → IsLocked t f key s'.locks → IsLocked t f key s.locks)
      → ((f : ℕ) (key : List ℕ) → has_image t f key s'.before ≡ false → has_image t f key s.before ≡ false)
      → ((f : ℕ) (key : List ℕ) → IsLocked t f key s.locks → HaveSameAt sys s.files s'.files f key)
      → AloneAt sys b s answers t unit q → AloneAt sys b s' answers' t unit q
  moved are same more fewer images opens at = record {
    going = ap (λ (x : Term). x.ending) term ∙ at.going;
    start = at.start;
    place = at.place;
    placed = placed at.place at.placed;
    alone =
        subst₂ (λ (n : ℕ) (x : Term). AloneOk sys b t q unit.restarts at.start (committed_files sys s') s'.files n s'.locks s'.before at.place x (s'.modes (sys.pair_of t))) (sym same_answers) (sym term)
        (alone-moved sys b t q unit.restarts at.start (committed_files sys s) (committed_files sys s') s.files s'.files (answers t) s.locks s'.locks s.before s'.before at.place (s.terms t) (s.modes (sys.pair_of t)) (s'.modes (sys.pair_of t))
        (restored-file sys s.before ok.images s.files ok.are_files) are same more fewer images opens works at.alone);
  }

  -- nothing changes in files, images and locks
  pub moved-plain : s'.files ≡ s.files → s'.before ≡ s.before → s'.locks ≡ s.locks → AloneAt sys b s answers t unit q → AloneAt sys b s' answers' t unit q
  moved-plain files before locks_are = moved
      (subst₂ (λ (x : List BeforeImage) (y : ℕ → List (List ℕ)). AreFiles sys (restored_files sys.key_length x y)) (sym before) (sym files) (restored-file sys s.before ok.images s.files ok.are_files))
      (λ f key locked. ap₂ (λ (x : List BeforeImage) (y : ℕ → List (List ℕ)). record_at (sys.key_length f) (restored_files sys.key_length x y f) key) (sym before) (sym files))
      (λ f key locked. subst (λ (l : List Lock). IsLocked t f key l) (sym locks_are) locked)
      (λ f key locked. subst (λ (l : List Lock). IsLocked t f key l) locks_are locked)
      (λ f key none. subst (λ (x : List BeforeImage). has_image t f key x ≡ false) before none)
      (λ f key locked. ap (λ (y : ℕ → List (List ℕ)). record_at (sys.key_length f) (y f) key) (sym files))

  -- units of other terminals are backed out
  pub moved-withdrawn : (whose : ℕ → Bool) → whose t ≡ false
      → s'.files ≡ restored_files sys.key_length (filter (λ image. whose image.terminal) s.before) s.files
      → s'.before ≡ filter (λ image. not (whose image.terminal)) s.before → s'.locks ≡ filter (λ lock. not (whose lock.unit.terminal)) s.locks
      → AreFiles sys (committed_files sys s')
      → AloneAt sys b s answers t unit q → AloneAt sys b s' answers' t unit q
  moved-withdrawn whose spared files before locks_are are = moved are
      (λ f key locked. sym (backed-out-committed sys s.files s.before s.locks ok whose f key)
      ∙ ap₂ (λ (x : List BeforeImage) (y : ℕ → List (List ℕ)). record_at (sys.key_length f) (restored_files sys.key_length x y f) key) (sym before) (sym files))
      (λ f key locked. subst (λ (l : List Lock). IsLocked t f key l) (sym locks_are) (locked-kept whose t f key s.locks spared locked))
      (λ f key locked. locked-was whose t f key s.locks (subst (λ (l : List Lock). IsLocked t f key l) locks_are locked))
      (λ f key none. images-were whose t f key s.before spared (subst (λ (x : List BeforeImage). has_image t f key x ≡ false) before none))
      (λ f key locked. sym (backed-out-same sys s.files s.before s.locks ok locks.apart t whose spared f key locked)
      ∙ ap (λ (y : ℕ → List (List ℕ)). record_at (sys.key_length f) (y f) key) (sym files))

  -- another unit commits
  pub moved-committed : (whose : ℕ → Bool) → whose t ≡ false
      → s'.files ≡ s.files → s'.before ≡ filter (λ image. not (whose image.terminal)) s.before → s'.locks ≡ filter (λ lock. not (whose lock.unit.terminal)) s.locks
      → AreFiles sys (committed_files sys s')
      → AloneAt sys b s answers t unit q → AloneAt sys b s' answers' t unit q
  moved-committed whose spared files before locks_are are = moved are
      (λ f key locked. sym (committed-same sys s.files s.before s.locks ok locks.apart t whose spared f key locked)
      ∙ ap₂ (λ (x : List BeforeImage) (y : ℕ → List (List ℕ)). record_at (sys.key_length f) (restored_files sys.key_length x y f) key) (sym before) (sym files))
      (λ f key locked. subst (λ (l : List Lock). IsLocked t f key l) (sym locks_are) (locked-kept whose t f key s.locks spared locked))
      (λ f key locked. locked-was whose t f key s.locks (subst (λ (l : List Lock). IsLocked t f key l) locks_are locked))
      (λ f key none. images-were whose t f key s.before spared (subst (λ (x : List BeforeImage). has_image t f key x ≡ false) before none))
      (λ f key locked. ap (λ (y : ℕ → List (List ℕ)). record_at (sys.key_length f) (y f) key) (sym files))
