-- What each entry does to files, before-images and locks.
use Rattle.std.proofs.Common.{◌≡◌, ℕ, Bool, true, false, not, List, [], filter, Option, Some, None, refl, ap, ap₂, sym, subst, ◌∙◌}
use Rattle.std.proofs.lemmas.Bool.{true≢false}
use Rattle.pw_code.specs.declared.file.FileCall.{FileCall}
use Rattle.pw_code.specs.declared.verb.Verb.TheVariants as verb
use Rattle.pw_event.specs.declared.event.Event.{Event}
use Rattle.pw_event.specs.declared.event.Event.TheVariants.{Show, Key, CheckStart, CheckEnd, CheckCopy, Applied, Begin, Send, Take, File, Reply, Again, Commit, Back, Restart, FailTcp, FailServer, Takeover, Raise, End}
use Rattle.pw_files.specs.Records.{record_at}
use Rattle.pw_laws.proofs.records.OperationKept.{operation-ok, operation-committed}
use Rattle.pw_laws.proofs.records.RecordsOk.{RecordsOk}
use Rattle.pw_laws.proofs.records.Withdrawn.{backed-out-ok, backed-out-committed, ended-ok}
use Rattle.pw_laws.specs.locking.Records.{commits_at}
use Rattle.pw_locks.specs.Conflicts.{holders}
use Rattle.pw_locks.specs.declared.lock.Lock.{Lock}
use Rattle.pw_onecopy.specs.Behaviour.{Behaviour}
use Rattle.pw_onecopy.specs.IsBehaviour.{IsBehaviour}
use Rattle.pw_onecopy.specs.Path.{Replied, Failed, is_outside, unit_number}
use Rattle.pw_paired.specs.End.{end_terminal}
use Rattle.pw_paired.specs.Failure.{lose_backup, lose_primary, lose_pair, is_of_pair, process_fails}
use Rattle.pw_paired.specs.Raising.{settle_mode}
use Rattle.pw_paired.specs.Server.{do_operation, free_process, lock_of_job, server_verb}
use Rattle.pw_paired.specs.State.{BeforeImage, Job, State}
use Rattle.pw_paired.specs.Step.{Fits, effect}
use Rattle.pw_paired.specs.Terminal.{path_of}
use Rattle.pw_paired.specs.Units.{commit_unit, committed_files, give_answer, leave_units, only, restored_files, unit_of}
use Rattle.pw_laws.proofs.induction.Failed.{end-any, fail-cases, process-cases}
use Rattle.pw_laws.proofs.induction.Served.{file-is, reply-any}
use Rattle.pw_laws.proofs.kept.Kept.{Inv}

-- files, images and locks are in order, and unless a unit commits the committed records stay
pub record Stays (sys : Behaviour) (s after : State) (commits : Bool) : Type 0 where
  pub ok : RecordsOk sys after.files after.before after.locks
  pub same : commits ≡ false → (f : ℕ) (key : List ℕ) → record_at (sys.key_length f) (committed_files sys after f) key ≡ record_at (sys.key_length f) (committed_files sys s f) key

module _ (sys : Behaviour) (b : IsBehaviour sys) (s : State) (i : Inv sys s) (ok : RecordsOk sys s.files s.before s.locks) where
  -- nothing changes
  nothing : (after : State) (commits : Bool) → after.files ≡ s.files → after.before ≡ s.before → after.locks ≡ s.locks → Stays sys s after commits
  nothing after commits files before locks = record {
    ok = subst (λ (x : ℕ → List (List ℕ)). RecordsOk sys x after.before after.locks) (sym files)
        (subst (λ (x : List BeforeImage). RecordsOk sys s.files x after.locks) (sym before) (subst (λ (x : List Lock). RecordsOk sys s.files s.before x) (sym locks) ok));
    same = λ _ f key. ap₂ (λ (x : List BeforeImage) (y : ℕ → List (List ℕ)). record_at (sys.key_length f) (restored_files sys.key_length x y f) key) before files;
  }

  -- units of some terminals are backed out
  withdrawn : (whose : ℕ → Bool) (after : State) (commits : Bool)
      → after.files ≡ restored_files sys.key_length (filter (λ image. whose image.terminal) s.before) s.files
      → after.before ≡ filter (λ image. not (whose image.terminal)) s.before → after.locks ≡ filter (λ lock. not (whose lock.unit.terminal)) s.locks
      → Stays sys s after commits
  withdrawn whose after commits files before locks = record {
    ok = subst (λ (x : ℕ → List (List ℕ)). RecordsOk sys x after.before after.locks) (sym files)
        (subst (λ (x : List BeforeImage). RecordsOk sys (restored_files sys.key_length (filter (λ image. whose image.terminal) s.before) s.files) x after.locks) (sym before)
        (subst (λ (x : List Lock). RecordsOk sys (restored_files sys.key_length (filter (λ image. whose image.terminal) s.before) s.files) (filter (λ image. not (whose image.terminal)) s.before) x) (sym locks)
        (backed-out-ok sys s.files s.before s.locks ok whose)));
    same = λ _ f key.
        ap₂ (λ (x : List BeforeImage) (y : ℕ → List (List ℕ)). record_at (sys.key_length f) (restored_files sys.key_length x y f) key) before files
        ∙ backed-out-committed sys s.files s.before s.locks ok whose f key;
  }

  -- a unit commits
  commits-stays : (t n : ℕ) (reply : Option (List ℕ)) (before after : State) → before.files ≡ s.files → before.before ≡ s.before → before.locks ≡ s.locks
      → after.files ≡ before.files → after.before ≡ filter (λ image. not (only t image.terminal)) before.before → after.locks ≡ filter (λ lock. not (only t lock.unit.terminal)) before.locks
      → Stays sys s after true
  commits-stays t n reply before after files images locks files_after images_after locks_after = record {
    ok = subst (λ (x : ℕ → List (List ℕ)). RecordsOk sys x after.before after.locks) (sym (files_after ∙ files))
        (subst (λ (x : List BeforeImage). RecordsOk sys s.files x after.locks) (sym (images_after ∙ ap (λ (x : List BeforeImage). filter (λ image. not (only t image.terminal)) x) images))
        (subst (λ (x : List Lock). RecordsOk sys s.files (filter (λ image. not (only t image.terminal)) s.before) x) (sym (locks_after ∙ ap (λ (x : List Lock). filter (λ lock. not (only t lock.unit.terminal)) x) locks))
        (ended-ok sys s.files s.before s.locks ok (only t))));
    same = λ none. absurd (true≢false none);
  }

  -- an operation whose lock conflicts with none
  pub operation-stays : (c p : ℕ) (job : Job) → (s.classes c).busy p ≡ Some job → (call : FileCall) → server_verb sys c job ≡ verb.File call
      → holders (lock_of_job sys s job call) s.locks ≡ [] → Stays sys s (do_operation sys c p job call s) false
  operation-stays c p job works call asks free =
      let fits = b.writes c job.request.message job.done call (i.requests.bounds.work c p job works).there asks in
      record {
        ok = operation-ok sys s.files s.before s.locks ok (unit_of s job.request) call fits free;
        same = λ _. operation-committed sys s.files s.before s.locks ok (unit_of s job.request) call fits free;
      }

  -- a reply of a unit that is one SEND
  pub send-stays : (c p t n : ℕ) (reply : List ℕ) → Stays sys s (commit_unit t n (Some reply) (free_process c p s)) true
  send-stays c p t n reply =
      commits-stays t n (Some reply) (free_process c p s) (commit_unit t n (Some reply) (free_process c p s)) refl refl refl refl refl refl

  -- the log says nothing of it
  logged : {commits : Bool} (log : List Event) (x : State) → Stays sys s x commits → Stays sys s (record x { log = log }) commits
  logged log x st = record { ok = st.ok; same = st.same }

  -- each entry
  pub stays : (entry : Event) → Fits sys s entry → Stays sys s (effect sys s entry) (commits_at s entry)
  stays (Show t phase attempt k) l = nothing (effect sys s (Show t phase attempt k)) false refl refl refl
  stays (Key t k) l = nothing (effect sys s (Key t k)) false refl refl refl
  stays (CheckStart t) l = nothing (effect sys s (CheckStart t)) false refl refl refl
  stays (CheckEnd t) l = nothing (effect sys s (CheckEnd t)) false refl refl refl
  stays (CheckCopy t) l = nothing (effect sys s (CheckCopy t)) false refl refl refl
  stays (Applied t) l = nothing (effect sys s (Applied t)) false refl refl refl
  stays (Begin t n r) l = nothing (effect sys s (Begin t n r)) false refl refl refl
  stays (Send t n c) l = nothing (effect sys s (Send t n c)) false refl refl refl
  stays (Take c p t) l = nothing (effect sys s (Take c p t)) false refl refl refl
  stays (File c p op mode f status) l =
      logged _ _ (subst (λ x. Stays sys s x false) (sym (file-is sys s c p op mode f status l)) (operation-stays c p l.job l.at_work l.call l.asks l.free))
  stays (Reply c p t None) l =
      logged _ _ (reply-any sys s c p t (λ x. Stays sys s x (is_outside (path_of s t))) None
      (λ reply outside.
      let st = subst (Stays sys s (commit_unit t (unit_number (path_of s t)) (Some reply) (free_process c p s))) (sym outside) (send-stays c p t (unit_number (path_of s t)) reply) in
      record { ok = st.ok; same = st.same })
      (λ reply inside. nothing (give_answer t (Replied reply) (free_process c p s)) (is_outside (path_of s t)) refl refl refl)
      (λ x. nothing (give_answer t (Failed x) (free_process c p s)) (is_outside (path_of s t)) refl refl refl))
  stays (Reply c p t (Some x)) l = nothing (effect sys s (Reply c p t (Some x))) false refl refl refl
  stays (Again t n) l = nothing (effect sys s (Again t n)) false refl refl refl
  stays (Commit t n) l = commits-stays t n None s (effect sys s (Commit t n)) refl refl refl refl refl refl
  stays (Back t n) l = withdrawn (only t) (effect sys s (Back t n)) false refl refl refl
  stays (Restart t n cause) l = withdrawn (only t) (effect sys s (Restart t n cause)) false refl refl refl
  stays (FailTcp p primary k) l =
      logged _ _ (fail-cases sys s (λ x. Stays sys s x false) p (nothing s false refl refl refl) (λ paired. nothing (lose_primary sys p s) false refl refl refl)
      (λ member breaks. withdrawn (is_of_pair sys p) (lose_pair sys p s) false refl refl refl) (λ has. nothing (lose_backup sys p s) false refl refl refl) primary)
  stays (FailServer c p k) l =
      logged _ _ (process-cases sys s (λ x. Stays sys s x false) c p k (nothing s false refl refl refl)
      (λ job works. nothing (process_fails c p k (Some job) s) false refl refl refl))
  stays (Takeover p) l = nothing (effect sys s (Takeover p)) false refl refl refl
  stays (Raise p) l = nothing (effect sys s (Raise p)) false refl refl refl
  stays (End t e) l =
      logged _ _ (end-any sys s (λ x. Stays sys s x false) t e (nothing (settle_mode sys (sys.pair_of t) (end_terminal t e s)) false refl refl refl)
      (withdrawn (only t) (settle_mode sys (sys.pair_of t) (end_terminal t e (leave_units sys (only t) s))) false refl refl refl))
