-- The machine follows where an entry reads as nothing and puts no answer.
use Rattle.std.proofs.Common.{◌≡◌, ◌≢◌, ◌⊎◌, inl, inr, ⊎_elim, ℕ, ◌<◌, ◌≤◌, Bool, true, false, not, ◌&&◌, [], length, Option, Some, None, if◌then◌else◌, refl, ap, sym, subst, arith, ◌∙◌}
use Rattle.std.proofs.lemmas.Bool.{and_left, cases_Bool, cases_eq, cond-false, cond-true}
use Rattle.pw_code.specs.declared.file.FileOp.{FileOp}
use Rattle.pw_code.specs.declared.lock.LockMode.{LockMode}
use Rattle.pw_event.specs.declared.event.Event.{Event}
use Rattle.pw_event.specs.declared.event.Event.TheVariants as event
use Rattle.pw_laws.proofs.terms.KeepsPairs.{not-of-pair, of-pair}
use Rattle.pw_laws.proofs.terms.TermOk.{HasMessages}
use Rattle.pw_onecopy.proofs.Update.{upd_elim, upd-same}
use Rattle.pw_onecopy.specs.IsBehaviour.{IsBehaviour}
use Rattle.pw_paired.specs.Failure.{lose_backup, do_fail_tcp, lose_primary, lose_pair, is_live_of, is_of_pair, resume_terminal}
use Rattle.pw_paired.specs.Raising.{lacks_one, with_message, settle_mode}
use Rattle.pw_paired.specs.Serial.{Reading, is_gone, left_blocks}
use Rattle.pw_paired.specs.Server.{do_file, do_operation}
use Rattle.pw_onecopy.specs.Update.{upd}
use Rattle.pw_paired.specs.State.{Alone, Down, Gone, LastEnded, BackupCopy, PairMode, OpenUnit, Paired, Raising, State, Term}
use Rattle.pw_paired.specs.Step.{Fits, effect}
use Rattle.pw_onecopy.specs.Behaviour.{Behaviour}
use Rattle.pw_paired.specs.Terminal.{path_of}
use Rattle.pw_paired.specs.Units.{attempt_of, committed_files}
use Rattle.pw_laws.proofs.blocks.Fold.{Fold, fold_on}
use Rattle.pw_laws.proofs.blocks.Following.{FollowsAll}
use Rattle.pw_laws.proofs.blocks.Known.{Known}
use Rattle.pw_laws.proofs.blocks.Others.{quiet-follows, still-follows}
use Rattle.pw_laws.proofs.frontier.Frontier.{FrontierOk}
use Rattle.pw_laws.proofs.frontier.Leads.{leads-short}
use Rattle.pw_laws.proofs.frontier.Standing.{raised-there}
use Rattle.pw_laws.proofs.induction.Failed.{fail-cases, process-cases}
use Rattle.pw_laws.proofs.induction.Served.{file-is}
use Rattle.pw_laws.proofs.induction.Views.{view_of}
use Rattle.pw_laws.specs.locking.Records.{commits_at}
use Rattle.pw_laws.specs.runs.Losses.{Breaks}

-- a mode that is put in place of one that was not Gone
pub put-there : (modes : ℕ → PairMode) (p q : ℕ) (mode : PairMode) → modes p ≢ Gone → upd modes p mode q ≢ Gone → modes q ≢ Gone
put-there modes p q mode there =
    upd_elim modes p mode q (λ (m : PairMode). m ≢ Gone → modes q ≢ Gone) (λ same _ lose_pair. there (ap modes (sym same) ∙ lose_pair)) (λ _ stays. stays)

-- a pair that is not lost was not lost before it settled
pub settled-there : (sys : Behaviour) (s : State) (p q : ℕ) → (settle_mode sys p s).modes q ≢ Gone → s.modes q ≢ Gone
settled-there sys s p q =
    upd_elim s.modes p _ q (λ (m : PairMode). m ≢ Gone → s.modes q ≢ Gone)
    (λ same there. subst (λ (x : ℕ). s.modes x ≢ Gone) (sym same) (raised-there (s.modes p) (lacks_one sys p s) there)) (λ _ stays. stays)

-- what the failure of a member of a pair leaves
pub data Outcome (sys : Behaviour) (s : State) (p : ℕ) (x : State) : Type 0 where
  nothing : x ≡ s → Outcome sys s p x
  is_down : s.modes p ≡ Paired → x ≡ lose_primary sys p s → Outcome sys s p x
  is_lost : (primary : Bool) → Breaks primary (s.modes p) → x ≡ lose_pair sys p s → Outcome sys s p x
  is_alone : HasMessages (s.modes p) → x ≡ lose_backup sys p s → Outcome sys s p x

-- each failure of a member has one
pub outcome : (sys : Behaviour) (s : State) (p : ℕ) (primary : Bool) → Outcome sys s p (do_fail_tcp sys p primary s)
outcome sys s p primary =
    fail-cases sys s (Outcome sys s p) p (nothing refl) (λ paired. is_down paired refl) (λ which breaks. is_lost which breaks refl) (λ has. is_alone has refl) primary

-- a pair that is not made Gone leaves no blocks
none-left : (sys : Behaviour) (s : State) (reading : Reading) (p : ℕ) (mode : PairMode) → (is_gone mode ≡ false) ⊎ (mode ≡ s.modes p)
    → (if is_gone mode && not (is_gone (s.modes p)) then left_blocks s reading (is_of_pair sys p) sys.terminals else []) ≡ []
none-left sys s reading p mode (inl there) =
    cond-false (is_gone mode && not (is_gone (s.modes p))) (left_blocks s reading (is_of_pair sys p) sys.terminals) [] (and_left (is_gone mode) (not (is_gone (s.modes p))) there)
none-left sys s reading p mode (inr same) =
    cond-false (is_gone mode && not (is_gone (s.modes p))) (left_blocks s reading (is_of_pair sys p) sys.terminals) []
    (ap (λ (m : PairMode). is_gone m && not (is_gone (s.modes p))) same ∙ no (is_gone (s.modes p)))
  where
    no : (x : Bool) → (x && not x) ≡ false
    no true = refl
    no false = refl

module _ (sys : Behaviour) (b : IsBehaviour sys) (s : State) (f : Fold) (known : Known sys b s f) (all : FollowsAll sys s f)
    (stay : (entry : Event) → commits_at s entry ≡ false → Fits sys s entry → committed_files sys (effect sys s entry) ≡ committed_files sys s) where
  -- the machine follows a CHECK START
  pub follows-check-start : (t : ℕ) → Fits sys s (event.CheckStart t) → FollowsAll sys (effect sys s (event.CheckStart t)) (fold_on sys s (event.CheckStart t) f)
  follows-check-start t l = still-follows sys b s f (event.CheckStart t) known refl refl refl (stay (event.CheckStart t) refl l) (λ o. refl) (λ o. refl) (λ o there. there) refl all

  -- the machine follows a CHECK END
  pub follows-check-end : (t : ℕ) → Fits sys s (event.CheckEnd t) → FollowsAll sys (effect sys s (event.CheckEnd t)) (fold_on sys s (event.CheckEnd t) f)
  follows-check-end t l = still-follows sys b s f (event.CheckEnd t) known refl refl refl (stay (event.CheckEnd t) refl l) (λ o. refl) (λ o. refl) (λ o there. there) refl all

  -- the machine follows a CHECK COPY
  pub follows-check-copy : (t : ℕ) → Fits sys s (event.CheckCopy t) → FollowsAll sys (effect sys s (event.CheckCopy t)) (fold_on sys s (event.CheckCopy t) f)
  follows-check-copy t l = still-follows sys b s f (event.CheckCopy t) known refl refl refl (stay (event.CheckCopy t) refl l) (λ o. refl) (λ o. refl) (λ o there. there) refl all

  -- the machine follows an APPLIED
  pub follows-applied : (t : ℕ) → Fits sys s (event.Applied t) → FollowsAll sys (effect sys s (event.Applied t)) (fold_on sys s (event.Applied t) f)
  follows-applied t l =
      still-follows sys b s f (event.Applied t) known refl refl refl (stay (event.Applied t) refl l) (λ o. refl) (λ o. refl)
      (λ o. settled-there sys (record s { memory = upd s.memory t (with_message (s.flight t) (s.memory t)); flight = upd s.flight t None }) (sys.pair_of t) (sys.pair_of o)) refl all

  -- the machine follows a SEND
  pub follows-send : (t n c : ℕ) → Fits sys s (event.Send t n c) → FollowsAll sys (effect sys s (event.Send t n c)) (fold_on sys s (event.Send t n c) f)
  follows-send t n c l = still-follows sys b s f (event.Send t n c) known refl refl refl (stay (event.Send t n c) refl l) (λ o. refl) (λ o. refl) (λ o there. there) refl all

  -- the machine follows a TAKE
  pub follows-take : (c i t : ℕ) → Fits sys s (event.Take c i t) → FollowsAll sys (effect sys s (event.Take c i t)) (fold_on sys s (event.Take c i t) f)
  follows-take c i t l = still-follows sys b s f (event.Take c i t) known refl refl refl (stay (event.Take c i t) refl l) (λ o. refl) (λ o. refl) (λ o there. there) refl all

  -- the machine follows a FILE
  pub follows-file : (c i : ℕ) (op : FileOp) (mode : LockMode) (file status : ℕ) → Fits sys s (event.File c i op mode file status)
      → FollowsAll sys (effect sys s (event.File c i op mode file status)) (fold_on sys s (event.File c i op mode file status) f)
  follows-file c i op mode file status l =
      let is : do_file sys c i s ≡ do_operation sys c i l.job l.call s = file-is sys s c i op mode file status l in
      still-follows sys b s f (event.File c i op mode file status) known refl refl refl (stay (event.File c i op mode file status) refl l)
      (λ o. ap (λ (x : State). (x.terms o).ending) is) (λ o. ap (λ (x : State). path_of x o) is)
      (λ o. subst (λ (x : State). x.modes (sys.pair_of o) ≢ Gone → s.modes (sys.pair_of o) ≢ Gone) (sym is) (λ there. there)) (ap (λ (x : State). x.units) is) all

  -- what a process that fails leaves
  record Kept (x : State) : Type 0 where
    ending : (o : ℕ) → (x.terms o).ending ≡ (s.terms o).ending
    path : (o : ℕ) → path_of x o ≡ path_of s o
    modes : x.modes ≡ s.modes
    units : x.units ≡ s.units

  -- the machine follows a FAIL SERVER
  pub follows-fail-server : (c i k : ℕ) → Fits sys s (event.FailServer c i k) → FollowsAll sys (effect sys s (event.FailServer c i k)) (fold_on sys s (event.FailServer c i k) f)
  follows-fail-server c i k l =
      let left = process-cases sys s Kept c i k (record { ending = λ o. refl; path = λ o. refl; modes = refl; units = refl })
      (λ job works. record {
        ending = λ o. upd_elim s.terms job.request.terminal _ o (λ (x : Term). x.ending ≡ (s.terms o).ending) (λ same. ap (λ (y : ℕ). (s.terms y).ending) (sym same)) (λ _. refl);
        path = λ o. upd_elim s.terms job.request.terminal _ o (λ (x : Term). x.path ≡ path_of s o) (λ same. ap (λ (y : ℕ). path_of s y) (sym same)) (λ _. refl);
        modes = refl;
        units = refl;
      }) in
      still-follows sys b s f (event.FailServer c i k) known refl refl refl (stay (event.FailServer c i k) refl l) left.ending left.path
      (λ o. subst (λ (m : ℕ → PairMode). m (sys.pair_of o) ≢ Gone → s.modes (sys.pair_of o) ≢ Gone) (sym left.modes) (λ there. there)) left.units all

  -- the machine follows a RAISE
  pub follows-raise : (p : ℕ) → Fits sys s (event.Raise p) → FollowsAll sys (effect sys s (event.Raise p)) (fold_on sys s (event.Raise p) f)
  follows-raise p l =
      still-follows sys b s f (event.Raise p) known refl refl refl (stay (event.Raise p) refl l) (λ o. refl) (λ o. refl)
      (λ o. put-there s.modes p (sys.pair_of o) Raising (λ lose_pair. absurd (let alone_is = l.alone in cc (alone_is, lose_pair)))) refl all

  -- TAKEOVER: each path leads to its frontier
  pub follows-takeover : (p : ℕ) → Fits sys s (event.Takeover p) → FollowsAll sys (effect sys s (event.Takeover p)) (fold_on sys s (event.Takeover p) f)
  follows-takeover p l =
      quiet-follows sys b s f (event.Takeover p) refl refl refl (stay (event.Takeover p) refl l) ending
      (λ o. put-there s.modes p (sys.pair_of o) Alone (λ lose_pair. absurd (let is = l.down in cc (is, lose_pair)))) refl short all
    where
      after : State
      after = effect sys s (event.Takeover p)

      resumed-ending : (m : Option BackupCopy) (u : Option OpenUnit) (last : LastEnded) (x : Term) → (resume_terminal p m u last x).ending ≡ x.ending
      resumed-ending None u last x = refl
      resumed-ending (Some m) u last x = refl

      ending : (t : ℕ) → (after.terms t).ending ≡ (s.terms t).ending
      ending t =
          ⊎_elim
          (λ live. ap (λ (x : Term). x.ending) (cond-true (is_live_of sys p s t) _ (s.terms t) live) ∙ resumed-ending (s.memory t) (s.units t) (s.ended t) (s.terms t))
          (λ other. ap (λ (x : Term). x.ending) (cond-false (is_live_of sys p s t) _ (s.terms t) other))
          (cases_Bool (is_live_of sys p s t))

      short : (t : ℕ) → t < sys.terminals → (after.terms t).ending ≡ None → after.modes (sys.pair_of t) ≢ Gone → attempt_of (s.units t) ≡ None → length (path_of after t) ≤ length (f.frontier t)
      short t is_known live here idle =
          let going : (s.terms t).ending ≡ None = sym (ending t) ∙ live in
          let there = put-there s.modes p (sys.pair_of t) Alone (λ lose_pair. absurd (let is = l.down in cc (is, lose_pair))) here in
          let ok = known.frontiers t is_known going there in
          ⊎_elim
          (λ live_of.
          by ok idle (s.memory t) refl (cond-true (is_live_of sys p s t) (resume_terminal p (s.memory t) (s.units t) (s.ended t) (s.terms t)) (s.terms t) live_of))
          (λ other. subst (λ (x : Term). length x.path ≤ length (f.frontier t)) (sym (cond-false (is_live_of sys p s t) _ (s.terms t) other)) (ok.short idle))
          (cases_Bool (is_live_of sys p s t))
        where
          by : FrontierOk sys t (view_of sys s t) (f.frontier t) → attempt_of (s.units t) ≡ None → (m : Option BackupCopy) → s.memory t ≡ m
              → after.terms t ≡ resume_terminal p (s.memory t) (s.units t) (s.ended t) (s.terms t) → length (path_of after t) ≤ length (f.frontier t)
          by ok idle None is_m is =
              subst (λ (x : Term). length x.path ≤ length (f.frontier t)) (sym (is ∙ ap (λ (m : Option BackupCopy). resume_terminal p m (s.units t) (s.ended t) (s.terms t)) is_m)) (ok.short idle)
          by ok idle (Some m) is_m is =
              subst (λ (x : Term). length x.path ≤ length (f.frontier t)) (sym (is ∙ ap (λ (m : Option BackupCopy). resume_terminal p m (s.units t) (s.ended t) (s.terms t)) is_m))
              (leads-short (ok.held m is_m).resumes)

  -- a member of a pair fails, and the pair is not lost
  pub follows-kept-pair : (p : ℕ) (primary : Bool) (k : ℕ) → Fits sys s (event.FailTcp p primary k) → Outcome sys s p (do_fail_tcp sys p primary s)
      → ((is_primary : Bool) → Breaks is_primary (s.modes p) → do_fail_tcp sys p primary s ≡ lose_pair sys p s
      → FollowsAll sys (effect sys s (event.FailTcp p primary k)) (fold_on sys s (event.FailTcp p primary k) f))
      → FollowsAll sys (effect sys s (event.FailTcp p primary k)) (fold_on sys s (event.FailTcp p primary k) f)
  follows-kept-pair p primary k l (nothing is) lost =
      still-follows sys b s f (event.FailTcp p primary k) known (none-left sys s f.reading p _ (inr (ap (λ (x : State). x.modes p) is))) refl refl
      (stay (event.FailTcp p primary k) refl l) (λ o. ap (λ (x : State). (x.terms o).ending) is) (λ o. ap (λ (x : State). path_of x o) is)
      (λ o. subst (λ (x : State). x.modes (sys.pair_of o) ≢ Gone → s.modes (sys.pair_of o) ≢ Gone) (sym is) (λ there. there)) (ap (λ (x : State). x.units) is) all
  follows-kept-pair p primary k l (is_lost which breaks is) lost = lost which breaks is
  follows-kept-pair p primary k l (is_alone has is) lost =
      still-follows sys b s f (event.FailTcp p primary k) known
      (none-left sys s f.reading p _ (inl (ap (λ (x : State). is_gone (x.modes p)) is ∙ ap is_gone (upd-same s.modes p Alone p refl)))) refl refl
      (stay (event.FailTcp p primary k) refl l) (λ o. ap (λ (x : State). (x.terms o).ending) is) (λ o. ap (λ (x : State). path_of x o) is)
      (λ o. subst (λ (x : State). x.modes (sys.pair_of o) ≢ Gone → s.modes (sys.pair_of o) ≢ Gone) (sym is)
      (put-there s.modes p (sys.pair_of o) Alone (λ lose_pair. subst HasMessages lose_pair has))) (ap (λ (x : State). x.units) is) all
  follows-kept-pair p primary k l (is_down paired is) lost =
      quiet-follows sys b s f (event.FailTcp p primary k)
      (none-left sys s f.reading p _ (inl (ap (λ (x : State). is_gone (x.modes p)) is ∙ ap is_gone (upd-same s.modes p Down p refl)))) refl refl
      (stay (event.FailTcp p primary k) refl l)
      (λ o. ap (λ (x : State). (x.terms o).ending) is ∙ ending o)
      there (ap (λ (x : State). x.units) is)
      (λ t is_known live here idle.
      subst (λ (x : State). length (path_of x t) ≤ length (f.frontier t)) (sym is)
      (short t (known.frontiers t is_known (sym (ap (λ (x : State). (x.terms t).ending) is ∙ ending t) ∙ live) (there t here)).short
      (ap (λ (x : State). attempt_of (x.units t)) (sym is) ∙ idle)))
      all
    where
      ending : (o : ℕ) → ((lose_primary sys p s).terms o).ending ≡ (s.terms o).ending
      ending o =
          ⊎_elim (λ of. ap (λ (x : Term). x.ending) (of-pair sys p o _ (s.terms o) of)) (λ differ. ap (λ (x : Term). x.ending) (not-of-pair sys p o _ (s.terms o) differ)) (cases_eq (sys.pair_of o) p)

      there : (o : ℕ) → (effect sys s (event.FailTcp p primary k)).modes (sys.pair_of o) ≢ Gone → s.modes (sys.pair_of o) ≢ Gone
      there o =
          subst (λ (x : State). x.modes (sys.pair_of o) ≢ Gone → s.modes (sys.pair_of o) ≢ Gone) (sym is)
          (put-there s.modes p (sys.pair_of o) Down (λ lose_pair. absurd (cc (paired, lose_pair))))

      short : (t : ℕ) → (attempt_of (s.units t) ≡ None → length (path_of s t) ≤ length (f.frontier t)) → attempt_of (s.units t) ≡ None → length (path_of (lose_primary sys p s) t) ≤ length (f.frontier t)
      short t was idle =
          ⊎_elim
          (λ of. subst (λ (x : Term). length x.path ≤ length (f.frontier t)) (sym (of-pair sys p t _ (s.terms t) of)) (let none : 0 ≤ length (f.frontier t) = omega arith in none))
          (λ differ. subst (λ (x : Term). length x.path ≤ length (f.frontier t)) (sym (not-of-pair sys p t _ (s.terms t) differ)) (was idle))
          (cases_eq (sys.pair_of t) p)
