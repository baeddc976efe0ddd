-- The operations of an attempt by itself: what holds of each of them on one set of files holds on another one that has the same records
-- at the keys that they lock.
use Rattle.std.proofs.Common.{◌≡◌, ℕ, zero, suc, ◌<◌, ◌≤◌, ◌⊎◌, inl, inr, ⊎_elim, List, [], ◌∷◌, ◌++◌, ap, sym, subst, ◌∙◌, arith}
use Rattle.std.proofs.lemmas.Bool.{cases_eq}
use Rattle.pw_laws.proofs.AttemptFiles.{AgreeOnAttempt, attempt-fine, attempts-same}
use Rattle.pw_code.specs.declared.file.FileCall.{FileCall}
use Rattle.pw_code.specs.declared.verb.Verb.TheVariants as verb
use Rattle.pw_laws.proofs.seeing.Plays.{ChangesAt, ServerWrites-behaviour, same_play_span, same_play_changes, same_verb}
use Rattle.pw_laws.specs.locking.Seen.{AgreeOnRun, AreFiles, CallCovers, HaveSameAt, files_at, verb_at}
use Rattle.pw_locks.specs.Spans.{Covers}
use Rattle.pw_locks.specs.declared.lock.Lock.{Lock}
use Rattle.pw_onecopy.specs.Attempt.{IsAttempt, attempt}
use Rattle.pw_onecopy.specs.Behaviour.{Behaviour}
use Rattle.pw_onecopy.specs.IsBehaviour.{IsBehaviour, IsPath}
use Rattle.pw_onecopy.specs.Operation.{changes_records, span_of}
use Rattle.pw_onecopy.specs.Path.{PathAnswer}

-- the lock is of the terminal and covers the key
abbrev pub IsOwnLock : ℕ → ℕ → List ℕ → Lock → Type 0
IsOwnLock t file key lock = (lock.unit.terminal ≡ t) × (lock.file ≡ file) × Covers lock.span key

-- a lock of the terminal covers the key of the file
abbrev pub IsLocked : ℕ → ℕ → List ℕ → List Lock → Type 0
IsLocked t file key [] = ⊥
IsLocked t file key (lock ∷ locks) = IsOwnLock t file key lock ⊎ IsLocked t file key locks

-- the same behind one more lock
pub locked-before : (t file : ℕ) (key : List ℕ) (locks more : List Lock) → IsLocked t file key locks → IsLocked t file key (locks ++ more)
locked-before t file key [] more locked = absurd locked
locked-before t file key (lock ∷ locks) more (inl own) = inl own
locked-before t file key (lock ∷ locks) more (inr locked) = inr (locked-before t file key locks more locked)

-- the last lock covers the key
pub locked-last : (t file : ℕ) (key : List ℕ) (locks : List Lock) (lock : Lock) → IsOwnLock t file key lock → IsLocked t file key (locks ++ lock ∷ [])
locked-last t file key [] lock own = inl own
locked-last t file key (held ∷ locks) lock own = inr (locked-last t file key locks lock own)

-- a key under a lock is under the last one or was before
pub locked-cases : (t file : ℕ) (key : List ℕ) (locks : List Lock) (lock : Lock) → IsLocked t file key (locks ++ lock ∷ [])
    → IsOwnLock t file key lock ⊎ IsLocked t file key locks
locked-cases t file key [] lock locked = locked
locked-cases t file key (held ∷ locks) lock (inl own) = inr (inl own)
locked-cases t file key (held ∷ locks) lock (inr more) = ⊎_elim (λ own. inl own) (λ locked. inr (inr locked)) (locked-cases t file key locks lock more)

module _ (sys : Behaviour) where
  -- an operation is the same on two sets of files: it locks and changes the same
  pub record SameOp (x y : ℕ → List (List ℕ)) (call : FileCall) : Type 0 where
    pub span : span_of (sys.key_length call.file) (x call.file) call.op call ≡ span_of (sys.key_length call.file) (y call.file) call.op call
    pub changes_are : changes_records (sys.key_length call.file) (x call.file) call ≡ changes_records (sys.key_length call.file) (y call.file) call

  -- what is said of an operation on files may pass to the same one on others
  abbrev pub Passes : ((ℕ → List (List ℕ)) → FileCall → Type 0) → Type 0
  Passes Q = (x y : ℕ → List (List ℕ)) (call : FileCall) → SameOp x y call → Q x call → Q y call

  -- each of the first n operations of a server's run
  abbrev pub EachOfRun : ℕ → List ℕ → (ℕ → List (List ℕ)) → ℕ → ((ℕ → List (List ℕ)) → FileCall → Type 0) → Type 0
  EachOfRun c message files n Q = (k : ℕ) → k < n → (call : FileCall) → verb_at sys c message files k ≡ verb.File call → Q (files_at sys c message files k) call

  -- its lock is the terminal's
  abbrev pub LocksAre : ℕ → List Lock → (ℕ → List (List ℕ)) → FileCall → Type 0
  LocksAre t locks files call = (key : List ℕ) → CallCovers sys files call key → IsLocked t call.file key locks

  -- locks that cover one run cover the same run on other files
  pub locks-pass : (t : ℕ) (locks : List Lock) → Passes (LocksAre t locks)
  locks-pass t locks x y call same q key covers = q key (subst (λ s. Covers s key) (sym same.span) covers)

  -- it does not change this key
  abbrev pub Spares : ℕ → List ℕ → (ℕ → List (List ℕ)) → FileCall → Type 0
  Spares f key files call = call.file ≡ f → ¬ ChangesAt sys files call key

  -- a key that one run spares the other spares too
  pub spares-pass : (f : ℕ) (key : List ℕ) → Passes (Spares f key)
  spares-pass f key x y call same q is at = q is (record { changed = same.changes_are ∙ at.changed; own = at.own })

  module _ (b : IsBehaviour sys) (c : ℕ) (message : List ℕ) (known : c < sys.classes) (x y : ℕ → List (List ℕ)) (files : AreFiles sys x) (others : AreFiles sys y) where
    -- operation n of both runs is the same
    pub op-same : (n : ℕ) → AgreeOnRun sys c message x y (suc n) → (call : FileCall) → verb_at sys c message x n ≡ verb.File call
        → SameOp (files_at sys c message x n) (files_at sys c message y n) call
    op-same n agree call asks = record {
      span = same_play_span sys c message (ServerWrites-behaviour sys b c message known) x y files others n agree call asks;
      changes_are = same_play_changes sys c message (ServerWrites-behaviour sys b c message known) x y files others n agree call asks;
    }

    -- a run on other files that agree on its locks
    pub run-passes : (Q : (ℕ → List (List ℕ)) → FileCall → Type 0) → Passes Q → (n : ℕ) → AgreeOnRun sys c message x y n
        → EachOfRun c message x n Q → EachOfRun c message y n Q
    run-passes Q passes n agree each k below call asks =
        let upto : AgreeOnRun sys c message x y (suc k) = λ i less. agree i (omega (arith, less, below)) in
        let verbs = same_verb sys c message (ServerWrites-behaviour sys b c message known) x y files others k (λ i less. agree i (omega (arith, less, below))) in
        let asks_x : verb_at sys c message x k ≡ verb.File call = verbs ∙ asks in
        passes (files_at sys c message x k) (files_at sys c message y k) call (op-same k upto call asks_x) (each k below call asks_x)

module _ (sys : Behaviour) (b : IsBehaviour sys) (t : ℕ) (q : List PathAnswer) (r : ℕ) (start : IsPath sys t q) where
  -- each operation of the attempt's first j answers
  abbrev pub EachOp : (ℕ → List (List ℕ)) → ℕ → ((ℕ → List (List ℕ)) → FileCall → Type 0) → Type 0
  EachOp x j Q = (i : ℕ) → i < j → (c : ℕ) (message : List ℕ) → sys.ask t (attempt sys t q x r i).path ≡ verb.Send c message
      → (n : ℕ) → EachOfRun sys c message (attempt sys t q x r i).files n Q

  -- an attempt of fewer answers
  is-attempt-below : (x : ℕ → List (List ℕ)) (j i : ℕ) → i ≤ j → IsAttempt sys t q x r j → IsAttempt sys t q x r i
  is-attempt-below x zero i le is = subst (λ (n : ℕ). IsAttempt sys t q x r n) (let same : 0 ≡ i = omega (arith, le) in same) is
  is-attempt-below x (suc j) i le is =
      ⊎_elim (λ same. subst (λ (n : ℕ). IsAttempt sys t q x r n) (sym same) is)
      (λ differ. is-attempt-below x j i (omega (arith, le, differ)) is.0) (cases_eq i (suc j))

  -- locks that are the terminal's make the files agree, where they have the same records at its locked keys
  pub agree-by-locks : (x y : ℕ → List (List ℕ)) (j : ℕ) (locks : List Lock) → EachOp x j (LocksAre sys t locks)
      → ((f : ℕ) (key : List ℕ) → IsLocked t f key locks → HaveSameAt sys x y f key) → AgreeOnAttempt sys b t q r start x y j
  agree-by-locks x y j locks each same i below c message asks k call verb_is key covers =
      same call.file key (each i below c message asks (suc k) k (omega arith) call verb_is key covers)

  -- each operation of an attempt on such files
  pub each-passes : (Q : (ℕ → List (List ℕ)) → FileCall → Type 0) → Passes sys Q → (x y : ℕ → List (List ℕ)) → AreFiles sys x → AreFiles sys y
      → (j : ℕ) → IsAttempt sys t q x r j → AgreeOnAttempt sys b t q r start x y j → EachOp x j Q → EachOp y j Q
  each-passes Q passes x y are others j is agree each i below c message asks n =
      let is_i = is-attempt-below x j i (omega (arith, below)) is in
      let agree_i : AgreeOnAttempt sys b t q r start x y i = λ k less. agree k (omega (arith, less, below)) in
      let both = attempts-same sys b t q r start x y are others i is_i agree_i in
      let fine = attempt-fine sys b t q r start x are i is_i in
      let fine' = attempt-fine sys b t q r start y others i both.0 in
      let asks_x : sys.ask t (attempt sys t q x r i).path ≡ verb.Send c message = ap (sys.ask t) both.1.path ∙ asks in
      run-passes sys b c message (b.sends t c message (attempt sys t q x r i).path fine.is_path asks_x)
      (attempt sys t q x r i).files (attempt sys t q y r i).files fine.are_files fine'.are_files Q passes n
      (λ k less call file key covers. both.1.stays call.file key (agree i below c message asks_x k call file key covers))
      (each i below c message asks_x n)
