-- What an operation sees is what it locks, and what it changes is its own key.
use Rattle.std.proofs.Common.{◌≡◌, ◌≢◌, ℕ, refl, sym, ◌∙◌, ap, subst, true, false, cond, ◌&&◌, ◌==◌, List, take, Option, Some, None}
use Rattle.std.specs.Ordering.{is_eq}
use Rattle.std.proofs.lemmas.Bool.{and_parts}
use Rattle.pw_code.specs.Locks.{mode_of}
use Rattle.pw_code.specs.declared.file.FileCall.{FileCall}
use Rattle.pw_code.specs.declared.file.FileOp.{FileOp}
use Rattle.pw_code.specs.declared.file.FileOp.TheVariants.{Read, Next, Write, Rewrite, Delete, ReadLock, NextLock}
use Rattle.pw_code.specs.declared.lock.LockRule.{LockRule}
use Rattle.pw_code.specs.declared.unit.Unit as unit
use Rattle.pw_files.proofs.Lookups.{record_at-with_record, record_at-with_other, record_at-without_key, record_at-without_other}
use Rattle.pw_files.proofs.RecordLemmas.{IsFile-with_record, IsFile-without_key}
use Rattle.pw_files.specs.Records.{key_cmp, record_at, with_record, without_key, IsContent, IsFile}
use Rattle.pw_laws.proofs.seeing.FoundRecords.{record_at-with, record_at-without}
use Rattle.pw_laws.proofs.seeing.SameFiles.{same_after}
use Rattle.pw_laws.specs.locking.Seen.{AgreeOn}
use Rattle.pw_locks.specs.Conflicts.{lock_of}
use Rattle.pw_locks.specs.Spans.{Covers}
use Rattle.pw_locks.specs.declared.span.Span.TheVariants.{After}
use Rattle.pw_onecopy.specs.IsBehaviour.{is_written}
use Rattle.pw_onecopy.specs.Operation.{key_of, read_answer, answer_of, is_change, changed_records, changes_records, records_behind, found_key, span_of, lock_for}
use Rattle.pw_onecopy.specs.Path.{FileResult}
use Rattle.pw_paired.specs.Units.{put_back}

module _ (n : ℕ) (a b : List (List ℕ)) (file : IsFile n a) (other : IsFile n b) (call : FileCall) where
  abbrev Agree : FileOp → Type 0
  Agree op = (key : List ℕ) → Covers (span_of n a op call) key → record_at n a key ≡ record_at n b key

  answers_same : (op : FileOp) → Agree op → answer_of n a op call ≡ answer_of n b op call
  answers_same Read h = ap (read_answer 11) (h call.key refl)
  answers_same ReadLock h = ap (read_answer 11) (h call.key refl)
  answers_same Next h = ap (read_answer 1) (same_after n a b file other call.key h)
  answers_same NextLock h = ap (read_answer 1) (same_after n a b file other call.key h)
  answers_same Write h = rw (h (take n call.content) refl) refl
  answers_same Rewrite h = rw (h (take n call.content) refl) refl
  answers_same Delete h = rw (h call.key refl) refl

  next_same : Agree Next → span_of n a Next call ≡ span_of n b Next call
  next_same h = ap (λ r. After call.key (found_key n r)) (same_after n a b file other call.key h)

  spans_same : (op : FileOp) → Agree op → span_of n a op call ≡ span_of n b op call
  spans_same Read h = refl
  spans_same ReadLock h = refl
  spans_same Next h = next_same h
  spans_same NextLock h = next_same h
  spans_same Write h = refl
  spans_same Rewrite h = refl
  spans_same Delete h = refl

  -- what an operation is answered is fixed by the records at the keys that it locks
  pub same_answer : AgreeOn n a b call → answer_of n a call.op call ≡ answer_of n b call.op call
  same_answer h = answers_same call.op h

  -- so is what it locks
  pub same_span : AgreeOn n a b call → span_of n a call.op call ≡ span_of n b call.op call
  same_span h = spans_same call.op h

  -- an operation takes the same lock on files that agree on it
  pub same_lock : (rule : LockRule) (of : unit.Unit) → AgreeOn n a b call
      → lock_for rule n a of call ≡ lock_for rule n b of call
  same_lock rule of h = ap (λ span. lock_of of call.file span (mode_of rule call.op)) (same_span h)

  -- and whether it changes a record
  pub same_changes : AgreeOn n a b call → changes_records n a call ≡ changes_records n b call
  same_changes h = ap (λ (answer : FileResult). is_change call.op && answer.status == 0) (same_answer h)

module _ (n : ℕ) (call : FileCall) where
  module _ (a b : List (List ℕ)) (key : List ℕ) (h : record_at n a key ≡ record_at n b key) where
    with_same : record_at n (with_record n a call.content) key ≡ record_at n (with_record n b call.content) key
    with_same =
        record_at-with n a key call.content
        ∙ (ap (cond (is_eq (key_cmp key (take n call.content))) (Some call.content)) h
        ∙ sym (record_at-with n b key call.content))

    without_same : record_at n (without_key n a call.key) key ≡ record_at n (without_key n b call.key) key
    without_same =
        record_at-without n a key call.key
        ∙ (ap (cond (is_eq (key_cmp key call.key)) None) h ∙ sym (record_at-without n b key call.key))

    records_same : (op : FileOp)
        → record_at n (changed_records n a op call) key ≡ record_at n (changed_records n b op call) key
    records_same Read = h
    records_same ReadLock = h
    records_same Next = h
    records_same NextLock = h
    records_same Write = with_same
    records_same Rewrite = with_same
    records_same Delete = without_same

  -- a key at which two files have the same record stays one, where the operation is done on both or on neither
  pub same_effect : (a b : List (List ℕ)) (key : List ℕ) → changes_records n a call ≡ changes_records n b call
      → record_at n a key ≡ record_at n b key
      → record_at n (records_behind n a call) key ≡ record_at n (records_behind n b call) key
  same_effect a b key same h =
      let then_a : List (List ℕ) = changed_records n a call.op call in
      let then_b : List (List ℕ) = changed_records n b call.op call in
      ap (λ done. record_at n (cond done then_a a) key) same
      ∙ elim (changes_records n b call) as (λ done. record_at n (cond done then_a a) key ≡ record_at n (cond done then_b b) key)
      [ true ↦ records_same a b key h call.op | false ↦ h ]

  module _ (records : List (List ℕ)) where
    abbrev IsLeft : List (List ℕ) → List ℕ → Type 0
    IsLeft now key = record_at n now key ≡ record_at n records key

    records_leave : (op : FileOp) (key : List ℕ) → key ≢ key_of n op call → IsLeft (changed_records n records op call) key
    records_leave Read key ne = refl
    records_leave ReadLock key ne = refl
    records_leave Next key ne = refl
    records_leave NextLock key ne = refl
    records_leave Write key ne = record_at-with_other n records call.content key ne
    records_leave Rewrite key ne = record_at-with_other n records call.content key ne
    records_leave Delete key ne = record_at-without_other n records call.key key ne

    -- an operation that changes nothing leaves the file
    pub operated-unchanged : changes_records n records call ≡ false → records_behind n records call ≡ records
    operated-unchanged h = ap (λ done. cond done (changed_records n records call.op call) records) h

    -- an operation leaves every key but that of the record that it changes
    pub operated_leaves : (key : List ℕ) → (changes_records n records call ≡ true → key ≢ key_of n call.op call)
        → record_at n (records_behind n records call) key ≡ record_at n records key
    operated_leaves key h =
        let then : List (List ℕ) = changed_records n records call.op call in
        elim (changes_records n records call) as (λ done. changes_records n records call ≡ done → IsLeft (cond done then records) key)
        [ true ↦ λ is. records_leave call.op key (h is) | false ↦ λ is. refl ] refl

    -- so it leaves every key but its own
    pub effect_leaves : (key : List ℕ) → key ≢ key_of n call.op call
        → record_at n (records_behind n records call) key ≡ record_at n records key
    effect_leaves key ne = operated_leaves key (λ is. ne)

    -- every key, where it changes nothing
    pub unchanged_leaves : changes_records n records call ≡ false → (key : List ℕ)
        → record_at n (records_behind n records call) key ≡ record_at n records key
    unchanged_leaves h key = operated_leaves key (λ is. absurd (cc (h, is)))

    own_covered : (op : FileOp) → is_change op ≡ true → Covers (span_of n records op call) (key_of n op call)
    own_covered Read h = absurd (cc h)
    own_covered ReadLock h = absurd (cc h)
    own_covered Next h = absurd (cc h)
    own_covered NextLock h = absurd (cc h)
    own_covered Write h = refl
    own_covered Rewrite h = refl
    own_covered Delete h = refl

    -- the key of a record that an operation changes is one that it locks
    pub changed_covered : changes_records n records call ≡ true
        → Covers (span_of n records call.op call) (key_of n call.op call)
    changed_covered h =
        own_covered call.op (and_parts (is_change call.op) ((answer_of n records call.op call).status == 0) h).0

    -- so an operation leaves every key that it does not lock
    pub uncovered_leaves : (key : List ℕ) → ¬ Covers (span_of n records call.op call) key
        → record_at n (records_behind n records call) key ≡ record_at n records key
    uncovered_leaves key uncovered =
        operated_leaves key
        (λ is same. uncovered (subst (Covers (span_of n records call.op call)) (sym same) (changed_covered is)))

    records_are_file : (op : FileOp) → IsFile n records → (is_written op ≡ true → IsContent n call.content)
        → IsFile n (changed_records n records op call)
    records_are_file Read file h = file
    records_are_file ReadLock file h = file
    records_are_file Next file h = file
    records_are_file NextLock file h = file
    records_are_file Write file h = IsFile-with_record n records file call.content (h refl)
    records_are_file Rewrite file h = IsFile-with_record n records file call.content (h refl)
    records_are_file Delete file h = IsFile-without_key n records file call.key

    -- a file stays a file
    pub operated_is_file : IsFile n records → (is_written call.op ≡ true → IsContent n call.content)
        → IsFile n (records_behind n records call)
    operated_is_file file h =
        elim (changes_records n records call) as (λ done. IsFile n (cond done (changed_records n records call.op call) records))
        [ true ↦ records_are_file call.op file h | false ↦ file ]

module _ (n : ℕ) (records : List (List ℕ)) (key : List ℕ) where
  -- a file with what was at a key put back there is a file
  pub put_back_is_file : IsFile n records → (content : Option (List ℕ))
      → ((c : List ℕ) → content ≡ Some c → IsContent n c) → IsFile n (put_back n records key content)
  put_back_is_file file None h = IsFile-without_key n records file key
  put_back_is_file file (Some c) h = IsFile-with_record n records file c (h c refl)

  -- it has that at the key
  pub put_back-there : (content : Option (List ℕ)) → ((c : List ℕ) → content ≡ Some c → take n c ≡ key)
      → record_at n (put_back n records key content) key ≡ content
  put_back-there None h = record_at-without_key n records key
  put_back-there (Some c) h =
      ap (record_at n (with_record n records c)) (sym (h c refl)) ∙ record_at-with_record n records c

  -- and what it had at every other key
  pub put_back-others : (content : Option (List ℕ)) → ((c : List ℕ) → content ≡ Some c → take n c ≡ key)
      → (other : List ℕ) → other ≢ key → record_at n (put_back n records key content) other ≡ record_at n records other
  put_back-others None h other ne = record_at-without_other n records key other ne
  put_back-others (Some c) h other ne = record_at-with_other n records c other (λ is. ne (is ∙ h c refl))
