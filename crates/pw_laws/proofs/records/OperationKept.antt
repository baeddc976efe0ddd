-- What an operation does to a file, to the before-images and to the locks, and that it leaves the committed records.
use Rattle.std.proofs.Common.{◌≡◌, ◌≢◌, ℕ, ◌⊎◌, inl, inr, ⊎_elim, Bool, true, false, not, ◌&&◌, ◌||◌, ◌==◌, cond, List, [], ◌∷◌, ◌++◌, map, filter, Option, if◌then◌else◌, refl, ap, ap₂, sym, subst, subst₂, ◌∙◌}
use Rattle.std.specs.List.{list_any, AllByRecursion}
use Rattle.std.specs.Prelude.{All, Contains}
use Rattle.std.specs.Str.{bytes_eq}
use Rattle.std.proofs.lemmas.Bool.{cases_eq, cases_Bool, true≢false, false≢true, eq-eqb, eqb-true, ne_eqb, and_from, and_left, and_right, cond-true, cond-false}
use Rattle.pw_base.proofs.Plain.{and-first, and-second, bytes_eq-same}
use Rattle.pw_code.specs.Locks.{mode_of}
use Rattle.pw_code.specs.declared.file.FileCall.{FileCall}
use Rattle.pw_code.specs.declared.file.FileOp.{FileOp}
use Rattle.pw_code.specs.declared.file.FileOp.TheVariants.{Read, Next, Write, Rewrite, Delete, ReadLock, NextLock}
use Rattle.pw_code.specs.declared.lock.LockMode.{LockMode}
use Rattle.pw_code.specs.declared.lock.LockMode.TheVariants.{Exclusive}
use Rattle.pw_code.specs.declared.lock.LockRule.{LockRule}
use Rattle.pw_code.specs.declared.lock.LockRule.TheVariants.{ReadersShare, AllExclusive}
use Rattle.pw_code.specs.declared.unit.Unit as unit
use Rattle.pw_files.proofs.Lookups.{record_at-found}
use Rattle.pw_files.specs.Records.{IsContent, IsFile, record_at}
use Rattle.pw_laws.proofs.records.Images.{ImageOk, cases_bytes, is_at, restored-at, stands_at, stands_at-there}
use Rattle.pw_laws.proofs.records.RecordsOk.{RecordsOk}
use Rattle.pw_laws.proofs.seeing.Seeing.{effect_leaves, operated_is_file}
use Rattle.pw_laws.specs.locking.Held.{is_exclusive, is_point, locks_key}
use Rattle.pw_locks.specs.Conflicts.{conflict, exclude, holders, is_same_unit}
use Rattle.pw_locks.specs.Spans.{overlap}
use Rattle.pw_locks.specs.declared.lock.Lock.{Lock}
use Rattle.pw_locks.specs.declared.span.Span.{Span}
use Rattle.pw_locks.specs.declared.span.Span.TheVariants.{Point, After}
use Rattle.pw_onecopy.proofs.Update.{upd_elim, upd-same, upd-other}
use Rattle.pw_onecopy.specs.Behaviour.{Behaviour}
use Rattle.pw_onecopy.specs.IsBehaviour.{is_written}
use Rattle.pw_onecopy.specs.Operation.{answer_of, changes_records, is_change, key_of, lock_for, records_behind, changed_records, span_of}
use Rattle.pw_onecopy.specs.Update.{upd}
use Rattle.pw_paired.specs.State.{BeforeImage}
use Rattle.pw_paired.specs.Units.{has_image, restored_files}
use Rattle.pw_laws.proofs.Tests.{any-before, any-last, any-more}

-- a change locks its key exclusively
change-point : (n : ℕ) (records : List (List ℕ)) (op : FileOp) (call : FileCall) → is_change op ≡ true → span_of n records op call ≡ Point (key_of n op call)
change-point n records Write call change = refl
change-point n records Rewrite call change = refl
change-point n records Delete call change = refl
change-point n records Read call change = absurd (false≢true change)
change-point n records Next call change = absurd (false≢true change)
change-point n records ReadLock call change = absurd (false≢true change)
change-point n records NextLock call change = absurd (false≢true change)

change-exclusive : (rule : LockRule) (op : FileOp) → is_change op ≡ true → mode_of rule op ≡ Exclusive
change-exclusive AllExclusive op change = refl
change-exclusive ReadersShare Write change = refl
change-exclusive ReadersShare Rewrite change = refl
change-exclusive ReadersShare Delete change = refl
change-exclusive ReadersShare Read change = absurd (false≢true change)
change-exclusive ReadersShare Next change = absurd (false≢true change)
change-exclusive ReadersShare ReadLock change = absurd (false≢true change)
change-exclusive ReadersShare NextLock change = absurd (false≢true change)

-- an exclusive lock on one key conflicts with such a lock of another terminal
exclusive-conflict : (u : unit.Unit) (file : ℕ) (key : List ℕ) (o : ℕ) (held : Lock) → u.terminal ≢ o → locks_key o file key held ≡ true
    → conflict (record { unit = u; file = file; span = Point key; mode = Exclusive }) held ≡ true
exclusive-conflict u file key o held differ is =
    let own : (held.unit.terminal == o) ≡ true = and-first (held.unit.terminal == o) (held.file == file && (is_point key held.span && is_exclusive held.mode)) is in
    let others : (held.file == file && (is_point key held.span && is_exclusive held.mode)) ≡ true = and-second (held.unit.terminal == o) (held.file == file && (is_point key held.span && is_exclusive held.mode)) is in
    let file_is : held.file ≡ file = eqb-true held.file file (and-first (held.file == file) (is_point key held.span && is_exclusive held.mode) others) in
    let span_is : is_point key held.span ≡ true = and-first (is_point key held.span) (is_exclusive held.mode) (and-second (held.file == file) (is_point key held.span && is_exclusive held.mode) others) in
    and_from (not (is_same_unit u held.unit)) (exclude file (Point key) Exclusive held)
    (ap not (and_left (u.terminal == held.unit.terminal) (u.number == held.unit.number) (ne_eqb u.terminal held.unit.terminal (λ same. differ (same ∙ eqb-true held.unit.terminal o own)))))
    (and_from (file == held.file) (overlap (Point key) held.span && true) (eq-eqb file held.file (sym file_is))
    (and_from (overlap (Point key) held.span) true (point-overlaps held.span span_is) refl))
  where
    point-overlaps : (span : Span) → is_point key span ≡ true → overlap (Point key) span ≡ true
    point-overlaps (Point own) is = ⊎_elim (λ same. subst (λ (k : List ℕ). bytes_eq key k ≡ true) (sym same.0) (bytes_eq-same key)) (λ other. absurd (true≢false (sym is ∙ other.1))) (cases_bytes own key)
    point-overlaps (After low high) is = absurd (false≢true is)

-- nobody holds a conflicting lock
none-holds-step : (lock held : Lock) (locks : List Lock) (b : Bool) → (holders lock locks ≡ [] → list_any (conflict lock) locks ≡ false)
    → map (λ (h : Lock). h.unit) (cond b (held ∷ filter (conflict lock) locks) (filter (conflict lock) locks)) ≡ []
    → (b || list_any (conflict lock) locks) ≡ false
none-holds-step lock held locks true rest free = absurd (cc free)
none-holds-step lock held locks false rest free = rest free

-- where nobody holds a conflicting lock, none conflicts
pub none-holds : (lock : Lock) (locks : List Lock) → holders lock locks ≡ [] → list_any (conflict lock) locks ≡ false
none-holds lock [] free = refl
none-holds lock (held ∷ locks) free = none-holds-step lock held locks (conflict lock held) (none-holds lock locks) free

-- what is in a file is a content
contained : (n : ℕ) (records : List (List ℕ)) (content : List ℕ) → All (IsContent n) records → Contains records content → IsContent n content
contained n records content all at = subst (IsContent n) at.2 (all at.0 content at.1)

-- An operation whose lock conflicts with none: the lock is added, and a change adds its before-image.
module _ (sys : Behaviour) (files : ℕ → List (List ℕ)) (before : List BeforeImage) (locks : List Lock) (ok : RecordsOk sys files before locks)
    (u : unit.Unit) (call : FileCall) (fits : is_written call.op ≡ true → IsContent (sys.key_length call.file) call.content)
    (free : holders (lock_for sys.rule (sys.key_length call.file) (files call.file) u call) locks ≡ []) where
  abbrev n : ℕ
  n = sys.key_length call.file

  abbrev own_key : List ℕ
  own_key = key_of n call.op call

  abbrev lock : Lock
  lock = lock_for sys.rule n (files call.file) u call

  abbrev image : BeforeImage
  image = record { terminal = u.terminal; file = call.file; key = own_key; content = record_at n (files call.file) own_key }

  abbrev adds : Bool
  adds = changes_records n (files call.file) call && not (has_image u.terminal call.file own_key before)

  abbrev images_after : Bool → List BeforeImage
  images_after b = if b then image ∷ before else before

  abbrev files_after : ℕ → List (List ℕ)
  files_after = upd files call.file (records_behind n (files call.file) call)

  image-ok : ImageOk sys image
  image-ok = record {
    content = λ c is. contained n (files call.file) c (ok.are_files call.file).contents (record_at-found n (files call.file) own_key c is).0;
    key = λ c is. (record_at-found n (files call.file) own_key c is).1;
  }

  -- a change's lock is exclusive on its key
  change-lock : is_change call.op ≡ true → lock ≡ record { unit = u; file = call.file; span = Point own_key; mode = Exclusive }
  change-lock change = ap₂ (λ (span : Span) (mode : LockMode). record { unit = u; file = call.file; span = span; mode = mode })
      (change-point n (files call.file) call.op call change) (change-exclusive sys.rule call.op change)

  own-kept : is_change call.op ≡ true → locks_key u.terminal call.file own_key lock ≡ true
  own-kept change = subst (λ (l : Lock). locks_key u.terminal call.file own_key l ≡ true) (sym (change-lock change))
      (and_from (u.terminal == u.terminal) (call.file == call.file && (bytes_eq own_key own_key && true)) (eq-eqb u.terminal u.terminal refl)
      (and_from (call.file == call.file) (bytes_eq own_key own_key && true) (eq-eqb call.file call.file refl) (and_from (bytes_eq own_key own_key) true (bytes_eq-same own_key) refl)))

  -- no other terminal has an image of the key that is changed
  alone : is_change call.op ≡ true → (o : ℕ) → has_image o call.file own_key before ≡ true → u.terminal ≡ o
  alone change o there =
      ⊎_elim (λ same. same)
      (λ differ.
      let conflicts : list_any (conflict lock) locks ≡ true = any-more (locks_key o call.file own_key) (conflict lock)
      (λ held is. subst (λ (l : Lock). conflict l held ≡ true) (sym (change-lock change)) (exclusive-conflict u call.file own_key o held differ is))
      locks (ok.locked o call.file own_key there) in
      absurd (true≢false (sym conflicts ∙ none-holds lock locks free)))
      (cases_eq u.terminal o)

  -- what an image behind the operation is of
  module _ (t f : ℕ) (key : List ℕ) where
    abbrev test : BeforeImage → Bool
    test i = i.terminal == t && (i.file == f && bytes_eq i.key key)

    new-image : test image ≡ true → (u.terminal ≡ t) × (call.file ≡ f) × (own_key ≡ key)
    new-image is =
        let second : (call.file == f && bytes_eq own_key key) ≡ true = and-second (u.terminal == t) (call.file == f && bytes_eq own_key key) is in
        let key_is : bytes_eq own_key key ≡ true = and-second (call.file == f) (bytes_eq own_key key) second in (
          eqb-true u.terminal t (and-first (u.terminal == t) (call.file == f && bytes_eq own_key key) is),
          eqb-true call.file f (and-first (call.file == f) (bytes_eq own_key key) second),
          ⊎_elim (λ same. same.0) (λ differ. absurd (true≢false (sym key_is ∙ differ.1))) (cases_bytes own_key key),
        )

    image-cases : (b : Bool) → (b ≡ true → is_change call.op ≡ true) → has_image t f key (images_after b) ≡ true
        → (has_image t f key before ≡ true) ⊎ ((is_change call.op ≡ true) × (u.terminal ≡ t) × (call.file ≡ f) × (own_key ≡ key))
    image-cases false change is = inl is
    image-cases true change is = by_test (test image) refl is
      where
        by_test : (b : Bool) → test image ≡ b → (b || has_image t f key before) ≡ true
            → (has_image t f key before ≡ true) ⊎ ((is_change call.op ≡ true) × (u.terminal ≡ t) × (call.file ≡ f) × (own_key ≡ key))
        by_test true own _ = let parts = new-image own in inr (change refl, parts.0, parts.1, parts.2)
        by_test false own is = inl is

  adds-change : adds ≡ true → is_change call.op ≡ true
  adds-change is = and-first (is_change call.op) ((answer_of n (files call.file) call.op call).status == 0) (and-first (changes_records n (files call.file) call) (not (has_image u.terminal call.file own_key before)) is)

  images-ok : (b : Bool) → AllByRecursion (ImageOk sys) (images_after b)
  images-ok true = (image-ok, ok.images)
  images-ok false = ok.images

  -- records are in order behind an operation
  pub operation-ok : RecordsOk sys files_after (images_after adds) (locks ++ lock ∷ [])
  operation-ok = record {
    are_files = λ f. upd_elim files call.file (records_behind n (files call.file) call) f (λ (r : List (List ℕ)). IsFile (sys.key_length f) r)
        (λ same. subst (λ (g : ℕ). IsFile (sys.key_length g) (records_behind n (files call.file) call)) (sym same) (operated_is_file n call (files call.file) (ok.are_files call.file) fits))
        (λ _. ok.are_files f);
    images = images-ok adds;
    locked = λ t f key there.
        ⊎_elim
        (λ old. any-before (locks_key t f key) locks (lock ∷ []) (ok.locked t f key old))
        (λ new. any-last (locks_key t f key) locks lock
        (subst (λ (x : ℕ). locks_key x f key lock ≡ true) new.1
        (subst₂ (λ (x : ℕ) (k : List ℕ). locks_key u.terminal x k lock ≡ true) new.2 new.3 (own-kept new.0))))
        (image-cases t f key adds adds-change there);
    single = λ t o f key there other_there.
        ⊎_elim
        (λ old. ⊎_elim
        (λ other_old. ok.single t o f key old other_old)
        (λ other_new. sym (sym other_new.1 ∙ alone other_new.0 t (subst₂ (λ (x : ℕ) (k : List ℕ). has_image t x k before ≡ true) (sym other_new.2) (sym other_new.3) old)))
        (image-cases o f key adds adds-change other_there))
        (λ new. ⊎_elim
        (λ other_old. sym new.1 ∙ alone new.0 o (subst₂ (λ (x : ℕ) (k : List ℕ). has_image o x k before ≡ true) (sym new.2) (sym new.3) other_old))
        (λ other_new. sym new.1 ∙ other_new.1)
        (image-cases o f key adds adds-change other_there))
        (image-cases t f key adds adds-change there);
  }

  -- the committed records stay
  committed-same : (f : ℕ) (key : List ℕ) (b : Bool) → adds ≡ b
      → stands_at (images_after b) f key (record_at (sys.key_length f) (files_after f) key) ≡ stands_at before f key (record_at (sys.key_length f) (files f) key)
  committed-same f key b is =
      ⊎_elim
      (λ same. ⊎_elim (λ own. at-key b is (sym same) (sym own.0)) (λ other. beside b (λ here. absurd (true≢false (sym here ∙ and_right (call.file == f) (bytes_eq own_key key) other.1)))
      (ap (λ (r : List (List ℕ)). record_at (sys.key_length f) r key) (upd-same files call.file (records_behind n (files call.file) call) f same)
      ∙ subst (λ (g : ℕ). record_at (sys.key_length g) (records_behind n (files call.file) call) key ≡ record_at (sys.key_length g) (files g) key) (sym same)
      (effect_leaves n call (files call.file) key (λ e. other.0 (sym e)))))
      (cases_bytes own_key key))
      (λ differ. beside b (λ here. absurd (true≢false (sym here ∙ and_left (call.file == f) (bytes_eq own_key key) (ne_eqb call.file f (λ e. differ (sym e))))))
      (ap (λ (r : List (List ℕ)). record_at (sys.key_length f) r key) (upd-other files call.file (records_behind n (files call.file) call) f differ)))
      (cases_eq f call.file)
    where
      -- another key
      beside : (b : Bool) → (is_at f key image ≡ true → ⊥) → record_at (sys.key_length f) (files_after f) key ≡ record_at (sys.key_length f) (files f) key
          → stands_at (images_after b) f key (record_at (sys.key_length f) (files_after f) key) ≡ stands_at before f key (record_at (sys.key_length f) (files f) key)
      beside false other same = ap (λ (x : Option (List ℕ)). stands_at before f key x) same
      beside true other same =
          ap (λ (x : Option (List ℕ)). stands_at before f key x)
          (cond-false (is_at f key image) image.content (record_at (sys.key_length f) (files_after f) key)
          (⊎_elim (λ here. absurd (other here)) (λ there. there) (cases_Bool (is_at f key image))) ∙ same)

      -- the key itself: the image has what was there, or an older one stands there
      at-own : (b : Bool) → adds ≡ b → stands_at (images_after b) call.file own_key (record_at n (files_after call.file) own_key) ≡ stands_at before call.file own_key (record_at n (files call.file) own_key)
      at-own true is = ap (λ (x : Option (List ℕ)). stands_at before call.file own_key x)
          (cond-true (is_at call.file own_key image) image.content (record_at n (files_after call.file) own_key)
          (and_from (call.file == call.file) (bytes_eq own_key own_key) (eq-eqb call.file call.file refl) (bytes_eq-same own_key)))
      at-own false is =
          ⊎_elim
          (λ change. stands_at-there before call.file own_key _ _
          (any-more (λ i. i.terminal == u.terminal && (i.file == call.file && bytes_eq i.key own_key)) (is_at call.file own_key)
          (λ i e. and-second (i.terminal == u.terminal) (i.file == call.file && bytes_eq i.key own_key) e) before
          (⊎_elim (λ there. there) (λ none. absurd (true≢false (sym (and_from (changes_records n (files call.file) call) (not (has_image u.terminal call.file own_key before)) change (ap not none)) ∙ is)))
          (cases_Bool (has_image u.terminal call.file own_key before)))))
          (λ stays. ap (λ (r : List (List ℕ)). stands_at before call.file own_key (record_at n r own_key))
          (upd-same files call.file (records_behind n (files call.file) call) call.file refl ∙ cond-false (changes_records n (files call.file) call) (changed_records n (files call.file) call.op call) (files call.file) stays))
          (cases_Bool (changes_records n (files call.file) call))

      at-key : (b : Bool) → adds ≡ b → call.file ≡ f → key ≡ own_key
          → stands_at (images_after b) f key (record_at (sys.key_length f) (files_after f) key) ≡ stands_at before f key (record_at (sys.key_length f) (files f) key)
      at-key b is same own =
          subst₂ (λ (g : ℕ) (k : List ℕ). stands_at (images_after b) g k (record_at (sys.key_length g) (files_after g) k) ≡ stands_at before g k (record_at (sys.key_length g) (files g) k))
          same (sym own) (at-own b is)

  -- an operation leaves the committed records
  pub operation-committed : (f : ℕ) (key : List ℕ)
      → record_at (sys.key_length f) (restored_files sys.key_length (images_after adds) files_after f) key ≡ record_at (sys.key_length f) (restored_files sys.key_length before files f) key
  operation-committed f key =
      restored-at sys (images_after adds) (images-ok adds) files_after f key
      ∙ committed-same f key adds refl
      ∙ sym (restored-at sys before ok.images files f key)
