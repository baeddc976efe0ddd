-- What the operations of servers on a file tell of its records.
use Rattle.std.proofs.Common.{◌≡◌, ℕ, ◌==◌, ◌&&◌, Bool, true, false, cond, List, take, Option, Some, is_some, if◌then◌else◌, refl, ap, sym, subst, ◌∙◌}
use Rattle.std.specs.Ordering.{is_eq}
use Rattle.std.proofs.lemmas.Bool.{true≢false}
use Rattle.pw_code.specs.declared.file.FileCall.{FileCall}
use Rattle.pw_code.specs.declared.file.FileOp.{FileOp}
use Rattle.pw_code.specs.declared.file.FileOp.TheVariants.{Read, Next, Write, Rewrite, Delete, ReadLock, NextLock}
use Rattle.pw_files.specs.Records.{has_key, key_cmp, record_at}
use Rattle.pw_invariants.specs.Operations.{AsksOnly, only_adds, only_reads, takes_none}
use Rattle.pw_invariants.specs.Servers.{OperationsKeep}
use Rattle.pw_invariants.specs.Units.{FileRecords}
use Rattle.pw_laws.proofs.seeing.FoundRecords.{record_at-with}
use Rattle.pw_laws.proofs.seeing.Seeing.{operated-unchanged, operated_leaves}
use Rattle.pw_onecopy.proofs.Update.{upd_elim}
use Rattle.pw_onecopy.specs.Behaviour.{Behaviour}
use Rattle.pw_onecopy.specs.Operation.{answer_of, change_answer, changed_records, changes_records, is_change, key_of, records_behind}

module _ (n : ℕ) (records : List (List ℕ)) (call : FileCall) where
  -- an operation of this kind changes a record
  abbrev Changes : FileOp → Bool
  Changes op = is_change op && (answer_of n records op call).status == 0

  -- a read changes nothing
  reads-unchanged : (op : FileOp) → only_reads op ≡ true → Changes op ≡ false
  reads-unchanged Write reads = absurd (true≢false (sym reads))
  reads-unchanged Rewrite reads = absurd (true≢false (sym reads))
  reads-unchanged Delete reads = absurd (true≢false (sym reads))
  reads-unchanged Read reads = refl
  reads-unchanged Next reads = refl
  reads-unchanged ReadLock reads = refl
  reads-unchanged NextLock reads = refl

  pub reads-leave : only_reads call.op ≡ true → records_behind n records call ≡ records
  reads-leave reads = operated-unchanged n call records (reads-unchanged call.op reads)

  -- a WRITE adds no record where one is
  none-there : (op : FileOp) → only_adds op ≡ true → Changes op ≡ true → has_key n records (key_of n op call) ≡ true → ⊥
  none-there Write adds changes has = true≢false (sym changes ∙ ap (λ (b : Bool). (change_answer 10 (if b then false else true)).status == 0) has)
  none-there Rewrite adds changes has = true≢false (sym adds)
  none-there Delete adds changes has = true≢false (sym adds)
  none-there Read adds changes has = true≢false (sym changes)
  none-there Next adds changes has = true≢false (sym changes)
  none-there ReadLock adds changes has = true≢false (sym changes)
  none-there NextLock adds changes has = true≢false (sym changes)

  pub adds-leave : (key content : List ℕ) → only_adds call.op ≡ true → record_at n records key ≡ Some content
      → record_at n (records_behind n records call) key ≡ Some content
  adds-leave key content adds is =
      operated_leaves n call records key
      (λ changes same. none-there call.op adds changes (ap (λ (k : List ℕ). has_key n records k) (sym same) ∙ ap (λ (o : Option (List ℕ)). is_some o) is))
      ∙ is

  -- a key stays where no record is taken away
  put-there : (key content : List ℕ) (b : Bool) → has_key n records key ≡ true → is_some (cond b (Some content) (record_at n records key)) ≡ true
  put-there key content true has = refl
  put-there key content false has = has

  changed-there : (key : List ℕ) (op : FileOp) → takes_none op ≡ true → has_key n records key ≡ true → has_key n (changed_records n records op call) key ≡ true
  changed-there key Write takes has =
      ap (λ (o : Option (List ℕ)). is_some o) (record_at-with n records key call.content) ∙ put-there key call.content (is_eq (key_cmp key (take n call.content))) has
  changed-there key Rewrite takes has =
      ap (λ (o : Option (List ℕ)). is_some o) (record_at-with n records key call.content) ∙ put-there key call.content (is_eq (key_cmp key (take n call.content))) has
  changed-there key Delete takes has = absurd (true≢false (sym takes))
  changed-there key Read takes has = has
  changed-there key Next takes has = has
  changed-there key ReadLock takes has = has
  changed-there key NextLock takes has = has

  pub key-leave : (key : List ℕ) → takes_none call.op ≡ true → has_key n records key ≡ true → has_key n (records_behind n records call) key ≡ true
  key-leave key takes has =
      elim (changes_records n records call) as (λ done. has_key n (cond done (changed_records n records call.op call) records) key ≡ true)
      [ true ↦ changed-there key call.op takes has | false ↦ has ]

module _ (sys : Behaviour) (f : ℕ) where
  abbrev pub IsFileAt : List (List ℕ) → FileRecords → Type 0
  IsFileAt records all = all f ≡ records

  abbrev pub HasRecord : List ℕ → List ℕ → FileRecords → Type 0
  HasRecord key content all = record_at (sys.key_length f) (all f) key ≡ Some content

  abbrev pub HasKey : List ℕ → FileRecords → Type 0
  HasKey key all = has_key (sys.key_length f) (all f) key ≡ true

  -- the file as an operation leaves it
  abbrev behind : FileRecords → FileCall → List (List ℕ)
  behind records call = records_behind (sys.key_length call.file) (records call.file) call

  -- a file that servers only read stays
  pub reads-keep : AsksOnly sys f only_reads → (fixed : List (List ℕ)) → OperationsKeep sys (IsFileAt fixed)
  reads-keep asks fixed c message done call records known are is now =
      upd_elim records call.file (behind records call) f (λ (now_there : List (List ℕ)). now_there ≡ fixed)
      (λ same. reads-leave (sys.key_length call.file) (records call.file) call (asks c message done call known is (sym same)) ∙ (ap records (sym same) ∙ now))
      (λ _. now)

  -- a record of a file to which they only add stays
  pub adds-keep : AsksOnly sys f only_adds → (key content : List ℕ) → OperationsKeep sys (HasRecord key content)
  adds-keep asks key content c message done call records known are is now =
      upd_elim records call.file (behind records call) f (λ (there : List (List ℕ)). record_at (sys.key_length f) there key ≡ Some content)
      (λ same.
      subst (λ (g : ℕ). record_at (sys.key_length g) (behind records call) key ≡ Some content) (sym same)
      (adds-leave (sys.key_length call.file) (records call.file) call key content (asks c message done call known is (sym same))
      (subst (λ (g : ℕ). record_at (sys.key_length g) (records g) key ≡ Some content) same now)))
      (λ _. now)

  -- a key of a file of which they take nothing away stays
  pub keys-keep : AsksOnly sys f takes_none → (key : List ℕ) → OperationsKeep sys (HasKey key)
  keys-keep asks key c message done call records known are is now =
      upd_elim records call.file (behind records call) f (λ (there : List (List ℕ)). has_key (sys.key_length f) there key ≡ true)
      (λ same.
      subst (λ (g : ℕ). has_key (sys.key_length g) (behind records call) key ≡ true) (sym same)
      (key-leave (sys.key_length call.file) (records call.file) call key (asks c message done call known is (sym same))
      (subst (λ (g : ℕ). has_key (sys.key_length g) (records g) key ≡ true) same now)))
      (λ _. now)
