-- What stands at keys under a lock of a terminal, in the open and in the committed records.
use Rattle.std.proofs.Common.{◌≡◌, ◌≢◌, ℕ, zero, suc, ◌<◌, ⊎_elim, Bool, true, false, not, ◌&&◌, ◌||◌, List, [], ◌∷◌, filter, refl, ap, ap₂, sym, subst, ◌∙◌, arith}
use Rattle.std.specs.List.{list_any}
use Rattle.std.proofs.lemmas.Bool.{cases_Bool, true≢false}
use Rattle.pw_laws.proofs.AttemptOps.{EachOfRun, EachOp, IsLocked, Spares}
use Rattle.pw_laws.proofs.AttemptFiles.{Outcome, attempt-fine, faults, outcome, replies}
use Rattle.pw_laws.proofs.alone.Locked.{unshared}
use Rattle.pw_code.specs.declared.verb.Verb.{Verb}
use Rattle.pw_code.specs.declared.verb.Verb.TheVariants as verb
use Rattle.pw_files.specs.Records.{record_at}
use Rattle.pw_laws.proofs.records.Images.{ImageOk, dropped, is_at, kept, restored-at, stands_at-none}
use Rattle.pw_laws.proofs.records.RecordsOk.{RecordsOk}
use Rattle.pw_laws.proofs.records.Withdrawn.{any-image}
use Rattle.pw_laws.proofs.seeing.Plays.{played_leaves}
use Rattle.pw_laws.specs.locking.Held.{AreCompatibleLocks}
use Rattle.pw_laws.specs.locking.Seen.{AreFiles, HaveSameAt, files_at, verb_at}
use Rattle.pw_locks.specs.declared.lock.Lock.{Lock}
use Rattle.pw_onecopy.specs.Attempt.{Attempt, IsAttempt, attempt, attempt_with_served, answer_verb}
use Rattle.pw_onecopy.specs.Behaviour.{Behaviour, Served}
use Rattle.pw_onecopy.specs.IsBehaviour.{IsBehaviour, IsPath}
use Rattle.pw_onecopy.specs.Path.{PathAnswer}
use Rattle.pw_paired.specs.State.{BeforeImage}
use Rattle.pw_paired.specs.Units.{has_image, restored_files}
use Rattle.pw_laws.proofs.Tests.{all-filter, any-more}

-- a test that no terminal's images pass
none-at : (test : ℕ → Bool) (f : ℕ) (key : List ℕ) (before : List BeforeImage) → ((o : ℕ) → test o ≡ true → has_image o f key before ≡ true → ⊥)
    → list_any (λ image. is_at f key image && test image.terminal) before ≡ false
none-at test f key before never =
    ⊎_elim (λ there. let one = any-image test f key before there in absurd (never one.0 one.1 one.2)) (λ none. none)
    (cases_Bool (list_any (λ image. is_at f key image && test image.terminal) before))

module _ (sys : Behaviour) (files : ℕ → List (List ℕ)) (before : List BeforeImage) (locks : List Lock) (ok : RecordsOk sys files before locks) where
  -- the images of some terminals go, of which none is of this key: what is committed there stays
  pub committed-without : (whose : ℕ → Bool) (f : ℕ) (key : List ℕ) → ((o : ℕ) → whose o ≡ true → has_image o f key before ≡ true → ⊥)
      → record_at (sys.key_length f) (restored_files sys.key_length (filter (λ image. not (whose image.terminal)) before) files f) key ≡ record_at (sys.key_length f) (restored_files sys.key_length before files f) key
  committed-without whose f key never =
      restored-at sys (filter (λ image. not (whose image.terminal)) before) (all-filter (ImageOk sys) (λ image. not (whose image.terminal)) before ok.images) files f key
      ∙ sym (kept (λ image. not (whose image.terminal)) f key before (same-any before ∙ none-at whose f key before never) (record_at (sys.key_length f) (files f) key))
      ∙ sym (restored-at sys before ok.images files f key)
    where
      twice : (b : Bool) → not (not b) ≡ b
      twice true = refl
      twice false = refl

      same-any : (images : List BeforeImage) → list_any (λ image. is_at f key image && not (not (whose image.terminal))) images ≡ list_any (λ image. is_at f key image && whose image.terminal) images
      same-any [] = refl
      same-any (image ∷ images) = ap₂ (λ (a b : Bool). (is_at f key image && a) || b) (twice (whose image.terminal)) (same-any images)

  -- a key without images is as committed
  pub no-image-same : (f : ℕ) (key : List ℕ) → ((o : ℕ) → has_image o f key before ≡ true → ⊥)
      → record_at (sys.key_length f) (restored_files sys.key_length before files f) key ≡ record_at (sys.key_length f) (files f) key
  no-image-same f key never =
      restored-at sys before ok.images files f key
      ∙ stands_at-none before f key (record_at (sys.key_length f) (files f) key)
      (⊎_elim
      (λ there. let one = any-image (λ o. true) f key before (any-more (is_at f key) (λ i. is_at f key i && true) (λ i e. and-true (is_at f key i) e) before there) in absurd (never one.0 one.2))
      (λ none. none) (cases_Bool (list_any (is_at f key) before)))
    where
      and-true : (a : Bool) → a ≡ true → (a && true) ≡ true
      and-true true e = refl
      and-true false e = e

module _ (sys : Behaviour) (files : ℕ → List (List ℕ)) (before : List BeforeImage) (locks : List Lock) (ok : RecordsOk sys files before locks) (apart : AreCompatibleLocks locks) (t : ℕ) where
  -- no other terminal has an image of a locked key
  pub unimaged : (f : ℕ) (key : List ℕ) → IsLocked t f key locks → (o : ℕ) → t ≢ o → has_image o f key before ≡ true → ⊥
  unimaged f key locked o differ there = unshared t o f key locks differ apart locked (ok.locked o f key there)

  module _ (whose : ℕ → Bool) (spared : whose t ≡ false) (f : ℕ) (key : List ℕ) (locked : IsLocked t f key locks) where
    other : (o : ℕ) → whose o ≡ true → t ≢ o
    other o is same = true≢false (sym is ∙ (ap whose (sym same) ∙ spared))

    -- backing out others leaves it in the open records
    pub backed-out-same : record_at (sys.key_length f) (restored_files sys.key_length (filter (λ image. whose image.terminal) before) files f) key ≡ record_at (sys.key_length f) (files f) key
    backed-out-same =
        restored-at sys (filter (λ image. whose image.terminal) before) (all-filter (ImageOk sys) (λ image. whose image.terminal) before ok.images) files f key
        ∙ dropped (λ image. whose image.terminal) f key before (none-at whose f key before (λ o is there. unimaged f key locked o (other o is) there)) (record_at (sys.key_length f) (files f) key)

    -- a commit of others leaves it in the committed records
    pub committed-same : record_at (sys.key_length f) (restored_files sys.key_length (filter (λ image. not (whose image.terminal)) before) files f) key ≡ record_at (sys.key_length f) (restored_files sys.key_length before files f) key
    committed-same = committed-without sys files before locks ok whose f key (λ o is there. unimaged f key locked o (other o is) there)

-- an attempt leaves the keys that none of its operations changes
module _ (sys : Behaviour) (b : IsBehaviour sys) (t : ℕ) (q : List PathAnswer) (r : ℕ) (start : IsPath sys t q) (x : ℕ → List (List ℕ)) (are : AreFiles sys x) (f : ℕ) (key : List ℕ) where
  step-spares : (at : Attempt) (v : Verb) → AreFiles sys at.files
      → ((c : ℕ) (message : List ℕ) → v ≡ verb.Send c message → (c < sys.classes) × ((n : ℕ) → EachOfRun sys c message at.files n (Spares sys f key)))
      → HaveSameAt sys at.files x f key → HaveSameAt sys (answer_verb sys t r x v at).files x f key
  step-spares at verb.Begin fine sends same = same
  step-spares at verb.Show fine sends same = same
  step-spares at (verb.Accept screen) fine sends same = same
  step-spares at (verb.Send c message) fine sends same =
      let ops = sends c message refl in
      let adds = b.adds_up c message at.files ops.0 fine in
      by (sys.serve c message at.files) (verb_at sys c message at.files adds.operations) (files_at sys c message at.files adds.operations)
      (outcome (sys.serve c message at.files) (verb_at sys c message at.files adds.operations) (files_at sys c message at.files adds.operations) adds.comes)
      (played_leaves sys c message at.files f key adds.operations (λ k below call is at_file change. ops.1 adds.operations k below call is at_file change) ∙ same)
    where
      by : (sv : Served) (w : Verb) (left : ℕ → List (List ℕ)) → Outcome sv w left → HaveSameAt sys left x f key → HaveSameAt sys (attempt_with_served sv at).files x f key
      by sv w left (replies reply sv_is w_is) there = subst (λ (s : Served). HaveSameAt sys (attempt_with_served s at).files x f key) (sym sv_is) there
      by sv w left (faults y sv_is w_is) there = subst (λ (s : Served). HaveSameAt sys (attempt_with_served s at).files x f key) (sym sv_is) same
  step-spares at verb.End fine sends same = same
  step-spares at verb.Drop fine sends same = refl
  step-spares at verb.Redo fine sends same = same
  step-spares at verb.Stop fine sends same = same
  step-spares at (verb.Fault y) fine sends same = same
  step-spares at (verb.File call) fine sends same = same
  step-spares at (verb.Reply reply) fine sends same = same

  -- an attempt leaves a key that it spares
  pub attempt-spares : (j : ℕ) → IsAttempt sys t q x r j → EachOp sys b t q r start x j (Spares sys f key) → HaveSameAt sys (attempt sys t q x r j).files x f key
  attempt-spares zero is each = refl
  attempt-spares (suc j) is each =
      let at : Attempt = attempt sys t q x r j in
      let fine = attempt-fine sys b t q r start x are j is.0 in
      step-spares at (sys.ask t at.path) fine.are_files
      (λ c message asks. (b.sends t c message at.path fine.is_path asks, λ n. each j (omega arith) c message asks n))
      (attempt-spares j is.0 (λ i below. each i (omega (arith, below))))
