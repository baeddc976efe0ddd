-- What a server's run by itself sees is what its operations lock, and what it changes are their keys.
use Rattle.std.proofs.Common.{◌≡◌, ℕ, zero, suc, ◌<◌, arith, refl, sym, ◌∙◌, ap, ap₂, subst, true, List, [], ◌∷◌, ◌++◌}
use Rattle.pw_code.specs.declared.file.FileCall.{FileCall}
use Rattle.pw_code.specs.declared.verb.Verb.{Verb}
use Rattle.pw_code.specs.declared.verb.Verb.TheVariants as verb
use Rattle.pw_files.specs.Records.{record_at, IsContent, IsFile}
use Rattle.pw_laws.proofs.seeing.Seeing.{same_answer, same_changes, same_span, same_effect, operated_leaves, changed_covered, operated_is_file}
use Rattle.pw_laws.specs.locking.Seen as seen
use Rattle.pw_laws.specs.locking.Seen.{AgreeOn}
use Rattle.pw_onecopy.proofs.Update.{upd_elim, upd_both}
use Rattle.pw_onecopy.specs.Behaviour.{Behaviour}
use Rattle.pw_onecopy.specs.IsBehaviour.{is_written, IsBehaviour}
use Rattle.pw_onecopy.specs.Operation.{key_of, changes_records, records_behind, span_of}
use Rattle.pw_onecopy.specs.Path.{FileResult}
use Rattle.pw_onecopy.specs.Play.{Play, play_operation, play_after}

module _ (sys : Behaviour) where
  abbrev AreFiles : (ℕ → List (List ℕ)) → Type 0
  AreFiles = seen.AreFiles sys

  abbrev HaveSameAt : (ℕ → List (List ℕ)) → (ℕ → List (List ℕ)) → ℕ → List ℕ → Type 0
  HaveSameAt = seen.HaveSameAt sys

  abbrev CallCovers : (ℕ → List (List ℕ)) → FileCall → List ℕ → Type 0
  CallCovers = seen.CallCovers sys

  -- what a verb writes, if it is an operation that writes, has the length of a record
  abbrev pub WritesContent : Verb → Type 0
  WritesContent v = (call : FileCall) → v ≡ verb.File call → is_written call.op ≡ true
      → IsContent (sys.key_length call.file) call.content

  -- they have the same records at each key that a verb locks in the first one, if it is an operation
  abbrev pub AgreeOnVerb : Verb → (ℕ → List (List ℕ)) → (ℕ → List (List ℕ)) → Type 0
  AgreeOnVerb v a b = (call : FileCall) → v ≡ verb.File call
      → AgreeOn (sys.key_length call.file) (a call.file) (b call.file) call

  -- an operation changes a record of its file, and this is the key
  pub record ChangesAt (files : ℕ → List (List ℕ)) (call : FileCall) (key : List ℕ) : Type 0 where
    pub changed : changes_records (sys.key_length call.file) (files call.file) call ≡ true
    pub own : key ≡ key_of (sys.key_length call.file) call.op call

  -- such a key is one that it locks
  pub ChangesAt-covered : (files : ℕ → List (List ℕ)) (call : FileCall) (key : List ℕ) → ChangesAt files call key
      → CallCovers files call key
  ChangesAt-covered files call key at =
      subst (CallCovers files call) (sym at.own)
      (changed_covered (sys.key_length call.file) call (files call.file) at.changed)

  operation_files : (v : Verb) (at : Play) → AreFiles at.files → WritesContent v
      → AreFiles (play_operation sys v at).files
  operation_files (verb.File call) at files writes f =
      let n : ℕ = sys.key_length call.file in
      let now : List (List ℕ) = records_behind n (at.files call.file) call in
      let there : IsFile n now = operated_is_file n call (at.files call.file) (files call.file) (writes call refl) in
      upd_elim at.files call.file now f (IsFile (sys.key_length f))
      (λ is. subst (λ k. IsFile (sys.key_length k) now) (sym is) there)
      (λ _. files f)
  operation_files _ at files writes f = files f

  -- Two runs, begun on two sets of files: their operations are answered the same, and each key at which the files had
  -- the same record is such a key behind them.
  pub record SamePlays (p q : Play) (a b : ℕ → List (List ℕ)) : Type 0 where
    pub done : p.done ≡ q.done
    pub stays : (f : ℕ) (key : List ℕ) → HaveSameAt a b f key → HaveSameAt p.files q.files f key

  operation_same : (v : Verb) (p q : Play) → p.done ≡ q.done → AreFiles p.files → AreFiles q.files
      → AgreeOnVerb v p.files q.files → SamePlays (play_operation sys v p) (play_operation sys v q) p.files q.files
  operation_same (verb.File call) p q same files others agree =
      let n : ℕ = sys.key_length call.file in
      let a : List (List ℕ) = p.files call.file in
      let b : List (List ℕ) = q.files call.file in
      let seen : AgreeOn n a b call = agree call refl in
      let answers = same_answer n a b (files call.file) (others call.file) call seen in
      let both = same_changes n a b (files call.file) (others call.file) call seen in
      let Stays : ℕ → List ℕ → Type 0 = λ f key. HaveSameAt p.files q.files f key
      → record_at (sys.key_length f) (records_behind n a call) key ≡ record_at (sys.key_length f) (records_behind n b call) key in
      record {
        done = ap₂ (λ (done : List FileResult) (answer : FileResult). done ++ answer ∷ []) same answers;
        stays = λ f key e. upd_both p.files q.files call.file (records_behind n a call) (records_behind n b call) f
            (λ now then. record_at (sys.key_length f) now key ≡ record_at (sys.key_length f) then key)
            (λ is. subst (λ k. Stays k key) (sym is) (same_effect n call a b key both) e)
            (λ _. e);
      }
  operation_same _ p q same files others agree = record { done = same; stays = λ f key e. e }

  -- an operation leaves what it does not change
  pub operation_leaves : (v : Verb) (at : Play) (f : ℕ) (key : List ℕ)
      → ((call : FileCall) → v ≡ verb.File call → call.file ≡ f → ¬ ChangesAt at.files call key)
      → HaveSameAt (play_operation sys v at).files at.files f key
  operation_leaves (verb.File call) at f key h =
      let n : ℕ = sys.key_length call.file in
      let now : List (List ℕ) = records_behind n (at.files call.file) call in
      upd_elim at.files call.file now f
      (λ now. record_at (sys.key_length f) now key ≡ record_at (sys.key_length f) (at.files f) key)
      (λ is.
      subst (λ k. record_at (sys.key_length k) now key ≡ record_at (sys.key_length k) (at.files k) key) (sym is)
      (operated_leaves n call (at.files call.file) key
      (λ changed own. h call refl (sym is) (record { changed = changed; own = own }))))
      (λ _. refl)
  operation_leaves _ at f key h = refl

  module _ (c : ℕ) (message : List ℕ) where
    abbrev verb_at : (ℕ → List (List ℕ)) → ℕ → Verb
    verb_at = seen.verb_at sys c message

    abbrev files_at : (ℕ → List (List ℕ)) → ℕ → ℕ → List (List ℕ)
    files_at = seen.files_at sys c message

    abbrev AgreeOnRun : (ℕ → List (List ℕ)) → (ℕ → List (List ℕ)) → ℕ → Type 0
    AgreeOnRun = seen.AgreeOnRun sys c message

    -- what the server writes has the length of a record
    abbrev pub ServerWrites : Type 0
    ServerWrites = (done : List FileResult) → WritesContent (sys.ops c message done)

    -- files stay files
    pub played_files : ServerWrites → (files : ℕ → List (List ℕ)) → AreFiles files → (n : ℕ)
        → AreFiles (files_at files n)
    played_files writes files are zero = are
    played_files writes files are (suc n) =
        let at : Play = play_after sys c message files n in
        operation_files (verb_at files n) at (played_files writes files are n) (writes at.done)

    module _ (writes : ServerWrites) (a b : ℕ → List (List ℕ)) (files : AreFiles a) (others : AreFiles b) where
      -- runs on files that have the same records at each key that an operation of the first run locks
      pub same_play : (n : ℕ) → AgreeOnRun a b n
          → SamePlays (play_after sys c message a n) (play_after sys c message b n) a b
      same_play zero agree = record { done = refl; stays = λ f key e. e }
      same_play (suc n) agree =
          let p : Play = play_after sys c message a n in
          let q : Play = play_after sys c message b n in
          let before : SamePlays p q a b = same_play n (λ i below. agree i (omega arith)) in
          let v : Verb = sys.ops c message p.done in
          let after : SamePlays (play_operation sys v p) (play_operation sys v q) p.files q.files =
          operation_same v p q before.done (played_files writes a files n) (played_files writes b others n)
          (λ call asks key covers. before.stays call.file key (agree n (omega arith) call asks key covers)) in
          subst
          (λ done. SamePlays (play_operation sys v p) (play_operation sys (sys.ops c message done) q) a b)
          before.done
          (record { done = after.done; stays = λ f key e. after.stays f key (before.stays f key e) })

      -- the operations of both runs are the same
      pub same_verb : (n : ℕ) → AgreeOnRun a b n → verb_at a n ≡ verb_at b n
      same_verb n agree = ap (sys.ops c message) (same_play n agree).done

      module _ (n : ℕ) (agree : AgreeOnRun a b (suc n)) (call : FileCall) (asks : verb_at a n ≡ verb.File call) where
        seen_same : AgreeOn (sys.key_length call.file) (files_at a n call.file) (files_at b n call.file) call
        seen_same key covers =
            let before = same_play n (λ i below. agree i (omega arith)) in
            before.stays call.file key (agree n (omega arith) call asks key covers)

        -- they lock the same
        pub same_play_span : span_of (sys.key_length call.file) (files_at a n call.file) call.op call
            ≡ span_of (sys.key_length call.file) (files_at b n call.file) call.op call
        same_play_span =
            same_span (sys.key_length call.file) (files_at a n call.file) (files_at b n call.file)
            (played_files writes a files n call.file) (played_files writes b others n call.file) call seen_same

        -- and change a record in both or in neither
        pub same_play_changes : changes_records (sys.key_length call.file) (files_at a n call.file) call
            ≡ changes_records (sys.key_length call.file) (files_at b n call.file) call
        same_play_changes =
            same_changes (sys.key_length call.file) (files_at a n call.file) (files_at b n call.file)
            (played_files writes a files n call.file) (played_files writes b others n call.file) call seen_same

    module _ (files : ℕ → List (List ℕ)) (f : ℕ) (key : List ℕ) where
      -- a run leaves every key of a file but those of the records that its operations change there
      pub played_leaves : (n : ℕ)
          → ((i : ℕ) → i < n → (call : FileCall) → verb_at files i ≡ verb.File call → call.file ≡ f
          → ¬ ChangesAt (files_at files i) call key)
          → HaveSameAt (files_at files n) files f key
      played_leaves zero h = refl
      played_leaves (suc n) h =
          operation_leaves (verb_at files n) (play_after sys c message files n) f key (h n (omega arith))
          ∙ played_leaves n (λ i below. h i (omega arith))

      -- so it leaves every key that its operations do not lock
      pub uncovered_played : (n : ℕ)
          → ((i : ℕ) → i < n → (call : FileCall) → verb_at files i ≡ verb.File call → call.file ≡ f
          → ¬ CallCovers (files_at files i) call key)
          → HaveSameAt (files_at files n) files f key
      uncovered_played n h =
          played_leaves n
          (λ i below call asks is at. h i below call asks is (ChangesAt-covered (files_at files i) call key at))

-- what the servers of every deck write has the length of a record
pub ServerWrites-behaviour : (sys : Behaviour) → IsBehaviour sys → (c : ℕ) (message : List ℕ) → c < sys.classes
    → ServerWrites sys c message
ServerWrites-behaviour sys behaviour c message known done call = behaviour.writes c message done call known
