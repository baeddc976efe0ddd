-- What an operation makes of all that is told.
use Rattle.std.proofs.Common.{◌≡◌, ℕ, ◌<◌, ◌∙◌, refl, sym, ap, subst, Bool, true, false, cond, List, [], ◌∷◌, ◌++◌, length, Option, Some, None}
use Rattle.std.specs.Prelude.{All, slice_set, slice_index_or}
use Rattle.std.specs.Option.{IfSome, option_map}
use Rattle.std.proofs.lemmas.List.{length-set}
use Rattle.std.proofs.lemmas.List.Elements.{All-get_or, All-push, All-set, All-weaker, All-cons, All-contains}
use Rattle.pw_blocks.specs.Blocks.{BlocksState, records_of}
use Rattle.pw_code.specs.declared.file.FileCall.{FileCall}
use Rattle.pw_code.specs.declared.lock.LockMode.{LockMode}
use Rattle.pw_code.specs.declared.lock.LockRule.{LockRule}
use Rattle.pw_code.specs.declared.unit.Unit as unit
use Rattle.pw_code.specs.Locks.{mode_of}
use Rattle.pw_files.proofs.Lookups.{find_some}
use Rattle.pw_files.specs.Records.{IsContent, IsFile, compared, record_at}
use Rattle.std.specs.Ordering.{is_eq}
use Rattle.pw_locks.specs.Conflicts.{lock_of}
use Rattle.pw_locks.specs.declared.lock.Lock.{Lock}
use Rattle.pw_locks.specs.declared.span.Span.{Span}
use Rattle.pw_onecopy.specs.Operation.{answer_of, key_of, records_behind, span_of}
use Rattle.pw_onecopy.proofs.Update.{upd_elim}
use Rattle.pw_onecopy.specs.Update.{upd}
use Rattle.pw_paired.specs.State.{BeforeImage, LastEnded}
use Rattle.pw_paired.specs.Units.{image_before, is_first_change}
use Rattle.pw_tmf.specs.Committed.{images_of}
use Rattle.pw_tmf.specs.Operation.{after_operation, lock_now, with_image}
use Rattle.pw_tmf.specs.Slots.{SlotState, with_unit}
use Rattle.pw_tmf.specs.Tmf.{AreImages, HasNumber, IsLockOfOpenUnit, IsImage, IsTmf, TmfState, files_of, key_lengths, no_slot, slot_at, stored, told_of, unit_at}
use Rattle.pw_tmf.specs.Told.{Told, ToldUnit}
use Rattle.pw_tmf.proofs.Stored.{file-is, get-set, upd-itself}

-- all that is told, by its parts
abbrev pub told_with : LockRule → ℕ → ℕ → (ℕ → ℕ) → (ℕ → List (List ℕ)) → List Lock → (ℕ → Option ToldUnit) → (ℕ → LastEnded) → ℕ → ℕ → Told
told_with rule t c k f l u e z n = record { rule = rule; terminals = t; file_count = c; key_length = k; files = f; locks = l; units = u; ended = e; faults = z; commits = n }

-- all is told the same where each part is
pub told-is : (told : Told) (t : ℕ) (c : ℕ) (k : ℕ → ℕ) (f : ℕ → List (List ℕ)) (l : List Lock) (u : ℕ → Option ToldUnit) (e : ℕ → LastEnded)
    → t ≡ told.terminals → c ≡ told.file_count → k ≡ told.key_length → f ≡ told.files → l ≡ told.locks → u ≡ told.units → e ≡ told.ended
    → told_with told.rule t c k f l u e told.faults told.commits ≡ told
told-is told t c k f l u e t_is c_is k_is f_is l_is u_is e_is =
    ap (λ x. told_with told.rule x c k f l u e told.faults told.commits) t_is
    ∙ (ap (λ x. told_with told.rule told.terminals x k f l u e told.faults told.commits) c_is
    ∙ (ap (λ x. told_with told.rule told.terminals told.file_count x f l u e told.faults told.commits) k_is
    ∙ (ap (λ x. told_with told.rule told.terminals told.file_count told.key_length x l u e told.faults told.commits) f_is
    ∙ (ap (λ x. told_with told.rule told.terminals told.file_count told.key_length told.files x u e told.faults told.commits) l_is
    ∙ (ap (λ x. told_with told.rule told.terminals told.file_count told.key_length told.files told.locks x e told.faults told.commits) u_is
    ∙ ap (λ x. told_with told.rule told.terminals told.file_count told.key_length told.files told.locks told.units x told.faults told.commits) e_is)))))

-- where nothing is to be put back, the files are as they are stored
pub settled-files : (files : List BlocksState) (pending : List (List BeforeImage)) → pending ≡ [] → files_of files pending ≡ stored files
settled-files files pending is = ap (files_of files) is

-- the lock that an operation takes
pub lock-is : (state : TmfState) (file : BlocksState) (u : unit.Unit) (call : FileCall) (span : Span) (mode : LockMode) → state.pending ≡ []
    → call.file < length state.files → file ≡ slice_index_or state.files call.file file
    → span ≡ span_of file.key (records_of file.blocks) call.op call → mode ≡ mode_of state.rule call.op
    → lock_now (told_of state) u call ≡ lock_of u call.file span mode
lock-is state file u call span mode settled lt is span_is mode_is =
    let here : span_of (key_lengths state.files call.file) (files_of state.files state.pending call.file) call.op call ≡ span =
    ap (λ (g : ℕ → List (List ℕ)). span_of (key_lengths state.files call.file) (g call.file) call.op call) (settled-files state.files state.pending settled)
    ∙ (ap (λ (s : BlocksState). span_of s.key (records_of s.blocks) call.op call) (file-is state.files call.file file lt is) ∙ sym span_is) in
    ap (λ s. lock_of u call.file s (mode_of state.rule call.op)) here ∙ ap (lock_of u call.file span) (sym mode_is)

-- the status that it would answer
pub status-is : (state : TmfState) (file : BlocksState) (call : FileCall) (status : ℕ) → state.pending ≡ []
    → call.file < length state.files → file ≡ slice_index_or state.files call.file file
    → status ≡ (answer_of file.key (records_of file.blocks) call.op call).status
    → status ≡ (answer_of (key_lengths state.files call.file) (files_of state.files state.pending call.file) call.op call).status
status-is state file call status settled lt is status_is =
    status_is
    ∙ sym (ap (λ (g : ℕ → List (List ℕ)). (answer_of (key_lengths state.files call.file) (g call.file) call.op call).status) (settled-files state.files state.pending settled)
    ∙ ap (λ (s : BlocksState). (answer_of s.key (records_of s.blocks) call.op call).status) (file-is state.files call.file file lt is))

module _ (state : TmfState) (u : unit.Unit) (call : FileCall) (files' : List BlocksState) (slot' : SlotState) (lock : Lock) (settled : state.pending ≡ []) (keys : key_lengths files' ≡ key_lengths state.files) (count : length files' ≡ length state.files)
    (lt : u.terminal < length state.slots) (noted : slot' ≡ with_unit (with_image (key_lengths state.files call.file) (stored state.files call.file) u.terminal call) (slot_at state.slots u.terminal)) where
  -- the state behind it
  abbrev pub behind : TmfState
  behind = record { rule = state.rule; files = files'; pending = state.pending; locks = state.locks ++ lock ∷ []; slots = slice_set state.slots u.terminal slot'; commits = state.commits }

  pub operated-told : stored files' ≡ upd (stored state.files) call.file (records_behind (key_lengths state.files call.file) (stored state.files call.file) call)
      → lock_now (told_of state) u call ≡ lock → told_of behind ≡ after_operation (told_of state) u call
  operated-told done lock_is =
      let s : files_of state.files state.pending ≡ stored state.files = settled-files state.files state.pending settled in
      told-is (after_operation (told_of state) u call) _ _ _ _ _ _ _ (length-set state.slots u.terminal slot') count keys
      (settled-files files' state.pending settled ∙ (done ∙ sym (ap (λ (g : ℕ → List (List ℕ)). upd g call.file (records_behind (key_lengths state.files call.file) (g call.file) call)) s)))
      (ap (λ l. state.locks ++ l ∷ []) (sym lock_is))
      (get-set (λ (x : SlotState). x.open_unit) state.slots u.terminal slot' no_slot lt
      ∙ ap (upd (unit_at state.slots) u.terminal)
      (ap (λ (x : SlotState). x.open_unit) noted ∙ ap (λ (g : ℕ → List (List ℕ)). option_map (with_image (key_lengths state.files call.file) (g call.file) u.terminal call) (unit_at state.slots u.terminal)) (sym s)))
      (get-set (λ (x : SlotState). x.ended) state.slots u.terminal slot' no_slot lt ∙ upd-itself (λ t. (slot_at state.slots t).ended) u.terminal slot'.ended (ap (λ (x : SlotState). x.ended) noted))

  -- the content of a record fits its file
  found-fits : (n : ℕ) (records : List (List ℕ)) (key : List ℕ) → IsFile n records → IfSome (record_at n records key) (IsContent n)
  found-fits n records key file = by (record_at n records key) refl
    where
      by : (o : Option (List ℕ)) → record_at n records key ≡ o → IfSome o (IsContent n)
      by None is = tt
      by (Some content) is = All-contains (IsContent n) records content file.contents (find_some (λ c. is_eq (compared n key c)) records content is).0

  -- the unit has the same number, and one more image that fits
  number-stays : (number : ℕ) → HasNumber number (slot_at state.slots u.terminal).open_unit → HasNumber number slot'.open_unit
  number-stays number h = subst (λ (x : SlotState). HasNumber number x.open_unit) (sym noted) (by (slot_at state.slots u.terminal).open_unit h)
    where
      kept : (n : ℕ) (records : List (List ℕ)) (t : ℕ) (own : ToldUnit) (b : Bool) → own.number ≡ number
          → (cond b (record own { before = image_before n records t call ∷ own.before }) own).number ≡ number
      kept n records t own true h = h
      kept n records t own false h = h

      by : (own : Option ToldUnit) → HasNumber number own → HasNumber number (option_map (with_image (key_lengths state.files call.file) (stored state.files call.file) u.terminal call) own)
      by None h = h
      by (Some own) h = kept (key_lengths state.files call.file) (stored state.files call.file) u.terminal own (is_first_change (key_lengths state.files call.file) (stored state.files call.file) u.terminal call own.before) h

  held-stays : (l : Lock) → IsLockOfOpenUnit state.slots l → IsLockOfOpenUnit (slice_set state.slots u.terminal slot') l
  held-stays l h =
      subst (λ (g : ℕ → Option ToldUnit). HasNumber l.unit.number (g l.unit.terminal)) (sym (get-set (λ (x : SlotState). x.open_unit) state.slots u.terminal slot' no_slot lt))
      (upd_elim (unit_at state.slots) u.terminal slot'.open_unit l.unit.terminal (HasNumber l.unit.number)
      (λ is. number-stays l.unit.number (subst (λ t. HasNumber l.unit.number (unit_at state.slots t)) is h)) (λ ne. h))

  images-fit : IsFile (key_lengths state.files call.file) (stored state.files call.file) → call.file < length state.files → AreImages (key_lengths state.files) (length state.files) (images_of (slot_at state.slots u.terminal).open_unit)
      → AreImages (key_lengths state.files) (length state.files) (images_of slot'.open_unit)
  images-fit file within h = subst (λ (x : SlotState). AreImages (key_lengths state.files) (length state.files) (images_of x.open_unit)) (sym noted) (by (slot_at state.slots u.terminal).open_unit h)
    where
      n : ℕ
      n = key_lengths state.files call.file

      records : List (List ℕ)
      records = stored state.files call.file

      P : BeforeImage → Type 0
      P = IsImage (key_lengths state.files) (length state.files)

      image : P (image_before n records u.terminal call)
      image = record { file = within; content = found-fits n records (key_of n call.op call) file }

      more : (own : ToldUnit) (b : Bool) → All P own.before → All P (cond b (record own { before = image_before n records u.terminal call ∷ own.before }) own).before
      more own true h = All-cons P (image_before n records u.terminal call) own.before image h
      more own false h = h

      by : (own : Option ToldUnit) → All P (images_of own) → All P (images_of (option_map (with_image n records u.terminal call) own))
      by None h = h
      by (Some own) h = more own (is_first_change n records u.terminal call own.before) h

  pub IsTmf-behind : IsTmf state → IsFile (key_lengths state.files call.file) (stored state.files call.file) → call.file < length state.files
      → HasNumber lock.unit.number (unit_at state.slots lock.unit.terminal) → IsTmf behind
  IsTmf-behind ok file within own =
      let Q : (ℕ → ℕ) → ℕ → SlotState → Type 0 = λ k m x. AreImages k m (images_of x.open_unit) in
      let old : Q (key_lengths state.files) (length state.files) (slot_at state.slots u.terminal) = All-get_or (Q (key_lengths state.files) (length state.files)) state.slots u.terminal no_slot lt ok.images in
      let all : All (Q (key_lengths state.files) (length state.files)) (slice_set state.slots u.terminal slot') =
      All-set (Q (key_lengths state.files) (length state.files)) state.slots u.terminal slot' (images-fit file within old) ok.images in
      record {
        locks = All-push (IsLockOfOpenUnit (slice_set state.slots u.terminal slot')) state.locks lock
            (All-weaker (IsLockOfOpenUnit state.slots) (IsLockOfOpenUnit (slice_set state.slots u.terminal slot')) held-stays state.locks ok.locks) (held-stays lock own);
        pending = subst (λ (k : ℕ → ℕ). All (AreImages k (length files')) state.pending) (sym keys) (subst (λ m. All (AreImages (key_lengths state.files) m) state.pending) (sym count) ok.pending);
        images = subst (λ (k : ℕ → ℕ). All (Q k (length files')) (slice_set state.slots u.terminal slot')) (sym keys)
            (subst (λ m. All (Q (key_lengths state.files) m) (slice_set state.slots u.terminal slot')) (sym count) all);
      }
