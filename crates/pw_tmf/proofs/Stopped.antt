-- What is told, and what holds, where a unit's attempt is over.
use Rattle.std.proofs.Common.{◌≡◌, ◌≢◌, ℕ, ◌<◌, ◌∙◌, ⊎_elim, refl, sym, ap, subst, Bool, true, false, not, ◌&&◌, ◌==◌, cond, List, [], ◌∷◌, ◌++◌, length, filter, append-nil, Option, Some, None}
use Rattle.std.specs.Prelude.{All, slice_set}
use Rattle.std.specs.Option.{option_map}
use Rattle.std.proofs.lemmas.Bool.{cases_Bool, eq-eqb, eqb-true, true≢false}
use Rattle.std.proofs.lemmas.Grind.{flat_map-append}
use Rattle.std.proofs.lemmas.List.{length-set}
use Rattle.std.proofs.lemmas.List.Elements.{All-head, All-tail, All-nil, All-cons, All-get_or, All-push, All-set}
use Rattle.pw_code.specs.declared.unit.Unit as unit
use Rattle.pw_locks.specs.Conflicts.{is_same_unit}
use Rattle.pw_locks.specs.declared.lock.Lock.{Lock}
use Rattle.pw_onecopy.proofs.Update.{upd-other}
use Rattle.pw_onecopy.specs.Update.{upd}
use Rattle.pw_paired.specs.State.{BeforeImage, LastEnded}
use Rattle.pw_paired.specs.Units.{only, restored_files, without_locks}
use Rattle.pw_tmf.specs.Committed.{images_of}
use Rattle.pw_tmf.specs.Slots.{SlotState, backed_out_slot, ended_slot, ended_with_reply}
use Rattle.pw_tmf.specs.Tmf.{AreImages, HasNumber, IsLockOfOpenUnit, IsTmf, TmfState, all_pending, files_of, key_lengths, no_slot, slot_at, stored, told_of, unit_at, with_images}
use Rattle.pw_tmf.specs.Told.{Told, ToldUnit}
use Rattle.pw_tmf.specs.Units.{CanBackOut, IsOpen, backed_out, ended, attempt_over, stopped, undone}
use Rattle.pw_tmf.proofs.Drained.{restored-append}
use Rattle.pw_tmf.proofs.Operated.{told-is}
use Rattle.pw_tmf.proofs.Stored.{get-set, upd-itself}

-- two tests that agree on the items of a list
filter-same : {X : Type 0} (P : X → Type 0) (p q : X → Bool) → ((x : X) → P x → p x ≡ q x) → (xs : List X) → All P xs → filter p xs ≡ filter q xs
filter-same P p q same [] h = refl
filter-same P p q same (x ∷ xs) h =
    ap (λ b. cond b (x ∷ filter p xs) (filter p xs)) (same x (All-head P x xs h)) ∙ ap (λ ys. cond (q x) (x ∷ ys) ys) (filter-same P p q same xs (All-tail P x xs h))

-- what holds of the items that pass a test
All-passed : {X : Type 0} (P Q : X → Type 0) (p : X → Bool) → ((x : X) → P x → p x ≡ true → Q x) → (xs : List X) → All P xs → All Q (filter p xs)
All-passed P Q p more [] h = All-nil Q
All-passed P Q p more (x ∷ xs) h = by (p x) refl (All-passed P Q p more xs (All-tail P x xs h))
  where
    by : (b : Bool) → p x ≡ b → All Q (filter p xs) → All Q (cond b (x ∷ filter p xs) (filter p xs))
    by true is rest = All-cons Q x (filter p xs) (more x (All-head P x xs h) is) rest
    by false is rest = rest

-- the locks that stay where a unit's locks are released
abbrev pub others : unit.Unit → Lock → Bool
others u held = not (is_same_unit held.unit u)

module _ (state : TmfState) (u : unit.Unit) (own : ToldUnit) (here : unit_at state.slots u.terminal ≡ Some own) (number : own.number ≡ u.number) (lt : u.terminal < length state.slots) (ok : IsTmf state) where
  -- a lock of the unit's terminal is the unit's
  own-number : (held : Lock) → IsLockOfOpenUnit state.slots held → held.unit.terminal ≡ u.terminal → held.unit.number ≡ u.number
  own-number held h is =
      let at : HasNumber held.unit.number (Some own) = subst (HasNumber held.unit.number) (ap (unit_at state.slots) is ∙ here) h in
      sym at ∙ number

  same-test : (held : Lock) → IsLockOfOpenUnit state.slots held → others u held ≡ not (only u.terminal held.unit.terminal)
  same-test held h =
      ⊎_elim
      (λ is. ap (λ b. not ((held.unit.terminal == u.terminal) && b)) (eq-eqb held.unit.number u.number (own-number held h (eqb-true held.unit.terminal u.terminal is)))
      ∙ (ap (λ b. not (b && true)) is ∙ ap not (sym is)))
      (λ is. ap (λ b. not (b && (held.unit.number == u.number))) is ∙ ap not (sym is))
      (cases_Bool (held.unit.terminal == u.terminal))

  pub same-locks : filter (others u) state.locks ≡ without_locks (only u.terminal) state.locks
  same-locks = filter-same (IsLockOfOpenUnit state.slots) (others u) (λ held. not (only u.terminal held.unit.terminal)) same-test state.locks ok.locks

  -- the locks that stay are of other terminals
  module _ (slot' : SlotState) where
    held-stays : (held : Lock) → IsLockOfOpenUnit state.slots held → others u held ≡ true → IsLockOfOpenUnit (slice_set state.slots u.terminal slot') held
    held-stays held h passes =
        let apart : held.unit.terminal ≢ u.terminal = λ is. true≢false (sym passes ∙ (same-test held h ∙ ap not (eq-eqb held.unit.terminal u.terminal is))) in
        subst (λ (g : ℕ → Option ToldUnit). HasNumber held.unit.number (g held.unit.terminal)) (sym (get-set (λ (x : SlotState). x.open_unit) state.slots u.terminal slot' no_slot lt))
        (subst (HasNumber held.unit.number) (sym (upd-other (unit_at state.slots) u.terminal slot'.open_unit held.unit.terminal apart)) h)

    pub IsTmf-stopped : images_of slot'.open_unit ≡ [] → (pending' : List (List BeforeImage)) (commits : ℕ) → All (AreImages (key_lengths state.files) (length state.files)) pending'
        → IsTmf (record { rule = state.rule; files = state.files; pending = pending'; locks = filter (others u) state.locks; slots = slice_set state.slots u.terminal slot'; commits = commits })
    IsTmf-stopped none pending' commits fit =
        let Q : SlotState → Type 0 = λ x. AreImages (key_lengths state.files) (length state.files) (images_of x.open_unit) in
        record {
          locks = All-passed (IsLockOfOpenUnit state.slots) (IsLockOfOpenUnit (slice_set state.slots u.terminal slot')) (others u) held-stays state.locks ok.locks;
          pending = fit;
          images = All-set Q state.slots u.terminal slot' (subst (AreImages (key_lengths state.files) (length state.files)) (sym none) (All-nil _)) ok.images;
        }

  -- the unit ends
  pub told-ended : (reply : Option (List ℕ)) (pending' : List (List BeforeImage)) (commits : ℕ) (told : Told) → told.rule ≡ state.rule → told.terminals ≡ length state.slots → told.file_count ≡ length state.files
      → told.key_length ≡ key_lengths state.files → told.files ≡ files_of state.files pending' → told.locks ≡ state.locks → told.units ≡ unit_at state.slots → told.ended ≡ (λ t. (slot_at state.slots t).ended)
      → told_of (record { rule = told.rule; files = state.files; pending = pending'; locks = filter (others u) state.locks; slots = slice_set state.slots u.terminal (ended_slot reply (slot_at state.slots u.terminal)); commits = commits })
      ≡ record (ended told u reply) { faults = 0; commits = commits }
  told-ended reply pending' commits told rule terminals count keys files locks units last =
      told-is (record (ended told u reply) { faults = 0; commits = commits }) _ _ _ _ _ _ _
      (length-set state.slots u.terminal (ended_slot reply (slot_at state.slots u.terminal)) ∙ sym terminals)
      (sym count) (sym keys) (sym files)
      (same-locks ∙ ap (without_locks (only u.terminal)) (sym locks))
      (get-set (λ (x : SlotState). x.open_unit) state.slots u.terminal (ended_slot reply (slot_at state.slots u.terminal)) no_slot lt ∙ ap (λ (g : ℕ → Option ToldUnit). upd g u.terminal None) (sym units))
      (get-set (λ (x : SlotState). x.ended) state.slots u.terminal (ended_slot reply (slot_at state.slots u.terminal)) no_slot lt
      ∙ (ap (λ (o : Option ToldUnit). upd (λ t. (slot_at state.slots t).ended) u.terminal (ended_with_reply reply o (slot_at state.slots u.terminal).ended)) here
      ∙ (ap (λ n. upd (λ t. (slot_at state.slots t).ended) u.terminal (record { number = n; reply = reply })) number
      ∙ ap (λ (g : ℕ → LastEnded). upd g u.terminal (record { number = u.number; reply = reply })) (sym last))))

  -- its attempt is over
  pub told-over : (pending' : List (List BeforeImage)) (told : Told) → told.rule ≡ state.rule → told.terminals ≡ length state.slots → told.file_count ≡ length state.files
      → told.key_length ≡ key_lengths state.files → told.files ≡ files_of state.files pending' → told.locks ≡ state.locks → told.units ≡ unit_at state.slots → told.ended ≡ (λ t. (slot_at state.slots t).ended)
      → told_of (record { rule = told.rule; files = state.files; pending = pending'; locks = filter (others u) state.locks; slots = slice_set state.slots u.terminal (backed_out_slot false (slot_at state.slots u.terminal)); commits = told.commits })
      ≡ record (attempt_over told u) { faults = 0 }
  told-over pending' told rule terminals count keys files locks units last =
      told-is (record (attempt_over told u) { faults = 0 }) _ _ _ _ _ _ _
      (length-set state.slots u.terminal (backed_out_slot false (slot_at state.slots u.terminal)) ∙ sym terminals)
      (sym count) (sym keys) (sym files)
      (same-locks ∙ ap (without_locks (only u.terminal)) (sym locks))
      (get-set (λ (x : SlotState). x.open_unit) state.slots u.terminal (backed_out_slot false (slot_at state.slots u.terminal)) no_slot lt
      ∙ ap (λ (g : ℕ → Option ToldUnit). upd g u.terminal (option_map stopped (g u.terminal))) (sym units))
      (get-set (λ (x : SlotState). x.ended) state.slots u.terminal (backed_out_slot false (slot_at state.slots u.terminal)) no_slot lt
      ∙ (upd-itself (λ t. (slot_at state.slots t).ended) u.terminal (slot_at state.slots u.terminal).ended refl ∙ sym last))

  -- what is put back next
  files-undone : files_of state.files (with_images state.pending (unit_at state.slots u.terminal)) ≡ restored_files (key_lengths state.files) (images_of (unit_at state.slots u.terminal)) (files_of state.files state.pending)
  files-undone =
      ap (λ (o : Option ToldUnit). files_of state.files (with_images state.pending o)) here
      ∙ (ap (λ xs. restored_files (key_lengths state.files) xs (stored state.files)) (flat_map-append (λ (images : List BeforeImage). images) state.pending (own.before ∷ []) ∙ ap (λ xs. all_pending state.pending ++ xs) (append-nil own.before))
      ∙ (restored-append (key_lengths state.files) (all_pending state.pending) own.before (stored state.files)
      ∙ sym (ap (λ (o : Option ToldUnit). restored_files (key_lengths state.files) (images_of o) (files_of state.files state.pending)) here)))

  -- the state where it is backed out
  abbrev pub backing : Bool → TmfState
  backing ends = record {
    rule = state.rule;
    files = state.files;
    pending = with_images state.pending (unit_at state.slots u.terminal);
    locks = filter (others u) state.locks;
    slots = slice_set state.slots u.terminal (backed_out_slot ends (slot_at state.slots u.terminal));
    commits = state.commits;
  }

  pub told-backed_out : (ends : Bool) → told_of (backing ends) ≡ backed_out ends (told_of state) u
  told-backed_out true = told-ended None (with_images state.pending (unit_at state.slots u.terminal)) state.commits (undone (told_of state) u) refl refl refl refl (sym files-undone) refl refl refl
  told-backed_out false = told-over (with_images state.pending (unit_at state.slots u.terminal)) (undone (told_of state) u) refl refl refl refl (sym files-undone) refl refl refl

  no-images : (ends : Bool) → images_of (backed_out_slot ends (slot_at state.slots u.terminal)).open_unit ≡ []
  no-images true = refl
  no-images false = ap (λ (o : Option ToldUnit). images_of (option_map stopped o)) here

  pub IsTmf-backed_out : (ends : Bool) → IsTmf (backing ends)
  IsTmf-backed_out ends =
      let P : List BeforeImage → Type 0 = AreImages (key_lengths state.files) (length state.files) in
      let Q : SlotState → Type 0 = λ x. P (images_of x.open_unit) in
      let own_fit : P own.before = subst (λ (o : Option ToldUnit). P (images_of o)) here (All-get_or Q state.slots u.terminal no_slot lt ok.images) in
      IsTmf-stopped (backed_out_slot ends (slot_at state.slots u.terminal)) (no-images ends) (with_images state.pending (unit_at state.slots u.terminal)) state.commits
      (subst (λ (o : Option ToldUnit). All P (with_images state.pending o)) (sym here) (All-push P state.pending own.before ok.pending own_fit))

-- another unit may be backed out as before
pub open-still : (told : Told) (u v : unit.Unit) (next : Told) → next.terminals ≡ told.terminals → (v.terminal ≢ u.terminal → next.units v.terminal ≡ told.units v.terminal) → v.terminal ≢ u.terminal → IsOpen told v → IsOpen next v
open-still told u v next terminals same apart is = record {
  terminal = subst (λ n. v.terminal < n) (sym terminals) is.terminal;
  open_unit = is.open_unit;
  here = same apart ∙ is.here;
  number = is.number;
  birth = is.birth;
}

others-stay : (ends : Bool) (told : Told) (u v : unit.Unit) → v.terminal ≢ u.terminal → (backed_out ends told u).units v.terminal ≡ told.units v.terminal
others-stay true told u v apart = upd-other told.units u.terminal None v.terminal apart
others-stay false told u v apart = upd-other told.units u.terminal (option_map stopped (told.units u.terminal)) v.terminal apart

same-terminals : (ends : Bool) (told : Told) (u : unit.Unit) → (backed_out ends told u).terminals ≡ told.terminals
same-terminals true told u = refl
same-terminals false told u = refl

pub can-still : (ends other : Bool) (told : Told) (u v : unit.Unit) → v.terminal ≢ u.terminal → CanBackOut ends told v → CanBackOut ends (backed_out other told u) v
unfolding open-still
can-still true other told u v apart can = open-still told u v (backed_out other told u) (same-terminals other told u) (others-stay other told u v) apart can
can-still false other told u v apart can = record { is_open = open-still told u v (backed_out other told u) (same-terminals other told u) (others-stay other told u v) apart can.is_open; runs = can.runs }

-- one that may be backed out is open
pub can-open : (ends : Bool) (told : Told) (u : unit.Unit) → CanBackOut ends told u → IsOpen told u
can-open true told u can = can
can-open false told u can = can.is_open
