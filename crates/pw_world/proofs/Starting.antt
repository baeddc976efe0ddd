-- The world before the first entry.
use Rattle.std.proofs.Common.{◌≡◌, ◌∙◌, ℕ, ◌-◌, ◌<◌, ◌≤◌, ◌^◌, All, Bool, false, List, [], Some, length, ap, refl, subst, sym}
use Rattle.std.specs.Prelude.{slice_get}
use Rattle.pw_code.specs.Limits.{most_log_lines}
use Rattle.pw_code.specs.Valid.{IsValid}
use Rattle.pw_code.specs.declared.system.System.{System}
use Rattle.pw_code.specs.declared.system.TermInfo.{TermInfo}
use Rattle.pw_event.specs.declared.event.Event.{Event}
use Rattle.pw_event.specs.declared.script.FailLine.{FailLine}
use Rattle.pw_code_meaning.specs.Config.{starting}
use Rattle.pw_code_meaning.specs.OfSystem.{behaviour}
use Rattle.pw_world_store.specs.Keeps.{kept_in}
use Rattle.pw_world_store.specs.Starting as keep
use Rattle.pw_world_state.specs.Arrivals.{StandsForPath}
use Rattle.pw_world_state.specs.Kept.{Kept}
use Rattle.pw_world_state.specs.May.{IsLineThere}
use Rattle.pw_world.proofs.Noting.{all-mark, all-out, all-stamp, outs_of, world-noted}
use Rattle.pw_world.specs.Ledgers.{IsFirstLedger, LedgerState, books_of}
use Rattle.pw_world.specs.States.{IsMonitor, WorldState, seen}
use Rattle.pw_world_model.proofs.First.{first-world}
use Rattle.pw_world_model.proofs.Steps.{placed}
use Rattle.pw_world_model.specs.Pushed.{AreMarked, first_books, first_world}
use Rattle.pw_world_model.specs.Seen.{Seen}
use Rattle.pw_world_model.specs.Worlds.{Books, IsDiscOf, IsNew, IsWorld}
use Rattle.pw_onecopy.specs.IsBehaviour.{IsBehaviour}
use Rattle.pw_actor_queue.specs.Places.{all_marked, blank, notes_in}
use Rattle.pw_actor_queue.specs.declared.actor.Actor.{Actor}
use Rattle.pw_actor_queue.specs.declared.roster.ActorNote.{ActorNote}
use Rattle.pw_tmf.specs.Told.{Told}

-- ---- what is kept

stands-first : (system : System) (t : ℕ) (info : TermInfo) → slice_get system.terminals t ≡ Some info
    → StandsForPath system info [] (keep.first_context system t)
stands-first system t info is =
    subst (StandsForPath system info []) (sym (ap (keep.context_for system) is))
    (record { at = starting system info.program; arrives = refl; is = refl })

-- ---- what is noted

abbrev blank-notes : Actor → ActorNote
blank-notes actor = blank

abbrev first-marks : Actor → Bool
first-marks actor = (all_marked blank-notes actor).marked

abbrev first : System → List FailLine → Told → ℕ → Seen
first system script disc limit = first_world system script (keep.first_context system) disc limit

abbrev books : System → List FailLine → Books
books system script = record (first_books system script) { marked = first-marks }

marked-first : (system : System) (script : List FailLine) (disc : Told) (limit : ℕ) → IsValid system
    → AreMarked (first system script disc limit) first-marks
marked-first system script disc limit valid actor known may = all-mark blank-notes actor (placed system valid actor known)

world-first : (system : System) (script : List FailLine) (disc : Told) (limit : ℕ)
    → IsValid system → IsBehaviour (behaviour script system) → limit ≤ most_log_lines → All (IsLineThere system) script
    → length script < 2 ^ 32 - 1 → IsDiscOf system script disc → IsWorld (first system script disc limit) (books system script)
world-first system script disc limit valid b few lines few_lines of =
    world-noted (first system script disc limit) (first_books system script) (λ actor. false) (λ actor. 0) first-marks
    (first-world system script (keep.first_context system) disc limit valid b few lines few_lines of (stands-first system))
    refl (marked-first system script disc limit valid)

-- ---- a world over a disc

abbrev with-notes : System → List FailLine → (Actor → ActorNote) → Books
with-notes system script notes = record (first_books system script) {
  stamps = λ actor. (notes actor).stamp;
  marked = λ actor. (notes actor).marked;
}

books-first : (system : System) (script : List FailLine) (ledger : LedgerState) → IsFirstLedger system script ledger
    → books_of ledger ≡ books system script
books-first system script ledger l =
    ap (λ x. record (books_of ledger) { refreshes = x }) l.refreshes
    ∙ ap (λ x. record (books_of ledger) { refreshes = []; one_sends = x }) l.one_sends
    ∙ ap (λ x. record (books_of ledger) { refreshes = []; one_sends = []; due = x }) l.due
    ∙ ap (λ x. record (books_of ledger) { refreshes = []; one_sends = []; due = (first_books system script).due; live = x }) l.live
    ∙ ap (with-notes system script) l.notes
    ∙ ap (λ (stamps : Actor → ℕ). record (books system script) { stamps = stamps }) (all-stamp blank-notes)

-- what is seen, by its parts
abbrev with-parts : List FailLine → ℕ → System → Kept → ℕ → List Event → Bool → (Actor → Bool) → Seen
with-parts script limit system kept faults log failed out = record {
  system = system;
  script = script;
  log = log;
  limit = limit;
  kept = kept;
  faults = faults;
  failed = failed;
  out = out;
}

outs-first : (ledger : LedgerState) → notes_in ledger.notes ≡ all_marked blank-notes
    → outs_of (notes_in ledger.notes) ≡ (λ actor. false)
outs-first ledger notes = ap outs_of notes ∙ all-out blank-notes

pub seen-first : {D : Type 0} (told : D → Told) (w : WorldState D) (system : System) (disc : D)
    → w.keep.system ≡ system → kept_in told w.keep ≡ keep.first_kept system (told disc) → w.first ≡ disc → w.failed ≡ false
    → IsFirstLedger system w.script w.ledger → seen told w ≡ first system w.script (told disc) w.limit
seen-first told w system disc is kept same sound l =
    let faults = (told w.first).faults in
    let out = outs_of (notes_in w.ledger.notes) in
    let now = (first system w.script (told disc) w.limit).kept in
    ap (λ s. with-parts w.script w.limit s (kept_in told w.keep) faults w.ledger.log w.failed out) is
    ∙ ap (λ k. with-parts w.script w.limit system k faults w.ledger.log w.failed out) kept
    ∙ ap (λ d. with-parts w.script w.limit system now (told d).faults w.ledger.log w.failed out) same
    ∙ ap (λ log. with-parts w.script w.limit system now (told disc).faults log w.failed out) l.log
    ∙ ap (λ failed. with-parts w.script w.limit system now (told disc).faults [] failed out) sound
    ∙ ap (λ o. with-parts w.script w.limit system now (told disc).faults [] false o) (outs-first w.ledger l.notes)

pub monitor-first : {D : Type 0} (told : D → Told) (w : WorldState D) (system : System) (disc : D)
    → w.keep.system ≡ system → kept_in told w.keep ≡ keep.first_kept system (told disc) → w.first ≡ disc → w.failed ≡ false
    → IsFirstLedger system w.script w.ledger
    → IsValid system → IsBehaviour (behaviour w.script system) → w.limit ≤ most_log_lines → All (IsLineThere system) w.script
    → length w.script < 2 ^ 32 - 1 → IsDiscOf system w.script (told disc) → IsMonitor told w
monitor-first told w system disc is kept same sound l valid b few lines few_lines of =
    subst (λ (world : Seen). IsWorld world (books_of w.ledger)) (sym (seen-first told w system disc is kept same sound l))
    (subst (IsWorld (first system w.script (told disc) w.limit)) (sym (books-first system w.script w.ledger l))
    (world-first system w.script (told disc) w.limit valid b few lines few_lines of))

pub new-first : {D : Type 0} (told : D → Told) (w : WorldState D) (system : System) (disc : D)
    → w.keep.system ≡ system → kept_in told w.keep ≡ keep.first_kept system (told disc) → w.first ≡ disc → w.failed ≡ false
    → IsFirstLedger system w.script w.ledger → IsNew system w.script (told disc) w.limit (seen told w)
new-first told w system disc is kept same sound l =
    subst (IsNew system w.script (told disc) w.limit) (sym (seen-first told w system disc is kept same sound l)) (record {
      system_is = refl;
      script_is = refl;
      limit_is = refl;
      empty = refl;
      disc_is = refl;
      count = refl;
      sound = refl;
      inside = λ actor. refl;
      unread = λ t. refl;
    })
