-- The image of a message is filed: a world stays one.
use Rattle.std.proofs.Common.{◌≡◌, ◌∙◌, ◌↔◌, ℕ, ◌≤◌, Bool, true, false, Some, None, ap, length, refl, subst, sym, inl, inr}
use Rattle.std.proofs.lemmas.Bool.{cases_Bool}
use Rattle.std.proofs.lemmas.List.{get_or_past}
use Rattle.std.specs.Prelude.{IsTrue}
use Rattle.pw_code.specs.declared.system.System.{System}
use Rattle.pw_world_store.specs.Keeps.{IsChanged, IsKeep, KeepState, kept_in, no_pair}
use Rattle.pw_world_state.specs.Changes.{at_pair}
use Rattle.pw_world_state.specs.Entered.{tcp_of}
use Rattle.pw_world_state.specs.Kept.{Kept}
use Rattle.pw_world.proofs.Noting.{all-mark, all-out, all-stamp, marks_of, noted-monitor, noted-seen, outs_of, stamps_of}
use Rattle.pw_world.specs.Ledgers.{IsNoted, LedgerState, books_of}
use Rattle.pw_world.specs.States.{IsMonitor, WorldState, seen}
use Rattle.pw_world_model.proofs.SameWork.{built-so}
use Rattle.pw_world_model.proofs.Steps.{placed}
use Rattle.pw_world_model.specs.Calls.{GivesBack}
use Rattle.pw_world_model.specs.Seen.{Seen}
use Rattle.pw_world_model.specs.Worlds.{IsWorld}
use Rattle.pw_pair.specs.Pairs.{changed_at}
use Rattle.pw_pair.specs.SeenTask.{SeenDone}
use Rattle.pw_pair.specs.Seats.{built}
use Rattle.pw_pair.specs.Tasks.{waiting_task}
use Rattle.pw_actor_queue.specs.Places.{all_marked, notes_in}
use Rattle.pw_actor_queue.specs.declared.actor.Actor.{Actor}
use Rattle.pw_actor_queue.specs.declared.roster.ActorNote.{ActorNote}
use Rattle.pw_tmf.specs.Told.{Told}

-- ---- every actor is marked

pub marked-monitor : {D : Type 0} (told : D → Told) (w : WorldState D) (l : LedgerState) → IsMonitor told w → IsNoted w.ledger l
    → notes_in l.notes ≡ all_marked (notes_in w.ledger.notes) → IsMonitor told (record w { ledger = l })
marked-monitor told w l m rest notes =
    noted-monitor told w l m rest (ap stamps_of notes ∙ all-stamp (notes_in w.ledger.notes))
    (λ actor known may.
    ap (λ (n : Actor → ActorNote). (n actor).marked) notes ∙ all-mark (notes_in w.ledger.notes) actor (placed w.keep.system m.valid actor known))

pub marked-seen : {D : Type 0} (told : D → Told) (w : WorldState D) (l : LedgerState) → IsNoted w.ledger l
    → notes_in l.notes ≡ all_marked (notes_in w.ledger.notes) → seen told (record w { ledger = l }) ≡ seen told w
marked-seen told w l rest notes =
    noted-seen told w l (outs_of (notes_in w.ledger.notes)) rest (ap outs_of notes ∙ all-out (notes_in w.ledger.notes))

-- ---- a message is built

abbrev built-by : {D : Type 0} → (D → Told) → WorldState D → ℕ → ℕ → Seen
built-by told w p t = record (seen told w) { kept = at_pair p (changed_at t built) (seen told w).kept }

pub built-seen : {D : Type 0} (told : D → Told) (w : WorldState D) (k : KeepState D) (p t : ℕ)
    → IsChanged told (at_pair p (changed_at t built)) w.keep k → seen told (record w { keep = k }) ≡ built-by told w p t
built-seen told w k p t changed =
    ap (λ (s : System). record (seen told w) { system = s; kept = kept_in told k }) changed.system
    ∙ ap (λ (kept : Kept). record (seen told w) { kept = kept }) changed.kept

pub built-monitor : {D : Type 0} (told : D → Told) (w : WorldState D) (k : KeepState D) (p t : ℕ)
    → IsChanged told (at_pair p (changed_at t built)) w.keep k → IsMonitor told w → IsMonitor told (record w { keep = k })
built-monitor told w k p t changed m =
    subst (λ (world : Seen). IsWorld world (books_of w.ledger)) (sym (built-seen told w k p t changed))
    (built-so (seen told w) (books_of w.ledger) m p t (marks_of (notes_in w.ledger.notes)) m.books.marked)

pub filed-monitor : {D : Type 0} (told : D → Told) (w : WorldState D) (k : KeepState D) (p t : ℕ) (filed : Bool)
    → (filed ≡ true → IsChanged told (at_pair p (changed_at t built)) w.keep k) → (filed ≡ false → k ≡ w.keep)
    → IsMonitor told w → IsMonitor told (record w { keep = k })
filed-monitor told w k p t filed files late m =
    elim (cases_Bool filed) [
      | inl is ↦ built-monitor told w k p t (files is) m
      | inr not-so ↦ subst (λ (keep : KeepState _). IsMonitor told (record w { keep = keep })) (sym (late not-so)) m
    ]

-- ---- what it answers

pub gives-back : {D : Type 0} (told : D → Told) (w : WorldState D) (k : KeepState D) (new : Seen) (p : ℕ) (done : SeenDone) (filed : Bool)
    → p ≡ tcp_of w.keep.system done.task.terminal
    → (IsTrue filed ↔ (waiting_task done.task.terminal ((kept_in told w.keep).pairs p) ≡ Some done.task))
    → (filed ≡ true → IsChanged told (at_pair p (changed_at done.task.terminal built)) w.keep k) → (filed ≡ false → k ≡ w.keep)
    → new ≡ seen told (record w { keep = k }) → GivesBack (seen told w) done filed new
gives-back told w k new p done filed own is files late same = record {
  files = subst (λ q. IsTrue filed ↔ (waiting_task done.task.terminal ((kept_in told w.keep).pairs q) ≡ Some done.task)) own is;
  files_it = λ is-filed. same ∙ built-seen told w k p done.task.terminal (files is-filed)
      ∙ ap (λ q. built-by told w q done.task.terminal) own;
  late = λ is-late. same ∙ ap (λ (keep : KeepState _). seen told (record w { keep = keep })) (late is-late);
}

-- a terminal of no pair has no task
pub none-back : {D : Type 0} (told : D → Told) (w : WorldState D) (p : ℕ) (done : SeenDone)
    → IsKeep w.keep.system w.keep.seats (told w.keep.disc) w.keep.book w.keep.jobs w.keep.pairs
    → p ≡ tcp_of w.keep.system done.task.terminal → length w.keep.system.tcps ≤ p → GivesBack (seen told w) done false (seen told w)
none-back told w p done k own past = record {
  files = (
    (λ filed. absurd (cc filed)),
    (λ (task : waiting_task done.task.terminal ((kept_in told w.keep).pairs (tcp_of w.keep.system done.task.terminal)) ≡ Some done.task).
        let beyond : length w.keep.pairs ≤ tcp_of w.keep.system done.task.terminal =
        subst (λ q. length w.keep.pairs ≤ q) own (subst (λ n. n ≤ p) (sym k.pairs_are) past) in
        let none : (kept_in told w.keep).pairs (tcp_of w.keep.system done.task.terminal) ≡ no_pair =
        get_or_past w.keep.pairs (tcp_of w.keep.system done.task.terminal) no_pair beyond in
        let lost : None ≡ Some done.task = sym (ap (waiting_task done.task.terminal) none) ∙ task in
        absurd (cc lost)),
  );
  files_it = λ filed. absurd (cc filed);
  late = λ late. refl;
}
