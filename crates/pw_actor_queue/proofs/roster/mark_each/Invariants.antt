use Rattle.std.proofs.Common.{◌≡◌, ◌<◌, ◌≤◌, ℕ, true}
use Rattle.std.specs.Prelude.{slice_index_or}
use Rattle.pw_actor_queue.specs.Places.{blank, with_mark}
use Rattle.pw_actor_queue.proofs.roster.mark_each.Given as goal

abbrev pub invariant-loop-note : goal.invariant-loop-note
invariant-loop-note l = record {
  done : (k : ℕ) → k < l.note-index → slice_index_or l.notes k blank ≡ with_mark true (slice_index_or l.fn.notes k blank);
  rest : (k : ℕ) → l.note-index ≤ k → slice_index_or l.notes k blank ≡ slice_index_or l.fn.notes k blank;
}
