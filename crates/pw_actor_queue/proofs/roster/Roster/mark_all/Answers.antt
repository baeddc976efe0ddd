use Rattle.std.proofs.Common.{◌≡◌, ◌<◌, ◌∙◌, ℕ, ap, length, subst, sym, true, arith}
use Rattle.std.specs.Prelude.{slice_index_or}
use Rattle.pw_actor_queue.specs.Places.{all_marked, blank, notes_in, with_mark}
use Rattle.pw_actor_queue.proofs.Placing.{marked-everywhere, written-whole}
use Rattle.pw_actor_queue.proofs.roster.Roster.mark_all.Goals as goal

pub returns-clause-notes : goal.returns-clause-notes
returns-clause-notes c =
    let items = c.self.inside.notes.items in
    let new = c.mark_each.new.notes in
    let was = c.deref_mut.ensures.value in
    let size : length new ≡ length items = c.mark_each.ensures.size ∙ ap length was in
    let whole : c.self.inside.notes.len ≡ length new = omega (arith, c.mark_each.ensures.size, c.deref_mut.ensures.len) in
    let marks : (k : ℕ) → k < length items → slice_index_or new k blank ≡ with_mark true (slice_index_or items k blank) =
    λ k lt. c.mark_each.ensures.marks k (subst (λ l. k < length l) (sym was) lt) ∙ ap (λ l. with_mark true (slice_index_or l k blank)) was in
    rw (← c.self.view_is)
    (subst (λ l. notes_in l ≡ all_marked (notes_in items)) (sym (written-whole c.self.inside.notes.len new _ whole)) (marked-everywhere items new c.self.invariant.size marks))
