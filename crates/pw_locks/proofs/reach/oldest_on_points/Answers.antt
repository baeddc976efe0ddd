use Rattle.std.proofs.Common.{◌≡◌, ℕ, List, true, false, sym, subst, ◌∙◌}
use Rattle.std.specs.BTreeMap.Range.{entries_between}
use Rattle.std.specs.Cmp.Lexicographic.{slice_cmp}
use Rattle.std.specs.Ordering.{nat_cmp}
use Rattle.std.specs.Prelude.{None}
use Rattle.std.specs.declared.ops.Bound.{Bound}
use Rattle.std.specs.declared.ops.Bound.TheVariants.{Excluded}
use Rattle.pw_locks.specs.Indexes.{has}
use Rattle.pw_locks.specs.Keys.{is_below_end}
use Rattle.pw_locks.specs.Places.{IsMetPoint}
use Rattle.pw_locks.specs.Reach.{up_to}
use Rattle.pw_locks.specs.Searches.{Searched, is_sought, numbers_of}
use Rattle.pw_locks.specs.Spans.{overlap}
use Rattle.pw_locks.specs.declared.span.Span.TheVariants.{Point}
use Rattle.pw_locks.proofs.Reaching.{within_span, has_room}
use Rattle.pw_locks.proofs.Searching.{Searched-fewer, Searched-none}
use Rattle.pw_locks.proofs.reach.oldest_on_points.Goals as goal

pub returns-then-not-is_below_end : goal.returns-then-not-is_below_end
returns-then-not-is_below_end c =
    Searched-none (is_sought c.args.sought.now) c.args.locks.now None (IsMetPoint c.args.sought.now.span.now c.args.places.now)
    (λ n met.
    let room : is_below_end c.in-After.low c.in-After.high ≡ true = has_room c.in-After.low c.in-After.high (Point met.0) (subst (λ s. overlap s (Point met.0) ≡ true) c.in-After.is met.1) in
    let none : is_below_end c.in-After.low c.in-After.high ≡ false = sym c.is_below_end.ensures ∙ c.if-not-is_below_end.true in
    absurd (cc (room, none)))

pub returns-else-not-is_below_end : goal.returns-else-not-is_below_end
returns-else-not-is_below_end c =
    let places = c.args.places.now in
    let low = c.in-After.low in
    let points : Bound (List ℕ) → ℕ → Type 0 = λ end n. has (numbers_of (entries_between (slice_cmp nat_cmp) (Excluded low) end places.points.numbers.entries)) n ≡ true in
    Searched-fewer (is_sought c.args.sought.now) c.args.locks.now None c.note_between.result (points (up_to c.in-After.high)) (IsMetPoint c.args.sought.now.span.now places)
    (λ n met. within_span places low c.in-After.high met.0 n (subst (λ s. overlap s (Point met.0) ≡ true) c.in-After.is met.1) met.2)
    (subst (λ end. Searched (is_sought c.args.sought.now) c.args.locks.now None c.note_between.result (points end)) c.up_to.ensures c.note_between.ensures)
