use Rattle.std.proofs.Common.{◌≡◌, ℕ, List, true, false, sym, ap, subst, ◌∙◌}
use Rattle.std.specs.BTreeMap.Range.{entries_between}
use Rattle.std.specs.Cmp.Lexicographic.{slice_cmp}
use Rattle.std.specs.Iterator.Adapters.{rev_source}
use Rattle.std.specs.Ordering.{nat_cmp}
use Rattle.std.specs.declared.ops.Bound.TheVariants.{Unbounded}
use Rattle.pw_locks.specs.Indexes.{has}
use Rattle.pw_locks.specs.Reach.{is_reached}
use Rattle.pw_locks.specs.Searches.{Searched, is_sought}
use Rattle.pw_locks.specs.declared.run.SpanLocks.{SpanLocks}
use Rattle.pw_locks.proofs.Walking.{Walked-start, Walked-more, Walked-end, Walked-stop, earlier}
use Rattle.pw_locks.proofs.walk.note_chain.Goals as goal

pub loop-run-init : goal.loop-run-init
loop-run-init c =
    let runs = c.args.chain.now.runs in
    let span = c.args.sought.now.span.now in
    let left : List (List ℕ × SpanLocks) = rev_source c.into_iter-run-iterator.result in
    let all : left ≡ earlier span runs =
    ap (λ it. rev_source it) c.into_iter-run-iterator.ensures.into_iter_gives
    ∙ (c.rev-run-items.ensures.source
    ∙ (c.range-earlier.ensures.between tt ∙ ap (λ end. entries_between (slice_cmp nat_cmp) Unbounded end runs.entries) c.before-2.ensures)) in
    record { can = tt; finite = tt; walked = Walked-start (is_sought c.args.sought.now) c.args.locks.now c.args.known (earlier span runs) left all }

pub returns-then-not-is_reached : goal.returns-then-not-is_reached
returns-then-not-is_reached c =
    let runs = c.args.chain.now.runs in
    let span = c.args.sought.now.span.now in
    let out : is_reached span c.in-Some.run'.now.high ≡ false = sym c.is_reached.ensures ∙ c.if-not-is_reached.true in
    Walked-stop runs c.args.chain.now.rising c.range-earlier.ensures.ordered span (is_sought c.args.sought.now) c.args.locks.now c.args.known c.loop-run.found
    (rev_source c.loop-run.run-iterator) (rev_source c.next.new.self) (c.in-Some.field-0-0.now, c.in-Some.run'.now) c.loop-run.invariant.walked c.in-Some.ensures.steps out

pub loop-run-preserved : goal.loop-run-preserved
loop-run-preserved c =
    let runs = c.args.chain.now.runs in
    let span = c.args.sought.now.span.now in
    let seen : Searched (is_sought c.args.sought.now) c.args.locks.now c.loop-run.found c.note_all-found.result (λ n. has c.in-Some.run'.now.numbers.items n ≡ true) =
    subst (λ (ns : List ℕ). Searched (is_sought c.args.sought.now) c.args.locks.now c.loop-run.found c.note_all-found.result (λ n. has ns n ≡ true)) c.as_slice.ensures.value c.note_all-found.ensures in
    record {
      can = tt;
      finite = tt;
      walked = Walked-more (is_sought c.args.sought.now) c.args.locks.now c.args.known c.loop-run.found c.note_all-found.result (earlier span runs)
          (rev_source c.loop-run.run-iterator) (rev_source c.next.new.self) (c.in-Some.field-0-0.now, c.in-Some.run'.now) c.loop-run.invariant.walked c.in-Some.ensures.steps seen;
    }

pub returns : goal.returns
returns c =
    let runs = c.args.chain.now.runs in
    let span = c.args.sought.now.span.now in
    Walked-end runs span (is_sought c.args.sought.now) c.args.locks.now c.args.known c.loop-run.found (rev_source c.loop-run.run-iterator) c.loop-run.invariant.walked c.in-None.ensures.steps.0
