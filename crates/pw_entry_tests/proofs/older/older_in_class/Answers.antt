-- What is found at a process is found, and what is found at none is not.
use Rattle.std.proofs.Common.{◌≡◌, ◌<◌, ◌+◌, ap, arith, subst, None}
use Rattle.std.specs.Prelude.{slice_get}
use borrow.Author.Count.{below_more}
use Rattle.pw_code.specs.declared.system.System.{System}
use Rattle.pw_code_meaning.specs.OfSystem.{processes_by}
use Rattle.pw_world_store.specs.Keeps.{kept_in}
use Rattle.pw_entry_tests.proofs.Anywhere.{found-in, none-in}
use Rattle.pw_entry_tests.specs.Causes.{IsOlderFound, process_meets}
use Rattle.pw_entry_tests.proofs.older.older_in_class.Goals as goal

pub loop-place-preserved : goal.loop-place-preserved
loop-place-preserved g c =
    let system = c.args.keep.now.system in
    let kept = kept_in g.D.Disc.told c.args.keep.now in
    let own = c.args.own.now in
    below_more (λ k. IsOlderFound system kept own
    (λ older. process_meets system kept own older c.args.class (k + 1)) None) c.loop-place.place
    c.loop-place.invariant
    (subst (IsOlderFound system kept own
    (λ older. process_meets system kept own older c.args.class (c.loop-place.place + 1)))
    c.in_default.is
    c.in_ok-older.ensures)

pub returns-in-Some : goal.returns-in-Some
returns-in-Some g c =
    let system = c.args.keep.now.system in
    let kept = kept_in g.D.Disc.told c.args.keep.now in
    let own = c.args.own.now in
    let count = processes_by (slice_get system.classes c.args.class) in
    let same : processes_by (slice_get c.system.result.now.classes c.args.class)
    ≡ processes_by (slice_get c.args.keep.now.system.classes c.args.class) =
    ap (λ (s : System). processes_by (slice_get s.classes c.args.class)) c.system.ensures in
    found-in system kept own count (λ o k. process_meets system kept own o c.args.class (k + 1))
    c.in-Some.older c.loop-place.place (omega arith)
    (subst (IsOlderFound system kept own
    (λ older. process_meets system kept own older c.args.class (c.loop-place.place + 1))) c.in-Some.is
    c.in_ok-older.ensures)

pub returns : goal.returns
returns g c =
    let system = c.args.keep.now.system in
    let kept = kept_in g.D.Disc.told c.args.keep.now in
    let own = c.args.own.now in
    let count = processes_by (slice_get system.classes c.args.class) in
    let same : processes_by (slice_get c.system.result.now.classes c.args.class)
    ≡ processes_by (slice_get c.args.keep.now.system.classes c.args.class) =
    ap (λ (s : System). processes_by (slice_get s.classes c.args.class)) c.system.ensures in
    none-in system kept own count (λ o k. process_meets system kept own o c.args.class (k + 1))
    (λ k below. let lower : k < c.loop-place.place = omega arith in c.loop-place.invariant k lower)
