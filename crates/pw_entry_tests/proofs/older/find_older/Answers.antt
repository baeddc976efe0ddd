-- What is found at a class is found, and what is found at none is not.
use Rattle.std.proofs.Common.{◌≡◌, ◌<◌, ap, arith, length, subst, None}
use borrow.Author.Count.{below_more}
use Rattle.pw_code.specs.declared.system.System.{System}
use Rattle.pw_world_store.specs.Keeps.{kept_in}
use Rattle.pw_entry_tests.proofs.Anywhere.{found-in, none-in}
use Rattle.pw_entry_tests.specs.Causes.{IsOlderFound, class_meets}
use Rattle.pw_entry_tests.proofs.older.find_older.Goals as goal

pub loop-class-preserved : goal.loop-class-preserved
loop-class-preserved g c =
    let system = c.args.keep.now.system in
    let kept = kept_in g.D.Disc.told c.args.keep.now in
    let own = c.args.own.now in
    below_more (λ k. IsOlderFound system kept own (λ older. class_meets system kept own older k) None)
    c.loop-class.class c.loop-class.invariant
    (subst (IsOlderFound system kept own
    (λ older. class_meets system kept own older c.loop-class.class)) c.in_default.is
    c.in_ok-older.ensures)

pub returns-in-Some : goal.returns-in-Some
returns-in-Some g c =
    let system = c.args.keep.now.system in
    let kept = kept_in g.D.Disc.told c.args.keep.now in
    let own = c.args.own.now in
    let same : length c.system.result.now.classes ≡ length c.args.keep.now.system.classes =
    ap (λ (s : System). length s.classes) c.system.ensures in
    found-in system kept own (length system.classes) (λ o k. class_meets system kept own o k)
    c.in-Some.older c.loop-class.class (omega arith)
    (subst (IsOlderFound system kept own
    (λ older. class_meets system kept own older c.loop-class.class)) c.in-Some.is c.in_ok-older.ensures)

pub returns : goal.returns
returns g c =
    let system = c.args.keep.now.system in
    let kept = kept_in g.D.Disc.told c.args.keep.now in
    let own = c.args.own.now in
    let same : length c.system.result.now.classes ≡ length c.args.keep.now.system.classes =
    ap (λ (s : System). length s.classes) c.system.ensures in
    none-in system kept own (length system.classes) (λ o k. class_meets system kept own o k)
    (λ k below. let lower : k < c.loop-class.class = omega arith in c.loop-class.invariant k lower)
