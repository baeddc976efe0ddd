-- What a process asks for meets the units as it says, and one that asks for nothing meets none.
use Rattle.std.proofs.Common.{◌≡◌, subst, sym}
use Rattle.std.specs.Prelude.{IfOk}
use Rattle.pw_world_store.specs.Keeps.{kept_in}
use Rattle.pw_entry_tests.proofs.ByRequest.{meets-by}
use Rattle.pw_entry_tests.proofs.Meets.{quiet-meets}
use Rattle.pw_entry_tests.proofs.older.process_meets.Goals as goal

pub call_meets-requires-clause-call : goal.call_meets-requires-clause-call
call_meets-requires-clause-call g c κs within =
    let stands = c.in-Some.ensures.stands in
    c.requires.known.calls c.args.class c.args.process stands.context c.in-Some.call.now stands.job
    stands.at_verb stands.asks

pub returns-in-Some : goal.returns-in-Some
returns-in-Some g c =
    subst (λ b. IfOk c.call_meets.result (λ found. found ≡ b))
    (sym (meets-by c.args.keep.now.system (kept_in g.D.Disc.told c.args.keep.now) c.requires.known
    c.args.class c.args.process
    c.in-Some.request.now c.in-Some.call.now c.in-Some.ensures c.args.one.now c.args.other.now
    c.requires.one c.requires.other c.requires.apart))
    c.call_meets.ensures

pub returns-in-None : goal.returns-in-None
returns-in-None g c =
    sym (quiet-meets c.args.keep.now.system (kept_in g.D.Disc.told c.args.keep.now) c.args.class
    c.args.process c.in-None.ensures
    c.args.one.now c.args.other.now)
