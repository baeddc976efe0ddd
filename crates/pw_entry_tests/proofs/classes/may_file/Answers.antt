-- What is known of a process that asks for an operation, and of one that asks for none.
use Rattle.std.proofs.Common.{sym}
use Rattle.pw_world_store.specs.Keeps.{kept_in}
use Rattle.pw_world_state.specs.ClassTests.{is_call_for}
use Rattle.pw_entry_tests.proofs.Meets.{quiet-file}
use Rattle.pw_entry_tests.proofs.classes.may_file.Goals as goal

pub is_call-requires-clause-runs : goal.is_call-requires-clause-runs
is_call-requires-clause-runs g c κs within =
    c.requires.known.works c.args.class c.args.process c.in-Some.request.now c.in-Some.ensures.works

pub is_call-requires-clause-call : goal.is_call-requires-clause-call
is_call-requires-clause-call g c κs within =
    let stands = c.in-Some.ensures.stands in
    c.requires.known.calls c.args.class c.args.process stands.context c.in-Some.call.now stands.job stands.at_verb stands.asks

pub returns-in-None : goal.returns-in-None
returns-in-None g c =
    λ read.
    let kept = kept_in g.D.Disc.told c.args.keep.now in
    let told = c.args.told.now in
    sym (quiet-file c.args.keep.now.system kept c.args.class c.args.process c.in-None.ensures read
    (λ request. is_call_for kept told.op told.mode told.file told.status request))
