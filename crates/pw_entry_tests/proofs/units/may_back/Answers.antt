-- The test of what was read.
use Rattle.std.proofs.Common.{◌∙◌}
use Rattle.pw_world_store.specs.Keeps.{kept_in}
use Rattle.pw_entry_tests.proofs.AtVerb.{told-at}
use Rattle.pw_entry_tests.proofs.EndTests.{back-same}
use Rattle.pw_entry_tests.proofs.units.may_back.Goals as goal

pub returns-in-Some : goal.returns-in-Some
returns-in-Some g c =
    let kept = kept_in g.D.Disc.told c.args.keep.now in
    let t = c.args.terminal in
    let context = c.in-Some.at.now.context in
    c.is_dropped_by.ensures
    ∙ (back-same c.args.keep.now.system kept t context c.args.unit c.in-Some.at.now.verb c.in-Some.ensures.verb ∙ told-at c.args.keep.now.system kept t c.stepping.result c.in-Some.at c.stepping.ensures.context c.in-Some.is _)
