-- The entry that the next step names is a step, and where a terminal stands nowhere it has none at its verb.
use Rattle.std.proofs.Common.{◌≡◌, Option, None, Some}
use Rattle.pw_code.specs.declared.context.Context.{Context}
use Rattle.pw_event.specs.declared.event.Event.{Event}
use Rattle.pw_world_store.specs.Keeps.{kept_in}
use Rattle.pw_world_state.specs.NextSteps.{standing}
use Rattle.pw_entry_tests.proofs.At.{read-at, read-none}
use Rattle.pw_entry_tests.proofs.AtVerb.{none-still}
use Rattle.pw_entry_tests.proofs.OwnSteps.{for-none, for-one, found, stands-nowhere}
use Rattle.pw_entry_tests.specs.Known.{StandsThere}
use Rattle.pw_entry_tests.specs.Steps.{next_entry_at}
use Rattle.pw_entry_tests.proofs.own.own_step.Goals as goal

pub step_at-requires-clause-at : goal.step_at-requires-clause-at
step_at-requires-clause-at g c κs within =
    let stands = standing c.args.keep.now.system (kept_in g.D.Disc.told c.args.keep.now) c.args.terminal in
    record {
      stands = read-at c.standing.result c.in-Some.at stands c.standing.ensures.context c.in-Some.is;
      verb = c.in-Some.ensures.verb;
      counts = c.in-Some.ensures.counts;
    }

pub step_at-requires-clause-next : goal.step_at-requires-clause-next
step_at-requires-clause-next g c κs within =
    let stands = standing c.args.keep.now.system (kept_in g.D.Disc.told c.args.keep.now) c.args.terminal in
    c.requires.next c.in-Some.at.now.context (read-at c.standing.result c.in-Some.at stands c.standing.ensures.context c.in-Some.is)

pub returns-in-Some-clause-named : goal.returns-in-Some-clause-named
returns-in-Some-clause-named g c =
    let system = c.args.keep.now.system in
    let kept = kept_in g.D.Disc.told c.args.keep.now in
    let t = c.args.terminal in
    let stands = standing system kept t in
    for-one stands (λ context. c.step_at.result ≡ next_entry_at system kept t context) c.in-Some.at.now.context
    (read-at c.standing.result c.in-Some.at stands c.standing.ensures.context c.in-Some.is) c.step_at.ensures

pub returns-in-Some-clause-found : goal.returns-in-Some-clause-found
returns-in-Some-clause-found g c =
    let system = c.args.keep.now.system in
    let kept = kept_in g.D.Disc.told c.args.keep.now in
    let t = c.args.terminal in
    let is : standing system kept t ≡ Some c.in-Some.at.now.context =
    read-at c.standing.result c.in-Some.at (standing system kept t) c.standing.ensures.context c.in-Some.is
    in
    let stands : StandsThere system kept t c.in-Some.at.now = record {
      stands = is;
      verb = c.in-Some.ensures.verb;
      counts = c.in-Some.ensures.counts;
    } in
    found system kept t c.requires.there c.in-Some.at.now stands (c.requires.next c.in-Some.at.now.context is) c.step_at.result c.step_at.ensures

pub returns-in-None-clause-named : goal.returns-in-None-clause-named
returns-in-None-clause-named g c =
    let system = c.args.keep.now.system in
    let kept = kept_in g.D.Disc.told c.args.keep.now in
    let t = c.args.terminal in
    let none : Option Event = None in
    for-none (standing system kept t) (λ (context : Context). none ≡ next_entry_at system kept t context)
    (read-none c.standing.result (standing system kept t) c.standing.ensures.context c.in-None.is)

pub returns-in-None-clause-found : goal.returns-in-None-clause-found
returns-in-None-clause-found g c =
    let system = c.args.keep.now.system in
    let kept = kept_in g.D.Disc.told c.args.keep.now in
    let t = c.args.terminal in
    none-still system kept t
    (stands-nowhere system kept t (read-none c.standing.result (standing system kept t) c.standing.ensures.context c.in-None.is))
