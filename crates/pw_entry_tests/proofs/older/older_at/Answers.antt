-- What a process asks for is for the unit itself, or for another one, which is open.
use Rattle.std.proofs.Common.{sym, subst, ◌∙◌}
use Rattle.pw_world_store.specs.Keeps.{kept_in}
use Rattle.pw_entry_tests.proofs.Meets.{open-of-unit, runs-unit}
use Rattle.pw_entry_tests.proofs.OlderFound.{holder-found, never-none, quiet-found, worker-calm, worker-found, worker-younger}
use Rattle.pw_entry_tests.proofs.Opened.{terminal-of, unit-found}
use Rattle.pw_entry_tests.specs.Causes.{IsOlderFound, process_meets}
use Rattle.pw_entry_tests.proofs.older.older_at.Goals as goal

pub foresee-requires-clause-unit : goal.foresee-requires-clause-unit
foresee-requires-clause-unit g c κs within =
    runs-unit c.args.keep.now.system (kept_in g.D.Disc.told c.args.keep.now) c.requires.known
    c.args.class c.args.process
    c.in-Some.request.now c.in-Some.call.now c.in-Some.ensures c.args.own.now c.requires.open
    c.if-request-own.true

pub foresee-requires-clause-call : goal.foresee-requires-clause-call
foresee-requires-clause-call g c κs within =
    let stands = c.in-Some.ensures.stands in
    c.requires.known.calls c.args.class c.args.process stands.context c.in-Some.call.now stands.job
    stands.at_verb stands.asks

pub returns-in_default : goal.returns-in_default
returns-in_default g c =
    quiet-found c.args.keep.now.system (kept_in g.D.Disc.told c.args.keep.now) c.args.own.now
    c.requires.open c.args.class c.args.process
    c.in_default.ensures

pub returns-then-request-own : goal.returns-then-request-own
returns-then-request-own g c =
    let system = c.args.keep.now.system in
    let kept = kept_in g.D.Disc.told c.args.keep.now in
    let own = c.args.own.now in
    subst (IsOlderFound system kept own
    (λ older. process_meets system kept own older c.args.class c.args.process))
    (sym c.older_holder.ensures)
    (holder-found system kept own c.requires.open c.args.class c.args.process c.requires.known
    c.in-Some.request.now c.in-Some.call.now
    c.in-Some.ensures c.if-request-own.true c.in_ok-foresee.field-0 c.in_ok-foresee.ensures)

pub returns-in_default-open_unit : goal.returns-in_default-open_unit
returns-in_default-open_unit g c =
    λ older h.
    never-none c.args.keep.now.system (kept_in g.D.Disc.told c.args.keep.now) c.args.own.now
    c.requires.open c.args.class c.args.process
    c.requires.known c.in-Some.request.now c.in-Some.call.now c.in-Some.ensures
    (sym c.open_unit.ensures ∙ c.in_default-open_unit.is)

pub returns-then-worker-own : goal.returns-then-worker-own
returns-then-worker-own g c =
    let system = c.args.keep.now.system in
    let kept = kept_in g.D.Disc.told c.args.keep.now in
    let request = c.in-Some.request.now in
    let worker = c.in-Some-open_unit.worker in
    worker-younger system kept c.args.own.now c.requires.open c.args.class c.args.process
    c.requires.known request c.in-Some.call.now
    c.in-Some.ensures c.if-request-own.false worker
    (unit-found system kept c.requires.known request.terminal worker
    (sym c.open_unit.ensures ∙ c.in-Some-open_unit.is))
    (sym (terminal-of system kept request.terminal worker
    (sym c.open_unit.ensures ∙ c.in-Some-open_unit.is))) c.if-worker-own.true

pub awaits-requires-clause-call : goal.awaits-requires-clause-call
awaits-requires-clause-call g c κs within =
    let stands = c.in-Some.ensures.stands in
    c.requires.known.calls c.args.class c.args.process stands.context c.in-Some.call.now stands.job
    stands.at_verb stands.asks

pub awaits-requires-clause-unit : goal.awaits-requires-clause-unit
awaits-requires-clause-unit g c κs within =
    let system = c.args.keep.now.system in
    let kept = kept_in g.D.Disc.told c.args.keep.now in
    let worker = c.in-Some-open_unit.worker in
    open-of-unit system kept c.requires.known worker
    (unit-found system kept c.requires.known c.in-Some.request.now.terminal worker
    (sym c.open_unit.ensures ∙ c.in-Some-open_unit.is))

pub awaits-requires-clause-holder : goal.awaits-requires-clause-holder
awaits-requires-clause-holder g c κs within =
    open-of-unit c.args.keep.now.system (kept_in g.D.Disc.told c.args.keep.now) c.requires.known
    c.args.own.now c.requires.open

pub awaits-requires-clause-apart : goal.awaits-requires-clause-apart
awaits-requires-clause-apart g c κs within =
    λ same.
    c.if-request-own.false
    (sym (terminal-of c.args.keep.now.system (kept_in g.D.Disc.told c.args.keep.now)
    c.in-Some.request.now.terminal c.in-Some-open_unit.worker
    (sym c.open_unit.ensures ∙ c.in-Some-open_unit.is)) ∙ same)

pub returns-then-branch : goal.returns-then-branch
returns-then-branch g c =
    let system = c.args.keep.now.system in
    let kept = kept_in g.D.Disc.told c.args.keep.now in
    let request = c.in-Some.request.now in
    let worker = c.in-Some-open_unit.worker in
    worker-found system kept c.args.own.now c.requires.open c.args.class c.args.process c.requires.known
    request c.in-Some.call.now
    c.in-Some.ensures c.if-request-own.false worker
    (unit-found system kept c.requires.known request.terminal worker
    (sym c.open_unit.ensures ∙ c.in-Some-open_unit.is))
    (sym (terminal-of system kept request.terminal worker
    (sym c.open_unit.ensures ∙ c.in-Some-open_unit.is))) c.if-worker-own.false
    (sym c.in_ok-awaits.ensures ∙ c.if-branch.true)

pub returns-else-branch : goal.returns-else-branch
returns-else-branch g c =
    let system = c.args.keep.now.system in
    let kept = kept_in g.D.Disc.told c.args.keep.now in
    let request = c.in-Some.request.now in
    let worker = c.in-Some-open_unit.worker in
    worker-calm system kept c.args.own.now c.requires.open c.args.class c.args.process c.requires.known
    request c.in-Some.call.now
    c.in-Some.ensures c.if-request-own.false worker
    (unit-found system kept c.requires.known request.terminal worker
    (sym c.open_unit.ensures ∙ c.in-Some-open_unit.is))
    (sym (terminal-of system kept request.terminal worker
    (sym c.open_unit.ensures ∙ c.in-Some-open_unit.is)))
    (sym c.in_ok-awaits.ensures ∙ c.if-branch.false)
