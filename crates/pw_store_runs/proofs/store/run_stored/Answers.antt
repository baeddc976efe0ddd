use Rattle.std.proofs.Common.{subst, sym}
use Rattle.pw_compiled_deck.proofs.Decks.{refuses, whole-is}
use Rattle.pw_store_runs.proofs.Refusing.{deck-refuses, if-err, if-ok, trail-refuses, unlike}
use Rattle.pw_store_runs.proofs.Reporting.{store-runs}
use Rattle.pw_store_runs.specs.Stores.{RefusesStore}
use Rattle.pw_records.specs.Records.{AreAlike}
use Rattle.pw_store_runs.specs.declared.ending.StoreFault.{StoreFault}
use Rattle.pw_store_runs.proofs.store.run_stored.Goals as goal

pub returns-in-Err-clause-fault : goal.returns-in-Err-clause-fault
returns-in-Err-clause-fault g c =
    let trail = g.D.Disk.bytes c.args.disk in
    let least = g.D.Disk.faults c.args.disk in
    subst (RefusesStore g.D.Disk.faults c.args.first.now trail least c.args.bytes.now) (sym c.of_deck.ensures)
    (deck-refuses g.D.Disk.faults c.args.first.now trail least c.args.bytes.now c.in-Err.refusal
    (refuses c.args.bytes.now c.in-Err.refusal c.in-Err.ensures.gives))

pub returns-then-not-are_alike-clause-fault : goal.returns-then-not-are_alike-clause-fault
returns-then-not-are_alike-clause-fault g c =
    let whole = c.in-Ok.deck in
    let of = whole-is c.args.bytes.now whole c.in-Ok.ensures.gives in
    unlike g.D.Disk.faults c.args.first.now (g.D.Disk.bytes c.args.disk) (g.D.Disk.faults c.args.disk) c.args.bytes.now c.in-Ok-first_files.files c.in-Ok-first_files.ensures.ok
    whole of c.as_slice.result.now c.as_slice-2.result.now c.as_slice.ensures c.as_slice-2.ensures
    (c.are_alike.ensures.no c.if-not-are_alike.true)

pub returns-clause-runs : goal.returns-clause-runs
returns-clause-runs g c =
    let whole = c.in-Ok.deck in
    let reads = c.in-Ok.ensures in
    let of = whole-is c.args.bytes.now whole reads.gives in
    let files = c.in-Ok-first_files.files in
    let alike : AreAlike files whole.system.files =
    subst (λ (fs : _). AreAlike fs whole.system.files) c.as_slice.ensures
    (subst (λ (fs : _). AreAlike c.as_slice.result.now fs) c.as_slice-2.ensures (c.are_alike.ensures.yes c.if-not-are_alike.false)) in
    if-ok c.run_system.result c.run_system.ensures.runs (λ stored runs.
    store-runs c.runs_keep_their_promises.ensures c.runs_are_read_back.ensures.read c.failure_laws.ensures
    c.record_laws.ensures.valid c.record_laws.ensures.same c.record_laws.ensures.behaves
    c.args.bytes.now whole of reads.valid reads.behaves (reads.same of.deck of.says) reads.lines reads.few
    c.args.run.bounds.events c.args.run.bounds.room g.D.Disk.may_leave g.D.Disk.faults g.F.Follower.was_told c.args.first.now (g.D.Disk.bytes c.args.disk)
    (g.D.Disk.faults c.args.disk) files stored
    c.in-Ok-first_files.ensures.ok alike runs)

pub returns-clause-fault : goal.returns-clause-fault
returns-clause-fault g c =
    if-err c.run_system.result c.run_system.ensures.fault (λ (why : StoreFault g.row.D.Denot) refuses.
    trail-refuses g.D.Disk.faults c.args.first.now (g.D.Disk.bytes c.args.disk) (g.D.Disk.faults c.args.disk) c.args.bytes.now c.in-Ok-first_files.files c.in-Ok-first_files.ensures.ok
    why refuses)
