-- None waits any more.
use Rattle.std.proofs.Common.{refl}
use Rattle.pw_group_commit.specs.Grouped.{GroupState, group_state}
use Rattle.pw_group_commit.proofs.Grouping.{flushed-kept}
use Rattle.pw_group_commit.proofs.group_log.GroupLog.flush.Goals as goal

pub invariant_of-self-2 : goal.invariant_of-self-2
invariant_of-self-2 g c =
    let own = c.self.inside in
    let log = c.append_group.new.self in
    let old : GroupState g.row.S.Denot = group_state own.log.files own.log.disk own.log.is_broken own.group.bytes.items own.count in
    let new : GroupState g.row.S.Denot = group_state log.files log.disk log.is_broken c.clear.new.self.bytes.items 0 in
    flushed-kept g.S.Synced.held g.S.Synced.images g.S.Synced.settled g.S.Synced.faulted g.N.LogNaming.files g.N.LogNaming.before
    g.N.LogNaming.least old c.self.invariant new (g.met.S.Synced.settled_may_stay log.disk) c.append_group.ensures.files
    c.in_ok-append_group.ensures.goes_on.0 c.in_ok-append_group.ensures.goes_on.1 c.append_group.ensures.count
    c.in_ok-append_group.ensures.held c.in_ok-append_group.ensures.stored c.clear.ensures refl
