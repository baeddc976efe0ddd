-- What is told is settled.
use Rattle.std.proofs.Common.{subst, sym}
use Rattle.pw_group_commit.proofs.Following.{ends-with}
use Rattle.pw_group_commit.specs.Followed.{AreLastOf}
use Rattle.pw_group_commit.specs.Grouped.{settled_units}
use Rattle.pw_group_commit.proofs.followed_log.FollowedLog.flush.Goals as goal

pub tell_settled-requires-clause-settled : goal.tell_settled-requires-clause-settled
tell_settled-requires-clause-settled g c =
    let own = c.self.inside in
    subst (AreLastOf (settled_units g.S.Synced.settled g.N.LogNaming.before c.flush.new.self)) (sym c.as_slice.ensures.value)
    (ends-with g.S.Synced.settled g.N.LogNaming.before g.F.Follower.was_told own.log c.flush.new.self own.waiting.items own.follower
    c.self.invariant c.in_ok-flush.ensures.settled)
