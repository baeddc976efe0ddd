use Rattle.std.proofs.Common.{◌∙◌, Some, ap, sym}
use Rattle.std.specs.Option.{option_copied}
use Rattle.pw_world.proofs.world.World.work_for.Goals as goal

pub run_for-requires-clause-given : goal.run_for-requires-clause-given
run_for-requires-clause-given g c κs within =
    sym c.unread.ensures ∙ (ap option_copied c.in-Some.is ∙ ap Some (sym c.in_ok-work.ensures))
