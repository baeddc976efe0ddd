-- Units that are open may be asked of the disc.
use Rattle.pw_world_store.specs.Keeps.{kept_in}
use Rattle.pw_entry_tests.proofs.Meets.{open-of-unit}
use Rattle.pw_entry_tests.proofs.older.call_meets.Goals as goal

pub awaits-requires-clause-unit : goal.awaits-requires-clause-unit
awaits-requires-clause-unit g c κs within =
    open-of-unit c.args.keep.now.system (kept_in g.D.Disc.told c.args.keep.now) c.requires.known
    c.args.one.now c.requires.one

pub awaits-requires-clause-holder : goal.awaits-requires-clause-holder
awaits-requires-clause-holder g c κs within =
    open-of-unit c.args.keep.now.system (kept_in g.D.Disc.told c.args.keep.now) c.requires.known
    c.args.other.now c.requires.other
