-- The note of what is looked up.
use Rattle.pw_world_store.specs.Keeps.{kept_in}
use Rattle.pw_entry_tests.proofs.OwnSteps.{noted}
use Rattle.pw_entry_tests.proofs.own.note_at.Goals as goal

pub returns : goal.returns
returns g c =
    noted c.args.keep.now.system (kept_in g.D.Disc.told c.args.keep.now) c.args.terminal c.requires.there c.args.at.now c.requires.at c.args.own.now c.requires.own
    c.plain_note_at-plain.result c.plain_note_at-plain.ensures c.is_needed_start_held.result c.is_needed_end_held.result c.is_needed_start_held.ensures
    c.is_needed_end_held.ensures
