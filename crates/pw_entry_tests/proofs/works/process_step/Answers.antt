-- A process whose server stands at no verb has no step.
use Rattle.pw_world_store.specs.Keeps.{kept_in}
use Rattle.pw_entry_tests.proofs.Working.{no-step-quiet}
use Rattle.pw_entry_tests.proofs.works.process_step.Goals as goal

pub returns-in-None : goal.returns-in-None
returns-in-None g c =
    no-step-quiet c.args.keep.now.system (kept_in g.D.Disc.told c.args.keep.now) c.args.class c.args.process c.in-None.ensures
