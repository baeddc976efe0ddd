-- A server that has been read stands at a verb.
use Rattle.std.proofs.Common.{sym}
use Rattle.pw_world_store.specs.Keeps.{kept_in}
use Rattle.pw_entry_tests.proofs.CallLemmas.{works-none}
use Rattle.pw_entry_tests.proofs.classes.may_reply.Goals as goal

pub returns-in-None : goal.returns-in-None
returns-in-None g c =
    λ read.
    sym (works-none c.args.keep.now.system (kept_in g.D.Disc.told c.args.keep.now) c.args.class c.args.process c.in-None.ensures read _)
