-- Where the verb is no operation, none is asked.
use Rattle.std.proofs.Common.{ap, sym, ◌∙◌}
use Rattle.std.specs.Option.{option_copied}
use Rattle.pw_world_store.specs.Keeps.{kept_in}
use Rattle.pw_entry_tests.proofs.CallLemmas.{no-call}
use Rattle.pw_entry_tests.proofs.classes.call_at.Goals as goal

pub returns-in-None : goal.returns-in-None
returns-in-None g c =
    no-call c.args.keep.now.system (kept_in g.D.Disc.told c.args.keep.now) c.args.class c.args.process (option_copied c.verb_at.result)
    c.verb_at.ensures (sym c.file_call.ensures ∙ ap option_copied c.in-None.is)
