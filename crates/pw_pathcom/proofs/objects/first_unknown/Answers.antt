use Rattle.pw_pathcom.proofs.Unknowns.{all_unknown}
use Rattle.pw_pathcom.proofs.objects.first_unknown.Goals as goal

pub returns : goal.returns
returns c = all_unknown c.args.commands.now c.args.programs.now c.args.servers.now c.noted_terminals-best.result c.noted_classes.result c.noted_terminals-best.ensures c.noted_classes.ensures
