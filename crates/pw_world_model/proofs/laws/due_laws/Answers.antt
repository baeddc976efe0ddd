use Rattle.pw_world_model.proofs.Dues.{due-is, first-is, next-is}
use Rattle.pw_world_model.proofs.laws.due_laws.Goals as goal

pub returns-clause-first : goal.returns-clause-first
returns-clause-first c = first-is

pub returns-clause-due : goal.returns-clause-due
returns-clause-due c tcps classes pair_of lines log book owner is low = due-is tcps classes pair_of lines log book is owner low

pub returns-clause-next : goal.returns-clause-next
returns-clause-next c tcps classes pair_of lines log book entry is low = next-is tcps classes pair_of lines log book is entry low
