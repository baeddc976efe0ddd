use Rattle.pw_code_meaning.proofs.Bounds.{after_terminal, after_server}
use Rattle.pw_code_meaning.proofs.laws.verb_laws.Goals as goal

pub returns-clause-terminals : goal.returns-clause-terminals
returns-clause-terminals c = after_terminal

pub returns-clause-servers : goal.returns-clause-servers
returns-clause-servers c = after_server
