use Rattle.pw_machine.proofs.RoomLemmas.{room_of_terminals, room_of_servers}
use Rattle.pw_machine.proofs.laws.room_laws.Goals as goal

pub returns-clause-terminals : goal.returns-clause-terminals
returns-clause-terminals c = room_of_terminals

pub returns-clause-servers : goal.returns-clause-servers
returns-clause-servers c = room_of_servers
