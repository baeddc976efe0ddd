use Rattle.pw_program_laws.proofs.Servers.{program-replies}
use Rattle.pw_program_laws.proofs.laws.servers_reply_as_their_statements_meet.Goals as goal
use Rattle.pw_tree_meaning.specs.Program.{program_at}

pub returns : goal.returns
returns g c = λ deck q sizes message files sized met.
    program-replies deck (program_at deck.servers q) sizes message (g.F.ReplyFact.holds message files) files sized met
