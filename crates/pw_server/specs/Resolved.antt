-- When the names of a server stand for something.
use Rattle.pw_code.specs.declared.links.Links.{Links}
use Rattle.pw_operands.specs.Resolved.{ServerResolves}
use Rattle.pw_server.specs.declared.server.Server.{Server}

-- every name of a server resolves, and every operand has its kind and length
abbrev pub IsResolvedServer : Server → Links → Type 0
IsResolvedServer server links = ServerResolves server.layout server.procedure links
