use Rattle.std.proofs.Common.{◌≡◌, map, take}
use Rattle.pw_deck.proofs.named.server_names.Given as goal

abbrev pub invariant-loop-server : goal.invariant-loop-server
invariant-loop-server l = l.names ≡ map (λ server. server.name) (take l.server-index l.servers)
