use Rattle.std.proofs.Common.{◌≡◌, map, take}
use Rattle.pw_deck_tables.proofs.tables.tcp_names.Given as goal

abbrev pub invariant-loop-tcp : goal.invariant-loop-tcp
invariant-loop-tcp l = l.names ≡ map (λ tcp. tcp.name) (take l.tcp-index l.tcps)
