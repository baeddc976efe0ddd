use Rattle.std.proofs.Common.{◌≡◌, ◌++◌, map, take, drop}
use Rattle.pw_pathcom.specs.Reading.{start_tcp}
use Rattle.pw_pathcom.proofs.reading.start_tcps.Given as goal

abbrev pub invariant-loop-tcp : goal.invariant-loop-tcp
invariant-loop-tcp l =
    l.tcp-items ≡ map (start_tcp l.line l.name) (take l.tcp-index l.initial.tcp-items) ++ drop l.tcp-index l.initial.tcp-items
