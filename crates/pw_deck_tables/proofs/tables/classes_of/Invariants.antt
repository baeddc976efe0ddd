use Rattle.std.proofs.Common.{◌≡◌, map, take}
use Rattle.pw_deck_tables.specs.Tables.{class_from_command}
use Rattle.pw_deck_tables.proofs.tables.classes_of.Given as goal

abbrev pub invariant-loop-class : goal.invariant-loop-class
invariant-loop-class l = l.infos ≡ map (class_from_command l.servers) (take l.class-index l.classes)
