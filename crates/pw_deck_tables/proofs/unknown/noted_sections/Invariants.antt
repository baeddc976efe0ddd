use Rattle.std.proofs.Common.{◌≡◌, drop}
use Rattle.std.specs.Prelude.{flat_map}
use Rattle.pw_base.specs.First.{least}
use Rattle.pw_deck_tables.specs.Unknown.{unknown_terminal}
use Rattle.pw_deck_tables.proofs.unknown.noted_sections.Given as goal

abbrev pub invariant-loop-section : goal.invariant-loop-section
invariant-loop-section l =
    least l.best (flat_map (unknown_terminal l.system) (drop l.section-index l.sections))
    ≡ least l.fn.known (flat_map (unknown_terminal l.system) l.sections)
