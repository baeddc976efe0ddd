use Rattle.std.proofs.Common.{◌≡◌, ◌++◌, ◌+◌, ◌-◌}
use Rattle.pw_gen.specs.Generated.{text_of, sections_from}
use Rattle.pw_gen.proofs.generate.put_sections.Given as goal

abbrev pub invariant-loop-terminal : goal.invariant-loop-terminal
invariant-loop-terminal l =
    l.text ++ text_of (sections_from (l.terminals - l.terminal) (l.terminal + 1) l.number)
    ≡ l.initial.text ++ text_of (sections_from l.terminals 1 l.seed)
