use Rattle.std.proofs.Common.{◌≡◌, []}
use Rattle.std.specs.Option.{option_map}
use Rattle.pw_sections.specs.Entries.{pairs_of, parts_behind}
use Rattle.pw_sections.proofs.Spans.{size_left}
use Rattle.pw_sections.proofs.entry.pairs_of.Given as goal

abbrev pub invariant-loop-rest : goal.invariant-loop-rest
invariant-loop-rest l =
    pairs_of l.pairs (parts_behind (option_map (λ text. text.now) l.rest)) ≡ pairs_of [] (parts_behind (option_map (λ text. text.now) l.fn.line))

abbrev pub decreases-loop-rest : goal.decreases-loop-rest
decreases-loop-rest l = size_left (option_map (λ text. text.now) l.rest)
