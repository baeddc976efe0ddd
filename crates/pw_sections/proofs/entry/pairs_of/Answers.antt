use Rattle.std.proofs.Common.{Bor, List, ℕ, Option, Some, None, sym, ap, ◌∙◌}
use Rattle.std.specs.Option.{option_map}
use Rattle.pw_sections.specs.Entries.{parts_behind, pairs_of}
use Rattle.pw_sections.proofs.Spans.{pair_turn, pairs_end}
use Rattle.pw_sections.proofs.entry.pairs_of.Goals as goal

-- the parts of what is left
abbrev left : Option (Bor (List ℕ)) → List (List ℕ)
left rest = parts_behind (option_map (λ text. text.now) rest)

pub loop-rest-preserved : goal.loop-rest-preserved
loop-rest-preserved c =
    pair_turn c.loop-rest.pairs (Some c.in-Some-2.more) c.split_part.result.0.now (left c.loop-rest.rest) (left c.split_part.result.1) _
    (ap left c.in-Some.is ∙ c.split_part.ensures.parts) (sym c.in-Some-2.is ∙ c.in_ok-more.ensures) c.loop-rest.invariant

pub returns-in_default-2-clause-value : goal.returns-in_default-2-clause-value
returns-in_default-2-clause-value c =
    pair_turn c.loop-rest.pairs None c.split_part.result.0.now (left c.loop-rest.rest) (left c.split_part.result.1) _
    (ap left c.in-Some.is ∙ c.split_part.ensures.parts) (sym c.in_default-2.is ∙ c.in_ok-more.ensures) c.loop-rest.invariant

pub returns-clause-value : goal.returns-clause-value
returns-clause-value c =
    ap (λ pairs. Some pairs) c.into_list.ensures.pairs
    ∙ pairs_end c.loop-rest.pairs _ (ap (λ r. pairs_of c.loop-rest.pairs (left r)) (sym c.in_default.is) ∙ c.loop-rest.invariant)
