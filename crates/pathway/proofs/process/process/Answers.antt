use Rattle.std.proofs.Common.{refl, ◌∙◌, ap, map, subst}
use Rattle.std.specs.Prelude.{string_bytes}
use Rattle.pathway.specs.Commands.{is_for_program}
use Rattle.pathway.specs.Statuses.{AsksSource}
use Rattle.pathway.proofs.Calls.{ends-memory, ends-same}
use Rattle.pathway.proofs.process.process.Goals as goal

pub returns-in_default-clause-ends : goal.returns-in_default-clause-ends
returns-in_default-clause-ends g c = ends-memory _ _ (c.from.ensures ∙ c.number.ensures) refl refl refl

pub returns-clause-ends : goal.returns-clause-ends
returns-clause-ends g c =
    ends-same _ _ _ _ (ap (map string_bytes) c.as_slice.ensures.value ∙ c.in-Ok.ensures.told) c.from-2.ensures c.pathway.ensures.ends

pub returns-clause-unread : goal.returns-clause-unread
returns-clause-unread g c none = c.pathway.ensures.unread (λ asks.
    none (subst (AsksSource is_for_program) (ap (map string_bytes) c.as_slice.ensures.value ∙ c.in-Ok.ensures.told) asks))
