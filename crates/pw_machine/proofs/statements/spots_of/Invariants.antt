-- The spots so far, with those of the places that are left, are those of all.
use Rattle.std.proofs.Common.{◌≡◌, map, drop, length}
use Rattle.std.specs.Prelude.{All}
use Rattle.pw_code_meaning.specs.Reading.{spots_of}
use Rattle.pw_machine.specs.Views.{registers_by, spot_by, IsSpot}
use Rattle.pw_machine.proofs.StatementLemmas.{in_front}
use Rattle.pw_machine.proofs.statements.spots_of.Given as goal

abbrev pub invariant-loop-place : goal.invariant-loop-place
invariant-loop-place l = record {
  spots : in_front (map spot_by l.spots.items) (spots_of (registers_by l.registers) l.storage (drop l.place-index l.places))
      ≡ spots_of (registers_by l.registers) l.storage l.places;
  inside : All (IsSpot (length l.storage)) l.spots.items;
}
