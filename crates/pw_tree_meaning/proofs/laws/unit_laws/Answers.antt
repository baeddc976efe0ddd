use Rattle.pw_tree_meaning.proofs.Requesters.{deck-begins, deck-stops, deck-ends, deck-drops, deck-redoes, deck-fails}
use Rattle.pw_tree_meaning.proofs.laws.unit_laws.Goals as goal

pub returns : goal.returns
returns c = record {
  begins = deck-begins;
  stops = deck-stops;
  ends = deck-ends;
  drops = deck-drops;
  redoes = deck-redoes;
  fails = deck-fails;
}
