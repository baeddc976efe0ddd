use Rattle.pw_compiled_deck.proofs.Whole.{deck-sound, deck-fits, system-valid, system-same, deck-behaves, lines-few, lines-there}
use Rattle.pw_compiled_deck.proofs.laws.whole_laws.Goals as goal

pub returns : goal.returns
returns c = record {
  sound = deck-sound;
  fitting = deck-fits;
  valid = system-valid;
  same = system-same;
  behaves = deck-behaves;
  few = lines-few;
  lines = lines-there;
}
