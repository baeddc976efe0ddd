use Rattle.pw_tree_meaning.proofs.storage.Initial.{initial-store}
use Rattle.pw_tree_meaning.proofs.storage.Named.{no-item}
use Rattle.pw_tree_meaning.proofs.Resolved.{each-got}
use Rattle.pw_tree_meaning.proofs.Stored.{IsLong, items-long}
use Rattle.pw_tree_meaning.proofs.laws.initial_laws.Goals as goal

pub returns : goal.returns
returns c = record {
  store = initial-store;
  long = λ server program store is same i k item got low high.
      each-got (IsLong store) program.layout.items i item (items-long server program store is same) got k low high;
  unnamed = λ server program name is some. no-item server program.layout is name some;
}
