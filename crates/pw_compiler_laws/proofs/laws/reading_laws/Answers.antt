use Rattle.pw_compiler_laws.proofs.Fitting.{program-fits}
use Rattle.pw_compiler_laws.proofs.Given.{tables-are, using-items}
use Rattle.pw_compiler_laws.proofs.Scanned.{tokens-say}
use Rattle.pw_compiler_laws.proofs.Showing.{screens-show}
use Rattle.pw_compiler_laws.proofs.numbers.Pieces.{procedure-read}
use Rattle.pw_compiler_laws.proofs.numbers.Sources.{requester-read, server-read}
use Rattle.pw_tree_meaning.proofs.sides.Pieces.{procedure-written}
use Rattle.pw_compiler_laws.proofs.laws.reading_laws.Goals as goal

pub returns : goal.returns
returns c = record {
  screens = screens-show;
  statements = procedure-written;
  calls = program-fits;
  parameters = using-items;
  numbers = tokens-say;
  literals = procedure-read;
  requester = requester-read;
  server = server-read;
  tables = tables-are;
}
