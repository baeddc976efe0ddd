use Rattle.pw_laws.proofs.decided.Blocks.{block, serial}
use Rattle.pw_laws.proofs.legal.laws.block_laws.Goals as goal

pub returns : goal.returns
returns c = record { blocks = block; orders = serial }
