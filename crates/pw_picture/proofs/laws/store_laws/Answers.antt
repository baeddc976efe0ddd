-- The digits that are written are read again.
use Rattle.pw_picture.proofs.Reading.{read-moved}
use Rattle.pw_picture.proofs.laws.store_laws.Goals as goal

pub returns-clause-read : goal.returns-clause-read
returns-clause-read c = read-moved
