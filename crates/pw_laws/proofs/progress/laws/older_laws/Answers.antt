use Rattle.pw_laws.proofs.BeginsOnce.{older-once}
use Rattle.pw_laws.proofs.OpenThen.{open-then}
use Rattle.pw_laws.proofs.progress.laws.older_laws.Goals as goal

pub returns : goal.returns
returns c = record { differ = older-once; open_before = open-then }
