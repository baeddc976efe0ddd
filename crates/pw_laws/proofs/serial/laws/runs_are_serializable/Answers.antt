use Rattle.pw_laws.proofs.blocks.Serializable.{is-serializable}
use Rattle.pw_laws.proofs.serial.laws.runs_are_serializable.Goals as goal

pub returns : goal.returns
returns c = is-serializable
