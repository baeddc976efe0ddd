use Rattle.std.proofs.Common.{sym}
use Rattle.pw_terminal.proofs.Cells.{length-digits_of}
use Rattle.pw_machine.proofs.texts.text_len.Goals as goal

pub returns-in-Register : goal.returns-in-Register
returns-in-Register c = rw c.in-Register.is (sym (length-digits_of c.in-Register.digits c.in-Register.value))
