use Rattle.pw_base.proofs.FirstFault.{least-append, least-none, least-some}
use Rattle.pw_base.proofs.laws.first_fault_laws.Goals as goal

pub returns : goal.returns
returns c = record { append = least-append; none = least-none; some = least-some }
