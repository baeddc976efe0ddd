use contract.Lifetimes.{Lfts}
use denote.Param.{param}
use denote.Param.Send.{IsSend, IsSync, sendable}
use Rattle.std.proofs.Crossing.{crosses}
use Rattle.pw_code.proofs.system.System.TheSendSync as system
use Rattle.pw_workers.proofs.Crossing.{lock}
use Rattle.pw_workers.proofs.workers.+start.Given as given
use Rattle.pw_workers.proofs.workers.+start.Lts-start as lts
use Rattle.pw_workers.proofs.workers.+start.Goals as goal

sent : (g : given.Over) (κs : Lfts 18) → IsSync (param 3 g.row.R) → IsSync (param 2 g.row.G) → IsSend (param 0 g.row.D) → IsSend (param 1 g.row.N)
    → IsSend (param 1 (lts.arg-1-1 g.row.D g.row.N g.row.G g.row.R g.D.laws g.N.laws g.G.laws g.R.laws g.D.Disc g.D.Disc-dict g.N.Naming g.N.Naming-dict g.G.Gate g.G.Gate-dict g.R.Threads g.R.Threads-dict g.R.Wait g.R.Wait-dict g.D.Destruct-dict κs))
sent g κs r q d n = search (lock, system.the_field_sync, sendable, crosses) depth 40 fits 8000

pub join-requires-send-F : goal.join-requires-send-F
join-requires-send-F g t c κs within = let r = c.requires.shared in sent g κs r.0 r.1.0 r.1.1.0 r.1.1.1
