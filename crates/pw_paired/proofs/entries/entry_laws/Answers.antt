use Rattle.std.proofs.Common.{refl, None}
use Rattle.pw_onecopy.proofs.Update.{upd-same}
use Rattle.pw_paired.specs.End.{leave_unit_at}
use Rattle.pw_paired.proofs.SingleEntries.{begins-over, out-known, out-within}
use Rattle.pw_paired.proofs.entries.entry_laws.Goals as goal

pub returns : goal.returns
returns c = record {
  ended = λ sys state t ending. upd-same (leave_unit_at sys t ending state).memory t None t refl;
  again = λ state t. refl;
  restarted = λ sys state t cause. refl;
  counted = λ sys state p k primary answers. refl;
  within = out-within;
  known = out-known;
  waits = λ sys state c i op mode f status l. l.free;
  over = begins-over;
}
