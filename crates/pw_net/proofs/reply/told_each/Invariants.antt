use Rattle.std.proofs.Common.{◌≡◌, map, take}
use Rattle.pw_net.specs.Rules.{told}
use Rattle.pw_net.proofs.reply.told_each.Given as goal

abbrev pub invariant-loop-to : goal.invariant-loop-to
invariant-loop-to l = l.messages.items ≡ map (told l.own l.id l.word) (take l.to-index l.others)
