use Rattle.std.proofs.Common.{◌≡◌, map, take}
use Rattle.pw_deck.proofs.named.requester_names.Given as goal

abbrev pub invariant-loop-requester : goal.invariant-loop-requester
invariant-loop-requester l = l.names ≡ map (λ requester. requester.name) (take l.requester-index l.requesters)
