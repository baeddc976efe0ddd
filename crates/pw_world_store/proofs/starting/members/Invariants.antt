-- What is left to be looked at leads to all.
use Rattle.std.proofs.Common.{◌≡◌, ◌++◌, drop}
use Rattle.pw_world_state.specs.Members.{members_from}
use Rattle.pw_world_store.proofs.starting.members.Given as goal

abbrev pub invariant-loop-place : goal.invariant-loop-place
invariant-loop-place l = l.members.items ++ members_from l.tcp l.place (drop l.place l.terminals) ≡ members_from l.tcp 0 l.terminals
