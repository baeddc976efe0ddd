use Rattle.pw_pathcom.proofs.Orders.{too_many}
use Rattle.pw_pathcom.proofs.verb.command_of.Goals as goal

pub returns-then-not-is_blank : goal.returns-then-not-is_blank
returns-then-not-is_blank c =
    too_many _ _ _ _ _ _ _ _ _ c.in_ok-first.ensures.cases c.in_ok-second.ensures.cases c.in_ok-third.ensures.cases c.in-Some.ensures.cases c.if-not-is_blank.ensures
