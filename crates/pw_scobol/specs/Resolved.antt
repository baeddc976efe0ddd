-- When the names of a requester stand for something.
use Rattle.pw_code.specs.declared.links.Links.{Links}
use Rattle.pw_operands.specs.Resolved.{RequesterResolves}
use Rattle.pw_scobol.specs.declared.requester.Requester.{Requester}

-- Every name of a requester resolves, and every operand has its kind and length. How many arguments a CALL has, and how
-- long they are, is not looked at.
abbrev pub IsResolvedRequester : Requester → Links → Type 0
IsResolvedRequester requester links =
    RequesterResolves requester.layout requester.screens requester.procedure links
