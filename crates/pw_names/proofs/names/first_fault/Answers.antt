use Rattle.std.proofs.Common.{◌≡◌, IfOk, subst, ◌∙◌}
use Rattle.pw_names.proofs.Accepted.{first-all}
use Rattle.pw_names.proofs.names.first_fault.Goals as goal

pub returns : goal.returns
returns c =
    subst (λ whole. IfOk c.servers_fault.result (λ found. found ≡ whole))
    (first-all c.args.requesters.now c.args.servers.now c.args.links.now c.in_ok-outside.outside.links c.in_ok-outside.outside.usings c.in_ok-found.found c.in_ok-found.ensures
    (c.in_ok-outside.ensures.usings ∙ c.in_ok-usings.ensures) c.in_ok-outside.ensures.links)
    c.servers_fault.ensures
