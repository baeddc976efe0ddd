use Rattle.std.proofs.Common.{◌≡◌, ◌++◌, ◌∙◌, ap}
use Rattle.pw_expand.specs.Systems.{outcome_of}
use Rattle.pw_expand.proofs.Kept.{done-same}
use Rattle.pw_expand.proofs.systems.Systems.call.Goals as goal

pub returns : goal.returns
returns c =
    let made : c.extend_from_slice.new.self.items ≡ c.args.self.now.sent.items ++ c.in_ok-messages.messages.items =
    c.in_ok-extend_from_slice.ensures.items ∙ ap (λ ms. c.args.self.now.sent.items ++ ms) c.as_slice.ensures.value in
    done-same c.args.self.now.members.entries c.taken_out.new.members.entries c.put_in.new.members.entries c.args.system c.in_ok-member.member c.respond.new.member
    c.args.self.now.sent.items c.extend_from_slice.new.self.items c.in_ok-messages.messages.items (outcome_of c.args.call.now)
    c.in_ok-member.ensures.member c.taken_out.ensures.others c.in_ok-messages.ensures.after c.in_ok-messages.ensures.sent
    c.in_ok-put_in.ensures.member c.in_ok-put_in.ensures.others made
