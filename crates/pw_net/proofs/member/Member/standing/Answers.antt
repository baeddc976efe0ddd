use Rattle.std.proofs.Common.{◌≡◌, ◌∙◌, ap, sym, subst, Some, None}
use Rattle.std.specs.Option.{option_copied, option_map}
use Rattle.pw_net.specs.Kept.{since}
use Rattle.pw_net.specs.Member.{Member, standing_of}
use Rattle.pw_net.proofs.Kept.{found-now}
use Rattle.pw_net.proofs.member.Member.standing.Goals as goal

pub returns-in-Some : goal.returns-in-Some
returns-in-Some c =
    let kept = sym (ap option_copied c.in-Some.is) ∙ c.get.ensures.value in
    let now = ap (option_map (since c.self.inside.lost c.args.id.number)) kept in
    let same = ap Some c.since.ensures ∙ (now ∙ sym (found-now c.self.inside.lost c.args.id c.self.inside.standings.entries)) in
    subst (λ (m : Member). Some c.since.result.now ≡ standing_of m c.args.id) c.self.view_is same

pub returns-in-None : goal.returns-in-None
returns-in-None c =
    let kept = sym (ap option_copied c.in-None.is) ∙ c.get.ensures.value in
    let now = ap (option_map (since c.self.inside.lost c.args.id.number)) kept in
    let same = now ∙ sym (found-now c.self.inside.lost c.args.id c.self.inside.standings.entries) in
    subst (λ (m : Member). None ≡ standing_of m c.args.id) c.self.view_is same
