use Rattle.std.proofs.Common.{◌≡◌, ◌∙◌, rules, tests, map, subst}
use Rattle.std.proofs.lemmas.Iterator.{YieldsList-from_map, items_from_collect}
use Rattle.std.proofs.lemmas.Iterator.Consumers.{YieldsList-at, YieldsList-from_rest}
use Rattle.pw_net.specs.Kept.{since}
use Rattle.pw_net.specs.Member.{Member, mark_in}
use Rattle.pw_net.proofs.Kept.{marks-now}
use Rattle.pw_net.proofs.member.Member.marks.Goals as goal

pub returns : goal.returns
returns c =
    let read = items_from_collect c.collect.result c.collect.ensures.ran
    (YieldsList-from_map _ (λ e. (e.0, mark_in (since c.self.inside.lost e.0.number e.1)))
    (YieldsList-at c.map.ensures.source (YieldsList-from_rest c.self.inside.standings.entries c.iter.ensures.rest)) c.map.ensures.closure (λ x r q k. search (rules, tests))) in
    let items : c.in_ok-marks.marks.items ≡ map (λ e. (e.0, mark_in (since c.self.inside.lost e.0.number e.1))) c.self.inside.standings.entries = search rules in
    subst (λ (m : Member). c.in_ok-marks.marks.items ≡ map (λ e. (e.0, mark_in e.1)) m.standings) c.self.view_is
    (items ∙ marks-now c.self.inside.lost c.self.inside.standings.entries)
