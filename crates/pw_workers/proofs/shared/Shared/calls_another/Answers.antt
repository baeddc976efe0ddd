use Rattle.std.proofs.Common.{◌≡◌, ◌∙◌, Bool, None, false, rules, subst, sym, true}
use Rattle.pw_base.proofs.Plain.{is_some-None}
use Rattle.pw_workers.specs.Calls.{IsCallWorth}
use Rattle.pw_workers.specs.Claims.{HasMore}
use Rattle.pw_workers.proofs.shared.Shared.calls_another.Goals as goal

pub returns : goal.returns
returns g c =
    let old = c.args.self.now in
    let told = g.D.Disc.told in
    let on : old.end ≡ None = is_some-None old.end (sym c.has_ended.ensures ∙ c.if-has_ended.false) in
    let worth : IsCallWorth old.calls = search rules in
    let is : c.has_more.result ≡ true = search rules in
    let more : HasMore told old true c.has_more.new.self = subst (λ (b : Bool). HasMore told old b c.has_more.new.self) is c.has_more.ensures in
    (on, (worth, (c.has_more.new.self, (more, c.call.ensures))))
