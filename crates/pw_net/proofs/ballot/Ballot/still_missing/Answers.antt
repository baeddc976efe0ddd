use Rattle.std.proofs.Common.{◌≡◌, ◌==◌, ℕ, rules, not, refl}
use Rattle.std.specs.Prelude.{filter}
use Rattle.std.proofs.lemmas.Fn.{filter_same}
use Rattle.pw_net.proofs.ballot.Ballot.still_missing.Goals as goal

pub returns : goal.returns
returns c =
    let stays = λ (other : ℕ). not (other == c.args.system) in
    let kept : c.retain.new.self.items ≡ filter stays c.in_ok-left.left.items =
    filter_same _ stays _ (λ x b f' k. search rules) _ _ c.retain.ensures.filtered in
    let copied : c.in_ok-left.left.items ≡ c.self.inside.missing.items = search rules in
    rw (← c.self.view_is, kept, copied) refl
