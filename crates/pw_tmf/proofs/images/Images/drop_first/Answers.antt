use Rattle.std.proofs.Common.{◌≡◌, length, rules, subst, ◌∙◌}
use Rattle.pw_tmf.specs.Placed.{AreFiled}
use Rattle.pw_tmf.proofs.PlacedLemmas.{filed-pop}
use Rattle.pw_tmf.proofs.images.Images.drop_first.Goals as goal

pub invariant_of-self : goal.invariant_of-self
invariant_of-self c =
    let many : c.len.result ≡ length c.pop.new.self.items = search rules in
    filed-pop c.pop.new.self.items c.in-Some.image c.self.inside.places.numbers c.take_out.new.self.numbers
    (subst (λ xs. AreFiled xs c.self.inside.places.numbers) c.in-Some.ensures.items c.self.invariant)
    (λ q n other h. c.take_out.ensures q n (λ same. other (same ∙ many)) h)

pub invariant_of-self-in-Some-2 : goal.invariant_of-self-in-Some-2
invariant_of-self-in-Some-2 c =
    let many : c.len.result ≡ length c.pop.new.self.items = search rules in
    filed-pop c.pop.new.self.items c.in-Some.image c.self.inside.places.numbers c.take_out.new.self.numbers
    (subst (λ xs. AreFiled xs c.self.inside.places.numbers) c.in-Some.ensures.items c.self.invariant)
    (λ q n other h. c.take_out.ensures q n (λ same. other (same ∙ many)) h)
