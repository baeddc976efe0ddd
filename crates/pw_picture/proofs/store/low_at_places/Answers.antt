-- High digits may be dropped before zeros follow.
use Rattle.std.proofs.Common.{◌≡◌, ◌*◌, ◌/◌, ◌%◌, ◌^◌, ◌∙◌, pos, refl, ap, arith}
use Rattle.std.proofs.lemmas.Nat.{mul-mod_first}
use Rattle.pw_number.specs.Number.{number}
use Rattle.pw_picture.proofs.Digits.{size_at-cut, size_at-raised}
use Rattle.pw_picture.proofs.store.low_at_places.Goals as goal
use Rattle.pw_picture.proofs.store.low_at_places.Goals.{then-own-places, else-own-places}

pub returns : goal.returns
returns c =
    let low : c.if-own-places.low % c.power_of_ten-end.result ≡ c.args.size * 10 ^ c.args.places / 10 ^ c.args.own % c.power_of_ten-end.result =
    elim c.if-own-places.branch [
      | then-own-places w ↦ ap (λ m. m % c.power_of_ten-end.result)
          (w.low-is ∙ size_at-cut (number (pos c.args.size) c.args.own) c.args.places c.args.size c.args.own w.power_of_ten.result refl refl (omega arith) w.power_of_ten.ensures.value)
      | else-own-places w ↦ ap (λ m. m % c.power_of_ten-end.result) w.low-is
          ∙ mul-mod_first c.args.size w.power_of_ten-else-own-places.result c.power_of_ten-end.result
          ∙ ap (λ m. m % c.power_of_ten-end.result) (size_at-raised (number (pos c.args.size) c.args.own) c.args.places c.args.size c.args.own w.power_of_ten-else-own-places.result refl refl (omega arith) w.power_of_ten-else-own-places.ensures.value)
    ] in
    low ∙ ap (λ e. c.args.size * 10 ^ c.args.places / 10 ^ c.args.own % e) c.power_of_ten-end.ensures.value
