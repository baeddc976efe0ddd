-- Digits are cut, or zeros follow.
use Rattle.std.proofs.Common.{◌≡◌, ◌*◌, ◌<◌, ◌/◌, ◌^◌, pos, refl, sym, subst, arith}
use Rattle.std.specs.Option.{SomeIff}
use Rattle.std.proofs.Math.Nat.{div-le_self}
use Rattle.pw_number.specs.Number.{number}
use Rattle.pw_picture.proofs.Digits.{size_at-cut, size_at-raised}
use Rattle.pw_picture.proofs.store.at_places.Goals as goal

pub returns-then-own-places : goal.returns-then-own-places
returns-then-own-places c =
    let cut : c.args.size / c.power_of_ten.result ≡ c.args.size * 10 ^ c.args.places / 10 ^ c.args.own =
    size_at-cut (number (pos c.args.size) c.args.own) c.args.places c.args.size c.args.own c.power_of_ten.result refl refl (omega arith) c.power_of_ten.ensures.value in
    (omega (arith, sym cut, div-le_self c.args.size c.power_of_ten.result), cut)

pub returns-else-own-places : goal.returns-else-own-places
returns-else-own-places c =
    subst (λ n. SomeIff c.checked_mul.result (n < 2 ^ 128) n)
    (size_at-raised (number (pos c.args.size) c.args.own) c.args.places c.args.size c.args.own c.power_of_ten-else-own-places.result refl refl (omega arith) c.power_of_ten-else-own-places.ensures.value)
    c.checked_mul.ensures
