-- Each seat is changed alike, what is lacking stays, and none waits.
use Rattle.std.proofs.Common.{refl, sym, ap, ◌∙◌}
use Rattle.std.specs.List.{count_by}
use Rattle.pw_pair.specs.Seats.{is_lacking, without_flight}
use Rattle.pw_pair.proofs.At.{count-map, kept-map}
use Rattle.pw_pair.proofs.Sound.{without-flight-sound}
use Rattle.pw_pair.proofs.seats.Seats.drop_flights.Goals as goal

pub invariant_of-self : goal.invariant_of-self
invariant_of-self c =
    kept-map without_flight c.self.inside.seats.items c.drop_flights.new.seats.items c.self.inside.places c.self.inside.lacking c.self.inside.waiting c.self.inside.lacking
    (λ seat. refl) without-flight-sound (λ seat. refl) c.self.invariant c.drop_flights.ensures
    (c.self.invariant.lacks ∙ sym (count-map is_lacking without_flight (λ seat. refl) c.self.inside.seats.items)
    ∙ ap (λ l. count_by is_lacking l) (sym c.drop_flights.ensures))
