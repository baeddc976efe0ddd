-- What leaves, put back, leaves what was.
use Rattle.std.proofs.Common.{◌≡◌, List, ◌++◌, map, ap, subst, sym, ◌∙◌}
use Rattle.std.specs.Global.{Vec}
use Rattle.pw_pair.specs.Pairs.{SeenPair, memory_of}
use Rattle.pw_pair.specs.Rooms.{IsStill}
use Rattle.pw_pair.specs.Seats.{put_each, without_backup}
use Rattle.pw_pair.specs.declared.backup.Held.{Held}
use Rattle.pw_pair.specs.declared.mode.Mode.{Mode}
use Rattle.pw_pair.specs.declared.mode.Mode.TheVariants.{Down}
use Rattle.pw_pair.specs.declared.seat.BackupSeat.{BackupSeat}
use Rattle.pw_pair.proofs.Moving.{bare-twice}
use Rattle.pw_pair.proofs.pair.Pair.take_backup.Goals as goal

abbrev down : List BackupSeat → SeenPair
down seats = record { mode = Down; seats = seats }

pub returns-clause-back : goal.returns-clause-back
returns-clause-back c =
    let seats = c.self.inside.seats in
    let images = c.move_memory.new.images.items in
    let all : images ≡ memory_of seats =
    c.move_memory.ensures.images ∙ ap (λ (l : List Held). l ++ memory_of seats) (ap (λ (room : Vec Held). room.items) c.replace-images.ensures.value ∙ c.self.invariant.empty)
    in
    let mode : c.self.inside.mode ≡ Down = ap (λ (pair : SeenPair). pair.mode) c.self.view_is ∙ c.requires in
    let still = subst (λ (m : Mode). IsStill m seats) mode c.self.invariant.still in
    ap down
    (ap (λ (l : List BackupSeat). map (λ seat. put_each images (without_backup seat)) l) c.move_memory.ensures.after
    ∙ (bare-twice images seats
    ∙ (ap (λ (l : List Held). map (put_each l) (map without_backup seats)) all
    ∙ (ap (map (put_each (memory_of seats))) (sym c.move_memory.ensures.after) ∙ c.move_memory.ensures.back still))))
    ∙ (ap (λ (m : Mode). record { mode = m; seats = seats }) (sym mode) ∙ c.self.view_is)
