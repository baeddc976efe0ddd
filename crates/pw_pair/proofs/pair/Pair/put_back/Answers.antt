-- The images of the backup are the memory, and its room is theirs.
use Rattle.std.proofs.Common.{List, map, ap, ◌∙◌, arith}
use Rattle.std.specs.List.{count_by, list_any}
use Rattle.pw_pair.specs.Pairs.{SeenPair, after_put_back}
use Rattle.pw_pair.specs.Rooms.{is_used}
use Rattle.pw_pair.specs.Seats.{is_flying, put_each, without_backup}
use Rattle.pw_pair.specs.declared.backup.Held.{Held}
use Rattle.pw_pair.specs.declared.mode.Mode.TheVariants.{Down}
use Rattle.pw_pair.specs.declared.seat.BackupSeat.{BackupSeat}
use Rattle.pw_pair.proofs.Moving.{put-twice, unused}
use Rattle.pw_pair.proofs.Room.{none-flies-put}
use Rattle.pw_pair.proofs.pair.Pair.put_back.Goals as goal

abbrev down : List BackupSeat → SeenPair
down seats = record { mode = Down; seats = seats }

pub put_all-requires-clause-room : goal.put_all-requires-clause-room
put_all-requires-clause-room c =
    let none = ap (λ l. count_by is_used l) c.drop_backups.ensures ∙ unused c.self.inside.seats in
    let ok = c.backup.inside.images.ok in
    omega (arith, none, ok.0, ok.1)

pub returns : goal.returns
returns c =
    let items = c.backup.inside.images.items in
    ap down (c.put_all.ensures.seats ∙ ap (λ l. map (put_each items) l) c.drop_backups.ensures ∙ put-twice items c.self.inside.seats
    ∙ ap (λ (b : List Held). map (λ seat. put_each b (without_backup seat)) c.self.inside.seats) c.backup.view_is)
    ∙ ap (λ pair. after_put_back c.args.backup pair) c.self.view_is

pub invariant_of-self : goal.invariant_of-self
invariant_of-self c = record {
  empty = c.put_all.ensures.empty;
  fits = c.put_all.ensures.used;
  still =
      let items = c.backup.inside.images.items in
      ap (list_any is_flying) (c.put_all.ensures.seats ∙ ap (map (put_each items)) c.drop_backups.ensures) ∙ none-flies-put items c.self.inside.seats;
}
