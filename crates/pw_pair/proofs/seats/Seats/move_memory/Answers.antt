-- Each seat is changed alike, and what is moved is sound.
use Rattle.std.proofs.Common.{◌≡◌, false, List, map, refl, ap, subst, sym, ◌∙◌}
use Rattle.std.specs.List.{count_by, list_all, list_any}
use Rattle.pw_pair.specs.Pairs.{memory_of}
use Rattle.pw_pair.specs.Seats.{has_own_memory, held_is_sound, is_flying, is_lacking, put_each, without_backup}
use Rattle.pw_pair.specs.declared.seat.BackupSeat.{BackupSeat}
use Rattle.pw_pair.proofs.At.{kept-map}
use Rattle.pw_pair.proofs.Moving.{memory-sound}
use Rattle.pw_pair.proofs.Restoring.{own-memory, places-apart, put-again}
use Rattle.pw_pair.proofs.Sound.{without-backup-sound}
use Rattle.pw_pair.proofs.seats.Seats.move_memory.Goals as goal

pub invariant_of-self : goal.invariant_of-self
invariant_of-self c =
    kept-map without_backup c.self.inside.seats.items c.move_memory.new.seats.items c.self.inside.places c.self.inside.lacking c.self.inside.waiting _
    (λ seat. refl) without-backup-sound (λ seat. refl) c.self.invariant c.move_memory.ensures.after
    (c.lacking_in-self-inside.ensures ∙ ap (λ l. count_by is_lacking l) c.as_slice.ensures.value)

pub returns-clause-sound : goal.returns-clause-sound
returns-clause-sound c =
    ap (λ l. list_all held_is_sound (memory_of l)) (sym c.self.view_is) ∙ memory-sound c.self.inside.seats.items c.self.invariant.sound

pub returns-clause-own : goal.returns-clause-own
returns-clause-own c = ap (list_all has_own_memory) (sym c.self.view_is) ∙ own-memory c.self.inside.seats.items c.self.invariant.sound

pub returns-clause-back : goal.returns-clause-back
returns-clause-back c =
    let items = c.self.inside.seats.items in
    let new = c.move_memory.new.seats.items in
    let again = put-again items (places-apart c.self.inside.places items c.self.invariant.places_are) (own-memory items c.self.invariant.sound) in
    subst (λ (l : List BackupSeat). list_any is_flying l ≡ false → map (put_each (memory_of l)) new ≡ l) c.self.view_is
    (λ still. ap (map (put_each (memory_of items))) c.move_memory.ensures.after ∙ again still)
