-- Each seat is changed alike.
use Rattle.std.proofs.Common.{refl, ap, ◌∙◌}
use Rattle.std.specs.List.{count_by}
use Rattle.pw_pair.specs.Seats.{is_lacking, without_backup}
use Rattle.pw_pair.proofs.At.{kept-map}
use Rattle.pw_pair.proofs.Sound.{without-backup-sound}
use Rattle.pw_pair.proofs.seats.Seats.drop_backups.Goals as goal

pub invariant_of-self : goal.invariant_of-self
invariant_of-self c =
    kept-map without_backup c.self.inside.seats.items c.drop_backups.new.seats.items c.self.inside.places c.self.inside.lacking c.self.inside.waiting _
    (λ seat. refl) without-backup-sound (λ seat. refl) c.self.invariant c.drop_backups.ensures
    (c.lacking_in-self-inside.ensures ∙ ap (λ l. count_by is_lacking l) c.as_slice.ensures.value)
