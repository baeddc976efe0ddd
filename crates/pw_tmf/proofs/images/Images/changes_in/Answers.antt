use Rattle.std.proofs.Common.{◌≡◌, ◌<◌, sym, subst, List, length}
use Rattle.std.specs.Prelude.{All, slice_index_or}
use Rattle.pw_paired.specs.State.{BeforeImage}
use Rattle.pw_tmf.specs.Tmf.{IsImage, key_lengths}
use Rattle.pw_tmf.proofs.PutBack.{fits-at}
use Rattle.pw_tmf.proofs.images.Images.changes_in.Goals as goal

pub changed-requires : goal.changed-requires
changed-requires c =
    let P : BeforeImage → Type 0 = IsImage (key_lengths c.args.files.now) (length c.args.files.now) in
    let images = c.self.inside.images.items in
    let i = c.loop-image.image-index in
    let image = c.image-item.result in
    let lt : i < length images = subst (λ (xs : List BeforeImage). i < length xs) c.deref-image-items.ensures.value c.loop-image-test.true in
    let is : image ≡ slice_index_or images i image = subst (λ (xs : List BeforeImage). image ≡ slice_index_or xs i image) c.deref-image-items.ensures.value c.image-item.is in
    (fits-at P images i image lt is (subst (All P) (sym c.self.view_is) c.requires)).file
