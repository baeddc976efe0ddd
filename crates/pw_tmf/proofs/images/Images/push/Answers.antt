use Rattle.std.proofs.Common.{◌≡◌, Some, length, rules, subst, sym, true}
use Rattle.std.specs.Prelude.{slice_get}
use Rattle.pw_locks.specs.Indexes.{is_filed}
use Rattle.pw_tmf.specs.Placed.{AreFiled, place_cmp}
use Rattle.pw_tmf.proofs.PlacedLemmas.{filed-push}
use Rattle.pw_tmf.proofs.images.Images.push.Goals as goal

pub invariant_of-self-in_err-put : goal.invariant_of-self-in_err-put
invariant_of-self-in_err-put c = λ i image is. c.put.ensures.stays (image.file, image.key) i (c.self.invariant i image is)

pub invariant_of-self-in_err-push : goal.invariant_of-self-in_err-push
invariant_of-self-in_err-push c = λ i image is.
    c.put.ensures.stays (image.file, image.key) i (c.self.invariant i image (subst (λ xs. slice_get xs i ≡ Some image) c.in_err-push.ensures.items is))

pub invariant_of-self-2 : goal.invariant_of-self-2
invariant_of-self-2 c =
    let images = c.self.inside.images.items in
    let index = c.put.new.self.numbers in
    let place : c.in_ok-copy_place.field-0 ≡ (c.args.image.file, c.args.image.key) = search rules in
    let many : c.len-number.result ≡ length images = search rules in
    let here : is_filed place_cmp index (c.args.image.file, c.args.image.key) (length images) ≡ true =
    subst (λ n. is_filed place_cmp index (c.args.image.file, c.args.image.key) n ≡ true) many (subst (λ q. is_filed place_cmp index q c.len-number.result ≡ true) place c.in_ok-put.ensures.ok) in
    subst (λ xs. AreFiled xs index) (sym c.in_ok-push.ensures.items)
    (filed-push images c.args.image c.self.inside.places.numbers index c.self.invariant here c.put.ensures.stays)
