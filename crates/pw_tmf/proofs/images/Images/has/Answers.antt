use Rattle.std.proofs.Common.{◌≡◌, Some, None, rules, subst, sym, ap, ◌∙◌}
use Rattle.std.specs.Prelude.{slice_get}
use Rattle.std.specs.BTreeMap.{get}
use Rattle.std.specs.List.{list_any}
use Rattle.pw_paired.specs.Units.{has_image}
use Rattle.pw_tmf.specs.Placed.{is_image_at, is_found_at, place_cmp}
use Rattle.pw_tmf.proofs.PlacedLemmas.{none-filed, some-filed}
use Rattle.pw_tmf.proofs.Reversed.{list_any-reverse}
use Rattle.pw_tmf.proofs.images.Images.has.Goals as goal

pub returns-in-Some : goal.returns-in-Some
returns-in-Some c =
    let images = c.self.inside.images.items in
    let index = c.self.inside.places.numbers in
    let t = c.args.terminal in
    let file = c.args.place.now.0 in
    let key = c.args.place.now.1 in
    let numbers = c.in-Some.numbers.now in
    let there : get place_cmp index (file, key) ≡ Some numbers = search rules in
    let found : c.is_one_at.result ≡ list_any (λ n. is_found_at t file key (slice_get images n)) numbers.items =
    subst (λ xs. c.is_one_at.result ≡ list_any (λ n. is_found_at t file key (slice_get images n)) xs) c.deref-in-Some.ensures.value
    (subst (λ ys. c.is_one_at.result ≡ list_any (λ n. is_found_at t file key (slice_get ys n)) c.deref-in-Some.result.now) c.deref.ensures.value c.is_one_at.ensures) in
    found ∙ (some-filed t file key images index numbers c.self.invariant there
    ∙ (sym (list_any-reverse (is_image_at t file key) images) ∙ ap (has_image t file key) c.self.view_is))

pub returns-in-None : goal.returns-in-None
returns-in-None c =
    let images = c.self.inside.images.items in
    let index = c.self.inside.places.numbers in
    let t = c.args.terminal in
    let file = c.args.place.now.0 in
    let key = c.args.place.now.1 in
    let nowhere : get place_cmp index (file, key) ≡ None = search rules in
    sym (none-filed t file key images index c.self.invariant nowhere)
    ∙ (sym (list_any-reverse (is_image_at t file key) images) ∙ ap (has_image t file key) c.self.view_is)
