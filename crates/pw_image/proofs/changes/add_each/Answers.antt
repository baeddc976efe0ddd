-- A record is behind those before it.
use Rattle.std.proofs.Common.{◌≡◌, ℕ, ◌+◌, ◌++◌, Ok, refl, sym, arith}
use Rattle.std.proofs.lemmas.List.{append-nil}
use Rattle.pw_image.specs.Records.{changed_between}
use Rattle.pw_image.proofs.Between.{put-both}
use Rattle.pw_image.proofs.changes.add_each.Goals as goal

pub loop-place-init : goal.loop-place-init
loop-place-init c = sym (append-nil c.args.changed.now.items)

pub loop-place-preserved : goal.loop-place-preserved
loop-place-preserved c =
    let place = c.loop-place.place in
    let first = c.loop-place.changed.items in
    let all = c.add_changed.new.changed.items in
    let old = c.args.old.now in
    let new = c.args.new.now in
    let put : all ≡ first ++ changed_between old new (c.args.from + place) 1 = c.in_ok-add_changed.ensures.ok in
    put-both {E = ℕ} (Ok tt) c.args.changed.now.items first all old new c.args.from place 1 (place + 1) refl c.loop-place.invariant put

pub returns : goal.returns
returns c =
    let whole : c.loop-place.place ≡ c.args.count = omega arith in
    rw whole at c.loop-place.invariant
