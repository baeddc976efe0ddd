-- A group's records are behind those of the groups before it.
use Rattle.std.proofs.Common.{◌≡◌, ℕ, ◌+◌, ◌++◌, Ok, refl, sym, ap, ◌∙◌, arith}
use Rattle.std.proofs.lemmas.List.{append-nil}
use Rattle.pw_image.specs.Records.{changed_between}
use Rattle.pw_image.proofs.Between.{put-both}
use Rattle.pw_image.proofs.changes.add_groups.Goals as goal

pub loop-from-init : goal.loop-from-init
loop-from-init c = record {
  within = omega arith;
  put = sym (append-nil c.args.changed.now.items);
}

pub loop-from-preserved : goal.loop-from-preserved
loop-from-preserved c =
    let from = c.loop-from.from in
    let group = c.min-group.result in
    let first = c.loop-from.changed.items in
    let all = c.add_between.new.changed.items in
    let old = c.args.old.now in
    let new = c.args.new.now in
    let next : from ≡ 0 + from = omega arith in
    let put : all ≡ first ++ changed_between old new (0 + from) group =
    c.in_ok-add_between.ensures ∙ ap (λ (k : ℕ). first ++ changed_between old new k group) next in
    record {
      within = omega arith;
      put = put-both {E = ℕ} (Ok tt) c.args.changed.now.items first all old new 0 from group (from + group) refl c.loop-from.invariant.put put;
    }

pub returns : goal.returns
returns c =
    let whole : c.loop-from.from ≡ c.args.count = omega arith in
    rw whole at c.loop-from.invariant.put
