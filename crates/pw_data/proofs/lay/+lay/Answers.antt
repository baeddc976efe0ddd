use Rattle.std.proofs.Common.{◌+◌, ◌*◌, ◌++◌, min, length, refl, sym, ap, ◌∙◌, arith}
use Rattle.std.proofs.lemmas.List.{append-nil}
use Rattle.pw_base.specs.Limits.{most_storage}
use Rattle.pw_data.specs.Laid.{times, items_in}
use Rattle.pw_data.proofs.Forests.{forest-none}
use Rattle.pw_data.specs.Entries.{KeepsPicture}
use Rattle.pw_data.proofs.Kept.{all-first, all-members, all-next}
use Rattle.pw_data.proofs.Loops.{Cut, fits, items-further}
use Rattle.pw_data.proofs.lay.+lay.Goals as goal

pub lay-requires : goal.lay-requires
lay-requires t c =
    let cut : Cut c.loop-entry.rest.now c.in-Some.entry.now c.in-Some.behind.now c.split_at.result.0.now c.split_at.result.1.now c.member_count.result =
    record { rest_is = c.in-Some.ensures.cases.0; count_is = c.member_count.ensures.count; members_is = c.split_at.ensures.front; next_is = c.split_at.ensures.back } in
    let fit = fits _ _ _ _ _ _ cut c.loop-entry.at (min (times c.in-Some.entry.now * (c.in-Some.entry.now.size + c.size_of-inner.result)) (most_storage + 1)) c.size_of-inner.result c.size_of-inner.ensures.size refl c.loop-entry.invariant.within in
    (omega (arith, c.decreases, c.split_at.ensures.front_len, c.member_count.ensures.bound, ap length c.in-Some.ensures.cases.0, c.loop-entry.invariant.shorter), (omega (arith, fit.inner_is, fit.members_fit), all-members (KeepsPicture c.args.text.now) _ _ _ _ _ _ cut c.loop-entry.invariant.kept))

pub loop-entry-preserved : goal.loop-entry-preserved
loop-entry-preserved t c =
    let cut : Cut c.loop-entry.rest.now c.in-Some.entry.now c.in-Some.behind.now c.split_at.result.0.now c.split_at.result.1.now c.member_count.result =
    record { rest_is = c.in-Some.ensures.cases.0; count_is = c.member_count.ensures.count; members_is = c.split_at.ensures.front; next_is = c.split_at.ensures.back } in
    let fit = fits _ _ _ _ _ _ cut c.loop-entry.at c.extent-at.result c.size_of-inner.result c.size_of-inner.ensures.size c.extent-at.ensures c.loop-entry.invariant.within in
    record {
      shorter = omega (arith, c.split_at.ensures.back_len, ap length c.in-Some.ensures.cases.0, c.loop-entry.invariant.shorter);
      within = fit.next_fit;
      kept = all-next (KeepsPicture c.args.text.now) _ _ _ _ _ _ cut c.loop-entry.invariant.kept;
      so_far = items-further _ _ _ _ _ _ cut c.args.text.now c.loop-entry.at c.extent-at.result c.size_of-inner.result _ c.args.around c.table_of-table.result c.in_ok-item.item c.loop-entry.items.items c.push.new.self.items c.lay.new.items.items _ fit
          refl c.table_of-table.ensures c.in_ok-item.ensures c.in_ok-push.ensures.items c.in_ok-lay.ensures c.loop-entry.invariant.so_far;
    }

pub returns : goal.returns
returns t c =
    sym (ap (λ f. c.loop-entry.items.items ++ items_in c.args.text.now c.loop-entry.at c.args.around f) (forest-none c.loop-entry.rest.now c.in_default.ensures.cases) ∙ append-nil c.loop-entry.items.items)
    ∙ c.loop-entry.invariant.so_far

pub item_of-requires : goal.item_of-requires
item_of-requires t c =
    let cut : Cut c.loop-entry.rest.now c.in-Some.entry.now c.in-Some.behind.now c.split_at.result.0.now c.split_at.result.1.now c.member_count.result =
    record { rest_is = c.in-Some.ensures.cases.0; count_is = c.member_count.ensures.count; members_is = c.split_at.ensures.front; next_is = c.split_at.ensures.back } in
    all-first (KeepsPicture c.args.text.now) _ _ _ _ _ _ cut c.loop-entry.invariant.kept
