use Rattle.std.proofs.Common.{◌++◌, length, sym, ap, ◌∙◌, arith}
use Rattle.std.proofs.lemmas.List.{append-nil}
use Rattle.std.specs.List.{repeat}
use Rattle.pw_data.specs.Laid.{chars_in}
use Rattle.pw_data.proofs.Forests.{forest-none}
use Rattle.pw_data.specs.Entries.{KeepsPicture}
use Rattle.pw_data.proofs.Kept.{all-first, all-members, all-next}
use Rattle.pw_data.proofs.Loops.{Cut, chars-further}
use Rattle.pw_data.proofs.storage.+chars_of.Goals as goal

pub loop-entry-preserved : goal.loop-entry-preserved
loop-entry-preserved t c =
    let cut : Cut c.loop-entry.rest.now c.in-Some.entry.now c.in-Some.behind.now c.split_at.result.0.now c.split_at.result.1.now c.member_count.result =
    record { rest_is = c.in-Some.ensures.cases.0; count_is = c.member_count.ensures.count; members_is = c.split_at.ensures.front; next_is = c.split_at.ensures.back } in
    record {
      shorter = omega (arith, c.split_at.ensures.back_len, ap length c.in-Some.ensures.cases.0, c.loop-entry.invariant.shorter);
      kept = all-next (KeepsPicture c.args.text.now) _ _ _ _ _ _ cut c.loop-entry.invariant.kept;
      so_far = chars-further _ _ _ _ _ _ cut c.args.text.now c.loop-entry.chars c.extend.new.self c.as_slice.result.now c.in_ok-piece.piece c.repeat.new.chars _ c.times.result
          c.in_ok-piece.ensures (c.as_slice.ensures ∙ c.in_ok-chars_of.ensures) c.in_ok-extend.ensures.ok c.times.ensures (c.in_ok-repeat.ensures ∙ ap (λ piece. c.loop-entry.chars ++ repeat c.times.result piece) c.as_slice-in-Some.ensures) c.loop-entry.invariant.so_far;
    }

pub returns : goal.returns
returns t c =
    sym (ap (λ f. c.loop-entry.chars ++ chars_in c.args.text.now f) (forest-none c.loop-entry.rest.now c.in_default.ensures.cases) ∙ append-nil c.loop-entry.chars)
    ∙ c.loop-entry.invariant.so_far

pub initial-requires : goal.initial-requires
initial-requires t c =
    let cut : Cut c.loop-entry.rest.now c.in-Some.entry.now c.in-Some.behind.now c.split_at.result.0.now c.split_at.result.1.now c.member_count.result =
    record { rest_is = c.in-Some.ensures.cases.0; count_is = c.member_count.ensures.count; members_is = c.split_at.ensures.front; next_is = c.split_at.ensures.back } in
    all-first (KeepsPicture c.args.text.now) _ _ _ _ _ _ cut c.loop-entry.invariant.kept

pub chars_of-requires : goal.chars_of-requires
chars_of-requires t c =
    let cut : Cut c.loop-entry.rest.now c.in-Some.entry.now c.in-Some.behind.now c.split_at.result.0.now c.split_at.result.1.now c.member_count.result =
    record { rest_is = c.in-Some.ensures.cases.0; count_is = c.member_count.ensures.count; members_is = c.split_at.ensures.front; next_is = c.split_at.ensures.back } in
    (omega (arith, c.decreases, c.split_at.ensures.front_len, c.member_count.ensures.bound, ap length c.in-Some.ensures.cases.0, c.loop-entry.invariant.shorter), all-members (KeepsPicture c.args.text.now) _ _ _ _ _ _ cut c.loop-entry.invariant.kept)
