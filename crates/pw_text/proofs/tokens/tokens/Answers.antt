use Rattle.std.proofs.Common.{◌+◌, length, sym, ap, ◌∙◌, arith}
use Rattle.std.proofs.lemmas.Bool.{eqb-true}
use Rattle.pw_base.specs.First.{unless}
use Rattle.pw_base.proofs.Plain.{some_left}
use Rattle.pw_text.specs.declared.item.LinePlace.TheVariants.{LineStart}
use Rattle.pw_text.specs.Tokens.{tokens_of, LieBetween}
use Rattle.pw_text.proofs.Steps.{finish_first, finish_further, finish_last, finish-spaced, finish-spaced_first}
use Rattle.pw_text.proofs.Spans.{LieBetween-longer, LieBetween-piece, lines-piece}
use Rattle.pw_text.proofs.tokens.tokens.Goals as goal

pub loop-rest-init : goal.loop-rest-init
loop-rest-init c = record {
  within = omega (arith, c.split_at.ensures.back_len);
  from = omega arith;
  line = omega arith;
  spans = rw c.new-tokens.ensures.items (omega arith);
  lines = rw c.new-tokens.ensures.items (λ k d none. absurd (omega arith));
  so_far = finish-spaced_first c.args.text.now c.split_at.result.1.now LineStart c.behind_spaces-place.result c.space_count-at.result c.args.first_line c.first_bad_byte-known.result c.new-tokens.result.items
      (tokens_of c.args.text.now c.args.first_line) c.space_count-at.ensures.value c.behind_spaces-place.ensures c.split_at.ensures.back
      (rw (c.first_bad_byte-known.ensures, c.new-tokens.ensures.items) (finish_first c.args.text.now c.args.first_line));
}

pub loop-rest-preserved : goal.loop-rest-preserved
loop-rest-preserved c =
    let behind = c.split_at-in-loop-rest.result.1.now in
    let spans : LieBetween 0 c.push_token.new.tokens.items (c.loop-rest.at + c.item_at-item.result.size) =
    rw c.in_ok-push_token.ensures (LieBetween-piece c.item_at-item.result.piece c.loop-rest.tokens.items c.loop-rest.line 0 c.loop-rest.at c.item_at-item.result.size c.loop-rest.invariant.spans c.item_at-item.ensures.fits.quotes) in
    record {
      within = omega (arith, c.split_at-in-loop-rest.ensures.back_len, c.split_at-in-loop-rest-2.ensures.back_len, c.space_count-spaces.ensures.bound, c.item_at-item.ensures.fits.within);
      from = omega (arith, c.line_after-line.ensures.from);
      spans = LieBetween-longer c.push_token.new.tokens.items 0 (c.loop-rest.at + c.item_at-item.result.size) (c.loop-rest.at + c.item_at-item.result.size + c.space_count-spaces.result) spans (omega arith);
      lines = rw c.in_ok-push_token.ensures (lines-piece c.item_at-item.result.piece c.loop-rest.tokens.items c.loop-rest.line c.loop-rest.at (c.loop-rest.at + c.item_at-item.result.size) c.args.first_line (c.args.first_line + length c.args.text.now) c.loop-rest.invariant.lines c.loop-rest.invariant.from (omega arith));
      line = omega (arith, c.line_after-line.ensures.bound, c.item_at-item.ensures.fits.some);
      so_far = let left = some_left c.loop-rest.rest.now c.loop-rest-test.ensures in
          finish-spaced behind c.split_at-in-loop-rest-2.result.1.now c.item_at-item.result.next c.behind_spaces-place-in-loop-rest.result (c.loop-rest.at + c.item_at-item.result.size) c.space_count-spaces.result
          c.line_after-line.result c.noted_piece-known.result c.push_token.new.tokens.items (tokens_of c.args.text.now c.args.first_line)
          c.space_count-spaces.ensures.value c.behind_spaces-place-in-loop-rest.ensures c.split_at-in-loop-rest-2.ensures.back
          (finish_further c.loop-rest.place c.loop-rest.at c.loop-rest.line c.loop-rest.rest.now c.item_at-item.result c.loop-rest.known c.loop-rest.tokens.items (tokens_of c.args.text.now c.args.first_line)
          c.noted_piece-known.result c.push_token.new.tokens.items c.line_after-line.result behind
          c.noted_piece-known.ensures c.in_ok-push_token.ensures c.line_after-line.ensures.value c.split_at-in-loop-rest.ensures.back
          left c.item_at-item.ensures.value c.item_at-item.ensures.fits.some c.loop-rest.invariant.so_far);
    }

pub returns-in-None-clause-tokens : goal.returns-in-None-clause-tokens
returns-in-None-clause-tokens c = let none = eqb-true (length c.loop-rest.rest.now) 0 (sym c.loop-rest-test.ensures) in (sym c.loop-rest.invariant.so_far ∙ finish_last c.loop-rest.place c.loop-rest.at c.loop-rest.line c.loop-rest.rest.now c.loop-rest.known c.loop-rest.tokens.items none ∙ ap (λ k. unless k c.loop-rest.tokens.items) c.in-None.is)

pub returns-in-Some-clause-tokens : goal.returns-in-Some-clause-tokens
returns-in-Some-clause-tokens c = let none = eqb-true (length c.loop-rest.rest.now) 0 (sym c.loop-rest-test.ensures) in rw c.into.ensures (sym c.loop-rest.invariant.so_far ∙ finish_last c.loop-rest.place c.loop-rest.at c.loop-rest.line c.loop-rest.rest.now c.loop-rest.known c.loop-rest.tokens.items none ∙ ap (λ k. unless k c.loop-rest.tokens.items) c.in-Some.is)
