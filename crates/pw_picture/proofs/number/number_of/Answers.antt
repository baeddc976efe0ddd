-- The number is cut behind its nines.
use Rattle.std.proofs.Common.{◌∙◌, ap, arith, length}
use Rattle.std.specs.Option.{option_and_then}
use Rattle.pw_picture.specs.Symbols.{begins_with}
use Rattle.pw_picture.specs.Grammar.{number_with}
use Rattle.pw_picture.specs.Runs.{spread}
use Rattle.pw_picture.proofs.RunLemmas.{number-parts}
use Rattle.pw_picture.proofs.number.number_of.Goals as goal

pub decimals-requires : goal.decimals-requires
decimals-requires c = omega (arith, (number-parts c.args.runs.now c.after-body.result.now c.split_at.result.0.now c.split_at.result.1.now c.nines_in_front.result c.after-body.ensures c.nines_in_front.ensures.nines c.split_at.ensures.front c.split_at.ensures.back).short)

pub returns-in_err-places : goal.returns-in_err-places
returns-in_err-places c =
    c.from_residual.ensures
    ∙ ap (option_and_then (λ places. number_with (begins_with 83 (spread c.args.runs.now)) (length (spread c.split_at.result.0.now)) places)) c.in_err-places.ensures.decimals
    ∙ (number-parts c.args.runs.now c.after-body.result.now c.split_at.result.0.now c.split_at.result.1.now c.nines_in_front.result c.after-body.ensures c.nines_in_front.ensures.nines c.split_at.ensures.front c.split_at.ensures.back).number

pub length_of-requires : goal.length_of-requires
length_of-requires c = omega (arith, (number-parts c.args.runs.now c.after-body.result.now c.split_at.result.0.now c.split_at.result.1.now c.nines_in_front.result c.after-body.ensures c.nines_in_front.ensures.nines c.split_at.ensures.front c.split_at.ensures.back).short)

pub number_with-requires : goal.number_with-requires
number_with-requires c = omega (arith, c.length_of.ensures, (number-parts c.args.runs.now c.after-body.result.now c.split_at.result.0.now c.split_at.result.1.now c.nines_in_front.result c.after-body.ensures c.nines_in_front.ensures.nines c.split_at.ensures.front c.split_at.ensures.back).short, c.in_ok-places.ensures.few)

pub returns : goal.returns
returns c =
    c.number_with.ensures
    ∙ rw (c.begin_with.ensures, c.length_of.ensures)
    (ap (option_and_then (λ places. number_with (begins_with 83 (spread c.args.runs.now)) (length (spread c.split_at.result.0.now)) places)) c.in_ok-places.ensures.decimals
    ∙ (number-parts c.args.runs.now c.after-body.result.now c.split_at.result.0.now c.split_at.result.1.now c.nines_in_front.result c.after-body.ensures c.nines_in_front.ensures.nines c.split_at.ensures.front c.split_at.ensures.back).number)
