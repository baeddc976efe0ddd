-- The last digit has the rest of the sum, and those in front of it the carry.
use Rattle.std.proofs.Common.{◌≡◌, ◌≤◌, ◌<◌, ◌+◌, ◌∷◌, [], ◌++◌, true, refl, sym, ap, ◌∙◌, subst, arith}
use Rattle.std.specs.Char.{is_ascii_digit}
use Rattle.std.specs.List.{list_all}
use Rattle.pw_picture.specs.Stored.{value_of}
use Rattle.pw_machine.proofs.DigitLemmas.{at_least, carried_last, last_digit, raised_last}
use Rattle.pw_machine.proofs.counting.+raised.Goals as goal

pub raised-returns-then-sum-le57-clause-sum : goal.raised-returns-then-sum-le57-clause-sum
raised-returns-then-sum-le57-clause-sum t c =
    let front = c.in-Some.front.now in
    let last = c.in-Some.last.now in
    let all : c.args.digits.now ≡ front ++ last ∷ [] = c.in-Some.ensures.cases.0 in
    let digit = at_least last (last_digit front last (sym (ap (list_all is_ascii_digit) all) ∙ c.requires.digits)) in
    λ done. raised_last front last c.args.more digit.0 c.if-sum-le57.true ∙ ap (λ l. value_of 0 l + c.args.more) (sym all)

pub raised-returns-then-carried-clause-sum : goal.raised-returns-then-carried-clause-sum
raised-returns-then-carried-clause-sum t c =
    let front = c.in-Some.front.now in
    let last = c.in-Some.last.now in
    let all : c.args.digits.now ≡ front ++ last ∷ [] = c.in-Some.ensures.cases.0 in
    let digit = at_least last (last_digit front last (sym (ap (list_all is_ascii_digit) all) ∙ c.requires.digits)) in
    λ done. carried_last front c.carried-carried.new.digits last c.args.more digit.0 digit.1 (omega (arith, c.if-sum-le57.false)) c.requires.few (c.if-carried.ensures.sum refl)
    ∙ ap (λ l. value_of 0 l + c.args.more) (sym all)
