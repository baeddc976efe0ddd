use Rattle.std.proofs.Common.{◌≡◌, ◌≢◌, true, false, eqb, List, ℕ, [], ◌∷◌, length, drop, refl, sym, ap, ◌∙◌, arith}
use Rattle.std.proofs.lemmas.Bool.{eqb-true}
use Rattle.pw_sections.proofs.Runs.{IsRest, cut_at, no_word, first_word, some_size}
use Rattle.pw_sections.proofs.word.next_word.Goals as goal

none_left : (rest : List ℕ) → true ≡ eqb (length rest) 0 → rest ≡ []
none_left [] h = refl
none_left (b ∷ rest) h = let none : length (b ∷ rest) ≡ 0 = eqb-true (length (b ∷ rest)) 0 (sym h) in absurd (omega arith)

some_left : (rest : List ℕ) → false ≡ eqb (length rest) 0 → rest ≢ []
some_left [] h none = absurd cc
some_left (b ∷ rest) h none = absurd cc

pub returns-then-is_empty-clause-cases : goal.returns-then-is_empty-clause-cases
returns-then-is_empty-clause-cases c =
    no_word c.args.line.now c.split_at.result.1.now (c.split_at.ensures.back ∙ ap (λ k. drop k c.args.line.now) c.spaces.ensures.value) (none_left _ c.if-is_empty.ensures)

pub returns-clause-cases : goal.returns-clause-cases
returns-clause-cases c =
    let rest = c.split_at.result.1.now in
    let is : IsRest c.args.line.now rest = c.split_at.ensures.back ∙ ap (λ k. drop k c.args.line.now) c.spaces.ensures.value in
    rw (c.split_at-2.ensures.front, c.split_at-2.ensures.back)
    (first_word c.args.line.now rest is (some_left _ c.if-is_empty.ensures) ∙ ap (λ k. cut_at k rest) (sym c.word_size.ensures.value))

pub returns-clause-shorter : goal.returns-clause-shorter
returns-clause-shorter c =
    let rest = c.split_at.result.1.now in
    let is : IsRest c.args.line.now rest = c.split_at.ensures.back ∙ ap (λ k. drop k c.args.line.now) c.spaces.ensures.value in
    let some = some_size c.args.line.now rest is (some_left _ c.if-is_empty.ensures) in
    omega (arith, some, c.word_size.ensures, c.split_at.ensures.back_len, c.split_at-2.ensures.back_len)
