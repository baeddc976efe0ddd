use Rattle.std.proofs.Common.{◌≡◌, ◌+◌, ℕ, sym, subst, arith}
use Rattle.pw_divisions.proofs.Cuts.{front, Cut, cut-period, cut-whole}
use Rattle.pw_divisions.proofs.entries.entry_size.Goals as goal

pub returns-then-front-tokens-clause-cut : goal.returns-then-front-tokens-clause-cut
returns-then-front-tokens-clause-cut c =
    let tokens = c.args.tokens.now in
    let P : ℕ → Type 0 = λ n. Cut tokens (n + 1) in
    let is : c.front_size-front.result ≡ front tokens = c.front_size-front.ensures.value in
    subst P (sym is) (cut-period tokens (omega (arith, is, c.if-front-tokens.true)))

pub returns-else-front-tokens-clause-cut : goal.returns-else-front-tokens-clause-cut
returns-else-front-tokens-clause-cut c =
    let tokens = c.args.tokens.now in
    let P : ℕ → Type 0 = λ n. Cut tokens n in
    let is : c.front_size-front.result ≡ front tokens = c.front_size-front.ensures.value in
    subst P (sym is) (cut-whole tokens c.requires (omega (arith, is, c.if-front-tokens.false)))
