-- Registers that count what a path counts are those of where it stands.
use Rattle.std.proofs.Common.{◌≡◌, ℕ, ◌+◌, List, Option, Some, None, refl, ap, ◌∙◌, arith}
use Rattle.pw_code.specs.declared.context.Context.{Context}
use Rattle.pw_code_meaning.specs.Counts.{CountsOf}
use Rattle.pw_onecopy.specs.Path.{PathAnswer, RefreshNumber, Standing, number_at, standing}
use Rattle.pw_tcp.specs.Refreshes.{StandsAt}

-- the count in a number
k-of : (at : Standing) (w : Option ℕ) → (number_at at w).k ≡ at.shown + 1
k-of at None = refl
k-of at (Some r) = refl

pub stands-at : (path : List PathAnswer) (context : Context) → CountsOf path context → StandsAt context (standing path)
stands-at path context counts = record {
  phase = ap (λ (n : RefreshNumber). n.phase) counts.number;
  attempt = ap (λ (n : RefreshNumber). n.attempt) counts.number;
  shown =
      let next : context.shown + 1 ≡ (standing path).shown + 1 = ap (λ (n : RefreshNumber). n.k) counts.number ∙ k-of (standing path) (standing path).within in
      omega (arith, next);
}
