use Rattle.std.proofs.Common.{◌≡◌, ℕ, ◌+◌, sym, ap, ◌∙◌, subst}
use Rattle.std.specs.Prelude.{IfOk}
use Rattle.pw_compile.specs.Sizes.{size, body_size}
use Rattle.pw_compile.proofs.Branches.{size-If, size-OnSizeError}
use Rattle.pw_compile.proofs.sizes.+sizes.Goals as goal

pub size-returns-in_ok-second-in-OnSizeError : goal.size-returns-in_ok-second-in-OnSizeError
size-returns-in_ok-second-in-OnSizeError t c =
    let one : c.in_ok-first-in-OnSizeError.first ≡ body_size c.in-OnSizeError.first = c.in_ok-first-in-OnSizeError.ensures ∙ ap body_size c.as_slice.ensures in
    let two : c.in_ok-second-in-OnSizeError.second ≡ body_size c.in-OnSizeError.second = c.in_ok-second-in-OnSizeError.ensures ∙ ap body_size c.as_slice-in-OnSizeError.ensures in
    let total : 1 + c.in_ok-first-in-OnSizeError.first + 1 + c.in_ok-second-in-OnSizeError.second ≡ size c.args.statement.now =
    ap (λ n. 1 + n + 1 + c.in_ok-second-in-OnSizeError.second) one ∙ ap (λ n. 1 + body_size c.in-OnSizeError.first + 1 + n) two
    ∙ sym (size-OnSizeError c.in-OnSizeError.line c.in-OnSizeError.arithmetic c.in-OnSizeError.first c.in-OnSizeError.second)
    ∙ ap size (sym c.in-OnSizeError.is) in
    subst (λ n. IfOk c.with_jumps.result (λ found. found ≡ n)) total c.with_jumps.ensures

pub size-returns-in_ok-second-in-If : goal.size-returns-in_ok-second-in-If
size-returns-in_ok-second-in-If t c =
    let one : c.in_ok-first-in-If.first ≡ body_size c.in-If.first = c.in_ok-first-in-If.ensures ∙ ap body_size c.as_slice-in-If.ensures in
    let two : c.in_ok-second-in-If.second ≡ body_size c.in-If.second = c.in_ok-second-in-If.ensures ∙ ap body_size c.as_slice-in-If-2.ensures in
    let total : 1 + c.in_ok-first-in-If.first + 1 + c.in_ok-second-in-If.second ≡ size c.args.statement.now =
    ap (λ n. 1 + n + 1 + c.in_ok-second-in-If.second) one ∙ ap (λ n. 1 + body_size c.in-If.first + 1 + n) two
    ∙ sym (size-If c.in-If.line c.in-If.cond c.in-If.first c.in-If.second)
    ∙ ap size (sym c.in-If.is) in
    subst (λ n. IfOk c.with_jumps-in-If.result (λ found. found ≡ n)) total c.with_jumps-in-If.ensures
