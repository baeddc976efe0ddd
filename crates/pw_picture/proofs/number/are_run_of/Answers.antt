-- All symbols are the one where all runs are of it.
use Rattle.std.proofs.Common.{◌≡◌, ◌∙◌, false, sym, rules}
use Rattle.pw_picture.proofs.RunLemmas.{run_of-spread}
use Rattle.pw_picture.proofs.number.are_run_of.Goals as goal

pub returns-then-not-are_none : goal.returns-then-not-are_none
returns-then-not-are_none c =
    let some : c.are_none.result ≡ false = search rules in
    c.are_all.ensures ∙ run_of-spread c.args.symbol c.args.runs.now (sym c.are_none.ensures ∙ some)
