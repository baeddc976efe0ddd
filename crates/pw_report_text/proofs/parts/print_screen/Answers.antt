use Rattle.std.proofs.Common.{true, subst}
use Rattle.std.proofs.lemmas.Bool.{eq-eqb}
use Rattle.std.specs.BTreeSet.{Updates}
use Rattle.pw_report_text.specs.Numbers.{number_cmp}
use Rattle.pw_report_text.specs.declared.numbers.ListedRefreshNumber.{ListedRefreshNumber}
use Rattle.pw_report_text.proofs.Seen.{seen-own}
use Rattle.pw_report_text.proofs.parts.print_screen.Goals as goal

pub returns-in_ok-print_refresh-clause-seen : goal.returns-in_ok-print_refresh-clause-seen
returns-in_ok-print_refresh-clause-seen c =
    seen-own c.args.terminal c.args.refresh.now c.args.seen.now c.insert.new.self (eq-eqb _ _ c.if-refresh-terminal.false)
    (subst (λ (n : ListedRefreshNumber). Updates number_cmp c.args.seen.now c.insert.new.self n true) c.number_of.ensures c.in_ok-insert.ensures.updates)
