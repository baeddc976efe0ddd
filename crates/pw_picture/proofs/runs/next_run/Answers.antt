-- A text is its first symbol and what is behind it.
use Rattle.std.proofs.Common.{◌≤◌, ◌∙◌, ap, sym, replicate}
use Rattle.pw_picture.specs.Symbols.{longest, symbols_behind, with_front, count_behind}
use Rattle.pw_picture.proofs.Counts.{run_read, uncapped}
use Rattle.pw_picture.proofs.runs.next_run.Goals as goal

pub returns-clause-run : goal.returns-clause-run
returns-clause-run c = λ (short : c.in_ok-count.count ≤ longest).
    ap (symbols_behind 0) c.in_ok-symbol.ensures.cases.0
    ∙ run_read c.in_ok-symbol.symbol.now c.in_ok-count.count c.in_ok-count.size c.in_ok-symbol.behind.now
    (uncapped (count_behind c.in_ok-symbol.symbol.now c.in_ok-symbol.behind.now) c.in_ok-count.count c.in_ok-count.size c.in_ok-count.ensures.count short)
    ∙ ap (λ rest. with_front (replicate c.in_ok-count.count c.in_ok-symbol.symbol.now) (symbols_behind 0 rest)) (sym c.split_at.ensures.back)
