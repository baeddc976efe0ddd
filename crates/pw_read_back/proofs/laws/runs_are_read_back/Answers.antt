use Rattle.std.proofs.Common.{sym, subst}
use Rattle.pw_code_meaning.specs.OfSystem.{behaviour}
use Rattle.pw_report_text.specs.Meaning.{report_text}
use Rattle.pw_read_back.proofs.Reading.{run-read, text-one}
use Rattle.pw_read_back.proofs.laws.runs_are_read_back.Goals as goal
use Rattle.pw_read_back.specs.ReadFrom.{IsReadFrom}

pub returns-clause-read : goal.returns-clause-read
returns-clause-read c = run-read

pub returns-clause-one : goal.returns-clause-one
returns-clause-one c = λ system text log other names first second.
    text-one system (λ line a b is_a is_b. c.line_laws.ensures.one system line a b names is_a is_b) text log other first second

pub returns-clause-same : goal.returns-clause-same
returns-clause-same c = λ system script lines log other first second same.
    text-one system (λ line a b is_a is_b. c.line_laws.ensures.one system line a b first.valid.names is_a is_b) (report_text system (behaviour script system) log) log other
    (run-read system script log first) (subst (λ text. IsReadFrom system text other) (sym same) (run-read system lines other second))
