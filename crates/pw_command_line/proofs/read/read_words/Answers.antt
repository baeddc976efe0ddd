use Rattle.std.proofs.Common.{arith, sym, true, true≢false, ◌∙◌, ◌≡◌}
use Rattle.clap.specs.Words.{found_of, rows_of}
use Rattle.pw_command_line.proofs.Numbers.{in_range, wider}
use Rattle.pw_command_line.proofs.Options.{numbers}
use Rattle.pw_command_line.proofs.Says.{as_taken, is_free, is_ready, same_words, says}
use Rattle.pw_command_line.proofs.read.read_words.Goals.{then-eq, else-eq}
use Rattle.pw_command_line.proofs.read.read_words.Goals as goal

pub number-requires : goal.number-requires
number-requires c =
    wider 1 16 _ (omega arith) (numbers c.in_ok-simple_command.field-0 c.in-Ok.matches c.in_ok-simple_command.ensures c.in-Ok.ensures.parsed).workers

pub overflow_cast-result : goal.overflow_cast-result
overflow_cast-result c =
    let range = in_range 1 16 _ (numbers c.in_ok-simple_command.field-0 c.in-Ok.matches c.in_ok-simple_command.ensures c.in-Ok.ensures.parsed).workers in
    omega (arith, range, c.number.ensures)

pub number-requires-2 : goal.number-requires-2
number-requires-2 c =
    wider 1 500000 _ (omega arith) (numbers c.in_ok-simple_command.field-0 c.in-Ok.matches c.in_ok-simple_command.ensures c.in-Ok.ensures.parsed).events

pub number-requires-3 : goal.number-requires-3
number-requires-3 c = (numbers c.in_ok-simple_command.field-0 c.in-Ok.matches c.in_ok-simple_command.ensures c.in-Ok.ensures.parsed).seed

pub number-requires-4 : goal.number-requires-4
number-requires-4 c =
    wider 1 64 _ (omega arith) (numbers c.in_ok-simple_command.field-0 c.in-Ok.matches c.in_ok-simple_command.ensures c.in-Ok.ensures.parsed).terms

pub number-requires-5 : goal.number-requires-5
number-requires-5 c =
    wider 0 500000 _ (omega arith) (numbers c.in_ok-simple_command.field-0 c.in-Ok.matches c.in_ok-simple_command.ensures c.in-Ok.ensures.parsed).at

pub returns-clause-reads : goal.returns-clause-reads
returns-clause-reads c =
    says _ _ (rows_of (found_of c.in-Ok.matches)) c.in-Some.command _ c.in_ok-simple_command.ensures
    (c.in-Ok.ensures.kinds (is_free _ c.in_ok-simple_command.ensures)) (c.in-Ok.ensures.matches (is_ready _ c.in_ok-simple_command.ensures)).0
    (sym c.in-Some.is ∙ c.command_in.ensures)
    (same_words (rows_of (found_of c.in-Ok.matches)) c.in-Some.command _ _ _ _ _ c.number.ensures c.number-2.ensures c.number-3.ensures c.number-4.ensures c.number-5.ensures)

pub returns-clause-ranges : goal.returns-clause-ranges
returns-clause-ranges c =
    let has = numbers c.in_ok-simple_command.field-0 c.in-Ok.matches c.in_ok-simple_command.ensures c.in-Ok.ensures.parsed in
    record {
      workers = rw c.number.ensures (in_range 1 16 _ has.workers);
      events = rw c.number-2.ensures (in_range 1 500000 _ has.events);
      seed = rw c.number-3.ensures (in_range 0 4294967295 _ has.seed).1;
      terms = rw c.number-4.ensures (in_range 1 64 _ has.terms);
      at = rw c.number-5.ensures (in_range 0 500000 _ has.at).1;
    }

pub returns-in-Err-clause-taken : goal.returns-in-Err-clause-taken
returns-in-Err-clause-taken c =
    λ taken refused.
    let memory = c.in-Err.ensures.passes (as_taken _ _ c.in_ok-simple_command.ensures taken) in
    elim c.if-eq.branch [
      | then-eq w ↦
          let is = w.result-is in
          cc
      | else-eq w ↦
          let is = c.kind.ensures ∙ memory in
          let yes : c.eq.result ≡ true = rw is at c.eq.ensures in
          absurd (true≢false (sym yes ∙ w.if-eq.false))
    ]
