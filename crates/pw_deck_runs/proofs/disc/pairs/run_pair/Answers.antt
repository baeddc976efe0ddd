use Rattle.std.proofs.Common.{◌≡◌, ◌∙◌, ap}
use Rattle.pw_code.specs.declared.system.System.{System}
use Rattle.pw_disc.specs.Pair.{state_of}
use Rattle.pw_deck_runs.proofs.DiscRuns.{new-pair, pair-starts}
use Rattle.pw_deck_runs.proofs.disc.pairs.run_pair.Goals as goal

pub run_reported-requires-after_bounds : goal.run_reported-requires-after_bounds
run_reported-requires-after_bounds g c κs within =
    let setup = c.args.setup in
    let lines = c.args.failures.lines in
    let made : state_of c.in-Ok.pair ≡ new-pair setup.system lines =
    c.in-Ok.ensures ∙ ap (λ (s : System). new-pair s lines) c.system.ensures.system in
    pair-starts setup.system setup.script lines (state_of c.in-Ok.pair) made

pub run_reported-requires-else-may_lose-after_bounds : goal.run_reported-requires-else-may_lose-after_bounds
run_reported-requires-else-may_lose-after_bounds g c κs within =
    let setup = c.args.setup in
    let lines = c.args.failures.lines in
    let made : state_of c.in-Ok-new.pair ≡ new-pair setup.system lines =
    c.in-Ok-new.ensures ∙ ap (λ (s : System). new-pair s lines) c.system-else-may_lose.ensures.system in
    pair-starts setup.system setup.script lines (state_of c.in-Ok-new.pair) made
