use Rattle.pw_deck_runs.specs.disc.PairRuns.{pair_deck_of}
use Rattle.pathway.specs.Decks.{PairRuns}
use Rattle.pathway.proofs.Inputs.{refuses}
use Rattle.pathway.proofs.runs.paired.Goals as goal

pub returns-in-Err-At : goal.returns-in-Err-At
returns-in-Err-At g c =
    let fault = rw c.in-Err-At.field-0-is at c.in-Err-At.ensures.fault in
    let bytes = c.args.bytes.now in
    refuses (λ status text. PairRuns c.args.bounds.events status bytes text) (pair_deck_of bytes) _ c.refused.result (λ text has. has) fault c.refused.ensures
