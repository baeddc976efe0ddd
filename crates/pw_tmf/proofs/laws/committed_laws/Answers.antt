use Rattle.std.proofs.Common.{◌<◌}
use Rattle.std.proofs.lemmas.List.Elements.{recursion_from_All}
use Rattle.pw_tmf.specs.Leaving.{IsKeyed}
use Rattle.pw_tmf.proofs.Together.{committed-told}
use Rattle.pw_tmf.proofs.laws.committed_laws.Goals as goal

pub returns : goal.returns
returns c = λ sys state told h keyed single few.
    committed-told sys state told h (recursion_from_All (IsKeyed sys.key_length) state.before keyed) single
    (recursion_from_All (λ image. image.terminal < told.terminals) state.before few)
