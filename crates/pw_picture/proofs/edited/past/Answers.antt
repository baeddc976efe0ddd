-- What is behind runs in front is behind their symbols.
use Rattle.std.proofs.Common.{◌∙◌, ap, sym, drop}
use Rattle.pw_picture.specs.Runs.{spread}
use Rattle.pw_picture.proofs.RunLemmas.{past-spread}
use Rattle.pw_picture.proofs.edited.past.Goals as goal

pub returns : goal.returns
returns c = ap spread c.split_at.ensures.back ∙ ap (λ n. spread (drop n c.args.runs.now)) c.in_front.ensures.count ∙ sym (past-spread c.args.first c.args.second c.args.runs.now)
