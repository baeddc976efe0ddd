-- Each run has a symbol.
use Rattle.std.proofs.Common.{◌∙◌, sym}
use Rattle.pw_picture.proofs.RunLemmas.{empty-spread}
use Rattle.pw_picture.proofs.runs.are_none.Goals as goal

pub returns : goal.returns
returns c = c.is_empty.ensures ∙ sym (empty-spread c.args.runs.now)
