use Rattle.std.proofs.Common.{◌<◌, arith}
use Rattle.pw_text.proofs.Quotes.{quoted-some}
use Rattle.pw_text.proofs.items.text_item.Goals as goal

pub returns-in-Some-clause-quotes : goal.returns-in-Some-clause-quotes
returns-in-Some-clause-quotes c = let some : 0 < c.in-Some.size = quoted-some c.args.behind.now c.in-Some.size c.in-Some.ensures.value in rw c.token.ensures (omega arith)
