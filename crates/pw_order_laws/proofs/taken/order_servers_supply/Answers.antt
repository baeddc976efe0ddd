use Rattle.pw_order_laws.proofs.Supply.{servers-supply}
use Rattle.pw_order_laws.proofs.taken.order_servers_supply.Goals as goal

pub returns : goal.returns
returns c = λ items rule choices. servers-supply items choices rule
