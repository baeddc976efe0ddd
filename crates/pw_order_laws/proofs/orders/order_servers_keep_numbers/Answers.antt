use Rattle.pw_order_laws.proofs.Keeps.{orders-keep}
use Rattle.pw_order_laws.proofs.orders.order_servers_keep_numbers.Goals as goal

pub returns : goal.returns
returns c = λ rule choices. orders-keep choices rule
