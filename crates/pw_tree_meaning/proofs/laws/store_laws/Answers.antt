use Rattle.pw_tree_meaning.proofs.Stores.{put-sizes, put-items}
use Rattle.pw_tree_meaning.proofs.laws.store_laws.Goals as goal

pub returns : goal.returns
returns c = record { sizes = put-sizes; items = put-items }
