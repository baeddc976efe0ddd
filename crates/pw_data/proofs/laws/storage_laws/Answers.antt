use Rattle.pw_data.specs.Store.{store_of}
use Rattle.pw_data.proofs.Apart.{are-apart}
use Rattle.pw_data.proofs.StoreLaws.{store-of_layout}
use Rattle.pw_data.proofs.laws.storage_laws.Goals as goal

pub returns : goal.returns
returns c = record {
  store = store-of_layout;
  apart = λ text tokens server layout is. are-apart layout.items 0 (store_of text tokens server) (store-of_layout text tokens server layout is).places;
}
