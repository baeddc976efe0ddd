-- Where the program of a terminal stands, as it is read.
use Rattle.std.proofs.Common.{◌≡◌, Option, Some, None, ap, sym, ◌∙◌}
use Rattle.std.specs.Borrow.{Bor}
use Rattle.std.specs.Option.{option_copied, option_map}
use Rattle.pw_code.specs.declared.context.Context.{Context}
use Rattle.pw_world_store.specs.declared.seat.Ready.{Ready}

-- what was read is the context at the verb
pub read-at : (r : Option (Bor Ready)) (ready : Bor Ready) (stands : Option Context)
    → option_map (λ (at : Ready). at.context) (option_copied r) ≡ stands → r ≡ Some ready → stands ≡ Some ready.now.context
read-at r ready stands e is = sym e ∙ ap (λ x. option_map (λ (at : Ready). at.context) (option_copied x)) is

pub read-none : (r : Option (Bor Ready)) (stands : Option Context)
    → option_map (λ (at : Ready). at.context) (option_copied r) ≡ stands → r ≡ None → stands ≡ None
read-none r stands e is = sym e ∙ ap (λ x. option_map (λ (at : Ready). at.context) (option_copied x)) is
