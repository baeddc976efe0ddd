-- What is shown of kept contexts holds of those that entries speak of.
use Rattle.std.proofs.Common.{◌≡◌, Option, Some, None, subst}
use Rattle.std.specs.Option.{IfSome, option_map}
use Rattle.pw_code.specs.declared.context.Context.{Context}
use Rattle.pw_image.specs.Values.{HasValues}
use Rattle.pw_world_state.specs.Entered.{copied}
use Rattle.pw_world_store.specs.declared.seat.Ready.{Ready}

pub if-some : {X : Type 0} (P : X → Type 0) (one : Option X) (x : X) → IfSome one P → one ≡ Some x → P x
if-some P one x holds is = subst (λ o. IfSome o P) is holds

pub copied-values : (start own : Option Context) (context : Context) → IfSome start HasValues → IfSome own HasValues
    → copied start own ≡ Some context → HasValues context
copied-values None own context starts owns is = if-some HasValues own context owns is
copied-values (Some start) own context starts owns is = if-some HasValues (Some start) context starts is

pub ready-values : (ready : Option Ready) (context : Context) → IfSome ready (λ at. HasValues at.context)
    → option_map (λ (at : Ready). at.context) ready ≡ Some context → HasValues context
ready-values None context holds is = absurd (cc is)
ready-values (Some at) context holds is = if-some HasValues (Some at.context) context holds is
