use Rattle.std.proofs.Common.{◌≡◌, ℕ, ◌++◌, Bool, true, false, Option, refl}
use Rattle.pw_base.specs.declared.fault.Fault.{Fault}
use Rattle.pw_base.specs.declared.fault_code.FaultCode.TheVariants.{BadPicture, BadDataEntry, NameTwice}
use Rattle.pw_base.specs.First.{least, fault_noted}
use Rattle.pw_data.specs.Entries.{fault, data_fault_if}
use Rattle.pw_data.proofs.entries.OwnFaults.noted.Goals as goal

-- one fault after the other is noted
one_by_one : (a b c : Bool) (line : ℕ) (known : Option Fault)
    → fault_noted (fault_noted (fault_noted known a (fault line BadPicture)) b (fault line BadDataEntry)) c (fault line NameTwice)
    ≡ least known (data_fault_if a line BadPicture ++ (data_fault_if b line BadDataEntry ++ data_fault_if c line NameTwice))
one_by_one true true true line known = refl
one_by_one true true false line known = refl
one_by_one true false true line known = refl
one_by_one true false false line known = refl
one_by_one false true true line known = refl
one_by_one false true false line known = refl
one_by_one false false true line known = refl
one_by_one false false false line known = refl

pub returns : goal.returns
returns c =
    let whole = one_by_one c.args.self.picture c.args.self.entry c.args.self.name c.args.line c.args.known in
    rw (c.noted.ensures, c.noted-known-2.ensures, c.noted-known.ensures) whole
