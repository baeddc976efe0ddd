use Rattle.std.proofs.Common.{sym, ap, ◌∙◌, map}
use Rattle.pw_operands.specs.Uses as place
use Rattle.pw_names.specs.Order.{noted}
use Rattle.std.proofs.Common.{append_assoc}
use Rattle.std.specs.Prelude.{is_some}
use Rattle.pw_base.specs.declared.fault_code.FaultCode.TheVariants.{UnknownName, WrongLength}
use Rattle.pw_operands.specs.Scope.{program_of}
use Rattle.pw_names.specs.Calls.{numbered_fit, call_fits}
use Rattle.pw_names.specs.Flaws.{unless_holds, flaws_of}
use Rattle.pw_names.proofs.Noted.{three-parts}
use Rattle.pw_names.proofs.scope.NameScope.call.Goals as goal

pub returns : goal.returns
returns c =
    let program = c.args.self.now in
    let number = program_of c.args.self.now.scope c.args.name.now in
    three-parts c.args.known c.noted_unless-known.result c.receivers-known.result c.noted_unless.result c.args.line (unless_holds (is_some number) UnknownName)
    (flaws_of c.args.self.now.scope (map place.Receiver c.args.arguments.now)) (unless_holds (call_fits program c.args.name.now c.args.arguments.now) WrongLength)
    (c.noted_unless-known.ensures ∙ ap (λ b. noted c.args.known c.args.line (unless_holds b UnknownName)) (c.is_some.ensures ∙ ap is_some (c.program-number.ensures ∙ ap (program_of c.args.self.now.scope) c.as_slice.ensures)))
    c.receivers-known.ensures
    (c.noted_unless.ensures ∙ ap (λ b. noted c.receivers-known.result c.args.line (unless_holds b WrongLength))
    (c.numbered_fit-fits.ensures ∙ ap (numbered_fit program c.args.arguments.now) (c.program-number.ensures ∙ ap (program_of c.args.self.now.scope) c.as_slice.ensures)))
    ∙ ap (noted c.args.known c.args.line) (sym (append_assoc (unless_holds (is_some number) UnknownName) (flaws_of c.args.self.now.scope (map place.Receiver c.args.arguments.now)) _))
