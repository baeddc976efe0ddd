use Rattle.std.proofs.Common.{◌≡◌, ◌∙◌, ℕ, List, ap, length, subst, sym}
use Rattle.std.specs.List.{AllByRecursion}
use Rattle.std.specs.Prelude.{IfOk}
use Rattle.pw_code.specs.declared.system.System.{System}
use Rattle.pw_event.specs.Line.{IsNamed}
use Rattle.pw_event.specs.declared.event.Event.{Event}
use Rattle.pw_report_text.specs.Blocks.{IsBlockOf}
use Rattle.pw_report_text.specs.Listing.{records_in}
use Rattle.pw_world.specs.States.{seen}
use Rattle.pw_world_model.specs.Seen.{sys_of}
use Rattle.pw_serial_order.specs.declared.block.Block.{Block}
use Rattle.pw_report.proofs.Printing.{whole-same}
use Rattle.pw_report.proofs.report.report.Goals as goal

pub report-requires-clause-blocks : goal.report-requires-clause-blocks
report-requires-clause-blocks g c =
    let world = seen g.D.Disc.told c.args.world.now in
    subst (λ (s : System). AllByRecursion (IsBlockOf s) c.as_slice.result.now) (sym c.system.ensures.system)
    (subst (λ (order : List Block). AllByRecursion (IsBlockOf world.system) order) (sym (c.as_slice.ensures.value ∙ c.in_ok-order.ensures))
    (c.naming_laws.ensures.order world.system world.script world.log c.holds.ensures.deck c.holds.ensures.lines c.holds.ensures.run))

pub report-requires-clause-files : goal.report-requires-clause-files
report-requires-clause-files g c =
    ap length c.as_slice-2.ensures.value ∙ (c.in_ok-files.ensures.count ∙ sym (ap (λ (s : System). length s.files) c.system.ensures.system))

pub report-requires-clause-named : goal.report-requires-clause-named
report-requires-clause-named g c =
    let world = seen g.D.Disc.told c.args.world.now in
    subst (λ (s : System). AllByRecursion (IsNamed s) c.log.result.now) (sym c.system.ensures.system)
    (subst (λ (log : List Event). AllByRecursion (IsNamed world.system) log) (sym c.log.ensures.log)
    (c.naming_laws.ensures.log world.system world.script world.log c.holds.ensures.deck c.holds.ensures.lines c.holds.ensures.run))

pub returns : goal.returns
returns g c =
    let world = seen g.D.Disc.told c.args.world.now in
    let sys = sys_of world in
    subst (λ (whole : List ℕ). IfOk c.report.result (λ text. text ≡ whole))
    (whole-same world.system c.system.result.now sys world.log c.log.result.now c.as_slice.result.now c.screens.result.now c.as_slice-2.result.now c.finished.result
    c.system.ensures.system c.log.ensures.log (c.as_slice.ensures.value ∙ c.in_ok-order.ensures) c.screens.ensures
    (λ f low. ap (λ (files : List (List (List ℕ))). records_in files f) c.as_slice-2.ensures.value ∙ c.in_ok-files.ensures.records f low)
    c.finished.ensures
    ∙ c.printed_is_the_report.ensures.text world.system sys c.holds.ensures.deck world.log c.holds.ensures.run)
    c.report.ensures
