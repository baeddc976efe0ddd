use Rattle.std.proofs.Common.{◌∙◌, ap, sym, ◌≡◌}
use Rattle.pw_tmf.specs.Faulty.{counted_if, with_faults}
use Rattle.pw_tmf.specs.declared.faulty.Calls.{Calls}
use Rattle.pw_tmf.specs.Told.{Told}
use Rattle.pw_tmf.specs.Units.{all_backed_out}
use Rattle.pw_tmf.proofs.WithFaults.{all-inside, faults-backed_out, on-ok-more}
use Rattle.pw_tmf.proofs.faulty.FaultyDisc.back_out.Goals as goal

pub back_out-requires-clause-units : goal.back_out-requires-clause-units
back_out-requires-clause-units g c = all-inside c.args.ends c.args.self.now.calls.faults (g.D.Disc.told c.args.self.now.inner) c.args.units.now c.requires.units

pub returns-clause-ok : goal.returns-clause-ok
returns-clause-ok g c =
    let n = c.args.self.now.calls.faults in
    let old : Told = g.D.Disc.told c.args.self.now.inner in
    let new : Told = g.D.Disc.told c.back_out.new.self in
    let none = ap (λ (calls : Calls). calls.faults) c.if-fails.ensures.counts ∙ ap (λ fails. counted_if fails n) (sym c.if-fails.ensures.answer) in
    on-ok-more c.back_out.result (new ≡ all_backed_out c.args.ends old c.args.units.now) _
    (λ is. ap (λ k. with_faults k new) none ∙ (ap (with_faults n) is ∙ faults-backed_out c.args.ends n old c.args.units.now)) c.back_out.ensures.ok
