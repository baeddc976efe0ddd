use Rattle.std.proofs.Common.{◌≡◌, List, length, Result, sym, ap, subst, ◌∙◌}
use Rattle.std.proofs.lemmas.Bool.{eqb-true}
use Rattle.pw_base.specs.declared.fault.Fault.{Fault}
use Rattle.pw_base.specs.First.{Gives}
use Rattle.pw_code.specs.declared.field.ScreenTable.{ScreenTable}
use Rattle.pw_divisions.specs.Entries.{division_entries_of}
use Rattle.pw_divisions.proofs.Cuts.{no-entries}
use Rattle.pw_screen.specs.Built.{outcome}
use Rattle.pw_screen.proofs.read.screens.Goals as goal

pub loop-cursor-init : goal.loop-cursor-init
loop-cursor-init c = record {
  text = c.new-cursor.ensures.text;
  so_far = ap (λ tokens. outcome c.args.text.now c.args.layout.now c.new-reading.result (division_entries_of tokens)) c.new-cursor.ensures.tokens
      ∙ c.new-reading.ensures.outcome c.args.text.now c.args.tokens.now c.args.layout.now;
  sound = c.new-reading.ensures.sound (length c.args.layout.now.storage);
}

pub returns-clause-screens : goal.returns-clause-screens
returns-clause-screens c =
    let left = c.loop-cursor.cursor in
    let none : length left.tokens ≡ 0 = eqb-true (length left.tokens) 0 (sym c.loop-cursor-test.ensures) in
    let P : Result (List ScreenTable) Fault → Type 0 = λ defined. Gives (λ tables. tables.items) c.finish.result defined in
    subst P (sym (ap (outcome c.args.text.now c.args.layout.now c.loop-cursor.reading) (no-entries left.tokens none)) ∙ c.loop-cursor.invariant.so_far)
    (c.finish.ensures.outcome c.args.text.now c.args.layout.now)
