use Rattle.std.proofs.Common.{Result, sym, ap, subst, ◌∙◌}
use Rattle.pw_base.specs.declared.fault.Fault.{Fault}
use Rattle.pw_base.specs.First.{Gives}
use Rattle.pw_forms.specs.declared.statement.Procedure.{Procedure}
use Rattle.pw_forms.specs.Pieces.{is_period, first_mark, pieces_of}
use Rattle.pw_forms.specs.Built.{outcome}
use Rattle.pw_forms.proofs.Cuts.{placed_all-next, no_pieces}
use Rattle.pw_forms.proofs.read.procedure.Goals as goal

pub loop-first-preserved : goal.loop-first-preserved
loop-first-preserved c =
    let behind = c.split_at.result.1.now in
    record {
      mark = c.piece_end-size.ensures.next ∙ ap (first_mark c.args.server c.args.text.now) (sym c.split_at.ensures.back);
      so_far = c.in_ok-put_by.ensures (pieces_of c.args.server c.args.text.now behind)
          ∙ ap (outcome c.loop-first.reading)
          (sym (placed_all-next c.args.server c.args.text.now c.loop-first.rest.now c.in-Some.behind.now c.split_at.result.0.now behind c.in-Some.first.now
          c.loop-first.mark c.piece_end-size.result.0 c.is_period.result c.in-Some.ensures.cases.0 c.loop-first.invariant.mark c.piece_end-size.ensures.size
          c.split_at.ensures.front c.split_at.ensures.back
          (c.is_period.ensures ∙ ap is_period (c.piece_end-size.ensures.next ∙ ap (first_mark c.args.server c.args.text.now) (sym c.split_at.ensures.back)))))
          ∙ c.loop-first.invariant.so_far;
    }

pub returns : goal.returns
returns c =
    let P : Result Procedure Fault → Type 0 = λ defined. Gives (λ found. found) c.finish.result defined in
    subst P (ap (outcome c.loop-first.reading) (sym (no_pieces c.args.server c.args.text.now c.loop-first.rest.now c.in_default.ensures.cases)) ∙ c.loop-first.invariant.so_far) c.finish.ensures
