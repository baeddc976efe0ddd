use Rattle.std.proofs.Common.{◌++◌, sym, ap, ◌∙◌}
use Rattle.std.specs.List.{flat_map}
use Rattle.pw_names.specs.Order.{first}
use Rattle.pw_names.specs.Faults.{own_faults, faults}
use Rattle.pw_names.proofs.Noted.{first-three, first-further}
use Rattle.pw_names.proofs.Branches.{faults-If, faults-OnSizeError}
use Rattle.pw_names.proofs.scope.NameScope.+statements.Goals as goal

pub statement-returns-in-If : goal.statement-returns-in-If
statement-returns-in-If t c =
    let program = c.args.self.now in
    first-three c.args.known c.own-known.result c.statements-known.result c.statements.result (own_faults program c.args.statement.now)
    (flat_map (faults program) c.in-If.first) (flat_map (faults program) c.in-If.second) c.own-known.ensures
    (c.statements-known.ensures ∙ ap (λ xs. first c.own-known.result (flat_map (faults program) xs)) c.as_slice.ensures)
    (c.statements.ensures ∙ ap (λ xs. first c.statements-known.result (flat_map (faults program) xs)) c.as_slice-in-If.ensures)
    ∙ ap (λ one. first c.args.known (own_faults program one ++ (flat_map (faults program) c.in-If.first ++ flat_map (faults program) c.in-If.second))) c.in-If.is
    ∙ ap (λ xs. first c.args.known xs) (sym (faults-If program c.in-If.line c.in-If.cond c.in-If.first c.in-If.second))
    ∙ ap (λ one. first c.args.known (faults program one)) (sym c.in-If.is)

pub statement-returns-in-OnSizeError : goal.statement-returns-in-OnSizeError
statement-returns-in-OnSizeError t c =
    let program = c.args.self.now in
    first-three c.args.known c.own-known.result c.statements-known-in-OnSizeError.result c.statements-in-OnSizeError.result (own_faults program c.args.statement.now)
    (flat_map (faults program) c.in-OnSizeError.first) (flat_map (faults program) c.in-OnSizeError.second) c.own-known.ensures
    (c.statements-known-in-OnSizeError.ensures ∙ ap (λ xs. first c.own-known.result (flat_map (faults program) xs)) c.as_slice-in-OnSizeError.ensures)
    (c.statements-in-OnSizeError.ensures ∙ ap (λ xs. first c.statements-known-in-OnSizeError.result (flat_map (faults program) xs)) c.as_slice-in-OnSizeError-2.ensures)
    ∙ ap (λ one. first c.args.known (own_faults program one ++ (flat_map (faults program) c.in-OnSizeError.first ++ flat_map (faults program) c.in-OnSizeError.second))) c.in-OnSizeError.is
    ∙ ap (λ xs. first c.args.known xs) (sym (faults-OnSizeError program c.in-OnSizeError.line c.in-OnSizeError.arithmetic c.in-OnSizeError.first c.in-OnSizeError.second))
    ∙ ap (λ one. first c.args.known (faults program one)) (sym c.in-OnSizeError.is)

pub statements-loop-statement-preserved : goal.statements-loop-statement-preserved
statements-loop-statement-preserved t c =
    first-further (faults c.args.self.now) c.args.statements.now c.loop-statement.statement-index c.statement-item.result c.loop-statement.found c.statement-found.result
    (first c.args.known (flat_map (faults c.args.self.now) c.args.statements.now)) c.loop-statement-test.true c.statement-item.is c.statement-found.ensures c.loop-statement.invariant
