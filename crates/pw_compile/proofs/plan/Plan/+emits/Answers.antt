use Rattle.std.proofs.Common.{◌≡◌, ◌++◌, [], ◌∷◌, map, sym, ap, ◌∙◌, subst}
use Rattle.std.specs.Prelude.{OnOk}
use Rattle.pw_code.specs.declared.instr.Instr.TheVariants as instr
use Rattle.pw_compile.specs.Conditions.{cond_of, arithmetic_of}
use Rattle.pw_compile.specs.Emitted.{statement_code, reply_code}
use Rattle.pw_compile.specs.Operands.{operand_of}
use Rattle.pw_compile.specs.Plan.{turn_of, planned_class}
use Rattle.pw_compile.proofs.Branches.{choice, ended, ended_two, code-If, code-OnSizeError}
use Rattle.pw_compile.proofs.plan.Plan.+emits.Goals as goal

pub emit-returns-in_ok-pass_over-in-OnSizeError : goal.emit-returns-in_ok-pass_over-in-OnSizeError
emit-returns-in_ok-pass_over-in-OnSizeError t c =
    let plan = c.args.self.now in
    let w = c.in-OnSizeError in
    subst (λ xs. OnOk c.emit_body-in-OnSizeError.result (c.emit_body-in-OnSizeError.new.code ≡ xs))
    (choice plan (instr.OnSizeError (arithmetic_of plan.layout w.arithmetic)) c.args.code.now c.begin_arithmetic.new.code c.emit_body.new.code c.pass_over.new.code w.first w.second _ _ _ _
    c.as_slice.ensures c.as_slice-in-OnSizeError.ensures c.as_slice-in-OnSizeError-2.ensures c.as_slice-in-OnSizeError-3.ensures
    c.in_ok-begin_arithmetic-in-OnSizeError.ensures c.in_ok-emit_body-in-OnSizeError.ensures c.in_ok-pass_over-in-OnSizeError.ensures
    ∙ ap (λ xs. c.args.code.now ++ xs) (sym (code-OnSizeError plan w.line w.arithmetic w.first w.second) ∙ ap (statement_code plan) (sym w.is)))
    c.emit_body-in-OnSizeError.ensures

pub emit-returns-in_ok-pass_over-in-If : goal.emit-returns-in_ok-pass_over-in-If
emit-returns-in_ok-pass_over-in-If t c =
    let plan = c.args.self.now in
    let w = c.in-If in
    subst (λ xs. OnOk c.emit_body-in-If-2.result (c.emit_body-in-If-2.new.code ≡ xs))
    (choice plan (instr.JumpUnless (cond_of plan.layout w.cond)) c.args.code.now c.begin_if.new.code c.emit_body-in-If.new.code c.pass_over-in-If.new.code w.first w.second _ _ _ _
    c.as_slice-in-If.ensures c.as_slice-in-If-2.ensures c.as_slice-in-If-3.ensures c.as_slice-in-If-4.ensures
    c.in_ok-begin_if-in-If.ensures c.in_ok-emit_body-in-If.ensures c.in_ok-pass_over-in-If.ensures
    ∙ ap (λ xs. c.args.code.now ++ xs) (sym (code-If plan w.line w.cond w.first w.second) ∙ ap (statement_code plan) (sym w.is)))
    c.emit_body-in-If-2.ensures

pub emit-returns-in-Perform : goal.emit-returns-in-Perform
emit-returns-in-Perform t c =
    ended c.args.self.now c.args.code.now c.push-in-Perform.new.self _ c.args.statement.now _ c.push-in-Perform.result c.push-in-Perform.ensures.ok c.in-Perform.is
    (ap (λ found. instr.Perform found ∷ []) (c.turn.ensures ∙ ap (turn_of c.args.self.now) c.as_slice-in-Perform.ensures))

pub emit-returns-in_ok-until-in-PerformUntil : goal.emit-returns-in_ok-until-in-PerformUntil
emit-returns-in_ok-until-in-PerformUntil t c =
    ended_two c.args.self.now c.args.code.now c.push-in-PerformUntil.new.self c.push-in-PerformUntil-2.new.self _ _ c.args.statement.now _ c.push-in-PerformUntil-2.result
    c.in_ok-push-in-PerformUntil.ensures.ok c.push-in-PerformUntil-2.ensures.ok c.in-PerformUntil.is (ap (λ i. instr.Exit ∷ i ∷ []) c.in_ok-until-in-PerformUntil.ensures)

pub emit-returns-in_ok-push-in-Send : goal.emit-returns-in_ok-push-in-Send
emit-returns-in_ok-push-in-Send t c =
    ended_two c.args.self.now c.args.code.now c.push-in-Send.new.self c.push-in-Send-2.new.self _ _ c.args.statement.now _ c.push-in-Send-2.result
    c.in_ok-push-in-Send.ensures.ok c.push-in-Send-2.ensures.ok c.in-Send.is (ap (λ i. i ∷ instr.NoCode ∷ [])
    (c.in_ok-send-in-Send.ensures
    ∙ ap (λ codes. instr.Send (planned_class c.args.self.now c.in-Send.class) (operand_of c.args.self.now.layout c.in-Send.message) (map (reply_code c.args.self.now) codes)) c.as_slice-in-Send.ensures.codes))

pub emit-returns-in_ok-times-in-PerformTimes : goal.emit-returns-in_ok-times-in-PerformTimes
emit-returns-in_ok-times-in-PerformTimes t c =
    ended c.args.self.now c.args.code.now c.push-in-PerformTimes.new.self _ c.args.statement.now _ c.push-in-PerformTimes.result c.push-in-PerformTimes.ensures.ok c.in-PerformTimes.is
    (ap (λ i. i ∷ []) c.in_ok-times-in-PerformTimes.ensures)

pub emit-returns-in_ok-display_base-in-DisplayBase : goal.emit-returns-in_ok-display_base-in-DisplayBase
emit-returns-in_ok-display_base-in-DisplayBase t c =
    ended c.args.self.now c.args.code.now c.push-in-DisplayBase.new.self _ c.args.statement.now _ c.push-in-DisplayBase.result c.push-in-DisplayBase.ensures.ok c.in-DisplayBase.is
    (ap (λ i. i ∷ []) c.in_ok-display_base-in-DisplayBase.ensures)

pub emit-returns-in_ok-accept-in-Accept : goal.emit-returns-in_ok-accept-in-Accept
emit-returns-in_ok-accept-in-Accept t c =
    ended c.args.self.now c.args.code.now c.push-in-Accept.new.self _ c.args.statement.now _ c.push-in-Accept.result c.push-in-Accept.ensures.ok c.in-Accept.is
    (ap (λ i. i ∷ []) c.in_ok-accept-in-Accept.ensures)

pub emit-returns-in_ok-call-in-Call : goal.emit-returns-in_ok-call-in-Call
emit-returns-in_ok-call-in-Call t c =
    ended c.args.self.now c.args.code.now c.push-in-Call.new.self _ c.args.statement.now _ c.push-in-Call.result c.push-in-Call.ensures.ok c.in-Call.is
    (ap (λ i. i ∷ []) c.in_ok-call-in-Call.ensures)

pub emit-returns-in_ok-read-in-Read : goal.emit-returns-in_ok-read-in-Read
emit-returns-in_ok-read-in-Read t c =
    ended c.args.self.now c.args.code.now c.push-in-Read.new.self _ c.args.statement.now _ c.push-in-Read.result c.push-in-Read.ensures.ok c.in-Read.is
    (ap (λ i. i ∷ []) c.in_ok-read-in-Read.ensures)

pub emit-returns-in_ok-read_next-in-ReadNext : goal.emit-returns-in_ok-read_next-in-ReadNext
emit-returns-in_ok-read_next-in-ReadNext t c =
    ended c.args.self.now c.args.code.now c.push-in-ReadNext.new.self _ c.args.statement.now _ c.push-in-ReadNext.result c.push-in-ReadNext.ensures.ok c.in-ReadNext.is
    (ap (λ i. i ∷ []) c.in_ok-read_next-in-ReadNext.ensures)

pub emit-returns-in_ok-write-in-Write : goal.emit-returns-in_ok-write-in-Write
emit-returns-in_ok-write-in-Write t c =
    ended c.args.self.now c.args.code.now c.push-in-Write.new.self _ c.args.statement.now _ c.push-in-Write.result c.push-in-Write.ensures.ok c.in-Write.is
    (ap (λ i. i ∷ []) c.in_ok-write-in-Write.ensures)

pub emit-returns-in_ok-rewrite-in-Rewrite : goal.emit-returns-in_ok-rewrite-in-Rewrite
emit-returns-in_ok-rewrite-in-Rewrite t c =
    ended c.args.self.now c.args.code.now c.push-in-Rewrite.new.self _ c.args.statement.now _ c.push-in-Rewrite.result c.push-in-Rewrite.ensures.ok c.in-Rewrite.is
    (ap (λ i. i ∷ []) c.in_ok-rewrite-in-Rewrite.ensures)

pub emit-returns-in_ok-delete-in-Delete : goal.emit-returns-in_ok-delete-in-Delete
emit-returns-in_ok-delete-in-Delete t c =
    ended c.args.self.now c.args.code.now c.push-in-Delete.new.self _ c.args.statement.now _ c.push-in-Delete.result c.push-in-Delete.ensures.ok c.in-Delete.is
    (ap (λ i. i ∷ []) c.in_ok-delete-in-Delete.ensures)
