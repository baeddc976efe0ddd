use Rattle.std.proofs.Common.{◌≡◌, ◌∙◌, ap, arith, length, refl, subst, take}
use Rattle.pw_code_meaning.specs.OfSystem.{behaviour}
use Rattle.pw_world_state.specs.Setups.{SetupState}
use Rattle.pw_status.specs.Status.{TellsStatus}
use Rattle.pw_status.proofs.Decks.{few-taken, status-of, whole-behaves, whole-log, whole-valid}
use Rattle.pw_read_back.proofs.FailureLines.{lines-like}
use Rattle.pw_compiled_deck.proofs.Decks.{refuses, whole-is}
use Rattle.pw_status.proofs.status.status.Goals as goal

pub returns-in-Err-clause-fault : goal.returns-in-Err-clause-fault
returns-in-Err-clause-fault c = refuses c.args.bytes.now c.in-Err.refusal c.in-Err.ensures.gives

pub new-setup-requires-clause-valid : goal.new-setup-requires-clause-valid
new-setup-requires-clause-valid c =
    let of = whole-is c.args.bytes.now c.in-Ok.deck c.in-Ok.ensures.gives in
    whole-valid c.args.bytes.now c.in-Ok.deck of c.in-Ok.ensures.small c.rule_of.result c.rule_of.ensures

pub new-setup-requires-clause-deck : goal.new-setup-requires-clause-deck
new-setup-requires-clause-deck c =
    let of = whole-is c.args.bytes.now c.in-Ok.deck c.in-Ok.ensures.gives in
    whole-behaves c.args.bytes.now c.in-Ok.deck of c.in-Ok.ensures.small c.rule_of.result c.rule_of.ensures

pub new-setup-requires-clause-lines : goal.new-setup-requires-clause-lines
new-setup-requires-clause-lines c =
    lines-like c.in-Ok.deck.system (record c.in-Ok.deck.system { rule = c.rule_of.result }) refl refl
    c.in-Ok.deck.script.lines c.in-Ok.ensures.lines

pub count-requires : goal.count-requires
count-requires c =
    let of = whole-is c.args.bytes.now c.in-Ok.deck c.in-Ok.ensures.gives in
    let same : c.as_slice.result.now ≡ c.in-Ok.deck.log = cc in
    let all = whole-log c.args.bytes.now c.in-Ok.deck of c.in-Ok.ensures.small in
    let few = few-taken c.args.at c.as_slice.result.now in
    let first : length c.first.result.now ≡ length (take c.args.at c.as_slice.result.now) = ap length c.first.ensures in
    let whole : length c.as_slice.result.now ≡ length c.in-Ok.deck.log = ap length same in
    omega (arith, all, few, first, whole)

pub returns-clause-ok : goal.returns-clause-ok
returns-clause-ok c =
    let of = whole-is c.args.bytes.now c.in-Ok.deck c.in-Ok.ensures.gives in
    let same : c.as_slice.result.now ≡ c.in-Ok.deck.log = cc in
    let output = c.in_ok-count.field-0 in
    status-of c.args.bytes.now c.in-Ok.deck of c.in-Ok.ensures.small c.runs_keep_their_promises.ensures c.rule_of.result c.rule_of.ensures c.args.at c.first.result.now
    (c.first.ensures ∙ ap (λ log. take c.args.at log) same) output.0 output.1
    (subst (λ (s : SetupState). TellsStatus (behaviour s.script s.system) s.system c.first.result.now output.0 output.1)
    c.new-setup.ensures c.in_ok-count.ensures)
