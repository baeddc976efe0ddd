use Rattle.std.proofs.Common.{◌≡◌, ◌<◌, true, length, sym, subst}
use Rattle.std.proofs.lemmas.Result.{on_ok_weaker}
use Rattle.pw_locks.specs.Runs.{FitsAmongSpans, is_in_runs}
use Rattle.pw_locks.specs.declared.chain.Chain.{Chain}
use Rattle.pw_locks.proofs.Chaining.{any-set, any-set_here}
use Rattle.pw_locks.proofs.chains.Chains.put.Goals as goal

pub put-requires : goal.put-requires
put-requires c = subst (λ (chain : Chain). FitsAmongSpans chain.runs c.args.low.now c.args.high.now) (sym c.index_mut.ensures.value) (c.in-Some.ensures.fits c.index_mut.result.now)

pub returns-in-Some-clause-ok : goal.returns-in-Some-clause-ok
returns-in-Some-clause-ok c =
    let chains = c.args.self.now.all in
    let within : c.in-Some.place < length chains.items = subst (λ len. c.in-Some.place < len) chains.ok.0 c.in-Some.ensures.bound in
    on_ok_weaker c.put.result
    (any-set_here (λ (chain : Chain). is_in_runs chain.runs c.args.low.now c.args.high.now c.args.number) chains.items c.in-Some.place c.put.new.self within) c.put.ensures.ok

pub returns-in-Some-clause-stays : goal.returns-in-Some-clause-stays
returns-in-Some-clause-stays c = λ l h n.
    let chains = c.args.self.now.all in
    let within : c.in-Some.place < length chains.items = subst (λ len. c.in-Some.place < len) chains.ok.0 c.in-Some.ensures.bound in
    any-set (λ (chain : Chain). is_in_runs chain.runs l h n) chains.items c.in-Some.place c.put.new.self c.index_mut.result.now within
    (λ there. c.put.ensures.stays l h n (subst (λ (chain : Chain). is_in_runs chain.runs l h n ≡ true) (sym c.index_mut.ensures.value) there))
