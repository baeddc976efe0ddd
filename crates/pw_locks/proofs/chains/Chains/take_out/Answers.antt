use Rattle.std.proofs.Common.{◌≡◌, ◌<◌, [], true, length, sym, subst, ◌∙◌, get_or-set_same}
use Rattle.pw_locks.specs.Runs.{is_in_runs}
use Rattle.pw_locks.specs.declared.chain.Chain.{Chain}
use Rattle.pw_locks.proofs.Chaining.{any-set, any-emptied, none-in-runs}
use Rattle.pw_locks.proofs.chains.Chains.take_out.Goals as goal

pub returns-then-is_empty : goal.returns-then-is_empty
returns-then-is_empty c = λ l h n ne was.
    let chains = c.args.self.now.all in
    let place = c.in-Some.place in
    let within : place < length chains.items = subst (λ len. place < len) chains.ok.0 c.in-Some.ensures in
    let now : c.index.result.now ≡ c.take_out.new.self = c.index.ensures ∙ get_or-set_same chains.items place c.take_out.new.self c.index.result.now within in
    let none : c.take_out.new.self.runs.entries ≡ [] = subst (λ (chain : Chain). chain.runs.entries ≡ []) now (c.is_empty.ensures c.if-is_empty.true) in
    rw c.remove.ensures.items
    (any-emptied (λ (chain : Chain). is_in_runs chain.runs l h n) chains.items place c.take_out.new.self c.index_mut.result.now within
    (λ there.
    none-in-runs c.take_out.new.self.runs l h n none
    (c.take_out.ensures l h n ne (subst (λ (chain : Chain). is_in_runs chain.runs l h n ≡ true) (sym c.index_mut.ensures.value) there))) was)

pub returns-else-is_empty : goal.returns-else-is_empty
returns-else-is_empty c = λ l h n ne.
    let chains = c.args.self.now.all in
    let within : c.in-Some.place < length chains.items = subst (λ len. c.in-Some.place < len) chains.ok.0 c.in-Some.ensures in
    any-set (λ (chain : Chain). is_in_runs chain.runs l h n) chains.items c.in-Some.place c.take_out.new.self c.index_mut.result.now within
    (λ there. c.take_out.ensures l h n ne (subst (λ (chain : Chain). is_in_runs chain.runs l h n ≡ true) (sym c.index_mut.ensures.value) there))
