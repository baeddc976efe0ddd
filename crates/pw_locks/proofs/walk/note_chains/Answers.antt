use Rattle.std.proofs.Common.{◌≡◌, ◌+◌, ◌<◌, length, get_or, take, subst}
use Rattle.pw_locks.specs.Chains.{IsMet, IsMetIn}
use Rattle.pw_locks.specs.Searches.{is_sought}
use Rattle.pw_locks.specs.declared.chain.Chain.{Chain}
use Rattle.pw_locks.proofs.Reaching.{met-more}
use Rattle.pw_locks.proofs.Searching.{Searched-then}
use Rattle.pw_locks.proofs.walk.note_chains.Goals as goal

pub loop-chain-preserved : goal.loop-chain-preserved
loop-chain-preserved c =
    let span = c.args.sought.now.span.now in
    let chains = c.args.chains.now.all.items in
    let chain : Chain = c.chain-item.result in
    let i = c.loop-chain.chain-index in
    let value : c.deref-chain-items.result.now ≡ chains = c.deref-chain-items.ensures.value in
    let at : chain ≡ get_or chains i chain = subst (λ xs. chain ≡ get_or xs i chain) value c.chain-item.is in
    let within : i < length chains = subst (λ xs. i < length xs) value c.loop-chain-test.true in
    Searched-then (is_sought c.args.sought.now) c.args.locks.now c.args.known c.loop-chain.found c.note_chain-found.result (IsMetIn span (take i chains)) (IsMet span chain.runs) (IsMetIn span (take (i + 1) chains))
    (λ n met. met-more span chains i chain n within at met) c.loop-chain.invariant c.note_chain-found.ensures
