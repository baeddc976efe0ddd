use Rattle.std.proofs.Common.{◌≡◌, ◌<◌, ◌∙◌, [], List, Some, ap, length, subst, sym, arith}
use Rattle.std.specs.Prelude.{All, slice_set}
use Rattle.std.proofs.lemmas.List.{length-set, nil_from_length}
use Rattle.pw_world_store.specs.Each.{gone_each, gone_on}
use Rattle.pw_pair.specs.Takeover.{resumption_of}
use Rattle.pw_pair.specs.declared.resumed.Resumed.{Resumed}
use Rattle.pw_world_store.proofs.Failing.{gone-last, last-low, rest-low}
use Rattle.pw_world_store.proofs.Parts.{seat-is}
use Rattle.pw_world_store.specs.declared.seat.Seat.{Seat}
use Rattle.pw_world_store.proofs.each.go_on_each.Goals as goal

pub index_mut-requires : goal.index_mut-requires
index_mut-requires c =
    let low = last-low (length c.loop-one.seats.items) c.pop.new.self.items c.in-Some.one (subst (All (λ (one : Resumed). one.terminal < length c.loop-one.seats.items)) c.in-Some.ensures.items c.loop-one.invariant.low) in
    let len = c.loop-one.seats.ok.0 in
    omega (arith, low, len)

pub loop-one-preserved : goal.loop-one-preserved
loop-one-preserved c =
    let seats = c.loop-one.seats.items in
    let one : Resumed = c.in-Some.one in
    let rest = c.pop.new.self.items in
    let all = subst (All (λ (x : Resumed). x.terminal < length seats)) c.in-Some.ensures.items c.loop-one.invariant.low in
    let lt = last-low (length seats) rest one all in
    record {
      leads =
          ap (λ (s : Seat). gone_each c.args.tcp rest (slice_set seats one.terminal s))
          (c.go_on.ensures ∙ ap (gone_on c.args.tcp (Some (resumption_of one))) (sym (seat-is seats one.terminal c.index_mut.result.now lt c.index_mut.ensures.value)))
          ∙ (sym (gone-last c.args.tcp rest one seats)
          ∙ (ap (λ l. gone_each c.args.tcp l seats) (sym c.in-Some.ensures.items) ∙ c.loop-one.invariant.leads));
      low = subst (λ n. All (λ (x : Resumed). x.terminal < n) rest) (sym (length-set seats one.terminal c.go_on.new.seat)) (rest-low (length seats) rest one all);
    }

pub returns : goal.returns
returns c =
    let none = c.in_default.ensures.cases in
    let len = c.loop-one.resumed.ok.0 in
    let nil : c.loop-one.resumed.items ≡ [] = nil_from_length c.loop-one.resumed.items (let n = none.0 in omega (arith, len, n)) in
    sym (ap (λ (l : List Resumed). gone_each c.args.tcp l c.loop-one.seats.items) nil) ∙ c.loop-one.invariant.leads
