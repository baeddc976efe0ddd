-- What was staged stands behind the gate that was the last one.
use Rattle.std.proofs.Common.{rules, ◌≡◌, ◌∙◌, ◌-◌, List, ℕ, [], ◌∷◌, ◌++◌, length, ap, arith, length-append, slice_set}
use Rattle.std.proofs.lemmas.List.{append_assoc, set_at}
use Rattle.pw_trail.specs.Stored.{staged}
use Rattle.pw_trail.proofs.Groups.{group-more}
use Rattle.pw_trail.proofs.group.RecordGroup.add.Goals as goal

pub returns-clause-ok : goal.returns-clause-ok
returns-clause-ok c files units g fit =
    let own = c.args.unit.now in
    let old : List ℕ = c.args.self.now.bytes.items in
    let at : ℕ = c.len-gate.result - 1 in
    let long : c.len-gate.result ≡ length old = search rules in
    let piece : c.deref.result.now ≡ staged own = c.deref.ensures.value ∙ c.in_ok-staged.ensures.bytes in
    let pushed : c.extend_from_slice.new.self.items ≡ old ++ c.deref.result.now = search rules in
    let is : c.extend_from_slice.new.self.items ≡ g.front ++ (0 ∷ staged own) =
    pushed ∙ ap (λ (l : List ℕ). old ++ l) piece ∙ ap (λ (l : List ℕ). l ++ staged own) g.is ∙ append_assoc g.front (0 ∷ []) (staged own) in
    let size : length g.front ≡ at = omega (arith, long, ap length g.is, length-append g.front (0 ∷ [])) in
    group-more files units old g own c.in_ok-staged.ensures.values fit c.in_ok-staged.ensures.size _
    (ap (λ (l : List ℕ). slice_set l at 1) is ∙ set_at g.front 0 (staged own) 1 at size)
