use Rattle.std.proofs.Common.{◌≡◌, ◌-◌, ◌++◌, ◌∷◌, ◌∙◌, sym, ap, subst, arith, length, length-drop, take, drop}
use Rattle.std.proofs.lemmas.List.{take_all}
use Rattle.pw_base.proofs.Plain.{is_lt-Less}
use Rattle.pw_blocks.specs.Cuts.{Rises}
use Rattle.pw_blocks.specs.Packing.{unpacked, packed_all, from_key}
use Rattle.pw_blocks.proofs.BlockLemmas.{first_step}
use Rattle.pw_blocks.proofs.CutLemmas.{from_key-past}
use Rattle.pw_blocks.proofs.PackingLemmas.{from_finger}
use Rattle.pw_blocks.proofs.cut.sought.Goals as goal

pub returns-then-is_lt-clause-records : goal.returns-then-is_lt-clause-records
returns-then-is_lt-clause-records c =
    let n = c.args.key_length in
    let key = c.args.key.now in
    let bytes = c.args.bytes.now in
    let at = c.requires.finger in
    let content = c.in-Some.content.now in
    let there : take (length bytes - c.args.finger) (drop c.args.finger bytes) ≡ packed_all at.back =
    take_all (length bytes - c.args.finger) (drop c.args.finger bytes) (omega (arith, length-drop c.args.finger bytes)) ∙ from_finger bytes c.args.finger at c.requires.block in
    let step = first_step (c.in-Some.content, c.in-Some.behind) at.back (c.in-Some.ensures.first at.back there) in
    let whole : at.front ++ content ∷ step.0 ≡ unpacked bytes = ap (λ back. at.front ++ back) (sym step.1) ∙ at.contents in
    let below = sym c.compared.ensures ∙ is_lt-Less c.compared.result (sym c.if-is_lt.ensures) in
    c.from_key.ensures.records step.0 step.2
    ∙ ap packed_all (sym (from_key-past n key at.front step.0 content (subst (Rises n) (sym whole) c.requires.rises) below) ∙ ap (λ contents. from_key n contents key) whole)
