use Rattle.std.proofs.Common.{◌≡◌, ◌++◌, ◌+◌, ◌-◌, length, take, drop, sym, ap, ◌∙◌, subst, arith, length-drop, ℕ, List}
use Rattle.std.proofs.Math.Seq.{take-add}
use Rattle.std.proofs.lemmas.List.{take_rest}
use Rattle.std.proofs.KnownBytes.{Appends-trans}
use Rattle.std.specs.Io.KnownBytes.{Appends}
use Rattle.pw_base.proofs.write_all.write_all_of.Goals as goal

-- the first bytes, and then some of those after them, are the first of all
take-then_rest : (n m : ℕ) (bytes : List ℕ) → take n bytes ++ take m (take (length bytes - n) (drop n bytes)) ≡ take (n + m) bytes
take-then_rest n m bytes = ap (λ rest. take n bytes ++ take m rest) (take_rest bytes n) ∙ sym (take-add n m bytes)

pub loop-taken-preserved : goal.loop-taken-preserved
loop-taken-preserved g c =
    let kept = c.loop-taken.invariant in
    let wrote = c.in-Took.ensures.writes in
    let before = g.K.Sink.written c.args.sink.now in
    let now = g.K.Sink.written c.write.new.self in
    record {
      within = omega (arith, wrote.1, length-drop {A = ℕ});
      written = subst (Appends before now) (take-then_rest c.loop-taken.taken c.in-Took.count c.args.bytes.now) (Appends-trans before _ now _ _ kept.written wrote.2);
      count = c.in-Took.ensures.cause ∙ kept.count;
    }
