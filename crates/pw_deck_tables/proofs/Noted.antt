-- Faults of several kinds, noted one kind after the other.
use Rattle.std.proofs.Common.{◌≡◌, List, ◌++◌, Option, None, sym, ap, ◌∙◌}
use Rattle.pw_base.specs.declared.fault.Fault.{Fault}
use Rattle.pw_base.specs.First.{least}
use Rattle.pw_base.proofs.FirstFault.{least-append}

-- the first of four kinds
pub noted_parts : (a b c d : List Fault) (first second third fourth : Option Fault) → first ≡ least None a → second ≡ least first b → third ≡ least second c → fourth ≡ least third d
    → fourth ≡ least None (a ++ (b ++ (c ++ d)))
noted_parts a b c d first second third fourth f s t l =
    l ∙ ap (λ k. least k d) (t ∙ ap (λ k. least k c) (s ∙ ap (λ k. least k b) f))
    ∙ sym (least-append None a (b ++ (c ++ d)) ∙ least-append (least None a) b (c ++ d) ∙ least-append (least (least None a) b) c d)
