-- The line of the units by its words.
use Rattle.std.proofs.Common.{◌≡◌, ℕ, List, [], ◌∷◌, ap, ◌∙◌}
use Rattle.std.specs.Fmt.{decimal}
use Rattle.std.specs.Prelude.{codes}
use Rattle.pw_status.specs.declared.counts.UnitCounts.{UnitCounts}
use Rattle.pw_event.specs.Line.{sentence}
use Rattle.pw_report_text.specs.Lines.{line}
use Rattle.pw_status.specs.Text.{units_line}

abbrev words_line : List ℕ → List ℕ → List ℕ → List ℕ → List ℕ → List ℕ → List ℕ → List ℕ → List ℕ
words_line begun committed dropped left older takeover server redo =
    line (sentence (codes "TMF" ∷ codes "BEGUN" ∷ begun ∷ codes "COMMITTED" ∷ committed ∷ codes "DROPPED" ∷ dropped ∷ codes "LEFT" ∷ left
    ∷ codes "OLDER" ∷ older ∷ codes "TAKEOVER" ∷ takeover ∷ codes "SERVER" ∷ server ∷ codes "REDO" ∷ redo ∷ []))

pub units-words : (counts : UnitCounts) (begun committed dropped left older takeover server redo : List ℕ) → begun ≡ decimal counts.begun → committed ≡ decimal counts.committed
    → dropped ≡ decimal counts.dropped → left ≡ decimal counts.left → older ≡ decimal counts.older → takeover ≡ decimal counts.takeover → server ≡ decimal counts.server
    → redo ≡ decimal counts.redo → words_line begun committed dropped left older takeover server redo ≡ units_line counts
units-words counts begun committed dropped left older takeover server redo a b c d e f g h =
    ap (λ (w : List ℕ). words_line w committed dropped left older takeover server redo) a
    ∙ (ap (λ (w : List ℕ). words_line (decimal counts.begun) w dropped left older takeover server redo) b
    ∙ (ap (λ (w : List ℕ). words_line (decimal counts.begun) (decimal counts.committed) w left older takeover server redo) c
    ∙ (ap (λ (w : List ℕ). words_line (decimal counts.begun) (decimal counts.committed) (decimal counts.dropped) w older takeover server redo) d
    ∙ (ap (λ (w : List ℕ). words_line (decimal counts.begun) (decimal counts.committed) (decimal counts.dropped) (decimal counts.left) w takeover server redo) e
    ∙ (ap (λ (w : List ℕ). words_line (decimal counts.begun) (decimal counts.committed) (decimal counts.dropped) (decimal counts.left) (decimal counts.older) w server redo) f
    ∙ (ap (λ (w : List ℕ). words_line (decimal counts.begun) (decimal counts.committed) (decimal counts.dropped) (decimal counts.left) (decimal counts.older) (decimal counts.takeover) w redo) g
    ∙ ap (λ (w : List ℕ). words_line (decimal counts.begun) (decimal counts.committed) (decimal counts.dropped) (decimal counts.left) (decimal counts.older) (decimal counts.takeover) (decimal counts.server) w) h))))))
