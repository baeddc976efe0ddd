-- The cells are compared with as many of a screen of spaces.
use Rattle.std.proofs.Common.{◌≡◌, ℕ, length, take, sym, ap, ◌∙◌}
use Rattle.std.proofs.lemmas.List.{take-replicate}
use Rattle.std.proofs.lemmas.Slice.Eq.{bytes_eq-Decides}
use Rattle.std.specs.Prelude.{replicate}
use Rattle.std.specs.Str.{bytes_eq}
use Rattle.pw_terminal.proofs.printing.is_blank.Goals as goal

pub returns : goal.returns
returns c =
    let cells = c.args.cells.now in
    let count = length cells in
    let blank : take count c.as_slice-screen.result.now ≡ replicate count 32 =
    ap (take count) c.as_slice-screen.ensures ∙ take-replicate {X = ℕ} count 1920 32 c.requires in
    let is : c.eq.result ≡ bytes_eq cells (replicate count 32) = c.eq.ensures ∙ ap (bytes_eq cells) blank in
    let decides = bytes_eq-Decides cells (replicate count 32) in
    (λ same. decides.0 (sym is ∙ same), λ same. is ∙ decides.1 same)
