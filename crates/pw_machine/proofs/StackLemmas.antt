-- The characters of the items of the programs at work, one program after the other.
use Rattle.std.proofs.Common.{◌≡◌, ℕ, ◌+◌, ◌<◌, List, length, take, get_or, sym, ap, ◌∙◌}
use Rattle.std.specs.Prelude.{sum_by}
use Rattle.std.proofs.lemmas.List.Sums.{sum_by_more}
use Rattle.pw_code.specs.declared.context.Frame.{Frame}
use Rattle.pw_code.specs.declared.system.System.{System}
use Rattle.pw_code_meaning.specs.Calls.{items_of}
use Rattle.pw_code_meaning.specs.Config.{code_at}

pub total_more : (system : System) (frames items : List Frame) (i : ℕ) (frame : Frame) (total : ℕ) → items ≡ frames → i < length items → frame ≡ get_or items i frame
    → total ≡ sum_by (items_of system) (take i frames)
    → total + length (code_at system frame.program).storage ≡ sum_by (items_of system) (take (i + 1) frames)
total_more system frames items i frame total same lt is so_far =
    let more = sum_by_more (items_of system) items i frame lt in
    let own : length (code_at system frame.program).storage ≡ items_of system (get_or items i frame) = ap (items_of system) is in
    ap (λ n. n + length (code_at system frame.program).storage) (so_far ∙ ap (λ l. sum_by (items_of system) (take i l)) (sym same))
    ∙ ap (λ n. sum_by (items_of system) (take i items) + n) own ∙ sym more ∙ ap (λ l. sum_by (items_of system) (take (i + 1) l)) same
