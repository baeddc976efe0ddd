use Rattle.std.proofs.Common.{◌≡◌, ◌++◌, drop}
use Rattle.pw_report_text.specs.Lines.{block_lines}
use Rattle.pw_report_text.proofs.parts.print_blocks.Given as goal

-- the text so far, and the lines of the blocks that are left
abbrev pub invariant-loop-block : goal.invariant-loop-block
invariant-loop-block l =
    l.text ++ block_lines l.system (drop l.block-index l.order) ≡ l.initial.text ++ block_lines l.system l.order
