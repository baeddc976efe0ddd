-- Each character is passed, and of those that are digits one is counted.
use Rattle.std.proofs.Common.{◌<◌, ◌≡◌, length, get_or, true, false, ◌∙◌, sym, arith}
use Rattle.std.specs.Char.{is_ascii_digit}
use Rattle.pw_machine.proofs.TextLemmas.{digit_passed, other_passed}
use Rattle.pw_machine.proofs.texts.digit_of_spelling.Goals as goal
use Rattle.pw_machine.proofs.texts.digit_of_spelling.Goals.{then-is_ascii_digit+else-left-eq0, else-is_ascii_digit}

pub loop-byte-preserved : goal.loop-byte-preserved
loop-byte-preserved c =
    let s = c.args.spelling.now in
    let i = c.loop-byte.byte-index in
    let within : i < length s = omega arith in
    elim c.if-is_ascii_digit.branch [
      | then-is_ascii_digit+else-left-eq0 w ↦
          let digit : is_ascii_digit (get_or s i 0) ≡ true = sym c.is_ascii_digit.ensures.value ∙ w.if-is_ascii_digit.true in
          rw w.left-is (digit_passed s i c.loop-byte.left _ within digit (omega arith) c.loop-byte.invariant)
      | else-is_ascii_digit w ↦
          let other : is_ascii_digit (get_or s i 0) ≡ false = sym c.is_ascii_digit.ensures.value ∙ w.if-is_ascii_digit.false in
          rw w.left-is (other_passed s i c.loop-byte.left _ within other c.loop-byte.invariant)
    ]
