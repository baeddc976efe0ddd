use Rattle.std.proofs.Common.{ℕ, ◌/◌, List, [], ◌∷◌, ◌++◌, sym, ap, ◌∙◌, arith}
use Rattle.std.specs.Fmt.{decimal}
use Rattle.pw_event.proofs.DigitByDigit.{last-four, last-two, one-digit, put-alone, put-last, two-digits}
use Rattle.pw_event.proofs.writing.+print_digits.Goals as goal

pub returns-then-number-lt10 : goal.returns-then-number-lt10
returns-then-number-lt10 t c =
    put-alone c.push.result c.args.text.now c.push.new.self (c.last_digit.result ∷ []) c.args.number
    (one-digit c.args.number c.if-number-lt10.true ∙ ap (λ (d : ℕ). d ∷ []) (sym c.last_digit.ensures))
    c.push.ensures.ok

pub returns-then-number-lt100 : goal.returns-then-number-lt100
returns-then-number-lt100 t c =
    put-alone c.extend.result c.args.text.now c.extend.new.self c.last_two.result c.args.number
    (two-digits c.args.number c.if-number-lt10.false c.if-number-lt100.true ∙ sym c.last_two.ensures)
    c.extend.ensures.ok

pub returns-then-number-lt10000 : goal.returns-then-number-lt10000
returns-then-number-lt10000 t c =
    let last = c.last_two-then-number-lt10000 in
    let put = c.extend-then-number-lt10000 in
    put-last put.result c.args.text.now c.print_digits.new.text put.new.self last.result c.args.number (c.args.number / 100)
    (last-two c.args.number c.if-number-lt100.false (omega arith) ∙ ap (λ (l : List ℕ). decimal (c.args.number / 100) ++ l) (sym last.ensures))
    c.in_ok-print_digits.ensures put.ensures.ok

pub returns : goal.returns
returns t c =
    put-last c.extend-2.result c.args.text.now c.print_digits-2.new.text c.extend-2.new.self c.last_four.result c.args.number (c.args.number / 10000)
    (last-four c.args.number c.if-number-lt10000.false (omega arith)
    ∙ ap (λ (l : List ℕ). decimal (c.args.number / 10000) ++ l) (sym c.last_four.ensures))
    c.in_ok-print_digits-2.ensures c.extend-2.ensures.ok
