use Rattle.std.proofs.Common.{◌+◌, ◌<◌, ◌≤◌, length, sym, refl, arith}
use Rattle.pw_sections.proofs.Cuts.{none-begins, none-one}
use Rattle.pw_sections.proofs.part.bytes_passed.Goals as goal

pub returns-then-has_no_mark : goal.returns-then-has_no_mark
returns-then-has_no_mark c =
    let size = c.min-size.result in
    let le : size ≤ length c.split_at.result.1.now = omega (arith, c.min-size.ensures) in
    let some : 0 < size = omega (arith, c.requires, c.min-size.ensures, c.split_at.ensures.back_len) in
    let within : c.args.at + size ≤ length c.args.text.now = omega (arith, c.requires, le, c.split_at.ensures.back_len) in
    let none = none-begins c.args.at_start c.args.text.now c.split_at.result.1.now c.split_at-2.result.0.now c.args.at size c.split_at.ensures.back c.split_at-2.ensures.front le in
    (some, within, none (c.if-has_no_mark.ensures refl))

pub returns-then-begins_section : goal.returns-then-begins_section
returns-then-begins_section c = sym c.if-begins_section.ensures

pub returns-else-begins_section : goal.returns-else-begins_section
returns-else-begins_section c =
    (omega arith, omega (arith, c.requires), none-one c.args.at_start c.args.text.now c.args.at (sym c.if-begins_section.ensures))
