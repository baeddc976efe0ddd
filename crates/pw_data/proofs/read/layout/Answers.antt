use Rattle.std.proofs.Common.{◌≡◌, Ok, length, All, sym, ap, ◌∙◌, subst}
use Rattle.pw_base.specs.First.{unless}
use Rattle.pw_data.specs.Entries.{KeepsPicture}
use Rattle.pw_data.specs.Tree.{forest}
use Rattle.pw_data.specs.Laid.{size_in, items_in, chars_in}
use Rattle.pw_data.specs.Layouts.{FitsPicture, no_table, laid, entries_in}
use Rattle.pw_data.proofs.StoreLaws.{length-of_layout, pictures-of_layout, kept-of_layout}
use Rattle.pw_data.proofs.Outcomes.{outcome}
use Rattle.pw_data.proofs.read.layout.Goals as goal

pub laid-requires-clause-size : goal.laid-requires-clause-size
laid-requires-clause-size c =
    let same : c.deref.result.now ≡ entries_in c.args.text.now c.args.tokens.now c.args.server = c.deref.ensures.value ∙ c.in_ok-entries.ensures.entries in
    let found = outcome c.args.text.now c.args.tokens.now c.args.server c.deref.result.now c.in_ok-entries.known c.in_ok-fault.field-0 same c.in_ok-entries.ensures.faults c.in_ok-fault.ensures in
    let is_laid = found ∙ ap (λ fault. unless fault (laid c.args.text.now c.deref.result.now)) c.in-None.is in
    subst (λ entries. length (chars_in c.args.text.now (forest entries)) ≡ size_in (forest entries)) (sym (c.deref-in-None.ensures.value ∙ c.in_ok-entries.ensures.entries))
    (length-of_layout c.args.text.now c.args.tokens.now c.args.server (laid c.args.text.now c.deref.result.now) is_laid)

pub laid-requires-clause-kept : goal.laid-requires-clause-kept
laid-requires-clause-kept c =
    let same : c.deref.result.now ≡ entries_in c.args.text.now c.args.tokens.now c.args.server = c.deref.ensures.value ∙ c.in_ok-entries.ensures.entries in
    let found = outcome c.args.text.now c.args.tokens.now c.args.server c.deref.result.now c.in_ok-entries.known c.in_ok-fault.field-0 same c.in_ok-entries.ensures.faults c.in_ok-fault.ensures in
    let is_laid = found ∙ ap (λ fault. unless fault (laid c.args.text.now c.deref.result.now)) c.in-None.is in
    subst (All (KeepsPicture c.args.text.now)) (sym (c.deref-in-None.ensures.value ∙ c.in_ok-entries.ensures.entries))
    (kept-of_layout c.args.text.now c.args.tokens.now c.args.server (laid c.args.text.now c.deref.result.now) is_laid)

pub laid-requires-clause-pictures : goal.laid-requires-clause-pictures
laid-requires-clause-pictures c =
    let same : c.deref.result.now ≡ entries_in c.args.text.now c.args.tokens.now c.args.server = c.deref.ensures.value ∙ c.in_ok-entries.ensures.entries in
    let found = outcome c.args.text.now c.args.tokens.now c.args.server c.deref.result.now c.in_ok-entries.known c.in_ok-fault.field-0 same c.in_ok-entries.ensures.faults c.in_ok-fault.ensures in
    let is_laid = found ∙ ap (λ fault. unless fault (laid c.args.text.now c.deref.result.now)) c.in-None.is in
    subst (λ entries. All FitsPicture (items_in c.args.text.now 0 no_table (forest entries))) (sym (c.deref-in-None.ensures.value ∙ c.in_ok-entries.ensures.entries))
    (pictures-of_layout c.args.text.now c.args.tokens.now c.args.server (laid c.args.text.now c.deref.result.now) is_laid)

pub returns-in-Some : goal.returns-in-Some
returns-in-Some c =
    let found = outcome c.args.text.now c.args.tokens.now c.args.server c.deref.result.now c.in_ok-entries.known c.in_ok-fault.field-0 (c.deref.ensures.value ∙ c.in_ok-entries.ensures.entries) c.in_ok-entries.ensures.faults c.in_ok-fault.ensures in
    rw c.into.ensures (found ∙ ap (λ fault. unless fault (laid c.args.text.now c.deref.result.now)) c.in-Some.is)

pub returns : goal.returns
returns c =
    let found = outcome c.args.text.now c.args.tokens.now c.args.server c.deref.result.now c.in_ok-entries.known c.in_ok-fault.field-0 (c.deref.ensures.value ∙ c.in_ok-entries.ensures.entries) c.in_ok-entries.ensures.faults c.in_ok-fault.ensures in
    found ∙ ap (λ fault. unless fault (laid c.args.text.now c.deref.result.now)) c.in-None.is
    ∙ ap (λ entries. Ok (laid c.args.text.now entries)) (c.deref.ensures.value ∙ sym c.deref-in-None.ensures.value) ∙ ap Ok (sym c.in_ok-laid-in-None.ensures)
