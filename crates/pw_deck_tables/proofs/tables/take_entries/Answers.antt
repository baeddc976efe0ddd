use Rattle.std.proofs.Common.{◌≡◌, Some, sym, ap, ◌∙◌}
use Rattle.std.specs.List.{position}
use Rattle.pw_deck_tables.specs.Tables.{entries_for}
use Rattle.pw_deck_tables.proofs.Sections.{of_terminal, entries_at, entries_none, taken_others}
use Rattle.pw_deck_tables.specs.declared.objects.TermEntries.{TermEntries}
use Rattle.pw_deck_tables.proofs.tables.take_entries.Goals as goal

pub returns-in-Some-clause-entries : goal.returns-in-Some-clause-entries
returns-in-Some-clause-entries c =
    let at : position (of_terminal c.args.name.now) c.args.sections.now.items ≡ Some c.in-Some.place = sym (c.in-Some.ensures.place ∙ ap (position (of_terminal c.args.name.now)) c.as_slice.ensures.value) in
    ap (λ (s : TermEntries). s.entries) c.remove-section.ensures.value ∙ sym (entries_at c.args.sections.now.items c.in-Some.place c.remove-section.result c.args.name.now at)

pub returns-in-Some-clause-others : goal.returns-in-Some-clause-others
returns-in-Some-clause-others c =
    let at : position (of_terminal c.args.name.now) c.args.sections.now.items ≡ Some c.in-Some.place = sym (c.in-Some.ensures.place ∙ ap (position (of_terminal c.args.name.now)) c.as_slice.ensures.value) in
    λ other apart. ap (λ ss. entries_for ss other) c.remove-section.ensures.items ∙ taken_others c.args.sections.now.items c.in-Some.place c.remove-section.result c.args.name.now other at apart

pub returns-in-None-clause-entries : goal.returns-in-None-clause-entries
returns-in-None-clause-entries c =
    c.new.ensures ∙ sym (entries_none c.args.sections.now.items c.args.name.now (c.in-None.ensures.place ∙ ap (position (of_terminal c.args.name.now)) c.as_slice.ensures.value))
