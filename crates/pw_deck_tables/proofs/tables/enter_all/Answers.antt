use Rattle.std.proofs.Common.{◌≡◌, false, sym, ap, subst, ◌∙◌}
use Rattle.std.specs.Str.{bytes_eq}
use Rattle.std.proofs.lemmas.List.Edits.{map_over_more}
use Rattle.pw_code.specs.declared.system.TermInfo.{TermInfo}
use Rattle.pw_deck_tables.specs.Tables.{with_entries}
use Rattle.pw_deck_tables.proofs.Entering.{next_is, further}
use Rattle.pw_deck_tables.proofs.tables.enter_all.Goals as goal

pub loop-terminal-preserved : goal.loop-terminal-preserved
loop-terminal-preserved c =
    let items = c.deref_mut-terminal-items.result.now in
    let all = c.args.sections.now.items in
    let x = c.terminal-item.result in
    let first = next_is (with_entries all) items c.loop-terminal.terminal-items c.loop-terminal.terminal-index x c.loop-terminal-test.true c.loop-terminal.invariant.done c.terminal-item.is in
    let step = further c.loop-terminal.sections.items c.enter_one.new.sections.items all items c.loop-terminal.terminal-index x c.loop-terminal-test.true first
    c.loop-terminal.invariant.apart c.loop-terminal.invariant.theirs (λ other apart. c.enter_one.ensures.others other (subst (λ (t : TermInfo). bytes_eq t.name other ≡ false) c.terminal-item.is apart)) in
    let same : c.enter_one.new.terminal ≡ with_entries all x = c.enter_one.ensures.terminal ∙ ap (with_entries c.loop-terminal.sections.items) (sym c.terminal-item.is) ∙ ap (λ e. record x { entries = e }) step.same in
    record {
      done = rw same (map_over_more (with_entries all) items c.loop-terminal.terminal-items c.loop-terminal.terminal-index x c.loop-terminal-test.true c.loop-terminal.invariant.done c.terminal-item.is);
      apart = step.apart;
      theirs = step.theirs;
    }
