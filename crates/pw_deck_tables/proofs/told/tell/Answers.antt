use Rattle.std.proofs.Common.{ℕ, List, map, Result, Ok, sym, ap, ap₂, subst, ◌∙◌, arith}
use Rattle.std.specs.List.{IsDistinct}
use Rattle.std.specs.Str.{bytes_eq}
use Rattle.pw_code.specs.declared.file.FileInfo.{FileInfo}
use Rattle.pw_base.specs.declared.fault.Fault.{Fault}
use Rattle.pw_event.specs.declared.event.Event.{Event}
use Rattle.pw_event.specs.declared.script.FailLine.{FailLine}
use Rattle.pw_deck_tables.specs.Tables.{tables, with_terminal_entries}
use Rattle.pw_deck_tables.specs.declared.told.DeckTables.{DeckTables}
use Rattle.std.proofs.lemmas.List.{length-map}
use Rattle.std.proofs.lemmas.Result.{err_from_is_err_and}
use Rattle.pw_code.specs.Valid.{HasNames, HasFew}
use Rattle.pw_code.specs.declared.lock.LockRule.TheVariants.{ReadersShare}
use Rattle.pw_code.specs.declared.system.System.{System}
use Rattle.pw_deck_tables.proofs.told.tell.Goals as goal

pub tables-requires-clause-pairs : goal.tables-requires-clause-pairs
tables-requires-clause-pairs c = omega (arith, length-map c.args.objects.commands.tcps (λ tcp. tcp.name), (c.requires.counts ReadersShare).tcps)

-- what a deck says, of its parts
abbrev told_as : System → List FailLine → List Event → ℕ → Result DeckTables Fault
told_as system fails log version = Ok (record { system = system; script = record { lines = fails }; log = log; version = version })

pub lines_in-requires-clause-names : goal.lines_in-requires-clause-names
lines_in-requires-clause-names c rule =
    let is = c.in_ok-system.ensures ∙ ap (λ (files : List FileInfo). tables c.args.objects.commands c.args.programs.now c.args.servers.now files ReadersShare) c.replace-files.ensures.value in
    subst HasNames (sym (ap (λ (system : System). record system { rule = rule }) is)) (c.requires.names rule)

pub lines_in-requires-clause-counts : goal.lines_in-requires-clause-counts
lines_in-requires-clause-counts c rule =
    let is = c.in_ok-system.ensures ∙ ap (λ (files : List FileInfo). tables c.args.objects.commands c.args.programs.now c.args.servers.now files ReadersShare) c.replace-files.ensures.value in
    subst HasFew (sym (ap (λ (system : System). record system { rule = rule }) is)) (c.requires.counts rule)

pub enter-requires : goal.enter-requires
enter-requires c =
    let is = c.in_ok-system.ensures ∙ ap (λ (files : List FileInfo). tables c.args.objects.commands c.args.programs.now c.args.servers.now files ReadersShare) c.replace-files.ensures.value in
    subst (λ (system : System). IsDistinct bytes_eq (map (λ terminal. terminal.name) system.terminals)) (sym (c.in_ok-lines.ensures.same ∙ is)) (c.requires.names ReadersShare).terminals.distinct

pub returns-in_err-lines : goal.returns-in_err-lines
returns-in_err-lines c =
    let is = c.in_ok-system.ensures ∙ ap (λ (files : List FileInfo). tables c.args.objects.commands c.args.programs.now c.args.servers.now files ReadersShare) c.replace-files.ensures.value in
    let p = err_from_is_err_and c.from_residual-in_err-lines.result c.from_residual-in_err-lines.ensures.1 in
    rw (p.1, p.2) (c.in_err-lines.ensures.told c.args.objects.files is)

pub returns : goal.returns
returns c =
    let is = c.in_ok-system.ensures ∙ ap (λ (files : List FileInfo). tables c.args.objects.commands c.args.programs.now c.args.servers.now files ReadersShare) c.replace-files.ensures.value in
    c.in_ok-lines.ensures.told c.args.objects.files is
    ∙ ap₂ (λ (system : System) (version : ℕ). told_as system c.in_ok-lines.lines.fails c.in_ok-lines.lines.log version) (sym (c.enter.ensures ∙ ap (with_terminal_entries c.args.objects.entries) (c.in_ok-lines.ensures.same ∙ is))) (sym c.log_version-version.ensures)
