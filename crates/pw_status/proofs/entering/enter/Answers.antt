-- A watch behind an entry, and behind one that is refused.
use Rattle.std.proofs.Common.{◌<◌, length, subst, sym}
use Rattle.std.specs.Option.{IfSome}
use Rattle.pw_code.specs.declared.system.System.{System}
use Rattle.pw_status.specs.Longest.{sent_to}
use Rattle.pw_world.specs.Ledgers.{books_of}
use Rattle.pw_world.specs.States.{seen}
use Rattle.pw_tmf.specs.Tmf.{told_of}
use Rattle.pw_status.proofs.Pushing.{replied-there, sent-there, shown-kept, watch-more, watch-numbers, watch-refused}
use Rattle.pw_status.specs.Noting.{HasKeptNumbers, Notes}
use Rattle.pw_status.proofs.entering.enter.Goals as goal

pub returns-in_err-fresh-clause-watch : goal.returns-in_err-fresh-clause-watch
returns-in_err-fresh-clause-watch c =
    watch-numbers c.args.world.now c.args.tally.now c.args.numbers.now c.note.new.numbers c.in_err-fresh.ensures.err c.requires.watch

pub met_behind-requires-clause-class : goal.met_behind-requires-clause-class
met_behind-requires-clause-class c =
    subst (λ (system : System). IfSome (sent_to c.args.event.now) (λ d. d < length system.classes)) (sym c.in-Done.ensures.leaves.0.system)
    (sent-there (seen told_of c.args.world.now) (books_of c.args.world.now.ledger) c.holds.ensures c.args.event.now c.in-Done.ensures.comes.1)

pub returns-in-Done-clause-watch : goal.returns-in-Done-clause-watch
returns-in-Done-clause-watch c =
    let old = c.args.world.now in
    let entry = c.args.event.now in
    let legal = c.in-Done.ensures.comes.1 in
    watch-more old c.enter.new.self entry c.holds.ensures c.in-Done.ensures.leaves legal c.args.tally.now c.note-in-Done.new.self c.args.numbers.now
    c.note.new.numbers c.in_ok-fresh.fresh c.met_before-before.result c.met_behind.result c.requires.room c.requires.watch (shown-kept old.keep.system entry c.args.numbers.now c.requires.watch.count c.requires.there)
    (subst (λ shown. Notes shown c.in_ok-fresh.fresh c.args.numbers.now c.note.new.numbers) c.shown_in-shown.ensures c.in_ok-fresh.ensures.ok)
    (c.met_before-before.ensures (replied-there (seen told_of old) (books_of old.ledger) c.holds.ensures entry legal)) c.met_behind.ensures c.note-in-Done.ensures

pub returns-in-NotAStep-clause-watch : goal.returns-in-NotAStep-clause-watch
returns-in-NotAStep-clause-watch c =
    let old = c.args.world.now in
    let low = shown-kept old.keep.system c.args.event.now c.args.numbers.now c.requires.watch.count c.requires.there in
    watch-refused old c.enter.new.self c.in-NotAStep.ensures.leaves c.args.tally.now c.args.numbers.now c.note.new.numbers c.forget.new.numbers
    c.shown_in-shown.result c.in_ok-fresh.fresh c.requires.watch
    (subst (λ shown. HasKeptNumbers shown c.args.numbers.now) (sym c.shown_in-shown.ensures) low) c.in_ok-fresh.ensures.ok c.forget.ensures

pub returns-in-Memory-clause-watch : goal.returns-in-Memory-clause-watch
returns-in-Memory-clause-watch c =
    let old = c.args.world.now in
    let low = shown-kept old.keep.system c.args.event.now c.args.numbers.now c.requires.watch.count c.requires.there in
    watch-refused old c.enter.new.self c.in-Memory.ensures.leaves c.args.tally.now c.args.numbers.now c.note.new.numbers c.forget-in-Memory.new.numbers
    c.shown_in-shown.result c.in_ok-fresh.fresh c.requires.watch
    (subst (λ shown. HasKeptNumbers shown c.args.numbers.now) (sym c.shown_in-shown.ensures) low) c.in_ok-fresh.ensures.ok c.forget-in-Memory.ensures
