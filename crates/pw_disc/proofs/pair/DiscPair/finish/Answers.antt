use Rattle.std.proofs.Common.{◌≡◌, ◌∙◌, ◌+◌, ℕ, List, Option, None, true, drop, ap, sym, arith}
use Rattle.std.proofs.lemmas.List.{take_rest}
use Rattle.pw_base.specs.Outside.{counted}
use Rattle.pw_disc.specs.declared.script.DiscLine.{DiscLine}
use Rattle.pw_tmf.specs.Tmf.{TmfState}
use Rattle.pw_disc.specs.Lines.{is_held_at_front}
use Rattle.pw_disc.specs.Pair.{seen, state_of}
use Rattle.pw_disc.proofs.Seen.{counts_held}
use Rattle.pw_disc.proofs.pair.DiscPair.finish.Goals as goal

pub returns-clause-pair : goal.returns-clause-pair
returns-clause-pair c =
    let gone = c.self.inside.is_lost in
    let used = c.self.inside.used in
    let lines = c.self.inside.lines.items in
    let done = c.self.inside.done in
    let faults = c.self.inside.faults in
    let survivor = c.take_over.new.primary in
    let one_more : c.saturating_add-self-inside.result ≡ counted done = omega (arith, c.saturating_add-self-inside.ensures) in
    let held : is_held_at_front done (drop used lines) ≡ true =
    ap (λ (ls : List DiscLine). is_held_at_front done (drop used ls)) (sym c.deref.ensures.value)
    ∙ (ap (is_held_at_front done) (sym (take_rest c.deref.result.now used)) ∙ (sym c.holds-held.ensures ∙ c.if-not-held.false)) in
    ap (λ (backup : Option TmfState). seen gone backup survivor (used + 1) lines c.saturating_add-self-inside.result faults) c.take-backup.ensures.after
    ∙ ap (λ (n : ℕ). seen gone None survivor (used + 1) lines n faults) one_more
    ∙ counts_held (state_of c.args.self.now) gone c.self.inside.backup c.self.inside.primary used lines done faults (ap state_of c.self.view_is)
    c.requires survivor c.take_over.ensures.told held
