use Rattle.std.proofs.Common.{◌≡◌, ◌∙◌, true, sym, ap, subst}
use Rattle.pw_base.proofs.Plain.{on-ok}
use Rattle.pw_world_store.specs.Keeps.{kept_in}
use Rattle.pw_world_state.specs.Changes.{kept_applied}
use Rattle.pw_world_state.specs.Kept.{Kept}
use Rattle.pw_pair.specs.Pairs.{SeenPair, passes, seat_of}
use Rattle.pw_pair.specs.Seats.{is_built, is_waiting}
use Rattle.pw_entry_effects.proofs.Carrying.{built-already, built-applied, built-then}
use Rattle.pw_entry_effects.proofs.checkpoints.build.Goals as goal

pub returns-then-is_waiting-clause-built : goal.returns-then-is_waiting-clause-built
returns-then-is_waiting-clause-built g c =
    let t = c.args.terminal in
    let tcp = c.args.tcp in
    let kept : Kept = kept_in g.D.Disc.told c.args.keep.now in
    let waits : passes is_waiting (seat_of t (kept.pairs tcp)) ≡ true =
    ap (λ (pair : SeenPair). passes is_waiting (seat_of t pair)) (sym c.pair.ensures.pair) ∙ (sym c.is_waiting.ensures ∙ c.if-is_waiting.true) in
    on-ok c.build_here.result c.build_here.ensures.ok
    (λ h. subst (λ (k : Kept). passes is_built (seat_of t (k.pairs tcp)) ≡ true) (sym h.kept) (built-then tcp t kept waits))

pub returns-then-is_waiting-clause-system : goal.returns-then-is_waiting-clause-system
returns-then-is_waiting-clause-system g c = on-ok c.build_here.result c.build_here.ensures.ok (λ h. h.system)

pub returns-then-is_waiting-clause-same : goal.returns-then-is_waiting-clause-same
returns-then-is_waiting-clause-same g c =
    let kept : Kept = kept_in g.D.Disc.told c.args.keep.now in
    on-ok c.build_here.result c.build_here.ensures.ok
    (λ h. ap (kept_applied c.args.tcp c.args.terminal) h.kept ∙ built-applied c.args.tcp c.args.terminal kept)

pub returns-else-is_waiting-clause-built : goal.returns-else-is_waiting-clause-built
returns-else-is_waiting-clause-built g c =
    let kept : Kept = kept_in g.D.Disc.told c.args.keep.now in
    built-already c.args.tcp c.args.terminal kept c.requires.flies
    (ap (λ (pair : SeenPair). passes is_waiting (seat_of c.args.terminal pair)) (sym c.pair.ensures.pair) ∙ (sym c.is_waiting.ensures ∙ c.if-is_waiting.false))
