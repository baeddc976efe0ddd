-- One unit more waits.
use Rattle.std.proofs.Common.{◌≡◌, ◌∙◌, ◌+◌, ◌<◌, ℕ, List, ◌∷◌, [], ◌++◌, All, true, false, ap, refl, subst, sym}
use Rattle.pw_code.specs.declared.file.FileInfo.{FileInfo}
use Rattle.pw_group_commit.specs.Grouped.{GroupState, group_state, most_in_group, settled_units, waiting_units}
use Rattle.pw_group_commit.proofs.Grouping.{more-kept, more-settled, more-waits}
use Rattle.pw_trail.specs.Body.{fits}
use Rattle.pw_trail.specs.declared.changes.UnitChanges.{UnitChanges}
use Rattle.pw_group_commit.proofs.group_log.GroupLog.add.Goals as goal

pub invariant_of-self-2 : goal.invariant_of-self-2
invariant_of-self-2 g c =
    let own = c.self.inside in
    let old : GroupState g.row.S.Denot = group_state own.log.files own.log.disk own.log.is_broken own.group.bytes.items own.count in
    let new : GroupState g.row.S.Denot = group_state own.log.files own.log.disk own.log.is_broken c.add.new.self.bytes.items (own.count + 1) in
    let is : old ≡ c.args.self.now = c.self.view_is in
    let goes : old.is_broken ≡ false = ap (λ (s : GroupState g.row.S.Denot). s.is_broken) is ∙ c.requires.goes in
    let room : old.count < most_in_group =
    subst (λ (n : ℕ). n < most_in_group) (sym (ap (λ (s : GroupState g.row.S.Denot). s.count) is)) c.requires.room in
    let fit =
    subst (λ (fs : List FileInfo). All (λ change. fits fs change ≡ true) c.args.unit.now.changes)
    (sym (ap (λ (s : GroupState g.row.S.Denot). s.files) is)) c.requires.fits in
    more-kept g.S.Synced.held g.S.Synced.images g.S.Synced.settled g.S.Synced.faulted g.N.LogNaming.files g.N.LogNaming.before
    g.N.LogNaming.least old c.self.invariant c.args.unit.now new goes room refl refl refl refl
    (c.in_ok-add.ensures.ok old.files (waiting_units old) c.self.invariant.waits fit)

pub returns-clause-waits : goal.returns-clause-waits
returns-clause-waits g c =
    let own = c.self.inside in
    let old : GroupState g.row.S.Denot = group_state own.log.files own.log.disk own.log.is_broken own.group.bytes.items own.count in
    let new : GroupState g.row.S.Denot = group_state own.log.files own.log.disk own.log.is_broken c.add.new.self.bytes.items (own.count + 1) in
    let is : old ≡ c.args.self.now = c.self.view_is in
    let goes : old.is_broken ≡ false = ap (λ (s : GroupState g.row.S.Denot). s.is_broken) is ∙ c.requires.goes in
    let room : old.count < most_in_group =
    subst (λ (n : ℕ). n < most_in_group) (sym (ap (λ (s : GroupState g.row.S.Denot). s.count) is)) c.requires.room in
    let fit =
    subst (λ (fs : List FileInfo). All (λ change. fits fs change ≡ true) c.args.unit.now.changes)
    (sym (ap (λ (s : GroupState g.row.S.Denot). s.files) is)) c.requires.fits in
    more-waits g.S.Synced.held g.S.Synced.images g.S.Synced.settled g.S.Synced.faulted g.N.LogNaming.files g.N.LogNaming.before
    g.N.LogNaming.least old c.self.invariant c.args.unit.now new goes room refl refl refl refl
    (c.in_ok-add.ensures.ok old.files (waiting_units old) c.self.invariant.waits fit)
    ∙ ap (λ (s : GroupState g.row.S.Denot). waiting_units s ++ c.args.unit.now ∷ []) is
