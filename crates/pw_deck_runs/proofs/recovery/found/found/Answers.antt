use Rattle.std.proofs.Common.{◌≡◌, ap, sym, subst, List, ℕ}
use Rattle.std.specs.Prelude.{IfOk}
use Rattle.pw_report_text.specs.Listing.{files_part}
use Rattle.pw_deck_runs.proofs.Finding.{found-same, whole}
use Rattle.pw_deck_runs.specs.recovery.InMemory.{held}
use Rattle.pw_tmf.specs.Committed.{committed}
use Rattle.pw_tmf.specs.Tmf.{told_of}
use Rattle.pw_tmf.specs.Told.{Told}
use Rattle.pw_trail.specs.Committing.{LeadsTo}
use Rattle.pw_volume.specs.MemDisk.{MemDiskState}
use Rattle.pw_deck_runs.proofs.recovery.found.found.Goals as goal

pub opened-requires-clause-whole : goal.opened-requires-clause-whole
opened-requires-clause-whole c at bad =
    let told : Told = told_of c.args.trail.tmf in
    let bytes : c.in-Ok.disk.bytes ≡ c.close.result.synced = ap (λ (d : MemDiskState). d.bytes) c.in-Ok.ensures.ok in
    whole c.args.system.now.files c.args.trail.log.files c.in-Ok.disk.bytes told c.requires.files
    (subst (λ (b : List ℕ). LeadsTo c.args.trail.log.files told b) (sym bytes) c.close.ensures.settled) at bad

pub returns : goal.returns
returns c =
    let system = c.args.system.now in
    let told : Told = told_of c.args.trail.tmf in
    let found = c.in_ok-found.found in
    let next : Told = told_of found.tmf in
    let bytes : c.in-Ok.disk.bytes ≡ c.close.result.synced = ap (λ (d : MemDiskState). d.bytes) c.in-Ok.ensures.ok in
    let leads : LeadsTo c.args.trail.log.files told c.in-Ok.disk.bytes =
    subst (λ (b : List ℕ). LeadsTo c.args.trail.log.files told b) (sym bytes) c.close.ensures.settled in
    let stands = c.in_ok-found.ensures.stands in
    let same : committed next ≡ committed told =
    found-same system.files c.args.trail.log.files found.log.files c.in-Ok.disk.bytes (held found.log.disk) told next
    c.requires.files c.in_ok-found.ensures.files stands.holds leads (found.leads stands.goes) in
    subst (λ (records : ℕ → List (List ℕ)). IfOk c.listed.result (λ text. text ≡ files_part system records)) same c.listed.ensures
