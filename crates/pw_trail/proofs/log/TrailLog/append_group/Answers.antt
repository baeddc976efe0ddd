-- A group that was stored is kept.
use Rattle.std.proofs.Common.{rules, ◌≡◌, ◌+◌, length}
use Rattle.pw_trail.proofs.Groups.{append-group-holds, append-group-images, append-group-kept, append-group-leaves}
use Rattle.pw_trail.proofs.log.TrailLog.append_group.Goals as goal

pub invariant_of-self : goal.invariant_of-self
invariant_of-self g c =
    let old = c.args.self.now in
    let k = old.sound c.if-self.false in
    let next : c.in-Some.next ≡ old.end + length c.staged-staged.result.now = search rules in
    record {
      sound = λ goes.
          append-group-kept old.files (g.S.Synced.held old.disk) (g.S.Synced.images old.disk) old.end k c.args.group.now.bytes.items
          c.requires.group c.requires.some c.staged-staged.result.now c.staged-staged.ensures (g.S.Synced.held c.store.new.disk) (g.S.Synced.images c.store.new.disk)
          c.in-Some.next c.in-Ok.ensures.stored c.in-Ok.ensures.durable next;
    }

pub returns-in-Ok-clause-images : goal.returns-in-Ok-clause-images
returns-in-Ok-clause-images g c goes image may =
    let old = c.args.self.now in
    append-group-images old.files (g.S.Synced.held old.disk) (g.S.Synced.images old.disk) old.end (old.sound goes) c.args.group.now.bytes.items
    c.requires.group c.requires.some c.staged-staged.result.now c.staged-staged.ensures image (c.store.ensures.images image may)

pub returns-in-Ok-clause-stored : goal.returns-in-Ok-clause-stored
returns-in-Ok-clause-stored g c image may =
    let old = c.args.self.now in
    let next : c.in-Some.next ≡ old.end + length c.staged-staged.result.now = search rules in
    append-group-leaves old.files (g.S.Synced.held old.disk) (g.S.Synced.images old.disk) old.end (old.sound c.if-self.false) c.args.group.now.bytes.items
    c.requires.group c.requires.some c.staged-staged.result.now c.staged-staged.ensures (g.S.Synced.held c.store.new.disk) (g.S.Synced.images c.store.new.disk)
    c.in-Some.next c.in-Ok.ensures.stored c.in-Ok.ensures.durable next image may

pub returns-in-Ok-clause-held : goal.returns-in-Ok-clause-held
returns-in-Ok-clause-held g c =
    let old = c.args.self.now in
    let next : c.in-Some.next ≡ old.end + length c.staged-staged.result.now = search rules in
    append-group-holds old.files (g.S.Synced.held old.disk) (g.S.Synced.images old.disk) old.end (old.sound c.if-self.false) c.args.group.now.bytes.items
    c.requires.group c.requires.some c.staged-staged.result.now c.staged-staged.ensures (g.S.Synced.held c.store.new.disk) (g.S.Synced.images c.store.new.disk)
    c.in-Some.next c.in-Ok.ensures.stored c.in-Ok.ensures.durable next

pub returns-in-Err-Failed-clause-images : goal.returns-in-Err-Failed-clause-images
returns-in-Err-Failed-clause-images g c goes image may =
    let old = c.args.self.now in
    append-group-images old.files (g.S.Synced.held old.disk) (g.S.Synced.images old.disk) old.end (old.sound goes) c.args.group.now.bytes.items
    c.requires.group c.requires.some c.staged-staged.result.now c.staged-staged.ensures image (c.store.ensures.images image may)
