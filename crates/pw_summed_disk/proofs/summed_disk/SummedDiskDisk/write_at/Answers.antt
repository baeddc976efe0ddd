-- What a write below leaves.
use Rattle.std.proofs.Common.{rules, ◌≡◌, ◌+◌, ◌<◌, ◌≤◌, ℕ, Bool, true, List, Err, length, refl, ◌∙◌, ap, subst, arith}
use Rattle.std.specs.Prelude.{IfSome}
use Rattle.pw_volume.specs.Crash.{Torn, written}
use Rattle.pw_summed_disk.specs.Plans.{IsPlan}
use Rattle.pw_summed_disk.specs.Summed.{KeepsSummed, content}
use Rattle.pw_summed_disk.proofs.Files.{file_content}
use Rattle.pw_volume.proofs.Tears.{lost}
use Rattle.pw_summed_disk.proofs.Images.{stays, written_images, written_is, written_keeps, written_whole}
use Rattle.pw_summed_disk.proofs.Plans.{plan_past, staged_within}
use Rattle.pw_summed_disk.proofs.summed_disk.SummedDiskDisk.write_at.Goals as goal

pub returns-in_err-admit_change-clause-images : goal.returns-in_err-admit_change-clause-images
returns-in_err-admit_change-clause-images g c = stays (Torn c.args.at (length c.args.piece.now)) (lost c.args.at (length c.args.piece.now)) (g.P.Disk.may_leave c.args.self.now.disk)

pub returns-in_err-own-clause-images : goal.returns-in_err-own-clause-images
returns-in_err-own-clause-images g c = stays (Torn c.args.at (length c.args.piece.now)) (lost c.args.at (length c.args.piece.now)) (g.P.Disk.may_leave c.args.self.now.disk)

pub returns-in_default-clause-images : goal.returns-in_default-clause-images
returns-in_default-clause-images g c = stays (Torn c.args.at (length c.args.piece.now)) (lost c.args.at (length c.args.piece.now)) (g.P.Disk.may_leave c.args.self.now.disk)

pub returns-in_err-make_room-clause-images : goal.returns-in_err-make_room-clause-images
returns-in_err-make_room-clause-images g c = stays (Torn c.args.at (length c.args.piece.now)) (lost c.args.at (length c.args.piece.now)) (g.P.Disk.may_leave c.args.self.now.disk)

pub plan-requires-clause-next : goal.plan-requires-clause-next
plan-requires-clause-next g c known =
    let own = c.args.self.now in
    let k : KeepsSummed true own.standing own.bytes.items (g.P.Disk.bytes own.disk) (g.P.Disk.may_leave own.disk) =
    subst (λ (b : Bool). KeepsSummed b own.standing own.bytes.items (g.P.Disk.bytes own.disk) (g.P.Disk.may_leave own.disk)) c.in_ok-admit_change.ensures.synced (own.keeps c.in_ok-admit_change.ensures.goes) in
    let size : c.len.result ≡ length own.bytes.items = search rules in
    let within : own.standing.end + 2 ≤ length own.bytes.items = staged_within own.standing own.bytes.items (g.P.Disk.bytes own.disk) (g.P.Disk.may_leave own.disk) k known in
    omega (arith, within, size)

pub returns-in_err-own-clause-memory : goal.returns-in_err-own-clause-memory
returns-in_err-own-clause-memory g c e =
    let own = c.args.self.now in
    let k : KeepsSummed true own.standing own.bytes.items (g.P.Disk.bytes own.disk) (g.P.Disk.may_leave own.disk) =
    subst (λ (b : Bool). KeepsSummed b own.standing own.bytes.items (g.P.Disk.bytes own.disk) (g.P.Disk.may_leave own.disk)) c.in_ok-admit_change.ensures.synced (own.keeps c.in_ok-admit_change.ensures.goes) in
    let size : c.len.result ≡ length own.bytes.items = search rules in
    let is : content (g.P.Disk.bytes own.disk) ≡ own.bytes.items = file_content _ _ _ _ k.file in
    let past : c.len.result < c.args.at + length c.args.piece.now = c.in_err-own.ensures.past in
    (omega (arith, ap length is, size, past), refl, λ image there. there)

pub invariant_of-self-in-Ok : goal.invariant_of-self-in-Ok
invariant_of-self-in-Ok g c =
    let own = c.args.self.now in
    let k : KeepsSummed true own.standing own.bytes.items (g.P.Disk.bytes own.disk) (g.P.Disk.may_leave own.disk) =
    subst (λ (b : Bool). KeepsSummed b own.standing own.bytes.items (g.P.Disk.bytes own.disk) (g.P.Disk.may_leave own.disk)) c.in_ok-admit_change.ensures.synced (own.keeps c.in_ok-admit_change.ensures.goes) in
    let size : c.len.result ≡ length own.bytes.items = search rules in
    let found : IfSome c.in_ok-own.field-0 (IsPlan own.standing c.len.result c.args.at c.args.piece.now) = c.in_ok-own.ensures.planned in
    let some : IsPlan own.standing c.len.result c.args.at c.args.piece.now c.in-Some.own = rw c.in-Some.is at found in
    let p : IsPlan own.standing (length own.bytes.items) c.args.at c.args.piece.now c.in-Some.own =
    subst (λ (n : ℕ). IsPlan own.standing n c.args.at c.args.piece.now c.in-Some.own) size some in
    let after : c.overwrite.new.bytes.items ≡ written c.args.at c.args.piece.now own.bytes.items = c.overwrite.ensures ∙ ap (written c.args.at c.args.piece.now) c.make_room.ensures.same in
    record {
      whole = written_whole own.standing own.bytes.items (g.P.Disk.bytes own.disk) (g.P.Disk.may_leave own.disk) (g.P.Disk.may_leave c.write_at.new.self) k c.args.at c.args.piece.now c.bytes.result.now c.in-Some.own p c.bytes.ensures c.write_at.ensures.images;
      keeps = λ e. written_keeps own.standing own.bytes.items (g.P.Disk.bytes own.disk) (g.P.Disk.may_leave own.disk) (g.P.Disk.may_leave c.write_at.new.self) k c.args.at c.args.piece.now c.bytes.result.now c.in-Some.own p c.bytes.ensures c.write_at.ensures.images (g.P.Disk.bytes c.write_at.new.self) c.overwrite.new.bytes.items (g.P.Disk.may_leave c.write_at.new.self) c.in-Ok.ensures.written after;
    }

pub returns-in-Ok-clause-written : goal.returns-in-Ok-clause-written
returns-in-Ok-clause-written g c =
    let own = c.args.self.now in
    let k : KeepsSummed true own.standing own.bytes.items (g.P.Disk.bytes own.disk) (g.P.Disk.may_leave own.disk) =
    subst (λ (b : Bool). KeepsSummed b own.standing own.bytes.items (g.P.Disk.bytes own.disk) (g.P.Disk.may_leave own.disk)) c.in_ok-admit_change.ensures.synced (own.keeps c.in_ok-admit_change.ensures.goes) in
    let size : c.len.result ≡ length own.bytes.items = search rules in
    let found : IfSome c.in_ok-own.field-0 (IsPlan own.standing c.len.result c.args.at c.args.piece.now) = c.in_ok-own.ensures.planned in
    let some : IsPlan own.standing c.len.result c.args.at c.args.piece.now c.in-Some.own = rw c.in-Some.is at found in
    let p : IsPlan own.standing (length own.bytes.items) c.args.at c.args.piece.now c.in-Some.own =
    subst (λ (n : ℕ). IsPlan own.standing n c.args.at c.args.piece.now c.in-Some.own) size some in
    let after : c.overwrite.new.bytes.items ≡ written c.args.at c.args.piece.now own.bytes.items = c.overwrite.ensures ∙ ap (written c.args.at c.args.piece.now) c.make_room.ensures.same in
    written_is own.standing own.bytes.items (g.P.Disk.bytes own.disk) (g.P.Disk.may_leave own.disk) (g.P.Disk.may_leave c.write_at.new.self) k c.args.at c.args.piece.now c.bytes.result.now c.in-Some.own p c.bytes.ensures c.write_at.ensures.images (g.P.Disk.bytes c.write_at.new.self) c.overwrite.new.bytes.items c.in-Ok.ensures.written after

pub returns-in-Ok-clause-images : goal.returns-in-Ok-clause-images
returns-in-Ok-clause-images g c =
    let own = c.args.self.now in
    let k : KeepsSummed true own.standing own.bytes.items (g.P.Disk.bytes own.disk) (g.P.Disk.may_leave own.disk) =
    subst (λ (b : Bool). KeepsSummed b own.standing own.bytes.items (g.P.Disk.bytes own.disk) (g.P.Disk.may_leave own.disk)) c.in_ok-admit_change.ensures.synced (own.keeps c.in_ok-admit_change.ensures.goes) in
    let size : c.len.result ≡ length own.bytes.items = search rules in
    let found : IfSome c.in_ok-own.field-0 (IsPlan own.standing c.len.result c.args.at c.args.piece.now) = c.in_ok-own.ensures.planned in
    let some : IsPlan own.standing c.len.result c.args.at c.args.piece.now c.in-Some.own = rw c.in-Some.is at found in
    let p : IsPlan own.standing (length own.bytes.items) c.args.at c.args.piece.now c.in-Some.own =
    subst (λ (n : ℕ). IsPlan own.standing n c.args.at c.args.piece.now c.in-Some.own) size some in
    written_images own.standing own.bytes.items (g.P.Disk.bytes own.disk) (g.P.Disk.may_leave own.disk) (g.P.Disk.may_leave c.write_at.new.self) k c.args.at c.args.piece.now c.bytes.result.now c.in-Some.own p c.bytes.ensures c.write_at.ensures.images

pub returns-in-Err-Memory-clause-images : goal.returns-in-Err-Memory-clause-images
returns-in-Err-Memory-clause-images g c =
    let own = c.args.self.now in
    let k : KeepsSummed true own.standing own.bytes.items (g.P.Disk.bytes own.disk) (g.P.Disk.may_leave own.disk) =
    subst (λ (b : Bool). KeepsSummed b own.standing own.bytes.items (g.P.Disk.bytes own.disk) (g.P.Disk.may_leave own.disk)) c.in_ok-admit_change.ensures.synced (own.keeps c.in_ok-admit_change.ensures.goes) in
    let size : c.len.result ≡ length own.bytes.items = search rules in
    let found : IfSome c.in_ok-own.field-0 (IsPlan own.standing c.len.result c.args.at c.args.piece.now) = c.in_ok-own.ensures.planned in
    let some : IsPlan own.standing c.len.result c.args.at c.args.piece.now c.in-Some.own = rw c.in-Some.is at found in
    let p : IsPlan own.standing (length own.bytes.items) c.args.at c.args.piece.now c.in-Some.own =
    subst (λ (n : ℕ). IsPlan own.standing n c.args.at c.args.piece.now c.in-Some.own) size some in
    written_images own.standing own.bytes.items (g.P.Disk.bytes own.disk) (g.P.Disk.may_leave own.disk) (g.P.Disk.may_leave c.write_at.new.self) k c.args.at c.args.piece.now c.bytes.result.now c.in-Some.own p c.bytes.ensures c.write_at.ensures.images

pub returns-clause-images : goal.returns-clause-images
returns-clause-images g c =
    let own = c.args.self.now in
    let k : KeepsSummed true own.standing own.bytes.items (g.P.Disk.bytes own.disk) (g.P.Disk.may_leave own.disk) =
    subst (λ (b : Bool). KeepsSummed b own.standing own.bytes.items (g.P.Disk.bytes own.disk) (g.P.Disk.may_leave own.disk)) c.in_ok-admit_change.ensures.synced (own.keeps c.in_ok-admit_change.ensures.goes) in
    let size : c.len.result ≡ length own.bytes.items = search rules in
    let found : IfSome c.in_ok-own.field-0 (IsPlan own.standing c.len.result c.args.at c.args.piece.now) = c.in_ok-own.ensures.planned in
    let some : IsPlan own.standing c.len.result c.args.at c.args.piece.now c.in-Some.own = rw c.in-Some.is at found in
    let p : IsPlan own.standing (length own.bytes.items) c.args.at c.args.piece.now c.in-Some.own =
    subst (λ (n : ℕ). IsPlan own.standing n c.args.at c.args.piece.now c.in-Some.own) size some in
    written_images own.standing own.bytes.items (g.P.Disk.bytes own.disk) (g.P.Disk.may_leave own.disk) (g.P.Disk.may_leave c.write_at.new.self) k c.args.at c.args.piece.now c.bytes.result.now c.in-Some.own p c.bytes.ensures c.write_at.ensures.images

pub returns-in-Err-Memory-clause-memory : goal.returns-in-Err-Memory-clause-memory
returns-in-Err-Memory-clause-memory g c e =
    let own = c.args.self.now in
    let k : KeepsSummed true own.standing own.bytes.items (g.P.Disk.bytes own.disk) (g.P.Disk.may_leave own.disk) =
    subst (λ (b : Bool). KeepsSummed b own.standing own.bytes.items (g.P.Disk.bytes own.disk) (g.P.Disk.may_leave own.disk)) c.in_ok-admit_change.ensures.synced (own.keeps c.in_ok-admit_change.ensures.goes) in
    let size : c.len.result ≡ length own.bytes.items = search rules in
    let found : IfSome c.in_ok-own.field-0 (IsPlan own.standing c.len.result c.args.at c.args.piece.now) = c.in_ok-own.ensures.planned in
    let some : IsPlan own.standing c.len.result c.args.at c.args.piece.now c.in-Some.own = rw c.in-Some.is at found in
    let p : IsPlan own.standing (length own.bytes.items) c.args.at c.args.piece.now c.in-Some.own =
    subst (λ (n : ℕ). IsPlan own.standing n c.args.at c.args.piece.now c.in-Some.own) size some in
    let is : content (g.P.Disk.bytes own.disk) ≡ own.bytes.items = file_content _ _ _ _ k.file in
    let memory = c.write_at.ensures.memory (c.in-Err-Memory.is ∙ ap Err c.in-Err-Memory.field-0-is) in
    let past : length own.bytes.items < c.args.at + length c.args.piece.now =
    plan_past own.standing own.bytes.items (g.P.Disk.bytes own.disk) (g.P.Disk.may_leave own.disk) k c.args.at c.args.piece.now c.in-Some.own p
    (subst (λ (l : List ℕ). length (g.P.Disk.bytes own.disk) < c.in-Some.own.place + length l) c.bytes.ensures memory.0) in
    (omega (arith, ap length is, past), ap content memory.1, λ image there. record { below = there.below; may = memory.2 there.below there.may; is = there.is })

pub invariant_of-self-in-Err-Failed : goal.invariant_of-self-in-Err-Failed
invariant_of-self-in-Err-Failed g c =
    let own = c.args.self.now in
    let k : KeepsSummed true own.standing own.bytes.items (g.P.Disk.bytes own.disk) (g.P.Disk.may_leave own.disk) =
    subst (λ (b : Bool). KeepsSummed b own.standing own.bytes.items (g.P.Disk.bytes own.disk) (g.P.Disk.may_leave own.disk)) c.in_ok-admit_change.ensures.synced (own.keeps c.in_ok-admit_change.ensures.goes) in
    let size : c.len.result ≡ length own.bytes.items = search rules in
    let found : IfSome c.in_ok-own.field-0 (IsPlan own.standing c.len.result c.args.at c.args.piece.now) = c.in_ok-own.ensures.planned in
    let some : IsPlan own.standing c.len.result c.args.at c.args.piece.now c.in-Some.own = rw c.in-Some.is at found in
    let p : IsPlan own.standing (length own.bytes.items) c.args.at c.args.piece.now c.in-Some.own =
    subst (λ (n : ℕ). IsPlan own.standing n c.args.at c.args.piece.now c.in-Some.own) size some in
    record {
      whole = written_whole own.standing own.bytes.items (g.P.Disk.bytes own.disk) (g.P.Disk.may_leave own.disk) (g.P.Disk.may_leave c.write_at.new.self) k c.args.at c.args.piece.now c.bytes.result.now c.in-Some.own p c.bytes.ensures c.write_at.ensures.images;
      keeps = λ e. absurd cc;
    }
