use Rattle.std.proofs.Common.{◌≡◌, ◌∙◌, ◌==◌, ℕ, ◌<◌, List, ap, length, subst, sym}
use Rattle.std.specs.Prelude.{count_by}
use Rattle.pw_locks.specs.declared.lock.Lock.{Lock}
use Rattle.pw_tmf.specs.Tmf.{TmfState, told_of}
use Rattle.pw_world.specs.Ledgers.{books_of}
use Rattle.pw_status.proofs.Telling.{file-counts}
use Rattle.pw_status.proofs.text.count_file.Goals as goal

pub record_count-requires : goal.record_count-requires
record_count-requires c =
    subst (λ (n : ℕ). c.args.file < n) (sym (ap (λ (disc : TmfState). (told_of disc).file_count) c.disc-disc.ensures ∙ c.holds.ensures.files)) c.requires

pub returns : goal.returns
returns c =
    let w = c.args.world.now in
    let f = c.args.file in
    let disc : c.disc-disc.result.now ≡ w.keep.disc = c.disc-disc.ensures in
    file-counts w (books_of w.ledger) c.holds.ensures f (record { records = c.in_ok-records.records; locks = c.lock_count.result })
    (c.in_ok-records.ensures ∙ ap (λ (d : TmfState). length ((told_of d).files f)) disc)
    (c.lock_count.ensures ∙ ap (λ (d : TmfState). count_by (λ (held : Lock). held.file == f) (told_of d).locks) disc)
