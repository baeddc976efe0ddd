use Rattle.std.proofs.Common.{◌≡◌, ◌∙◌, ℕ, List, [], ◌∷◌, ap, length, length-append, arith, subst}
use Rattle.std.specs.Prelude.{IfOk}
use Rattle.pw_report_text.specs.Listing.{files_part, records_in}
use Rattle.pw_deck_runs.proofs.Finding.{part-same}
use Rattle.pw_report.proofs.Committing.{filed}
use Rattle.pw_tmf.specs.Committed.{committed}
use Rattle.pw_tmf.specs.Tmf.{told_of}
use Rattle.pw_tmf.specs.Told.{Told}
use Rattle.pw_deck_runs.proofs.recovery.found.listed.Goals as goal

pub loop-file-preserved : goal.loop-file-preserved
loop-file-preserved c =
    let files : List (List (List ℕ)) = c.loop-file.files.items in
    let records : List (List ℕ) = c.from_vec.result in
    let items = c.in_ok-push.ensures.items in
    let more = length-append files (records ∷ []) in
    let all = ap length items in
    let count = c.loop-file.invariant.count in
    let own : records ≡ committed (told_of c.args.trail.now.tmf) c.loop-file.file =
    c.from_vec.ensures ∙ c.in_ok-committed.ensures in
    record {
      count = omega (arith, more, all, count);
      records = λ f low.
          ap (λ (all : List (List (List ℕ))). records_in all f) items
          ∙ filed files records c.loop-file.file (committed (told_of c.args.trail.now.tmf)) count c.loop-file.invariant.records own f low;
    }

pub overflow_cast-file-end : goal.overflow_cast-file-end
overflow_cast-file-end c = omega (arith, c.requires.valid.files, c.len-file-end.ensures)

pub returns : goal.returns
returns c =
    let system = c.args.system.now in
    let told : Told = told_of c.args.trail.now.tmf in
    let end = c.len-file-end.ensures in
    let past = c.loop-file-test.false in
    subst (λ (whole : List ℕ). IfOk c.files_part.result (λ text. text ≡ whole))
    (ap (λ (files : List (List (List ℕ))). files_part system (records_in files)) c.as_slice.ensures.value
    ∙ part-same system c.loop-file.files.items (committed told)
    (λ f low. c.loop-file.invariant.records f (omega (arith, end, past, low))))
    c.files_part.ensures
