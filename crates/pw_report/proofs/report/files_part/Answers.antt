use Rattle.std.proofs.Common.{◌≡◌, ◌∙◌, ℕ, List, ap, length, subst, sym}
use Rattle.std.specs.Prelude.{IfOk}
use Rattle.pw_code.specs.declared.system.System.{System}
use Rattle.pw_report_text.specs.Listing.{files_part, records_in}
use Rattle.pw_world.specs.States.{seen}
use Rattle.pw_world_model.specs.Seen.{state_of, sys_of}
use Rattle.pw_paired.specs.Units.{committed_files}
use Rattle.pw_report.proofs.Printing.{part-same}
use Rattle.pw_report.proofs.report.files_part.Goals as goal

pub files_part-requires : goal.files_part-requires
files_part-requires g c =
    ap length c.as_slice.ensures.value ∙ (c.in_ok-files.ensures.count ∙ sym (ap (λ (s : System). length s.files) c.system.ensures.system))

pub returns : goal.returns
returns g c =
    let world = seen g.D.Disc.told c.args.world.now in
    let sys = sys_of world in
    subst (λ (whole : List ℕ). IfOk c.files_part.result (λ text. text ≡ whole))
    (ap (λ (s : System). files_part s (records_in c.as_slice.result.now)) c.system.ensures.system
    ∙ (ap (λ (files : List (List (List ℕ))). files_part world.system (records_in files)) c.as_slice.ensures.value
    ∙ (part-same world.system c.in_ok-files.files.items (committed_files sys (state_of world)) c.in_ok-files.ensures.records
    ∙ c.printed_is_the_report.ensures.files world.system sys c.holds.ensures.deck world.log c.holds.ensures.run)))
    c.files_part.ensures
