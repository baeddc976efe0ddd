-- What a disc over a trail keeps, call by call.
use Rattle.std.proofs.Common.{◌≡◌, ◌⊎◌, inl, inr, ℕ, ◌∙◌, refl, sym, ap, subst, Bool, true, false, List, [], map, Option, ◌∷◌, ◌++◌, Result, Ok, Err}
use Rattle.std.specs.Prelude.{All, IfErr, OnOk}
use Rattle.std.proofs.Math.Logic.{∥∥₁_elim, ∥∥₁_map}
use Rattle.std.proofs.Props.{props}
use Rattle.pw_code.specs.declared.file.FileCall.{FileCall}
use Rattle.pw_code.specs.declared.file.FileInfo.{FileInfo}
use Rattle.pw_code.specs.declared.system.System.{System}
use Rattle.pw_code.specs.declared.unit.Unit as unit
use Rattle.pw_tmf.specs.Answers.{Leaves, Operates}
use Rattle.pw_tmf.specs.Committed.{committed}
use Rattle.pw_tmf.specs.Faulty.{with_faults}
use Rattle.pw_tmf.specs.Operation.{IsCall, after_operation}
use Rattle.pw_tmf.specs.Restored.{changes_of}
use Rattle.pw_tmf.specs.Told.{Told}
use Rattle.pw_tmf.specs.Units.{CanBegin, IsRunning, after_commit, all_backed_out, backed_out, begun}
use Rattle.pw_tmf.specs.declared.answer.ChangedKey.{ChangedKey}
use Rattle.pw_tmf.specs.declared.answer.DiscFault.{DiscFault}
use Rattle.pw_tmf.specs.declared.answer.DiscFault.TheVariants as fault
use Rattle.pw_tmf.specs.declared.answer.FileAnswer.{FileAnswer}
use Rattle.pw_tmf.specs.declared.answer.FileAnswer.TheVariants as answer
use Rattle.pw_trail.specs.Body.{fits}
use Rattle.pw_trail.specs.Committing.{LeadsTo, LeadsToEither, change_to, record_of}
use Rattle.pw_trail.specs.Files.{files_after, files_read, trail_files}
use Rattle.pw_trail.specs.Format.{units_in, with_last}
use Rattle.pw_trail.specs.Orderly.{IsOrderly, Stays}
use Rattle.pw_trail.specs.Restoring.{HasFiles, IsReadBack}
use Rattle.pw_trail.specs.declared.changes.Change.{Change}
use Rattle.pw_trail.specs.declared.changes.UnitChanges.{UnitChanges}
use Rattle.pw_trail.proofs.Committing.{changes-fit, units-with-record, with-record}
use Rattle.pw_trail.proofs.Opening.{opened-orderly}
use Rattle.pw_trail.proofs.Orderly.{all-back-out, begins, ends, operated}

-- the records are in order
abbrev pub Orderly : Told → Type 0
Orderly told = ∥ IsOrderly told ∥₁

committed-prop : (a b : ℕ → List (List ℕ)) → IsProp (a ≡ b)
committed-prop a b = hlevel props

leads-prop : (a b : Result (ℕ → List (List ℕ)) ℕ) → IsProp (a ≡ b)
leads-prop a b = hlevel props

fits-prop : (files : List FileInfo) (own : List Change) → IsProp (All (λ change. fits files change ≡ true) own)
fits-prop files own = hlevel props

-- the records stay in order, the committed ones stay, and so do the files and the count of commits
pub record Keeps (told next : Told) : Type 0 where
  pub orderly : Orderly next
  pub same : committed next ≡ committed told
  pub commits : next.commits ≡ told.commits
  pub files : (fs : List FileInfo) → HasFiles fs told → HasFiles fs next

of-stays : (told next : Told) → Orderly told → (IsOrderly told → Stays told next) → next.commits ≡ told.commits
    → ((fs : List FileInfo) → HasFiles fs told → HasFiles fs next) → Keeps told next
of-stays told next o more count files = record {
  orderly = ∥∥₁_map o (λ own. (more own).orderly);
  same = ∥∥₁_elim o (committed-prop (committed next) (committed told)) (λ own. (more own).same);
  commits = count;
  files = files;
}

nothing : (told next : Told) → Orderly told → next ≡ told → Keeps told next
nothing told next o is = record { orderly = subst Orderly (sym is) o; same = ap committed is; commits = ap (λ (t : Told). t.commits) is; files = λ fs h. subst (HasFiles fs) (sym is) h }

-- a refusal of a disc without faults leaves all
refused : (fault : DiscFault) (told next : Told) → next.faults ≡ told.faults → Leaves fault told next → next ≡ told
refused fault.Failed told next none left = left.stays ∙ ap (λ n. record told { faults = n }) none
refused fault.Memory told next none left = left

-- what is asked of the disc inside
pub can-begin : (n : ℕ) (told : Told) (u : unit.Unit) → CanBegin (with_faults n told) u → CanBegin told u
can-begin n told u can = record { terminal = can.terminal; number = can.number; not_ended = can.not_ended; free = can.free; births = can.births }

pub is-call : (n : ℕ) (told : Told) (call : FileCall) → IsCall (with_faults n told) call → IsCall told call
is-call n told call is = record { file = is.file; content = is.content; key = is.key }

-- a beginning
pub keeps-begin : (result : Result (Unit {0}) DiscFault) (told next : Told) (u : unit.Unit) → Orderly told → CanBegin told u → next.faults ≡ told.faults
    → OnOk result (next ≡ begun told u) → IfErr result (λ fault. Leaves fault told next) → Keeps told next
keeps-begin (Ok x) told next u o can none done left =
    subst (Keeps told) (sym done) (of-stays told (begun told u) o (λ own. begins told own u can) refl (λ fs h. record { count = h.count; keys = h.keys }))
keeps-begin (Err fault) told next u o can none done left = nothing told next o (refused fault told next none left)

-- units that are backed out
back-files : (leaves : Bool) (told : Told) (units : List unit.Unit) (fs : List FileInfo) → HasFiles fs told → HasFiles fs (all_backed_out leaves told units)
back-files leaves told [] fs h = h
back-files true told (u ∷ units) fs h = back-files true (backed_out true told u) units fs (record { count = h.count; keys = h.keys })
back-files false told (u ∷ units) fs h = back-files false (backed_out false told u) units fs (record { count = h.count; keys = h.keys })

back-counts : (leaves : Bool) (told : Told) (units : List unit.Unit) → (all_backed_out leaves told units).commits ≡ told.commits
back-counts leaves told [] = refl
back-counts true told (u ∷ units) = back-counts true (backed_out true told u) units
back-counts false told (u ∷ units) = back-counts false (backed_out false told u) units

pub keeps-back : (result : Result (Unit {0}) DiscFault) (leaves : Bool) (told next : Told) (units : List unit.Unit) → Orderly told → next.faults ≡ told.faults
    → OnOk result (next ≡ all_backed_out leaves told units) → IfErr result (λ fault. Leaves fault told next) → Keeps told next
keeps-back (Ok x) leaves told next units o none done left =
    subst (Keeps told) (sym done) (of-stays told (all_backed_out leaves told units) o (λ own. all-back-out leaves told own units) (back-counts leaves told units) (back-files leaves told units))
keeps-back (Err fault) leaves told next units o none done left = nothing told next o (refused fault told next none left)

-- an operation
pub keeps-operate : (done : FileAnswer) (told next : Told) (u : unit.Unit) (call : FileCall) → Orderly told → IsRunning told u → IsCall told call → next.faults ≡ told.faults
    → Operates done told u call next → Keeps told next
keeps-operate (answer.Done status content) told next u call o running is_call none done =
    subst (Keeps told) (sym done.2) (of-stays told (after_operation told u call) o (λ own. operated told own u call running is_call done.0) refl (λ fs h. record { count = h.count; keys = h.keys }))
keeps-operate (answer.Conflict holder) told next u call o running is_call none done = nothing told next o done.1
keeps-operate answer.Failed told next u call o running is_call none done = nothing told next o (done.stays ∙ ap (λ n. record told { faults = n }) none)
keeps-operate answer.Memory told next u call o running is_call none done = nothing told next o done

-- a commit
pub keeps-commit : (told next : Told) (u : unit.Unit) (reply : Option (List ℕ)) → Orderly told → next ≡ after_commit told u reply → Orderly next
keeps-commit told next u reply o is = subst Orderly (sym is) (∥∥₁_map o (λ own. ends told own u reply))

pub commit-files : (fs : List FileInfo) (told next : Told) (u : unit.Unit) (reply : Option (List ℕ)) → HasFiles fs told → next ≡ after_commit told u reply → HasFiles fs next
commit-files fs told next u reply h is = subst (HasFiles fs) (sym is) (record { count = h.count; keys = h.keys })

pub record-fits : (files : List FileInfo) (told : Told) → HasFiles files told → Orderly told → (t : ℕ) → All (λ change. fits files change ≡ true) (map change_to (changes_of told t))
record-fits files told of o t = ∥∥₁_elim o (fits-prop files (map change_to (changes_of told t))) (λ own. changes-fit files told of own t)

-- what was made is the record of the unit
pub record-is : (told : Told) (u : unit.Unit) (made : UnitChanges) (changed : List ChangedKey) → made ≡ record { terminal = u.terminal; unit = u.number; changes = map change_to changed }
    → changed ≡ changes_of told u.terminal → made ≡ record_of told u
record-is told u made changed is changes = is ∙ ap (λ cs. record { terminal = u.terminal; unit = u.number; changes = map change_to cs }) changes

module _ (files : List FileInfo) (told : Told) (of : HasFiles files told) (o : Orderly told) (u : unit.Unit) (reply : Option (List ℕ)) (bytes : List ℕ) (leads : LeadsTo files told bytes)
    (made : UnitChanges) (made_is : made ≡ record_of told u) where
  pub recorded : (image : List ℕ) → units_in files image ≡ with_last (units_in files bytes) made → LeadsTo files (after_commit told u reply) image
  recorded image is =
      ∥∥₁_elim o (leads-prop (trail_files files image) (Ok (committed (after_commit told u reply))))
      (λ own. with-record files told of own u reply bytes leads image (is ∙ ap (with_last (units_in files bytes)) made_is))

  pub recorded-or-not : (image : List ℕ) → (units_in files image ≡ units_in files bytes) ⊎ (units_in files image ≡ with_last (units_in files bytes) made) → LeadsToEither files told u reply image
  recorded-or-not image (inl is) = inl (ap (files_read files) is ∙ leads)
  recorded-or-not image (inr is) = inr (recorded image is)

-- the same of the units of a trail
pub recorded-units : (files : List FileInfo) (told : Told) → HasFiles files told → Orderly told → (u : unit.Unit) (reply : Option (List ℕ)) (units : List UnitChanges)
    → files_after files units ≡ committed told → (made : UnitChanges) → made ≡ record_of told u
    → files_after files (units ++ made ∷ []) ≡ committed (after_commit told u reply)
recorded-units files told of o u reply units leads made made_is =
    ∥∥₁_elim o (committed-prop (files_after files (units ++ made ∷ [])) (committed (after_commit told u reply)))
    (λ own. ap (λ (r : UnitChanges). files_after files (units ++ r ∷ [])) made_is ∙ units-with-record files told of own u reply units leads)

-- the trail leads to the same records
pub leads-same : (files : List FileInfo) (told next : Told) (bytes : List ℕ) → committed next ≡ committed told → LeadsTo files told bytes → LeadsTo files next bytes
leads-same files told next bytes same leads = leads ∙ ap Ok (sym same)

-- a trail that was opened
pub opened : (system : System) (bytes : List ℕ) (told : Told) → IsReadBack system (units_in system.files bytes) told → Orderly told
opened system bytes told read = ∣ opened-orderly system bytes told read ∣₁
