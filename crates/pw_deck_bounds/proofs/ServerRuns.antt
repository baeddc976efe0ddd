-- A server's run counts a statement for each operation on a file, so it ends.
use Rattle.std.proofs.Common.{◌≡◌, ℕ, ◌+◌, ◌<◌, ◌≤◌, Bool, true, false, List, [], ◌∷◌, ◌++◌, append_assoc, length, map, slice_get, Option, Some, None, refl, sym, ap, ◌∙◌, subst, arith}
use Rattle.std.proofs.lemmas.List.{append-nil, length-map}
use Rattle.pw_code.specs.declared.file.FileCall.{FileCall}
use Rattle.pw_code.specs.declared.lock.LockRule.{LockRule}
use Rattle.pw_code.specs.declared.system.ClassInfo.{ClassInfo}
use Rattle.pw_code.specs.declared.verb.Verb.TheVariants as verb
use Rattle.pw_onecopy.specs.Path.{FileResult}
use Rattle.pw_run_bounds.specs.Bound.{IsServedFrom}
use Rattle.pw_tree_meaning.specs.OfDeck.{behaviour, ops, ops_by}
use Rattle.pw_tree_meaning.specs.Program.{DeckModel, Program, program_at}
use Rattle.pw_tree_meaning.specs.Runs.{file_told, start, verb_of}
use Rattle.pw_tree_meaning.specs.State.{most_counted}
use Rattle.pw_tree_meaning.proofs.Requesters.{requester_rules}
use Rattle.pw_tree_meaning.proofs.Servers.{no_files, server-found}
use Rattle.pw_tree_meaning.proofs.trees.Finished.{closed}
use Rattle.pw_tree_meaning.proofs.trees.Suited.{each-fine}
use Rattle.pw_tree_meaning.proofs.trees.Trees.{Here, Left, Obeys, Rules, Stuck, TakesNone, Tree, Waits, play}

module _ (rule : LockRule) (deck : DeckModel) (c : ℕ) (message : List ℕ) where
  -- the run goes on from these answers by the tree, for so many more
  abbrev GoesBy : Tree → List FileResult → ℕ → Type 0
  GoesBy t before most =
      (rest : List FileResult) → length rest ≤ most → ops deck c message (before ++ rest) ≡ verb_of (play t (map file_told rest) no_files)

  -- the first operation
  first-call : (t : Tree) (before done : List FileResult) (most : ℕ) (call : FileCall) → GoesBy t before most
      → IsServedFrom (behaviour rule deck) c message before done → ops deck c message (before ++ done) ≡ verb.File call
      → (own : FileCall) × (verb_of (play t [] no_files) ≡ verb.File own)
  first-call t before [] most call goes served asks = (call, sym (goes [] (omega arith)) ∙ asks)
  first-call t before (answer ∷ done) most call goes served asks =
      (served.0.0, sym (goes [] (omega arith)) ∙ (ap (ops deck c message) (append-nil before) ∙ served.0.1))

  -- where a run asks for an operation, it has counted a statement for each one before
  few-answers : (r : Rules) (t : Tree) (count : ℕ) (inside : Bool) → Obeys (closed r) count inside t → (before done : List FileResult) (most : ℕ) (call : FileCall)
      → GoesBy t before most → length done ≤ most → IsServedFrom (behaviour rule deck) c message before done → ops deck c message (before ++ done) ≡ verb.File call
      → (own : FileCall) → verb_of (play t [] no_files) ≡ verb.File own → count + length done < most_counted
  few-answers r (Here s) count inside ok before done most call goes low served asks own first = absurd ok.fits
  few-answers r (Left s) count inside ok before done most call goes low served asks own first = absurd ok.fits
  few-answers r (Stuck v s) count inside ok before done most call goes low served asks own first = absurd (subst TakesNone first ok.2)
  few-answers r (Waits (verb.File now) s next) count inside ok before [] most call goes low served asks own first = let counts = ok.3 in omega (arith, counts.0, counts.1)
  few-answers r (Waits (verb.File now) s next) count inside ok before (answer ∷ done) most call goes low served asks own first =
      let counts = ok.3 in
      let on : GoesBy (next (file_told answer)) (before ++ answer ∷ []) (length done) =
      λ rest short. ap (ops deck c message) (append_assoc before (answer ∷ []) rest) ∙ goes (answer ∷ rest) (omega (arith, short, low)) in
      let then_asks : ops deck c message ((before ++ answer ∷ []) ++ done) ≡ verb.File call = ap (ops deck c message) (append_assoc before (answer ∷ []) done) ∙ asks in
      let next_call = first-call (next (file_told answer)) (before ++ answer ∷ []) done (length done) call on served.1 then_asks in
      let rest = few-answers r (next (file_told answer)) s.count _ (ok.4 (file_told answer)) (before ++ answer ∷ []) done (length done) call on (omega arith) served.1 then_asks next_call.0 next_call.1 in
      omega (arith, rest, counts.0)
  few-answers r (Waits v s next) count inside ok before done most call goes low served asks own first = absurd (cc first)

  -- a class that is there
  by-class : (class : ClassInfo) → slice_get deck.classes c ≡ Some class → (done : List FileResult) (call : FileCall)
      → IsServedFrom (behaviour rule deck) c message [] done → ops deck c message done ≡ verb.File call → length done < most_counted
  by-class class there done call served asks =
      let program : Program = program_at deck.servers class.server in
      let r : Rules = requester_rules deck (length done) (λ v. Unit {0}) (λ x. tt) in
      let found = server-found r class.server message (start program []) (each-fine r (λ v. tt) program 0 true message program.paragraphs) tt in
      let goes : GoesBy found.tree [] (length done) =
      λ rest low. ap (λ o. ops_by deck o message rest) there
      ∙ ap verb_of (found.plays (map file_told rest) no_files (subst (λ (n : ℕ). n ≤ length done) (sym (length-map rest file_told)) low)) in
      let first = first-call found.tree [] done (length done) call goes served asks in
      let few = few-answers r found.tree 0 false found.obeys [] done (length done) call goes (omega arith) served asks first.0 first.1 in
      omega (arith, few)

  by-place : (o : Option ClassInfo) → slice_get deck.classes c ≡ o → (done : List FileResult) (call : FileCall)
      → IsServedFrom (behaviour rule deck) c message [] done → ops deck c message done ≡ verb.File call → length done < most_counted
  by-place None there done call served asks = absurd (let fault = ap (λ o. ops_by deck o message done) there in cc (fault, asks))
  by-place (Some class) there done call served asks = by-class class there done call served asks

  -- a server's run has no more operations than statements that it may count
  pub served-few : (done : List FileResult) (call : FileCall)
      → IsServedFrom (behaviour rule deck) c message [] done → ops deck c message done ≡ verb.File call → length done < most_counted
  served-few = by-place (slice_get deck.classes c) refl
