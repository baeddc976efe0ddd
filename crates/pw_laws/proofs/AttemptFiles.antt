-- An attempt by itself, on two sets of files that have the same records at the keys that its operations lock.
use Rattle.std.proofs.Common.{◌≡◌, ℕ, zero, suc, ◌+◌, ◌<◌, ◌≤◌, ⊎_elim, List, [], ◌∷◌, ◌++◌, refl, ap, ap₂, sym, subst, subst₂, ◌∙◌, arith}
use Rattle.std.proofs.lemmas.Bool.{cases_eq, cases_lt}
use Rattle.pw_code.specs.declared.file.FileCall.{FileCall}
use Rattle.pw_code.specs.declared.verb.Verb.{Verb}
use Rattle.pw_code.specs.declared.verb.Verb.TheVariants as verb
use Rattle.pw_laws.proofs.seeing.Plays.{ServerWrites-behaviour, played_files, same_play}
use Rattle.pw_laws.specs.locking.Seen.{AgreeOnRun, AreFiles, CallCovers, HaveSameAt, files_at, verb_at}
use Rattle.pw_onecopy.specs.Attempt.{Attempt, GoesOn, IsAttempt, TakesAnswer, attempt, attempt_with, attempt_with_served, answer_verb}
use Rattle.pw_onecopy.specs.Behaviour.{Behaviour, Served, Reply, Fault}
use Rattle.pw_onecopy.specs.IsBehaviour.{ComesTo, IsBehaviour, IsPath, Suits}
use Rattle.pw_onecopy.specs.Path.{PathAnswer, Begun, Entry, Failed, Replied, Shown, entries_on, unit_number, Dropped, Ended}
use Rattle.pw_onecopy.specs.Play.{Play, play_operation, play_after}
use Rattle.pw_onecopy.specs.Refreshes.{next_refresh}
use Rattle.pw_onecopy.specs.declared.refresh.Refresh.{Refresh}
use Rattle.pw_laws.proofs.Paths.{IsPath-push}

-- a verb that ends a server's run
abbrev pub IsLast : Verb → Type 0
IsLast (verb.File call) = ⊥
IsLast _ = Unit {0}

module _ (sys : Behaviour) (c : ℕ) (message : List ℕ) where
  -- behind the last verb nothing more is done
  last-stays : (v : Verb) (at : Play) → IsLast v → play_operation sys v at ≡ at
  last-stays (verb.File call) at last = absurd last
  last-stays verb.Show at last = refl
  last-stays (verb.Accept screen) at last = refl
  last-stays verb.Begin at last = refl
  last-stays (verb.Send class sent) at last = refl
  last-stays verb.End at last = refl
  last-stays verb.Drop at last = refl
  last-stays verb.Redo at last = refl
  last-stays verb.Stop at last = refl
  last-stays (verb.Fault x) at last = refl
  last-stays (verb.Reply reply) at last = refl

  -- behind its last verb a run stays
  pub stays-played : (files : ℕ → List (List ℕ)) (n m : ℕ) → n ≤ m → IsLast (verb_at sys c message files n) → play_after sys c message files m ≡ play_after sys c message files n
  stays-played files n zero le last = ap (play_after sys c message files) (let none : 0 ≡ n = omega (arith, le) in none)
  stays-played files n (suc m) le last =
      ⊎_elim
      (λ same. ap (play_after sys c message files) (sym same))
      (λ differ.
      let rest = stays-played files n m (omega (arith, le, differ)) last in
      ap (λ (at : Play). play_operation sys (sys.ops c message at.done) at) rest ∙ last-stays (verb_at sys c message files n) (play_after sys c message files n) last)
      (cases_eq n (suc m))

  -- two last verbs of one run are one
  pub one-end : (files : ℕ → List (List ℕ)) (n m : ℕ) → IsLast (verb_at sys c message files n) → IsLast (verb_at sys c message files m) → play_after sys c message files n ≡ play_after sys c message files m
  one-end files n m last other =
      ⊎_elim
      (λ below. sym (stays-played files n m (omega (arith, below)) last))
      (λ above. stays-played files m n above other)
      (cases_lt n m)

-- what a server comes to: its reply with the files that it leaves, or its run fault
pub data Outcome (sv : Served) (v : Verb) (files : ℕ → List (List ℕ)) : Type 0 where
  replies : (reply : List ℕ) → sv ≡ Reply reply files → v ≡ verb.Reply reply → Outcome sv v files
  faults : (x : ℕ) → sv ≡ Fault x → v ≡ verb.Fault x → Outcome sv v files

-- what a server comes to, by its verb
pub outcome : (sv : Served) (v : Verb) (files : ℕ → List (List ℕ)) → ComesTo sv v files → Outcome sv v files
outcome (Reply reply left) (verb.Reply own) files comes = replies own (ap₂ (λ (r : List ℕ) (fs : ℕ → List (List ℕ)). Reply r fs) (sym comes.0) (sym comes.1)) refl
outcome (Fault x) (verb.Fault own) files comes = faults own (ap (λ (n : ℕ). Fault n) (sym comes)) refl
outcome _ _ files comes = absurd comes

-- its verb is a last one
pub outcome-last : {sv : Served} {v : Verb} {files : ℕ → List (List ℕ)} → Outcome sv v files → IsLast v
outcome-last (replies reply sv_is v_is) = subst IsLast (sym v_is) tt
outcome-last (faults x sv_is v_is) = subst IsLast (sym v_is) tt

-- two attempts, begun on two sets of files, so far alike
pub record SameAttempts (sys : Behaviour) (one other : Attempt) (a b : ℕ → List (List ℕ)) : Type 0 where
  pub path : one.path ≡ other.path
  pub refreshes : one.refreshes ≡ other.refreshes
  pub last : one.last ≡ other.last
  pub stays : (f : ℕ) (key : List ℕ) → HaveSameAt sys a b f key → HaveSameAt sys one.files other.files f key

-- one more answer
given-same : (sys : Behaviour) (one other : Attempt) (a b : ℕ → List (List ℕ)) (answer : PathAnswer) → SameAttempts sys one other a b → SameAttempts sys (attempt_with answer one) (attempt_with answer other) a b
given-same sys one other a b answer same = record {
  path = ap (λ (p : List PathAnswer). p ++ answer ∷ []) same.path;
  refreshes = same.refreshes;
  last = refl;
  stays = same.stays;
}

-- what a server comes to, on both
served-same : (sys : Behaviour) (one other : Attempt) (a b : ℕ → List (List ℕ)) (sv sv' : Served) (v : Verb) (left left' : ℕ → List (List ℕ))
    → Outcome sv v left → Outcome sv' v left' → ((f : ℕ) (key : List ℕ) → HaveSameAt sys one.files other.files f key → HaveSameAt sys left left' f key)
    → SameAttempts sys one other a b → SameAttempts sys (attempt_with_served sv one) (attempt_with_served sv' other) a b
served-same sys one other a b sv sv' v left left' (replies own sv_is v_is) (replies own' sv_is' v_is') stays same =
    let one_reply : own ≡ own' = cc (v_is, v_is') in
    subst₂ (λ (x y : Served). SameAttempts sys (attempt_with_served x one) (attempt_with_served y other) a b) (sym sv_is) (sym (sv_is' ∙ ap (λ (r : List ℕ). Reply r left') (sym one_reply)))
    (record {
      path = ap (λ (p : List PathAnswer). p ++ Replied own ∷ []) same.path;
      refreshes = same.refreshes;
      last = refl;
      stays = λ f key e. stays f key (same.stays f key e);
    })
served-same sys one other a b sv sv' v left left' (faults x sv_is v_is) (faults y sv_is' v_is') stays same =
    let one_fault : x ≡ y = cc (v_is, v_is') in
    subst₂ (λ (p q : Served). SameAttempts sys (attempt_with_served p one) (attempt_with_served q other) a b) (sym sv_is) (sym (sv_is' ∙ ap (λ (n : ℕ). Fault n) (sym one_fault)))
    (given-same sys one other a b (Failed x) same)
served-same sys one other a b sv sv' v left left' (replies own sv_is v_is) (faults y sv_is' v_is') stays same = absurd (cc (v_is, v_is'))
served-same sys one other a b sv sv' v left left' (faults x sv_is v_is) (replies own sv_is' v_is') stays same = absurd (cc (v_is, v_is'))

module _ (sys : Behaviour) (b : IsBehaviour sys) (t : ℕ) (q : List PathAnswer) (r : ℕ) (start : IsPath sys t q) where
  -- a SEND on both
  sent-same : (c : ℕ) (message : List ℕ) → c < sys.classes → (one other : Attempt) (x y : ℕ → List (List ℕ))
      → AreFiles sys one.files → AreFiles sys other.files → ((n : ℕ) → AgreeOnRun sys c message one.files other.files n)
      → SameAttempts sys one other x y
      → SameAttempts sys (attempt_with_served (sys.serve c message one.files) one) (attempt_with_served (sys.serve c message other.files) other) x y
  sent-same c message known one other x y files others agree same =
      let first = b.adds_up c message one.files known files in
      let second = b.adds_up c message other.files known others in
      let n : ℕ = first.operations in
      let m : ℕ = second.operations in
      let comes = outcome (sys.serve c message one.files) (verb_at sys c message one.files n) (files_at sys c message one.files n) first.comes in
      let comes' = outcome (sys.serve c message other.files) (verb_at sys c message other.files m) (files_at sys c message other.files m) second.comes in
      let plays = same_play sys c message (ServerWrites-behaviour sys b c message known) one.files other.files files others n (agree n) in
      let verbs : verb_at sys c message one.files n ≡ verb_at sys c message other.files n = ap (sys.ops c message) plays.done in
      let end : play_after sys c message other.files n ≡ play_after sys c message other.files m =
      one-end sys c message other.files n m (subst IsLast verbs (outcome-last comes)) (outcome-last comes') in
      served-same sys one other x y (sys.serve c message one.files) (sys.serve c message other.files) (verb_at sys c message one.files n)
      (files_at sys c message one.files n) (files_at sys c message other.files n) comes
      (subst (λ (at : Play). Outcome (sys.serve c message other.files) (verb_at sys c message one.files n) at.files) (sym end)
      (subst (λ (v : Verb). Outcome (sys.serve c message other.files) v (files_at sys c message other.files m)) (sym (verbs ∙ ap (λ (at : Play). sys.ops c message at.done) end)) comes'))
      plays.stays same

  -- a path and files that an attempt may have
  pub record Fine (at : Attempt) : Type 0 where
    pub is_path : IsPath sys t at.path
    pub are_files : AreFiles sys at.files

  given-fine : (at : Attempt) (answer : PathAnswer) → Suits sys t at.path (sys.ask t at.path) answer → Fine at → Fine (attempt_with answer at)
  given-fine at answer suits fine = record { is_path = IsPath-push sys t at.path answer fine.is_path suits; are_files = fine.are_files }

  served-fine : (c : ℕ) (message : List ℕ) → c < sys.classes → (at : Attempt) → sys.ask t at.path ≡ verb.Send c message → Fine at → Fine (attempt_with_served (sys.serve c message at.files) at)
  served-fine c message known at asks fine =
      let adds = b.adds_up c message at.files known fine.are_files in
      by (sys.serve c message at.files) (verb_at sys c message at.files adds.operations) (files_at sys c message at.files adds.operations)
      (outcome (sys.serve c message at.files) (verb_at sys c message at.files adds.operations) (files_at sys c message at.files adds.operations) adds.comes)
      (played_files sys c message (ServerWrites-behaviour sys b c message known) at.files fine.are_files adds.operations)
    where
      by : (sv : Served) (v : Verb) (left : ℕ → List (List ℕ)) → Outcome sv v left → AreFiles sys left → Fine (attempt_with_served sv at)
      by sv v left (replies reply sv_is v_is) are = subst (λ (x : Served). Fine (attempt_with_served x at)) (sym sv_is)
          (record { is_path = IsPath-push sys t at.path (Replied reply) fine.is_path (rw asks tt); are_files = are })
      by sv v left (faults x sv_is v_is) are = subst (λ (y : Served). Fine (attempt_with_served y at)) (sym sv_is) (given-fine at (Failed x) (rw asks tt) fine)

  step-fine : (files : ℕ → List (List ℕ)) → AreFiles sys files → (at : Attempt) (v : Verb) → sys.ask t at.path ≡ v → TakesAnswer sys t at.path v → Fine at
      → Fine (answer_verb sys t r files v at)
  step-fine files are at verb.Begin asks takes fine = given-fine at (Begun r) (rw asks tt) fine
  step-fine files are at verb.Show asks takes fine = let next = given-fine at Shown (rw asks tt) fine in record { is_path = next.is_path; are_files = next.are_files }
  step-fine files are at (verb.Accept screen) asks takes fine = given-fine at (Entry (entries_on at.path + 1)) (rw asks (refl, omega (arith, takes))) fine
  step-fine files are at (verb.Send c message) asks takes fine = served-fine c message (b.sends t c message at.path fine.is_path asks) at asks fine
  step-fine files are at verb.End asks takes fine = given-fine at Ended (rw asks tt) fine
  step-fine files are at verb.Drop asks takes fine = let next = given-fine at Dropped (rw asks tt) fine in record { is_path = next.is_path; are_files = are }
  step-fine files are at verb.Redo asks takes fine = absurd takes
  step-fine files are at verb.Stop asks takes fine = absurd takes
  step-fine files are at (verb.Fault x) asks takes fine = absurd takes
  step-fine files are at (verb.File call) asks takes fine = absurd takes
  step-fine files are at (verb.Reply reply) asks takes fine = absurd takes

  -- an attempt leaves a path and files
  pub attempt-fine : (files : ℕ → List (List ℕ)) → AreFiles sys files → (j : ℕ) → IsAttempt sys t q files r j → Fine (attempt sys t q files r j)
  attempt-fine files are zero is = record { is_path = start; are_files = are }
  attempt-fine files are (suc j) is =
      let at : Attempt = attempt sys t q files r j in
      step-fine files are at (sys.ask t at.path) refl is.1.takes (attempt-fine files are j is.0)

  -- one more verb is answered on both
  step-same : (x y : ℕ → List (List ℕ)) (one other : Attempt) (v : Verb)
      → ((c : ℕ) (message : List ℕ) → v ≡ verb.Send c message → SameAttempts sys (attempt_with_served (sys.serve c message one.files) one) (attempt_with_served (sys.serve c message other.files) other) x y)
      → SameAttempts sys one other x y
      → SameAttempts sys (answer_verb sys t r x v one) (answer_verb sys t r y v other) x y
  step-same x y one other verb.Begin sends same = given-same sys one other x y (Begun r) same
  step-same x y one other verb.Show sends same = record {
    path = ap (λ (p : List PathAnswer). p ++ Shown ∷ []) same.path;
    refreshes = ap₂ (λ (l : List Refresh) (p : List PathAnswer). l ++ next_refresh sys t p ∷ []) same.refreshes same.path;
    last = refl;
    stays = same.stays;
  }
  step-same x y one other (verb.Accept screen) sends same =
      subst (λ (p : List PathAnswer). SameAttempts sys (attempt_with (Entry (entries_on one.path + 1)) one) (attempt_with (Entry (entries_on p + 1)) other) x y) same.path
      (given-same sys one other x y (Entry (entries_on one.path + 1)) same)
  step-same x y one other (verb.Send c message) sends same = sends c message refl
  step-same x y one other verb.End sends same = given-same sys one other x y Ended same
  step-same x y one other verb.Drop sends same = record { path = ap (λ (p : List PathAnswer). p ++ Dropped ∷ []) same.path; refreshes = same.refreshes; last = refl; stays = λ f key e. e }
  step-same x y one other verb.Redo sends same = same
  step-same x y one other verb.Stop sends same = same
  step-same x y one other (verb.Fault n) sends same = same
  step-same x y one other (verb.File call) sends same = same
  step-same x y one other (verb.Reply reply) sends same = same

  -- the files have the same records at each key that an operation of the attempt's first j answers locks
  abbrev pub AgreeOnAttempt : (ℕ → List (List ℕ)) → (ℕ → List (List ℕ)) → ℕ → Type 0
  AgreeOnAttempt x y j = (i : ℕ) → i < j → (c : ℕ) (message : List ℕ) → sys.ask t (attempt sys t q x r i).path ≡ verb.Send c message
      → (k : ℕ) (call : FileCall) → verb_at sys c message (attempt sys t q x r i).files k ≡ verb.File call
      → (key : List ℕ) → CallCovers sys (files_at sys c message (attempt sys t q x r i).files k) call key → HaveSameAt sys x y call.file key

  -- attempts on files that agree on their locks are the same
  pub attempts-same : (x y : ℕ → List (List ℕ)) → AreFiles sys x → AreFiles sys y → (j : ℕ) → IsAttempt sys t q x r j → AgreeOnAttempt x y j
      → IsAttempt sys t q y r j × SameAttempts sys (attempt sys t q x r j) (attempt sys t q y r j) x y
  attempts-same x y are others zero is agree = (is, record { path = refl; refreshes = refl; last = refl; stays = λ f key e. e })
  attempts-same x y are others (suc j) is agree =
      let one : Attempt = attempt sys t q x r j in
      let other : Attempt = attempt sys t q y r j in
      let rest = attempts-same x y are others j is.0 (λ i below. agree i (omega (arith, below))) in
      let fine = attempt-fine x are j is.0 in
      let fine' = attempt-fine y others j rest.0 in
      let same : SameAttempts sys one other x y = rest.1 in
      let goes : GoesOn sys t q other = record {
        takes = subst (λ (p : List PathAnswer). TakesAnswer sys t p (sys.ask t p)) same.path is.1.takes;
        is_open = ap unit_number (sym same.path) ∙ is.1.is_open;
      } in (
        (rest.0, goes),
        subst (λ (p : List PathAnswer). SameAttempts sys (answer_verb sys t r x (sys.ask t one.path) one) (answer_verb sys t r y (sys.ask t p) other) x y) same.path
            (step-same x y one other (sys.ask t one.path)
            (λ c message asks. sent-same c message (b.sends t c message one.path fine.is_path asks) one other x y fine.are_files fine'.are_files
            (λ n i below call file key covers. same.stays call.file key (agree j (omega arith) c message asks i call file key covers)) same)
            same),
      )
