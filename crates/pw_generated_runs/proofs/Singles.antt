-- Where a terminal of the one-copy machine stands in its rounds.
use Rattle.std.proofs.Common.{◌≡◌, ◌⊎◌, ℕ, suc, ◌+◌, ◌<◌, ◌≤◌, Bool, true, List, [], ◌∷◌, ◌++◌, length, Option, Some, None, ap, sym, append-nil, append_assoc, arith, ◌∙◌}
use Rattle.std.specs.Prelude.{slice_get}
use Rattle.std.specs.List.{AllByRecursion}
use Rattle.std.proofs.lemmas.Option.{slice_get-get_or}
use Rattle.std.specs.Prelude.{get_or}
use Rattle.pw_code.specs.declared.verb.Verb.TheVariants as verb
use Rattle.pw_event.specs.declared.event.Ending.{Ending}
use Rattle.pw_event.specs.declared.event.Ending.TheVariants.{NoEntries, Suspended, Lost}
use Rattle.pw_generated_runs.specs.Rounds.{HasCodeZero, RunsInRounds, asked_behind, request_of, rounds, rounds_from}
use Rattle.pw_onecopy.specs.Behaviour.{Behaviour}
use Rattle.pw_onecopy.specs.OneCopy.{Single}
use Rattle.pw_onecopy.specs.Path.{PathAnswer, Shown, Entry, Replied, entries_on}

-- ---- paths

-- a round more
pub rounds-push : (k : ℕ) (replies : List (List ℕ)) (reply : List ℕ)
    → rounds_from k (replies ++ reply ∷ []) ≡ rounds_from k replies ++ Entry (k + length replies) ∷ Replied reply ∷ Shown ∷ []
rounds-push k [] reply =
    let same : k ≡ k + 0 = omega arith in
    ap (λ (j : ℕ). Entry j ∷ Replied reply ∷ Shown ∷ []) same
rounds-push k (first ∷ replies) reply =
    let same : k + 1 + length replies ≡ k + suc (length replies) = omega arith in
    ap (λ (path : List PathAnswer). Entry k ∷ Replied first ∷ Shown ∷ path)
    (rounds-push (k + 1) replies reply ∙ ap (λ (j : ℕ). rounds_from (k + 1) replies ++ Entry j ∷ Replied reply ∷ Shown ∷ []) same)

-- the entries on it
pub rounds-entries : (k : ℕ) (replies : List (List ℕ)) (rest : List PathAnswer) → entries_on (rounds_from k replies ++ rest) ≡ length replies + entries_on rest
rounds-entries k [] rest = omega arith
rounds-entries k (first ∷ replies) rest = omega (arith, rounds-entries (k + 1) replies rest)

-- ---- where a terminal stands

-- between two rounds; behind an entry; behind the reply to its request
pub data RoundPlace : Type 0 where
  Between : RoundPlace
  Taken : RoundPlace
  Answered : (reply : List ℕ) → RoundPlace

-- the answers behind k whole rounds
abbrev pub answers_at : RoundPlace → ℕ → List PathAnswer
answers_at Between k = []
answers_at Taken k = Entry (k + 1) ∷ []
answers_at (Answered reply) k = Entry (k + 1) ∷ Replied reply ∷ []

-- how many requests of n are counted there behind k whole rounds; of a unit that is left nothing is counted
abbrev pub CountedAt : RoundPlace → ℕ → ℕ → ℕ → Bool → Type 0
CountedAt Between k n count is_left = (k ≤ n) × (count ≡ k)
CountedAt Taken k n count is_left = (k < n) × (count ≡ k)
CountedAt (Answered reply) k n count is_left = (k < n) × HasCodeZero reply × ((count ≡ k + 1) ⊎ (is_left ≡ true))

-- what an ending tells
abbrev pub EndedAt : Option Ending → ℕ → ℕ → Type 0
EndedAt None count n = Unit {0}
EndedAt (Some NoEntries) count n = count ≡ n
EndedAt (Some (Suspended cause)) count n = Unit {0}
EndedAt (Some Lost) count n = Unit {0}
EndedAt _ count n = ⊥

-- a terminal stands in its rounds, with so many requests counted
pub record StandsInRounds (digits : List ℕ) (single : Single) (count : ℕ) : Type 0 where
  pub replies : List (List ℕ)
  pub good : AllByRecursion HasCodeZero replies
  pub place : RoundPlace
  pub path : single.path ≡ rounds replies ++ answers_at place (length replies)
  pub counted : CountedAt place (length replies) (length digits) count single.is_left
  pub ended : EndedAt single.ending count (length digits)

-- there is a digit before the end
pub digit-at : (digits : List ℕ) (k : ℕ) → k < length digits → (d : ℕ) × (slice_get digits k ≡ Some d)
digit-at digits k lt = (get_or digits k 0, slice_get-get_or digits k 0 lt)

module _ (sys : Behaviour) (t : ℕ) (digits : List ℕ) (runs : RunsInRounds sys t digits) (replies : List (List ℕ)) (good : AllByRecursion HasCodeZero replies) where
  -- what is asked between two rounds
  pub asks-between : (path : List PathAnswer) → path ≡ rounds replies ++ [] → length replies ≤ length digits → sys.ask t path ≡ verb.Accept 0
  asks-between path is few = ap (sys.ask t) (is ∙ append-nil (rounds replies)) ∙ runs.accepts replies good few

  -- behind an entry
  pub asks-taken : (path : List PathAnswer) (d : ℕ) → path ≡ rounds replies ++ answers_at Taken (length replies) → slice_get digits (length replies) ≡ Some d
      → sys.ask t path ≡ verb.Send 0 (request_of d)
  asks-taken path d is has = ap (sys.ask t) is ∙ runs.sends replies d good has

  -- behind a reply of code 0
  pub asks-answered : (path : List PathAnswer) (reply : List ℕ) → path ≡ rounds replies ++ answers_at (Answered reply) (length replies) → length replies < length digits
      → HasCodeZero reply → sys.ask t path ≡ verb.Show
  asks-answered path reply is few code = ap (sys.ask t) is ∙ (runs.shows replies reply good few ∙ ap asked_behind code)

  -- the entries on a path between two rounds
  pub entries-between : (path : List PathAnswer) → path ≡ rounds replies ++ [] → entries_on path ≡ length replies
  entries-between path is = let n = rounds-entries 1 replies [] in omega (arith, ap entries_on is, n)

  -- the path behind the screen
  pub path-shown : (path : List PathAnswer) (reply : List ℕ) → path ≡ rounds replies ++ answers_at (Answered reply) (length replies)
      → path ++ Shown ∷ [] ≡ rounds (replies ++ reply ∷ []) ++ []
  path-shown path reply is =
      let same : length replies + 1 ≡ 1 + length replies = omega arith in
      ap (λ (p : List PathAnswer). p ++ Shown ∷ []) is
      ∙ (append_assoc (rounds replies) (answers_at (Answered reply) (length replies)) (Shown ∷ [])
      ∙ (ap (λ (j : ℕ). rounds replies ++ Entry j ∷ Replied reply ∷ Shown ∷ []) same
      ∙ (sym (rounds-push 1 replies reply) ∙ sym (append-nil (rounds (replies ++ reply ∷ []))))))
