-- A terminal that runs in rounds never asks to restart, on any path that its program may have.
use Rattle.std.proofs.Common.{◌≡◌, ◌⊎◌, inl, inr, ⊎_elim, ℕ, zero, suc, ◌+◌, ◌<◌, ◌≤◌, List, [], ◌∷◌, ◌++◌, length, Option, Some, None, refl, ap, sym, subst, append-nil, append_assoc, arith, ◌∙◌, length-append}
use Rattle.std.specs.List.{AllByRecursion}
use Rattle.pw_base.proofs.Plain.{all-append}
use Rattle.pw_code.specs.declared.verb.Verb.{Verb}
use Rattle.pw_code.specs.declared.verb.Verb.TheVariants as verb
use Rattle.pw_generated_runs.proofs.Singles.{digit-at, rounds-entries, rounds-push}
use Rattle.pw_generated_runs.specs.Rounds.{HasCodeZero, RunsInRounds, asked_behind, request_of, rounds}
use Rattle.pw_laws.proofs.Paths.{IsPath-push}
use Rattle.pw_onecopy.specs.Behaviour.{Behaviour}
use Rattle.pw_onecopy.specs.IsBehaviour.{IsBehaviour, IsPath, Suits, SuitsFrom}
use Rattle.pw_onecopy.specs.Path.{PathAnswer, Shown, Entry, Begun, Replied, Failed, Ended, Dropped, entries_on}
use Rattle.pw_tree_meaning.specs.Sends.{code_in_reply}

module _ (sys : Behaviour) (t : ℕ) (path : List PathAnswer) where
  -- an Accept is answered by the next entry
  record NextEntry (answer : PathAnswer) : Type 0 where
    is : answer ≡ Entry (entries_on path + 1)
    few : entries_on path + 1 ≤ sys.entries t

  entry-suits : (answer : PathAnswer) → Suits sys t path (verb.Accept 0) answer → NextEntry answer
  entry-suits (Entry k) suits = record { is = ap (λ (j : ℕ). Entry j) suits.0; few = omega (arith, suits.0, suits.1) }
  entry-suits Shown suits = absurd suits
  entry-suits (Begun r) suits = absurd suits
  entry-suits (Replied reply) suits = absurd suits
  entry-suits (Failed x) suits = absurd suits
  entry-suits Ended suits = absurd suits
  entry-suits Dropped suits = absurd suits

  -- a Send by a reply or a run fault
  reply-suits : (message : List ℕ) (answer : PathAnswer) → Suits sys t path (verb.Send 0 message) answer
      → ((reply : List ℕ) × (answer ≡ Replied reply)) ⊎ ((x : ℕ) × (answer ≡ Failed x))
  reply-suits message (Replied reply) suits = inl (reply, refl)
  reply-suits message (Failed x) suits = inr (x, refl)
  reply-suits message (Entry k) suits = absurd suits
  reply-suits message Shown suits = absurd suits
  reply-suits message (Begun r) suits = absurd suits
  reply-suits message Ended suits = absurd suits
  reply-suits message Dropped suits = absurd suits

  show-suits : (answer : PathAnswer) → Suits sys t path verb.Show answer → answer ≡ Shown
  show-suits Shown suits = refl
  show-suits (Entry k) suits = absurd suits
  show-suits (Replied reply) suits = absurd suits
  show-suits (Failed x) suits = absurd suits
  show-suits (Begun r) suits = absurd suits
  show-suits Ended suits = absurd suits
  show-suits Dropped suits = absurd suits

  -- and behind a reply there is an answer only where its code is 0
  shown-suits : (code : Option ℕ) (answer : PathAnswer) → Suits sys t path (asked_behind code) answer → (code ≡ Some 0) × (answer ≡ Shown)
  shown-suits None answer suits = absurd suits
  shown-suits (Some zero) answer suits = (refl, show-suits answer suits)
  shown-suits (Some (suc code)) answer suits = absurd suits

no-redo-behind : (code : Option ℕ) → asked_behind code ≡ verb.Redo → ⊥
no-redo-behind None is = absurd cc
no-redo-behind (Some zero) is = absurd cc
no-redo-behind (Some (suc code)) is = absurd cc

module _ (sys : Behaviour) (b : IsBehaviour sys) (t : ℕ) (digits : List ℕ) (runs : RunsInRounds sys t digits) where
  module _ (replies : List (List ℕ)) (good : AllByRecursion HasCodeZero replies) (few : length replies ≤ length digits) (is_path : IsPath sys t (rounds replies)) where
    abbrev k : ℕ
    k = length replies

    entries : entries_on (rounds replies) ≡ k
    entries = let all = rounds-entries 1 replies [] in omega (arith, ap entries_on (append-nil (rounds replies)), all)

    -- the first answer is the next entry
    record Enters (answer : PathAnswer) : Type 0 where
      is : answer ≡ Entry (k + 1)
      left : k < length digits
      path : IsPath sys t (rounds replies ++ answer ∷ [])
      message : List ℕ
      asks : sys.ask t (rounds replies ++ answer ∷ []) ≡ verb.Send 0 message

    enters : (answer : PathAnswer) → Suits sys t (rounds replies) (sys.ask t (rounds replies)) answer → Enters answer
    enters answer suits =
        let next = entry-suits sys t (rounds replies) answer (subst (λ (v : Verb). Suits sys t (rounds replies) v answer) (runs.accepts replies good few) suits) in
        let is : answer ≡ Entry (k + 1) = next.is ∙ ap (λ (j : ℕ). Entry (j + 1)) entries in
        let left : k < length digits = omega (arith, next.few, entries, runs.entries) in
        let digit = digit-at digits k left in
        record {
          is = is;
          left = left;
          path = IsPath-push sys t (rounds replies) answer is_path suits;
          message = request_of digit.0;
          asks = ap (λ (a : PathAnswer). sys.ask t (rounds replies ++ a ∷ [])) is ∙ runs.sends replies digit.0 good digit.1;
        }

    -- what is asked behind the second
    behind-failed : (answer : PathAnswer) → Enters answer → (x : ℕ) → sys.ask t ((rounds replies ++ answer ∷ []) ++ Failed x ∷ []) ≡ verb.Fault x
    behind-failed answer enter x = b.fails t 0 x enter.message (rounds replies ++ answer ∷ []) enter.path enter.asks

    behind-replied : (answer : PathAnswer) → Enters answer → (reply : List ℕ) → sys.ask t ((rounds replies ++ answer ∷ []) ++ Replied reply ∷ []) ≡ asked_behind (code_in_reply reply)
    behind-replied answer enter reply =
        ap (sys.ask t) (append_assoc (rounds replies) (answer ∷ []) (Replied reply ∷ []))
        ∙ (ap (λ (a : PathAnswer). sys.ask t (rounds replies ++ a ∷ Replied reply ∷ [])) enter.is ∙ runs.shows replies reply good enter.left)

    -- a whole round
    whole-round : (first second third : PathAnswer) (reply : List ℕ) → Enters first → second ≡ Replied reply → third ≡ Shown
        → ((rounds replies ++ first ∷ []) ++ second ∷ []) ++ third ∷ [] ≡ rounds (replies ++ reply ∷ [])
    whole-round first second third reply enter two three =
        let next : k + 1 ≡ 1 + k = omega arith in
        append_assoc (rounds replies ++ first ∷ []) (second ∷ []) (third ∷ [])
        ∙ (append_assoc (rounds replies) (first ∷ []) (second ∷ third ∷ [])
        ∙ (ap (λ (a : PathAnswer). rounds replies ++ a ∷ second ∷ third ∷ []) enter.is
        ∙ (ap (λ (a : PathAnswer). rounds replies ++ Entry (k + 1) ∷ a ∷ third ∷ []) two
        ∙ (ap (λ (a : PathAnswer). rounds replies ++ Entry (k + 1) ∷ Replied reply ∷ a ∷ []) three
        ∙ (ap (λ (j : ℕ). rounds replies ++ Entry j ∷ Replied reply ∷ Shown ∷ []) next ∙ sym (rounds-push 1 replies reply))))))

  never : (replies : List (List ℕ)) → AllByRecursion HasCodeZero replies → length replies ≤ length digits → IsPath sys t (rounds replies)
      → (path : List PathAnswer) → SuitsFrom sys t (rounds replies) path → sys.ask t (rounds replies ++ path) ≡ verb.Redo → ⊥
  never replies good few is_path [] suits redo =
      let accepts = runs.accepts replies good few in
      let asks : sys.ask t (rounds replies) ≡ verb.Redo = ap (sys.ask t) (sym (append-nil (rounds replies))) ∙ redo in
      absurd cc
  never replies good few is_path (first ∷ []) suits redo =
      let asks = (enters replies good few is_path first suits.0).asks in
      absurd cc
  never replies good few is_path (first ∷ second ∷ []) suits redo =
      let enter = enters replies good few is_path first suits.0 in
      let before : List PathAnswer = rounds replies ++ first ∷ [] in
      let asks : sys.ask t (before ++ second ∷ []) ≡ verb.Redo = ap (sys.ask t) (append_assoc (rounds replies) (first ∷ []) (second ∷ [])) ∙ redo in
      ⊎_elim
      (λ replied. no-redo-behind (code_in_reply replied.0)
      (sym (ap (λ (a : PathAnswer). sys.ask t (before ++ a ∷ [])) replied.1 ∙ behind-replied replies good few is_path first enter replied.0) ∙ asks))
      (λ failed.
      let faults = ap (λ (a : PathAnswer). sys.ask t (before ++ a ∷ [])) failed.1 ∙ behind-failed replies good few is_path first enter failed.0 in
      absurd (cc (faults, asks)))
      (reply-suits sys t before enter.message second (subst (λ (v : Verb). Suits sys t before v second) enter.asks suits.1.0))
  never replies good few is_path (first ∷ second ∷ third ∷ rest) suits redo =
      let enter = enters replies good few is_path first suits.0 in
      let before : List PathAnswer = rounds replies ++ first ∷ [] in
      let then : List PathAnswer = before ++ second ∷ [] in
      ⊎_elim
      (λ replied.
      let asks : sys.ask t then ≡ asked_behind (code_in_reply replied.0) = ap (λ (a : PathAnswer). sys.ask t (before ++ a ∷ [])) replied.1 ∙ behind-replied replies good few is_path first enter replied.0 in
      let shown = shown-suits sys t then (code_in_reply replied.0) third (subst (λ (v : Verb). Suits sys t then v third) asks suits.1.1.0) in
      let whole = whole-round replies good few is_path first second third replied.0 enter replied.1 shown.1 in
      let longer = IsPath-push sys t then third (IsPath-push sys t before second enter.path suits.1.0) suits.1.1.0 in
      never (replies ++ replied.0 ∷ []) (all-append HasCodeZero replies (replied.0 ∷ []) good (shown.0, tt))
      (omega (arith, enter.left, length-append replies (replied.0 ∷ [])))
      (subst (IsPath sys t) whole longer) rest
      (subst (λ (p : List PathAnswer). SuitsFrom sys t p rest) whole suits.1.1.1)
      (ap (λ (p : List PathAnswer). sys.ask t (p ++ rest)) (sym whole)
      ∙ (ap (sys.ask t) (append_assoc then (third ∷ []) rest ∙ (append_assoc before (second ∷ []) (third ∷ rest) ∙ append_assoc (rounds replies) (first ∷ []) (second ∷ third ∷ rest))) ∙ redo)))
      (λ failed.
      let faults : sys.ask t then ≡ verb.Fault failed.0 = ap (λ (a : PathAnswer). sys.ask t (before ++ a ∷ [])) failed.1 ∙ behind-failed replies good few is_path first enter failed.0 in
      absurd (subst (λ (v : Verb). Suits sys t then v third) faults suits.1.1.0))
      (reply-suits sys t before enter.message second (subst (λ (v : Verb). Suits sys t before v second) enter.asks suits.1.0))

  -- on any path
  pub never-redoes : (path : List PathAnswer) → IsPath sys t path → sys.ask t path ≡ verb.Redo → ⊥
  never-redoes path is_path redo = never [] tt (omega arith) (record { known = is_path.known; suits = tt }) path is_path.suits redo
