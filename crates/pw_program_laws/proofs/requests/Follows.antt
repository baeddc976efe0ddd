-- A program along a path: what it asks before each answer, and the requests of its open transaction.
use Rattle.std.proofs.Common.{◌≡◌, ℕ, ◌≤◌, Bool, true, false, List, [], ◌∷◌, length, map, subst, arith}
use Rattle.pw_code.specs.Entry.{EntryLineModel}
use Rattle.pw_code.specs.declared.verb.Verb.{Verb}
use Rattle.pw_code.specs.declared.verb.Verb.TheVariants as verb
use Rattle.pw_invariants.specs.Requests.{RepliedRequest}
use Rattle.pw_onecopy.specs.Path.{PathAnswer, Shown, Entry, Begun, Replied, Failed, Ended, Dropped}
use Rattle.pw_program_laws.specs.Requests.{AloneMeets, sent_behind}
use Rattle.pw_tree_meaning.specs.Runs.{told, verb_of}
use Rattle.pw_tree_meaning.specs.State.{ProgramState, Out}

-- whether a transaction is open behind an answer
abbrev pub open_after : PathAnswer → Bool → Bool
open_after (Begun r) inside = true
open_after Ended inside = false
open_after Dropped inside = false
open_after _ inside = inside

-- the requests behind a reply to a verb
abbrev pub sent_by : Verb → List ℕ → Bool → List RepliedRequest → List RepliedRequest
sent_by (verb.Send c message) reply inside sent = sent_behind inside sent (record { class = c; message = message; reply = reply })
sent_by _ reply inside sent = sent

-- the requests of the open transaction behind an answer to a verb
abbrev pub sent_after : PathAnswer → Verb → Bool → List RepliedRequest → List RepliedRequest
sent_after (Replied reply) v inside sent = sent_by v reply inside sent
sent_after (Begun r) v inside sent = []
sent_after Ended v inside sent = []
sent_after Dropped v inside sent = []
sent_after _ v inside sent = sent

-- the answer is one to the verb
abbrev pub Answers : Verb → PathAnswer → Type 0
Answers verb.Show Shown = Unit {0}
Answers (verb.Accept screen) (Entry k) = Unit {0}
Answers verb.Begin (Begun r) = Unit {0}
Answers (verb.Send c message) (Replied reply) = Unit {0}
Answers (verb.Send c message) (Failed code) = Unit {0}
Answers verb.End Ended = Unit {0}
Answers verb.Drop Dropped = Unit {0}
Answers _ _ = ⊥

-- a state with the answers of a path to come
abbrev pub answered : List EntryLineModel → List PathAnswer → ProgramState → ProgramState
answered lines path s = record s { answers = map (told lines) path }

module _ (holds : List RepliedRequest → Type 0) where
  -- the fact holds of the requests of a unit that an answer commits
  abbrev pub Commits : Verb → PathAnswer → Bool → List RepliedRequest → Type 0
  Commits verb.End Ended inside sent = holds sent
  Commits (verb.Send c message) (Replied reply) inside sent = AloneMeets holds inside (record { class = c; message = message; reply = reply })
  Commits _ _ inside sent = Unit {0}

  -- it does so along a path
  abbrev pub Follows : Bool → List RepliedRequest → (List PathAnswer → Out) → List PathAnswer → Type 0
  Follows inside sent run [] = Unit {0}
  Follows inside sent run (a ∷ path) =
      Answers (verb_of (run [])) a
      → Commits (verb_of (run [])) a inside sent
      × Follows (open_after a inside) (sent_after a (verb_of (run [])) inside sent) (λ rest. run (a ∷ rest)) path

  -- the same run in other words
  pub follows-same : (inside : Bool) (sent : List RepliedRequest) (f g : List PathAnswer → Out) (path : List PathAnswer)
      → ((rest : List PathAnswer) → length rest ≤ length path → f rest ≡ g rest) → Follows inside sent f path → Follows inside sent g path
  follows-same inside sent f g [] same now = tt
  follows-same inside sent f g (a ∷ path) same now =
      let P : Out → Type 0 = λ out.
      Answers (verb_of out) a → Commits (verb_of out) a inside sent × Follows (open_after a inside) (sent_after a (verb_of out) inside sent) (λ rest. g (a ∷ rest)) path in
      let tail : P (f []) = λ fits. (
        (now fits).0,
        follows-same (open_after a inside) (sent_after a (verb_of (f [])) inside sent) (λ rest. f (a ∷ rest)) (λ rest. g (a ∷ rest)) path
            (λ rest le. same (a ∷ rest) (omega (arith, le))) (now fits).1,
      ) in
      subst P (same [] (omega arith)) tail

  -- a verb that takes no answer
  pub follows-none : (inside : Bool) (sent : List RepliedRequest) (run : List PathAnswer → Out) (path : List PathAnswer)
      → ((a : PathAnswer) → Answers (verb_of (run [])) a → ⊥) → Follows inside sent run path
  follows-none inside sent run [] none = tt
  follows-none inside sent run (a ∷ path) none = λ fits. absurd (none a fits)

  module _ (lines : List EntryLineModel) (most : ℕ) where
    -- it does so along each path from a state
    abbrev pub Safe : Bool → List RepliedRequest → ProgramState → (ProgramState → Out) → Type 0
    Safe inside sent s run = (path : List PathAnswer) → length path ≤ most → Follows inside sent (λ rest. run (answered lines rest s)) path
