-- What holds of the requesters of every deck.
use Rattle.std.proofs.Common.{◌≡◌, ℕ, zero, suc, ◌+◌, ◌<◌, ◌≤◌, Bool, true, false, not, List, [], ◌∷◌, ◌++◌, length, map, slice_get, Some, refl, sym, ap, ◌∙◌, subst, arith}
use Rattle.std.proofs.lemmas.List.{length-map}
use Rattle.pw_code.specs.declared.lock.LockRule.{LockRule}
use Rattle.pw_code.specs.declared.system.TermInfo.{TermInfo}
use Rattle.pw_code.specs.declared.verb.Verb.{Verb}
use Rattle.pw_code.specs.declared.verb.Verb.TheVariants as verb
use Rattle.pw_onecopy.specs.IsBehaviour.{IsPath}
use Rattle.pw_onecopy.specs.Path.{PathAnswer, is_outside}
use Rattle.pw_onecopy.specs.Path as path
use Rattle.pw_tree_meaning.specs.Program.{DeckModel, program_at, first_screen}
use Rattle.pw_tree_meaning.specs.Runs.{told, verb_of, start, most_calls}
use Rattle.pw_tree_meaning.specs.OfDeck.{ask, asked_by, behaviour}
use Rattle.pw_tree_meaning.specs.Restarts.{NeverRestarts}
use Rattle.pw_tree_meaning.proofs.trees.Trees.{Rules, InPlace}
use Rattle.pw_tree_meaning.proofs.trees.Programs.{SuitedAll, requester-found}
use Rattle.pw_tree_meaning.proofs.trees.Suited.{IsNoRedo, each-suited, each-fine, never-restarts}
use Rattle.pw_tree_meaning.proofs.Terminals.{no_files, Reached, reach, Asked, asked-at, failed-at}

-- of requesters with at most so many answers, where each verb is right that is
abbrev pub requester_rules : DeckModel → ℕ → (Right : Verb → Type 0) → ((x : ℕ) → Right (verb.Fault x)) → Rules
requester_rules deck most Right right_fault = record {
  deck = deck;
  most = most;
  Alone = ⊥;
  Fits = λ store. Unit {0};
  Right = Right;
  right_fault = right_fault;
  kept = λ spot chars store fits. tt;
}

module _ (rule : LockRule) (deck : DeckModel) (Right : Verb → Type 0) (right_fault : (x : ℕ) → Right (verb.Fault x)) (right_stop : Right verb.Stop)
    (all : (most q : ℕ) → SuitedAll (requester_rules deck most Right right_fault) (program_at deck.programs q) (first_screen deck.programs q) false [] (program_at deck.programs q).paragraphs) where
  -- a terminal of the deck at its start
  at-start : (t most : ℕ) (terminal : TermInfo) → slice_get deck.terminals t ≡ Some terminal
      → Reached (behaviour rule deck) t terminal.entries (requester_rules deck most Right right_fault) []
  at-start t most terminal found =
      let r = requester_rules deck most Right right_fault in
      let q = terminal.program in
      let f = requester-found r (λ none. none) (λ store. tt) (all most) q most_calls (start (program_at deck.programs q) []) right_stop in
      record {
        tree = f.tree;
        count = 0;
        inside = false;
        obeys = f.obeys;
        outside = refl;
        asks = λ rest le.
            ap (λ o. asked_by deck o rest) found
            ∙ ap verb_of (f.plays (map (told terminal.entries) rest) no_files (subst (λ n. n ≤ most) (sym (length-map rest (told terminal.entries))) le));
      }

  known-terminal : (terminals : List TermInfo) (t : ℕ) → t < length terminals → (terminal : TermInfo) × (slice_get terminals t ≡ Some terminal)
  known-terminal [] t lt = absurd (omega (arith, lt))
  known-terminal (terminal ∷ rest) zero lt = (terminal, refl)
  known-terminal (terminal ∷ rest) (suc t) lt = known-terminal rest t (omega (arith, lt))

  -- a path of a terminal
  pub at-path : (t : ℕ) (before : List PathAnswer) → IsPath (behaviour rule deck) t before
      → (terminal : TermInfo) × Reached (behaviour rule deck) t terminal.entries (requester_rules deck (length before + 1) Right right_fault) before
  at-path t before is =
      let k = known-terminal deck.terminals t is.known in (
        k.0,
        reach (behaviour rule deck) t k.0.entries (requester_rules deck (length before + 1) Right right_fault) [] before
            (at-start t (length before + 1) k.0 k.1) is.suits (omega arith),
      )

  pub asked : (t : ℕ) (before : List PathAnswer) → IsPath (behaviour rule deck) t before
      → (terminal : TermInfo) × Asked (behaviour rule deck) t terminal.entries (requester_rules deck (length before + 1) Right right_fault) before
  asked t before is =
      let g = at-path t before is in
      (g.0, asked-at (behaviour rule deck) t g.0.entries (requester_rules deck (length before + 1) Right right_fault) before g.1 (omega arith))

  -- what it asks is right
  pub asks-right : (t : ℕ) (before : List PathAnswer) → IsPath (behaviour rule deck) t before → Right (ask deck t before)
  asks-right t before is = (asked t before is).1.right

  -- and comes at its place
  pub is-outside : (t : ℕ) (before : List PathAnswer) (v : Verb) → IsPath (behaviour rule deck) t before → ask deck t before ≡ v
      → (inside : Bool) × (is_outside before ≡ not inside) × InPlace inside v
  is-outside t before v is e =
      let a = (asked t before is).1 in
      (a.inside, a.outside, (let P : Verb → Type 0 = λ w. InPlace a.inside w in subst P e a.place))

  pub fails : (t c x : ℕ) (message : List ℕ) (before : List PathAnswer) → IsPath (behaviour rule deck) t before
      → ask deck t before ≡ verb.Send c message → ask deck t (before ++ path.Failed x ∷ []) ≡ verb.Fault x
  fails t c x message before is e =
      let g = at-path t before is in
      failed-at (behaviour rule deck) t g.0.entries (requester_rules deck (length before + 1) Right right_fault) before c x message g.1 e (omega arith)

-- ---- of every deck

module _ (rule : LockRule) (deck : DeckModel) where
  abbrev AnyRight : Verb → Type 0
  AnyRight v = Unit {0}

  all-fine : (most q : ℕ) → SuitedAll (requester_rules deck most AnyRight (λ x. tt)) (program_at deck.programs q) (first_screen deck.programs q) false [] (program_at deck.programs q).paragraphs
  all-fine most q = each-fine (requester_rules deck most AnyRight (λ x. tt)) (λ v. tt) (program_at deck.programs q) (first_screen deck.programs q) false [] (program_at deck.programs q).paragraphs

  in-place : (t : ℕ) (before : List PathAnswer) (v : Verb) → IsPath (behaviour rule deck) t before → ask deck t before ≡ v
      → (inside : Bool) × (is_outside before ≡ not inside) × InPlace inside v
  in-place = is-outside rule deck AnyRight (λ x. tt) tt all-fine

  pub deck-begins : (t : ℕ) (before : List PathAnswer) → IsPath (behaviour rule deck) t before → ask deck t before ≡ verb.Begin → is_outside before ≡ true
  deck-begins t before is e = let a = in-place t before verb.Begin is e in a.1 ∙ ap not a.2

  pub deck-stops : (t : ℕ) (before : List PathAnswer) → IsPath (behaviour rule deck) t before → ask deck t before ≡ verb.Stop → is_outside before ≡ true
  deck-stops t before is e = let a = in-place t before verb.Stop is e in a.1 ∙ ap not a.2

  pub deck-ends : (t : ℕ) (before : List PathAnswer) → IsPath (behaviour rule deck) t before → ask deck t before ≡ verb.End → is_outside before ≡ false
  deck-ends t before is e = let a = in-place t before verb.End is e in a.1 ∙ ap not a.2

  pub deck-drops : (t : ℕ) (before : List PathAnswer) → IsPath (behaviour rule deck) t before → ask deck t before ≡ verb.Drop → is_outside before ≡ false
  deck-drops t before is e = let a = in-place t before verb.Drop is e in a.1 ∙ ap not a.2

  pub deck-redoes : (t : ℕ) (before : List PathAnswer) → IsPath (behaviour rule deck) t before → ask deck t before ≡ verb.Redo → is_outside before ≡ false
  deck-redoes t before is e = let a = in-place t before verb.Redo is e in a.1 ∙ ap not a.2

  pub deck-fails : (t c x : ℕ) (message : List ℕ) (before : List PathAnswer) → IsPath (behaviour rule deck) t before
      → ask deck t before ≡ verb.Send c message → ask deck t (before ++ path.Failed x ∷ []) ≡ verb.Fault x
  deck-fails = fails rule deck AnyRight (λ x. tt) tt all-fine

  all-free : NeverRestarts deck.programs → (most q : ℕ)
      → SuitedAll (requester_rules deck most IsNoRedo (λ x. tt)) (program_at deck.programs q) (first_screen deck.programs q) false [] (program_at deck.programs q).paragraphs
  all-free free most q =
      each-suited (requester_rules deck most IsNoRedo (λ x. tt)) (λ v no_redo. no_redo) (program_at deck.programs q) (first_screen deck.programs q) false []
      (program_at deck.programs q).paragraphs (never-restarts deck.programs q free)

  -- without RESTART-TRANSACTION it is never asked
  pub deck-never-redoes : NeverRestarts deck.programs → (t : ℕ) (before : List PathAnswer) → IsPath (behaviour rule deck) t before → ask deck t before ≡ verb.Redo → ⊥
  deck-never-redoes free t before is e =
      subst IsNoRedo e (asks-right rule deck IsNoRedo (λ x. tt) tt (all-free free) t before is)
