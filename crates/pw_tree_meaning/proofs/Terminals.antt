-- What a terminal's program asks along its path, where each of its statements is right.
use Rattle.std.proofs.Common.{◌≡◌, ℕ, ◌+◌, ◌≤◌, Bool, not, List, [], ◌∷◌, ◌++◌, length, map, Option, Some, None, is_none, refl, sym, ap, ◌∙◌, subst, arith}
use Rattle.std.proofs.lemmas.List.{length-append}
use Rattle.pw_code.specs.Entry.{EntryLineModel}
use Rattle.pw_code.specs.declared.verb.Verb.{Verb}
use Rattle.pw_code.specs.declared.verb.Verb.TheVariants as verb
use Rattle.pw_code.specs.declared.verb.Answer.TheVariants as answer
use Rattle.pw_onecopy.specs.Behaviour.{Behaviour}
use Rattle.pw_onecopy.specs.IsBehaviour.{Suits, SuitsFrom}
use Rattle.pw_onecopy.specs.Path.{PathAnswer, Standing, standing, standing_from, standing_at_start, standing_after_answer, standing_after_reply, is_outside}
use Rattle.pw_onecopy.specs.Path as path
use Rattle.pw_tree_meaning.specs.Runs.{told, verb_of}
use Rattle.pw_tree_meaning.proofs.trees.Trees.{Tree, Here, Left, Stuck, Waits, Files, play, Rules, InPlace, TakesNone, inside_after, count_after, EndsIn, FailsIn, Obeys}
use Rattle.pw_tree_meaning.proofs.trees.Finished.{closed}

-- ---- where a path stands

pub standing_from-append : (s : Standing) (before : List PathAnswer) (a : PathAnswer)
    → standing_from s (before ++ a ∷ []) ≡ standing_after_answer (standing_from s before) a
standing_from-append s [] a = refl
standing_from-append s (b ∷ before) a = standing_from-append (standing_after_answer s b) before a

reply-outside : (s : Standing) (within : Option ℕ) → s.within ≡ within → is_none (standing_after_reply s within).within ≡ is_none within
reply-outside s None e = refl
reply-outside s (Some r) e = ap is_none e

module _ (sys : Behaviour) (t : ℕ) (lines : List EntryLineModel) where
  -- whether a transaction is open behind an answer
  abbrev Opens : Standing → Bool → Verb → PathAnswer → Type 0
  Opens s inside v a = is_none (standing_after_answer s a).within ≡ not (inside_after v (told lines a) inside)

  opens : (before : List PathAnswer) (s : Standing) (v : Verb) (a : PathAnswer) (inside : Bool) → Suits sys t before v a
      → is_none s.within ≡ not inside → Opens s inside v a
  opens before s verb.Show path.Shown inside suits e = e
  opens before s (verb.Accept screen) (path.Entry k) inside suits e = e
  opens before s verb.Begin (path.Begun r) inside suits e = refl
  opens before s (verb.Send class message) (path.Replied reply) inside suits e = reply-outside s s.within refl ∙ e
  opens before s (verb.Send class message) (path.Failed code) inside suits e = e
  opens before s verb.End path.Ended inside suits e = refl
  opens before s verb.Drop path.Dropped inside suits e = refl
  opens before s v a inside suits e = absurd suits

  none-suits : (before : List PathAnswer) (v : Verb) (a : PathAnswer) → TakesNone v → Suits sys t before v a → ⊥
  none-suits before verb.Redo a none suits = suits
  none-suits before verb.Stop a none suits = suits
  none-suits before (verb.Fault x) a none suits = suits
  none-suits before (verb.Reply reply) a none suits = suits
  none-suits before _ a none suits = none

abbrev pub no_files : Files
no_files f = []

-- a tree that asks a verb and takes no answer
EndsIn-asks : (v : Verb) (tree : Tree) → EndsIn v tree → verb_of (play tree [] no_files) ≡ v
EndsIn-asks v (Here s) e = absurd e
EndsIn-asks v (Left s) e = absurd e
EndsIn-asks v (Stuck own s) e = e
EndsIn-asks v (Waits own s next) e = absurd e

module _ (sys : Behaviour) (t : ℕ) (lines : List EntryLineModel) (r : Rules) where
  -- behind a path the program is a tree, which says what it asks behind each longer path of at most so many answers
  pub record Reached (before : List PathAnswer) : Type 0 where
    pub tree : Tree
    pub count : ℕ
    pub inside : Bool
    pub obeys : Obeys (closed r) count inside tree
    pub outside : is_outside before ≡ not inside
    pub asks : (rest : List PathAnswer) → length (before ++ rest) ≤ r.most
        → sys.ask t (before ++ rest) ≡ verb_of (play tree (map (told lines) rest) no_files)

  -- what it asks at once
  asks-now : (before : List PathAnswer) (g : Reached before) → length before ≤ r.most
      → sys.ask t before ≡ verb_of (play g.tree [] no_files)
  asks-now before g le =
      ap (sys.ask t) (sym (append_nil before)) ∙ g.asks [] (subst (λ n. n ≤ r.most) (ap length (sym (append_nil before))) le)
    where
      append_nil : (xs : List PathAnswer) → xs ++ [] ≡ xs
      append_nil [] = refl
      append_nil (x ∷ xs) = ap (λ ys. x ∷ ys) (append_nil xs)

  step-by : (before : List PathAnswer) (a : PathAnswer) (tree : Tree) (count : ℕ) (inside : Bool)
      → Obeys (closed r) count inside tree → is_outside before ≡ not inside
      → ((rest : List PathAnswer) → length (before ++ rest) ≤ r.most → sys.ask t (before ++ rest) ≡ verb_of (play tree (map (told lines) rest) no_files))
      → sys.ask t before ≡ verb_of (play tree [] no_files)
      → Suits sys t before (sys.ask t before) a → Reached (before ++ a ∷ [])
  step-by before a (Here s) count inside ok outside asks now suits = absurd ok.fits
  step-by before a (Left s) count inside ok outside asks now suits = absurd ok.fits
  step-by before a (Stuck v s) count inside ok outside asks now suits =
      absurd (none-suits sys t lines before v a ok.2 (let P : Verb → Type 0 = λ w. Suits sys t before w a in subst P now suits))
  step-by before a (Waits v s next) count inside ok outside asks now suits = record {
    tree = next (told lines a);
    count = count_after v s;
    inside = inside_after v (told lines a) inside;
    obeys = ok.4 (told lines a);
    outside =
        ap (λ s. is_none s.within) (standing_from-append standing_at_start before a)
        ∙ opens sys t lines before (standing before) v a inside (let P : Verb → Type 0 = λ w. Suits sys t before w a in subst P now suits) outside;
    asks = λ rest le.
        ap (sys.ask t) (append_one before a rest)
        ∙ asks (a ∷ rest) (let P : List PathAnswer → Type 0 = λ xs. length xs ≤ r.most in subst P (append_one before a rest) le);
  }
    where
      append_one : (xs : List PathAnswer) (x : PathAnswer) (ys : List PathAnswer) → (xs ++ x ∷ []) ++ ys ≡ xs ++ x ∷ ys
      append_one [] x ys = refl
      append_one (y ∷ xs) x ys = ap (λ zs. y ∷ zs) (append_one xs x ys)

  pub reach : (before rest : List PathAnswer) → Reached before → SuitsFrom sys t before rest → length (before ++ rest) ≤ r.most → Reached (before ++ rest)
  reach before [] g suits le = subst Reached (sym (append_nil before)) g
    where
      append_nil : (xs : List PathAnswer) → xs ++ [] ≡ xs
      append_nil [] = refl
      append_nil (x ∷ xs) = ap (λ ys. x ∷ ys) (append_nil xs)
  reach before (a ∷ rest) g suits le =
      let g2 = step-by before a g.tree g.count g.inside g.obeys g.outside g.asks (asks-now before g (omega (arith, le, length-append before (a ∷ rest)))) suits.0 in
      subst Reached (append_one before a rest)
      (reach (before ++ a ∷ []) rest g2 suits.1 (let P : List PathAnswer → Type 0 = λ xs. length xs ≤ r.most in subst P (sym (append_one before a rest)) le))
    where
      append_one : (xs : List PathAnswer) (x : PathAnswer) (ys : List PathAnswer) → (xs ++ x ∷ []) ++ ys ≡ xs ++ x ∷ ys
      append_one [] x ys = refl
      append_one (y ∷ xs) x ys = ap (λ zs. y ∷ zs) (append_one xs x ys)

  -- ---- what it asks behind a path

  pub record Asked (before : List PathAnswer) : Type 0 where
    pub inside : Bool
    pub outside : is_outside before ≡ not inside
    pub place : InPlace inside (sys.ask t before)
    pub right : r.Right (sys.ask t before)

  asked-by : (before : List PathAnswer) (tree : Tree) (count : ℕ) (inside : Bool) → Obeys (closed r) count inside tree → is_outside before ≡ not inside
      → sys.ask t before ≡ verb_of (play tree [] no_files) → Asked before
  asked-by before (Here s) count inside ok outside now = absurd ok.fits
  asked-by before (Left s) count inside ok outside now = absurd ok.fits
  asked-by before (Stuck v s) count inside ok outside now = record {
    inside = inside;
    outside = outside;
    place = (let P : Verb → Type 0 = λ w. InPlace inside w in subst P (sym now) ok.0);
    right = subst r.Right (sym now) ok.1;
  }
  asked-by before (Waits v s next) count inside ok outside now = record {
    inside = inside;
    outside = outside;
    place = (let P : Verb → Type 0 = λ w. InPlace inside w in subst P (sym now) ok.0);
    right = subst r.Right (sym now) ok.1;
  }

  pub asked-at : (before : List PathAnswer) → Reached before → length before ≤ r.most → Asked before
  asked-at before g le = asked-by before g.tree g.count g.inside g.obeys g.outside (asks-now before g le)

  -- ---- behind a server's run fault

  no_send : (v : Verb) (c : ℕ) (message : List ℕ) → TakesNone v → v ≡ verb.Send c message → ⊥
  no_send v c message none e = let P : Verb → Type 0 = TakesNone in subst P e none

  failed-by : (before : List PathAnswer) (c x : ℕ) (message : List ℕ) (tree : Tree) (count : ℕ) (inside : Bool) → Obeys (closed r) count inside tree
      → ((rest : List PathAnswer) → length (before ++ rest) ≤ r.most → sys.ask t (before ++ rest) ≡ verb_of (play tree (map (told lines) rest) no_files))
      → sys.ask t before ≡ verb_of (play tree [] no_files) → sys.ask t before ≡ verb.Send c message → length before + 1 ≤ r.most
      → sys.ask t (before ++ path.Failed x ∷ []) ≡ verb.Fault x
  failed-by before c x message (Here s) count inside ok asks now sent le = absurd ok.fits
  failed-by before c x message (Left s) count inside ok asks now sent le = absurd ok.fits
  failed-by before c x message (Stuck v s) count inside ok asks now sent le = absurd (no_send v c message ok.2 (sym now ∙ sent))
  failed-by before c x message (Waits v s next) count inside ok asks now sent le =
      let P : Verb → Type 0 = λ w. FailsIn w next in
      let fails : (y : ℕ) → EndsIn (verb.Fault y) (next (answer.Failed y)) = subst P (sym now ∙ sent) ok.2 in
      asks (path.Failed x ∷ []) (omega (arith, le, length-append before (path.Failed x ∷ [])))
      ∙ EndsIn-asks (verb.Fault x) (next (answer.Failed x)) (fails x)

  pub failed-at : (before : List PathAnswer) (c x : ℕ) (message : List ℕ) → Reached before → sys.ask t before ≡ verb.Send c message → length before + 1 ≤ r.most
      → sys.ask t (before ++ path.Failed x ∷ []) ≡ verb.Fault x
  failed-at before c x message g sent le =
      failed-by before c x message g.tree g.count g.inside g.obeys g.asks (asks-now before g (omega (arith, le))) sent le
