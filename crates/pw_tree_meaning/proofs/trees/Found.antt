-- How trees are put together: what follows what.
use Rattle.std.proofs.Common.{◌≡◌, ℕ, ◌+◌, ◌≤◌, Bool, true, false, List, [], ◌∷◌, length, if◌then◌else◌, refl, ap, ◌∙◌, subst, arith}
use Rattle.pw_code.specs.declared.verb.Verb.{Verb}
use Rattle.pw_code.specs.declared.verb.Verb.TheVariants as verb
use Rattle.pw_code.specs.declared.verb.Answer.{Answer}
use Rattle.std.specs.Prelude.{nat_lt}
use Rattle.std.proofs.lemmas.Bool.{ltb-true}
use Rattle.pw_tree_meaning.specs.Program.{DeckModel}
use Rattle.pw_tree_meaning.specs.State.{ProgramState, Out, Goes, Leaves, Asks, then_do, faults, statement_counted, most_counted, asked}
use Rattle.pw_tree_meaning.proofs.trees.Trees.{Tree, Here, Left, Stuck, Waits, Files, at, play, on_files, play_alone, Rules, InPlace, TakesNone, IsFileVerb, inside_after, count_after, Counts, EndsIn, FailsIn, IsAt, Obeys, Found, Behaves, Steps}

-- ---- lower counts

Counts-lowered : (v : Verb) (s : ProgramState) (c d : ℕ) → c ≤ d → Counts d v s → Counts c v s
Counts-lowered (verb.File call) s c d le ok = (omega (arith, le, ok.0), ok.1)
Counts-lowered _ s c d le ok = tt

at-lowered : (r : Rules) (c d : ℕ) (inside : Bool) (s : ProgramState) → c ≤ d → IsAt r d inside s → IsAt r c inside s
at-lowered r c d inside s le ok = record { counted = omega (arith, ok.counted, le); in_place = ok.in_place; fits = ok.fits }

pub lowered : (r : Rules) (t : Tree) (c d : ℕ) (inside : Bool) → c ≤ d → Obeys r d inside t → Obeys r c inside t
lowered r (Here s) c d inside le ok = at-lowered r c d inside s le ok
lowered r (Left s) c d inside le ok = at-lowered r c d inside s le ok
lowered r (Stuck v s) c d inside le ok = ok
lowered r (Waits v s next) c d inside le ok = (ok.0, ok.1, ok.2, Counts-lowered v s c d le ok.3, ok.4)

pub found-lowered : (r : Rules) (c d : ℕ) (inside : Bool) (run : List Answer → Files → Out) (alone : Files → Out)
    → c ≤ d → Found r d inside run alone → Found r c inside run alone
found-lowered r c d inside run alone le f = record {
  tree = f.tree;
  obeys = lowered r f.tree c d inside le f.obeys;
  plays = f.plays;
  serves = f.serves;
}

-- the same run in other words
pub found-same : (r : Rules) (c : ℕ) (inside : Bool) (run other : List Answer → Files → Out) (alone besides : Files → Out)
    → Found r c inside run alone
    → ((answers : List Answer) (files : Files) → other answers files ≡ run answers files)
    → ((files : Files) → besides files ≡ alone files)
    → Found r c inside other besides
found-same r c inside run other alone besides f same same_alone = record {
  tree = f.tree;
  obeys = f.obeys;
  plays = λ answers files le. same answers files ∙ f.plays answers files le;
  serves = λ is files. same_alone files ∙ f.serves is files;
}

-- by a test
pub found-by : (r : Rules) (c : ℕ) (inside : Bool) (test : Bool) (run other : List Answer → Files → Out) (alone besides : Files → Out)
    → Found r c inside run alone → Found r c inside other besides
    → Found r c inside (λ answers files. if test then run answers files else other answers files) (λ files. if test then alone files else besides files)
found-by r c inside true run other alone besides f g = f
found-by r c inside false run other alone besides f g = g

-- by a test whose outcome is known
pub found-test : (r : Rules) (c : ℕ) (inside : Bool) (test : Bool) (run other : List Answer → Files → Out) (alone besides : Files → Out)
    → (test ≡ true → Found r c inside run alone) → (test ≡ false → Found r c inside other besides)
    → Found r c inside (λ answers files. if test then run answers files else other answers files) (λ files. if test then alone files else besides files)
found-test r c inside true run other alone besides f g = f refl
found-test r c inside false run other alone besides f g = g refl

-- ---- trees without an answer

abbrev pub found-here : (r : Rules) (c : ℕ) (inside : Bool) (s : ProgramState) → IsAt r c inside s
    → Found r c inside (λ answers files. Goes (at answers files s)) (λ files. Goes (at [] files s))
found-here r c inside s ok = record { tree = Here s; obeys = ok; plays = λ answers files le. refl; serves = λ is files. refl }

pub found-left : (r : Rules) (c : ℕ) (inside : Bool) (s : ProgramState) → IsAt r c inside s
    → Found r c inside (λ answers files. Leaves (at answers files s)) (λ files. Leaves (at [] files s))
found-left r c inside s ok = record { tree = Left s; obeys = ok; plays = λ answers files le. refl; serves = λ is files. refl }

abbrev pub found-stuck : (r : Rules) (c : ℕ) (inside : Bool) (v : Verb) (s : ProgramState) → InPlace inside v → r.Right v → TakesNone v
    → Found r c inside (λ answers files. Asks v (at answers files s)) (λ files. Asks v (at [] files s))
found-stuck r c inside v s place right none = record { tree = Stuck v s; obeys = (place, right, none); plays = λ answers files le. refl; serves = λ is files. refl }

abbrev pub found-fault : (r : Rules) (c : ℕ) (inside : Bool) (x : ℕ) (s : ProgramState)
    → Found r c inside (λ answers files. faults x (at answers files s)) (λ files. faults x (at [] files s))
found-fault r c inside x s = found-stuck r c inside (verb.Fault x) s tt (r.right_fault x) tt

-- where a step goes on from a state of its own
pub IsAt-own : (r : Rules) (s : ProgramState) → r.Fits s.store → IsAt r s.count s.in_unit s
IsAt-own r s ok = record { counted = omega arith; in_place = refl; fits = ok }

-- ---- one more statement

pub counted-behaves : (r : Rules) (f g : ProgramState → Out) → Behaves r f g → Behaves r (statement_counted f) (statement_counted g)
counted-behaves r f g h s ok =
    found-by r s.count s.in_unit (nat_lt s.count most_counted) _ _ _ _
    (found-lowered r s.count (s.count + 1) s.in_unit _ _ (omega arith) (h (record s { count = s.count + 1 }) ok))
    (found-fault r s.count s.in_unit 201 s)

-- a step right behind its count
pub counted-steps : (r : Rules) (f g : ProgramState → Out) → Steps r f g → Behaves r (statement_counted f) (statement_counted g)
counted-steps r f g h s ok =
    found-test r s.count s.in_unit (nat_lt s.count most_counted) _ _ _ _
    (λ room. let lt = ltb-true s.count most_counted room in h (record s { count = s.count + 1 }) ok s.count (omega arith) (omega (arith, lt)))
    (λ full. found-fault r s.count s.in_unit 201 s)

-- ---- what follows a tree

-- by itself, a verb that is no operation on files ends the run
pub on_files-then : (deck : DeckModel) (v : Verb) (s : ProgramState) (k next : Answer → Files → Out) (h : ProgramState → Out)
    → (IsFileVerb v → (a : Answer) (files : Files) → then_do (k a files) h ≡ next a files)
    → (files : Files) → then_do (on_files deck v s k files) h ≡ on_files deck v s next files
on_files-then deck (verb.File call) s k next h same files = same tt _ _
on_files-then deck _ s k next h same files = refl

-- what follows a tree is a tree
pub record Then (r : Rules) (count : ℕ) (inside : Bool) (t : Tree) (next own : ProgramState → Out) : Type 0 where
  pub tree : Tree
  pub obeys : Obeys r count inside tree
  pub plays : (answers : List Answer) (files : Files) → length answers ≤ r.most
      → then_do (play t answers files) next ≡ play tree answers files
  pub serves : r.Alone → (files : Files) → then_do (play_alone r.deck t files) own ≡ play_alone r.deck tree files
  pub stays : (v : Verb) → EndsIn v t → EndsIn v tree

pub FailsIn-stays : (v : Verb) (next then_next : Answer → Tree) → ((a : Answer) (w : Verb) → EndsIn w (next a) → EndsIn w (then_next a))
    → FailsIn v next → FailsIn v then_next
FailsIn-stays (verb.Send class message) next then_next stays fails = λ x. stays _ _ (fails x)
FailsIn-stays _ next then_next stays fails = tt

then-waited : (r : Rules) (v : Verb) (s : ProgramState) (k : Answer → Tree) (then_k : Answer → Tree) (next : ProgramState → Out)
    → ((a : Answer) (answers : List Answer) (files : Files) → length answers ≤ r.most → then_do (play (k a) answers files) next ≡ play (then_k a) answers files)
    → (answers : List Answer) (files : Files) → length answers ≤ r.most
    → then_do (play (Waits v s k) answers files) next ≡ play (Waits v s then_k) answers files
then-waited r v s k then_k next same [] files le = refl
then-waited r v s k then_k next same (a ∷ answers) files le = same a answers files (omega (arith, le))

pub then-tree : (r : Rules) (count : ℕ) (inside : Bool) (t : Tree) (next own : ProgramState → Out)
    → Obeys r count inside t → Behaves r next own → Then r count inside t next own
then-tree r count inside (Here s) next own ok h =
    let f = h s ok.fits in
    record {
      tree = f.tree;
      obeys = lowered r f.tree count s.count inside ok.counted (let P : Bool → Type 0 = λ b. Obeys r s.count b f.tree in subst P ok.in_place f.obeys);
      plays = f.plays;
      serves = f.serves;
      stays = λ v e. absurd e;
    }
then-tree r count inside (Left s) next own ok h =
    record { tree = Left s; obeys = ok; plays = λ answers files le. refl; serves = λ is files. refl; stays = λ v e. absurd e }
then-tree r count inside (Stuck v s) next own ok h =
    record { tree = Stuck v s; obeys = ok; plays = λ answers files le. refl; serves = λ is files. refl; stays = λ w e. e }
then-tree r count inside (Waits v s k) next own ok h =
    let f : (a : Answer) → Then r (count_after v s) (inside_after v a inside) (k a) next own =
    λ a. then-tree r (count_after v s) (inside_after v a inside) (k a) next own (ok.4 a) h in
    record {
      tree = Waits v s (λ a. (f a).tree);
      obeys = (ok.0, ok.1, FailsIn-stays v k (λ a. (f a).tree) (λ a. (f a).stays) ok.2, ok.3, λ a. (f a).obeys);
      plays = then-waited r v s k (λ a. (f a).tree) next (λ a. (f a).plays);
      serves = λ is files. on_files-then r.deck v s (λ a rest. play_alone r.deck (k a) rest) (λ a rest. play_alone r.deck (f a).tree rest) own
          (λ file a rest. (f a).serves is rest) files;
      stays = λ w e. absurd e;
    }

pub then-found : (r : Rules) (count : ℕ) (inside : Bool) (run : List Answer → Files → Out) (alone : Files → Out) (next own : ProgramState → Out)
    → Found r count inside run alone → Behaves r next own
    → Found r count inside (λ answers files. then_do (run answers files) next) (λ files. then_do (alone files) own)
then-found r count inside run alone next own f h =
    let t = then-tree r count inside f.tree next own f.obeys h in
    record {
      tree = t.tree;
      obeys = t.obeys;
      plays = λ answers files le. ap (λ o. then_do o next) (f.plays answers files le) ∙ t.plays answers files le;
      serves = λ is files. ap (λ o. then_do o own) (f.serves is files) ∙ t.serves is files;
    }

pub then-behaves : (r : Rules) (f g next own : ProgramState → Out) → Behaves r f g → Behaves r next own
    → Behaves r (λ s. then_do (f s) next) (λ s. then_do (g s) own)
then-behaves r f g next own h k s ok = then-found r s.count s.in_unit _ _ next own (h s ok) k

-- ---- a verb with its answers

pub asked-plays : (r : Rules) (v : Verb) (s : ProgramState) (next : Answer → ProgramState → Out) (k : Answer → Tree)
    → ((a : Answer) (answers : List Answer) (files : Files) → length answers ≤ r.most
    → next a (at answers files (record s { count = 0 })) ≡ play (k a) answers files)
    → (answers : List Answer) (files : Files) → length answers ≤ r.most
    → asked v next answers (at answers files s) ≡ play (Waits v s k) answers files
asked-plays r v s next k same [] files le = refl
asked-plays r v s next k same (a ∷ answers) files le = same a answers files (omega (arith, le))

-- a verb of terminals is asked, and each of its answers goes on
abbrev pub asks-found : (r : Rules) (v : Verb) (s : ProgramState) (next own : Answer → ProgramState → Out)
    → InPlace s.in_unit v → r.Right v
    → ((k : Answer → Files → Out) (files : Files) → Asks v (at [] files s) ≡ on_files r.deck v s k files)
    → Counts s.count v s
    → (f : (a : Answer) → Found r (count_after v s) (inside_after v a s.in_unit)
    (λ answers files. next a (at answers files (record s { count = 0 }))) (λ files. own a (at [] files (record s { count = 0 }))))
    → FailsIn v (λ a. (f a).tree)
    → Found r s.count s.in_unit (λ answers files. asked v next answers (at answers files s)) (λ files. asked v own [] (at [] files s))
asks-found r v s next own place right plain counts f fails = record {
  tree = Waits v s (λ a. (f a).tree);
  obeys = (place, right, fails, counts, λ a. (f a).obeys);
  plays = asked-plays r v s next (λ a. (f a).tree) (λ a. (f a).plays);
  serves = λ is files. plain _ files;
}
