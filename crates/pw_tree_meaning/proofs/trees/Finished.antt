-- What follows a program, be it at its end or left.
use Rattle.std.proofs.Common.{◌≡◌, ℕ, ◌≤◌, Bool, List, [], ◌∷◌, length, refl, ap, ◌∙◌, subst, arith}
use Rattle.pw_code.specs.declared.verb.Verb.{Verb}
use Rattle.pw_code.specs.declared.verb.Verb.TheVariants as verb
use Rattle.pw_code.specs.declared.verb.Answer.{Answer}
use Rattle.pw_tree_meaning.specs.Program.{Program}
use Rattle.pw_tree_meaning.specs.Setting.{Setting}
use Rattle.pw_tree_meaning.specs.Store.{Store, Spot, put_at}
use Rattle.pw_tree_meaning.specs.State.{ProgramState, Out, Goes, Leaves, Asks}
use Rattle.pw_tree_meaning.specs.Performs.{caller_state, comes_back}
use Rattle.pw_tree_meaning.specs.Sends.{stop}
use Rattle.pw_tree_meaning.specs.Runs.{program_ended}
use Rattle.pw_tree_meaning.proofs.trees.Trees.{Tree, Here, Left, Stuck, Waits, Files, at, play, on_files, play_alone, Rules, inside_after, count_after, EndsIn, IsAt, Obeys, Found}
use Rattle.pw_tree_meaning.proofs.trees.Found.{lowered, FailsIn-stays}

-- what follows where a program has ended or was left
abbrev pub finished : (ProgramState → Out) → Out → Out
finished next (Goes s) = next s
finished next (Leaves s) = next s
finished next (Asks v s) = Asks v s

pub comes_back-finished : (callee : Program) (places : List Spot) (store : Store) (o : Out)
    → comes_back callee places store o ≡ finished (λ s. Goes (caller_state callee places store s)) o
comes_back-finished callee places store (Goes s) = refl
comes_back-finished callee places store (Leaves s) = refl
comes_back-finished callee places store (Asks v s) = refl

pub ended-finished : (setting : Setting) (o : Out) → program_ended setting o ≡ finished (stop setting) o
ended-finished setting (Goes s) = refl
ended-finished setting (Leaves s) = refl
ended-finished setting (Asks v s) = refl

-- by itself, a verb that is no operation on files ends the run
finished-files : (r : Rules) (v : Verb) (s : ProgramState) (k then_k : Answer → Files → Out) (next : ProgramState → Out)
    → ((a : Answer) (files : Files) → finished next (k a files) ≡ then_k a files)
    → (files : Files) → finished next (on_files r.deck v s k files) ≡ on_files r.deck v s then_k files
finished-files r (verb.File call) s k then_k next same files = same _ _
finished-files r _ s k then_k next same files = refl

finished-waited : (r : Rules) (v : Verb) (s : ProgramState) (k then_k : Answer → Tree) (next : ProgramState → Out)
    → ((a : Answer) (answers : List Answer) (files : Files) → length answers ≤ r.most → finished next (play (k a) answers files) ≡ play (then_k a) answers files)
    → (answers : List Answer) (files : Files) → length answers ≤ r.most
    → finished next (play (Waits v s k) answers files) ≡ play (Waits v s then_k) answers files
finished-waited r v s k then_k next same [] files le = refl
finished-waited r v s k then_k next same (a ∷ answers) files le = same a answers files (omega (arith, le))

-- the rules with other stores
abbrev pub fitting : (r : Rules) (Fits : Store → Type 0) → ((spot : Spot) (chars : List ℕ) (store : Store) → Fits store → Fits (put_at spot chars store)) → Rules
fitting r Fits kept = record { deck = r.deck; most = r.most; Alone = r.Alone; Fits = Fits; Right = r.Right; right_fault = r.right_fault; kept = kept }

-- the rules where no program goes on
abbrev pub closed : Rules → Rules
closed r = fitting r (λ store. ⊥) (λ spot chars store no. no)

module _ (r : Rules) (Fits : Store → Type 0) (kept : (spot : Spot) (chars : List ℕ) (store : Store) → Fits store → Fits (put_at spot chars store))
    (next own : ProgramState → Out)
    (h : (s : ProgramState) → r.Fits s.store
    → Found (fitting r Fits kept) s.count s.in_unit (λ answers files. next (at answers files s)) (λ files. own (at [] files s))) where
  record Finish (count : ℕ) (inside : Bool) (t : Tree) : Type 0 where
    pub tree : Tree
    pub obeys : Obeys (fitting r Fits kept) count inside tree
    pub plays : (answers : List Answer) (files : Files) → length answers ≤ r.most
        → finished next (play t answers files) ≡ play tree answers files
    pub serves : r.Alone → (files : Files) → finished own (play_alone r.deck t files) ≡ play_alone r.deck tree files
    pub stays : (v : Verb) → EndsIn v t → EndsIn v tree

  at-end : (count : ℕ) (inside : Bool) (s : ProgramState) → IsAt r count inside s
      → (f : Found (fitting r Fits kept) s.count s.in_unit (λ answers files. next (at answers files s)) (λ files. own (at [] files s)))
      → Obeys (fitting r Fits kept) count inside f.tree
  at-end count inside s ok f =
      lowered (fitting r Fits kept) f.tree count s.count inside ok.counted
      (let P : Bool → Type 0 = λ b. Obeys (fitting r Fits kept) s.count b f.tree in subst P ok.in_place f.obeys)

  finish : (count : ℕ) (inside : Bool) (t : Tree) → Obeys r count inside t → Finish count inside t
  finish count inside (Here s) ok =
      let f = h s ok.fits in
      record { tree = f.tree; obeys = at-end count inside s ok f; plays = f.plays; serves = f.serves; stays = λ v e. absurd e }
  finish count inside (Left s) ok =
      let f = h s ok.fits in
      record { tree = f.tree; obeys = at-end count inside s ok f; plays = f.plays; serves = f.serves; stays = λ v e. absurd e }
  finish count inside (Stuck v s) ok =
      record { tree = Stuck v s; obeys = ok; plays = λ answers files le. refl; serves = λ is files. refl; stays = λ w e. e }
  finish count inside (Waits v s k) ok =
      let f : (a : Answer) → Finish (count_after v s) (inside_after v a inside) (k a) =
      λ a. finish (count_after v s) (inside_after v a inside) (k a) (ok.4 a) in
      record {
        tree = Waits v s (λ a. (f a).tree);
        obeys = (ok.0, ok.1, FailsIn-stays v k (λ a. (f a).tree) (λ a. (f a).stays) ok.2, ok.3, λ a. (f a).obeys);
        plays = finished-waited r v s k (λ a. (f a).tree) next (λ a. (f a).plays);
        serves = λ is files. finished-files r v s (λ a rest. play_alone r.deck (k a) rest) (λ a rest. play_alone r.deck (f a).tree rest) own
            (λ a rest. (f a).serves is rest) files;
        stays = λ w e. absurd e;
      }

  pub finished-found : (count : ℕ) (inside : Bool) (run : List Answer → Files → Out) (alone : Files → Out)
      → Found r count inside run alone
      → Found (fitting r Fits kept) count inside (λ answers files. finished next (run answers files)) (λ files. finished own (alone files))
  finished-found count inside run alone f =
      let t = finish count inside f.tree f.obeys in
      record {
        tree = t.tree;
        obeys = t.obeys;
        plays = λ answers files le. ap (finished next) (f.plays answers files le) ∙ t.plays answers files le;
        serves = λ is files. ap (finished own) (f.serves is files) ∙ t.serves is files;
      }
