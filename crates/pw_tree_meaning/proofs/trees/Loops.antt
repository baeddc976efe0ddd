-- The turns of a PERFORM, whose budget is never used up.
use Rattle.std.proofs.Common.{◌≡◌, ℕ, zero, suc, ◌+◌, ◌-◌, ◌*◌, ◌<◌, ◌≤◌, Bool, true, false, List, [], ◌∷◌, length, if◌then◌else◌, Option, Some, None, refl, ap, ◌∙◌, subst, arith}
use Rattle.std.specs.Prelude.{nat_lt}
use Rattle.std.proofs.lemmas.Bool.{ltb-true, ltb-false, lt-ltb, le-ltb}
use Rattle.pw_code.specs.declared.verb.Verb.{Verb}
use Rattle.pw_code.specs.declared.verb.Verb.TheVariants as verb
use Rattle.pw_code.specs.declared.verb.Answer.{Answer}
use Rattle.pw_tree_meaning.specs.State.{ProgramState, Out, Goes, then_do, faults, statement_counted, most_counted}
use Rattle.pw_tree_meaning.specs.Performs.{turns, tested, turns_until, budget}
use Rattle.pw_tree_meaning.proofs.trees.Trees.{Tree, Here, Left, Stuck, Waits, Files, at, play, play_alone, Rules, IsFileVerb, inside_after, count_after, Counts, EndsIn, Obeys, Found, Behaves}
use Rattle.pw_tree_meaning.proofs.trees.Found.{lowered, found-here, found-fault, IsAt-own, counted-behaves, then-behaves, on_files-then, FailsIn-stays}

-- ---- TIMES

pub turns-behave : (r : Rules) (n : ℕ) (turn own : ProgramState → Out) → Behaves r turn own → Behaves r (turns n turn) (turns n own)
turns-behave r zero turn own h s ok = found-here r s.count s.in_unit s (IsAt-own r s ok)
turns-behave r (suc n) turn own h s ok =
    then-behaves r (statement_counted turn) (statement_counted own) (turns n turn) (turns n own) (counted-behaves r turn own h) (turns-behave r n turn own h) s ok

-- ---- UNTIL

-- what a server by itself may still count
abbrev pub left_alone : ProgramState → ℕ
left_alone s = most_counted - s.count

count_after-file : (v : Verb) (s : ProgramState) (c : ℕ) → IsFileVerb v → Counts c v s → c ≤ count_after v s
count_after-file (verb.File call) s c file ok = omega (arith, ok.0)
count_after-file _ s c file ok = absurd file

module _ (r : Rules) (turn own : ProgramState → Out) (done done_alone : ProgramState → Option Bool)
    (same : (s : ProgramState) (answers : List Answer) (files : Files) → done (at answers files s) ≡ done s)
    (same_alone : (s : ProgramState) (files : Files) → done_alone (at [] files s) ≡ done s) where
  -- turns until a condition holds, where so many can be counted at most, are a tree
  pub record Until (most : ℕ) (s : ProgramState) : Type 0 where
    pub tree : Tree
    pub obeys : Obeys r s.count s.in_unit tree
    pub plays : (m : ℕ) (answers : List Answer) (files : Files) → length answers ≤ r.most
        → budget (at answers files s) ≤ most → budget (at answers files s) ≤ m
        → turns_until m done turn (at answers files s) ≡ play tree answers files
    pub serves : (m : ℕ) → r.Alone → (files : Files) → left_alone s ≤ most → left_alone s ≤ m
        → turns_until m done_alone own (at [] files s) ≡ play_alone r.deck tree files

  -- the turns behind a tree
  record More (most count : ℕ) (inside : Bool) (t : Tree) : Type 0 where
    pub tree : Tree
    pub obeys : Obeys r count inside tree
    pub plays : (m : ℕ) (answers : List Answer) (files : Files) → length answers ≤ r.most
        → most_counted - count + most_counted * length answers ≤ most
        → most_counted - count + most_counted * length answers ≤ m
        → then_do (play t answers files) (turns_until m done turn) ≡ play tree answers files
    pub serves : (m : ℕ) → r.Alone → (files : Files) → most_counted - count ≤ most → most_counted - count ≤ m
        → then_do (play_alone r.deck t files) (turns_until m done_alone own) ≡ play_alone r.deck tree files
    pub stays : (v : Verb) → EndsIn v t → EndsIn v tree

  more-waited : (most count : ℕ) (v : Verb) (s : ProgramState) (k then_k : Answer → Tree)
      → ((a : Answer) (m : ℕ) (answers : List Answer) (files : Files) → length answers ≤ r.most
      → most_counted - count_after v s + most_counted * length answers ≤ most
      → most_counted - count_after v s + most_counted * length answers ≤ m
      → then_do (play (k a) answers files) (turns_until m done turn) ≡ play (then_k a) answers files)
      → (m : ℕ) (answers : List Answer) (files : Files) → length answers ≤ r.most
      → most_counted - count + most_counted * length answers ≤ most
      → most_counted - count + most_counted * length answers ≤ m
      → then_do (play (Waits v s k) answers files) (turns_until m done turn) ≡ play (Waits v s then_k) answers files
  more-waited most count v s k then_k h m [] files le small enough = refl
  more-waited most count v s k then_k h m (a ∷ answers) files le small enough =
      h a m answers files (omega (arith, le)) (omega (arith, small)) (omega (arith, enough))

  more : (most count : ℕ) (inside : Bool) (t : Tree) → Obeys r count inside t
      → ((s : ProgramState) → r.Fits s.store → Until most s) → More most count inside t
  more most count inside (Here s) ok rec =
      let u = rec s ok.fits in
      let le : count ≤ s.count = ok.counted in
      record {
        tree = u.tree;
        obeys = lowered r u.tree count s.count inside ok.counted (let P : Bool → Type 0 = λ b. Obeys r s.count b u.tree in subst P ok.in_place u.obeys);
        plays = λ m answers files short small enough. u.plays m answers files short (omega (arith, small, le)) (omega (arith, enough, le));
        serves = λ m is files small enough. u.serves m is files (omega (arith, small, le)) (omega (arith, enough, le));
        stays = λ v e. absurd e;
      }
  more most count inside (Left s) ok rec =
      record { tree = Left s; obeys = ok; plays = λ m answers files a b c. refl; serves = λ m is files a b. refl; stays = λ v e. absurd e }
  more most count inside (Stuck v s) ok rec =
      record { tree = Stuck v s; obeys = ok; plays = λ m answers files a b c. refl; serves = λ m is files a b. refl; stays = λ w e. e }
  more most count inside (Waits v s k) ok rec =
      let f : (a : Answer) → More most (count_after v s) (inside_after v a inside) (k a) =
      λ a. more most (count_after v s) (inside_after v a inside) (k a) (ok.4 a) rec in
      record {
        tree = Waits v s (λ a. (f a).tree);
        obeys = (ok.0, ok.1, FailsIn-stays v k (λ a. (f a).tree) (λ a. (f a).stays) ok.2, ok.3, λ a. (f a).obeys);
        plays = more-waited most count v s k (λ a. (f a).tree) (λ a. (f a).plays);
        serves = λ m is files small enough. on_files-then r.deck v s (λ a rest. play_alone r.deck (k a) rest)
            (λ a rest. play_alone r.deck (f a).tree rest) (turns_until m done_alone own)
            (λ file a rest. (f a).serves m is rest
            (omega (arith, small, count_after-file v s count file ok.3)) (omega (arith, enough, count_after-file v s count file ok.3))) files;
        stays = λ w e. absurd e;
      }

  full-test : (n : ℕ) → most_counted ≤ n → nat_lt n most_counted ≡ false
  full-test n le = le-ltb _ _ le

  room-test : (n : ℕ) → n < most_counted → nat_lt n most_counted ≡ true
  room-test n lt = lt-ltb _ _ lt

  -- the test decides, or no turn can be counted
  outside_range : (m : ℕ) (s : ProgramState) (f : ProgramState → Out) (d : ProgramState → Option Bool) → d s ≡ None → turns_until m d f s ≡ faults 203 s
  outside_range zero s f d e = ap (λ o. tested o (faults 201) s) e
  outside_range (suc m) s f d e = ap (λ o. tested o (λ t. then_do (statement_counted f t) (turns_until m d f)) s) e

  is_done : (m : ℕ) (s : ProgramState) (f : ProgramState → Out) (d : ProgramState → Option Bool) → d s ≡ Some true → turns_until m d f s ≡ Goes s
  is_done zero s f d e = ap (λ o. tested o (faults 201) s) e
  is_done (suc m) s f d e = ap (λ o. tested o (λ t. then_do (statement_counted f t) (turns_until m d f)) s) e

  no_turn : (m : ℕ) (s : ProgramState) (f : ProgramState → Out) (d : ProgramState → Option Bool) → most_counted ≤ s.count → d s ≡ Some false
      → turns_until m d f s ≡ faults 201 s
  no_turn zero s f d full e = ap (λ o. tested o (faults 201) s) e
  no_turn (suc m) s f d full e =
      ap (λ o. tested o (λ t. then_do (statement_counted f t) (turns_until m d f)) s) e
      ∙ ap (λ b. then_do (if b then f (record s { count = s.count + 1 }) else faults 201 s) (turns_until m d f)) (full-test s.count full)

  one_turn : (m : ℕ) (s : ProgramState) (f : ProgramState → Out) (d : ProgramState → Option Bool) → s.count < most_counted → d s ≡ Some false
      → turns_until (suc m) d f s ≡ then_do (f (record s { count = s.count + 1 })) (turns_until m d f)
  one_turn m s f d room e =
      ap (λ o. tested o (λ t. then_do (statement_counted f t) (turns_until m d f)) s) e
      ∙ ap (λ b. then_do (if b then f (record s { count = s.count + 1 }) else faults 201 s) (turns_until m d f)) (room-test s.count room)

  until-outside : (most : ℕ) (s : ProgramState) → done s ≡ None → Until most s
  until-outside most s e =
      let f = found-fault r s.count s.in_unit 203 s in
      record {
        tree = f.tree;
        obeys = f.obeys;
        plays = λ m answers files a b c. outside_range m (at answers files s) turn done (same s answers files ∙ e);
        serves = λ m is files a b. outside_range m (at [] files s) own done_alone (same_alone s files ∙ e);
      }

  until-done : (most : ℕ) (s : ProgramState) → r.Fits s.store → done s ≡ Some true → Until most s
  until-done most s ok e =
      let f = found-here r s.count s.in_unit s (IsAt-own r s ok) in
      record {
        tree = f.tree;
        obeys = f.obeys;
        plays = λ m answers files a b c. is_done m (at answers files s) turn done (same s answers files ∙ e);
        serves = λ m is files a b. is_done m (at [] files s) own done_alone (same_alone s files ∙ e);
      }

  until-full : (most : ℕ) (s : ProgramState) → most_counted ≤ s.count → done s ≡ Some false → Until most s
  until-full most s full e =
      let f = found-fault r s.count s.in_unit 201 s in
      record {
        tree = f.tree;
        obeys = f.obeys;
        plays = λ m answers files a b c. no_turn m (at answers files s) turn done full (same s answers files ∙ e);
        serves = λ m is files a b. no_turn m (at [] files s) own done_alone full (same_alone s files ∙ e);
      }

  -- nothing can be counted any more
  until-last : (s : ProgramState) → r.Fits s.store → (o : Option Bool) → done s ≡ o → Until 0 s
  until-last s ok None e = until-outside 0 s e
  until-last s ok (Some true) e = until-done 0 s ok e
  until-last s ok (Some false) e =
      let f = found-fault r s.count s.in_unit 201 s in
      record {
        tree = f.tree;
        obeys = f.obeys;
        plays = λ m answers files a small c. no_turn m (at answers files s) turn done (omega (arith, small)) (same s answers files ∙ e);
        serves = λ m is files small b. no_turn m (at [] files s) own done_alone (omega (arith, small)) (same_alone s files ∙ e);
      }

  module _ (turn-behaves : Behaves r turn own) where
    turn-plays : (most : ℕ) (s : ProgramState) (room : s.count < most_counted) (not_yet : done s ≡ Some false)
        (f : Found r (s.count + 1) s.in_unit (λ answers files. turn (at answers files (record s { count = s.count + 1 })))
        (λ files. own (at [] files (record s { count = s.count + 1 }))))
        (rest : More most (s.count + 1) s.in_unit f.tree)
        (m : ℕ) (answers : List Answer) (files : Files) → length answers ≤ r.most
        → budget (at answers files s) ≤ suc most → budget (at answers files s) ≤ m
        → turns_until m done turn (at answers files s) ≡ play rest.tree answers files
    turn-plays most s room not_yet f rest zero answers files short small enough = absurd (omega (arith, room, enough))
    turn-plays most s room not_yet f rest (suc m) answers files short small enough =
        one_turn m (at answers files s) turn done room (same s answers files ∙ not_yet)
        ∙ ap (λ o. then_do o (turns_until m done turn)) (f.plays answers files short)
        ∙ rest.plays m answers files short (omega (arith, small, room)) (omega (arith, enough, room))

    turn-serves : (most : ℕ) (s : ProgramState) (room : s.count < most_counted) (not_yet : done s ≡ Some false)
        (f : Found r (s.count + 1) s.in_unit (λ answers files. turn (at answers files (record s { count = s.count + 1 })))
        (λ files. own (at [] files (record s { count = s.count + 1 }))))
        (rest : More most (s.count + 1) s.in_unit f.tree)
        (m : ℕ) → r.Alone → (files : Files) → left_alone s ≤ suc most → left_alone s ≤ m
        → turns_until m done_alone own (at [] files s) ≡ play_alone r.deck rest.tree files
    turn-serves most s room not_yet f rest zero is files small enough = absurd (omega (arith, room, enough))
    turn-serves most s room not_yet f rest (suc m) is files small enough =
        one_turn m (at [] files s) own done_alone room (same_alone s files ∙ not_yet)
        ∙ ap (λ o. then_do o (turns_until m done_alone own)) (f.serves is files)
        ∙ rest.serves m is files (omega (arith, small, room)) (omega (arith, enough, room))

    until-turn : (most : ℕ) (s : ProgramState) → r.Fits s.store → s.count < most_counted → done s ≡ Some false
        → ((t : ProgramState) → r.Fits t.store → Until most t) → Until (suc most) s
    until-turn most s ok room not_yet rec =
        let f = turn-behaves (record s { count = s.count + 1 }) ok in
        let rest = more most (s.count + 1) s.in_unit f.tree f.obeys rec in
        record {
          tree = rest.tree;
          obeys = lowered r rest.tree s.count (s.count + 1) s.in_unit (omega arith) rest.obeys;
          plays = turn-plays most s room not_yet f rest;
          serves = turn-serves most s room not_yet f rest;
        }

    until-more : (most : ℕ) (s : ProgramState) → r.Fits s.store → (o : Option Bool) → done s ≡ o → (b : Bool) → nat_lt s.count most_counted ≡ b
        → ((t : ProgramState) → r.Fits t.store → Until most t) → Until (suc most) s
    until-more most s ok None e b t rec = until-outside (suc most) s e
    until-more most s ok (Some true) e b t rec = until-done (suc most) s ok e
    until-more most s ok (Some false) e true t rec = until-turn most s ok (ltb-true _ _ t) e rec
    until-more most s ok (Some false) e false t rec = until-full (suc most) s (ltb-false _ _ t) e

    pub until : (most : ℕ) (s : ProgramState) → r.Fits s.store → Until most s
    until zero s ok = until-last s ok (done s) refl
    until (suc most) s ok = until-more most s ok (done s) refl (nat_lt s.count most_counted) refl (λ t fits. until most t fits)

    -- with as many turns as the budget has
    pub until-behaves : Behaves r (λ s. turns_until (budget s) done turn s) (λ s. turns_until (budget s) done_alone own s)
    until-behaves s ok =
        let u = until (most_counted + most_counted * r.most) s ok in
        record {
          tree = u.tree;
          obeys = u.obeys;
          plays = λ answers files le. u.plays (budget (at answers files s)) answers files le (omega (arith, le)) (omega arith);
          serves = λ is files. u.serves (budget (at [] files s)) is files (omega arith) (omega arith);
        }
