-- ACCEPT: entries are taken until one is right.
use Rattle.std.proofs.Common.{◌≡◌, ℕ, zero, suc, ◌≤◌, Bool, List, [], ◌∷◌, length, find, Option, Some, None, refl, subst, arith}
use Rattle.pw_code.specs.Entry.{EntryLineModel}
use Rattle.pw_code.specs.declared.field.Field.{Field}
use Rattle.pw_code.specs.declared.field.FieldKind.{FieldKind}
use Rattle.pw_code.specs.declared.field.FieldKind.TheVariants as field
use Rattle.pw_code.specs.declared.field.ScreenTable.{ScreenTable}
use Rattle.pw_code.specs.declared.verb.Verb.TheVariants as verb
use Rattle.pw_code.specs.declared.verb.Answer.{Answer}
use Rattle.pw_code.specs.declared.verb.Answer.TheVariants as answer
use Rattle.pw_picture.specs.Grammar.{size_of}
use Rattle.pw_terminal.specs.Entries.{is_entry_field, check, with_advice}
use Rattle.pw_terminal.specs.declared.entries.EntryAnswer.{EntryAnswer}
use Rattle.pw_terminal.specs.declared.entries.EntryAnswer.TheVariants.{Valid, BadKey, BadField}
use Rattle.pw_tree_meaning.specs.Store.{Store}
use Rattle.pw_tree_meaning.specs.State.{ProgramState, Out, Asks}
use Rattle.pw_tree_meaning.specs.Screens.{entered_chars, entered_in, entered_by, store_entered, entry_checked, entry_taken, awaited, advised}
use Rattle.pw_tree_meaning.proofs.trees.Trees.{Tree, Here, Stuck, Waits, Files, at, play, play_alone, Rules, Obeys, Found}

module _ (r : Rules) where
  Fits-entered_in : (kind : FieldKind) (value : List ℕ) (store : Store) → r.Fits store → r.Fits (entered_in kind value store)
  Fits-entered_in (field.Literal text) value store ok = ok
  Fits-entered_in (field.Item picture place source show) value store ok =
      r.kept (record { at = place; size = size_of source; picture = Some source }) (entered_chars source value) store ok

  Fits-entered_by : (found : Option Field) (value : List ℕ) (store : Store) → r.Fits store → r.Fits (entered_by found value store)
  Fits-entered_by None value store ok = ok
  Fits-entered_by (Some found) value store ok = Fits-entered_in found.shown value store ok

  Fits-entered : (fields : List Field) (pairs : List (List ℕ × List ℕ)) (store : Store) → r.Fits store → r.Fits (store_entered fields pairs store)
  Fits-entered fields [] store ok = ok
  Fits-entered fields (pair ∷ pairs) store ok =
      Fits-entered fields pairs _ (Fits-entered_by (find (is_entry_field pair.0) fields) pair.1 store ok)

  module _ (table : ScreenTable) (keys : List ℕ) (number : ℕ) where
    -- what an entry leads to, where wrong is what follows a wrong one
    abbrev checked_tree : EntryLineModel → EntryAnswer → (ProgramState → Tree) → ProgramState → Tree
    checked_tree line (Valid position) wrong s =
        Here (record s { store = store_entered table.fields line.fields s.store; registers = record s.registers { termination = position } })
    checked_tree line BadKey wrong s = wrong (record s { screen = with_advice BadKey line s.screen })
    checked_tree line (BadField place) wrong s = wrong (record s { screen = with_advice (BadField place) line s.screen })

    abbrev entry_tree : Answer → (ProgramState → Tree) → ProgramState → Tree
    entry_tree (answer.Entry line) wrong s = checked_tree line (check table keys line) wrong s
    entry_tree _ wrong s = Here s

    -- so many answers are looked at
    abbrev awaiting : ℕ → ProgramState → Tree
    awaiting zero s = Waits (verb.Accept number) s (λ a. Stuck (verb.Fault 201) s)
    awaiting (suc n) s =
        Waits (verb.Accept number) s (λ a.
        entry_tree a (λ t. Waits verb.Show t (λ b. awaiting n (record t { count = 0 }))) (record s { count = 0 }))

    checked_tree-obeys : (line : EntryLineModel) (found : EntryAnswer) (wrong : ProgramState → Tree) (s : ProgramState) → r.Fits s.store
        → ((t : ProgramState) → r.Fits t.store → t.in_unit ≡ s.in_unit → Obeys r 0 s.in_unit (wrong t))
        → Obeys r 0 s.in_unit (checked_tree line found wrong s)
    checked_tree-obeys line (Valid position) wrong s ok h = record { counted = omega arith; in_place = refl; fits = Fits-entered table.fields line.fields s.store ok }
    checked_tree-obeys line BadKey wrong s ok h = h _ ok refl
    checked_tree-obeys line (BadField place) wrong s ok h = h _ ok refl

    entry_tree-obeys : (a : Answer) (wrong : ProgramState → Tree) (s : ProgramState) → r.Fits s.store
        → ((t : ProgramState) → r.Fits t.store → t.in_unit ≡ s.in_unit → Obeys r 0 s.in_unit (wrong t))
        → Obeys r 0 s.in_unit (entry_tree a wrong s)
    entry_tree-obeys (answer.Entry line) wrong s ok h = checked_tree-obeys line (check table keys line) wrong s ok h
    entry_tree-obeys _ wrong s ok h = record { counted = omega arith; in_place = refl; fits = ok }

    checked_tree-plays : (line : EntryLineModel) (found : EntryAnswer) (wrong : ProgramState → Out) (tree : ProgramState → Tree) (s : ProgramState) (answers : List Answer) (files : Files)
        → ((t : ProgramState) → wrong (at answers files t) ≡ play (tree t) answers files)
        → entry_checked table line found wrong (at answers files s) ≡ play (checked_tree line found tree s) answers files
    checked_tree-plays line (Valid position) wrong tree s answers files h = refl
    checked_tree-plays line BadKey wrong tree s answers files h = h _
    checked_tree-plays line (BadField place) wrong tree s answers files h = h _

    entry_tree-plays : (a : Answer) (wrong : ProgramState → Out) (tree : ProgramState → Tree) (s : ProgramState) (answers : List Answer) (files : Files)
        → ((t : ProgramState) → wrong (at answers files t) ≡ play (tree t) answers files)
        → entry_taken table keys a wrong (at answers files s) ≡ play (entry_tree a tree s) answers files
    entry_tree-plays (answer.Entry line) wrong tree s answers files h = checked_tree-plays line (check table keys line) wrong tree s answers files h
    entry_tree-plays _ wrong tree s answers files h = refl

    module _ (right_accept : r.Right (verb.Accept number)) (right_show : r.Right verb.Show) where
      awaiting-obeys : (n c : ℕ) (s : ProgramState) → r.Fits s.store → (inside : Bool) → s.in_unit ≡ inside → Obeys r c inside (awaiting n s)
      awaiting-obeys zero c s ok inside e = (tt, right_accept, tt, tt, λ a. (tt, r.right_fault 201, tt))
      awaiting-obeys (suc n) c s ok inside e = (
        tt,
        right_accept,
        tt,
        tt,
        λ a.
            let P : Bool → Type 0 = λ b. Obeys r 0 b (entry_tree a (λ t. Waits verb.Show t (λ b. awaiting n (record t { count = 0 }))) (record s { count = 0 })) in
            subst P e (entry_tree-obeys a (λ t. Waits verb.Show t (λ b. awaiting n (record t { count = 0 }))) (record s { count = 0 }) ok
            (λ t fits same. (tt, right_show, tt, tt, λ b. awaiting-obeys n 0 (record t { count = 0 }) fits s.in_unit same))),
      )

      advised-plays : (n : ℕ) (files : Files)
          → ((t : ProgramState) (rest : List Answer) → length rest ≤ n → awaited table keys (verb.Accept number) rest (at rest files t) ≡ play (awaiting n t) rest files)
          → (t : ProgramState) (answers : List Answer) → length answers ≤ n
          → advised table keys (verb.Accept number) answers (at answers files t) ≡ play (Waits verb.Show t (λ b. awaiting n (record t { count = 0 }))) answers files
      advised-plays n files h t [] le = refl
      advised-plays n files h t (a ∷ answers) le = h (record t { count = 0 }) answers (omega (arith, le))

      awaiting-plays : (n : ℕ) (s : ProgramState) (answers : List Answer) (files : Files) → length answers ≤ n
          → awaited table keys (verb.Accept number) answers (at answers files s) ≡ play (awaiting n s) answers files
      awaiting-plays zero s [] files le = refl
      awaiting-plays zero s (a ∷ answers) files le = absurd (omega (arith, le))
      awaiting-plays (suc n) s [] files le = refl
      awaiting-plays (suc n) s (a ∷ answers) files le =
          entry_tree-plays a (advised table keys (verb.Accept number) answers) (λ t. Waits verb.Show t (λ b. awaiting n (record t { count = 0 })))
          (record s { count = 0 }) answers files
          (λ t. advised-plays n files (λ u rest short. awaiting-plays n u rest files short) t answers (omega (arith, le)))

      awaiting-serves : (n : ℕ) (s : ProgramState) (files : Files) → Asks (verb.Accept number) (at [] files s) ≡ play_alone r.deck (awaiting n s) files
      awaiting-serves zero s files = refl
      awaiting-serves (suc n) s files = refl

      pub found-awaited : (s : ProgramState) → r.Fits s.store
          → Found r s.count s.in_unit (λ answers files. awaited table keys (verb.Accept number) answers (at answers files s))
          (λ files. awaited table keys (verb.Accept number) [] (at [] files s))
      found-awaited s ok = record {
        tree = awaiting r.most s;
        obeys = awaiting-obeys r.most s.count s ok s.in_unit refl;
        plays = λ answers files le. awaiting-plays r.most s answers files le;
        serves = λ is files. awaiting-serves r.most s files;
      }
