-- What a server asks, and that its operations add up to what it comes to by itself, where each of its statements is right.
use Rattle.std.proofs.Common.{◌≡◌, ℕ, suc, ◌+◌, ◌≤◌, Bool, true, false, List, [], ◌∷◌, ◌++◌, length, map, slice_get, Some, refl, sym, ap, ◌∙◌, subst, arith}
use Rattle.std.proofs.lemmas.List.{length-append, length-map, append-nil, append_assoc}
use Rattle.pw_code.specs.declared.file.FileCall.{FileCall}
use Rattle.pw_code.specs.declared.lock.LockRule.{LockRule}
use Rattle.pw_code.specs.declared.system.ClassInfo.{ClassInfo}
use Rattle.pw_code.specs.declared.verb.Verb.{Verb}
use Rattle.pw_code.specs.declared.verb.Verb.TheVariants as verb
use Rattle.pw_code.specs.declared.verb.Answer.{Answer}
use Rattle.pw_onecopy.specs.Behaviour.{Behaviour, Served}
use Rattle.pw_onecopy.specs.Behaviour as served
use Rattle.pw_onecopy.specs.IsBehaviour.{ComesTo, AddsUp}
use Rattle.pw_onecopy.specs.Operation.{answer_of, records_behind}
use Rattle.pw_onecopy.specs.Path.{FileResult}
use Rattle.pw_onecopy.specs.Play.{Play, play_operation, play_after}
use Rattle.pw_onecopy.specs.Update.{upd}
use Rattle.pw_tree_meaning.specs.Program.{DeckModel, program_at, key_length}
use Rattle.pw_tree_meaning.specs.Store.{Store, Spot, put_at, initial_store}
use Rattle.pw_tree_meaning.specs.State.{ProgramState, Asks, faults, most_counted}
use Rattle.pw_tree_meaning.specs.Runs.{start, verb_of, file_told, server_setting, server_run, served_by}
use Rattle.pw_tree_meaning.specs.OfDeck.{ops, ops_by, serve_by, behaviour}
use Rattle.pw_tree_meaning.proofs.trees.Trees.{Tree, Here, Left, Stuck, Waits, Files, at, play, play_alone, Rules, TakesNone, Obeys, Found}
use Rattle.pw_tree_meaning.proofs.trees.Finished.{closed}
use Rattle.pw_tree_meaning.proofs.trees.Programs.{SuitedAll, program-behaves, ended-found, no-calls}

abbrev pub no_files : Files
no_files f = []

-- what a server may ask
abbrev pub ServerRight : (FileCall → Type 0) → Verb → Type 0
ServerRight CallRight (verb.File call) = CallRight call
ServerRight CallRight (verb.Reply reply) = Unit {0}
ServerRight CallRight (verb.Fault x) = Unit {0}
ServerRight CallRight _ = ⊥

-- of servers with at most so many answers, also by themselves
abbrev pub server_rules : DeckModel → ℕ → (FileCall → Type 0) → (Fits : Store → Type 0)
    → ((spot : Spot) (chars : List ℕ) (store : Store) → Fits store → Fits (put_at spot chars store)) → Rules
server_rules deck most CallRight Fits kept = record {
  deck = deck;
  most = most;
  Alone = Unit {0};
  Fits = Fits;
  Right = ServerRight CallRight;
  right_fault = λ x. tt;
  kept = kept;
}

-- a server from its start
pub server-found : (r : Rules) (q : ℕ) (message : List ℕ) (s : ProgramState)
    → SuitedAll r (program_at r.deck.servers q) 0 true message (program_at r.deck.servers q).paragraphs → r.Fits s.store
    → Found (closed r) s.count s.in_unit
    (λ answers files. server_run (server_setting r.deck q message false) (at answers files s))
    (λ files. server_run (server_setting r.deck q message true) (at [] files s))
server-found r q message s all ok =
    ended-found r (program_at r.deck.servers q) 0 true message (λ e. absurd cc) s.count s.in_unit _ _
    (program-behaves r (program_at r.deck.servers q) 0 true message all (λ p given t. faults 202 t) (λ p given t. faults 202 t)
    (no-calls r (program_at r.deck.servers q) 0 true message) s ok)

-- whatever it is answered, what it asks is right
play-right : (r : Rules) (t : Tree) (count : ℕ) (inside : Bool) → Obeys (closed r) count inside t → (answers : List Answer)
    → r.Right (verb_of (play t answers no_files))
play-right r (Here s) count inside ok answers = absurd ok.fits
play-right r (Left s) count inside ok answers = absurd ok.fits
play-right r (Stuck v s) count inside ok answers = ok.1
play-right r (Waits v s next) count inside ok [] = ok.1
play-right r (Waits v s next) count inside ok (a ∷ answers) = play-right r (next a) _ _ (ok.4 a) answers

-- ---- the operations add up

module _ (rule : LockRule) (deck : DeckModel) (CallRight : FileCall → Type 0) (c : ℕ) (message : List ℕ) (files : Files) where
  abbrev sys : Behaviour
  sys = behaviour rule deck

  -- the server's last verb
  last-verb : (n : ℕ) (done : List FileResult) (now : Files) (v : Verb) → ServerRight CallRight v → ((call : FileCall) → v ≡ verb.File call → ⊥)
      → play_after sys c message files n ≡ record { files = now; done = done }
      → sys.ops c message done ≡ v → (s : ProgramState) → sys.serve c message files ≡ served_by (Asks v (at [] now s))
      → AddsUp sys c message files
  last-verb n done now (verb.Reply reply) right no_file after asks s serves = record {
    operations = n;
    comes =
        let P : Play → Type 0 = λ p. ComesTo (sys.serve c message files) (sys.ops c message p.done) p.files in
        let Q : Served → Type 0 = λ x. ComesTo x (sys.ops c message done) now in
        let R : Verb → Type 0 = λ x. ComesTo (served.Reply reply now) x now in
        subst P (sym after) (subst Q (sym serves) (subst R (sym asks) (refl, refl)));
  }
  last-verb n done now (verb.Fault x) right no_file after asks s serves = record {
    operations = n;
    comes =
        let P : Play → Type 0 = λ p. ComesTo (sys.serve c message files) (sys.ops c message p.done) p.files in
        let Q : Served → Type 0 = λ x. ComesTo x (sys.ops c message done) now in
        let R : Verb → Type 0 = λ y. ComesTo (served.Fault x) y now in
        subst P (sym after) (subst Q (sym serves) (subst R (sym asks) refl));
  }
  last-verb n done now (verb.File call) right no_file after asks s serves = absurd (no_file call refl)
  last-verb n done now _ right no_file after asks s serves = absurd right

  module _ (Fits : Store → Type 0) (kept : (spot : Spot) (chars : List ℕ) (store : Store) → Fits store → Fits (put_at spot chars store)) where
    abbrev r : Rules
    r = server_rules deck most_counted CallRight Fits kept

    -- without a further answer
    asks-now : (t : Tree) (done : List FileResult) → length done ≤ most_counted
        → ((rest : List FileResult) → length (done ++ rest) ≤ most_counted → sys.ops c message (done ++ rest) ≡ verb_of (play t (map file_told rest) no_files))
        → sys.ops c message done ≡ verb_of (play t [] no_files)
    asks-now t done most asks =
        ap (sys.ops c message) (sym (append-nil done))
        ∙ asks [] (let P : List FileResult → Type 0 = λ xs. length xs ≤ most_counted in subst P (sym (append-nil done)) most)

    no-file : (v : Verb) → TakesNone v → (call : FileCall) → v ≡ verb.File call → ⊥
    no-file v none call e = subst TakesNone e none

    -- one operation more
    one-more : (call : FileCall) (n : ℕ) (done : List FileResult) (now : Files)
        → play_after sys c message files n ≡ record { files = now; done = done } → sys.ops c message done ≡ verb.File call
        → play_after sys c message files (suc n) ≡ record {
          files = upd now call.file (records_behind (key_length deck call.file) (now call.file) call);
          done = done ++ answer_of (key_length deck call.file) (now call.file) call.op call ∷ [];
        }
    one-more call n done now after asks =
        ap (λ p. play_operation sys (sys.ops c message p.done) p) after
        ∙ ap (λ v. play_operation sys v (record { files = now; done = done })) asks

    adds-up : (t : Tree) (count : ℕ) (inside : Bool) → Obeys (closed r) count inside t
        → (n : ℕ) (done : List FileResult) (now : Files) → play_after sys c message files n ≡ record { files = now; done = done }
        → length done ≤ count → length done ≤ most_counted
        → ((rest : List FileResult) → length (done ++ rest) ≤ most_counted → sys.ops c message (done ++ rest) ≡ verb_of (play t (map file_told rest) no_files))
        → sys.serve c message files ≡ served_by (play_alone deck t now)
        → AddsUp sys c message files
    adds-up (Here s) count inside ok n done now after few most asks serves = absurd ok.fits
    adds-up (Left s) count inside ok n done now after few most asks serves = absurd ok.fits
    adds-up (Stuck v s) count inside ok n done now after few most asks serves =
        last-verb n done now v ok.1 (no-file v ok.2) after (asks-now (Stuck v s) done most asks) s serves
    adds-up (Waits (verb.File call) s next) count inside ok n done now after few most asks serves =
        let found : FileResult = answer_of (key_length deck call.file) (now call.file) call.op call in
        let long : length (done ++ found ∷ []) ≡ length done + 1 = length-append done (found ∷ []) in
        adds-up (next (file_told found)) s.count inside (ok.4 (file_told found)) (suc n) (done ++ found ∷ [])
        (upd now call.file (records_behind (key_length deck call.file) (now call.file) call))
        (one-more call n done now after (asks-now (Waits (verb.File call) s next) done most asks))
        (omega (arith, few, ok.3.0, long)) (omega (arith, few, ok.3.0, ok.3.1, long))
        (λ rest le.
        let same : (done ++ found ∷ []) ++ rest ≡ done ++ found ∷ rest = append_assoc done (found ∷ []) rest in
        ap (sys.ops c message) same
        ∙ asks (found ∷ rest) (let P : List FileResult → Type 0 = λ xs. length xs ≤ most_counted in subst P same le))
        serves
    adds-up (Waits v s next) count inside ok n done now after few most asks serves =
        last-verb n done now v ok.1 (λ call e. absurd cc) after (asks-now (Waits v s next) done most asks) s serves

-- of a class that is there
module _ (rule : LockRule) (deck : DeckModel) (CallRight : FileCall → Type 0) (Fits : Store → Type 0)
    (kept : (spot : Spot) (chars : List ℕ) (store : Store) → Fits store → Fits (put_at spot chars store))
    (c : ℕ) (class : ClassInfo) (there : slice_get deck.classes c ≡ Some class) (message : List ℕ)
    (all : (most : ℕ) → SuitedAll (server_rules deck most CallRight Fits kept) (program_at deck.servers class.server) 0 true message (program_at deck.servers class.server).paragraphs)
    (fits : Fits (initial_store (program_at deck.servers class.server))) where
  found-of : (most : ℕ) → Found (closed (server_rules deck most CallRight Fits kept)) 0 false
      (λ answers files. server_run (server_setting deck class.server message false) (at answers files (start (program_at deck.servers class.server) [])))
      (λ files. server_run (server_setting deck class.server message true) (at [] files (start (program_at deck.servers class.server) [])))
  found-of most = server-found (server_rules deck most CallRight Fits kept) class.server message (start (program_at deck.servers class.server) []) (all most) fits

  asks-played : (most : ℕ) (done : List FileResult) → length done ≤ most
      → ops deck c message done ≡ verb_of (play (found-of most).tree (map file_told done) no_files)
  asks-played most done le =
      ap (λ o. ops_by deck o message done) there
      ∙ ap verb_of ((found-of most).plays (map file_told done) no_files (subst (λ n. n ≤ most) (sym (length-map done file_told)) le))

  -- what it asks is right
  pub ops-right : (done : List FileResult) → ServerRight CallRight (ops deck c message done)
  ops-right done =
      let f = found-of (length done) in
      let P : Verb → Type 0 = ServerRight CallRight in
      subst P (sym (asks-played (length done) done (omega arith)))
      (play-right (server_rules deck (length done) CallRight Fits kept) f.tree 0 false f.obeys (map file_told done))

  pub ops-add-up : (files : Files) → AddsUp (behaviour rule deck) c message files
  ops-add-up files =
      let f = found-of most_counted in
      adds-up rule deck CallRight c message files Fits kept f.tree 0 false f.obeys 0 [] files refl (omega arith) (omega arith)
      (λ rest le. asks-played most_counted rest le)
      (ap (λ o. serve_by deck o message files) there ∙ ap served_by (f.serves tt files))
