-- What a server comes to by itself, by its code and by its tree.
use Rattle.std.proofs.Common.{◌≡◌, ℕ, zero, suc, ◌+◌, ◌*◌, ◌<◌, ◌≤◌, Bool, true, false, List, [], ◌∷◌, ◌++◌, length, map, slice_get, Option, Some, None, refl, sym, ap, ◌∙◌, subst, arith}
use Rattle.std.proofs.lemmas.List.{length-append, length-map, map-append, append-nil, append_assoc}
use Rattle.pw_code.specs.Valid.{IsValid}
use Rattle.pw_code.specs.declared.file.FileCall.{FileCall}
use Rattle.pw_code.specs.declared.lock.LockRule.{LockRule}
use Rattle.pw_code.specs.declared.system.ClassInfo.{ClassInfo}
use Rattle.pw_code.specs.declared.system.System.{System}
use Rattle.pw_code.specs.declared.verb.Answer.{Answer}
use Rattle.pw_code.specs.declared.verb.Verb.{Verb}
use Rattle.pw_code.specs.declared.verb.Verb.TheVariants as verb
use Rattle.pw_code_meaning.specs.Answers.{put}
use Rattle.pw_code_meaning.specs.Config.{Config, starting_server}
use Rattle.pw_code_meaning.specs.OfSystem as code
use Rattle.pw_code_meaning.specs.Runs.{Run, config_after_answers, at_verb, Comes, run, runs, most_steps}
use Rattle.pw_code_meaning.specs.Steps.{step, verb_of}
use Rattle.pw_code_meaning.proofs.Bounds.{after_server, after_is, put_shallow, server_shallow}
use Rattle.pw_code_meaning.proofs.Progress.{Shallow, step_progress}
use Rattle.pw_onecopy.specs.Behaviour.{Served}
use Rattle.pw_onecopy.specs.Operation.{answer_of, records_behind}
use Rattle.pw_onecopy.specs.Path.{FileResult}
use Rattle.pw_onecopy.specs.Update.{upd}
use Rattle.pw_tree_meaning.specs.OfDeck as tree
use Rattle.pw_tree_meaning.specs.Program.{DeckModel, program_at, key_length}
use Rattle.pw_tree_meaning.specs.Runs as source
use Rattle.pw_tree_meaning.specs.Runs.{file_told, server_setting, server_run, start}
use Rattle.pw_tree_meaning.specs.Sound.{IsSoundDeck}
use Rattle.pw_tree_meaning.specs.State.{ProgramState, Asks, most_counted}
use Rattle.pw_onecopy.specs.IsBehaviour.{IsBehaviour}
use Rattle.pw_tree_meaning.proofs.Behaviours.{sound-behaviour}
use Rattle.pw_tree_meaning.proofs.Servers.{server-found, no_files}
use Rattle.pw_tree_meaning.proofs.trees.Finished.{closed}
use Rattle.pw_tree_meaning.proofs.trees.Suited.{each-fine}
use Rattle.pw_tree_meaning.proofs.trees.Trees.{Tree, Here, Left, Stuck, Waits, Files, at, play, play_alone, Rules, TakesNone, Obeys}
use Rattle.pw_compiler_laws.specs.Answered.{AnswersAs}
use Rattle.pw_compiler_laws.specs.Premises.{AreFitting}
use Rattle.pw_compiler_laws.specs.Systems.{system_of}
use Rattle.pw_compiler_laws.proofs.Behaves.{server-answers, server-there, ask-is, image-is, ops-is}
use Rattle.pw_compiler_laws.proofs.Split.{splits}

-- of runs with at most so many answers, also by themselves
abbrev pub any_rules : DeckModel → ℕ → Rules
any_rules deck most = record {
  deck = deck;
  most = most;
  Alone = Unit {0};
  Fits = λ store. Unit {0};
  Right = λ v. Unit {0};
  right_fault = λ x. tt;
  kept = λ spot chars store fits. tt;
}

-- at most so many programs and PERFORMs are active wherever a run has come to
abbrev turn : System → ℕ → Config → List Answer → Bool → Run Config Answer
turn system n c answers b = elim b as (λ _. Run Config Answer) [
  | true ↦ elim answers as (λ _. Run Config Answer) [
    | [] ↦ record { at = c; left = [] }
    | a ∷ rest ↦ runs at_verb (step system) (put system) n (put system a c) rest
  ]
  | false ↦ runs at_verb (step system) (put system) n (step system c) answers
]

run-shallow : (system : System) (n : ℕ) (c : Config) (answers : List Answer) → Shallow c → Shallow (run system n c answers).at
run-shallow system zero c answers s = s
run-shallow system (suc n) c answers s =
    pick (at_verb c) answers (λ a rest. run-shallow system n (put system a c) rest (put_shallow system a c s))
    (λ rest. run-shallow system n (step system c) rest ((step_progress system c).grows.shallow s))
  where
    pick : (b : Bool) (q : List Answer) → ((a : Answer) (rest : List Answer) → Shallow (run system n (put system a c) rest).at)
        → ((rest : List Answer) → Shallow (run system n (step system c) rest).at) → Shallow (turn system n c q b).at
    pick true [] one more = s
    pick true (a ∷ rest) one more = one a rest
    pick false q one more = more q

-- a server's last verb
last : (system : System) (v : Verb) → ((call : FileCall) → v ≡ verb.File call → ⊥) → (c : Config) (now : Files) (next : Config → Files → Served) (s : ProgramState)
    → code.served_by system v c now next ≡ source.served_by (Asks v (at [] now s))
last system verb.Show never c now next s = refl
last system (verb.Accept screen) never c now next s = refl
last system verb.Begin never c now next s = refl
last system (verb.Send class message) never c now next s = refl
last system verb.End never c now next s = refl
last system verb.Drop never c now next s = refl
last system verb.Redo never c now next s = refl
last system verb.Stop never c now next s = refl
last system (verb.Fault x) never c now next s = refl
last system (verb.File call) never c now next s = absurd (never call refl)
last system (verb.Reply reply) never c now next s = refl

no-file : (v : Verb) → TakesNone v → (call : FileCall) → v ≡ verb.File call → ⊥
no-file v none call e = subst TakesNone e none

module _ (rule : LockRule) (deck : DeckModel) (sound : IsSoundDeck deck) (fitting : AreFitting deck) (valid : IsValid (system_of rule deck))
    (class : ClassInfo) (there : class.server < length deck.servers) (message : List ℕ) where
  abbrev system : System
  system = system_of rule deck

  abbrev began : Config
  began = starting_server system class.server message

  -- where the code stands behind some answers
  abbrev stood : List FileResult → Config
  stood done = code.server_after system class message done

  abbrev answered : (done : List FileResult) → AnswersAs system began (map file_told done) (server_run (server_setting deck class.server message false) (start (program_at deck.servers class.server) (map file_told done)))
  answered done = server-answers rule deck sound fitting class.server there message done

  stood-is : (done : List FileResult) → stood done ≡ (answered done).at
  stood-is done = after_server system class.server message (map file_told done) (answered done).at valid (answered done).comes (answered done).stands

  comes-stood : (done : List FileResult) → Comes system began (map file_told done) (stood done)
  comes-stood done = subst (λ c. Comes system began (map file_told done) c) (sym (stood-is done)) (answered done).comes

  stands-stood : (done : List FileResult) → at_verb (stood done) ≡ true
  stands-stood done = subst (λ c. at_verb c ≡ true) (sym (stood-is done)) (answered done).stands

  shallow-stood : (done : List FileResult) → Shallow (stood done)
  shallow-stood done =
      run-shallow system (most_steps * (length (map file_told done) + 1)) began (map file_told done) (server_shallow system class.server message)

  -- one answer more
  goes-on : (done : List FileResult) (found : FileResult)
      → config_after_answers system (put system (file_told found) (stood done)) [] ≡ stood (done ++ found ∷ [])
  goes-on done found =
      let more = comes-stood (done ++ found ∷ []) in
      let told : map file_told (done ++ found ∷ []) ≡ map file_told done ++ file_told found ∷ [] = map-append file_told done (found ∷ []) in
      let here = comes-stood done in
      let r = splits at_verb (step system) (put system) (file_told found) (stood done) (stands-stood done) here.0 began (map file_told done) here.1 more.0 (stood (done ++ found ∷ []))
      (subst (λ (answers : List Answer). run system more.0 began answers ≡ record { at = stood (done ++ found ∷ []); left = [] }) told more.1) in
      after_is system (put system (file_told found) (stood done)) (stood (done ++ found ∷ [])) [] valid (put_shallow system (file_told found) (stood done) (shallow-stood done)) r (stands-stood (done ++ found ∷ []))

  abbrev r : Rules
  r = any_rules deck most_counted

  -- what is asked without a further answer
  asks-now : (t : Tree) (done : List FileResult) → length done ≤ most_counted
      → ((rest : List FileResult) → length (done ++ rest) ≤ most_counted → verb_of system (stood (done ++ rest)) ≡ source.verb_of (play t (map file_told rest) no_files))
      → verb_of system (stood done) ≡ source.verb_of (play t [] no_files)
  asks-now t done most asks =
      ap (λ (xs : List FileResult). verb_of system (stood xs)) (sym (append-nil done))
      ∙ asks [] (let P : List FileResult → Type 0 = λ xs. length xs ≤ most_counted in subst P (sym (append-nil done)) most)

  -- by itself the server comes to what its tree comes to
  serves-same : (t : Tree) (count : ℕ) (inside : Bool) → Obeys (closed r) count inside t
      → (done : List FileResult) (now : Files) → length done ≤ count → length done ≤ most_counted
      → ((rest : List FileResult) → length (done ++ rest) ≤ most_counted → verb_of system (stood (done ++ rest)) ≡ source.verb_of (play t (map file_told rest) no_files))
      → (fuel : ℕ) → fuel + length done ≡ most_counted + 1
      → code.serves system fuel (stood done) now ≡ source.served_by (play_alone deck t now)
  serves-same t count inside ok done now few most asks zero is = absurd (omega (arith, is, most))
  serves-same (Here s) count inside ok done now few most asks (suc n) is = absurd ok.fits
  serves-same (Left s) count inside ok done now few most asks (suc n) is = absurd ok.fits
  serves-same (Stuck v s) count inside ok done now few most asks (suc n) is =
      ap (λ w. code.served_by system w (stood done) now (code.serves system n)) (asks-now (Stuck v s) done most asks)
      ∙ last system v (no-file v ok.2) (stood done) now (code.serves system n) s
  serves-same (Waits (verb.File call) s next) count inside ok done now few most asks (suc n) is =
      let found : FileResult = answer_of (key_length deck call.file) (now call.file) call.op call in
      let then : Files = upd now call.file (records_behind (key_length deck call.file) (now call.file) call) in
      let long : length (done ++ found ∷ []) ≡ length done + 1 = length-append done (found ∷ []) in
      ap (λ w. code.served_by system w (stood done) now (code.serves system n)) (asks-now (Waits (verb.File call) s next) done most asks)
      ∙ ap (λ c. code.serves system n c then) (goes-on done found)
      ∙ serves-same (next (file_told found)) s.count inside (ok.4 (file_told found)) (done ++ found ∷ []) then
      (omega (arith, few, ok.3.0, long)) (omega (arith, few, ok.3.0, ok.3.1, long))
      (λ rest le.
      let same : (done ++ found ∷ []) ++ rest ≡ done ++ found ∷ rest = append_assoc done (found ∷ []) rest in
      ap (λ (xs : List FileResult). verb_of system (stood xs)) same
      ∙ asks (found ∷ rest) (let P : List FileResult → Type 0 = λ xs. length xs ≤ most_counted in subst P same le))
      n (omega (arith, is, long))
  serves-same (Waits v s next) count inside ok done now few most asks (suc n) is =
      ap (λ w. code.served_by system w (stood done) now (code.serves system n)) (asks-now (Waits v s next) done most asks)
      ∙ last system v (λ call e. absurd cc) (stood done) now (code.serves system n) s

  pub class-serves : (files : Files) → code.served_alone system (Some class) message files ≡ tree.serve_by deck (Some class) message files
  class-serves files =
      let program = program_at deck.servers class.server in
      let f = server-found r class.server message (start program []) (each-fine r (λ v. tt) program 0 true message program.paragraphs) tt in
      serves-same f.tree 0 false f.obeys [] files (omega arith) (omega arith)
      (λ rest le. ap (verb_of system) (stood-is rest) ∙ (answered rest).asks
      ∙ ap source.verb_of (f.plays (map file_told rest) no_files (subst (λ n. n ≤ most_counted) (sym (length-map rest file_told)) le)))
      (most_counted + 1) (omega arith)
      ∙ sym (ap source.served_by (f.serves tt files))

module _ (rule : LockRule) (deck : DeckModel) (sound : IsSoundDeck deck) (fitting : AreFitting deck) (valid : IsValid (system_of rule deck)) where
  serves-by : (o : Option ClassInfo) → ((class : ClassInfo) → o ≡ Some class → class.server < length deck.servers) → (message : List ℕ) (files : Files)
      → code.served_alone (system_of rule deck) o message files ≡ tree.serve_by deck o message files
  serves-by None there message files = refl
  serves-by (Some class) there message files = class-serves rule deck sound fitting valid class (there class refl) message files

  pub serve-is : (c : ℕ) (message : List ℕ) (files : Files) → code.served_alone (system_of rule deck) (slice_get deck.classes c) message files ≡ tree.serve deck c message files
  serve-is c message files = serves-by (slice_get deck.classes c) (server-there rule deck sound fitting valid c) message files

  -- the behaviour of the system by its codes is that of the deck by its trees
  pub behaves-same : code.behaviour deck.script (system_of rule deck) ≡ tree.behaviour rule deck
  behaves-same = λ i. record (code.behaviour deck.script (system_of rule deck)) {
    ask = λ t path. ask-is rule deck sound fitting valid t path i;
    image = λ t path. image-is rule deck sound fitting valid t path i;
    ops = λ c message done. ops-is rule deck sound fitting valid c message done i;
    serve = λ c message files. serve-is c message files i;
  }

  -- so it meets what the paired system asks of every behaviour
  pub is-behaviour : IsBehaviour (code.behaviour deck.script (system_of rule deck))
  is-behaviour = subst IsBehaviour (sym behaves-same) (sound-behaviour rule deck sound)
