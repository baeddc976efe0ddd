-- A sound deck behaves as every deck must.
use Rattle.std.proofs.Common.{◌≡◌, ℕ, zero, suc, ◌<◌, ◌≤◌, Bool, true, false, List, [], ◌∷◌, length, slice_get, All, Option, Some, None, refl, sym, subst, arith}
use Rattle.std.specs.Prelude.{fold}
use Rattle.std.proofs.lemmas.List.Elements.{All-head, All-tail}
use Rattle.pw_operands.specs.Resolved.{Each}
use Rattle.pw_code.specs.Valid.{IsDeckFile}
use Rattle.pw_code.specs.declared.file.FileCall.{FileCall}
use Rattle.pw_code.specs.declared.file.FileInfo.{FileInfo}
use Rattle.pw_code.specs.declared.lock.LockRule.{LockRule}
use Rattle.pw_code.specs.declared.system.ClassInfo.{ClassInfo}
use Rattle.pw_code.specs.declared.system.TermInfo.{TermInfo}
use Rattle.pw_code.specs.declared.verb.Verb.{Verb}
use Rattle.pw_code.specs.declared.verb.Verb.TheVariants as verb
use Rattle.pw_files.specs.Records.{IsFile, IsContent, with_record}
use Rattle.pw_files.proofs.RecordLemmas.{IsFile-empty, IsFile-with_record}
use Rattle.pw_onecopy.specs.Behaviour.{Behaviour}
use Rattle.pw_onecopy.specs.IsBehaviour.{IsBehaviour, IsPath, IsAsked, AddsUp}
use Rattle.pw_onecopy.specs.Path.{PathAnswer, FileResult}
use Rattle.pw_tree_meaning.specs.Program.{Program, DeckModel, program_at, first_screen, key_length_by}
use Rattle.pw_tree_meaning.specs.OfDeck.{ask, ops, behaviour, number_by, processes_by, records_by}
use Rattle.pw_tree_meaning.specs.Sound.{IsSoundDeck, IsSoundProgram, IsSoundTerminal, IsSoundClass}
use Rattle.pw_tree_meaning.proofs.trees.Programs.{SuitedAll}
use Rattle.pw_tree_meaning.proofs.Resolved.{each-got, below-got}
use Rattle.pw_tree_meaning.proofs.Stored.{FitsProgram, fits-kept}
use Rattle.pw_tree_meaning.proofs.Requesters.{requester_rules, asks-right, deck-begins, deck-stops, deck-ends, deck-drops, deck-redoes, deck-fails}
use Rattle.pw_tree_meaning.proofs.trees.Trees.{Files}
use Rattle.pw_tree_meaning.proofs.Servers.{ServerRight, server_rules, ops-right, ops-add-up}
use Rattle.pw_tree_meaning.proofs.Decks.{RequesterRight, requester-suited, IsCall, server-suited}

program-sound : (server : Bool) (deck : DeckModel) (programs : List Program) (q : ℕ) → Each (IsSoundProgram server deck) programs → q < length programs
    → IsSoundProgram server deck (program_at programs q)
program-sound server deck [] q each lt = absurd (omega (arith, lt))
program-sound server deck (program ∷ rest) zero each lt = each.0
program-sound server deck (program ∷ rest) (suc q) each lt = program-sound server deck rest q each.1 (omega (arith, lt))

module _ (rule : LockRule) (deck : DeckModel) (sound : IsSoundDeck deck) where
  abbrev sys : Behaviour
  sys = behaviour rule deck

  -- ---- terminals

  requesters-from : (programs : List Program) → Each (IsSoundProgram false deck) programs → (most q first : ℕ)
      → SuitedAll (requester_rules deck most (RequesterRight deck) (λ x. tt)) (program_at programs q) first false [] (program_at programs q).paragraphs
  requesters-from [] each most q first = tt
  requesters-from (program ∷ rest) each most zero first = requester-suited deck most program first program.paragraphs each.0.resolves each.0.forms
  requesters-from (program ∷ rest) each most (suc q) first = requesters-from rest each.1 most q first

  requesters : (most q : ℕ)
      → SuitedAll (requester_rules deck most (RequesterRight deck) (λ x. tt)) (program_at deck.programs q) (first_screen deck.programs q) false [] (program_at deck.programs q).paragraphs
  requesters most q = requesters-from deck.programs sound.programs most q (first_screen deck.programs q)

  right : (t : ℕ) (path : List PathAnswer) → IsPath sys t path → RequesterRight deck (ask deck t path)
  right = asks-right rule deck (RequesterRight deck) (λ x. tt) tt requesters

  is-asked : (v : Verb) → RequesterRight deck v → IsAsked v
  is-asked (verb.File call) ok = ok
  is-asked (verb.Reply reply) ok = ok
  is-asked _ ok = tt

  pair-there : (t : ℕ) → t < length deck.terminals → sys.pair_of t < length deck.tcps
  pair-there t lt =
      let k = below-got deck.terminals t lt in
      let P : Option TermInfo → Type 0 = λ o. number_by (λ terminal. terminal.tcp) o < length deck.tcps in
      subst P (sym k.1) (each-got (IsSoundTerminal deck) deck.terminals t k.0 sound.terminals k.1).pair

  class-there : (t c : ℕ) (message : List ℕ) (path : List PathAnswer) → IsPath sys t path → ask deck t path ≡ verb.Send c message → c < length deck.classes
  class-there t c message path is e = let P : Verb → Type 0 = RequesterRight deck in subst P e (right t path is)

  -- ---- servers

  module _ (c : ℕ) (lt : c < length deck.classes) where
    the_class : (class : ClassInfo) × (slice_get deck.classes c ≡ Some class)
    the_class = below-got deck.classes c lt

    class-sound : IsSoundClass deck the_class.0
    class-sound = each-got (IsSoundClass deck) deck.classes c the_class.0 sound.classes the_class.1

    server-sound : IsSoundProgram true deck (program_at deck.servers the_class.0.server)
    server-sound = program-sound true deck deck.servers the_class.0.server sound.servers class-sound.server

    has-process : 1 ≤ sys.processes c
    has-process = let P : Option ClassInfo → Type 0 = λ o. 1 ≤ processes_by o in subst P (sym the_class.1) class-sound.some

    all-served : (message : List ℕ) (most : ℕ)
        → SuitedAll (server_rules deck most (IsCall deck) (FitsProgram (program_at deck.servers the_class.0.server)) (fits-kept (program_at deck.servers the_class.0.server)))
        (program_at deck.servers the_class.0.server) 0 true message (program_at deck.servers the_class.0.server).paragraphs
    all-served message most =
        let program = program_at deck.servers the_class.0.server in
        server-suited deck program server-sound most message program.paragraphs server-sound.resolves server-sound.forms

    ops-are-right : (message : List ℕ) (done : List FileResult) → ServerRight (IsCall deck) (ops deck c message done)
    ops-are-right message done =
        let program = program_at deck.servers the_class.0.server in
        ops-right rule deck (IsCall deck) (FitsProgram program) (fits-kept program) c the_class.0 the_class.1 message (all-served message) refl done

    call-right : (message : List ℕ) (done : List FileResult) (call : FileCall) → ops deck c message done ≡ verb.File call → IsCall deck call
    call-right message done call e = let P : Verb → Type 0 = ServerRight (IsCall deck) in subst P e (ops-are-right message done)

    adds : (message : List ℕ) (files : Files) → AddsUp sys c message files
    adds message files =
        let program = program_at deck.servers the_class.0.server in
        ops-add-up rule deck (IsCall deck) (FitsProgram program) (fits-kept program) c the_class.0 the_class.1 message (all-served message) refl files

  -- ---- files

  file-by : (n : ℕ) (records before : List (List ℕ)) → All (IsContent n) records → IsFile n before → IsFile n (fold (with_record n) before records)
  file-by n [] before all ok = ok
  file-by n (content ∷ rest) before all ok =
      file-by n rest (with_record n before content) (All-tail (IsContent n) content rest all)
      (IsFile-with_record n before ok content (All-head (IsContent n) content rest all))

  file-of : (f : ℕ) (o : Option FileInfo) → slice_get deck.files f ≡ o → IsFile (key_length_by o) (records_by o)
  file-of f None e = IsFile-empty 1 (omega arith, omega arith)
  file-of f (Some file) e =
      let ok = each-got IsDeckFile deck.files f file sound.files e in
      file-by file.key file.records [] ok.contents (IsFile-empty file.key ok.key)

  pub sound-behaviour : IsBehaviour sys
  sound-behaviour = record {
    pairs = pair-there;
    asks = λ t path is. is-asked (ask deck t path) (right t path is);
    begins = deck-begins rule deck;
    stops = deck-stops rule deck;
    ends = deck-ends rule deck;
    drops = deck-drops rule deck;
    redoes = deck-redoes rule deck;
    fails = λ t c x message path is e. deck-fails rule deck t c x message path is e;
    sends = λ t c message path is e. class-there t c message path is e;
    staffed = has-process;
    calls = λ c message done call lt e. (call-right c lt message done call e).file;
    keys = λ c message done call lt e. (call-right c lt message done call e).key;
    writes = λ c message done call lt e written. (call-right c lt message done call e).content written;
    adds_up = λ c message files lt ok. adds c lt message files;
    files = λ f. file-of f (slice_get deck.files f) refl;
  }
