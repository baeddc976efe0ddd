-- The tables of a deck without a fault keep the limits of a system, and their numbers name what is there.
use Rattle.std.proofs.Common.{◌≡◌, ℕ, suc, ◌+◌, ◌<◌, Bool, true, false, cond, not, ltb, List, [], ◌∷◌, map, length, None, Some, refl, sym, ap, ◌∙◌, arith}
use Rattle.std.specs.Prelude.{◌&&◌, ◌||◌, nat_lt, flat_map}
use Rattle.std.specs.List.{list_any, filter, prefix_len, AllByRecursion}
use Rattle.std.specs.Str.{bytes_eq}
use Rattle.std.proofs.lemmas.Bool.{and_parts}
use Rattle.std.proofs.lemmas.List.{length-map}
use Rattle.std.proofs.lemmas.List.Elements.{All-from_recursion}
use Rattle.pw_base.specs.First.{is_before, least, better}
use Rattle.pw_base.specs.declared.fault.Fault.{Fault}
use Rattle.pw_base.proofs.Plain.{append-none}
use Rattle.pw_code.specs.Valid.{HasFunctionKey, IsTerminal, IsClass, IsDeckFile}
use Rattle.pw_code.specs.declared.file.FileInfo.{FileInfo}
use Rattle.pw_code.specs.declared.system.System.{System}
use Rattle.pw_sections.specs.Steps.{only_if}
use Rattle.pw_pathcom.specs.Objects.{is_known, is_added_before, unknown_terminal, unknown_class}
use Rattle.pw_pathcom.specs.declared.commands.ClassCommand.{ClassCommand}
use Rattle.pw_pathcom.specs.declared.commands.Commands.{Commands}
use Rattle.pw_pathcom.specs.declared.commands.Started.{Started}
use Rattle.pw_pathcom.specs.declared.commands.TermCommand.{TermCommand}
use Rattle.pw_words.specs.Words.{Word}
use Rattle.pw_deck_tables.specs.Tables.{tcp_names, is_started, or_first, number_among_names, class_from_command, terminal_of, entries_for, with_entries}
use Rattle.pw_deck_tables.specs.declared.objects.TermEntries.{TermEntries}
use Rattle.pw_deck.proofs.Ranges.{FewRestarts, FewProcesses, AreEntries}
use Rattle.pw_deck.proofs.Sound.{HasEntries, IsGoodFile}

-- where the first fault is none, there is no fault
still_some : (known f : Fault) → (g : Fault) × (better (Some known) f ≡ Some g)
still_some known f = go (is_before f known)
  where
    go : (b : Bool) → (g : Fault) × (cond b (Some f) (Some known) ≡ Some g)
    go true = (f, refl)
    go false = (known, refl)

some_stays : (known : Fault) (faults : List Fault) → least (Some known) faults ≡ None → ⊥
some_stays known [] is = absurd cc
some_stays known (f ∷ fs) is =
    let next = still_some known f in
    some_stays next.0 fs (ap (λ o. least o fs) (sym next.1) ∙ is)

-- a name that is among names has a place there
found_place : (names : List Word) (word : Word) → list_any (λ name. bytes_eq name word) names ≡ true → prefix_len (λ name. not (bytes_eq name word)) names < length names
found_place [] word is = absurd cc
found_place (n ∷ ns) word is = go (bytes_eq n word) (found_place ns word) is
  where
    go : (b : Bool) → (list_any (λ name. bytes_eq name word) ns ≡ true → prefix_len (λ name. not (bytes_eq name word)) ns < length ns)
        → (b || list_any (λ name. bytes_eq name word) ns) ≡ true → cond (not b) (1 + prefix_len (λ name. not (bytes_eq name word)) ns) 0 < suc (length ns)
    go true rest is = omega arith
    go false rest is = omega (arith, rest is)

number_small : (n m : ℕ) → n < m → or_first (cond (ltb n m) (Some n) None) < m
number_small n m less = go (ltb n m)
  where
    go : (b : Bool) → or_first (cond b (Some n) None) < m
    go true = less
    go false = omega (arith, less)

pub number_named : (names : List Word) (word : Word) → list_any (λ name. bytes_eq name word) names ≡ true → number_among_names names word < length names
number_named names word is = number_small _ (length names) (found_place names word is)

-- a TCP that was added before is one of the TCPs
added_named : (line : ℕ) (name : Word) (tcps : List Started) → list_any (λ tcp. bytes_eq tcp.name name && nat_lt tcp.line line) tcps ≡ true
    → list_any (λ known. bytes_eq known name) (map (λ tcp. tcp.name) tcps) ≡ true
added_named line name [] is = absurd cc
added_named line name (t ∷ ts) is = go (bytes_eq t.name name) (nat_lt t.line line) (added_named line name ts) is
  where
    go : (a b : Bool) → (list_any (λ tcp. bytes_eq tcp.name name && nat_lt tcp.line line) ts ≡ true → list_any (λ known. bytes_eq known name) (map (λ tcp. tcp.name) ts) ≡ true)
        → ((a && b) || list_any (λ tcp. bytes_eq tcp.name name && nat_lt tcp.line line) ts) ≡ true → (a || list_any (λ known. bytes_eq known name) (map (λ tcp. tcp.name) ts)) ≡ true
    go true b rest is = refl
    go false b rest is = rest is

-- where no ADD is unknown
unless_unknown : (t : Bool) (fault : Fault) → only_if (not t) fault ≡ [] → t ≡ true
unless_unknown true fault is = refl
unless_unknown false fault is = absurd cc

-- what a terminal's ADD names is there
pub record Known (commands : Commands) (programs : List Word) (terminal : TermCommand) : Type 0 where
  pub pair : number_among_names (tcp_names commands) terminal.tcp < length commands.tcps
  pub program : number_among_names programs terminal.program < length programs

known_one : (commands : Commands) (programs : List Word) (t : TermCommand) → unknown_terminal commands programs t ≡ [] → Known commands programs t
known_one commands programs t is =
    let both = and_parts (is_added_before commands t.line t.tcp) (is_known programs t.program) (unless_unknown _ _ is) in
    let size : length (tcp_names commands) ≡ length commands.tcps = length-map commands.tcps (λ (tcp : Started). tcp.name) in
    record {
      pair = omega (arith, number_named (tcp_names commands) t.tcp (added_named t.line t.tcp commands.tcps both.0), size);
      program = number_named programs t.program both.1;
    }

pub all_known : (commands : Commands) (programs : List Word) (ts : List TermCommand) → flat_map (unknown_terminal commands programs) ts ≡ [] → AllByRecursion (Known commands programs) ts
all_known commands programs [] is = tt
all_known commands programs (t ∷ ts) is =
    let parts = append-none (unknown_terminal commands programs t) (flat_map (unknown_terminal commands programs) ts) is in
    (known_one commands programs t parts.0, all_known commands programs ts parts.1)

pub all_served : (servers : List Word) (cs : List ClassCommand) → flat_map (unknown_class servers) cs ≡ [] → AllByRecursion (λ c. number_among_names servers c.program < length servers) cs
all_served servers [] is = tt
all_served servers (c ∷ cs) is =
    let parts = append-none (unknown_class servers c) (flat_map (unknown_class servers) cs) is in
    (number_named servers c.program (unless_unknown _ _ parts.0), all_served servers cs parts.1)

-- the entries of a terminal
no_entries : AreEntries []
no_entries = record { keys = tt; few = omega arith }

pub theirs : (sections : List TermEntries) (name : Word) → AllByRecursion HasEntries sections → AreEntries (entries_for sections name)
unfolding entries_for
theirs [] name have = no_entries
theirs (s ∷ ss) name have = go (bytes_eq s.name name) (theirs ss name have.1)
  where
    go : (b : Bool) → AreEntries (entries_for ss name) → AreEntries (cond b s.entries (entries_for ss name))
    go true rest = have.0
    go false rest = rest

-- the terminals of the tables, in a system with as many pairs and programs
pub terminals_are : (system : System) (commands : Commands) (programs : List Word) (sections : List TermEntries) (ts : List TermCommand)
    → length system.tcps ≡ length commands.tcps → length system.programs ≡ length programs
    → AllByRecursion (Known commands programs) ts → AllByRecursion FewRestarts ts → AllByRecursion HasEntries sections
    → AllByRecursion (IsTerminal system) (map (with_entries sections) (map (terminal_of (tcp_names commands) programs) (filter is_started ts)))
terminals_are system commands programs sections [] pairs sources known few have = tt
terminals_are system commands programs sections (t ∷ ts) pairs sources known few have = go (is_started t) (terminals_are system commands programs sections ts pairs sources known.1 few.1 have)
  where
    go : (b : Bool) → AllByRecursion (IsTerminal system) (map (with_entries sections) (map (terminal_of (tcp_names commands) programs) (filter is_started ts)))
        → AllByRecursion (IsTerminal system) (map (with_entries sections) (map (terminal_of (tcp_names commands) programs) (cond b (t ∷ filter is_started ts) (filter is_started ts))))
    go true rest =
        let own = theirs sections t.name have in (
          record {
            pair = omega (arith, known.0.pair, pairs);
            program = omega (arith, known.0.program, sources);
            restarts = few.0;
            few = own.few;
            keys = All-from_recursion HasFunctionKey (entries_for sections t.name) own.keys;
          },
          rest,
        )
    go false rest = rest

pub classes_are : (system : System) (servers : List Word) (cs : List ClassCommand) → length system.servers ≡ length servers
    → AllByRecursion (λ c. number_among_names servers c.program < length servers) cs → AllByRecursion FewProcesses cs → AllByRecursion (IsClass system) (map (class_from_command servers) cs)
classes_are system servers [] sources known few = tt
classes_are system servers (c ∷ cs) sources known few =
    (record { server = omega (arith, known.0, sources); some = few.0.0; few = few.0.1 }, classes_are system servers cs sources known.1 few.1)

pub files_are : (files : List FileInfo) → AllByRecursion IsGoodFile files → AllByRecursion IsDeckFile files
files_are [] good = tt
files_are (f ∷ fs) good =
    (record { key = good.0.key; contents = All-from_recursion _ f.records good.0.records.contents; distinct = good.0.records.distinct }, files_are fs good.1)
