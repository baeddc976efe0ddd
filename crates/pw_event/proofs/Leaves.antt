-- The words of an entry of a system are read as what they name.
use Rattle.std.proofs.Common.{◌≡◌, ℕ, ◌<◌, ◌≤◌, ◌^◌, true, List, [], ◌∷◌, ◌++◌, map, length, get_or, Ok, refl, sym, subst, arith}
use Rattle.std.specs.Prelude.{slice_index_or}
use Rattle.std.specs.Fmt.{decimal}
use Rattle.std.proofs.lemmas.Bool.{le-leb}
use Rattle.std.proofs.lemmas.List.{get_or-map, length-map, map-id}
use Rattle.pw_code.specs.Names.{AreNames, IsName, may_name}
use Rattle.pw_code.specs.Valid.{HasNames}
use Rattle.pw_code.specs.declared.file.FileInfo.{FileInfo}
use Rattle.pw_code.specs.declared.file.FileOp.{FileOp}
use Rattle.pw_code.specs.declared.file.FileOp.TheVariants.{Read, Next, Write, Rewrite, Delete, ReadLock, NextLock}
use Rattle.pw_code.specs.declared.lock.LockMode.{LockMode}
use Rattle.pw_code.specs.declared.lock.LockMode.TheVariants.{Shared, Exclusive}
use Rattle.pw_code.specs.declared.system.ClassInfo.{ClassInfo}
use Rattle.pw_code.specs.declared.system.TermInfo.{TermInfo}
use Rattle.pw_code.specs.declared.system.System.{System}
use Rattle.pw_event.specs.Keywords.{keyword}
use Rattle.pw_event.specs.Line.{no_terminal, no_class, no_file, terminal_name, pair_name, class_name, file_name, refresh_number, op_text, mode_text, IsPlain}
use Rattle.pw_event.specs.Parsing.{named, number, refresh, among, class_names, terminal, pair, class, file, process, op, mode}
use Rattle.pw_event.proofs.Looked.{among_at, among_thing}
use Rattle.pw_event.proofs.Numbers.{number-decimal, counted-decimal}
use Rattle.pw_event.proofs.Points.{cut_joined, decimal_lacks}
use Rattle.pw_event.proofs.Uppers.{may_name-name}

-- numbers

pub number_of : (n : ℕ) → n < 2 ^ 32 → number 4294967295 (decimal n) ≡ Ok n
number_of n fits = number-decimal 4294967295 n (omega arith) (omega arith)

pub code_of : (x : ℕ) → x < 2 ^ 16 → number 65535 (decimal x) ≡ Ok x
code_of x fits = number-decimal 65535 x (omega arith) (omega arith)

pub refresh_of : (p a k : ℕ) → (p < 2 ^ 32) × (a < 2 ^ 32) × (k < 2 ^ 32) → refresh (refresh_number p a k) ≡ Ok (p, a, k)
unfolding refresh
refresh_of p a k fit =
    let lacks_p = decimal_lacks 46 p (omega arith) (omega (arith, fit.0)) in
    let lacks_a = decimal_lacks 46 a (omega arith) (omega (arith, fit.1)) in
    rw (cut_joined (decimal p) (decimal a ++ 46 ∷ decimal k) lacks_p, cut_joined (decimal a) (decimal k) lacks_a, number_of p fit.0, number_of a fit.1, number_of k fit.2) refl

-- names

pub named_formed : (word : List ℕ) → may_name word ≡ true → named word ≡ Ok tt
unfolding named
named_formed word formed = rw formed refl

-- the name of a thing is one
pub thing_name : {A : Type 0} (name : A → List ℕ) (things : List A) → AreNames (map name things) → (i : ℕ) (default : A) → i < length things → IsName (name (get_or things i default))
thing_name name things names i default within = rw (get_or-map name things i default [] within) at (names.each i [] (omega (arith, length-map things name)))

named_of : {A : Type 0} (name : A → List ℕ) (things : List A) → AreNames (map name things) → (i : ℕ) (default : A) → i < length things → named (name (get_or things i default)) ≡ Ok tt
named_of name things names i default within =
    let word = name (get_or things i default) in
    named_formed word (may_name-name word (thing_name name things names i default within))

pub named_terminal : (system : System) → HasNames system → (t : ℕ) → t < length system.terminals → named (terminal_name system t) ≡ Ok tt
named_terminal system names t within = named_of (λ (row : TermInfo). row.name) system.terminals names.terminals t no_terminal within

pub named_class : (system : System) → HasNames system → (c : ℕ) → c < length system.classes → named (class_name system c) ≡ Ok tt
named_class system names c within = named_of (λ (row : ClassInfo). row.name) system.classes names.classes c no_class within

pub named_file : (system : System) → HasNames system → (f : ℕ) → f < length system.files → named (file_name system f) ≡ Ok tt
named_file system names f within = named_of (λ (row : FileInfo). row.name) system.files names.files f no_file within

pub terminal_of : (system : System) → HasNames system → (t : ℕ) → t < length system.terminals → terminal system (terminal_name system t) ≡ Ok t
unfolding terminal
terminal_of system names t within = rw (named_terminal system names t within) (among_thing (λ (row : TermInfo). row.name) system.terminals names.terminals t no_terminal within)

pair_names : (system : System) → HasNames system → AreNames (map (λ (row : List ℕ). row) system.tcps)
pair_names system names = subst AreNames (sym (map-id system.tcps)) names.tcps

named_pair : (system : System) → HasNames system → (p : ℕ) → p < length system.tcps → named (pair_name system p) ≡ Ok tt
named_pair system names p within = named_of (λ (row : List ℕ). row) system.tcps (pair_names system names) p [] within

pub pair_among_of : (system : System) → HasNames system → (p : ℕ) → p < length system.tcps → among system.tcps (pair_name system p) ≡ Ok p
pair_among_of system names p within = among_at system.tcps names.tcps.distinct p within

pub pair_of : (system : System) → HasNames system → (p : ℕ) → p < length system.tcps → pair system (pair_name system p) ≡ Ok p
unfolding pair
pair_of system names p within = rw (named_pair system names p within) (pair_among_of system names p within)

pub class_among_of : (system : System) → HasNames system → (c : ℕ) → c < length system.classes → among (class_names system) (class_name system c) ≡ Ok c
class_among_of system names c within = among_thing (λ (row : ClassInfo). row.name) system.classes names.classes c no_class within

pub class_of : (system : System) → HasNames system → (c : ℕ) → c < length system.classes → class system (class_name system c) ≡ Ok c
unfolding class
class_of system names c within = rw (named_class system names c within) (class_among_of system names c within)

pub file_of : (system : System) → HasNames system → (f : ℕ) → f < length system.files → file system (file_name system f) ≡ Ok f
unfolding file
file_of system names f within = rw (named_file system names f within) (among_thing (λ (row : FileInfo). row.name) system.files names.files f no_file within)

pub process_of : (system : System) → HasNames system → (c i : ℕ) → c < length system.classes → (1 ≤ i) × (i < 2 ^ 32) → i ≤ (slice_index_or system.classes c no_class).processes
    → process system (class_name system c) (decimal i) ≡ Ok (c, i)
unfolding process
process_of system names c i within fits few =
    rw (named_class system names c within, counted-decimal i fits, class_of system names c within, le-leb i (slice_index_or system.classes c no_class).processes few) refl

-- words of the format

pub op_of : (o : FileOp) → IsPlain o → op (op_text o) ≡ Ok o
unfolding op keyword
op_of Read plain = refl
op_of Next plain = refl
op_of Write plain = refl
op_of Rewrite plain = refl
op_of Delete plain = refl
op_of ReadLock plain = absurd plain
op_of NextLock plain = absurd plain

pub mode_of : (m : LockMode) → mode (mode_text m) ≡ Ok m
unfolding mode keyword
mode_of Shared = refl
mode_of Exclusive = refl
