-- The system of the tests is valid.
use Rattle.std.proofs.Common.{◌≡◌, ℕ, List, [], ◌∷◌, ◌++◌, ◌∙◌, ap, true, false, arith, refl}
use Rattle.std.specs.Prelude.{codes, take}
use Rattle.std.specs.List.{IsDistinct}
use Rattle.std.specs.Str.{bytes_eq}
use Rattle.std.proofs.lemmas.List.Elements.{All-nil, All-cons}
use Rattle.pw_code.specs.declared.code.Code.{Code}
use Rattle.pw_code.specs.declared.file.FileInfo.{FileInfo}
use Rattle.pw_code.specs.declared.lock.LockRule.TheVariants.{ReadersShare}
use Rattle.pw_code.specs.declared.system.System.{System}
use Rattle.pw_code.specs.declared.system.TermInfo.{TermInfo}
use Rattle.pw_files.specs.Records.{IsContent}
use Rattle.pw_code.specs.Names.{AreNames, IsName}
use Rattle.pw_code.specs.Valid.{HasFunctionKey, IsCode, IsClass, IsDeckFile, IsTerminal, IsValid}
use Rattle.pw_code.proofs.Codes.{IsCode-empty}
use Rattle.pw_code.proofs.NameLemmas.{AreNames-none, AreNames-one}
use Rattle.pw_tmf.specs.TwoUnits.{IsTestSystem, stock_file}

-- a terminal of the first pair and program
abbrev pub terminal_named : List ℕ → TermInfo
terminal_named name = record { name = name; tcp = 0; program = 0; max_restarts = 5; entries = [] }

-- the parts of the system
abbrev pub test_system : Code → System
test_system code = record {
  programs = code ∷ [];
  servers = [];
  screens = [];
  classes = [];
  files = stock_file ∷ [];
  tcps = codes "TCP-1" ∷ [];
  terminals = terminal_named (codes "T1") ∷ terminal_named (codes "T2") ∷ terminal_named (codes "T3") ∷ [];
  rule = ReadersShare;
}

one-key : IsDistinct bytes_eq (take 2 (codes "AA one") ∷ [])
unfolding IsDistinct
one-key = (tt, tt)

three-names : AreNames (codes "T1" ∷ codes "T2" ∷ codes "T3" ∷ [])
unfolding IsDistinct
three-names = record {
  each = All-cons IsName (codes "T1") (codes "T2" ∷ codes "T3" ∷ []) refl (All-cons IsName (codes "T2") (codes "T3" ∷ []) refl (All-cons IsName (codes "T3") [] refl (All-nil IsName)));
  distinct = ((refl, (refl, tt)), ((refl, tt), (tt, tt)));
}

pub test-valid : (code : Code) → code.instrs ≡ [] → code.storage ≡ [] → code.linkage ≡ [] → IsValid (test_system code)
test-valid code empty no_storage no_linkage =
    let system : System = test_system code in
    let one : (name : List ℕ) → IsTerminal system (terminal_named name) = λ name. record { pair = omega arith; program = omega arith; restarts = omega arith; few = omega arith; keys = All-nil HasFunctionKey } in
    record {
      programs = All-cons (IsCode false system) code [] (IsCode-empty false system code empty no_storage no_linkage) (All-nil (IsCode false system));
      servers = All-nil (IsCode true system);
      terminals = All-cons (IsTerminal system) (terminal_named (codes "T1")) (terminal_named (codes "T2") ∷ terminal_named (codes "T3") ∷ []) (one (codes "T1"))
          (All-cons (IsTerminal system) (terminal_named (codes "T2")) (terminal_named (codes "T3") ∷ []) (one (codes "T2")) (All-cons (IsTerminal system) (terminal_named (codes "T3")) [] (one (codes "T3")) (All-nil (IsTerminal system))));
      classes = All-nil (IsClass system);
      files = All-cons IsDeckFile stock_file [] (record {
        key = (omega arith, omega arith);
        contents = All-cons (IsContent 2) (codes "AA one") [] (omega arith, omega arith) (All-nil (IsContent 2));
        distinct = one-key;
      }) (All-nil IsDeckFile);
      names = record {
        tcps = AreNames-one (codes "TCP-1") refl;
        terminals = three-names;
        classes = AreNames-none;
        files = AreNames-one (codes "STOCK") refl;
      };
      few = record { programs = omega arith; servers = omega arith; screens = omega arith; classes = omega arith; files = omega arith; tcps = omega arith; terminals = omega arith };
    }

pub test-parts : (code : Code) → IsTestSystem (test_system code)
test-parts code = record { terminals = refl; file = stock_file; files = refl; key = refl }

-- a system of these parts
abbrev pub built : List Code → List FileInfo → List (List ℕ) → List TermInfo → System
built programs files tcps terminals = record { programs = programs; servers = []; screens = []; classes = []; files = files; tcps = tcps; terminals = terminals; rule = ReadersShare }

pub built-is : (code : Code) (programs : List Code) (files : List FileInfo) (tcps : List (List ℕ)) (terminals : List TermInfo)
    → programs ≡ code ∷ [] → files ≡ stock_file ∷ [] → tcps ≡ codes "TCP-1" ∷ [] → terminals ≡ terminal_named (codes "T1") ∷ terminal_named (codes "T2") ∷ terminal_named (codes "T3") ∷ []
    → built programs files tcps terminals ≡ test_system code
built-is code programs files tcps terminals p f t s =
    ap (λ x. built x files tcps terminals) p
    ∙ (ap (λ x. built (code ∷ []) x tcps terminals) f
    ∙ (ap (λ x. built (code ∷ []) (stock_file ∷ []) x terminals) t
    ∙ ap (λ x. built (code ∷ []) (stock_file ∷ []) (codes "TCP-1" ∷ []) x) s))

-- three items, of which two are pushed
pub pushed-three : {A : Type 0} (xs ys zs : List A) (x y z u v w : A) → xs ≡ x ∷ [] → ys ≡ xs ++ y ∷ [] → zs ≡ ys ++ z ∷ [] → x ≡ u → y ≡ v → z ≡ w → zs ≡ u ∷ v ∷ w ∷ []
pushed-three xs ys zs x y z u v w a b c d e f =
    c ∙ (ap (λ is. is ++ z ∷ []) (b ∙ ap (λ is. is ++ y ∷ []) a) ∙ (ap (λ i. i ∷ y ∷ z ∷ []) d ∙ (ap (λ i. u ∷ i ∷ z ∷ []) e ∙ ap (λ i. u ∷ v ∷ i ∷ []) f)))
