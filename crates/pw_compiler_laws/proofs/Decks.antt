-- The programs of a sound deck, whose codes are those of its system.
use Rattle.std.proofs.Common.{sym, ◌≡◌, ℕ, zero, suc, ◌+◌, ◌-◌, ◌<◌, Bool, true, false, cond, List, [], ◌∷◌, ◌++◌, length, map, find, Option, Some, None, IsSome, refl, ap, ◌∙◌, arith}
use Rattle.std.specs.Prelude.{nat_lt, slice_get, slice_index_or, position, unwrap_or, bytes_eq, if◌then◌else◌}
use Rattle.std.specs.List.{position_from}
use Rattle.std.proofs.lemmas.Bool.{le-ltb, lt-ltb}
use Rattle.std.proofs.lemmas.Iterator.Adapters.{position_from-zero}
use Rattle.pw_words.specs.Words.{Word}
use Rattle.pw_forms.specs.declared.operand.Operand.{Operand}
use Rattle.pw_forms.specs.declared.operand.Operand.TheVariants as operands
use Rattle.pw_forms.specs.declared.operand.Subscript.{Subscript}
use Rattle.pw_forms.specs.declared.statement.Paragraph.{Paragraph}
use Rattle.pw_forms.specs.declared.statement.Statement.{Statement, Row_of-Statement, end_of-Statement, more_of-Statement}
use Rattle.pw_forms.specs.declared.statement.Statement as form
use Rattle.pw_code.specs.Instrs.{no_code, program_at}
use Rattle.pw_code.specs.declared.field.Field.{Field}
use Rattle.pw_code.specs.declared.field.ScreenTable.{ScreenTable}
use Rattle.pw_code.specs.declared.links.Links.{Links}
use Rattle.pw_code.specs.declared.lock.LockRule.{LockRule}
use Rattle.pw_code.specs.declared.system.System.{System}
use Rattle.pw_operands.specs.Resolved.{Each, IsDisplayOperand, IsShownName, Resolves, RowResolves}
use Rattle.pw_operands.specs.Scope.{screen_of}
use Rattle.pw_operands.specs.Variables.{is_any}
use Rattle.pw_tree_meaning.specs.Program.{DeckModel, Program, no_program, first_screen, screen_named}
use Rattle.pw_tree_meaning.specs.Program as tree
use Rattle.pw_tree_meaning.specs.Runs.{setting_of, server_setting}
use Rattle.pw_tree_meaning.specs.Setting.{Setting}
use Rattle.pw_tree_meaning.specs.Sound.{links_of, scope_of, HasForms, RowHasForms, IsSoundDeck, IsSoundProgram}
use Rattle.pw_compiler_laws.specs.Premises.{IsShownOf, DeckCallsFit, DeckRowCallsFit, IsFitting, AreFitting}
use Rattle.pw_compiler_laws.specs.Systems.{code_in, codes_in, screens_of, system_of}
use Rattle.std.proofs.lemmas.List.{length-map}
use Rattle.std.proofs.lemmas.Option.{same_Some, slice_get_within}
use Rattle.pw_compiler_laws.proofs.Items.{places-few}
use Rattle.pw_compiler_laws.proofs.Sending.{position-map}
use Rattle.pw_tree_meaning.specs.Written.{IsWritten, RowIsWritten}
use Rattle.pw_tree_meaning.proofs.Resolved.{each-found}
use Rattle.pw_compiler_laws.proofs.Upper.{kept-places}
use Rattle.pw_compiler_laws.proofs.Grounds.{known-of, ground-of, starts-of}
use Rattle.pw_compiler_laws.proofs.Resolving.{Shaped, RowShaped, suited, receivers-own, named-own}
use Rattle.pw_compiler_laws.proofs.Suits as suits
use Rattle.pw_compiler_laws.proofs.Suits.{Suits}
use Rattle.pw_compiler_laws.proofs.Programs.{IsProgram, IsServer}

-- ---- programs by their numbers

pub each-program : (P : Program → Type 0) (programs : List Program) (q : ℕ) → Each P programs → q < length programs → P (tree.program_at programs q)
each-program P [] q each lt = absurd (omega (arith, lt))
each-program P (x ∷ xs) zero each lt = each.0
each-program P (x ∷ xs) (suc q) each lt = each-program P xs q each.1 (omega (arith, lt))

pub code-in : (links : Links) (programs : List Program) (q first : ℕ) → q < length programs
    → slice_index_or (codes_in links first programs) q no_code ≡ code_in links (first + first_screen programs q) (tree.program_at programs q)
code-in links [] q first lt = absurd (omega (arith, lt))
code-in links (x ∷ xs) zero first lt = let same : first ≡ first + 0 = omega arith in ap (λ n. code_in links n x) same
code-in links (x ∷ xs) (suc q) first lt =
    let same : first + length x.screens + first_screen xs q ≡ first + (length x.screens + first_screen xs q) = omega arith in
    code-in links xs q (first + length x.screens) (omega (arith, lt)) ∙ ap (λ n. code_in links n (tree.program_at xs q)) same

pub codes-long : (links : Links) (programs : List Program) (first : ℕ) → length (codes_in links first programs) ≡ length programs
codes-long links [] first = refl
codes-long links (x ∷ xs) first = ap suc (codes-long links xs (first + length x.screens))

pub server-in : (links : Links) (programs : List Program) (q : ℕ) → q < length programs
    → slice_index_or (map (code_in links 0) programs) q no_code ≡ code_in links 0 (tree.program_at programs q)
server-in links [] q lt = absurd (omega (arith, lt))
server-in links (x ∷ xs) zero lt = refl
server-in links (x ∷ xs) (suc q) lt = server-in links xs q (omega (arith, lt))

-- ---- screens by their numbers

got-front : {A : Type 0} (xs ys : List A) (i : ℕ) (d x : A) → slice_get xs i ≡ Some x → slice_index_or (xs ++ ys) i d ≡ x
got-front [] ys i d x e = absurd cc
got-front (y ∷ xs) ys zero d x e = same_Some y x e
got-front (y ∷ xs) ys (suc i) d x e = got-front xs ys i d x e

got-back : {A : Type 0} (xs ys : List A) (i : ℕ) (d : A) → slice_index_or (xs ++ ys) (length xs + i) d ≡ slice_index_or ys i d
got-back [] ys i d = let same : 0 + i ≡ i = omega arith in ap (λ n. slice_index_or ys n d) same
got-back (x ∷ xs) ys i d =
    let same : suc (length xs) + i ≡ suc (length xs + i) = omega arith in
    ap (λ n. slice_index_or (x ∷ (xs ++ ys)) n d) same ∙ got-back xs ys i d

pub screen-in : (programs : List Program) (q i : ℕ) (d table : ScreenTable) → q < length programs → slice_get (tree.program_at programs q).screens i ≡ Some table
    → slice_index_or (screens_of programs) (first_screen programs q + i) d ≡ table
screen-in [] q i d table lt e = absurd (omega (arith, lt))
screen-in (x ∷ xs) zero i d table lt e =
    let same : 0 + i ≡ i = omega arith in
    ap (λ n. slice_index_or (x.screens ++ screens_of xs) n d) same ∙ got-front x.screens (screens_of xs) i d table e
screen-in (x ∷ xs) (suc q) i d table lt e =
    let same : length x.screens + first_screen xs q + i ≡ length x.screens + (first_screen xs q + i) = omega arith in
    ap (λ n. slice_index_or (x.screens ++ screens_of xs) n d) same ∙ got-back x.screens (screens_of xs) (first_screen xs q + i) d
    ∙ screen-in xs q i d table (omega (arith, lt)) e

-- what is found has a place
pub record Found {A : Type 0} (test : A → Bool) (k : ℕ) (xs : List A) (x : A) : Type 0 where
  pub number : ℕ
  pub place : position_from test k xs ≡ Some (k + number)
  pub got : slice_get xs number ≡ Some x

pub found-at : {A : Type 0} (test : A → Bool) (k : ℕ) (xs : List A) (x : A) → find test xs ≡ Some x → Found test k xs x
found-at test k [] x e = absurd cc
found-at {A} test k (y ∷ ys) x e = by (test y) refl e (λ later. found-at test (k + 1) ys x later)
  where
    by : (b : Bool) → test y ≡ b → cond b (Some y) (find test ys) ≡ Some x → (find test ys ≡ Some x → Found test (k + 1) ys x) → Found test k (y ∷ ys) x
    by true t one later = let same : k ≡ k + 0 = omega arith in record { number = 0; place = ap (λ b. cond b (Some k) (position_from test (k + 1) ys)) t ∙ ap Some same; got = one }
    by false t one later =
        let r = later one in
        let same : k + 1 + r.number ≡ k + suc r.number = omega arith in
        record { number = suc r.number; place = ap (λ b. cond b (Some k) (position_from test (k + 1) ys)) t ∙ r.place ∙ ap Some same; got = r.got }

-- what has a place is found
pub some-found : {A : Type 0} (test : A → Bool) (k : ℕ) (xs : List A) → IsSome (position_from test k xs) → (x : A) × (find test xs ≡ Some x)
some-found test k [] some = absurd cc
some-found {A} test k (y ∷ ys) some = by (test y) some (λ later. some-found test (k + 1) ys later)
  where
    by : (b : Bool) → IsSome (cond b (Some k) (position_from test (k + 1) ys)) → (IsSome (position_from test (k + 1) ys) → (x : A) × (find test ys ≡ Some x)) → (x : A) × (cond b (Some y) (find test ys) ≡ Some x)
    by true some' later = (y, refl)
    by false some' later = later some'

-- the number of a program that is named is that of one that is there
pub program-below : (programs : List Program) (name : Word) → IsSome (position_from (λ (one : Word). bytes_eq one name) 0 (map (λ (program : Program). program.name) programs))
    → unwrap_or (position (λ (program : Program). bytes_eq program.name name) programs) 0 < length programs
program-below programs name some =
    let names = map (λ (program : Program). program.name) programs in
    let test : Word → Bool = λ one. bytes_eq one name in
    let s = some-found test 0 names some in
    let r = found-at test 0 names s.0 s.1 in
    let same : 0 + r.number ≡ r.number = omega arith in
    let number : unwrap_or (position (λ (program : Program). bytes_eq program.name name) programs) 0 ≡ r.number =
    ap (λ o. unwrap_or o 0) (sym (position-map (λ (program : Program). program.name) test programs) ∙ position_from-zero test names ∙ r.place) ∙ same in
    omega (arith, number, slice_get_within names r.number s.0 r.got, length-map programs (λ (program : Program). program.name))

-- ---- programs of terminals

module _ (rule : LockRule) (deck : DeckModel) (q : ℕ) (lt : q < length deck.programs) (sound : IsSoundProgram false deck (tree.program_at deck.programs q)) (fitting : IsFitting deck (tree.program_at deck.programs q)) where
  abbrev system : System
  system = system_of rule deck

  abbrev setting : Setting
  setting = setting_of deck q

  -- a screen of the program, by its number in the system
  screen-of : (name : Word) (table : ScreenTable) → screen_named setting.program name ≡ Some table → suits.IsScreenOf system setting name table
  screen-of name table is =
      let test : ScreenTable → Bool = λ screen. bytes_eq screen.name name in
      let r = found-at test 0 setting.program.screens table is in
      let same : 0 + r.number ≡ r.number = omega arith in
      let number : unwrap_or (position test setting.program.screens) 0 ≡ r.number =
      ap (λ o. unwrap_or o 0) (position_from-zero test setting.program.screens ∙ r.place) ∙ same in
      record {
        coded = ap (λ n. slice_index_or (screens_of deck.programs) (first_screen deck.programs q + n) (record { name = []; fields = [] })) number
            ∙ screen-in deck.programs q r.number (record { name = []; fields = [] }) table lt r.got;
        shown = each-found (λ (one : ScreenTable). Each (λ (field : Field). IsShownOf setting.program.layout field.shown) one.fields) test setting.program.screens table fitting.screens is;
      }

  shows-screen : (name : Word) → IsSome (screen_of (scope_of false deck setting.program) name) → suits.ShowsScreen system setting name
  shows-screen name some =
      let r = some-found (λ (screen : ScreenTable). bytes_eq screen.name name) 0 setting.program.screens some in
      record { table = r.0; is = r.1; of = screen-of name r.0 r.1 }

  shown-name : (name : Word) (one : Subscript) (o : Option ℕ) → IsShownName (scope_of false deck setting.program) name (Some one) o → suits.Own system setting (operands.Item name (Some one))
  shown-name name one (Some n) is = absurd cc
  shown-name name one None is = named-own system setting is_any name (Some one) is

  shows : (shown : Operand) → IsDisplayOperand (scope_of false deck setting.program) shown → suits.Shows system setting shown
  shows (operands.Item name None) is = by (screen_named setting.program name) refl
    where
      by : (o : Option ScreenTable) → screen_named setting.program name ≡ o → suits.ShownBy system setting o name
      by None e = tt
      by (Some table) e = screen-of name table e
  shows (operands.Item name (Some one)) is = shown-name name one (screen_of (scope_of false deck setting.program) name) is
  shows (operands.Number digits) is = tt
  shows (operands.Text chars) is = tt
  shows operands.Spaces is = tt
  shows operands.Zeros is = tt

  mutual
    shaped : (one : Statement) → Resolves (scope_of false deck setting.program) one → HasForms false one → DeckCallsFit deck setting.program one → IsWritten one → Shaped system setting one
    shaped (form.OnSizeError' line a n first m second) is forms fits written = (row-shaped first is.1 forms.0 fits.0 written.0, row-shaped second is.2 forms.1 fits.1 written.1)
    shaped (form.If' line cond n first m second) is forms fits written = (row-shaped first is.1 forms.0 fits.0 written.0, row-shaped second is.2 forms.1 fits.1 written.1)
    shaped (form.DisplayBase line name) is forms fits written = shows-screen name is.0
    shaped (form.Display line shown) is forms fits written = shows shown is.0
    shaped (form.Accept line name keys) is forms fits written = shows-screen name is.0
    shaped (form.Call line name arguments) is forms fits written = record {
      requester = refl;
      own = receivers-own system setting arguments is.1;
      there = program-below deck.programs name is.0;
      few = places-few false deck setting.program sound.laid arguments;
      kept = kept-places deck setting.program arguments (receivers-own system setting arguments is.1) written;
      fits = fits;
    }
    shaped (form.Receive line into) is forms fits written = absurd forms
    shaped (form.Move line from to) is forms fits written = tt
    shaped (form.Arithmetic line a) is forms fits written = tt
    shaped (form.Perform line name) is forms fits written = tt
    shaped (form.PerformTimes line name times) is forms fits written = tt
    shaped (form.PerformUntil line name cond) is forms fits written = tt
    shaped (form.PerformOneOf line names position) is forms fits written = tt
    shaped (form.Send line message class codes) is forms fits written = tt
    shaped (form.Reply line from) is forms fits written = tt
    shaped (form.Read line file locking key into) is forms fits written = tt
    shaped (form.ReadNext line file locking key into) is forms fits written = tt
    shaped (form.Write line file from) is forms fits written = tt
    shaped (form.Rewrite line file from) is forms fits written = tt
    shaped (form.Delete line file key) is forms fits written = tt
    shaped (form.Exit line) is forms fits written = tt
    shaped (form.ExitProgram line) is forms fits written = tt
    shaped (form.StopRun line) is forms fits written = tt
    shaped (form.Begin line) is forms fits written = tt
    shaped (form.End line) is forms fits written = tt
    shaped (form.Abort line) is forms fits written = tt
    shaped (form.Restart line) is forms fits written = tt

    row-shaped : {n : _} (row : Row_of-Statement n) → RowResolves (scope_of false deck setting.program) row → RowHasForms false row → DeckRowCallsFit deck setting.program row → RowIsWritten row → RowShaped system setting row
    row-shaped end_of-Statement is forms fits written = tt
    row-shaped (more_of-Statement one rest) is forms fits written = (shaped one is.0 forms.0 fits.0 written.0, row-shaped rest is.1 forms.1 fits.1 written.1)

  body-suits : (ones : List Statement) → Each (Resolves (scope_of false deck setting.program)) ones → Each (HasForms false) ones → Each (DeckCallsFit deck setting.program) ones → Each IsWritten ones → Each (Suits system setting) ones
  body-suits [] is forms fits written = tt
  body-suits (one ∷ ones) is forms fits written = (suited system setting one is.0 (shaped one is.0 forms.0 fits.0 written.0), body-suits ones is.1 forms.1 fits.1 written.1)

  paragraphs-suit : (ps : List Paragraph) → Each (λ (p : Paragraph). Each (Resolves (scope_of false deck setting.program)) p.body) ps → Each (λ (p : Paragraph). Each (HasForms false) p.body) ps
      → Each (λ (p : Paragraph). Each (DeckCallsFit deck setting.program) p.body) ps → Each (λ (p : Paragraph). Each IsWritten p.body) ps → Each (λ (p : Paragraph). Each (Suits system setting) p.body) ps
  paragraphs-suit [] is forms fits written = tt
  paragraphs-suit (p ∷ ps) is forms fits written = (body-suits p.body is.0 forms.0 fits.0 written.0, paragraphs-suit ps is.1 forms.1 fits.1 written.1)

  pub is-program : IsProgram system deck q
  is-program =
      let none : 0 + first_screen deck.programs q ≡ first_screen deck.programs q = omega arith in
      let below : q < length (codes_in (links_of deck) 0 deck.programs) = omega (arith, lt, codes-long (links_of deck) deck.programs 0) in
      record {
        known = known-of false setting.program sound.laid;
        requester = lt-ltb q (length (codes_in (links_of deck) 0 deck.programs)) below;
        coded = code-in (links_of deck) deck.programs q 0 lt ∙ ap (λ n. code_in (links_of deck) n setting.program) none;
        items = fitting.items;
        suits = paragraphs-suit setting.program.paragraphs sound.resolves sound.forms fitting.calls fitting.written;
        ground = ground-of false setting.program sound.laid;
        starts = starts-of false setting.program sound.laid;
      }

-- ---- servers

module _ (rule : LockRule) (deck : DeckModel) (q : ℕ) (lt : q < length deck.servers) (sound : IsSoundProgram true deck (tree.program_at deck.servers q)) where
  abbrev server_system : System
  server_system = system_of rule deck

  module _ (message : List ℕ) where
    abbrev served : Setting
    served = server_setting deck q message false

    mutual
      server-shaped : (one : Statement) → HasForms true one → Shaped server_system served one
      server-shaped (form.OnSizeError' line a n first m second) forms = (row-server first forms.0, row-server second forms.1)
      server-shaped (form.If' line cond n first m second) forms = (row-server first forms.0, row-server second forms.1)
      server-shaped (form.DisplayBase line name) forms = absurd forms
      server-shaped (form.Display line shown) forms = absurd forms
      server-shaped (form.Accept line name keys) forms = absurd forms
      server-shaped (form.Call line name arguments) forms = absurd forms
      server-shaped (form.Receive line into) forms = refl
      server-shaped (form.Move line from to) forms = tt
      server-shaped (form.Arithmetic line a) forms = tt
      server-shaped (form.Perform line name) forms = tt
      server-shaped (form.PerformTimes line name times) forms = tt
      server-shaped (form.PerformUntil line name cond) forms = tt
      server-shaped (form.PerformOneOf line names position) forms = tt
      server-shaped (form.Send line message' class codes) forms = tt
      server-shaped (form.Reply line from) forms = tt
      server-shaped (form.Read line file locking key into) forms = tt
      server-shaped (form.ReadNext line file locking key into) forms = tt
      server-shaped (form.Write line file from) forms = tt
      server-shaped (form.Rewrite line file from) forms = tt
      server-shaped (form.Delete line file key) forms = tt
      server-shaped (form.Exit line) forms = tt
      server-shaped (form.ExitProgram line) forms = tt
      server-shaped (form.StopRun line) forms = tt
      server-shaped (form.Begin line) forms = tt
      server-shaped (form.End line) forms = tt
      server-shaped (form.Abort line) forms = tt
      server-shaped (form.Restart line) forms = tt

      row-server : {n : _} (row : Row_of-Statement n) → RowHasForms true row → RowShaped server_system served row
      row-server end_of-Statement forms = tt
      row-server (more_of-Statement one rest) forms = (server-shaped one forms.0, row-server rest forms.1)

    server-body : (ones : List Statement) → Each (Resolves (scope_of true deck served.program)) ones → Each (HasForms true) ones → Each (Suits server_system served) ones
    server-body [] is forms = tt
    server-body (one ∷ ones) is forms = (suited server_system served one is.0 (server-shaped one forms.0), server-body ones is.1 forms.1)

    server-suits : (ps : List Paragraph) → Each (λ (p : Paragraph). Each (Resolves (scope_of true deck served.program)) p.body) ps → Each (λ (p : Paragraph). Each (HasForms true) p.body) ps
        → Each (λ (p : Paragraph). Each (Suits server_system served) p.body) ps
    server-suits [] is forms = tt
    server-suits (p ∷ ps) is forms = (server-body p.body is.0 forms.0, server-suits ps is.1 forms.1)

  pub is-server : IsServer server_system deck q
  is-server =
      let programs = codes_in (links_of deck) 0 deck.programs in
      let behind : nat_lt (length programs + q) (length programs) ≡ false = le-ltb (length programs + q) (length programs) (omega arith) in
      let number : length programs + q - length programs ≡ q = omega arith in
      record {
        known = known-of true (tree.program_at deck.servers q) sound.laid;
        server = behind;
        coded = ap (λ b. if b then program_at server_system (length programs + q) else slice_index_or (map (code_in (links_of deck) 0) deck.servers) (length programs + q - length programs) no_code) behind
            ∙ ap (λ n. slice_index_or (map (code_in (links_of deck) 0) deck.servers) n no_code) number
            ∙ server-in (links_of deck) deck.servers q lt;
        suits = λ message. server-suits message (tree.program_at deck.servers q).paragraphs sound.resolves sound.forms;
        ground = ground-of true (tree.program_at deck.servers q) sound.laid;
        starts = starts-of true (tree.program_at deck.servers q) sound.laid;
      }

-- ---- all of a deck

pub all-programs : (rule : LockRule) (deck : DeckModel) → IsSoundDeck deck → AreFitting deck → (q : ℕ) → q < length deck.programs → IsProgram (system_of rule deck) deck q
all-programs rule deck sound fitting q lt =
    is-program rule deck q lt (each-program (IsSoundProgram false deck) deck.programs q sound.programs lt) (each-program (IsFitting deck) deck.programs q fitting lt)

pub all-servers : (rule : LockRule) (deck : DeckModel) → IsSoundDeck deck → (q : ℕ) → q < length deck.servers → IsServer (system_of rule deck) deck q
all-servers rule deck sound q lt = is-server rule deck q lt (each-program (IsSoundProgram true deck) deck.servers q sound.servers lt)
