-- The behaviour of a sound deck is one.
use Rattle.std.proofs.Common.{◌≡◌, ℕ, ◌<◌, ◌≤◌, Bool, true, false, List, [], ◌∷◌, length, take, IsSome, IsTrue, Option, Some, None, option_map, refl, sym, ap, ◌∙◌, subst, arith}
use Rattle.std.specs.Prelude.{bytes_eq, codes, nat_le, ◌&&◌, if◌then◌else◌}
use Rattle.std.specs.Option.{option_or}
use Rattle.std.proofs.lemmas.Bool.{eqb-true, leb-true, and_parts}
use Rattle.std.proofs.lemmas.Slice.Eq.{bytes_eq-Decides}
use Rattle.std.proofs.lemmas.List.{length-take-le}
use Rattle.std.proofs.lemmas.Option.{slice_get_within}
use Rattle.pw_terminal.proofs.Cells.{length-digits_of}
use Rattle.pw_words.specs.Words.{Word}
use Rattle.pw_data.specs.declared.item.Item.{Item}
use Rattle.pw_data.specs.Names.{is_this_name}
use Rattle.pw_data.specs.Layouts.{place_at}
use Rattle.pw_forms.specs.declared.operand.Operand.{Operand}
use Rattle.pw_forms.specs.declared.operand.Operand.TheVariants as operands
use Rattle.pw_forms.specs.declared.statement.Paragraph.{Paragraph}
use Rattle.pw_forms.specs.declared.statement.Statement.{Statement}
use Rattle.pw_forms.specs.declared.statement.Statement as form
use Rattle.pw_forms.specs.declared.statement.Statement.{Row_of-Statement, end_of-Statement, more_of-Statement}
use Rattle.pw_operands.specs.declared.variable.Variable.{Variable}
use Rattle.pw_operands.specs.declared.register.SpecialRegister as register
use Rattle.pw_operands.specs.declared.register.SpecialRegister.TheVariants.{FileStatus}
use Rattle.pw_operands.specs.Variables.{register_of, of_register, of_place}
use Rattle.pw_operands.specs.Scope.{file_of}
use Rattle.pw_operands.specs.Resolved.{Each, Resolves, RowResolves, ParagraphResolves, IsItem, IsOfFile, is_key, is_record}
use Rattle.pw_code.specs.declared.file.FileCall.{FileCall}
use Rattle.pw_code.specs.declared.file.FileInfo.{FileInfo}
use Rattle.pw_code.specs.declared.file.FileOp.{FileOp}
use Rattle.pw_code.specs.declared.file.FileOp.TheVariants.{Read, Next, Write, Rewrite, Delete, ReadLock, NextLock}
use Rattle.pw_code.specs.declared.verb.Verb.{Verb}
use Rattle.pw_code.specs.declared.verb.Verb.TheVariants as verb
use Rattle.pw_files.specs.Records.{IsContent}
use Rattle.pw_onecopy.specs.IsBehaviour.{is_written}
use Rattle.pw_onecopy.specs.Operation.{key_of}
use Rattle.pw_tree_meaning.specs.Program.{Program, DeckModel, item_named, key_length, key_length_by, file_number}
use Rattle.pw_tree_meaning.specs.Store.{Store, spot_of}
use Rattle.pw_tree_meaning.specs.State.{ProgramState, Registers}
use Rattle.pw_tree_meaning.specs.Operands.{ResolvedOperand, Stored, Fixed, operand_taken, taken_item, register_named, occurrence_of, subscript_value, chars_in}
use Rattle.pw_tree_meaning.specs.Values.{Register}
use Rattle.pw_tree_meaning.specs.Sound.{IsSoundProgram, HasForms, RowHasForms, scope_of}
use Rattle.pw_tree_meaning.proofs.trees.Trees.{Rules}
use Rattle.pw_tree_meaning.proofs.trees.Statements.{Suited, SuitedRow, SuitedBody, KeyRight, RecordRight}
use Rattle.pw_tree_meaning.proofs.trees.Programs.{SuitedAll}
use Rattle.pw_tree_meaning.proofs.Resolved.{each-found, class-below, file-got}
use Rattle.pw_tree_meaning.proofs.storage.Named.{no-item}
use Rattle.pw_tree_meaning.proofs.Stored.{FitsProgram, fits-kept, IsLong, items-long}
use Rattle.pw_tree_meaning.proofs.Servers.{server_rules}
use Rattle.pw_tree_meaning.proofs.Requesters.{requester_rules}

-- ---- requesters

-- the verbs of terminals, and messages to classes that are there
abbrev pub RequesterRight : DeckModel → Verb → Type 0
RequesterRight deck (verb.Send class message) = class < length deck.classes
RequesterRight deck (verb.File call) = ⊥
RequesterRight deck (verb.Reply reply) = ⊥
RequesterRight deck _ = Unit {0}

module _ (deck : DeckModel) (most : ℕ) (program : Program) (first : ℕ) where
  abbrev r : Rules
  r = requester_rules deck most (RequesterRight deck) (λ x. tt)

  mutual
    suited : (one : Statement) → Resolves (scope_of false deck program) one → HasForms false one → Suited r program first false [] one
    suited (form.OnSizeError' line a n first m second) fit forms = (row-suited first fit.1 forms.0, row-suited second fit.2 forms.1)
    suited (form.If' line cond n first m second) fit forms = (row-suited first fit.1 forms.0, row-suited second fit.2 forms.1)
    suited (form.StopRun line) fit forms = λ e. tt
    suited (form.DisplayBase line screen) fit forms = tt
    suited (form.Display line shown) fit forms = tt
    suited (form.Accept line screen keys) fit forms = (λ number. tt, tt)
    suited (form.Send line sent class codes) fit forms = λ chars. class-below deck.classes class fit.1.0
    suited (form.Begin line) fit forms = tt
    suited (form.End line) fit forms = tt
    suited (form.Abort line) fit forms = tt
    suited (form.Restart line) fit forms = tt
    suited (form.Reply line from) fit forms = absurd forms
    suited (form.Read line file locking key into) fit forms = absurd forms
    suited (form.ReadNext line file locking after into) fit forms = absurd forms
    suited (form.Write line file from) fit forms = absurd forms
    suited (form.Rewrite line file from) fit forms = absurd forms
    suited (form.Delete line file key) fit forms = absurd forms
    suited _ fit forms = tt

    row-suited : {n : _} → (row : Row_of-Statement n) → RowResolves (scope_of false deck program) row → RowHasForms false row → SuitedRow r program first false [] row
    row-suited end_of-Statement fit forms = tt
    row-suited (more_of-Statement one rest) fit forms = (suited one fit.0 forms.0, row-suited rest fit.1 forms.1)

  body-suited : (body : List Statement) → Each (Resolves (scope_of false deck program)) body → Each (HasForms false) body → SuitedBody r program first false [] body
  body-suited [] fit forms = tt
  body-suited (one ∷ rest) fit forms = (suited one fit.0 forms.0, body-suited rest fit.1 forms.1)

  pub requester-suited : (paragraphs : List Paragraph) → Each (ParagraphResolves (scope_of false deck program)) paragraphs
      → Each (λ paragraph. Each (HasForms false) paragraph.body) paragraphs → SuitedAll r program first false [] paragraphs
  requester-suited [] fit forms = tt
  requester-suited (paragraph ∷ rest) fit forms = (body-suited paragraph.body fit.0 forms.0, requester-suited rest fit.1 forms.1)

-- ---- servers

-- an operation of a server: its file is there, its key is as long as that file's, and what it writes has a record's length
pub record IsCall (deck : DeckModel) (call : FileCall) : Type 0 where
  pub file : call.file < length deck.files
  pub key : length (key_of (key_length deck call.file) call.op call) ≡ key_length deck call.file
  pub content : is_written call.op ≡ true → IsContent (key_length deck call.file) call.content

-- of what is some, the same holds
some-same : {A : Type 0} (P : A → Type 0) (a b : A) → Some a ≡ Some b → P a → P b
some-same P a b e p = let same : a ≡ b = cc in subst P same p

-- the registers of servers have four digits
named-long : (first second : Bool) (registers : Registers) (store : Store) → second ≡ false
    → length (chars_in (if first then Fixed (Register 4 registers.termination) else if second then Fixed (Register 5 registers.restarts) else Fixed (Register 4 registers.file_status)) store) ≡ 4
named-long true second registers store e = length-digits_of 4 registers.termination
named-long false true registers store e = absurd cc
named-long false false registers store e = length-digits_of 4 registers.file_status

file_status-by : (b : Bool) (reg : register.SpecialRegister) → (if b then Some FileStatus else None) ≡ Some reg → FileStatus ≡ reg
file_status-by true reg e = cc
file_status-by false reg e = absurd cc

no-counter : (name : Word) (reg : register.SpecialRegister) → register_of true name ≡ Some reg → (b : Bool) → bytes_eq name (codes "RESTART-COUNTER") ≡ b → b ≡ false
no-counter name reg e false t = refl
no-counter name reg e true t =
    let same : name ≡ codes "RESTART-COUNTER" = (bytes_eq-Decides name (codes "RESTART-COUNTER")).0 t in
    let none : register_of true (codes "RESTART-COUNTER") ≡ Some reg = subst (λ x. register_of true x ≡ Some reg) same e in
    absurd (no-name none)
  where
    no-name : register_of true (codes "RESTART-COUNTER") ≡ Some reg → ⊥
    no-name h = cc

register-long : (name : Word) (registers : Registers) (store : Store) (o : Option register.SpecialRegister) → register_of true name ≡ o → (variable : Variable)
    → option_or (option_map of_register o) None ≡ Some variable → length (chars_in (register_named registers name) store) ≡ variable.size
register-long name registers store None e variable is = absurd cc
register-long name registers store (Some reg) e variable is =
    let file : FileStatus ≡ reg = file_status-by _ reg e in
    let same : of_register reg ≡ variable = cc in
    named-long (bytes_eq name (codes "TERMINATION-STATUS")) (bytes_eq name (codes "RESTART-COUNTER")) registers store (no-counter name reg e _ refl)
    ∙ ap (λ one. (of_register one).size) file ∙ ap (λ v. v.size) same

-- so is an item that is stored
stored-by : (store : Store) (item : Item) → IsLong store item → (k : ℕ) (b : Bool) → (nat_le 1 k && nat_le k item.occurs) ≡ b → (found : ResolvedOperand)
    → (if b then Some (Stored (spot_of item k)) else None) ≡ Some found → length (chars_in found store) ≡ item.size
stored-by store item long k true t found e =
    let parts = and_parts (nat_le 1 k) (nat_le k item.occurs) t in
    let low : 1 ≤ k = leb-true 1 k parts.0 in
    let high : k ≤ item.occurs = leb-true k item.occurs parts.1 in
    some-same (λ x. length (chars_in x store) ≡ item.size) (Stored (spot_of item k)) found e (long k low (omega (arith, high)))
stored-by store item long k false t found e = absurd cc

stored-long : (store : Store) (item : Item) → IsLong store item → (subscript : Option ℕ) (found : ResolvedOperand) → occurrence_of item subscript ≡ Some found
    → length (chars_in found store) ≡ item.size
stored-long store item long None found e =
    some-same (λ x. length (chars_in x store) ≡ item.size) (Stored (spot_of item 1)) found e (long 1 (omega arith) (omega arith))
stored-long store item long (Some k) found e = stored-by store item long k _ refl found e

module _ (deck : DeckModel) (program : Program) (sound : IsSoundProgram true deck program) where
  no-register : (name : Word) (item : Item) → item_named program name ≡ Some item → (o : Option register.SpecialRegister) → register_of true name ≡ o → (variable : Variable)
      → option_or (option_map of_register o) (Some (of_place (place_at item))) ≡ Some variable → item.size ≡ variable.size
  no-register name item there None e variable is = let same : of_place (place_at item) ≡ variable = cc in ap (λ v. v.size) same
  no-register name item there (Some reg) e variable is = absurd (both (no-item true program.layout sound.laid name (subst IsSome (sym e) refl)))
    where
      both : item_named program name ≡ None → ⊥
      both none = cc

  taken-by : (s : ProgramState) (name : Word) (subscript : Option ℕ) (found : ResolvedOperand) (variable : Variable) → FitsProgram program s.store
      → (o : Option Item) → item_named program name ≡ o → taken_item o s.registers name subscript ≡ Some found
      → option_or (option_map of_register (register_of true name)) (option_map of_place (option_map place_at o)) ≡ Some variable
      → length (chars_in found s.store) ≡ variable.size
  taken-by s name subscript found variable fits None o_is e is =
      some-same (λ x. length (chars_in x s.store) ≡ variable.size) (register_named s.registers name) found e
      (register-long name s.registers s.store (register_of true name) refl variable is)
  taken-by s name subscript found variable fits (Some item) o_is e is =
      stored-long s.store item
      (each-found (IsLong s.store) (λ one. is_this_name one.name name) program.layout.items item (items-long true program s.store sound.laid fits) o_is)
      subscript found e
      ∙ no-register name item o_is (register_of true name) refl variable is

  -- an operand that is an item or a register has as many characters as this is long
  taken-long : (s : ProgramState) (test : Variable → Bool) (operand : Operand) (found : ResolvedOperand) → FitsProgram program s.store
      → IsItem (scope_of true deck program) test operand → operand_taken program s operand ≡ Some found
      → (variable : Variable) × IsTrue (test variable) × (length (chars_in found s.store) ≡ variable.size)
  taken-long s test (operands.Item name subscript) found fits is e = (
    is.variable,
    is.passes,
    taken-by s name (option_map (subscript_value program s) subscript) found is.variable fits (item_named program name) refl e is.found,
  )
  taken-long s test (operands.Number digits) found fits is e = absurd is
  taken-long s test (operands.Text chars) found fits is e = absurd is
  taken-long s test operands.Spaces found fits is e = absurd is
  taken-long s test operands.Zeros found fits is e = absurd is

  -- ---- operations

  abbrev FileOf : Word → FileInfo → Type 0
  FileOf name file = (file_number deck name < length deck.files) × (key_length deck (file_number deck name) ≡ file.key)

  file-of : (name : Word) (file : FileInfo) → file_of (scope_of true deck program) name ≡ Some file → FileOf name file
  file-of name file e =
      let got = file-got deck.files name file e in
      (slice_get_within deck.files (file_number deck name) file got, ap key_length_by got)

  -- the operation is one with a key
  abbrev IsKeyed : FileOp → Type 0
  IsKeyed Write = ⊥
  IsKeyed Rewrite = ⊥
  IsKeyed _ = Unit {0}

  keyed-call : (op : FileOp) → IsKeyed op → (name : Word) (file : FileInfo) → FileOf name file → (chars : List ℕ) → length chars ≡ file.key
      → IsCall deck (record { file = file_number deck name; op = op; key = chars; content = [] })
  keyed-call Write keyed name file at chars long = absurd keyed
  keyed-call Rewrite keyed name file at chars long = absurd keyed
  keyed-call _ keyed name file at chars long = record { file = at.0; key = long ∙ sym at.1; content = λ e. absurd cc }

  written-key : (op : FileOp) → is_written op ≡ true → (n file : ℕ) (chars : List ℕ)
      → key_of n op (record { file = file; op = op; key = []; content = chars }) ≡ take n chars
  written-key Write written n file chars = refl
  written-key Rewrite written n file chars = refl
  written-key Read written n file chars = absurd cc
  written-key Next written n file chars = absurd cc
  written-key Delete written n file chars = absurd cc
  written-key ReadLock written n file chars = absurd cc
  written-key NextLock written n file chars = absurd cc

  written-call : (op : FileOp) → is_written op ≡ true → (name : Word) (file : FileInfo) → FileOf name file → (chars : List ℕ) → file.key ≤ length chars → length chars ≤ 4000
      → IsCall deck (record { file = file_number deck name; op = op; key = []; content = chars })
  written-call op written name file at chars low high = record {
    file = at.0;
    key =
        ap length (written-key op written (key_length deck (file_number deck name)) (file_number deck name) chars)
        ∙ length-take-le (key_length deck (file_number deck name)) chars (omega (arith, at.1, low));
    content = λ e. (omega (arith, at.1, low), high);
  }

  module _ (most : ℕ) (message : List ℕ) where
    abbrev q : Rules
    q = server_rules deck most (IsCall deck) (FitsProgram program) (fits-kept program)

    key-right : (op : FileOp) → IsKeyed op → (name : Word) (key : Operand) → IsOfFile (scope_of true deck program) is_key name key → KeyRight q program 0 true message op name key
    key-right op keyed name key is s found fits e =
        let t = taken-long s (is_key is.file) key found fits is.item e in
        keyed-call op keyed name is.file (file-of name is.file is.found) (chars_in found s.store) (t.2 ∙ eqb-true _ _ t.1)

    record-right : (op : FileOp) → is_written op ≡ true → (name : Word) (from : Operand) → IsOfFile (scope_of true deck program) is_record name from → RecordRight q program 0 true message op name from
    record-right op written name from is s found fits e =
        let t = taken-long s (is_record is.file) from found fits is.item e in
        let parts = and_parts _ _ t.1 in
        let low : is.file.key ≤ t.0.size = leb-true _ _ parts.0 in
        let high : t.0.size ≤ 4000 = leb-true _ _ parts.1 in
        written-call op written name is.file (file-of name is.file is.found) (chars_in found s.store) (omega (arith, low, t.2)) (omega (arith, high, t.2))

    lock-keyed : (b : Bool) (locking other : FileOp) → IsKeyed locking → IsKeyed other → IsKeyed (if b then locking else other)
    lock-keyed true locking other f g = f
    lock-keyed false locking other f g = g

    mutual
      served : (one : Statement) → Resolves (scope_of true deck program) one → HasForms true one → Suited q program 0 true message one
      served (form.OnSizeError' line a n first m second) fit forms = (row-served first fit.1 forms.0, row-served second fit.2 forms.1)
      served (form.If' line cond n first m second) fit forms = (row-served first fit.1 forms.0, row-served second fit.2 forms.1)
      served (form.StopRun line) fit forms = λ e. absurd cc
      served (form.DisplayBase line screen) fit forms = absurd forms
      served (form.Display line shown) fit forms = absurd forms
      served (form.Accept line screen keys) fit forms = absurd forms
      served (form.Send line sent class codes) fit forms = absurd forms
      served (form.Begin line) fit forms = absurd forms
      served (form.End line) fit forms = absurd forms
      served (form.Abort line) fit forms = absurd forms
      served (form.Restart line) fit forms = absurd forms
      served (form.Reply line from) fit forms = λ chars. tt
      served (form.Read line file locking key into) fit forms = key-right (if locking then ReadLock else Read) (lock-keyed locking ReadLock Read tt tt) file key fit.0
      served (form.ReadNext line file locking after into) fit forms = key-right (if locking then NextLock else Next) (lock-keyed locking NextLock Next tt tt) file after fit.0
      served (form.Write line file from) fit forms = record-right Write refl file from fit.0
      served (form.Rewrite line file from) fit forms = record-right Rewrite refl file from fit.0
      served (form.Delete line file key) fit forms = key-right Delete tt file key fit.0
      served _ fit forms = tt

      row-served : {n : _} → (row : Row_of-Statement n) → RowResolves (scope_of true deck program) row → RowHasForms true row → SuitedRow q program 0 true message row
      row-served end_of-Statement fit forms = tt
      row-served (more_of-Statement one rest) fit forms = (served one fit.0 forms.0, row-served rest fit.1 forms.1)

    body-served : (body : List Statement) → Each (Resolves (scope_of true deck program)) body → Each (HasForms true) body → SuitedBody q program 0 true message body
    body-served [] fit forms = tt
    body-served (one ∷ rest) fit forms = (served one fit.0 forms.0, body-served rest fit.1 forms.1)

    pub server-suited : (paragraphs : List Paragraph) → Each (ParagraphResolves (scope_of true deck program)) paragraphs
        → Each (λ paragraph. Each (HasForms true) paragraph.body) paragraphs → SuitedAll q program 0 true message paragraphs
    server-suited [] fit forms = tt
    server-suited (paragraph ∷ rest) fit forms = (body-served paragraph.body fit.0 forms.0, server-suited rest fit.1 forms.1)
