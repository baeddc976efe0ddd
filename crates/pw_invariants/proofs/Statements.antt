-- The servers of a deck ask no other operations than those of their statements.
use Rattle.std.proofs.Common.{◌≡◌, ℕ, zero, suc, ◌==◌, Bool, true, false, List, [], ◌∷◌, if◌then◌else◌, refl, sym, subst}
use Rattle.std.specs.List.{list_all}
use Rattle.std.proofs.lemmas.Bool.{and_parts, eq-eqb, true≢false}
use Rattle.pw_code.specs.declared.file.FileCall.{FileCall}
use Rattle.pw_code.specs.declared.file.FileOp.{FileOp}
use Rattle.pw_code.specs.declared.file.FileOp.TheVariants.{Read, Next, Write, Rewrite, Delete, ReadLock, NextLock}
use Rattle.pw_code.specs.declared.lock.LockRule.{LockRule}
use Rattle.pw_code.specs.declared.verb.Verb.{Verb}
use Rattle.pw_forms.specs.declared.operand.Operand.{Operand}
use Rattle.pw_forms.specs.declared.statement.Paragraph.{Paragraph}
use Rattle.pw_forms.specs.declared.statement.Statement.{Statement}
use Rattle.pw_forms.specs.declared.statement.Statement as form
use Rattle.pw_forms.specs.declared.statement.Statement.{Row_of-Statement, end_of-Statement, more_of-Statement}
use Rattle.pw_invariants.specs.Operations.{AsksOnly, may_operate, operates_only, row_operates_only, server_operates_only, servers_operate_only}
use Rattle.pw_operands.specs.Resolved.{Each}
use Rattle.pw_tree_meaning.proofs.Resolved.{below-got}
use Rattle.pw_tree_meaning.proofs.Servers.{ServerRight, ops-right, server_rules}
use Rattle.pw_tree_meaning.proofs.trees.Programs.{SuitedAll}
use Rattle.pw_tree_meaning.proofs.trees.Statements.{KeyRight, RecordRight, Suited, SuitedBody, SuitedRow}
use Rattle.pw_tree_meaning.proofs.trees.Trees.{Rules}
use Rattle.pw_tree_meaning.specs.OfDeck.{behaviour, ops}
use Rattle.pw_tree_meaning.specs.Program.{DeckModel, Program, file_number, program_at}
use Rattle.pw_tree_meaning.specs.Sound.{HasForms, IsSoundDeck, IsSoundProgram, RowHasForms}
use Rattle.pw_tree_meaning.specs.Store.{Store}
use Rattle.pw_words.specs.Words.{Word}

-- nothing is said of stores
abbrev any_store : Store → Type 0
any_store store = Unit {0}

module _ (deck : DeckModel) (f : ℕ) (may : FileOp → Bool) where
  -- an operation on file f is one that may be
  abbrev pub MayCall : FileCall → Type 0
  MayCall call = call.file ≡ f → may call.op ≡ true

  may-by : (b : Bool) (op : FileOp) → (if b then may op else true) ≡ true → b ≡ true → may op ≡ true
  may-by true op fine is = fine
  may-by false op fine is = absurd (true≢false (sym is))

  may-name : (file : Word) (op : FileOp) → may_operate deck f may file op ≡ true → file_number deck file ≡ f → may op ≡ true
  may-name file op fine is = may-by (file_number deck file == f) op fine (eq-eqb (file_number deck file) f is)

  module _ (most : ℕ) (program : Program) (message : List ℕ) where
    abbrev q : Rules
    q = server_rules deck most MayCall any_store (λ spot chars store ok. ok)

    key-may : (op : FileOp) (file : Word) (key : Operand) → may_operate deck f may file op ≡ true → KeyRight q program 0 true message op file key
    key-may op file key fine s found fits e is = may-name file op fine is

    record-may : (op : FileOp) (file : Word) (from : Operand) → may_operate deck f may file op ≡ true → RecordRight q program 0 true message op file from
    record-may op file from fine s found fits e is = may-name file op fine is

    mutual
      may-suit : (one : Statement) → operates_only deck f may one ≡ true → HasForms true one → Suited q program 0 true message one
      may-suit (form.OnSizeError' line a n first m second) fine forms =
          let parts = and_parts (row_operates_only deck f may first) (row_operates_only deck f may second) fine in
          (row-may first parts.0 forms.0, row-may second parts.1 forms.1)
      may-suit (form.If' line cond n first m second) fine forms =
          let parts = and_parts (row_operates_only deck f may first) (row_operates_only deck f may second) fine in
          (row-may first parts.0 forms.0, row-may second parts.1 forms.1)
      may-suit (form.StopRun line) fine forms = λ e. absurd cc
      may-suit (form.DisplayBase line screen) fine forms = absurd forms
      may-suit (form.Display line shown) fine forms = absurd forms
      may-suit (form.Accept line screen keys) fine forms = absurd forms
      may-suit (form.Send line sent class codes) fine forms = absurd forms
      may-suit (form.Begin line) fine forms = absurd forms
      may-suit (form.End line) fine forms = absurd forms
      may-suit (form.Abort line) fine forms = absurd forms
      may-suit (form.Restart line) fine forms = absurd forms
      may-suit (form.Reply line from) fine forms = λ chars. tt
      may-suit (form.Read line file locking key into) fine forms = key-may (if locking then ReadLock else Read) file key fine
      may-suit (form.ReadNext line file locking after into) fine forms = key-may (if locking then NextLock else Next) file after fine
      may-suit (form.Write line file from) fine forms = record-may Write file from fine
      may-suit (form.Rewrite line file from) fine forms = record-may Rewrite file from fine
      may-suit (form.Delete line file key) fine forms = key-may Delete file key fine
      may-suit _ fine forms = tt

      row-may : {n : _} → (row : Row_of-Statement n) → row_operates_only deck f may row ≡ true → RowHasForms true row → SuitedRow q program 0 true message row
      row-may end_of-Statement fine forms = tt
      row-may (more_of-Statement one rest) fine forms =
          let parts = and_parts (operates_only deck f may one) (row_operates_only deck f may rest) fine in
          (may-suit one parts.0 forms.0, row-may rest parts.1 forms.1)

    body-may : (body : List Statement) → list_all (operates_only deck f may) body ≡ true → Each (HasForms true) body → SuitedBody q program 0 true message body
    body-may [] fine forms = tt
    body-may (one ∷ rest) fine forms =
        let parts = and_parts (operates_only deck f may one) (list_all (operates_only deck f may) rest) fine in
        (may-suit one parts.0 forms.0, body-may rest parts.1 forms.1)

    pub paragraphs-may : (paragraphs : List Paragraph) → list_all (λ paragraph. list_all (operates_only deck f may) paragraph.body) paragraphs ≡ true
        → Each (λ paragraph. Each (HasForms true) paragraph.body) paragraphs → SuitedAll q program 0 true message paragraphs
    paragraphs-may [] fine forms = tt
    paragraphs-may (paragraph ∷ rest) fine forms =
        let parts = and_parts (list_all (operates_only deck f may) paragraph.body) (list_all (λ one. list_all (operates_only deck f may) one.body) rest) fine in
        (body-may paragraph.body parts.0 forms.0, paragraphs-may rest parts.1 forms.1)

  -- each server of the deck
  server-may : (programs : List Program) (n : ℕ) → list_all (server_operates_only deck f may) programs ≡ true → server_operates_only deck f may (program_at programs n) ≡ true
  server-may [] n fine = refl
  server-may (program ∷ rest) zero fine = (and_parts (server_operates_only deck f may program) (list_all (server_operates_only deck f may) rest) fine).0
  server-may (program ∷ rest) (suc n) fine =
      server-may rest n (and_parts (server_operates_only deck f may program) (list_all (server_operates_only deck f may) rest) fine).1

  server-forms : (programs : List Program) (n : ℕ) → Each (IsSoundProgram true deck) programs
      → Each (λ paragraph. Each (HasForms true) paragraph.body) (program_at programs n).paragraphs
  server-forms [] n each = tt
  server-forms (program ∷ rest) zero each = each.0.forms
  server-forms (program ∷ rest) (suc n) each = server-forms rest n each.1

  module _ (rule : LockRule) (sound : IsSoundDeck deck) (fine : servers_operate_only deck f may ≡ true) where
    -- what it asks is what its statements say
    pub statements-ask : AsksOnly (behaviour rule deck) f may
    statements-ask c message done call known is =
        let class = below-got deck.classes c known in
        let program : Program = program_at deck.servers class.0.server in
        let right : ServerRight MayCall (ops deck c message done) =
        ops-right rule deck MayCall any_store (λ spot chars store ok. ok) c class.0 class.1 message
        (λ most. paragraphs-may most program message program.paragraphs (server-may deck.servers class.0.server fine) (server-forms deck.servers class.0.server sound.servers)) tt done in
        let P : Verb → Type 0 = ServerRight MayCall in
        subst P is right
