-- What is known of a requester and of a server that were read.
use Rattle.std.proofs.Common.{◌≡◌, ℕ, Bool, true, false, List, [], length, map, All, Result, Ok, refl, sym, ap, ◌∙◌, subst}
use Rattle.pw_base.specs.declared.fault.Fault.{Fault}
use Rattle.pw_words.specs.Words.{Word}
use Rattle.pw_text.specs.Tokens.{tokens_of}
use Rattle.pw_data.specs.Layouts.{layout_of}
use Rattle.pw_forms.specs.Procedures.{procedure_of}
use Rattle.pw_forms.specs.declared.statement.Paragraph.{Paragraph}
use Rattle.pw_divisions.specs.Names.{upper_name}
use Rattle.pw_divisions.specs.Divisions.{divisions_of}
use Rattle.pw_base.specs.Steps as passes
use Rattle.pw_screen.specs.Screens.{screens_of}
use Rattle.pw_code.specs.Fields.{IsTable}
use Rattle.pw_code.specs.declared.field.Field.{Field}
use Rattle.pw_code.specs.declared.field.ScreenTable.{ScreenTable}
use Rattle.pw_operands.specs.Resolved.{Each}
use Rattle.pw_scobol.specs.Requesters.{requester_of}
use Rattle.pw_scobol.specs.Using.{IsParameter}
use Rattle.pw_scobol.specs.declared.requester.Requester.{Requester}
use Rattle.pw_scobol.proofs.Divided.{divisions-ok}
use Rattle.pw_scobol.proofs.Named.{all-named}
use Rattle.pw_server.specs.Servers.{server_of}
use Rattle.pw_server.specs.declared.server.Server.{Server}
use Rattle.pw_tree_meaning.specs.Sound.{HasForms, IsLayout}
use Rattle.pw_tree_meaning.proofs.sides.Pieces.{procedure-forms, procedure-written}
use Rattle.pw_compiler_laws.specs.Premises.{IsReadStatement, IsShownOf}
use Rattle.pw_tree_meaning.specs.Written.{IsWritten}
use Rattle.pw_compiler_laws.proofs.Showing.{screens-show}
use Rattle.pw_compiler_laws.proofs.numbers.Sources.{requester-read, server-read, pass}
use Rattle.pw_compiled_deck.proofs.Fields.{screens-tables}

-- the statements of paragraphs are those of a side, written as their reader sees to, with literals that are numbers
pub record AreStatements (server : Bool) (paragraphs : List Paragraph) : Type 0 where
  pub forms : Each (λ (p : Paragraph). Each (HasForms server) p.body) paragraphs
  pub written : Each (λ (p : Paragraph). Each IsWritten p.body) paragraphs
  pub numbers : Each (λ (p : Paragraph). Each IsReadStatement p.body) paragraphs

pub record IsReadRequester (one : Requester) : Type 0 where
  pub laid : IsLayout false one.layout
  pub shown : Each (λ (table : ScreenTable). Each (λ (field : Field). IsShownOf one.layout field.shown) table.fields) one.screens
  pub tables : Each (IsTable (length one.layout.storage)) one.screens
  pub parameters : All (IsParameter one.layout) one.using
  pub statements : AreStatements false one.procedure.paragraphs

pub record IsReadServer (one : Server) : Type 0 where
  pub laid : IsLayout true one.layout
  pub statements : AreStatements true one.procedure.paragraphs

ok-same : {A : Type 0} (a b : A) → (r : Result A Fault) → r ≡ Ok a → r ≡ Ok b → a ≡ b
ok-same a b r left right = cc

pub requester-is : (name : Word) (text : List ℕ) (first_line : ℕ) (one : Requester) → requester_of name text first_line ≡ Ok one → IsReadRequester one
requester-is name text first_line one e =
    pass (IsReadRequester one) (tokens_of text first_line) _ one e (λ tokens scanned e1.
    pass (IsReadRequester one) (divisions_of false name text tokens first_line) _ one e1 (λ parts cut e2.
    pass (IsReadRequester one) (layout_of text parts.stored false) _ one e2 (λ layout laid e3.
    pass (IsReadRequester one) (screens_of text parts.screens layout) _ one e3 (λ screens shown e4.
    pass (IsReadRequester one) (procedure_of false text parts.procedure) _ one e4 (λ procedure is e5.
    let made : Requester = record { name = name; layout = layout; screens = screens; using = map (upper_name text) parts.using_names; procedure = procedure } in
    let same : made ≡ one = ok-same made one (Ok made) refl e5 in
    let known : IsLayout false layout = record { text = text; tokens = parts.stored; is_laid = laid } in
    let own : requester_of name text first_line ≡ Ok made = e ∙ ap Ok (sym same) in
    subst IsReadRequester same (record {
      laid = known;
      shown = screens-show text parts.screens layout screens shown;
      tables = screens-tables text parts.screens layout screens known shown;
      parameters = all-named text parts layout (divisions-ok name text tokens first_line parts cut) laid;
      statements = record {
        forms = procedure-forms false text parts.procedure procedure is;
        written = procedure-written false text parts.procedure procedure is;
        numbers = requester-read name text first_line made own;
      };
    }))))))

pub server-is : (name : Word) (text : List ℕ) (first_line : ℕ) (one : Server) → server_of name text first_line ≡ Ok one → IsReadServer one
server-is name text first_line one e =
    pass (IsReadServer one) (tokens_of text first_line) _ one e (λ tokens scanned e1.
    pass (IsReadServer one) (divisions_of true name text tokens first_line) _ one e1 (λ parts cut e2.
    pass (IsReadServer one) (layout_of text parts.stored true) _ one e2 (λ layout laid e3.
    pass (IsReadServer one) (procedure_of true text parts.procedure) _ one e3 (λ procedure is e4.
    let made : Server = record { name = name; layout = layout; procedure = procedure } in
    let same : made ≡ one = ok-same made one (Ok made) refl e4 in
    let own : server_of name text first_line ≡ Ok made = e ∙ ap Ok (sym same) in
    subst IsReadServer same (record {
      laid = record { text = text; tokens = parts.stored; is_laid = laid };
      statements = record {
        forms = procedure-forms true text parts.procedure procedure is;
        written = procedure-written true text parts.procedure procedure is;
        numbers = server-read name text first_line made own;
      };
    })))))
