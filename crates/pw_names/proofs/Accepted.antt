-- Programs without a fault resolve.
use Rattle.std.proofs.Common.{◌≡◌, ℕ, Bool, true, false, cond, List, [], ◌∷◌, ◌++◌, Option, Some, None, refl, sym, ap, ◌∙◌}
use Rattle.std.specs.List.{flat_map}
use Rattle.pw_base.specs.declared.fault.Fault.{Fault}
use Rattle.pw_base.specs.declared.fault_code.FaultCode.{FaultCode}
use Rattle.pw_code.specs.declared.links.Links.{Links}
use Rattle.pw_forms.specs.declared.statement.Paragraph.{Paragraph}
use Rattle.pw_forms.specs.declared.statement.Statement.{Statement, Row_of-Statement, end_of-Statement, more_of-Statement}
use Rattle.pw_forms.specs.declared.statement.Statement as form
use Rattle.pw_scobol.specs.declared.requester.Requester.{Requester}
use Rattle.pw_server.specs.declared.server.Server.{Server}
use Rattle.pw_operands.specs.Uses.{uses}
use Rattle.pw_operands.specs.Resolved.{Each, StatementFits, Resolves, RowResolves, AllResolve, ParagraphResolves}
use Rattle.pw_names.specs.Order.{comes_before, first, at_line}
use Rattle.pw_names.specs.Flaws.{flaws_of}
use Rattle.pw_names.specs.Calls.{CallScope, Lengths, statement_flaws}
use Rattle.pw_names.specs.Faults.{own_faults, faults, row_faults, paragraph_faults, program_faults}
use Rattle.pw_names.specs.Names.{usings_of, requester_program, server_program, requester_faults, server_faults, all_faults, AllRequestersResolve, AllServersResolve}
use Rattle.pw_names.proofs.Noted.{first-append}
use Rattle.pw_names.proofs.Fitting.{none-front, none-back, all-fit}

stays-next : (test : Bool) (x known : Fault) (faults : List Fault) → (first (Some x) faults ≡ None → ⊥) → (first (Some known) faults ≡ None → ⊥)
    → first (cond test (Some x) (Some known)) faults ≡ None → ⊥
stays-next true x known faults with_x with_known is = with_x is
stays-next false x known faults with_x with_known is = with_known is

-- a fault that is known is not forgotten
stays : (faults : List Fault) (known : Fault) → first (Some known) faults ≡ None → ⊥
stays [] known is = cc
stays (x ∷ xs) known is = stays-next (comes_before x known) x known xs (stays xs x) (stays xs known) is

-- there is no first fault only where there is none
pub first-none : (faults : List Fault) → first None faults ≡ None → faults ≡ []
first-none [] is = refl
first-none (x ∷ xs) is = absurd (stays xs x is)

pub at_line-none : (line : ℕ) (codes : List FaultCode) → at_line line codes ≡ [] → codes ≡ []
at_line-none line [] none = refl
at_line-none line (x ∷ xs) none = absurd cc

-- where none of some things has a fault, the fact holds of each
pub each : {A X : Type 0} (f : A → List X) (P : A → Type 0) → ((x : A) → f x ≡ [] → P x) → (xs : List A) → flat_map f xs ≡ [] → Each P xs
each f P good [] none = tt
each f P good (x ∷ xs) none = (good x (none-front (f x) (flat_map f xs) none), each f P good xs (none-back (f x) (flat_map f xs) none))

module _ (program : CallScope) where
  uses-right : (statement : Statement) → statement_flaws program statement ≡ [] → flaws_of program.scope (uses statement) ≡ []
  uses-right (form.Call line name arguments) none = none-front (flaws_of program.scope (uses (form.Call line name arguments))) _ none
  uses-right statement none = none

  own-stands : (statement : Statement) → own_faults program statement ≡ [] → StatementFits program.scope statement
  own-stands statement none = all-fit program.scope (uses statement) (uses-right statement (at_line-none _ (statement_flaws program statement) none))

  mutual
    resolves : (statement : Statement) → faults program statement ≡ [] → Resolves program.scope statement
    resolves (form.OnSizeError' line arithmetic n first m second) none =
        let own = own_faults program (form.OnSizeError' line arithmetic n first m second) in
        let rest = none-back own (row_faults program first ++ row_faults program second) none in (
          own-stands (form.OnSizeError' line arithmetic n first m second) (none-front own (row_faults program first ++ row_faults program second) none),
          row-resolves first (none-front (row_faults program first) (row_faults program second) rest),
          row-resolves second (none-back (row_faults program first) (row_faults program second) rest),
        )
    resolves (form.If' line cond n first m second) none =
        let own = own_faults program (form.If' line cond n first m second) in
        let rest = none-back own (row_faults program first ++ row_faults program second) none in (
          own-stands (form.If' line cond n first m second) (none-front own (row_faults program first ++ row_faults program second) none),
          row-resolves first (none-front (row_faults program first) (row_faults program second) rest),
          row-resolves second (none-back (row_faults program first) (row_faults program second) rest),
        )
    resolves statement none = own-stands statement none

    row-resolves : {n : _} (row : Row_of-Statement n) → row_faults program row ≡ [] → RowResolves program.scope row
    row-resolves end_of-Statement none = tt
    row-resolves (more_of-Statement statement rest) none =
        (resolves statement (none-front (faults program statement) (row_faults program rest) none), row-resolves rest (none-back (faults program statement) (row_faults program rest) none))

  paragraph-resolves : (paragraph : Paragraph) → paragraph_faults program paragraph ≡ [] → ParagraphResolves program.scope paragraph
  paragraph-resolves paragraph none = each (faults program) (Resolves program.scope) resolves paragraph.body none

  pub program-resolves : program_faults program ≡ [] → AllResolve program.scope
  program-resolves none = each (paragraph_faults program) (ParagraphResolves program.scope) paragraph-resolves program.scope.paragraphs none

-- requesters and servers without a first fault resolve
pub requesters-resolve : (requesters : List Requester) (servers : List Server) (links : Links) (found : Option Fault) → found ≡ first None (all_faults requesters servers links) → found ≡ None
    → AllRequestersResolve requesters links
requesters-resolve requesters servers links found is none =
    each (λ requester. program_faults (requester_program (usings_of requesters) links requester)) _ (λ requester. program-resolves (requester_program (usings_of requesters) links requester)) requesters
    (none-front (requester_faults (usings_of requesters) links requesters) (server_faults (usings_of requesters) links servers) (first-none (all_faults requesters servers links) (sym is ∙ none)))

pub servers-resolve : (requesters : List Requester) (servers : List Server) (links : Links) (found : Option Fault) → found ≡ first None (all_faults requesters servers links) → found ≡ None
    → AllServersResolve servers links
servers-resolve requesters servers links found is none =
    each (λ server. program_faults (server_program (usings_of requesters) links server)) _ (λ server. program-resolves (server_program (usings_of requesters) links server)) servers
    (none-back (requester_faults (usings_of requesters) links requesters) (server_faults (usings_of requesters) links servers) (first-none (all_faults requesters servers links) (sym is ∙ none)))

-- the first fault of requesters, and then of servers
pub first-all : (requesters : List Requester) (servers : List Server) (links near : Links) (usings : List Lengths) (found : Option Fault) → found ≡ first None (requester_faults usings near requesters)
    → usings ≡ usings_of requesters → near ≡ links → first found (server_faults usings near servers) ≡ first None (all_faults requesters servers links)
first-all requesters servers links near usings found found_is usings_is near_is =
    ap (λ known. first known (server_faults usings near servers)) found_is
    ∙ sym (first-append None (requester_faults usings near requesters) (server_faults usings near servers))
    ∙ ap (λ u. first None (requester_faults u near requesters ++ server_faults u near servers)) usings_is
    ∙ ap (λ l. first None (requester_faults (usings_of requesters) l requesters ++ server_faults (usings_of requesters) l servers)) near_is
