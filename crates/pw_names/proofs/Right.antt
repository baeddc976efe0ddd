-- There is no fault exactly where the names of all programs are right.
use Rattle.std.proofs.Common.{◌≡◌, ◌↔◌, List, [], ◌∷◌, ◌++◌, Option, Some, None, Ok, refl, ap}
use Rattle.std.specs.List.{flat_map}
use Rattle.pw_base.specs.declared.fault.Fault.{Fault}
use Rattle.pw_base.specs.First.{unless}
use Rattle.pw_base.specs.declared.fault_code.FaultCode.TheVariants.{WrongLength}
use Rattle.pw_code.specs.declared.links.Links.{Links}
use Rattle.pw_forms.specs.declared.statement.Statement.{Statement, Row_of-Statement, end_of-Statement, more_of-Statement}
use Rattle.pw_forms.specs.declared.statement.Statement as form
use Rattle.pw_scobol.specs.declared.requester.Requester.{Requester}
use Rattle.pw_server.specs.declared.server.Server.{Server}
use Rattle.pw_operands.specs.Uses.{uses}
use Rattle.pw_operands.specs.Resolved.{Each, StatementFits, Resolves, RowResolves, AllResolve, ParagraphResolves}
use Rattle.pw_names.specs.Order.{first, at_line}
use Rattle.pw_names.specs.Flaws.{flaws_of}
use Rattle.pw_names.specs.Calls.{CallScope, call_fits}
use Rattle.pw_names.specs.Lines.{line_of}
use Rattle.pw_names.specs.Faults.{own_faults, faults, row_faults, paragraph_faults, program_faults}
use Rattle.pw_names.specs.Names.{usings_of, requester_program, server_program, requester_faults, server_faults, all_faults, names_of}
use Rattle.pw_names.specs.Exact.{CallsFit, RowCallsFit, AllCallsFit, AreRight}
use Rattle.pw_names.proofs.Fitting.{none-front, none-back, holds}
use Rattle.pw_names.proofs.Unflawed.{no-code, no-parts, none-of}
use Rattle.pw_names.proofs.Accepted.{first-none, at_line-none, each, requesters-resolve, servers-resolve}

-- where the fact makes each of some things faultless, all are
none-each : {A X : Type 0} (f : A → List X) (P Q : A → Type 0) → ((x : A) → P x → Q x → f x ≡ []) → (xs : List A) → Each P xs → Each Q xs → flat_map f xs ≡ []
none-each f P Q good [] all every = refl
none-each f P Q good (x ∷ xs) all every = no-parts (f x) (flat_map f xs) (good x all.0 every.0) (none-each f P Q good xs all.1 every.1)

module _ (program : CallScope) where
  -- the CALLs of faultless statements fit
  mutual
    calls : (statement : Statement) → faults program statement ≡ [] → CallsFit program statement
    calls (form.OnSizeError' line arithmetic n first m second) none =
        let rest = none-back (own_faults program (form.OnSizeError' line arithmetic n first m second)) (row_faults program first ++ row_faults program second) none in
        (row-calls first (none-front (row_faults program first) (row_faults program second) rest), row-calls second (none-back (row_faults program first) (row_faults program second) rest))
    calls (form.If' line cond n first m second) none =
        let rest = none-back (own_faults program (form.If' line cond n first m second)) (row_faults program first ++ row_faults program second) none in
        (row-calls first (none-front (row_faults program first) (row_faults program second) rest), row-calls second (none-back (row_faults program first) (row_faults program second) rest))
    calls (form.Call line name arguments) none =
        holds (call_fits program name arguments) WrongLength (none-back (flaws_of program.scope (uses (form.Call line name arguments))) _ (at_line-none line _ none))
    calls _ none = tt

    row-calls : {n : _} (row : Row_of-Statement n) → row_faults program row ≡ [] → RowCallsFit program row
    row-calls end_of-Statement none = tt
    row-calls (more_of-Statement statement rest) none =
        (calls statement (none-front (faults program statement) (row_faults program rest) none), row-calls rest (none-back (faults program statement) (row_faults program rest) none))

  pub calls-fit : program_faults program ≡ [] → AllCallsFit program
  calls-fit none = each (paragraph_faults program) _ (λ paragraph right. each (faults program) (CallsFit program) calls paragraph.body right) program.scope.paragraphs none

  own-none : (statement : Statement) → StatementFits program.scope statement → CallsFit program statement → own_faults program statement ≡ []
  own-none (form.Call line name arguments) stands fits =
      ap (at_line line) (no-parts (flaws_of program.scope (uses (form.Call line name arguments))) _ (none-of program.scope (uses (form.Call line name arguments)) stands) (no-code (call_fits program name arguments) WrongLength fits))
  own-none statement stands fits = ap (at_line (line_of statement)) (none-of program.scope (uses statement) stands)

  -- statements that resolve, and whose CALLs fit, are faultless
  mutual
    faultless : (statement : Statement) → Resolves program.scope statement → CallsFit program statement → faults program statement ≡ []
    faultless (form.OnSizeError' line arithmetic n first m second) right fit =
        no-parts (own_faults program (form.OnSizeError' line arithmetic n first m second)) _ (ap (at_line line) (none-of program.scope (uses (form.OnSizeError' line arithmetic n first m second)) right.0))
        (no-parts (row_faults program first) _ (row-faultless first right.1 fit.0) (row-faultless second right.2 fit.1))
    faultless (form.If' line cond n first m second) right fit =
        no-parts (own_faults program (form.If' line cond n first m second)) _ (ap (at_line line) (none-of program.scope (uses (form.If' line cond n first m second)) right.0))
        (no-parts (row_faults program first) _ (row-faultless first right.1 fit.0) (row-faultless second right.2 fit.1))
    faultless statement right fit = own-none statement right fit

    row-faultless : {n : _} (row : Row_of-Statement n) → RowResolves program.scope row → RowCallsFit program row → row_faults program row ≡ []
    row-faultless end_of-Statement right fit = refl
    row-faultless (more_of-Statement statement rest) right fit =
        no-parts (faults program statement) (row_faults program rest) (faultless statement right.0 fit.0) (row-faultless rest right.1 fit.1)

  pub program-faultless : AllResolve program.scope → AllCallsFit program → program_faults program ≡ []
  program-faultless right fit =
      none-each (paragraph_faults program) (ParagraphResolves program.scope) _
      (λ paragraph stands calls. none-each (faults program) (Resolves program.scope) (CallsFit program) faultless paragraph.body stands calls) program.scope.paragraphs right fit

abbrev done : Unit {0}
done = tt

module _ (requesters : List Requester) (servers : List Server) (links : Links) where
  accepted : (found : Option Fault) → unless found done ≡ Ok done → found ≡ None
  accepted None is = refl
  accepted (Some fault) is = absurd cc

  are-right : names_of requesters servers links ≡ Ok done → AreRight requesters servers links
  are-right is =
      let found = first None (all_faults requesters servers links) in
      let nothing : found ≡ None = accepted found is in
      let none : all_faults requesters servers links ≡ [] = first-none (all_faults requesters servers links) nothing in
      let front = requester_faults (usings_of requesters) links requesters in
      let back = server_faults (usings_of requesters) links servers in
      record {
        requesters_resolve = requesters-resolve requesters servers links found refl nothing;
        servers_resolve = servers-resolve requesters servers links found refl nothing;
        requester_calls = each (λ requester. program_faults (requester_program (usings_of requesters) links requester)) _ (λ requester. calls-fit (requester_program (usings_of requesters) links requester)) requesters (none-front front back none);
        server_calls = each (λ server. program_faults (server_program (usings_of requesters) links server)) _ (λ server. calls-fit (server_program (usings_of requesters) links server)) servers (none-back front back none);
      }

  are-accepted : AreRight requesters servers links → names_of requesters servers links ≡ Ok done
  are-accepted right =
      ap (λ faults. unless (first None faults) done)
      (no-parts (requester_faults (usings_of requesters) links requesters) (server_faults (usings_of requesters) links servers)
      (none-each (λ requester. program_faults (requester_program (usings_of requesters) links requester)) _ _ (λ requester. program-faultless (requester_program (usings_of requesters) links requester)) requesters right.requesters_resolve right.requester_calls)
      (none-each (λ server. program_faults (server_program (usings_of requesters) links server)) _ _ (λ server. program-faultless (server_program (usings_of requesters) links server)) servers right.servers_resolve right.server_calls))

  pub right : (names_of requesters servers links ≡ Ok done) ↔ AreRight requesters servers links
  right = (are-right, are-accepted)
