-- When there is nothing to refuse.
use Rattle.std.specs.Prelude.{List, IsTrue}
use Rattle.pw_code.specs.declared.links.Links.{Links}
use Rattle.pw_forms.specs.declared.statement.Statement.{Statement, Row_of-Statement, end_of-Statement, more_of-Statement}
use Rattle.pw_forms.specs.declared.statement.Statement as form
use Rattle.pw_scobol.specs.declared.requester.Requester.{Requester}
use Rattle.pw_server.specs.declared.server.Server.{Server}
use Rattle.pw_operands.specs.Resolved.{Each}
use Rattle.pw_names.specs.Calls.{CallScope, call_fits}
use Rattle.pw_names.specs.Names.{usings_of, requester_program, server_program, AllRequestersResolve, AllServersResolve}

abbrev mutual
  -- each CALL in a statement and in its branches fits the program that it calls
  pub CallsFit : CallScope → Statement → Type 0
  CallsFit program (form.OnSizeError' line arithmetic n first m second) =
      RowCallsFit program first × RowCallsFit program second
  CallsFit program (form.If' line cond n first m second) =
      RowCallsFit program first × RowCallsFit program second
  CallsFit program (form.Call line name arguments) = IsTrue (call_fits program name arguments)
  CallsFit program _ = Unit {0}

  -- the same of the statements of a branch
  pub RowCallsFit : {n : _} → CallScope → Row_of-Statement n → Type 0
  RowCallsFit program end_of-Statement = Unit {0}
  RowCallsFit program (more_of-Statement statement rest) =
      CallsFit program statement × RowCallsFit program rest

-- each CALL of a program fits
abbrev pub AllCallsFit : CallScope → Type 0
AllCallsFit program =
    Each (λ paragraph. Each (CallsFit program) paragraph.body) program.scope.paragraphs

-- the names of all programs are right
pub record AreRight (requesters : List Requester) (servers : List Server)
    (links : Links) : Type 0 where
  pub requesters_resolve : AllRequestersResolve requesters links
  pub servers_resolve : AllServersResolve servers links
  pub requester_calls :
      Each (λ one. AllCallsFit (requester_program (usings_of requesters) links one)) requesters
  pub server_calls :
      Each (λ one. AllCallsFit (server_program (usings_of requesters) links one)) servers
