-- The procedure that was read so far, before what stands from the next piece on.
use Rattle.std.specs.Prelude.{List, ◌∷◌, ◌++◌, is_some, Option, Some, None, Result}
use Rattle.pw_base.specs.declared.fault.Fault.{Fault}
use Rattle.pw_base.specs.First.{least, unless}
use Rattle.pw_words.specs.Names.{has_name}
use Rattle.pw_forms.specs.declared.statement.Paragraph.{Paragraph}
use Rattle.pw_forms.specs.declared.statement.Procedure.{Procedure}
use Rattle.pw_forms.specs.declared.piece.Placed.{Placed}
use Rattle.pw_forms.specs.declared.build.Begun.{Begun}
use Rattle.pw_forms.specs.declared.build.ParagraphBuilder.{ParagraphBuilder}
use Rattle.pw_forms.specs.declared.reading.ProcedureReading.{ProcedureReading}
use Rattle.pw_forms.specs.Faults.{PiecesBefore, faults_from}
use Rattle.pw_forms.specs.Tree.{ParagraphsBehind, Levels, behind_period, levels}
use Rattle.pw_forms.specs.Blocks.{branches, stands}

-- a paragraph that has begun, if any, with what stands behind its name
abbrev pub completed : Option Begun → ParagraphsBehind → List Paragraph
completed None behind = behind.paragraphs
completed (Some begun) behind =
    (record { name = begun.name; line = begun.line; body = behind.statements }) ∷ behind.paragraphs

-- the paragraphs so far, before what stands from the next piece on
abbrev pub built : ParagraphBuilder → Levels → List Paragraph
built build rest =
    build.paragraphs ++ completed build.begun (behind_period (stands build.block rest))

-- what the pieces so far leave
abbrev pub before_of : ProcedureReading → PiecesBefore
before_of reading =
    record {
      begun = is_some reading.build.begun;
      taken = has_name reading.names;
      branches = branches reading.build.block.open.items;
    }

-- what comes out where these pieces follow
abbrev pub outcome : ProcedureReading → List Placed → Result Procedure Fault
outcome reading pieces =
    unless (least reading.known (faults_from (before_of reading) pieces))
    (record { paragraphs = built reading.build (levels pieces) })
