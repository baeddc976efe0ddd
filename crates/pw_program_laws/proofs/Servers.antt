-- What a server's run by itself replies meets what its statements have to meet.
use Rattle.std.proofs.Common.{◌≡◌, ℕ, zero, suc, List, [], ◌∷◌, refl, subst}
use Rattle.pw_forms.specs.declared.statement.Paragraph.{Paragraph}
use Rattle.pw_onecopy.specs.Behaviour.{Reply}
use Rattle.pw_program_laws.proofs.Ends.{AsksWell, EndsWell, then-well}
use Rattle.pw_program_laws.proofs.Statements.{Follows, alone_setting, body-well}
use Rattle.pw_program_laws.specs.Known.{IsKnownAt, KnownMoment, RecordsByFile, known_start}
use Rattle.pw_program_laws.specs.Meets.{FlowMeets, PerformMeets, ServerMeets}
use Rattle.pw_program_laws.specs.Texts.{HaveSizes, texts_in}
use Rattle.pw_code.specs.declared.verb.Verb.{Verb}
use Rattle.pw_code.specs.declared.verb.Verb.TheVariants as verb
use Rattle.pw_tree_meaning.specs.Program.{DeckModel, Program, body_named}
use Rattle.pw_tree_meaning.specs.Runs.{flow, most_performs, performed, program_ended, program_run, served_by, start}
use Rattle.pw_tree_meaning.specs.State.{ProgramState, Out, Goes, Leaves, Asks, faults}
use Rattle.pw_tree_meaning.specs.Store.{initial_store}
use Rattle.pw_words.specs.Words.{Word}

module _ (deck : DeckModel) (program : Program) (sizes message : List ℕ) (replies : List ℕ → RecordsByFile → Type 0) where
  -- a server has no CALL
  abbrev none_called : ℕ → List (List ℕ) → ProgramState → Out
  none_called q arguments t = faults 202 t

  -- a turn of a paragraph
  performed-well : (d : ℕ) (name : Word) (next : KnownMoment → Type 0) (k : KnownMoment) → PerformMeets deck program sizes message replies d name next k
      → (s : ProgramState) → IsKnownAt sizes k s → EndsWell replies (Follows deck program sizes message replies next) (performed d (alone_setting deck program sizes message replies) none_called name s)
  performed-well zero name next k now s known = tt
  performed-well (suc d) name next k now s known =
      body-well deck program sizes message replies (performed d (alone_setting deck program sizes message replies) none_called) (PerformMeets deck program sizes message replies d)
      (performed-well d) none_called (body_named program name) next k now s known

  -- the paragraphs, of which the last is left without a reply
  flow-well : (paragraphs : List Paragraph) (k : KnownMoment) → FlowMeets deck program sizes message replies (PerformMeets deck program sizes message replies most_performs) paragraphs k
      → (s : ProgramState) → IsKnownAt sizes k s
      → EndsWell replies (λ t. Unit {0}) (flow (alone_setting deck program sizes message replies) (performed most_performs (alone_setting deck program sizes message replies) none_called) none_called paragraphs s)
  flow-well [] k now s known = tt
  flow-well (paragraph ∷ paragraphs) k now s known =
      then-well replies
      (Follows deck program sizes message replies (FlowMeets deck program sizes message replies (PerformMeets deck program sizes message replies most_performs) paragraphs)) (λ t. Unit {0})
      _ _
      (body-well deck program sizes message replies (performed most_performs (alone_setting deck program sizes message replies) none_called) (PerformMeets deck program sizes message replies most_performs)
      (performed-well most_performs) none_called paragraph.body _ k now s known)
      (λ t then'. flow-well paragraphs then'.0 then'.2 t then'.1)

  verb-replies : (v : Verb) (s : ProgramState) (reply : List ℕ) (left : RecordsByFile) → AsksWell replies v s → served_by (Asks v s) ≡ Reply reply left → replies reply left
  verb-replies (verb.Reply own) s reply left now is =
      let same : own ≡ reply = cc in
      let files : s.files ≡ left = cc in
      subst (λ chars. replies chars left) same (subst (λ records. replies own records) files now)
  verb-replies (verb.Fault code) s reply left now is = absurd cc
  verb-replies _ s reply left now is = absurd cc

  out-replies : (out : Out) (reply : List ℕ) (left : RecordsByFile) → EndsWell replies (λ t. Unit {0}) out
      → served_by (program_ended (alone_setting deck program sizes message replies) out) ≡ Reply reply left → replies reply left
  out-replies (Goes s) reply left now is = absurd cc
  out-replies (Leaves s) reply left now is = absurd cc
  out-replies (Asks v s) reply left now is = verb-replies v s reply left now is

  pub program-replies : (files : RecordsByFile) → HaveSizes sizes (texts_in (initial_store program)) → ServerMeets deck program sizes message replies files
      → (reply : List ℕ) (left : RecordsByFile)
      → served_by (program_ended (alone_setting deck program sizes message replies) (program_run (alone_setting deck program sizes message replies) none_called (record (start program []) { files = files }))) ≡ Reply reply left
      → replies reply left
  program-replies files sized now reply left is =
      out-replies _ reply left
      (flow-well program.paragraphs (known_start program files) now (record (start program []) { files = files })
      (record { texts = refl; sized = sized; registers = refl; files = refl }))
      is
