-- A whole requester along each path.
use Rattle.std.proofs.Common.{◌≡◌, ℕ, zero, suc, ◌≤◌, Bool, true, false, List, [], ◌∷◌, length, map, if◌then◌else◌, refl}
use Rattle.pw_code.specs.Entry.{EntryLineModel}
use Rattle.pw_code.specs.declared.verb.Verb.TheVariants as verb
use Rattle.pw_forms.specs.declared.cond.ConditionForm.{ConditionForm}
use Rattle.pw_forms.specs.declared.statement.Paragraph.{Paragraph}
use Rattle.pw_invariants.specs.Requests.{RepliedRequest}
use Rattle.pw_onecopy.specs.Path.{PathAnswer}
use Rattle.pw_program_laws.specs.Texts.{HaveSizes, texts_in}
use Rattle.pw_program_laws.proofs.requests.Follows.{Answers, Commits, Follows, answered, open_after, sent_after}
use Rattle.pw_program_laws.proofs.requests.Runs.{Runs, here-runs, stuck, then-runs}
use Rattle.pw_program_laws.proofs.requests.Statements.{body-runs}
use Rattle.pw_program_laws.specs.Requests.{ParagraphsMeet, ProgramMeets, RequesterMoment, TurnMeets}
use Rattle.pw_tree_meaning.proofs.Budget.{enough-requester}
use Rattle.pw_tree_meaning.specs.Conditions.{holds as holds_now}
use Rattle.pw_tree_meaning.specs.Performs.{budget, turns_until}
use Rattle.pw_tree_meaning.specs.Program.{DeckModel, Program, body_named, first_screen, program_at, storage_size}
use Rattle.pw_tree_meaning.specs.Runs.{called, flow, most_calls, most_performs, performed, program_ended, program_run, run_after, setting_of, start, told, verb_of}
use Rattle.pw_tree_meaning.specs.Sends.{stop}
use Rattle.pw_tree_meaning.specs.State.{ProgramState, Out, Goes, Leaves, Asks, faults, no_registers, then_do}
use Rattle.pw_tree_meaning.specs.Statements.{body}
use Rattle.pw_tree_meaning.specs.Store.{initial_store}
use Rattle.pw_words.specs.Words.{Word}

module _ (deck : DeckModel) (q : ℕ) (sizes : List ℕ) (holds : List RepliedRequest → Type 0) (lines : List EntryLineModel) (most : ℕ) where
  abbrev program : Program
  program = program_at deck.programs q

  abbrev first : ℕ
  first = first_screen deck.programs q

  abbrev calls : ℕ → List (List ℕ) → ProgramState → Out
  calls = called most_calls deck (storage_size program)

  untils : (d : ℕ) (name : Word) (cond : ConditionForm) (s : ProgramState) (more : ℕ) → budget s ≤ more
      → turns_until more (λ t. holds_now program t cond) (performed d (setting_of deck q) calls name) s
      ≡ turns_until (budget s) (λ t. holds_now program t cond) (performed d (setting_of deck q) calls name) s
  untils d name cond s more le = enough-requester deck q d most_calls (storage_size program) more name cond s le

  performed-runs : (d : ℕ) (name : Word) (next : RequesterMoment → Type 0) (k : RequesterMoment) → TurnMeets deck program sizes holds d name next k
      → Runs sizes holds lines most (performed d (setting_of deck q) calls name) next k
  performed-runs zero name next k now = λ s stands cont safe. stuck sizes holds lines most k.inside k.sent s (λ u. then_do (faults 202 u) cont) (λ a fits. fits)
  performed-runs (suc d) name next k now =
      body-runs deck program first sizes holds lines most (performed d (setting_of deck q) calls) (TurnMeets deck program sizes holds d) (performed-runs d) (untils d) calls
      (body_named program name) next k now

  flow-runs : (paragraphs : List Paragraph) (k : RequesterMoment) → ParagraphsMeet deck program sizes holds (TurnMeets deck program sizes holds most_performs) paragraphs k
      → Runs sizes holds lines most (flow (setting_of deck q) (performed most_performs (setting_of deck q) calls) calls paragraphs) (λ after. Unit {0}) k
  flow-runs [] k now = here-runs sizes holds lines most (λ after. Unit {0}) k tt
  flow-runs (paragraph ∷ paragraphs) k now =
      then-runs sizes holds lines most
      (body (setting_of deck q) (performed most_performs (setting_of deck q) calls) calls paragraph.body)
      (flow (setting_of deck q) (performed most_performs (setting_of deck q) calls) calls paragraphs)
      (ParagraphsMeet deck program sizes holds (TurnMeets deck program sizes holds most_performs) paragraphs) (λ after. Unit {0}) k
      (body-runs deck program first sizes holds lines most (performed most_performs (setting_of deck q) calls) (TurnMeets deck program sizes holds most_performs)
      (performed-runs most_performs) (untils most_performs) calls paragraph.body
      (ParagraphsMeet deck program sizes holds (TurnMeets deck program sizes holds most_performs) paragraphs) k now)
      (λ after met. flow-runs paragraphs after met)

  -- ---- the end of the program

  stop-by : (b : Bool) (s : ProgramState) (a : PathAnswer) → Answers (verb_of (if b then faults 207 s else Asks verb.Stop s)) a → ⊥
  stop-by true s a fits = fits
  stop-by false s a fits = fits

  stop-none : (s : ProgramState) (a : PathAnswer) → Answers (verb_of (stop (setting_of deck q) s)) a → ⊥
  stop-none s a fits = stop-by s.in_unit s a fits

  ended-by : (inside : Bool) (sent : List RepliedRequest) (f g : List PathAnswer → Out) (a : PathAnswer) (path : List PathAnswer)
      → ((inside : Bool) (sent : List RepliedRequest) → Follows holds inside sent f path → Follows holds inside sent g path)
      → (out : Out)
      → (Answers (verb_of (then_do out (stop (setting_of deck q)))) a
      → Commits holds (verb_of (then_do out (stop (setting_of deck q)))) a inside sent
      × Follows holds (open_after a inside) (sent_after a (verb_of (then_do out (stop (setting_of deck q)))) inside sent) f path)
      → Answers (verb_of (program_ended (setting_of deck q) out)) a
      → Commits holds (verb_of (program_ended (setting_of deck q) out)) a inside sent
      × Follows holds (open_after a inside) (sent_after a (verb_of (program_ended (setting_of deck q) out)) inside sent) g path
  ended-by inside sent f g a path on (Goes s) now fits = ((now fits).0, on _ _ (now fits).1)
  ended-by inside sent f g a path on (Leaves s) now fits = absurd (stop-none s a fits)
  ended-by inside sent f g a path on (Asks v s) now fits = ((now fits).0, on _ _ (now fits).1)

  follows-ended : (inside : Bool) (sent : List RepliedRequest) (run : List PathAnswer → Out) (path : List PathAnswer)
      → Follows holds inside sent (λ rest. then_do (run rest) (stop (setting_of deck q))) path
      → Follows holds inside sent (λ rest. program_ended (setting_of deck q) (run rest)) path
  follows-ended inside sent run [] now = tt
  follows-ended inside sent run (a ∷ path) now =
      ended-by inside sent (λ rest. then_do (run (a ∷ rest)) (stop (setting_of deck q))) (λ rest. program_ended (setting_of deck q) (run (a ∷ rest))) a path
      (λ inside sent. follows-ended inside sent (λ rest. run (a ∷ rest)) path) (run []) now

  pub program-follows : HaveSizes sizes (texts_in (initial_store program)) → ProgramMeets deck program sizes holds → (path : List PathAnswer) → length path ≤ most
      → Follows holds false [] (λ rest. run_after deck q lines rest) path
  program-follows sized met path le =
      follows-ended false [] (λ rest. program_run (setting_of deck q) calls (start program (map (told lines) rest))) path
      (flow-runs program.paragraphs (record { texts = texts_in (initial_store program); registers = no_registers; inside = false; sent = [] }) met (start program [])
      (record { known = record { texts = refl; sized = sized; registers = refl; files = refl }; in_unit = refl })
      (stop (setting_of deck q))
      (λ after now t at. stuck sizes holds lines most after.inside after.sent t (stop (setting_of deck q)) (λ a fits. stop-none (answered lines [] t) a fits))
      path le)
