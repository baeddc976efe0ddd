-- What is kept behind an entry stands for the state behind it.
use Rattle.std.proofs.Common.{◌≡◌, ℕ, ◌+◌, ◌-◌, List, [], ◌∷◌, ◌++◌, length, get_or, take, Some, None, refl, sym, ap, ap₂, subst, ◌∙◌, arith}
use Rattle.std.specs.Prelude.{option_map}
use Rattle.std.proofs.Math.Seq.{take-append_seam}
use Rattle.std.proofs.lemmas.List.{get_or_push, length_push}
use Rattle.pw_code.specs.declared.context.Context.{Context}
use Rattle.pw_code.specs.declared.system.System.{System}
use Rattle.pw_code.specs.declared.system.TermInfo.{TermInfo}
use Rattle.pw_code.specs.declared.verb.Answer.{Answer}
use Rattle.pw_code.specs.declared.verb.Answer.TheVariants as answer
use Rattle.pw_event.specs.declared.script.FailLine.{FailLine}
use Rattle.pw_code_meaning.specs.Answers.{put}
use Rattle.pw_code_meaning.specs.Config.{Config, closed, frame_at}
use Rattle.pw_code_meaning.specs.Contexts.{PutsAnswer}
use Rattle.pw_code_meaning.specs.OfSystem.{behaviour, entry_at, told}
use Rattle.pw_world_state.specs.Arrivals.{IsReady, StandsForPath}
use Rattle.pw_world_state.specs.Asked.{answered_with, opened, verb_in}
use Rattle.pw_world_state.specs.Changes.{with_context}
use Rattle.pw_world_state.specs.Entered.{answer_terminal, answering, entered_again, entered_key, entered_show, lines_of, verb_of}
use Rattle.pw_world_state.specs.Kept.{Kept}
use Rattle.pw_world_state.specs.Stands.{IsReadyIfAny, Stands}
use Rattle.pw_world_state.specs.Tested.{IsAsking}
use Rattle.pw_world_state.proofs.Answered.{answered}
use Rattle.pw_world_state.proofs.Arrived.{answered-one}
use Rattle.pw_onecopy.specs.Path.{Entry, PathAnswer, Replied, Shown}
use Rattle.pw_onecopy.specs.Update.{upd}
use Rattle.pw_paired.specs.State.{LastEnded, State}
use Rattle.pw_paired.specs.Terminal.{do_again, do_key, do_show, kept_reply, next_verb, path_of}
use Rattle.pw_paired.specs.Units.{give_answer}

-- ---- contexts and configurations

pub open-closed : (c : Config) → opened (closed c) ≡ c
open-closed c =
    let long : length (c.rest.frames ++ c.top ∷ []) - 1 ≡ length c.rest.frames = let l = length_push c.rest.frames c.top in omega (arith, l) in
    let top : get_or (c.rest.frames ++ c.top ∷ []) (length (c.rest.frames ++ c.top ∷ []) - 1) (frame_at 0 []) ≡ c.top = ap (λ n. get_or (c.rest.frames ++ c.top ∷ []) n (frame_at 0 [])) long ∙ get_or_push c.rest.frames c.top (frame_at 0 []) (length c.rest.frames) refl in
    let others : take (length (c.rest.frames ++ c.top ∷ []) - 1) (c.rest.frames ++ c.top ∷ []) ≡ c.rest.frames = ap (λ n. take n (c.rest.frames ++ c.top ∷ [])) long ∙ take-append_seam c.rest.frames (c.top ∷ []) in
    ap₂ (λ t fs. record { top = t; rest = record c.rest { frames = fs } }) top others

-- the answer is put in
pub takes-one : (system : System) (a : Answer) (context : Context) → PutsAnswer system a context (answered_with system a context)
takes-one system a context c is = ap (λ x. closed (put system a x)) (ap opened is ∙ open-closed c)

module _ (system : System) (script : List FailLine) (state : State) (kept : Kept) (t : ℕ) (stands : Stands system script state kept) (asking : IsAsking system script state kept t) where
  abbrev pub info : TermInfo
  info = asking.placed.info

  abbrev pub context : Context
  context = asking.context

  pub ready : IsReady system info (path_of state t) context
  ready = subst (IsReadyIfAny system info (path_of state t)) asking.ready (stands.terminals t info asking.placed.here).ready

  -- the context behind an answer
  pub behind : (a : PathAnswer) → StandsForPath system info (path_of state t ++ a ∷ []) (answered_with system (told info.entries a) context)
  behind a = answered-one system info (path_of state t) a context _ ready (takes-one system (told info.entries a) context)

  -- what is kept of the terminal then
  pub answering-is : (a : Answer) → answering system a (kept.terminals t) ≡ with_context (answered_with system a context) (kept.terminals t)
  answering-is a = ap (λ o. record (kept.terminals t) { context = option_map (answered_with system a) o; ready = None }) asking.ready

  answers : (a : PathAnswer) → Stands system script (give_answer t a state) (answer_terminal system t (told info.entries a) kept)
  answers a =
      subst (λ own. Stands system script (give_answer t a state) (record kept { terminals = upd kept.terminals t own })) (sym (answering-is (told info.entries a)))
      (answered system script state kept t info a (answered_with system (told info.entries a) context) stands asking.placed.here (behind a))

  pub show-enters : Stands system script (do_show t state) (entered_show system t kept)
  show-enters = answers Shown

  pub key-enters : (k : ℕ) → Stands system script (do_key t k state) (entered_key system t k kept)
  key-enters k =
      subst (λ lines. Stands system script (do_key t k state) (answer_terminal system t (answer.Entry (entry_at lines k)) kept)) (sym (ap lines_of asking.placed.here))
      (answers (Entry k))

  pub again-enters : Stands system script (do_again t state) (entered_again system t kept)
  again-enters =
      subst (λ reply. Stands system script (do_again t state) (answer_terminal system t (answer.Replied reply) kept)) (sym (ap (λ (f : ℕ → LastEnded). kept_reply (f t)) stands.disc.ended))
      (answers (Replied (kept_reply (state.ended t))))

  -- the verb at which its program stands
  pub verb-is : verb_of system (kept.terminals t) ≡ Some (next_verb (behaviour script system) state t)
  verb-is = ap (option_map (verb_in system)) asking.ready ∙ ap Some asking.says.verb
