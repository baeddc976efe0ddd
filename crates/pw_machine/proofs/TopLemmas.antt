-- Contexts that start, run on and take answers.
use Rattle.std.proofs.Common.{◌≡◌, ℕ, List, [], ◌∷◌, ◌++◌, length, length-append, Option, Some, None, refl, sym, ap, ◌∙◌, subst, arith}
use Rattle.std.specs.Prelude.{Result, Ok, Err, IfOk}
use Rattle.pw_code.specs.declared.context.Context.{Context}
use Rattle.pw_code.specs.declared.context.Frame.{Frame}
use Rattle.pw_code.specs.declared.system.System.{System}
use Rattle.pw_code.specs.declared.verb.Answer.{Answer}
use Rattle.pw_code_meaning.specs.Answers.{put}
use Rattle.pw_code_meaning.specs.Config.{Config, closed, fresh, frame_at}
use Rattle.pw_code_meaning.specs.Contexts.{PutsAnswer}
use Rattle.pw_code_meaning.specs.Sound.{IsFrame, IsSound, IsSoundContext}
use Rattle.pw_code_meaning.specs.Turns.{split_last}
use Rattle.pw_machine.specs.Config.{config_with, frame_of}
use Rattle.pw_machine.specs.Stack.{popped}
use Rattle.pw_machine.specs.declared.top.Top.{Top}
use Rattle.pw_machine.proofs.SoundLemmas.{split_back, stays_sound}

-- a program that starts is sound
pub fresh_sound : {E : Type 0} (system : System) (program : ℕ) (storage : List ℕ) (r : Result Context E) → IsFrame system (frame_at program storage)
    → IfOk r (λ context. context ≡ closed (record { top = frame_at program storage; rest = fresh })) → IfOk r (IsSoundContext system)
fresh_sound system program storage (Ok context) frame is = record {
  at = record { top = frame_at program storage; rest = fresh };
  sound = record { top = frame; waiting = tt; few = omega arith };
  is = is;
}
fresh_sound system program storage (Err e) frame is = tt

-- a sound context has a program at work
pub some_frame : (system : System) (context : Context) (before : List Frame) → IsSoundContext system context → split_last context.frames ≡ popped before None → ⊥
some_frame system context before is none =
    let whole : context.frames ≡ is.at.rest.frames ++ is.at.top ∷ [] = ap (λ (x : Context). x.frames) is.is in
    let last : split_last context.frames ≡ Some (is.at.rest.frames, is.at.top) = ap split_last whole ∙ split_back is.at.rest.frames is.at.top in
    none_some _ (sym none ∙ last)
  where
    none_some : (found : List Frame × Frame) → None ≡ Some found → ⊥
    none_some found e = cc

pub some_there : (system : System) (context : Context) → IsSoundContext system context → length context.frames ≡ 0 → ⊥
some_there system context is none =
    let whole : context.frames ≡ is.at.rest.frames ++ is.at.top ∷ [] = ap (λ (x : Context). x.frames) is.is in
    absurd (omega (arith, none, ap (length {A = Frame}) whole, length-append is.at.rest.frames (is.at.top ∷ [])))

-- the configuration that was taken out of its context
taken_out : (old : Context) (before : List Frame) (top : Top) (c : Config) → old.frames ≡ before ++ frame_of top ∷ [] → old ≡ closed c
    → config_with before top (record old { frames = [] }) ≡ c
taken_out old before top c all is =
    let whole : old.frames ≡ c.rest.frames ++ c.top ∷ [] = ap (λ (x : Context). x.frames) is in
    let same : ◌≡◌ {A = Option (List Frame × Frame)} (Some (before, frame_of top)) (Some (c.rest.frames, c.top)) =
    sym (split_back before (frame_of top)) ∙ ap split_last (sym all ∙ whole) ∙ split_back c.rest.frames c.top in
    let front : before ≡ c.rest.frames = first _ _ _ _ same in
    let last : frame_of top ≡ c.top = second _ _ _ _ same in
    let rest : record old { frames = before } ≡ c.rest =
    ap (λ (l : List Frame). record old { frames = l }) front ∙ ap (λ (x : Context). record x { frames = c.rest.frames }) is in
    ap (λ (x : Context). record { top = frame_of top; rest = x }) rest ∙ ap (λ (f : Frame). record { top = f; rest = c.rest }) last
  where
    first : (a b : List Frame) (x y : Frame) → ◌≡◌ {A = Option (List Frame × Frame)} (Some (a, x)) (Some (b, y)) → a ≡ b
    first a b x y e = let p : ◌≡◌ {A = List Frame × Frame} (a, x) (b, y) = cc in ap (λ (q : List Frame × Frame). q.0) p

    second : (a b : List Frame) (x y : Frame) → ◌≡◌ {A = Option (List Frame × Frame)} (Some (a, x)) (Some (b, y)) → x ≡ y
    second a b x y e = let p : ◌≡◌ {A = List Frame × Frame} (a, x) (b, y) = cc in ap (λ (q : List Frame × Frame). q.1) p

pub takes : (system : System) (a : Answer) (old mid made new : Context) (before : List Frame) (top after : Top) → mid ≡ record old { frames = [] }
    → old.frames ≡ before ++ frame_of top ∷ [] → config_with before after made ≡ put system a (config_with before top mid)
    → new ≡ record made { frames = before ++ frame_of after ∷ [] } → PutsAnswer system a old new
takes system a old mid made new before top after without all done is c old_is =
    is ∙ ap closed (done ∙ ap (λ (x : Context). put system a (config_with before top x)) without ∙ ap (put system a) (taken_out old before top c all old_is))

pub takes_sound : (system : System) (old made new : Context) (before : List Frame) (top after : Top) → IsSoundContext system old → old.frames ≡ before ++ frame_of top ∷ []
    → after.program ≡ top.program → length after.storage.items ≡ length top.storage.items
    → new ≡ record made { frames = before ++ frame_of after ∷ [] } → IsSoundContext system new
takes_sound system old made new before top after sound all program size is =
    let here : config_with before top (record old { frames = [] }) ≡ sound.at = taken_out old before top sound.at all sound.is in
    record {
      at = config_with before after made;
      sound =
          stays_sound system (config_with before top (record old { frames = [] })) (config_with before after made) (subst (IsSound system) (sym here) sound.sound)
          (record { program = program; size = size; frames = refl });
      is = is;
    }
