-- The context behind a path that does not end with a run fault has an image.
use Rattle.std.proofs.Common.{◌≡◌, ◌⊎◌, inl, inr, ⊎_elim, ℕ, ◌+◌, ◌<◌, ◌≤◌, Bool, true, false, List, [], ◌∷◌, ◌++◌, length, length-append, map, Some, refl, sym, ap, subst, ◌∙◌, arith}
use Rattle.std.specs.Prelude.{All, slice_get}
use Rattle.std.proofs.lemmas.List.{map-append}
use Rattle.std.proofs.lemmas.Option.{get_or_from_slice_get, slice_get_within}
use Rattle.std.proofs.lemmas.List.Elements.{All-append, All-cons, All-nil}
use Rattle.pw_code.specs.Courses.{is_run_fault}
use Rattle.pw_code.specs.Limits.{most_active}
use Rattle.pw_code.specs.Valid.{IsTerminal, IsValid}
use Rattle.pw_code.specs.declared.context.Context.{Context}
use Rattle.pw_code.specs.declared.context.Frame.{Frame}
use Rattle.pw_code.specs.declared.system.System.{System}
use Rattle.pw_code.specs.declared.system.TermInfo.{TermInfo}
use Rattle.pw_code.specs.declared.verb.Answer.{Answer}
use Rattle.pw_event.specs.declared.script.FailLine.{FailLine}
use Rattle.pw_code_meaning.specs.Answers.{put}
use Rattle.pw_code_meaning.specs.Config.{Config, closed, starting}
use Rattle.pw_code_meaning.specs.OfSystem.{behaviour, told}
use Rattle.pw_code_meaning.specs.Runs.{Reaches}
use Rattle.pw_code_meaning.specs.Turns.{most_performs}
use Rattle.pw_code_meaning.proofs.Counting.{Follows, IsBehind, behind-answer, follows, follows-answer, follows-on, follows-start, is_failed}
use Rattle.pw_code_meaning.proofs.Progress.{Shallow}
use Rattle.pw_code_meaning.proofs.Sizes.{small-stands}
use Rattle.pw_image.specs.Image.{FrameFits, HasImage}
use Rattle.pw_world_state.specs.Arrivals.{Arrives, StandsForPath}
use Rattle.pw_world_state.proofs.Arrived.{arrives-comes, stands-behind}
use Rattle.pw_world_state.proofs.Extra.{ends-push, ends_failed, is_fault}
use Rattle.pw_world_state.proofs.Forced.{suits-behind, suits-front}
use Rattle.pw_onecopy.specs.Behaviour.{Behaviour}
use Rattle.pw_onecopy.specs.IsBehaviour.{IsPath, Suits, SuitsFrom}
use Rattle.pw_onecopy.specs.Path.{PathAnswer, Begun, Dropped, Ended, Entry, Failed, Replied, Shown, standing, entries_on}

-- ---- the last answer

-- a path is empty, or has a last answer
pub last-of : (path : List PathAnswer) → (path ≡ []) ⊎ ((before : List PathAnswer) × (a : PathAnswer) × (path ≡ before ++ a ∷ []))
last-of [] = inl refl
last-of (a ∷ path) =
    ⊎_elim (λ none. inr ([], a, ap (λ l. a ∷ l) none))
    (λ some. inr (a ∷ some.0, some.1, ap (λ l. a ∷ l) some.2)) (last-of path)

-- two words for one thing
fault-failed : (a : PathAnswer) → is_fault a ≡ is_failed a
fault-failed Shown = refl
fault-failed (Entry k) = refl
fault-failed (Begun r) = refl
fault-failed (Replied reply) = refl
fault-failed (Failed code) = refl
fault-failed Ended = refl
fault-failed Dropped = refl

pub arrives-last : (system : System) (answers : List Answer) (a : Answer) (c d : Config) → Arrives system c (answers ++ a ∷ []) d
    → (from : Config) × (at : Config) × Arrives system c answers from × Reaches system from at × (put system a at ≡ d)
arrives-last system [] a c d first = (c, first.0, refl, first.1.0, first.1.1)
arrives-last system (one ∷ answers) a c d first =
    let rest = arrives-last system answers a (put system one first.0) d first.1.1 in
    (rest.0, rest.1, (first.0, (first.1.0, rest.2)), rest.3, rest.4)

-- ---- images

-- each active program is as small as an image has room for
abbrev HasSmallStorage : Context → Type 0
HasSmallStorage context = All (λ (frame : Frame). length frame.storage ≤ most_active) context.frames

module _ (system : System) (script : List FailLine) (t : ℕ) (info : TermInfo) (valid : IsValid system) (here : slice_get system.terminals t ≡ Some info) where
  abbrev sys : Behaviour
  sys = behaviour script system

  fits : (d : Config) → Shallow d → HasSmallStorage (closed d) → All FrameFits (closed d).frames
  fits d shallow small k other lt =
      let all = All-append (λ (frame : Frame). length frame.returns ≤ most_performs) d.rest.frames (d.top ∷ []) shallow.waiting
      (All-cons (λ (frame : Frame). length frame.returns ≤ most_performs) d.top [] shallow.top (All-nil (λ (frame : Frame). length frame.returns ≤ most_performs))) in
      record { storage = small k other lt; returns = all k other lt }

  image-at : (d : Config) → Shallow d → HasSmallStorage (closed d) → d.rest.file_status ≡ 0 → is_run_fault d.rest.course ≡ false → d.rest.at_verb ≡ false → d.rest.count ≡ 0 → HasImage (closed d)
  image-at d shallow small status no_fault answer count =
      let long : length (d.rest.frames ++ d.top ∷ []) ≡ length d.rest.frames + 1 = length-append d.rest.frames (d.top ∷ []) in
      let few : length d.rest.frames ≤ 8 = shallow.few in
      record {
        file_status = status;
        no_fault = no_fault;
        at_answer = answer;
        count = count;
        some = omega (arith, long);
        few = omega (arith, long, few);
        frames = fits d shallow small;
      }

  image-behind : (path : List PathAnswer) (a : PathAnswer) (d : Config) → IsPath sys t (path ++ a ∷ []) → is_fault a ≡ false
      → Arrives system (starting system info.program) (map (told info.entries) (path ++ a ∷ [])) d → HasSmallStorage (closed d) → HasImage (closed d)
  image-behind path a d is_path sound arrives small =
      let parts = arrives-last system (map (told info.entries) path) (told info.entries a) (starting system info.program) d
      (subst (λ l. Arrives system (starting system info.program) l d) (map-append (told info.entries) path (a ∷ [])) arrives) in
      let before : IsPath sys t path = record { known = is_path.known; suits = suits-front sys t [] path (a ∷ []) is_path.suits } in
      let suits : SuitsFrom sys t path (a ∷ []) = suits-behind sys t [] path (a ∷ []) is_path.suits in
      let first = follows system script t info valid here path parts.0 before (arrives-comes system (map (told info.entries) path) (starting system info.program) parts.0 parts.2) in
      let second = follows-on system script t info valid here path parts.0 parts.1 parts.3.0 first in
      let behind : IsBehind (standing path) (entries_on path) _ a (put system (told info.entries a) parts.1).rest = behind-answer system script t info valid here path a parts.1 parts.3.1 suits.0 second in
      let third = follows-answer system script t info valid here path a parts.1 parts.3.1 suits.0 second in
      let calm = behind.calm (sym (fault-failed a) ∙ sound) in
      subst (λ c. HasSmallStorage (closed c) → HasImage (closed c)) parts.4
      (λ small. image-at (put system (told info.entries a) parts.1) third.shallow small third.counts.status calm behind.at_answer behind.count) small

  image-start : (d : Config) → starting system info.program ≡ d → HasSmallStorage (closed d) → HasImage (closed d)
  image-start d is small =
      let first = follows-start system script t info valid here in
      subst (λ c. HasSmallStorage (closed c) → HasImage (closed c)) is
      (λ small. image-at (starting system info.program) first.shallow small refl refl refl refl) small

  -- its program is one of the system
  program-known : info.program < length system.programs
  program-known =
      (subst (IsTerminal system) (get_or_from_slice_get system.terminals t info info here) (valid.terminals t info (slice_get_within system.terminals t info here))).program

  small : (path : List PathAnswer) (context : Context) → StandsForPath system info path context → HasSmallStorage context
  small path context stands k other lt =
      let le = small-stands system info.program (map (told info.entries) path) context valid program-known (stands-behind system info path context stands) k other lt in
      omega (arith, le)

  pub has-image : (path : List PathAnswer) (context : Context) → IsPath sys t path → ends_failed path ≡ false → StandsForPath system info path context → HasImage context
  has-image path context is_path sound stands =
      subst HasImage (sym stands.is) (by (last-of path) (subst HasSmallStorage stands.is (small path context stands)))
    where
      by : (path ≡ []) ⊎ ((before : List PathAnswer) × (a : PathAnswer) × (path ≡ before ++ a ∷ [])) → HasSmallStorage (closed stands.at) → HasImage (closed stands.at)
      by (inl none) small = image-start stands.at (subst (λ p. Arrives system (starting system info.program) (map (told info.entries) p) stands.at) none stands.arrives) small
      by (inr some) small =
          image-behind some.0 some.1 stands.at (subst (IsPath sys t) some.2 is_path) (sym (ends-push some.0 some.1) ∙ (ap ends_failed (sym some.2) ∙ sound))
          (subst (λ p. Arrives system (starting system info.program) (map (told info.entries) p) stands.at) some.2 stands.arrives) small
