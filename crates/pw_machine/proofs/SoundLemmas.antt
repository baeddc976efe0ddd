-- Programs that wait for one another.
use Rattle.std.proofs.Common.{◌≡◌, ℕ, ◌+◌, ◌-◌, ◌<◌, Bool, List, [], ◌∷◌, ◌++◌, length, length-append, Option, None, refl, sym, ap, ◌∙◌, subst, arith}
use Rattle.std.specs.Prelude.{All, MatchOption, Some, map, slice_get}
use Rattle.std.specs.Option.{option_to_list}
use Rattle.std.proofs.lemmas.List.Elements.{All-cons, All-nil}
use Rattle.std.proofs.lemmas.Option.{same_Some}
use Rattle.pw_code.specs.Instrs.{program_at}
use Rattle.pw_code.specs.Places.{IsPlace}
use Rattle.pw_code.specs.Valid.{IsValid}
use Rattle.pw_code.specs.declared.code.Code.{Code}
use Rattle.pw_code.specs.declared.context.Frame.{Frame}
use Rattle.pw_code.specs.declared.instr.Instr.TheVariants.{Call}
use Rattle.pw_code.specs.declared.place.StoragePlace.{StoragePlace}
use Rattle.pw_code.specs.declared.system.System.{System}
use Rattle.pw_code_meaning.specs.Calls.{most_calls}
use Rattle.pw_code_meaning.specs.Config.{Config, code_at}
use Rattle.pw_code_meaning.specs.Turns.{last_behind, split_last}
use Rattle.pw_code_meaning.specs.Sound.{AreWaiting, IsFrame, IsSound, Waits, kept_size}
use Rattle.pw_code_meaning.proofs.Sizes.{waits-same, code-is}
use Rattle.pw_machine.specs.Stack.{AreKnown, StaysAt, popped}
use Rattle.pw_machine.proofs.RangeLemmas.{can_do}

-- a program that another waits for, at another place with another storage of the same size
pub waiting_same : (system : System) (frames : List Frame) (a b : Frame) → b.program ≡ a.program → length b.storage ≡ length a.storage
    → AreWaiting system frames a → AreWaiting system frames b
waiting_same system [] a b program size w = tt
waiting_same system (f ∷ []) a b program size w = (waits-same system f a b program size w.0, tt)
waiting_same system (f ∷ (g ∷ rest)) a b program size w = (w.0, waiting_same system (g ∷ rest) a b program size w.1)

-- one more that waits
pub waiting_push : (system : System) (frames : List Frame) (caller callee : Frame) → AreWaiting system frames caller → Waits system caller callee
    → AreWaiting system (frames ++ caller ∷ []) callee
waiting_push system [] caller callee w last = (last, tt)
waiting_push system (f ∷ []) caller callee w last = (w.0, waiting_push system [] caller callee tt last)
waiting_push system (f ∷ (g ∷ rest)) caller callee w last = (w.0, waiting_push system (g ∷ rest) caller callee w.1 last)

-- the last of them
pub waiting_pop : (system : System) (frames : List Frame) (caller callee : Frame) → AreWaiting system (frames ++ caller ∷ []) callee
    → AreWaiting system frames caller × Waits system caller callee
waiting_pop system [] caller callee w = (tt, w.0)
waiting_pop system (f ∷ []) caller callee w = ((w.0, tt), w.1.0)
waiting_pop system (f ∷ (g ∷ rest)) caller callee w =
    let more = waiting_pop system (g ∷ rest) caller callee w.1 in
    ((w.0, more.0), more.1)

-- all of them are the system's
pub waiting_known : (system : System) (frames : List Frame) (top : Frame) → AreWaiting system frames top → AreKnown system frames
waiting_known system [] top w = All-nil (λ (frame : Frame). frame.program < length system.programs + length system.servers)
waiting_known system (f ∷ rest) top w =
    All-cons (λ (frame : Frame). frame.program < length system.programs + length system.servers) f rest w.0.frame.known (waiting_known system rest top w.1)

-- a program at another place with another storage of the same size
pub frame_same : (system : System) (a b : Frame) → b.program ≡ a.program → length b.storage ≡ length a.storage → IsFrame system a → IsFrame system b
frame_same system a b program size is =
    let items : length (code_at system b.program).storage ≡ length (code_at system a.program).storage = ap (λ n. length (code_at system n).storage) program in
    record { known = omega (arith, is.known, program); storage = omega (arith, is.storage, items, size) }

pub stays_sound : (system : System) (c d : Config) → IsSound system c → StaysAt c d → IsSound system d
stays_sound system c d is stays = record {
  top = frame_same system c.top d.top stays.program stays.size is.top;
  waiting = subst (λ frames. AreWaiting system frames d.top) (sym stays.frames) (waiting_same system c.rest.frames c.top d.top stays.program stays.size is.waiting);
  few = omega (arith, is.few, ap (length {A = Frame}) stays.frames);
}

-- ---- the last of a list

pub split_back : {A : Type 0} (xs : List A) (x : A) → split_last (xs ++ x ∷ []) ≡ Some (xs, x)
split_back [] x = refl
split_back (y ∷ ys) x = ap (last_behind y) (split_back ys x)

pub last_popped : (old new : List Frame) (r : Option Frame) → old ≡ new ++ option_to_list r → (r ≡ None → length old ≡ 0) → split_last old ≡ popped new r
last_popped old new (Some x) is empty = ap split_last is ∙ split_back new x
last_popped [] new None is empty = refl
last_popped (y ∷ ys) new None is empty = absurd (omega (arith, empty refl))

pub none_case : (r : Option Frame) (P : Type 0) (Q : Frame → Type 0) → MatchOption r P Q → r ≡ None → P
none_case None P Q m e = m
none_case (Some x) P Q m e = absurd (cc)

-- ---- a program is called

pub call_sound : (system : System) (c d : Config) (program : ℕ) (arguments : List StoragePlace) (keeps : Bool) → IsSound system c → program < length system.programs
    → slice_get (code_at system c.top.program).instrs c.top.at ≡ Some (Call program arguments keeps) → length c.rest.frames < most_calls
    → d.top.program ≡ program → length d.top.storage ≡ length (program_at system program).storage + kept_size keeps → d.rest.frames ≡ c.rest.frames ++ c.top ∷ []
    → IsSound system d
call_sound system c d program arguments keeps is known call few same size frames =
    let items : length (code_at system d.top.program).storage ≡ length (program_at system program).storage =
    ap (λ n. length (code_at system n).storage) same ∙ ap (λ (code : Code). length code.storage) (code-is system program known) in
    let waits : Waits system c.top d.top = record {
      arguments = arguments;
      keeps = keeps;
      frame = is.top;
      call = call ∙ ap (λ n. Some (Call n arguments keeps)) (sym same);
      size = omega (arith, size, items);
    } in
    record {
      top = record { known = omega (arith, known, same); storage = omega (arith, size, items) };
      waiting = subst (λ l. AreWaiting system l d.top) (sym frames) (waiting_push system c.rest.frames c.top d.top is.waiting waits);
      few = omega (arith, few, ap (length {A = Frame}) frames, length-append c.rest.frames (c.top ∷ []));
    }

-- ---- what its caller knows of it

pub record AtCall (system : System) (caller callee : Frame) (program : ℕ) (arguments : List StoragePlace) (keeps : Bool) : Type 0 where
  pub is : program ≡ callee.program
  pub size : length callee.storage ≡ length (code_at system callee.program).storage + kept_size keeps
  pub places : All (IsPlace (length caller.storage)) arguments
  pub linkage : map (λ (place : StoragePlace). place.size) arguments ≡ map (λ (item : ℕ × ℕ). item.1) (code_at system callee.program).linkage

same_program : (p q : ℕ) (xs ys : List StoragePlace) (k l : Bool) → Call p xs k ≡ Call q ys l → p ≡ q
same_program p q xs ys k l e = cc

same_keeps : (p q : ℕ) (xs ys : List StoragePlace) (k l : Bool) → Call p xs k ≡ Call q ys l → k ≡ l
same_keeps p q xs ys k l e = cc

pub at_call : (system : System) (caller callee : Frame) (program : ℕ) (arguments : List StoragePlace) (keeps : Bool) → IsValid system → Waits system caller callee
    → slice_get (code_at system caller.program).instrs caller.at ≡ Some (Call program arguments keeps) → AtCall system caller callee program arguments keeps
at_call system caller callee program arguments keeps valid w at =
    let same : Call program arguments keeps ≡ Call callee.program w.arguments w.keeps = same_Some _ _ (sym at ∙ w.call) in
    let can = can_do system caller (Call program arguments keeps) valid w.frame at in
    let kept : kept_size w.keeps ≡ kept_size keeps = ap kept_size (sym (same_keeps _ _ _ _ _ _ same)) in
    let is : program ≡ callee.program = same_program _ _ _ _ _ _ same in
    let code : program_at system program ≡ code_at system callee.program = sym (code-is system program can.ranges.known) ∙ ap (code_at system) is in
    record {
      is = is;
      size = omega (arith, w.size, kept);
      places = can.ranges.places;
      linkage = can.ranges.sizes ∙ ap (λ (c : Code). map (λ (item : ℕ × ℕ). item.1) c.linkage) code;
    }

-- ---- a program is left

pub returned_sound : (system : System) (c d : Config) (before : List Frame) (caller : Frame) → IsSound system c → c.rest.frames ≡ before ++ caller ∷ []
    → d.top.program ≡ caller.program → length d.top.storage ≡ length caller.storage → d.rest.frames ≡ before → IsSound system d
returned_sound system c d before caller is frames program size left =
    let waits = waiting_pop system before caller c.top (subst (λ l. AreWaiting system l c.top) frames is.waiting) in
    record {
      top = frame_same system caller d.top program size waits.1.frame;
      waiting = subst (λ l. AreWaiting system l d.top) (sym left) (waiting_same system before caller d.top program size waits.0);
      few = omega (arith, is.few, ap (length {A = Frame}) frames, length-append before (caller ∷ []), ap (length {A = Frame}) left);
    }

pub caller_waits : (system : System) (c : Config) (before : List Frame) (caller : Frame) → IsSound system c → c.rest.frames ≡ before ++ caller ∷ [] → Waits system caller c.top
caller_waits system c before caller is frames = (waiting_pop system before caller c.top (subst (λ l. AreWaiting system l c.top) frames is.waiting)).1
