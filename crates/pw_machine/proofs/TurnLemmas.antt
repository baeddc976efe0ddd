-- The last of the active PERFORMs.
use Rattle.std.proofs.Common.{◌≡◌, ◌≢◌, ◌==◌, nat_lt, cond, Bool, true, false, ℕ, suc, ◌+◌, ◌-◌, ◌<◌, List, [], ◌∷◌, ◌++◌, length, take, get_or, Some, refl, sym, ap, ◌∙◌, arith}
use Rattle.std.proofs.Math.ListN.{set}
use Rattle.std.proofs.lemmas.Bool.Decides.{nat_tests}
use Rattle.pw_code.specs.declared.context.Context.{Context}
use Rattle.pw_code.specs.declared.context.Course.TheVariants.{Fault}
use Rattle.pw_code.specs.declared.context.Frame.{Frame}
use Rattle.pw_code.specs.declared.context.Return.{Return}
use Rattle.pw_code_meaning.specs.Config.{Config, most_counted}
use Rattle.pw_code_meaning.specs.Turns.{split_last, last_behind, comes_back}

-- a list without its last item, and that item
pub split_last-is : (items : List Return) (d : Return) → 0 < length items → split_last items ≡ Some (take (length items - 1) items, get_or items (length items - 1) d)
split_last-is [] d lt = absurd (omega arith)
split_last-is (item ∷ []) d lt = refl
split_last-is (item ∷ (next ∷ items)) d lt =
    let e : suc (suc (length items) - 1) ≡ suc (suc (length items)) - 1 = omega arith in
    ap (last_behind item) (split_last-is (next ∷ items) d (omega arith))
    ∙ ap (λ n. Some (take n (item ∷ (next ∷ items)), get_or (item ∷ (next ∷ items)) n d)) e

-- the last item changed
pub set_last : (items : List Return) (value : Return) → 0 < length items → set items (length items - 1) value ≡ take (length items - 1) items ++ value ∷ []
set_last [] value lt = absurd (omega arith)
set_last (item ∷ []) value lt = refl
set_last (item ∷ (next ∷ items)) value lt =
    let e : suc (suc (length items) - 1) ≡ suc (suc (length items)) - 1 = omega arith in
    ap (λ n. set (item ∷ (next ∷ items)) n value) (sym e) ∙ ap (λ l. item ∷ l) (set_last (next ∷ items) value (omega arith))
    ∙ ap (λ n. take n (item ∷ (next ∷ items)) ++ value ∷ []) e

-- a frame with the rest of its context
abbrev config : Frame → Context → Config
config top rest = record { top = top; rest = rest }

-- one turn more of the last active PERFORM
by_tests : {A : Type 0} (none : Bool) (room : Bool) (back again fault : A) → none ≡ false → room ≡ true → cond none back (cond room again fault) ≡ again
by_tests true room back again fault ended there = absurd (cc)
by_tests false true back again fault ended there = refl
by_tests false false back again fault ended there = absurd (cc)

pub again : (start program at : ℕ) (storage : List ℕ) (items now : List Return) (last : Return) (context new : Context) (told : Bool) → 0 < length items → last.turns ≢ 0
    → told ≡ nat_lt context.count most_counted → told ≡ true
    → new ≡ cond told (record context { count = context.count + 1 }) (record context { course = Fault 201; at_verb = true })
    → now ≡ set items (length items - 1) (record last { turns = last.turns - 1 })
    → config (record { program = program; at = start; storage = storage; returns = now }) new
    ≡ comes_back start (take (length items - 1) items) last (config (record { program = program; at = at; storage = storage; returns = items }) context)
again start program at storage items now last context new told some left told_is counted_on new_is now_is =
    let before : List Return = take (length items - 1) items in
    let one_less : Return = record last { turns = last.turns - 1 } in
    let ended : (last.turns == 0) ≡ false = grind (arith, nat_tests) in
    let room : nat_lt context.count most_counted ≡ true = sym told_is ∙ counted_on in
    let counted_context : Context = record context { count = context.count + 1 } in
    let here : new ≡ counted_context = new_is ∙ ap (λ b. cond b counted_context (record context { course = Fault 201; at_verb = true })) counted_on in
    let made : List Return → Context → Config = λ r x. config (record { program = program; at = start; storage = storage; returns = r }) x in
    ap (λ r. made r new) (now_is ∙ set_last items one_less some) ∙ ap (made (before ++ one_less ∷ [])) here
    ∙ sym (by_tests (last.turns == 0) (nat_lt context.count most_counted)
    (config (record { program = program; at = last.resume; storage = storage; returns = before }) context)
    (made (before ++ one_less ∷ []) counted_context)
    (config (record { program = program; at = at; storage = storage; returns = items }) (record context { course = Fault 201; at_verb = true })) ended room)
