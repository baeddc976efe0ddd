-- What the arms of one step do, in the words of its meaning.
use Rattle.std.proofs.Common.{◌≡◌, ℕ, ◌+◌, Bool, true, false, List, Option, Some, None, refl, sym, ap, ◌∙◌, arith}
use Rattle.std.specs.Prelude.{Result, Ok, Err, IfOk, nat_lt, option_map, if◌then◌else◌}
use Rattle.pw_terminal.specs.Screen.{with_message}
use Rattle.pw_code.specs.declared.context.Context.{Context}
use Rattle.pw_code.specs.declared.context.Course.TheVariants.{Fault}
use Rattle.pw_code.specs.declared.instr.Arithmetic.{Arithmetic}
use Rattle.pw_code.specs.declared.instr.Instr.{Instr}
use Rattle.pw_code.specs.declared.instr.Instr.TheVariants.{Jump, JumpUnless, ParagraphEnd, Move, Compute, OnSizeError, Perform, PerformTimes, Until, PerformOneOf, Exit, ExitProgram, StopRun, DisplayScreen, Display, Accept, Call, Send, NoCode, Begin, End, Abort, Restart, Receive, Reply, Read, ReadNext, Write, Rewrite, Delete}
use Rattle.pw_code.specs.declared.system.System.{System}
use Rattle.pw_tree_meaning.specs.Values.{Value, as_it_stands}
use Rattle.pw_code_meaning.specs.Config.{Config, code_statement_counted, faults, most_counted, on, over, with_storage, with_taken}
use Rattle.pw_code_meaning.specs.Moves.{Operands, operands_of, result_of}
use Rattle.pw_code_meaning.specs.Reading.{registers_of}
use Rattle.pw_code_meaning.specs.Sound.{IsSound}
use Rattle.pw_code_meaning.specs.Steps.{act, computes, does, or_else, shows}
use Rattle.pw_machine.specs.Config.{config_of}
use Rattle.pw_machine.specs.Stack.{StaysAt, is_at_once}
use Rattle.pw_machine.specs.declared.top.Top.{Top}
use Rattle.pw_machine.proofs.SoundLemmas.{stays_sound}

-- a statement counts
pub act_counted : (system : System) (i : Instr) (c : Config) → is_at_once i ≡ false → act system (Some i) c ≡ code_statement_counted (does system i) c
act_counted system (Jump n) c e = absurd (cc)
act_counted system (ParagraphEnd start) c e = absurd (cc)
act_counted system (Until paragraph cond) c e = absurd (cc)
act_counted system NoCode c e = absurd (cc)
act_counted system (JumpUnless cond n) c e = absurd (cc)
act_counted system (Move from to) c e = absurd (cc)
act_counted system (Compute a) c e = absurd (cc)
act_counted system (OnSizeError a n) c e = absurd (cc)
act_counted system (Perform paragraph) c e = refl
act_counted system (PerformTimes paragraph times) c e = refl
act_counted system (PerformOneOf paragraphs position) c e = refl
act_counted system Exit c e = refl
act_counted system ExitProgram c e = refl
act_counted system StopRun c e = refl
act_counted system (DisplayScreen screen base) c e = refl
act_counted system (Display one) c e = refl
act_counted system (Accept screen keys) c e = refl
act_counted system (Call program arguments keeps) c e = refl
act_counted system (Send class message codes) c e = refl
act_counted system Begin c e = refl
act_counted system End c e = refl
act_counted system Abort c e = refl
act_counted system Restart c e = refl
act_counted system (Receive into) c e = refl
act_counted system (Reply from) c e = refl
act_counted system (Read file locking key into) c e = refl
act_counted system (ReadNext file locking after into) c e = refl
act_counted system (Write file from) c e = refl
act_counted system (Rewrite file from) c e = refl
act_counted system (Delete file key) c e = refl

abbrev one_more : Context → Context
one_more context = record context { count = context.count + 1 }

abbrev too_many : Context → Context
too_many context = record context { course = Fault 201; at_verb = true }

-- a statement that has begun, and one that is one too many
pub count_on : (f : Config → Config) (top : Top) (old new : Context) (told : Bool) → told ≡ nat_lt old.count most_counted → told ≡ true
    → new ≡ (if told then one_more old else too_many old) → code_statement_counted f (config_of top old) ≡ f (config_of top new)
count_on f top old new told is going made =
    let here : new ≡ one_more old = made ∙ ap (λ b. if b then one_more old else too_many old) going in
    ap (λ b. if b then f (config_of top (one_more old)) else faults 201 (config_of top old)) (sym is ∙ going) ∙ ap (λ (x : Context). f (config_of top x)) (sym here)

pub count_off : (f : Config → Config) (top : Top) (old new : Context) (told : Bool) → told ≡ nat_lt old.count most_counted → told ≡ false
    → new ≡ (if told then one_more old else too_many old) → code_statement_counted f (config_of top old) ≡ config_of top new
count_off f top old new told is stopped made =
    let here : new ≡ too_many old = made ∙ ap (λ b. if b then one_more old else too_many old) stopped in
    ap (λ b. if b then f (config_of top (one_more old)) else faults 201 (config_of top old)) (sym is ∙ stopped) ∙ ap (λ (x : Context). config_of top x) (sym here)

-- arithmetic that goes on behind none
over_none : (c : Config) → over 0 c ≡ on c
over_none c = let e : c.top.at + 1 + 0 ≡ c.top.at + 1 = omega arith in ap (λ n. record c { top = record c.top { at = n } }) e

sure_by : (r : Option (List ℕ)) (c : Config) → or_else r (over 0) (over 0) c ≡ or_else r on on c
sure_by None c = over_none c
sure_by (Some storage) c = over_none (with_storage storage c)

guarded_by : (r : Option (List ℕ)) (n : ℕ) (c : Config) → or_else r (over 0) (over n) c ≡ or_else r on (over n) c
guarded_by None n c = over_none c
guarded_by (Some storage) n c = refl

pub computes_sure : (a : Arithmetic) (c : Config) → computes a (over 0) (over 0) c ≡ computes a on on c
computes_sure a c = pick (operands_of (registers_of c.rest) c.top.storage a)
  where
    pick : (o : Option Operands) → with_taken o (λ found d. or_else (result_of a.operation found d.top.storage) (over 0) (over 0) d) c
        ≡ with_taken o (λ found d. or_else (result_of a.operation found d.top.storage) on on d) c
    pick None = refl
    pick (Some found) = sure_by (result_of a.operation found c.top.storage) c

pub computes_guarded : (a : Arithmetic) (n : ℕ) (c : Config) → computes a (over 0) (over n) c ≡ computes a on (over n) c
computes_guarded a n c = pick (operands_of (registers_of c.rest) c.top.storage a)
  where
    pick : (o : Option Operands) → with_taken o (λ found d. or_else (result_of a.operation found d.top.storage) (over 0) (over n) d) c
        ≡ with_taken o (λ found d. or_else (result_of a.operation found d.top.storage) on (over n) d) c
    pick None = refl
    pick (Some found) = guarded_by (result_of a.operation found c.top.storage) n c

-- DISPLAY of an operand that was read
pub displayed : (o : Option Value) (chars : List ℕ) (c : Config) → Some chars ≡ option_map as_it_stands o
    → with_taken o (λ value d. shows (with_message (as_it_stands value) d.rest.screen) d) c ≡ shows (with_message chars c.rest.screen) c
displayed None chars c e = absurd (cc)
displayed (Some value) chars c e = let is : chars ≡ as_it_stands value = cc in ap (λ (l : List ℕ). shows (with_message l c.rest.screen) c) (sym is)

-- what leaves the same programs at work keeps them sound
pub if_stays_sound : {A E : Type 0} (system : System) (c d : Config) (r : Result A E) → IsSound system c → IfOk r (λ _. StaysAt c d) → IfOk r (λ _. IsSound system d)
if_stays_sound system c d (Ok a) is stays = stays_sound system c d is stays
if_stays_sound system c d (Err e) is stays = tt
