-- Fewer steps than `most_steps` come before a verb, so the verb that follows answers is the one to which the code comes.
use Rattle.std.proofs.Common.{◌≡◌, ◌⊎◌, inl, inr, ℕ, zero, suc, ◌+◌, ◌-◌, ◌*◌, ◌^◌, ◌<◌, ◌≤◌, Bool, true, false, List, [], ◌∷◌, length, get_or, Option, Some, None, refl, sym, ap, ◌∙◌, subst, arith}
use Rattle.std.specs.Prelude.{All, nat_lt, slice_get, if◌then◌else◌}
use Rattle.std.proofs.Math.ListN.{get_or-eq_default}
use Rattle.std.proofs.Math.Nat.{mul-le-mul_left, mul-le-mul_right}
use Rattle.std.proofs.lemmas.Bool.{cases_lt}
use Rattle.std.proofs.lemmas.List.Elements.{All-nil, All-tail}
use Rattle.std.proofs.lemmas.Nat.{mul-le}
use Rattle.pw_terminal.specs.Entries.{check}
use Rattle.pw_terminal.specs.declared.entries.EntryAnswer.{EntryAnswer}
use Rattle.pw_terminal.specs.declared.entries.EntryAnswer.TheVariants.{Valid, BadKey, BadField}
use Rattle.pw_code.proofs.CourseLemmas.{course-holds}
use Rattle.pw_code.specs.Entry.{EntryLineModel}
use Rattle.pw_code.specs.Instrs.{no_code, program_at, screen_at}
use Rattle.pw_code.specs.Valid.{IsCode, IsValid}
use Rattle.pw_code.specs.declared.code.Code.{Code}
use Rattle.pw_code.specs.declared.context.Context.{Context}
use Rattle.pw_code.specs.declared.context.Frame.{Frame}
use Rattle.pw_code.specs.declared.context.Return.{Return}
use Rattle.pw_code.specs.declared.field.ScreenTable.{ScreenTable}
use Rattle.pw_code.specs.declared.instr.Instr.{Instr}
use Rattle.pw_code.specs.declared.instr.Instr.TheVariants.{Jump, JumpUnless, ParagraphEnd, Move, Compute, OnSizeError, Perform, PerformTimes, Until, PerformOneOf, Exit, ExitProgram, StopRun, DisplayScreen, Display, Accept, Call, Send, NoCode, Begin, End, Abort, Restart, Receive, Reply, Read, ReadNext, Write, Rewrite, Delete}
use Rattle.pw_code.specs.declared.instr.ReplyCode.{ReplyCode}
use Rattle.pw_code.specs.declared.place.StoragePlace.{StoragePlace}
use Rattle.pw_code.specs.declared.system.System.{System}
use Rattle.pw_code.specs.declared.verb.Answer.{Answer}
use Rattle.pw_code.specs.declared.verb.Answer.TheVariants as answer
use Rattle.pw_code_meaning.specs.Answers.{answered, answered_by, begin_put, entry_checked, entry_put, file_put, put, read_put, code_after_reply, reply_put, reply_taken, shown, unit_ended, yielded}
use Rattle.pw_code_meaning.specs.Calls.{most_calls}
use Rattle.pw_code_meaning.specs.Config.{Config, code_at, code_of, most_counted, starting, starting_server}
use Rattle.pw_code_meaning.specs.Reading.{Spot}
use Rattle.pw_code_meaning.specs.Runs.{Comes, Run, config_after_answers, at_verb, most_steps, run, runs}
use Rattle.pw_code_meaning.specs.Steps.{step}
use Rattle.pw_code_meaning.specs.Turns.{most_performs}
use Rattle.pw_code_meaning.proofs.Progress.{Progress, Shallow, back, hops, hops_in, hops_of, step_progress}
use Rattle.pw_code_meaning.proofs.RunLemmas as lemmas

-- ---- answers change neither programs at work nor PERFORMs

record Kept (c d : Config) : Type 0 where
  pub returns : d.top.returns ≡ c.top.returns
  pub frames : d.rest.frames ≡ c.rest.frames

by_test : (c d e : Config) (b : Bool) → Kept c d → Kept c e → Kept c (if b then d else e)
by_test c d e true g h = g
by_test c d e false g h = h

same : (c d : Config) → d.top.returns ≡ c.top.returns → d.rest.frames ≡ c.rest.frames → Kept c d
same c d returns frames = record { returns = returns; frames = frames }

checked : (table : ScreenTable) (line : EntryLineModel) (found : EntryAnswer) (c : Config) → Kept c (entry_checked table line found c)
checked table line (Valid place) c = same c _ refl refl
checked table line BadKey c = same c _ refl refl
checked table line (BadField place) c = same c _ refl refl

entry_kept : (table : ScreenTable) (keys : List ℕ) (a : Answer) (c : Config) → Kept c (entry_put table keys a c)
entry_kept table keys (answer.Entry line) c = checked table line (check table keys line) c
entry_kept table keys answer.Shown c = same c _ refl refl
entry_kept table keys (answer.Begun r) c = same c _ refl refl
entry_kept table keys (answer.Replied reply) c = same c _ refl refl
entry_kept table keys (answer.Failed code) c = same c _ refl refl
entry_kept table keys answer.Ended c = same c _ refl refl
entry_kept table keys answer.Dropped c = same c _ refl refl
entry_kept table keys (answer.FileDone status content) c = same c _ refl refl

reply_frames : (b : Bool) (rest : Context) → (if b then answered rest else unit_ended rest).frames ≡ rest.frames
reply_frames true rest = refl
reply_frames false rest = refl

yielded_kept : (o : Option (ℕ × Spot)) (reply : List ℕ) (c : Config) → Kept c (yielded o reply c)
yielded_kept None reply c = same c _ refl (reply_frames c.rest.in_unit c.rest)
yielded_kept (Some found) reply c = same c _ refl (reply_frames c.rest.in_unit c.rest)

reply_kept : (codes : List ReplyCode) (a : Answer) (c : Config) → Kept c (reply_put codes a c)
reply_kept codes (answer.Replied reply) c = yielded_kept _ reply c
reply_kept codes (answer.Failed code) c = same c _ refl refl
reply_kept codes answer.Shown c = same c _ refl refl
reply_kept codes (answer.Entry line) c = same c _ refl refl
reply_kept codes (answer.Begun r) c = same c _ refl refl
reply_kept codes answer.Ended c = same c _ refl refl
reply_kept codes answer.Dropped c = same c _ refl refl
reply_kept codes (answer.FileDone status content) c = same c _ refl refl

begin_kept : (a : Answer) (c : Config) → Kept c (begin_put a c)
begin_kept (answer.Begun r) c = same c _ refl refl
begin_kept answer.Shown c = same c _ refl refl
begin_kept (answer.Entry line) c = same c _ refl refl
begin_kept (answer.Replied reply) c = same c _ refl refl
begin_kept (answer.Failed code) c = same c _ refl refl
begin_kept answer.Ended c = same c _ refl refl
begin_kept answer.Dropped c = same c _ refl refl
begin_kept (answer.FileDone status content) c = same c _ refl refl

read_kept : (into : StoragePlace) (a : Answer) (c : Config) → Kept c (read_put into a c)
read_kept into (answer.FileDone status content) c = same c _ refl refl
read_kept into answer.Shown c = same c _ refl refl
read_kept into (answer.Entry line) c = same c _ refl refl
read_kept into (answer.Begun r) c = same c _ refl refl
read_kept into (answer.Replied reply) c = same c _ refl refl
read_kept into (answer.Failed code) c = same c _ refl refl
read_kept into answer.Ended c = same c _ refl refl
read_kept into answer.Dropped c = same c _ refl refl

file_kept : (a : Answer) (c : Config) → Kept c (file_put a c)
file_kept (answer.FileDone status content) c = same c _ refl refl
file_kept answer.Shown c = same c _ refl refl
file_kept (answer.Entry line) c = same c _ refl refl
file_kept (answer.Begun r) c = same c _ refl refl
file_kept (answer.Replied reply) c = same c _ refl refl
file_kept (answer.Failed code) c = same c _ refl refl
file_kept answer.Ended c = same c _ refl refl
file_kept answer.Dropped c = same c _ refl refl

answered_kept : (system : System) (o : Option Instr) (a : Answer) (c : Config) → Kept c (answered_by system o a c)
answered_kept system None a c = same c _ refl refl
answered_kept system (Some (DisplayScreen screen base)) a c = same c _ refl refl
answered_kept system (Some (Display one)) a c = same c _ refl refl
answered_kept system (Some (Accept screen keys)) a c = entry_kept (screen_at system screen) keys a c
answered_kept system (Some (Send class message codes)) a c = reply_kept codes a c
answered_kept system (Some Begin) a c = begin_kept a c
answered_kept system (Some End) a c = same c _ refl refl
answered_kept system (Some Abort) a c = same c _ refl refl
answered_kept system (Some (Read file locking key into)) a c = read_kept into a c
answered_kept system (Some (ReadNext file locking config_after_answers into)) a c = read_kept into a c
answered_kept system (Some (Write file from)) a c = file_kept a c
answered_kept system (Some (Rewrite file from)) a c = file_kept a c
answered_kept system (Some (Delete file key)) a c = file_kept a c
answered_kept system (Some (Jump n)) a c = same c _ refl refl
answered_kept system (Some (JumpUnless cond n)) a c = same c _ refl refl
answered_kept system (Some (ParagraphEnd start)) a c = same c _ refl refl
answered_kept system (Some (Move from to)) a c = same c _ refl refl
answered_kept system (Some (Compute one)) a c = same c _ refl refl
answered_kept system (Some (OnSizeError one n)) a c = same c _ refl refl
answered_kept system (Some (Perform paragraph)) a c = same c _ refl refl
answered_kept system (Some (PerformTimes paragraph times)) a c = same c _ refl refl
answered_kept system (Some (Until paragraph cond)) a c = same c _ refl refl
answered_kept system (Some (PerformOneOf paragraphs position)) a c = same c _ refl refl
answered_kept system (Some Exit) a c = same c _ refl refl
answered_kept system (Some ExitProgram) a c = same c _ refl refl
answered_kept system (Some StopRun) a c = same c _ refl refl
answered_kept system (Some (Call program arguments keeps)) a c = same c _ refl refl
answered_kept system (Some NoCode) a c = same c _ refl refl
answered_kept system (Some Restart) a c = same c _ refl refl
answered_kept system (Some (Receive into)) a c = same c _ refl refl
answered_kept system (Some (Reply from)) a c = same c _ refl refl

put_kept : (system : System) (a : Answer) (c : Config) → Kept c (put system a c)
put_kept system a c =
    course-holds (Kept c) c.rest.course _ _ _ (answered_kept system (slice_get (code_of system c).instrs c.top.at) a c) (same c (shown c) refl refl)
    (λ code. same c c refl refl)

pub put_shallow : (system : System) (a : Answer) (c : Config) → Shallow c → Shallow (put system a c)
put_shallow system a c s =
    let kept = put_kept system a c in
    record {
      top = omega (arith, s.top, ap (length {A = Return}) kept.returns);
      waiting = subst (All (λ (frame : Frame). length frame.returns ≤ most_performs)) (sym kept.frames) s.waiting;
      few = omega (arith, s.few, ap (length {A = Frame}) kept.frames);
    }

-- ---- how many steps come before a verb

-- each code of the system has fewer than 2^32 instructions
abbrev IsShort : System → Type 0
IsShort system = (n : ℕ) → length (code_at system n).instrs ≤ 2 ^ 32

pub at_or : {A : Type 0} (P : A → Type 0) (xs : List A) (n : ℕ) (d : A) → All P xs → P d → P (get_or xs n d)
at_or P xs n d all one =
    elim (cases_lt n (length xs)) as (λ _. P (get_or xs n d)) [
      | inl less ↦ all n d less
      | inr le ↦ subst P (sym (get_or-eq_default xs d le)) one
    ]

abbrev IsShortCode : Code → Type 0
IsShortCode code = length code.instrs ≤ 2 ^ 32

short : (system : System) → IsValid system → IsShort system
short system valid n = pick (nat_lt n (length system.programs))
  where
    pick : (b : Bool) → IsShortCode (if b then program_at system n else get_or system.servers (n - length system.programs) no_code)
    pick true = at_or IsShortCode system.programs n no_code (λ k d lt. let code = valid.programs k d lt in omega (arith, code.places)) (omega arith)
    pick false = at_or IsShortCode system.servers (n - length system.programs) no_code (λ k d lt. let code = valid.servers k d lt in omega (arith, code.places)) (omega arith)

back_bound : (most : ℕ) (items : List Return) → back most items ≤ length items * most
back_bound most [] = omega arith
back_bound most (one ∷ rest) = let ih = back_bound most rest in omega arith

frame_bound : (system : System) (frame : Frame) → IsShort system → length frame.returns ≤ most_performs → hops_in system frame ≤ 65 * 2 ^ 32
frame_bound system frame is few =
    let most : ℕ = length (code_at system frame.program).instrs in
    let le : most ≤ 2 ^ 32 = is frame.program in
    let back_le = back_bound most frame.returns in
    let product : length frame.returns * most ≤ 64 * 2 ^ 32 = mul-le (length frame.returns) most 64 (2 ^ 32) (omega arith) le in
    omega arith

frames_bound : (system : System) (frames : List Frame) → IsShort system → All (λ (frame : Frame). length frame.returns ≤ most_performs) frames
    → hops_of system frames ≤ length frames * (65 * 2 ^ 32 + 1)
frames_bound system [] is all = omega arith
frames_bound system (frame ∷ frames) is all =
    let ih = frames_bound system frames is (All-tail (λ (frame : Frame). length frame.returns ≤ most_performs) frame frames all) in
    let one = frame_bound system frame is (all 0 frame (omega arith)) in
    omega arith

-- so far a program may go without a count
abbrev most_hops : ℕ
most_hops = 2 ^ 42

hops_bound : (system : System) (c : Config) → IsShort system → Shallow c → hops system c ≤ most_hops
hops_bound system c is s =
    let top = frame_bound system c.top is s.top in
    let rest = frames_bound system c.rest.frames is s.waiting in
    let product : length c.rest.frames * (65 * 2 ^ 32 + 1) ≤ 8 * (65 * 2 ^ 32 + 1) = mul-le (length c.rest.frames) (65 * 2 ^ 32 + 1) 8 (65 * 2 ^ 32 + 1) s.few (omega arith) in
    omega arith

-- a bound on the steps before the next verb
abbrev to_go : System → Config → ℕ
to_go system c = if c.rest.at_verb then 0 else (most_counted - c.rest.count) * (most_hops + 1) + hops system c + 1

abbrev value : System → Config → ℕ
value system c = (most_counted - c.rest.count) * (most_hops + 1) + hops system c + 1

to_go_at : (system : System) (c : Config) → c.rest.at_verb ≡ true → to_go system c ≡ 0
to_go_at system c v = ap (λ b. if b then 0 else value system c) v

to_go_on : (system : System) (c : Config) → c.rest.at_verb ≡ false → to_go system c ≡ value system c
to_go_on system c v = ap (λ b. if b then 0 else value system c) v

to_go_most : (system : System) (c : Config) → to_go system c ≤ value system c
to_go_most system c = pick c.rest.at_verb
  where
    pick : (b : Bool) → (if b then 0 else value system c) ≤ value system c
    pick true = omega arith
    pick false = omega arith

step_lowers : (system : System) (c : Config) → IsShort system → Shallow c → c.rest.at_verb ≡ false → to_go system (step system c) < to_go system c
step_lowers system c is s v =
    let p = step_progress system c in
    let d : Config = step system c in
    let here : to_go system c ≡ value system c = to_go_on system c v in
    let most : to_go system d ≤ value system d = to_go_most system d in
    let up : c.rest.count ≤ d.rest.count = p.grows.up in
    elim p.on as (λ _. to_go system d < to_go system c) [
      | inl stands ↦ let none : to_go system d ≡ 0 = to_go_at system d stands in omega (arith, none, here)
      | inr on ↦
          elim on as (λ _. to_go system d < to_go system c) [
            | inl more ↦
                let lt : c.rest.count < most_counted = p.bound more in
                let few : hops system d ≤ most_hops = hops_bound system d is (p.grows.shallow s) in
                let product : (most_counted - d.rest.count + 1) * (most_hops + 1) ≤ (most_counted - c.rest.count) * (most_hops + 1) =
                mul-le-mul_right (most_hops + 1) (omega (arith, more, lt)) in
                omega (arith, product, few, most, here)
            | inr less ↦
                let product : (most_counted - d.rest.count) * (most_hops + 1) ≤ (most_counted - c.rest.count) * (most_hops + 1) =
                mul-le-mul_right (most_hops + 1) (omega (arith, up)) in
                omega (arith, product, less, most, here)
          ]
    ]

abbrev most : ℕ
most = (most_counted + 1) * (most_hops + 1)

to_go_bound : (system : System) (c : Config) → IsShort system → Shallow c → to_go system c ≤ most
to_go_bound system c is s =
    let few : hops system c ≤ most_hops = hops_bound system c is s in
    let le : to_go system c ≤ value system c = to_go_most system c in
    let less : most_counted - c.rest.count ≤ most_counted = omega arith in
    let product : (most_counted - c.rest.count) * (most_hops + 1) ≤ most_counted * (most_hops + 1) = mul-le-mul_right (most_hops + 1) less in
    omega (arith, few, le, product)

-- ---- runs

record Ends (system : System) (n : ℕ) (c : Config) (answers : List Answer) : Type 0 where
  pub at : Config
  pub runs : run system n c answers ≡ record { at = at; left = [] }
  pub verb : at_verb at ≡ true

abbrev turn : System → ℕ → Config → List Answer → Bool → Run Config Answer
turn system n c answers b = elim b as (λ _. Run Config Answer) [
  | true ↦ elim answers as (λ _. Run Config Answer) [
    | [] ↦ record { at = c; left = [] }
    | a ∷ rest ↦ runs at_verb (step system) (put system) n (put system a c) rest
  ]
  | false ↦ runs at_verb (step system) (put system) n (step system c) answers
]

ends : (system : System) → IsShort system → (n : ℕ) (c : Config) (answers : List Answer) → Shallow c → length answers * (most + 1) + to_go system c ≤ n → Ends system n c answers
ends system is zero c answers s le = pick c.rest.at_verb refl answers le
  where
    pick : (b : Bool) → c.rest.at_verb ≡ b → (q : List Answer) → length q * (most + 1) + to_go system c ≤ 0 → Ends system 0 c q
    pick true v [] h = record { at = c; runs = refl; verb = v }
    pick true v (a ∷ rest) h = absurd (omega (arith, h))
    pick false v q h = let e = to_go_on system c v in absurd (omega (arith, h, e))
ends system is (suc n) c answers s le =
    pick c.rest.at_verb refl answers le (λ a rest h. ends system is n (put system a c) rest (put_shallow system a c s) h)
    (λ q h. ends system is n (step system c) q ((step_progress system c).grows.shallow s) h)
  where
    pick : (b : Bool) → c.rest.at_verb ≡ b → (q : List Answer) → length q * (most + 1) + to_go system c ≤ suc n
        → ((a : Answer) (rest : List Answer) → length rest * (most + 1) + to_go system (put system a c) ≤ n → Ends system n (put system a c) rest)
        → ((r : List Answer) → length r * (most + 1) + to_go system (step system c) ≤ n → Ends system n (step system c) r) → Ends system (suc n) c q
    pick true v [] h one more = record { at = c; runs = ap (turn system n c []) v; verb = v }
    pick true v (a ∷ rest) h one more =
        let few : to_go system (put system a c) ≤ most = to_go_bound system (put system a c) is (put_shallow system a c s) in
        let e = one a rest (omega (arith, h, few)) in
        record { at = e.at; runs = ap (turn system n c (a ∷ rest)) v ∙ e.runs; verb = e.verb }
    pick false v q h one more =
        let less = step_lowers system c is s v in
        let e = more q (omega (arith, h, less)) in
        record { at = e.at; runs = ap (turn system n c q) v ∙ e.runs; verb = e.verb }

pub after_is : (system : System) (c d : Config) (answers : List Answer) → IsValid system → Shallow c → Comes system c answers d → at_verb d ≡ true → config_after_answers system c answers ≡ d
after_is system c d answers valid s comes v =
    let n : ℕ = most_steps * (length answers + 1) in
    let few : to_go system c ≤ most = to_go_bound system c (short system valid) s in
    let le : most + 1 ≤ most_steps = omega arith in
    let product : length answers * (most + 1) ≤ length answers * most_steps = mul-le-mul_left (length answers) le in
    let e = ends system (short system valid) n c answers s (omega (arith, few, product)) in
    ap (λ (r : Run Config Answer). r.at) e.runs
    ∙ lemmas.one_place at_verb (step system) (put system) c e.at d answers (n, e.runs) comes e.verb v

-- ---- beginnings

pub start_shallow : (system : System) (program : ℕ) → Shallow (starting system program)
start_shallow system program = record { top = omega arith; waiting = All-nil (λ (frame : Frame). length frame.returns ≤ most_performs); few = omega arith }

pub server_shallow : (system : System) (server : ℕ) (message : List ℕ) → Shallow (starting_server system server message)
server_shallow system server message = record { top = omega arith; waiting = All-nil (λ (frame : Frame). length frame.returns ≤ most_performs); few = omega arith }

pub after_terminal : (system : System) (program : ℕ) (answers : List Answer) (d : Config) → IsValid system → Comes system (starting system program) answers d → at_verb d ≡ true
    → config_after_answers system (starting system program) answers ≡ d
after_terminal system program answers d valid comes v = after_is system (starting system program) d answers valid (start_shallow system program) comes v

pub after_server : (system : System) (server : ℕ) (message : List ℕ) (answers : List Answer) (d : Config) → IsValid system
    → Comes system (starting_server system server message) answers d → at_verb d ≡ true → config_after_answers system (starting_server system server message) answers ≡ d
after_server system server message answers d valid comes v =
    after_is system (starting_server system server message) d answers valid (server_shallow system server message) comes v
