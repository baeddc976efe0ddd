-- Each step leads to a verb, counts, or comes nearer to where the code must do one of the two.
use Rattle.std.proofs.Common.{◌≡◌, ◌⊎◌, inl, inr, ℕ, zero, suc, ◌+◌, ◌-◌, ◌<◌, ◌≤◌, Bool, true, false, List, [], ◌∷◌, ◌++◌, length, length-append, Option, Some, None, refl, sym, ap, ◌∙◌, subst, arith}
use Rattle.std.specs.Prelude.{All, map, slice_get, nat_lt, ◌==◌, if◌then◌else◌}
use Rattle.std.proofs.lemmas.Bool.{ltb-true}
use Rattle.std.proofs.Math.ListN.{get_or-append}
use Rattle.std.proofs.Math.Seq.{get_or-append_seam}
use Rattle.std.proofs.lemmas.List.Elements.{All-append, All-cons, All-nil}
use Rattle.std.proofs.lemmas.Option.{slice_get_within, same_Some}
use Rattle.pw_code.proofs.CourseLemmas.{course-holds}
use Rattle.pw_code.specs.declared.cond.Cond.{Cond}
use Rattle.pw_code.specs.declared.context.Context.{Context}
use Rattle.pw_code.specs.declared.context.Frame.{Frame}
use Rattle.pw_code.specs.declared.context.Return.{Return}
use Rattle.pw_code.specs.declared.instr.Instr.{Instr}
use Rattle.pw_code.specs.declared.instr.Instr.TheVariants.{Jump, JumpUnless, ParagraphEnd, Move, Compute, OnSizeError, Perform, PerformTimes, Until, PerformOneOf, Exit, ExitProgram, StopRun, DisplayScreen, Display, Accept, Call, Send, NoCode, Begin, End, Abort, Restart, Receive, Reply, Read, ReadNext, Write, Rewrite, Delete}
use Rattle.pw_code.specs.declared.instr.Turn.{Turn}
use Rattle.pw_code.specs.declared.system.System.{System}
use Rattle.pw_code.specs.Instrs.{program_at}
use Rattle.pw_tree_meaning.specs.Values.{number_of, whole_part}
use Rattle.pw_code_meaning.specs.Calls.{active, called_frame, calls, leaves_by, most_active, most_calls, returned, stops}
use Rattle.pw_code_meaning.specs.Config.{Config, code_at, code_of, is_server, asks, faults, code_statement_counted, most_counted, on, over, with_taken}
use Rattle.pw_code_meaning.specs.Moves.{operands_of, result_of}
use Rattle.pw_code_meaning.specs.Reading.{Spot, registers_of}
use Rattle.pw_code_meaning.specs.Steps.{act, branch, does, holds_here, instr_of, or_else, read_here, spot_here, spots_here, step, taken_here}
use Rattle.pw_code_meaning.specs.Turns.{at_position, chosen, comes_back, ends_by, last_behind, most_performs, placed, split_last, tested, turn, turns}

-- ---- how far a program may still go without a count

abbrev pub back : ℕ → List Return → ℕ
back most [] = 0
back most (one ∷ rest) = (most - one.resume) + back most rest

abbrev pub hops_in : System → Frame → ℕ
hops_in system frame =
    (length (code_at system frame.program).instrs - frame.at) + back (length (code_at system frame.program).instrs) frame.returns

abbrev pub hops_of : System → List Frame → ℕ
hops_of system [] = 0
hops_of system (frame ∷ frames) = hops_in system frame + 1 + hops_of system frames

abbrev pub hops : System → Config → ℕ
hops system c = hops_in system c.top + hops_of system c.rest.frames

-- ---- the last of a list

behind_some : {A : Type 0} (x : A) (o : Option (List A × A)) → last_behind x o ≡ None → ⊥
behind_some x None e = cc
behind_some x (Some found) e = cc

none_empty : {A : Type 0} (items : List A) → split_last items ≡ None → items ≡ []
none_empty [] e = refl
none_empty (x ∷ xs) e = absurd (behind_some x (split_last xs) e)

pub seam : {A : Type 0} (items before : List A) (last : A) → split_last items ≡ Some (before, last) → items ≡ before ++ last ∷ []
seam {A} [] before last e = absurd (cc)
seam {A} (item ∷ items) before last e = by_rest (split_last items) refl e (seam items)
  where
    by_rest : (o : Option (List A × A)) → split_last items ≡ o → last_behind item o ≡ Some (before, last)
        → ((front : List A) (end : A) → split_last items ≡ Some (front, end) → items ≡ front ++ end ∷ []) → item ∷ items ≡ before ++ last ∷ []
    by_rest None is e ih =
        let none : items ≡ [] = none_empty items is in
        let same : ([], item) ≡ (before, last) = same_Some _ _ e in
        ap (λ l. item ∷ l) none ∙ ap (λ (p : List A × A). p.0 ++ p.1 ∷ []) same
    by_rest (Some found) is e ih =
        let rest : items ≡ found.0 ++ found.1 ∷ [] = ih found.0 found.1 is in
        let same : (item ∷ found.0, found.1) ≡ (before, last) = same_Some _ _ e in
        ap (λ l. item ∷ l) rest ∙ ap (λ (p : List A × A). p.0 ++ p.1 ∷ []) same

back_append : (most : ℕ) (xs ys : List Return) → back most (xs ++ ys) ≡ back most xs + back most ys
back_append most [] ys = omega arith
back_append most (x ∷ xs) ys = let ih = back_append most xs ys in omega arith

pub back_last : (most : ℕ) (items before : List Return) (last : Return) → split_last items ≡ Some (before, last) → back most items ≡ back most before + (most - last.resume)
back_last most items before last e =
    let whole : back most items ≡ back most (before ++ last ∷ []) = ap (back most) (seam items before last e) in
    let cut = back_append most before (last ∷ []) in
    omega arith

hops_append : (system : System) (xs ys : List Frame) → hops_of system (xs ++ ys) ≡ hops_of system xs + hops_of system ys
hops_append system [] ys = omega arith
hops_append system (x ∷ xs) ys = let ih = hops_append system xs ys in omega arith

pub hops_last : (system : System) (items before : List Frame) (last : Frame) → split_last items ≡ Some (before, last)
    → hops_of system items ≡ hops_of system before + (hops_in system last + 1)
hops_last system items before last e =
    let whole : hops_of system items ≡ hops_of system (before ++ last ∷ []) = ap (hops_of system) (seam items before last e) in
    let cut = hops_append system before (last ∷ []) in
    omega arith

-- ---- no count falls, and not too many programs and PERFORMs are active

pub record Shallow (c : Config) : Type 0 where
  pub top : length c.top.returns ≤ most_performs
  pub waiting : All (λ (frame : Frame). length frame.returns ≤ most_performs) c.rest.frames
  pub few : length c.rest.frames ≤ most_calls

pub record Grows (c d : Config) : Type 0 where
  pub up : c.rest.count ≤ d.rest.count
  pub shallow : Shallow c → Shallow d

-- where none of these changes
shallow_same : (c d : Config) → d.top.returns ≡ c.top.returns → d.rest.frames ≡ c.rest.frames → Shallow c → Shallow d
shallow_same c d returns frames s = record {
  top = omega (arith, s.top, ap (length {A = Return}) returns);
  waiting = subst (All (λ (frame : Frame). length frame.returns ≤ most_performs)) (sym frames) s.waiting;
  few = omega (arith, s.few, ap (length {A = Frame}) frames);
}

plain : (c d : Config) → d.rest.count ≡ c.rest.count → d.top.returns ≡ c.top.returns → d.rest.frames ≡ c.rest.frames → Grows c d
plain c d count returns frames = record { up = omega arith; shallow = shallow_same c d returns frames }

by_test : (c d e : Config) (b : Bool) → Grows c d → Grows c e → Grows c (if b then d else e)
by_test c d e true g h = g
by_test c d e false g h = h

by_taken : {A : Type 0} (o : Option A) (next : A → Config → Config) (c : Config) → ((a : A) → Grows c (next a c)) → Grows c (with_taken o next c)
by_taken None next c h = plain c (faults 203 c) refl refl refl
by_taken (Some a) next c h = h a

abbrev more : Config → Config
more c = record c { rest = record c.rest { count = c.rest.count + 1 } }

by_count : (f : Config → Config) (c : Config) → Grows (more c) (f (more c)) → Grows c (code_statement_counted f c)
by_count f c g = pick (nat_lt c.rest.count most_counted)
  where
    pick : (b : Bool) → Grows c (if b then f (more c) else faults 201 c)
    pick true = record { up = omega (arith, g.up); shallow = λ s. g.shallow (shallow_same c (more c) refl refl s) }
    pick false = plain c (faults 201 c) refl refl refl

-- one more PERFORM
abbrev deeper : ℕ → Turn → ℕ → Config → Config
deeper resume paragraph left c =
    placed paragraph.start (c.top.returns ++ (record { resume = resume; until = paragraph.end; turns = left }) ∷ []) c

abbrev one_turn : ℕ → Turn → ℕ → Config → Config
one_turn resume paragraph left c = if nat_lt (length c.top.returns) most_performs then deeper resume paragraph left c else faults 202 c

turn_body : (resume : ℕ) (paragraph : Turn) (left : ℕ) (c : Config) → Grows c (one_turn resume paragraph left c)
turn_body resume paragraph left c = pick (nat_lt (length c.top.returns) most_performs) refl
  where
    pick : (b : Bool) → nat_lt (length c.top.returns) most_performs ≡ b → Grows c (if b then deeper resume paragraph left c else faults 202 c)
    pick true e =
        let lt : length c.top.returns < most_performs = ltb-true (length c.top.returns) most_performs e in
        record {
          up = omega arith;
          shallow = λ s. record {
            top = simp length-append (omega (arith, lt));
            waiting = s.waiting;
            few = s.few;
          };
        }
    pick false e = plain c (faults 202 c) refl refl refl

turn_grows : (resume : ℕ) (paragraph : Turn) (left : ℕ) (c : Config) → Grows c (turn resume paragraph left c)
turn_grows resume paragraph left c = by_count (one_turn resume paragraph left) c (turn_body resume paragraph left (more c))

turns_grows : (paragraph : Turn) (n : ℕ) (c : Config) → Grows c (turns paragraph n c)
turns_grows paragraph n c = by_test c _ _ (n == 0) (plain c (on c) refl refl refl) (turn_grows (c.top.at + 1) paragraph (n - 1) c)

chosen_grows : (o : Option Turn) (c : Config) → Grows c (chosen o c)
chosen_grows None c = plain c (on c) refl refl refl
chosen_grows (Some paragraph) c = turn_grows (c.top.at + 1) paragraph 0 c

stops_grows : (system : System) (c : Config) → Grows c (stops system c)
stops_grows system c = by_test c _ _ (is_server system c) (plain c _ refl refl refl) (by_test c _ _ c.rest.in_unit (plain c _ refl refl refl) (plain c _ refl refl refl))

-- the last of the programs that wait goes on
all_front : {A : Type 0} (P : A → Type 0) (xs : List A) (x : A) → All P (xs ++ x ∷ []) → All P xs × P x
all_front P xs x all = (
  λ k d lt. subst P (get_or-append xs (x ∷ []) d k lt) (all k d (simp length-append (omega (arith, lt)))),
  subst P (get_or-append_seam xs x [] x) (all (length xs) x (simp length-append (omega arith))),
)

left_shallow : (system : System) (before : List Frame) (last : Frame) (c : Config) → split_last c.rest.frames ≡ Some (before, last)
    → Shallow c → Shallow (returned system before last c)
left_shallow system before last c is s =
    let whole : c.rest.frames ≡ before ++ last ∷ [] = seam c.rest.frames before last is in
    let all = all_front (λ (frame : Frame). length frame.returns ≤ most_performs) before last
    (subst (All (λ (frame : Frame). length frame.returns ≤ most_performs)) whole s.waiting) in
    record { top = all.1; waiting = all.0; few = omega (arith, s.few, ap (length {A = Frame}) whole, length-append before (last ∷ [])) }

leaves_grows : (system : System) (o : Option (List Frame × Frame)) (c : Config) → split_last c.rest.frames ≡ o → Grows c (leaves_by system o c)
leaves_grows system None c is = stops_grows system c
leaves_grows system (Some found) c is = record { up = omega arith; shallow = left_shallow system found.0 found.1 c is }

branch_grows : (n : ℕ) (b : Bool) (c : Config) → Grows c (branch n b c)
branch_grows n true c = plain c (on c) refl refl refl
branch_grows n false c = plain c (over n c) refl refl refl

sure_grows : (o : Option (List ℕ)) (c : Config) → Grows c (or_else o on on c)
sure_grows None c = plain c _ refl refl refl
sure_grows (Some storage) c = plain c _ refl refl refl

guarded_grows : (o : Option (List ℕ)) (n : ℕ) (c : Config) → Grows c (or_else o on (over n) c)
guarded_grows None n c = plain c _ refl refl refl
guarded_grows (Some storage) n c = plain c _ refl refl refl

-- one program more that waits
abbrev called : System → ℕ → Bool → List Spot → Config → Config
called system program keeps places c = record {
  top = called_frame system program places keeps c;
  rest = record c.rest { frames = c.rest.frames ++ c.top ∷ [] };
}

calls_grows : (system : System) (program : ℕ) (keeps : Bool) (places : List Spot) (c : Config) → Grows c (calls system program keeps places c)
calls_grows system program keeps places c = pick (nat_lt (length c.rest.frames) most_calls) (nat_lt most_active (active system c + length (program_at system program).storage)) refl
  where
    pick : (b d : Bool) → nat_lt (length c.rest.frames) most_calls ≡ b
        → Grows c (if b then (if d then faults 208 c else called system program keeps places c) else faults 202 c)
    pick true true e = plain c (faults 208 c) refl refl refl
    pick true false e =
        let lt : length c.rest.frames < most_calls = ltb-true (length c.rest.frames) most_calls e in
        record {
          up = omega arith;
          shallow = λ s. record {
            top = omega arith;
            waiting = All-append (λ (frame : Frame). length frame.returns ≤ most_performs) c.rest.frames (c.top ∷ []) s.waiting (All-cons (λ (frame : Frame). length frame.returns ≤ most_performs) c.top [] s.top (All-nil (λ (frame : Frame). length frame.returns ≤ most_performs)));
            few = simp length-append (omega (arith, lt));
          };
        }
    pick false d e = plain c (faults 202 c) refl refl refl

pub does_grows : (system : System) (i : Instr) (c : Config) → Grows c (does system i c)
does_grows system (JumpUnless cond n) c = by_taken (holds_here c cond) _ c (λ b. branch_grows n b c)
does_grows system (Move from to) c = by_taken (taken_here c from) _ c (λ source. by_taken (spots_here c to) _ c (λ targets. plain c _ refl refl refl))
does_grows system (Compute a) c = by_taken (operands_of (registers_of c.rest) c.top.storage a) _ c (λ found. sure_grows (result_of a.operation found c.top.storage) c)
does_grows system (OnSizeError a n) c = by_taken (operands_of (registers_of c.rest) c.top.storage a) _ c (λ found. guarded_grows (result_of a.operation found c.top.storage) n c)
does_grows system (Perform paragraph) c = turn_grows (c.top.at + 1) paragraph 0 c
does_grows system (PerformTimes paragraph times) c = by_taken (read_here c times) _ c (λ value. turns_grows paragraph (whole_part (number_of value)) c)
does_grows system (PerformOneOf paragraphs position) c = by_taken (read_here c position) _ c (λ value. chosen_grows (at_position paragraphs (whole_part (number_of value))) c)
does_grows system Exit c = plain c _ refl refl refl
does_grows system ExitProgram c = leaves_grows system (split_last c.rest.frames) c refl
does_grows system StopRun c = stops_grows system c
does_grows system (DisplayScreen screen base) c = plain c _ refl refl refl
does_grows system (Display one) c = by_taken (read_here c one) _ c (λ value. plain c _ refl refl refl)
does_grows system (Accept screen keys) c = plain c _ refl refl refl
does_grows system (Call program arguments keeps) c = by_taken (spots_here c arguments) _ c (λ places. calls_grows system program keeps places c)
does_grows system (Send class message codes) c = by_taken (taken_here c message) _ c (λ found. by_taken (spots_here c (map (λ code. code.yields) codes)) _ c (λ items. plain c _ refl refl refl))
does_grows system Begin c = by_test c _ _ c.rest.in_unit (plain c _ refl refl refl) (plain c _ refl refl refl)
does_grows system End c = by_test c _ _ c.rest.in_unit (plain c _ refl refl refl) (plain c _ refl refl refl)
does_grows system Abort c = by_test c _ _ c.rest.in_unit (plain c _ refl refl refl) (plain c _ refl refl refl)
does_grows system Restart c = by_test c _ _ c.rest.in_unit (plain c _ refl refl refl) (plain c _ refl refl refl)
does_grows system (Receive into) c = by_taken (spot_here c into) _ c (λ item. plain c _ refl refl refl)
does_grows system (Reply from) c = by_taken (taken_here c from) _ c (λ found. plain c _ refl refl refl)
does_grows system (Read file locking key into) c = by_taken (taken_here c key) _ c (λ found. by_taken (spot_here c into) _ c (λ item. plain c _ refl refl refl))
does_grows system (ReadNext file locking after into) c = by_taken (taken_here c after) _ c (λ found. by_taken (spot_here c into) _ c (λ item. plain c _ refl refl refl))
does_grows system (Write file from) c = by_taken (taken_here c from) _ c (λ found. plain c _ refl refl refl)
does_grows system (Rewrite file from) c = by_taken (taken_here c from) _ c (λ found. plain c _ refl refl refl)
does_grows system (Delete file key) c = by_taken (taken_here c key) _ c (λ found. plain c _ refl refl refl)
does_grows system (Jump n) c = plain c _ refl refl refl
does_grows system (ParagraphEnd start) c = plain c _ refl refl refl
does_grows system (Until paragraph cond) c = plain c _ refl refl refl
does_grows system NoCode c = plain c _ refl refl refl

-- ---- steps

pub record Progress (system : System) (c d : Config) : Type 0 where
  pub grows : Grows c d
  pub bound : c.rest.count < d.rest.count → c.rest.count < most_counted
  pub on : (d.rest.at_verb ≡ true) ⊎ ((c.rest.count < d.rest.count) ⊎ (hops system d < hops system c))

at_its_verb : (system : System) (c d : Config) → Grows c d → d.rest.count ≡ c.rest.count → d.rest.at_verb ≡ true → Progress system c d
at_its_verb system c d g e v = record { grows = g; bound = λ less. absurd (omega arith); on = inl v }

asking : (system : System) (c d : Config) → d.rest.count ≡ c.rest.count → d.top.returns ≡ c.top.returns → d.rest.frames ≡ c.rest.frames → d.rest.at_verb ≡ true → Progress system c d
asking system c d count returns frames v = at_its_verb system c d (plain c d count returns frames) count v

nearer : (system : System) (c d : Config) → Grows c d → d.rest.count ≡ c.rest.count → hops system d < hops system c → Progress system c d
nearer system c d g e less = record { grows = g; bound = λ above. absurd (omega arith); on = inr (inr less) }

ticked : (system : System) (f : Config → Config) (c : Config) → Grows (more c) (f (more c)) → Progress system c (code_statement_counted f c)
ticked system f c g = pick (nat_lt c.rest.count most_counted) refl
  where
    pick : (b : Bool) → nat_lt c.rest.count most_counted ≡ b → Progress system c (if b then f (more c) else faults 201 c)
    pick true e =
        let lt = ltb-true c.rest.count most_counted e in
        record {
          grows = record { up = omega (arith, g.up); shallow = λ s. g.shallow (shallow_same c (more c) refl refl s) };
          bound = λ less. lt;
          on = inr (inl (omega (arith, g.up)));
        }
    pick false e = asking system c (faults 201 c) refl refl refl refl

turned : (system : System) (resume : ℕ) (paragraph : Turn) (left : ℕ) (c : Config) → Progress system c (turn resume paragraph left c)
turned system resume paragraph left c = ticked system (one_turn resume paragraph left) c (turn_body resume paragraph left (more c))

onward : (system : System) (n : ℕ) (c : Config) → c.top.at < length (code_of system c).instrs → Progress system c (over n c)
onward system n c lt = nearer system c (over n c) (plain c (over n c) refl refl refl) refl (omega arith)

one_on : (system : System) (c : Config) → c.top.at < length (code_of system c).instrs → Progress system c (on c)
one_on system c lt = nearer system c (on c) (plain c (on c) refl refl refl) refl (omega arith)

-- a turn is over
abbrev again : ℕ → List Return → Return → Config → Config
again start before last c = placed start (before ++ (record last { turns = last.turns - 1 }) ∷ []) c

before_shorter : (before items : List Return) (last : Return) → split_last items ≡ Some (before, last) → length items ≡ length before + 1
before_shorter before items last is = ap (length {A = Return}) (seam items before last is) ∙ length-append before (last ∷ [])

comes : (system : System) (start : ℕ) (before : List Return) (last : Return) (c : Config) → split_last c.top.returns ≡ Some (before, last)
    → c.top.at < length (code_of system c).instrs → Progress system c (comes_back start before last c)
comes system start before last c is lt = pick (last.turns == 0)
  where
    shorter : length c.top.returns ≡ length before + 1
    shorter = before_shorter before c.top.returns last is

    fewer : Grows c (placed last.resume before c)
    fewer = record { up = omega arith; shallow = λ s. record { top = omega (arith, s.top, shorter); waiting = s.waiting; few = s.few } }

    same : Grows (more c) (again start before last (more c))
    same = record { up = omega arith; shallow = λ s. record { top = simp length-append (omega (arith, s.top, shorter)); waiting = s.waiting; few = s.few } }

    pick : (b : Bool) → Progress system c (if b then placed last.resume before c else code_statement_counted (again start before last) c)
    pick true =
        let less = back_last (length (code_of system c).instrs) c.top.returns before last is in
        nearer system c (placed last.resume before c) fewer refl (omega arith)
    pick false = ticked system (again start before last) c same

ended : (system : System) (start : ℕ) (o : Option (List Return × Return)) (c : Config) → split_last c.top.returns ≡ o
    → c.top.at < length (code_of system c).instrs → Progress system c (ends_by start o c)
ended system start None c is lt = one_on system c lt
ended system start (Some found) c is lt = pick (found.1.until == c.top.at)
  where
    pick : (b : Bool) → Progress system c (if b then comes_back start found.0 found.1 c else on c)
    pick true = comes system start found.0 found.1 c is lt
    pick false = one_on system c lt

test : (system : System) (paragraph : Turn) (o : Option Bool) (c : Config) → c.top.at < length (code_of system c).instrs → Progress system c (tested paragraph o c)
test system paragraph None c lt = asking system c (faults 203 c) refl refl refl refl
test system paragraph (Some true) c lt = one_on system c lt
test system paragraph (Some false) c lt = turned system c.top.at paragraph 0 c

stopped : (system : System) (c : Config) → Progress system c (stops system c)
stopped system c = pick (is_server system c) c.rest.in_unit
  where
    pick : (b d : Bool) → Progress system c (if b then faults 209 c else if d then faults 207 c else asks c)
    pick true d = asking system c (faults 209 c) refl refl refl refl
    pick false true = asking system c (faults 207 c) refl refl refl refl
    pick false false = asking system c (asks c) refl refl refl refl

left : (system : System) (o : Option (List Frame × Frame)) (c : Config) → split_last c.rest.frames ≡ o → Progress system c (leaves_by system o c)
left system None c is = stopped system c
left system (Some found) c is =
    let less = hops_last system c.rest.frames found.0 found.1 is in
    nearer system c (returned system found.0 found.1 c) (leaves_grows system (Some found) c is) refl (omega arith)

pub act_progress : (system : System) (i : Instr) (c : Config) → c.top.at < length (code_of system c).instrs → Progress system c (act system (Some i) c)
act_progress system (Jump n) c lt = onward system n c lt
act_progress system (ParagraphEnd start) c lt = ended system start (split_last c.top.returns) c refl lt
act_progress system (Until paragraph cond) c lt = test system paragraph (holds_here c cond) c lt
act_progress system NoCode c lt = asking system c (faults 204 c) refl refl refl refl
act_progress system (JumpUnless cond n) c lt = ticked system (does system (JumpUnless cond n)) c (does_grows system (JumpUnless cond n) (more c))
act_progress system (Move from to) c lt = ticked system (does system (Move from to)) c (does_grows system (Move from to) (more c))
act_progress system (Compute a) c lt = ticked system (does system (Compute a)) c (does_grows system (Compute a) (more c))
act_progress system (OnSizeError a n) c lt = ticked system (does system (OnSizeError a n)) c (does_grows system (OnSizeError a n) (more c))
act_progress system (Perform paragraph) c lt = ticked system (does system (Perform paragraph)) c (does_grows system (Perform paragraph) (more c))
act_progress system (PerformTimes paragraph times) c lt = ticked system (does system (PerformTimes paragraph times)) c (does_grows system (PerformTimes paragraph times) (more c))
act_progress system (PerformOneOf paragraphs position) c lt = ticked system (does system (PerformOneOf paragraphs position)) c (does_grows system (PerformOneOf paragraphs position) (more c))
act_progress system Exit c lt = ticked system (does system Exit) c (does_grows system Exit (more c))
act_progress system ExitProgram c lt = ticked system (does system ExitProgram) c (does_grows system ExitProgram (more c))
act_progress system StopRun c lt = ticked system (does system StopRun) c (does_grows system StopRun (more c))
act_progress system (DisplayScreen screen base) c lt = ticked system (does system (DisplayScreen screen base)) c (does_grows system (DisplayScreen screen base) (more c))
act_progress system (Display one) c lt = ticked system (does system (Display one)) c (does_grows system (Display one) (more c))
act_progress system (Accept screen keys) c lt = ticked system (does system (Accept screen keys)) c (does_grows system (Accept screen keys) (more c))
act_progress system (Call program arguments keeps) c lt = ticked system (does system (Call program arguments keeps)) c (does_grows system (Call program arguments keeps) (more c))
act_progress system (Send class message codes) c lt = ticked system (does system (Send class message codes)) c (does_grows system (Send class message codes) (more c))
act_progress system Begin c lt = ticked system (does system Begin) c (does_grows system Begin (more c))
act_progress system End c lt = ticked system (does system End) c (does_grows system End (more c))
act_progress system Abort c lt = ticked system (does system Abort) c (does_grows system Abort (more c))
act_progress system Restart c lt = ticked system (does system Restart) c (does_grows system Restart (more c))
act_progress system (Receive into) c lt = ticked system (does system (Receive into)) c (does_grows system (Receive into) (more c))
act_progress system (Reply from) c lt = ticked system (does system (Reply from)) c (does_grows system (Reply from) (more c))
act_progress system (Read file locking key into) c lt = ticked system (does system (Read file locking key into)) c (does_grows system (Read file locking key into) (more c))
act_progress system (ReadNext file locking after into) c lt = ticked system (does system (ReadNext file locking after into)) c (does_grows system (ReadNext file locking after into) (more c))
act_progress system (Write file from) c lt = ticked system (does system (Write file from)) c (does_grows system (Write file from) (more c))
act_progress system (Rewrite file from) c lt = ticked system (does system (Rewrite file from)) c (does_grows system (Rewrite file from) (more c))
act_progress system (Delete file key) c lt = ticked system (does system (Delete file key)) c (does_grows system (Delete file key) (more c))

pub step_progress : (system : System) (c : Config) → Progress system c (step system c)
step_progress system c =
    course-holds (Progress system c) c.rest.course _ _ _ (by_instr (instr_of system c) refl) (asking system c (asks c) refl refl refl refl)
    (λ code. asking system c (asks c) refl refl refl refl)
  where
    by_instr : (o : Option Instr) → instr_of system c ≡ o → Progress system c (act system o c)
    by_instr None e = left system (split_last c.rest.frames) c refl
    by_instr (Some i) e = act_progress system i c (slice_get_within (code_of system c).instrs c.top.at i e)
