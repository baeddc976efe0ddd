-- A context counts what its path counts.
use Rattle.std.proofs.Common.{◌≡◌, ℕ, zero, suc, ◌+◌, ◌*◌, ◌<◌, Bool, true, false, not, is_some, is_none, List, [], ◌∷◌, ◌++◌, length, Option, Some, None, refl, sym, ap, ◌∙◌, subst, append-nil, append_assoc, arith}
use Rattle.std.specs.Prelude.{map, slice_get, if◌then◌else◌}
use Rattle.pw_tree_meaning.proofs.Terminals.{standing_from-append}
use Rattle.pw_terminal.specs.Entries.{check}
use Rattle.pw_terminal.specs.declared.entries.EntryAnswer.{EntryAnswer}
use Rattle.pw_terminal.specs.declared.entries.EntryAnswer.TheVariants.{Valid, BadKey, BadField}
use Rattle.pw_code.specs.Courses.{by_course, is_run_fault}
use Rattle.pw_code.specs.declared.context.Course.{Course}
use Rattle.pw_code.specs.declared.context.Course.TheVariants as course
use Rattle.pw_code.specs.Entry.{EntryLineModel}
use Rattle.pw_code.specs.Instrs.{screen_at}
use Rattle.pw_code.specs.Valid.{IsValid}
use Rattle.pw_code.specs.declared.context.Context.{Context}
use Rattle.pw_code.specs.declared.field.ScreenTable.{ScreenTable}
use Rattle.pw_code.specs.declared.instr.Instr.{Instr}
use Rattle.pw_code.specs.declared.instr.Instr.TheVariants.{Jump, JumpUnless, ParagraphEnd, Move, Compute, OnSizeError, Perform, PerformTimes, Until, PerformOneOf, Exit, ExitProgram, StopRun, DisplayScreen, Display, Accept, Call, Send, NoCode, Begin, End, Abort, Restart, Receive, Reply, Read, ReadNext, Write, Rewrite, Delete}
use Rattle.pw_code.specs.declared.instr.ReplyCode.{ReplyCode}
use Rattle.pw_code.specs.declared.system.System.{System}
use Rattle.pw_code.specs.declared.system.TermInfo.{TermInfo}
use Rattle.pw_code.specs.declared.verb.Answer.{Answer}
use Rattle.pw_code.specs.declared.verb.Verb.{Verb}
use Rattle.pw_code.specs.declared.verb.Verb.TheVariants as verb
use Rattle.pw_event.specs.declared.script.FailLine.{FailLine}
use Rattle.pw_code_meaning.specs.Answers.{answered, answered_by, entry_checked, put, reply_taken, code_after_reply, shown, unit_begun, unit_ended, yielded, place_among, spot_among}
use Rattle.pw_code_meaning.specs.Config.{Config, closed, starting}
use Rattle.pw_code_meaning.specs.Counts.{CountsOf}
use Rattle.pw_code_meaning.specs.OfSystem.{asked_of, behaviour, entry_at, told}
use Rattle.pw_code_meaning.specs.Reading.{Spot}
use Rattle.pw_code_meaning.specs.Runs.{Comes, Run, StandsFor, at_verb, runs}
use Rattle.pw_code_meaning.specs.Steps.{asked_by, instr_of, step, verb_of}
use Rattle.pw_code_meaning.proofs.Bounds.{after_terminal, put_shallow, start_shallow}
use Rattle.pw_code_meaning.proofs.CountSteps.{Counts, counts_in, step_same}
use Rattle.pw_code_meaning.proofs.Progress.{Shallow, step_progress}
use Rattle.pw_code_meaning.proofs.RunLemmas as lemmas
use Rattle.pw_onecopy.specs.IsBehaviour.{IsPath, Suits, SuitsFrom}
use Rattle.pw_onecopy.specs.Path.{PathAnswer, Shown, Begun, Replied, Failed, Ended, Dropped, Standing, RefreshNumber, entries_on, is_outside, next_number, number_at, standing, standing_after_answer, standing_after_reply, standing_at_start, unit_number}
use Rattle.pw_onecopy.specs.Path as path

-- ---- what a path counts

-- the restarts of the last attempt that began
abbrev pub begun_after : ℕ → PathAnswer → ℕ
begun_after r (Begun n) = n
begun_after r _ = r

abbrev pub begun_from : ℕ → List PathAnswer → ℕ
begun_from r [] = r
begun_from r (a ∷ path) = begun_from (begun_after r a) path

pub begun-push : (r : ℕ) (path : List PathAnswer) (a : PathAnswer) → begun_from r (path ++ a ∷ []) ≡ begun_after (begun_from r path) a
begun-push r [] a = refl
begun-push r (b ∷ path) a = begun-push (begun_after r b) path a

-- the entry lines
abbrev pub entries_after : ℕ → PathAnswer → ℕ
entries_after n (path.Entry k) = n + 1
entries_after n _ = n

pub entries-push : (p : List PathAnswer) (a : PathAnswer) → entries_on (p ++ a ∷ []) ≡ entries_after (entries_on p) a
entries-push [] Shown = refl
entries-push [] (path.Entry k) = refl
entries-push [] (Begun r) = refl
entries-push [] (Replied reply) = refl
entries-push [] (Failed code) = refl
entries-push [] Ended = refl
entries-push [] Dropped = refl
entries-push (Shown ∷ p) a = entries-push p a
entries-push (path.Entry k ∷ p) a = ap (λ n. n + 1) (entries-push p a) ∙ one-more a
  where
    one-more : (b : PathAnswer) → entries_after (entries_on p) b + 1 ≡ entries_after (entries_on p + 1) b
    one-more Shown = refl
    one-more (path.Entry n) = refl
    one-more (Begun r) = refl
    one-more (Replied reply) = refl
    one-more (Failed code) = refl
    one-more Ended = refl
    one-more Dropped = refl
entries-push (Begun r ∷ p) a = entries-push p a
entries-push (Replied reply ∷ p) a = entries-push p a
entries-push (Failed code ∷ p) a = entries-push p a
entries-push (Ended ∷ p) a = entries-push p a
entries-push (Dropped ∷ p) a = entries-push p a

-- ---- what a context counts

abbrev phase_in : ℕ → Option ℕ → ℕ
phase_in ended None = 2 * ended
phase_in ended (Some r) = 2 * ended + 1

abbrev attempt_in : Option ℕ → ℕ
attempt_in None = 0
attempt_in (Some r) = r

-- the counts are those of a standing, with so many entries and the restarts of the last attempt; the other registers
-- are those of a terminal
pub record HasCounts (at : Standing) (entries restarts : ℕ) (k : Counts) : Type 0 where
  pub units : k.units ≡ at.ended
  pub in_unit : k.in_unit ≡ is_some at.within
  pub phase : k.phase ≡ phase_in at.ended at.within
  pub attempt : k.attempt ≡ attempt_in at.within
  pub shown : k.shown ≡ at.shown
  pub entries_are : k.entries ≡ entries
  pub restarts_are : k.restarts ≡ restarts
  pub status : k.file_status ≡ 0

abbrev pub HasCountsOf : List PathAnswer → Context → Type 0
HasCountsOf p context = HasCounts (standing p) (entries_on p) (begun_from 0 p) (counts_in context)

-- the server of the last SEND had a run fault
abbrev pub is_failed : PathAnswer → Bool
is_failed (Failed code) = true
is_failed _ = false

-- no run fault stands
abbrev pub Calm : Context → Type 0
Calm rest = is_run_fault rest.course ≡ false

-- a context behind an answer
pub record IsBehind (at : Standing) (entries restarts : ℕ) (a : PathAnswer) (rest : Context) : Type 0 where
  pub counts : HasCounts (standing_after_answer at a) (entries_after entries a) (begun_after restarts a) (counts_in rest)
  pub at_answer : rest.at_verb ≡ false
  pub count : rest.count ≡ 0
  pub calm : is_failed a ≡ false → Calm rest

module _ (at : Standing) (entries restarts : ℕ) where
  abbrev Old : Context → Type 0
  Old rest = HasCounts at entries restarts (counts_in rest)

  shows : (c : Config) → Old c.rest → IsBehind at entries restarts Shown (shown c).rest
  shows c h = record {
    counts = record {
      units = h.units;
      in_unit = h.in_unit;
      phase = h.phase;
      attempt = h.attempt;
      shown = ap (λ n. n + 1) h.shown;
      entries_are = h.entries_are;
      restarts_are = h.restarts_are;
      status = h.status;
    };
    at_answer = refl;
    count = refl;
    calm = λ _. refl;
  }

  -- an entry is counted, be it right or wrong
  entered : (k : ℕ) (rest new : Context) → Old rest → counts_in new ≡ record (counts_in rest) { entries = rest.entries + 1 } → new.at_verb ≡ false
      → new.count ≡ 0 → Calm new → IsBehind at entries restarts (path.Entry k) new
  entered k rest new h is stands count calm = record {
    counts = rw is (record {
      units = h.units;
      in_unit = h.in_unit;
      phase = h.phase;
      attempt = h.attempt;
      shown = h.shown;
      entries_are = ap (λ n. n + 1) h.entries_are;
      restarts_are = h.restarts_are;
      status = h.status;
    });
    at_answer = stands;
    count = count;
    calm = λ _. calm;
  }

  checks : (k : ℕ) (table : ScreenTable) (line : EntryLineModel) (found : EntryAnswer) (c : Config) → Old c.rest → Calm c.rest
      → IsBehind at entries restarts (path.Entry k) (entry_checked table line found c).rest
  checks k table line (Valid place) c h calm = entered k c.rest _ h refl refl refl calm
  checks k table line BadKey c h calm = entered k c.rest _ h refl refl refl refl
  checks k table line (BadField place) c h calm = entered k c.rest _ h refl refl refl refl

  begins : (r : ℕ) (rest : Context) → Old rest → Calm rest → IsBehind at entries restarts (Begun r) (unit_begun r rest)
  begins r rest h calm = record {
    counts = record {
      units = h.units;
      in_unit = refl;
      phase = ap (λ n. 2 * n + 1) h.units;
      attempt = refl;
      shown = refl;
      entries_are = h.entries_are;
      restarts_are = refl;
      status = h.status;
    };
    at_answer = refl;
    count = refl;
    calm = λ _. calm;
  }

  -- the counts behind the end of a unit
  over : (rest : Context) → Old rest → HasCounts (record { ended = at.ended + 1; within = None; shown = 0 }) entries restarts (counts_in (unit_ended rest))
  over rest h = record {
    units = ap (λ n. n + 1) h.units;
    in_unit = refl;
    phase = ap (λ n. 2 * (n + 1)) h.units;
    attempt = refl;
    shown = refl;
    entries_are = h.entries_are;
    restarts_are = h.restarts_are;
    status = h.status;
  }

  ends : (rest : Context) → Old rest → Calm rest → IsBehind at entries restarts Ended (unit_ended rest)
  ends rest h calm = record { counts = over rest h; at_answer = refl; count = refl; calm = λ _. calm }

  drops : (rest : Context) → Old rest → Calm rest → IsBehind at entries restarts Dropped (unit_ended rest)
  drops rest h calm = record { counts = over rest h; at_answer = refl; count = refl; calm = λ _. calm }

  -- a reply ends a unit outside a transaction
  reply-counts : (rest : Context) (b : Bool) (w : Option ℕ) → rest.in_unit ≡ b → at.within ≡ w → Old rest
      → HasCounts (standing_after_reply at w) entries restarts (counts_in (if b then answered rest else unit_ended rest))
  reply-counts rest true (Some r) in_it within h = h
  reply-counts rest false None in_it within h = over rest h
  reply-counts rest true None in_it within h = absurd (cc (sym in_it ∙ h.in_unit ∙ ap is_some within))
  reply-counts rest false (Some r) in_it within h = absurd (cc (sym in_it ∙ h.in_unit ∙ ap is_some within))

  reply-calm : (rest : Context) (b : Bool) → Calm rest
      → ((if b then answered rest else unit_ended rest).at_verb ≡ false) × ((if b then answered rest else unit_ended rest).count ≡ 0)
      × Calm (if b then answered rest else unit_ended rest)
  reply-calm rest true calm = (refl, refl, calm)
  reply-calm rest false calm = (refl, refl, calm)

  replies : (o : Option (ℕ × Spot)) (reply : List ℕ) (c : Config) → Old c.rest → Calm c.rest
      → IsBehind at entries restarts (Replied reply) (yielded o reply c).rest
  replies None reply c h calm =
      let out = reply-calm c.rest c.rest.in_unit calm in
      record { counts = reply-counts c.rest c.rest.in_unit at.within refl refl h; at_answer = out.0; count = out.1; calm = λ _. out.2 }
  replies (Some found) reply c h calm =
      let out = reply-calm c.rest c.rest.in_unit calm in
      record { counts = reply-counts c.rest c.rest.in_unit at.within refl refl h; at_answer = out.0; count = out.1; calm = λ _. out.2 }

  fails : (code : ℕ) (c : Config) → Old c.rest → IsBehind at entries restarts (Failed code) (record (answered c.rest) { course = course.Fault code })
  fails code c h = record {
    counts = record {
      units = h.units;
      in_unit = h.in_unit;
      phase = h.phase;
      attempt = h.attempt;
      shown = h.shown;
      entries_are = h.entries_are;
      restarts_are = h.restarts_are;
      status = h.status;
    };
    at_answer = refl;
    count = refl;
    calm = λ plain. absurd (cc plain);
  }

module _ (system : System) (script : List FailLine) (t : ℕ) (lines : List EntryLineModel) (before : List PathAnswer) (c : Config)
    (h : HasCountsOf before c.rest) where
  abbrev Behind : PathAnswer → Config → Type 0
  Behind a d = IsBehind (standing before) (entries_on before) (begun_from 0 before) a d.rest

  abbrev Answers : Verb → PathAnswer → Type 0
  Answers v a = Suits (behaviour script system) t before v a

  by-instr : (o : Option Instr) (a : PathAnswer) → Answers (asked_by o c) a → Calm c.rest → Behind a (answered_by system o (told lines a) c)
  by-instr (Some (DisplayScreen screen base)) Shown suits calm = shows _ _ _ c h
  by-instr (Some (DisplayScreen screen base)) a suits calm = absurd suits
  by-instr (Some (Display one)) Shown suits calm = shows _ _ _ c h
  by-instr (Some (Display one)) a suits calm = absurd suits
  by-instr (Some (Accept screen keys)) (path.Entry k) suits calm =
      checks _ _ _ k (screen_at system screen) (entry_at lines k) (check (screen_at system screen) keys (entry_at lines k)) c h calm
  by-instr (Some (Accept screen keys)) a suits calm = absurd suits
  by-instr (Some (Send class message codes)) (Replied reply) suits calm = replies _ _ _ _ reply c h calm
  by-instr (Some (Send class message codes)) (Failed code) suits calm = fails _ _ _ code c h
  by-instr (Some (Send class message codes)) a suits calm = absurd suits
  by-instr (Some Begin) (Begun r) suits calm = begins _ _ _ r c.rest h calm
  by-instr (Some Begin) a suits calm = absurd suits
  by-instr (Some End) Ended suits calm = ends _ _ _ c.rest h calm
  by-instr (Some End) a suits calm = absurd suits
  by-instr (Some Abort) Dropped suits calm = drops _ _ _ c.rest h calm
  by-instr (Some Abort) a suits calm = absurd suits
  by-instr (Some Restart) a suits calm = absurd suits
  by-instr (Some (Reply from)) a suits calm = absurd suits
  by-instr (Some (Read file locking key into)) a suits calm = absurd suits
  by-instr (Some (ReadNext file locking after into)) a suits calm = absurd suits
  by-instr (Some (Write file from)) a suits calm = absurd suits
  by-instr (Some (Rewrite file from)) a suits calm = absurd suits
  by-instr (Some (Delete file key)) a suits calm = absurd suits
  by-instr (Some (Jump n)) a suits calm = absurd suits
  by-instr (Some (JumpUnless cond n)) a suits calm = absurd suits
  by-instr (Some (ParagraphEnd start)) a suits calm = absurd suits
  by-instr (Some (Move from to)) a suits calm = absurd suits
  by-instr (Some (Compute one)) a suits calm = absurd suits
  by-instr (Some (OnSizeError one n)) a suits calm = absurd suits
  by-instr (Some (Perform paragraph)) a suits calm = absurd suits
  by-instr (Some (PerformTimes paragraph times)) a suits calm = absurd suits
  by-instr (Some (Until paragraph cond)) a suits calm = absurd suits
  by-instr (Some (PerformOneOf paragraphs position)) a suits calm = absurd suits
  by-instr (Some Exit) a suits calm = absurd suits
  by-instr (Some ExitProgram) a suits calm = absurd suits
  by-instr (Some StopRun) a suits calm = absurd suits
  by-instr (Some (Call program arguments keeps)) a suits calm = absurd suits
  by-instr (Some NoCode) a suits calm = absurd suits
  by-instr (Some (Receive into)) a suits calm = absurd suits
  by-instr None a suits calm = absurd suits

  by-shown : (a : PathAnswer) → Answers verb.Show a → Behind a (shown c)
  by-shown Shown suits = shows _ _ _ c h
  by-shown a suits = absurd suits

  by-way : (way : Course) (a : PathAnswer) → c.rest.course ≡ way
      → Answers (by_course way (asked_by (instr_of system c) c) verb.Show verb.Fault) a
      → Behind a (by_course way (answered_by system (instr_of system c) (told lines a) c) (shown c) (λ code. c))
  by-way (course.Fault code) a is suits = absurd suits
  by-way course.Advisory a is suits = by-shown a suits
  by-way course.Instruction a is suits = by-instr (instr_of system c) a suits (ap is_run_fault is)

  -- an answer that suits its verb is put in
  pub put-behind : (a : PathAnswer) → Answers (verb_of system c) a → Behind a (put system (told lines a) c)
  put-behind a suits = by-way c.rest.course a refl suits

-- ---- along a path

-- the counts behind one answer more
pub more-counts : (p : List PathAnswer) (a : PathAnswer) (rest : Context) → IsBehind (standing p) (entries_on p) (begun_from 0 p) a rest → HasCountsOf (p ++ a ∷ []) rest
more-counts p a rest behind = rw (standing_from-append standing_at_start p a, entries-push p a, begun-push 0 p a) behind.counts

module _ (system : System) (script : List FailLine) (t : ℕ) (terminal : TermInfo) (valid : IsValid system) (here : slice_get system.terminals t ≡ Some terminal) where
  abbrev sys' : Config
  sys' = starting system terminal.program

  abbrev answers_of : List PathAnswer → List Answer
  answers_of p = map (told terminal.entries) p

  -- where the program stands between a path's last answer and the verb behind it
  pub record Follows (p : List PathAnswer) (c : Config) : Type 0 where
    pub comes : Comes system sys' (answers_of p) c
    pub counts : HasCountsOf p c.rest
    pub shallow : Shallow c

  -- it asks what the path asks
  pub asks-it : (p : List PathAnswer) (c : Config) → Comes system sys' (answers_of p) c → at_verb c ≡ true → (behaviour script system).ask t p ≡ verb_of system c
  asks-it p c comes stands =
      ap (λ o. asked_of system o p) here ∙ ap (verb_of system) (after_terminal system terminal.program (answers_of p) c valid comes stands)

  answers-more : (p : List PathAnswer) (a : PathAnswer) → answers_of (p ++ a ∷ []) ≡ answers_of p ++ told terminal.entries a ∷ []
  answers-more [] a = refl
  answers-more (b ∷ p) a = ap (λ l. told terminal.entries b ∷ l) (answers-more p a)

  -- a step
  follows-step : (p : List PathAnswer) (c : Config) → at_verb c ≡ false → Follows p c → Follows p (step system c)
  follows-step p c stands f = record {
    comes = lemmas.goes_on at_verb (step system) (put system) sys' c (answers_of p) f.comes stands;
    counts = rw (step_same system c) f.counts;
    shallow = (step_progress system c).grows.shallow f.shallow;
  }

  -- an answer
  pub behind-answer : (p : List PathAnswer) (a : PathAnswer) (c : Config) → at_verb c ≡ true → Suits (behaviour script system) t p ((behaviour script system).ask t p) a → Follows p c
      → IsBehind (standing p) (entries_on p) (begun_from 0 p) a (put system (told terminal.entries a) c).rest
  behind-answer p a c stands suits f =
      put-behind system script t terminal.entries p c f.counts a
      (subst (λ v. Suits (behaviour script system) t p v a) (asks-it p c f.comes stands) suits)

  pub follows-answer : (p : List PathAnswer) (a : PathAnswer) (c : Config) → at_verb c ≡ true → Suits (behaviour script system) t p ((behaviour script system).ask t p) a → Follows p c
      → Follows (p ++ a ∷ []) (put system (told terminal.entries a) c)
  follows-answer p a c stands suits f = record {
    comes = rw (answers-more p a) (lemmas.answers_on at_verb (step system) (put system) sys' c (answers_of p) (told terminal.entries a) f.comes stands);
    counts = more-counts p a (put system (told terminal.entries a) c).rest (behind-answer p a c stands suits f);
    shallow = put_shallow system (told terminal.entries a) c f.shallow;
  }

  -- the start
  pub follows-start : Follows [] sys'
  follows-start = record {
    comes = (0, refl);
    counts = record {
      units = refl;
      in_unit = refl;
      phase = refl;
      attempt = refl;
      shown = refl;
      entries_are = refl;
      restarts_are = refl;
      status = refl;
    };
    shallow = start_shallow system terminal.program;
  }

  -- a run over the rest of a path
  abbrev Gets : ℕ → Config → List PathAnswer → Config → Type 0
  Gets n c rest d = runs at_verb (step system) (put system) n c (answers_of rest) ≡ record { at = d; left = [] }

  abbrev turn : ℕ → Config → List PathAnswer → Bool → Run Config Answer
  turn n c q b = elim b as (λ _. Run Config Answer) [
    | true ↦ elim (answers_of q) as (λ _. Run Config Answer) [
      | [] ↦ record { at = c; left = [] }
      | a ∷ others ↦ runs at_verb (step system) (put system) n (put system a c) others
    ]
    | false ↦ runs at_verb (step system) (put system) n (step system c) (answers_of q)
  ]

  none-left : (n : ℕ) (c d : Config) (p rest : List PathAnswer) → Run.left {C = Config} {A = Answer} (record { at = c; left = answers_of rest }) ≡ []
      → c ≡ d → Follows p c → Follows (p ++ rest) d
  none-left n c d p [] left is f = rw (append-nil p) (subst (Follows p) is f)
  none-left n c d p (a ∷ rest) left is f = absurd (cc left)

  pub follows-run : (n : ℕ) (c d : Config) (p rest : List PathAnswer) → SuitsFrom (behaviour script system) t p rest → Gets n c rest d → Follows p c → Follows (p ++ rest) d
  follows-run zero c d p rest suits gets f =
      none-left 0 c d p rest (ap (λ (r : Run Config Answer). r.left) gets) (ap (λ (r : Run Config Answer). r.at) gets) f
  follows-run (suc n) c d p rest suits gets f =
      by (at_verb c) rest refl suits gets
      (λ a others stands suits gets. follows-run n (put system (told terminal.entries a) c) d (p ++ a ∷ []) others suits.1 gets (follows-answer p a c stands suits.0 f))
      (λ q stands suits gets. follows-run n (step system c) d p q suits gets (follows-step p c stands f))
    where
      by : (b : Bool) (q : List PathAnswer) → at_verb c ≡ b → SuitsFrom (behaviour script system) t p q → turn n c q b ≡ record { at = d; left = [] }
          → ((a : PathAnswer) (others : List PathAnswer) → at_verb c ≡ true → SuitsFrom (behaviour script system) t p (a ∷ others) → Gets n (put system (told terminal.entries a) c) others d → Follows ((p ++ a ∷ []) ++ others) d)
          → ((q : List PathAnswer) → at_verb c ≡ false → SuitsFrom (behaviour script system) t p q → Gets n (step system c) q d → Follows (p ++ q) d)
          → Follows (p ++ q) d
      by true [] stands suits gets one more = rw (append-nil p) (subst (Follows p) (ap (λ (r : Run Config Answer). r.at) gets) f)
      by true (a ∷ others) stands suits gets one more = rw (sym (append_assoc p (a ∷ []) others)) (one a others stands suits gets)
      by false q stands suits gets one more = more q stands suits gets

  -- a place to which the program comes over a path
  pub follows : (p : List PathAnswer) (d : Config) → IsPath (behaviour script system) t p → Comes system sys' (answers_of p) d → Follows p d
  follows p d is_path comes = follows-run comes.0 sys' d [] p is_path.suits comes.1 follows-start

  -- and from there on to the next verb
  pub follows-on : (p : List PathAnswer) (c d : Config) → Comes system c [] d → Follows p c → Follows p d
  follows-on p c d comes f = subst (λ q. Follows q d) (append-nil p) (follows-run comes.0 c d p [] tt comes.1 f)

-- ---- what the counts say

outside-of : (w : Option ℕ) → not (is_some w) ≡ is_none w
outside-of None = refl
outside-of (Some r) = refl

number-of : (at : Standing) (w : Option ℕ) (phase attempt k : ℕ) → phase ≡ phase_in at.ended w → attempt ≡ attempt_in w → k ≡ at.shown + 1
    → (record { phase = phase; attempt = attempt; k = k }) ≡ number_at at w
number-of at None phase attempt k p a s = cc
number-of at (Some r) phase attempt k p a s = cc

pub counts-of : (p : List PathAnswer) (context : Context) → HasCountsOf p context → CountsOf p context
counts-of p context h = record {
  unit = ap (λ n. n + 1) h.units;
  outside = ap not h.in_unit ∙ outside-of (standing p).within;
  number = number-of (standing p) (standing p).within context.phase context.attempt (context.shown + 1) h.phase h.attempt (ap (λ n. n + 1) h.shown);
  entries = h.entries_are;
}

pub counts-stand : (script : List FailLine) (system : System) (t : ℕ) (terminal : TermInfo) (p : List PathAnswer) (context : Context) → IsValid system → slice_get system.terminals t ≡ Some terminal
    → IsPath (behaviour script system) t p → StandsFor system terminal.program (map (told terminal.entries) p) context → CountsOf p context
counts-stand script system t terminal p context valid here is_path stands =
    let f = follows system script t terminal valid here p stands.at is_path stands.comes in
    subst (CountsOf p) (sym stands.is) (counts-of p (closed stands.at) f.counts)
