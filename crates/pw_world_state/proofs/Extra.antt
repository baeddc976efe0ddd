-- What holds of a terminal beside its frontier: where an end path is held between units, the last unit ended without a
-- reply; and the frontier does not end with a run fault.
use Rattle.std.proofs.Common.{◌≡◌, ◌≢◌, ℕ, ◌+◌, ◌<◌, ◌≤◌, Bool, true, false, is_none, ◌&&◌, List, [], ◌∷◌, ◌++◌, length, Option, Some, None, if◌then◌else◌, refl, ap, sym, subst, length-append, arith, ◌∙◌, true≢false}
use Rattle.std.specs.Prelude.{nat_lt}
use Rattle.std.proofs.lemmas.Bool.{ltb-true}
use Rattle.pw_code.specs.declared.verb.Verb.{Verb}
use Rattle.pw_code.specs.declared.verb.Verb.TheVariants as verb
use Rattle.pw_event.specs.declared.event.Event.{Event}
use Rattle.pw_onecopy.specs.Attempt.{BeginsUnit}
use Rattle.pw_onecopy.specs.Behaviour.{Behaviour}
use Rattle.pw_onecopy.specs.IsBehaviour.{IsBehaviour}
use Rattle.pw_onecopy.specs.Path.{PathAnswer, Begun, Dropped, Ended, Entry, Failed, Replied, Shown, is_outside, unit_number}
use Rattle.pw_paired.specs.Failure.{resumed_path, with_restart}
use Rattle.pw_paired.specs.Raising.{is_takeover, with_message}
use Rattle.pw_paired.specs.State.{PairMode, Alone, Raising, Paired, Down, Gone, BackupCopy, Copy, End, LastEnded, Message, OpenUnit, Start, starting}
use Rattle.pw_paired.specs.Step.{IsRun, after}
use Rattle.pw_paired.specs.Terminal.{begun_path, kept_reply, unit_with_attempt}
use Rattle.pw_paired.specs.Units.{attempt_of, restarts_of}
use Rattle.pw_laws.proofs.induction.Moving.{TermAt, holds-of-terms}
use Rattle.pw_laws.proofs.induction.Views as move
use Rattle.pw_laws.proofs.induction.Views.{Able, Moves, View, Waits, path_in, verb_in, view_of}
use Rattle.pw_laws.proofs.terms.TermOk.{HasMessages, IsWorking, messages-work}
use Rattle.pw_laws.proofs.frontier.Frontier.{EndFlies, EndsOne, FrontierAt, FrontierOk, RunsFrom, transacts, sends, fails, frontier_behind}
use Rattle.pw_laws.proofs.frontier.Frontiers.{frontier-kept, frontier_after, frontiers}
use Rattle.pw_laws.proofs.frontier.Leads.{leads-short}
use Rattle.pw_laws.proofs.frontier.Standing.{Where, closed, raised-there, running, waiting, where-of, works-there}

-- ---- how a path ends

-- the answer is a run fault of a server
abbrev pub is_fault : PathAnswer → Bool
is_fault (Failed x) = true
is_fault _ = false

-- the last answer of the path is one
abbrev pub ends_failed : List PathAnswer → Bool
ends_failed [] = false
ends_failed (a ∷ []) = is_fault a
ends_failed (a ∷ b ∷ path) = ends_failed (b ∷ path)

pub ends-push : (path : List PathAnswer) (a : PathAnswer) → ends_failed (path ++ a ∷ []) ≡ is_fault a
ends-push [] a = refl
ends-push (b ∷ []) a = refl
ends-push (b ∷ c ∷ path) a = ends-push (c ∷ path) a

-- ---- what is kept of it

pub record Extra (v : View) (frontier : List PathAnswer) : Type 0 where
  pub reply : v.unit ≡ None → (memory : BackupCopy) (end : List PathAnswer) → v.memory ≡ Some memory → memory.end ≡ Some end → v.last.reply ≡ None
  pub sound : ends_failed frontier ≡ false

abbrev ExtraAt : View → List PathAnswer → Type 0
ExtraAt v frontier = v.term.ending ≡ None → v.mode ≢ Gone → Extra v frontier

-- the frontier behind an entry ends as it should where the path does
sound-behind : (v w : View) (frontier : List PathAnswer) → ends_failed frontier ≡ false
    → (attempt_of w.unit ≡ None → length frontier < length (path_in w) → ends_failed (path_in w) ≡ false) → ends_failed (frontier_behind v w frontier) ≡ false
sound-behind v w frontier old new = by (attempt_of w.unit) (nat_lt (length frontier) (length (path_in w))) refl refl
  where
    by : (attempt : Option (List PathAnswer)) (longer : Bool) → attempt_of w.unit ≡ attempt → nat_lt (length frontier) (length (path_in w)) ≡ longer → ends_failed (frontier_behind v w frontier) ≡ false
    by None true idle is = rw (idle, is) (new idle (ltb-true (length frontier) (length (path_in w)) is))
    by None false idle is = rw (idle, is) old
    by (Some q) longer idle is = rw idle old

abbrev end_of : Option BackupCopy → Option (List PathAnswer)
end_of None = None
end_of (Some memory) = memory.end

module _ (sys : Behaviour) (b : IsBehaviour sys) (t : ℕ) (v w : View) (frontier : List PathAnswer) (ok : FrontierAt sys t v frontier) (extra : ExtraAt v frontier) where
  abbrev ReplyOf : View → Type 0
  ReplyOf x = x.unit ≡ None → (memory : BackupCopy) (end : List PathAnswer) → x.memory ≡ Some memory → memory.end ≡ Some end → x.last.reply ≡ None

  -- where the frontier grows to this path, that is sound
  abbrev Sound : Option OpenUnit → List PathAnswer → Type 0
  Sound unit path = attempt_of unit ≡ None → length frontier < length path → ends_failed path ≡ false

  -- behind the entry
  at : (x : View) → w ≡ x → (x.term.ending ≡ None → x.mode ≢ Gone → ReplyOf x × (ends_failed frontier ≡ false) × Sound x.unit (path_in x)) → ExtraAt w (frontier_behind v w frontier)
  at x is new = subst (λ (y : View). ExtraAt y (frontier_behind v y frontier)) (sym is) (λ live there.
      let h = new live there in
      record { reply = h.0; sound = sound-behind v x frontier h.1 h.2 })

  -- a path that is no longer than the frontier
  short : (unit : Option OpenUnit) (path : List PathAnswer) → (attempt_of unit ≡ None → length path ≤ length frontier) → Sound unit path
  short unit path low idle longer = let le = low idle in absurd (omega (arith, le, longer))

  -- one that got an answer
  pushed : (unit : Option OpenUnit) (path : List PathAnswer) (a : PathAnswer) → is_fault a ≡ false → Sound unit (path ++ a ∷ [])
  pushed unit path a plain idle longer = ends-push path a ∙ plain

  -- an attempt runs
  runs-on : (unit : Option OpenUnit) (path start : List PathAnswer) → attempt_of unit ≡ Some start → Sound unit path
  runs-on unit path start runs idle longer = absurd (cc (idle, runs))

  live-mode : Able sys t v → v.mode ≢ Gone
  live-mode able gone = let paired = able.paired in absurd (cc (gone, paired))

  waits-open : Waits sys t v → v.unit ≡ None → ⊥
  waits-open waits none = let is = waits.is_open in absurd (cc (is, none))

  waits-runs : (waits : Waits sys t v) → attempt_of v.unit ≡ Some waits.start
  waits-runs waits = ap attempt_of waits.is_open ∙ waits.runs

  -- a message that is applied
  applied-reply : (message : Message) (memory : BackupCopy) (end : List PathAnswer) → v.flight ≡ Some message → FrontierOk sys t v frontier → v.unit ≡ None
      → with_message (Some message) v.memory ≡ Some memory → memory.end ≡ Some end → v.last.reply ≡ None
  applied-reply (Start n p) memory end flies f none is ends = absurd (let same : memory.end ≡ None = ap end_of (sym is) in cc (same, ends))
  applied-reply (Copy n p) memory end flies f none is ends = absurd (let same : memory.end ≡ None = ap end_of (sym is) in cc (same, ends))
  applied-reply (End p) memory end flies f none is ends =
      let fly : EndFlies sys t v.unit v.memory frontier (path_in v) p = f.flies (End p) flies in
      let is_open = fly.is_open in
      absurd (cc (is_open, none))

  -- a reply of a unit that is one SEND comes where no end path is held
  served-reply : (waits : Waits sys t v) → is_outside (path_in v) ≡ true → FrontierOk sys t v frontier → (memory : BackupCopy) (end : List PathAnswer) → v.memory ≡ Some memory → memory.end ≡ Some end → ⊥
  served-reply waits outside f memory end held ends = by-mode v.mode refl waits.working
    where
      -- the attempt sends at its frontier
      by-run : sys.ask t frontier ≡ verb.Begin → (r : ℕ) → RunsFrom sys t r frontier (path_in v) → ⊥
      by-run begins r (transacts asks more whole inside) = true≢false (sym outside ∙ inside)
      by-run begins r (sends c message asks is) = absurd (cc (begins, asks))
      by-run begins r (fails c x message asks is) = absurd (cc (begins, asks))

      by-place : sys.ask t frontier ≡ verb.Begin → Where sys t v.last v.unit (path_in v) frontier → ⊥
      by-place begins (closed none leads) = waits-open waits none
      by-place begins (waiting u is idle here) =
          let is_open : v.unit ≡ Some waits.unit = waits.is_open in
          let run : waits.unit.running ≡ Some waits.start = waits.runs in
          absurd (cc (is, is_open, run, idle))
      by-place begins (running u start is run from) = by-run begins u.restarts from

      sends-there : sys.ask t frontier ≡ verb.Begin → ⊥
      sends-there begins = by-place begins (where-of v.unit (f.stands waits.working (ap is_takeover waits.calm)))

      by-end : HasMessages v.mode → ⊥
      by-end has = let one : EndsOne sys t waits.unit frontier (path_in v) end = f.ends has waits.unit memory end waits.is_open held ends in sends-there one.asks

      by-mode : (mode : PairMode) → v.mode ≡ mode → IsWorking mode → ⊥
      by-mode Alone is works = absurd (let none = f.alone is in cc (held, none))
      by-mode Raising is works = by-end (subst HasMessages (sym is) tt)
      by-mode Paired is works = by-end (subst HasMessages (sym is) tt)
      by-mode Down is works = works
      by-mode Gone is works = works

  attempt-runs : (n birth : ℕ) (path : List PathAnswer) (unit : Option OpenUnit) → attempt_of (Some (unit_with_attempt n birth path unit)) ≡ Some path
  attempt-runs n birth path None = refl
  attempt-runs n birth path (Some unit) = refl

  pub extra-kept : Moves sys t v w → ExtraAt w (frontier_behind v w frontier)
  extra-kept (move.stays is) =
      at v is (λ live there. let f = ok live there in let e = extra live there in (e.reply, e.sound, short v.unit (path_in v) f.short))
  extra-kept (move.settles lacks has is) =
      at _ is (λ live there.
      let f = ok live (raised-there v.mode lacks there) in let e = extra live (raised-there v.mode lacks there) in
      (e.reply, e.sound, short v.unit (path_in v) f.short))
  extra-kept (move.shows able asks is) =
      at _ is (λ live there. let e = extra able.going_on (live-mode able) in (e.reply, e.sound, pushed v.unit (path_in v) Shown refl))
  extra-kept (move.enters able screen k asks next exists is) =
      at _ is (λ live there. let e = extra able.going_on (live-mode able) in (e.reply, e.sound, pushed v.unit (path_in v) (Entry k) refl))
  extra-kept (move.sends_start able idle begins new lacking free is) =
      at _ is (λ live there.
      let f = ok able.going_on (live-mode able) in let e = extra able.going_on (live-mode able) in (e.reply, e.sound, short v.unit (path_in v) f.short))
  extra-kept (move.sends_end able a closes lacking free is) =
      at _ is (λ live there.
      let f = ok able.going_on (live-mode able) in let e = extra able.going_on (live-mode able) in (e.reply, e.sound, short v.unit (path_in v) f.short))
  extra-kept (move.sends_copy alive raising lacking free is) =
      at _ is (λ live there.
      let f = ok alive (λ gone. absurd (cc (gone, raising))) in let e = extra alive (λ gone. absurd (cc (gone, raising))) in (e.reply, e.sound, short v.unit (path_in v) f.short))
  extra-kept (move.applies message flies has lacks is) =
      at _ is (λ live there.
      let f = ok live (works-there v.mode (messages-work v.mode has)) in let e = extra live (works-there v.mode (messages-work v.mode has)) in
      ((λ none memory end. applied-reply message memory end flies f none), e.sound, short v.unit (path_in v) f.short))
  extra-kept (move.begins able idle begins new holds birth is) =
      at _ is (λ live there.
      let e = extra able.going_on (live-mode able) in
      let unit = unit_with_attempt (unit_number (path_in v)) birth (path_in v) v.unit in (
        (λ none. absurd (cc none)),
        e.sound,
        runs-on (Some unit) (begun_path (restarts_of v.unit) (verb_in sys t v) (path_in v)) (path_in v) (attempt-runs (unit_number (path_in v)) birth (path_in v) v.unit),
      ))
  extra-kept (move.is_answered waits reply inside is) =
      at _ is (λ live there.
      let e = extra waits.going_on (works-there v.mode waits.working) in
      ((λ none. absurd (waits-open waits none)), e.sound, pushed v.unit (path_in v) (Replied reply) refl))
  extra-kept (move.is_served waits reply outside is) =
      at _ is (λ live there.
      let f = ok waits.going_on (works-there v.mode waits.working) in let e = extra waits.going_on (works-there v.mode waits.working) in
      ((λ none memory end held ends. absurd (served-reply waits outside f memory end held ends)), e.sound, pushed None (path_in v) (Replied reply) refl))
  extra-kept (move.is_failed waits x is) =
      at _ is (λ live there.
      let e = extra waits.going_on (works-there v.mode waits.working) in
      ((λ none. absurd (waits-open waits none)), e.sound, runs-on v.unit (path_in v ++ Failed x ∷ []) waits.start (waits-runs waits)))
  extra-kept (move.is_answered_again able class message asks outside number is) =
      at _ is (λ live there.
      let e = extra able.going_on (live-mode able) in (e.reply, e.sound, pushed v.unit (path_in v) (Replied (kept_reply v.last)) refl))
  extra-kept (move.commits able asks holds is) =
      at _ is (λ live there.
      let e = extra able.going_on (live-mode able) in ((λ none memory end held ends. refl), e.sound, pushed None (path_in v) Ended refl))
  extra-kept (move.drops able asks holds is) =
      at _ is (λ live there.
      let e = extra able.going_on (live-mode able) in ((λ none memory end held ends. refl), e.sound, pushed None (path_in v) Dropped refl))
  extra-kept (move.restarts unit is_open start runs kind few is) =
      at _ is (λ live there.
      let f = ok live there in let e = extra live there in
      let same : length start ≡ length frontier = ap (length {A = PathAnswer}) (f.base.start start (ap attempt_of is_open ∙ runs)) in
      ((λ none. absurd (cc none)), e.sound, short (with_restart kind (Some unit)) start (λ idle. omega (arith, same))))
  extra-kept (move.goes_down paired is) =
      at _ is (λ live there.
      let e = extra live (λ gone. absurd (cc (gone, paired))) in (e.reply, e.sound, short v.unit [] (λ idle. omega arith)))
  extra-kept (move.is_lost is) = at _ is (λ live there. absurd (there refl))
  extra-kept (move.loses_backup has is) =
      at _ is (λ live there.
      let f = ok live (works-there v.mode (messages-work v.mode has)) in let e = extra live (works-there v.mode (messages-work v.mode has)) in
      ((λ none memory end held. absurd (cc held)), e.sound, short v.unit (path_in v) f.short))
  extra-kept (move.loses_server waits k is) =
      at _ is (λ live there.
      let e = extra waits.going_on (works-there v.mode waits.working) in
      ((λ none. absurd (waits-open waits none)), e.sound, runs-on v.unit (path_in v) waits.start (waits-runs waits)))
  extra-kept (move.is_taken_over p down alive held is_held is) =
      at _ is (λ live there.
      let f = ok alive (λ gone. absurd (cc (gone, down))) in let e = extra alive (λ gone. absurd (cc (gone, down))) in
      ((λ none memory end is. absurd (cc is)), e.sound, short v.unit (resumed_path held v.last) (λ idle. leads-short (f.held held is_held).resumes)))
  extra-kept (move.is_passed_over down e dead is) = at _ is (λ live there. absurd (cc (live, dead)))
  extra-kept (move.is_raised alone calm is) =
      at _ is (λ live there.
      let f = ok live (λ gone. absurd (cc (gone, alone))) in let e = extra live (λ gone. absurd (cc (gone, alone))) in
      ((λ none memory end is. absurd (cc is)), e.sound, short v.unit (path_in v) f.short))
  extra-kept (move.stops e lacks live idle is) = at _ is (λ now there. absurd (cc now))
  extra-kept (move.leaves e lacks is) = at _ is (λ now there. absurd (cc now))

extra-at-start : (sys : Behaviour) (t : ℕ) → ExtraAt (view_of sys (starting sys) t) []
extra-at-start sys t live there = record { reply = λ none memory end held. absurd (cc held); sound = refl }

-- In every run of a deck the frontier of a terminal is as it should be, with what holds beside it.
pub extras : (sys : Behaviour) → IsBehaviour sys → (t : ℕ) → t < sys.terminals → (log : List Event) → IsRun sys log → ((after sys log).terms t).ending ≡ None
    → (after sys log).modes (sys.pair_of t) ≢ Gone → FrontierOk sys t (view_of sys (after sys log) t) (frontier_after sys t log) × Extra (view_of sys (after sys log) t) (frontier_after sys t log)
extras sys b t known log run live there =
    let both = holds-of-terms sys b t known frontier_behind [] (λ v frontier. FrontierAt sys t v frontier × ExtraAt v frontier)
    (λ v w term next move frontier both. (frontier-kept sys b t v w frontier both.0 term move, extra-kept sys b t v w frontier both.0 both.1 move))
    (frontiers sys b t known [] tt, extra-at-start sys t) log run in
    (both.0 live there, both.1 live there)
