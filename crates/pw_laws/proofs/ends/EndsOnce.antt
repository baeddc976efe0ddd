-- What each entry ends, and that no unit ends twice.
use Rattle.std.proofs.Common.{◌≡◌, ◌≢◌, ℕ, ◌+◌, ◌<◌, ◌≤◌, ◌⊎◌, inl, inr, ⊎_elim, Bool, true, false, not, ◌&&◌, ◌==◌, is_none, List, [], ◌∷◌, ◌++◌, length, cond, Option, Some, None, if◌then◌else◌, refl, ap, sym, subst, ◌∙◌, arith}
use Rattle.std.proofs.lemmas.Bool.{cases_eq, true≢false, eq-eqb, eqb-true, ne_eqb, cond-true, cond-false, and_left, and_right}
use Rattle.std.specs.Prelude.{nat_lt}
use Rattle.pw_event.specs.declared.event.Ending.{Ending}
use Rattle.pw_event.specs.declared.event.Event.{Event}
use Rattle.pw_event.specs.declared.event.Event.TheVariants.{Show, Key, CheckStart, CheckEnd, CheckCopy, Applied, Begin, Send, Take, File, Reply, Again, Commit, Back, Restart, FailTcp, FailServer, Takeover, Raise, End}
use Rattle.pw_onecopy.proofs.Update.{upd-same, upd-other}
use Rattle.pw_onecopy.specs.Behaviour.{Behaviour}
use Rattle.pw_onecopy.specs.Blocks.{SerialBlock, Out, Attempted, Done, AttemptEnding, Committed, Aborted, Restarted, Left}
use Rattle.pw_onecopy.specs.IsBehaviour.{IsBehaviour}
use Rattle.pw_onecopy.specs.Path.{PathAnswer, is_outside, unit_number}
use Rattle.pw_onecopy.specs.Update.{upd}
use Rattle.pw_paired.specs.End.{LegalEnd, LegalStopped}
use Rattle.pw_paired.specs.Failure.{lose_backup, lose_primary, lose_pair, is_of_pair}
use Rattle.pw_paired.specs.Headline.{EndsOnce}
use Rattle.pw_paired.specs.Serial.{Reading, blocks, blocks_of, entry_blocks_from, is_gone, is_idle, last_blocks_from, left_block, left_blocks, out_block, read_on, reading_starts, reply_commits}
use Rattle.pw_paired.specs.Server.{LegalReply, do_reply, free_process, reply_at}
use Rattle.pw_paired.specs.State.{LastEnded, Alone, Down, OpenUnit, State, starting}
use Rattle.pw_paired.specs.Step.{Fits, effect, IsRunFrom, IsRun, after, after_from}
use Rattle.pw_paired.specs.Terminal.{LegalCommit, LegalBack, path_of}
use Rattle.pw_paired.specs.Units.{attempt_of, commit_unit, last_after_leaving, only}
use Rattle.pw_laws.proofs.RunSteps.{after_from-append, IsRunFrom-split}
use Rattle.pw_laws.proofs.ends.Ends.{EndsBy, not_at_all, once, ahead, ends_in, ends_in-append, last_of, left-one, lefts-one, single}
use Rattle.pw_laws.proofs.induction.Failed.{end-cases, fail-cases, process-cases}
use Rattle.pw_laws.proofs.induction.Served.{file-cases}
use Rattle.pw_laws.proofs.kept.Failing.{out-job}
use Rattle.pw_laws.proofs.kept.Kept.{Inv}
use Rattle.pw_laws.proofs.kept.Runs.{keeps, kept-at-start, kept-from}
use Rattle.pw_laws.proofs.terms.KeepsChecks.{can_path, path_ok-is, running, within}
use Rattle.pw_laws.proofs.terms.KeepsEnds.{OutOk, out-path}
use Rattle.pw_laws.proofs.terms.KeepsPairs.{not-of-pair, of-pair}
use Rattle.pw_laws.proofs.terms.TermOk.{PathOk}

-- From a state to the next the last ended unit does not fall, and the blocks end the unit not at all, or once and rightly.
record Goes (t n before after : ℕ) (blocks : List SerialBlock) : Type 0 where
  pub rises : before ≤ after
  pub ends : EndsBy t n before after blocks

-- where nothing has ended
stays : (t n before after : ℕ) (blocks : List SerialBlock) → after ≡ before → ends_in t n blocks ≡ 0 → Goes t n before after blocks
stays t n before after blocks same none = record { rises = omega (arith, same); ends = not_at_all none }

-- where one unit has ended
moves : (s : State) (t n own number j : ℕ) (how : AttemptEnding) (reply : Option (List ℕ)) → number ≡ last_of s own + 1
    → Goes t n (last_of s t) (upd s.ended own (record { number = number; reply = reply }) t).number (Attempted own number how j ∷ [])
moves s t n own number j how reply next =
    ⊎_elim
    (λ same.
    let now : (upd s.ended own (record { number = number; reply = reply }) t).number ≡ number = ap (λ (x : LastEnded). x.number) (upd-same s.ended own _ t same) in
    let was : last_of s t ≡ last_of s own = ap (last_of s) same in
    record {
      rises = omega (arith, now, next, was);
      ends = single t n own number how j _ _ (λ _ number_is. (omega (arith, next, was, number_is), now ∙ number_is));
    })
    (λ differ.
    let now : (upd s.ended own (record { number = number; reply = reply }) t).number ≡ last_of s t = ap (λ (x : LastEnded). x.number) (upd-other s.ended own _ t differ) in
    record {
      rises = omega (arith, now);
      ends = single t n own number how j _ _ (λ own_is _. absurd (differ (sym own_is)));
    })
    (cases_eq t own)

out-none : (t n : ℕ) (s : State) (reading : Reading) (own : ℕ) → ends_in t n (out_block s reading own) ≡ 0
out-none t n s reading own = by_test (is_idle s own && nat_lt (reading.longest own) (length (path_of s own) + 1))
  where
    by_test : (b : Bool) → ends_in t n (if b then Out own ∷ [] else []) ≡ 0
    by_test true = refl
    by_test false = refl

restart-none : (t n own number j : ℕ) → ends_in t n (Attempted own number Restarted j ∷ []) ≡ 0
restart-none t n own number j =
    ap (λ (x : Bool). length (cond x (Attempted own number Restarted j ∷ []) []))
    (and_right (own == t) (number == n && false) (and_right (number == n) false refl))

-- the units of a pair are left
module _ (sys : Behaviour) (s : State) (i : Inv sys s) (p : ℕ) where
  last-gone : (t : ℕ) → sys.pair_of t ≡ p → last_of (lose_pair sys p s) t ≡ (last_after_leaving (s.units t) (s.ended t)).number
  last-gone t of = ap (λ (x : LastEnded). x.number) (of-pair sys p t (last_after_leaving (s.units t) (s.ended t)) (s.ended t) of)

  last-spared : (t : ℕ) → sys.pair_of t ≢ p → last_of (lose_pair sys p s) t ≡ last_of s t
  last-spared t differ = ap (λ (x : LastEnded). x.number) (not-of-pair sys p t (last_after_leaving (s.units t) (s.ended t)) (s.ended t) differ)

left-rises : (sys : Behaviour) (s : State) (i : Inv sys s) (t : ℕ) (unit : Option OpenUnit) → s.units t ≡ unit → last_of s t ≤ (last_after_leaving unit (s.ended t)).number
left-rises sys s i t None is = omega arith
left-rises sys s i t (Some u) is = let next = ((i.terms t (i.known t u is)).unit_ok u is).number in omega (arith, next)

-- an open unit is the next one
open-next : (sys : Behaviour) (s : State) (i : Inv sys s) (t n : ℕ) (u : OpenUnit) → s.units t ≡ Some u → u.number ≡ n
    → (last_of s t < n) × ((last_after_leaving (s.units t) (s.ended t)).number ≡ n)
open-next sys s i t n u is number =
    let next = ((i.terms t (i.known t u is)).unit_ok u is).number in
    (omega (arith, next, number), ap (λ (x : Option OpenUnit). (last_after_leaving x (s.ended t)).number) is ∙ number)

module _ (sys : Behaviour) (b : IsBehaviour sys) (s : State) (i : Inv sys s) (t n : ℕ) (reading : Reading) where
  commit-next : (own number : ℕ) → LegalCommit sys s own number → number ≡ last_of s own + 1
  commit-next own number l =
      let path = can_path sys b s i.terms own l.can in
      let inside = b.ends own (path_of s own) (path_ok-is _ (s.units own) path) l.asks in
      l.number ∙ (within (s.units own) inside path).path_is.number

  back-next : (own number : ℕ) → LegalBack sys s own number → number ≡ last_of s own + 1
  back-next own number l =
      let path = can_path sys b s i.terms own l.can in
      let inside = b.drops own (path_of s own) (path_ok-is _ (s.units own) path) l.asks in
      l.number ∙ (within (s.units own) inside path).path_is.number

  reply-goes : (c q own : ℕ) (fault : Option ℕ) → LegalReply sys s c q own fault
      → Goes t n (last_of s t) (last_of (do_reply sys c q own fault s) t) (reply_commits s own fault (reading.answers own + 1))
  reply-goes c q own (Some x) l = stays t n _ _ [] refl refl
  reply-goes c q own None l = by_place (is_outside (path_of s own))
    where
      number : unit_number (path_of s own) ≡ last_of s own + 1
      number = (out-path sys b s i.terms own (record { class = c; request = l.job.request }) (subst (λ (k : ℕ). OutOk sys s k (record { class = c; request = l.job.request })) l.whose (out-job sys b s i c q l.job l.at_work))).number

      by_place : (outside : Bool)
          → Goes t n (last_of s t)
          (last_of (if outside then commit_unit own (unit_number (path_of s own)) (Some (reply_at sys c ((s.classes c).busy q))) (free_process c q s) else free_process c q s) t)
          (if outside then Attempted own (unit_number (path_of s own)) Committed (reading.answers own + 1) ∷ [] else [])
      by_place true = moves s t n own (unit_number (path_of s own)) (reading.answers own + 1) Committed (Some (reply_at sys c ((s.classes c).busy q))) number
      by_place false = stays t n _ _ [] refl refl

  -- a pair is lost
  gone-goes : (p : ℕ) (made : Bool) → Goes t n (last_of s t) (last_of (lose_pair sys p s) t) (if made then left_blocks s reading (is_of_pair sys p) sys.terminals else [])
  gone-goes p made = record { rises = rises; ends = ends made }
    where
      rises : last_of s t ≤ last_of (lose_pair sys p s) t
      rises = ⊎_elim
          (λ of. subst (λ (m : ℕ). last_of s t ≤ m) (sym (last-gone sys s i p t of)) (left-rises sys s i t (s.units t) refl))
          (λ differ. let same = last-spared sys s i p t differ in omega (arith, same))
          (cases_eq (sys.pair_of t) p)

      ends : (made : Bool) → EndsBy t n (last_of s t) (last_of (lose_pair sys p s) t) (if made then left_blocks s reading (is_of_pair sys p) sys.terminals else [])
      ends false = not_at_all refl
      ends true = (lefts-one s reading (is_of_pair sys p) t n _ _ sys.terminals
          (λ u is of number.
          let next = open-next sys s i t n u is number in
          (next.0, last-gone sys s i p t (eqb-true (sys.pair_of t) p of) ∙ next.1))).1

  -- a member of a pair fails: its pair is lost, or nothing is left
  lost-none : (p : ℕ) (after : State) → is_gone (after.modes p) ≡ false → (made : Bool) → (is_gone (after.modes p) && not (is_gone (s.modes p))) ≡ made
      → ends_in t n (if made then left_blocks s reading (is_of_pair sys p) sys.terminals else []) ≡ 0
  lost-none p after is false e = refl
  lost-none p after is true e = absurd (true≢false (sym e ∙ and_left (is_gone (after.modes p)) (not (is_gone (s.modes p))) is))

  same-none : (p : ℕ) (made : Bool) → (is_gone (s.modes p) && not (is_gone (s.modes p))) ≡ made
      → ends_in t n (if made then left_blocks s reading (is_of_pair sys p) sys.terminals else []) ≡ 0
  same-none p false e = refl
  same-none p true e = absurd (true≢false (sym e ∙ no (is_gone (s.modes p))))
    where
      no : (x : Bool) → (x && not x) ≡ false
      no true = refl
      no false = refl

  fail-goes : (p : ℕ) (primary : Bool) (k : ℕ)
      → Goes t n (last_of s t) (last_of (effect sys s (FailTcp p primary k)) t) (blocks_of sys s reading (FailTcp p primary k))
  fail-goes p primary k =
      fail-cases sys s
      (λ x. Goes t n (last_of s t) (last_of x t) (if is_gone (x.modes p) && not (is_gone (s.modes p)) then left_blocks s reading (is_of_pair sys p) sys.terminals else [])) p
      (stays t n _ _ _ refl (same-none p _ refl))
      (λ paired. stays t n _ _ _ refl (lost-none p (lose_primary sys p s) (ap is_gone (upd-same s.modes p Down p refl)) _ refl))
      (λ member breaks. gone-goes p _)
      (λ has. stays t n _ _ _ refl (lost-none p (lose_backup sys p s) (ap is_gone (upd-same s.modes p Alone p refl)) _ refl))
      primary

  -- a terminal ends, and its open unit is left
  left-goes : (own : ℕ) (e : Ending)
      → Goes t n (last_of s t) (if only own t then last_after_leaving (s.units t) (s.ended t) else s.ended t).number (left_block own (reading.answers own) (s.units own) ++ Done own e ∷ [])
  left-goes own e = record { rises = rises; ends = ahead t n _ _ (left_block own (reading.answers own) (s.units own)) (Done own e ∷ []) refl ends }
    where
      now : LastEnded
      now = if only own t then last_after_leaving (s.units t) (s.ended t) else s.ended t

      now-own : t ≡ own → now.number ≡ (last_after_leaving (s.units t) (s.ended t)).number
      now-own same = ap (λ (x : LastEnded). x.number) (cond-true (only own t) (last_after_leaving (s.units t) (s.ended t)) (s.ended t) (eq-eqb t own same))

      now-other : t ≢ own → now.number ≡ last_of s t
      now-other differ = ap (λ (x : LastEnded). x.number) (cond-false (only own t) (last_after_leaving (s.units t) (s.ended t)) (s.ended t) (ne_eqb t own differ))

      rises : last_of s t ≤ now.number
      rises = ⊎_elim
          (λ same. subst (λ (m : ℕ). last_of s t ≤ m) (sym (now-own same)) (left-rises sys s i t (s.units t) refl))
          (λ differ. let same = now-other differ in omega (arith, same)) (cases_eq t own)

      ends : EndsBy t n (last_of s t) now.number (left_block own (reading.answers own) (s.units own))
      ends = left-one t n own (reading.answers own) _ _ (s.units own)
          (λ u is same number.
          let next = open-next sys s i t n u (subst (λ (m : ℕ). s.units m ≡ Some u) same is) number in
          (next.0, now-own (sym same) ∙ next.1))

  -- a terminal ends that has no running attempt
  idle-none : (own : ℕ) (e : Ending) (unit : Option OpenUnit) → attempt_of unit ≡ None → ends_in t n (left_block own (reading.answers own) unit ++ Done own e ∷ []) ≡ 0
  idle-none own e None idle = refl
  idle-none own e (Some u) idle =
      subst (λ (r : Option (List PathAnswer)). ends_in t n ((if is_none r then [] else Attempted own u.number Left (reading.answers own) ∷ []) ++ Done own e ∷ []) ≡ 0) (sym idle) refl

  -- a terminal at its Stop has no running attempt
  pub stopped-idle : (own : ℕ) → LegalStopped sys s own → attempt_of (s.units own) ≡ None
  stopped-idle own l = by_attempt (attempt_of (s.units own)) refl
    where
      path : PathOk sys own (last_of s own) (s.units own) (path_of s own)
      path = can_path sys b s i.terms own l.can

      by_attempt : (r : Option (List PathAnswer)) → attempt_of (s.units own) ≡ r → r ≡ None
      by_attempt None is = refl
      by_attempt (Some start) is =
          let here = running (s.units own) is path in
          let outside = b.stops own (path_of s own) here.is_path l.asks in
          absurd (⊎_elim
          (λ inside. true≢false (sym outside ∙ inside))
          (λ other. ⊎_elim (λ sends. absurd (let send = sends.2 in let asks = l.asks in cc (send, asks))) (λ faults. absurd (let fault = faults.1 in let asks = l.asks in cc (fault, asks))) other)
          here.within)

  end-goes : (own : ℕ) (e : Ending) → LegalEnd sys s own e
      → Goes t n (last_of s t) (last_of (effect sys s (End own e)) t) (blocks_of sys s reading (End own e))
  end-goes own e l =
      end-cases sys s (λ x. Goes t n (last_of s t) (last_of x t) (left_block own (reading.answers own) (s.units own) ++ Done own e ∷ [])) own e l
      (λ stopped. stays t n _ _ _ refl (idle-none own e (s.units own) (stopped-idle own stopped)))
      (λ lost. stays t n _ _ _ refl (idle-none own e (s.units own) (ap attempt_of ((i.terms own lost.live.known).lost lost.lost))))
      (λ leaves. left-goes own e)

  -- what each entry ends
  goes : (entry : Event) → Fits sys s entry → Goes t n (last_of s t) (last_of (effect sys s entry) t) (blocks_of sys s reading entry)
  goes (Show own phase attempt k) l = stays t n _ _ _ refl (out-none t n s reading own)
  goes (Key own k) l = stays t n _ _ _ refl (out-none t n s reading own)
  goes (CheckStart own) l = stays t n _ _ _ refl refl
  goes (CheckEnd own) l = stays t n _ _ _ refl refl
  goes (CheckCopy own) l = stays t n _ _ _ refl refl
  goes (Applied own) l = stays t n _ _ _ refl refl
  goes (Begin own number r) l = stays t n _ _ _ refl refl
  goes (Send own number c) l = stays t n _ _ _ refl refl
  goes (Take c q own) l = stays t n _ _ _ refl refl
  goes (File c q op mode f status) l = stays t n _ _ _ (file-cases sys s c q (λ x. last_of x t ≡ last_of s t) refl (λ job call works asks. refl)) refl
  goes (Reply c q own fault) l = reply-goes c q own fault l
  goes (Again own number) l = stays t n _ _ _ refl refl
  goes (Commit own number) l = moves s t n own number (reading.answers own + 1) Committed None (commit-next own number l)
  goes (Back own number) l = moves s t n own number (reading.answers own + 1) Aborted None (back-next own number l)
  goes (Restart own number cause) l = stays t n _ _ _ refl (restart-none t n own number (reading.answers own))
  goes (FailTcp p primary k) l = fail-goes p primary k
  goes (FailServer c q k) l = stays t n _ _ _ (process-cases sys s (λ x. last_of x t ≡ last_of s t) c q k refl (λ job works. refl)) refl
  goes (Takeover p) l = stays t n _ _ _ refl refl
  goes (Raise p) l = stays t n _ _ _ refl refl
  goes (End own e) l = end-goes own e l

-- how many blocks of the rest of a log end the unit
abbrev ends_from : Behaviour → State → Reading → List Event → ℕ → ℕ → ℕ
ends_from sys s reading log t n = ends_in t n (entry_blocks_from sys s reading log ++ last_blocks_from sys s reading log)

-- a count with what an entry adds: none where the unit has ended, and at most one
one-more : (a c whole before after n : ℕ) → whole ≡ a + c → before ≤ after → (a ≡ 0) ⊎ ((a ≡ 1) × (before < n) × (after ≡ n))
    → (n ≤ after → c ≡ 0) → c ≤ 1 → (n ≤ before → whole ≡ 0) × (whole ≤ 1)
one-more a c whole before after n sum rises (inl none) rest one =
    (λ ended. let after_none = rest (omega (arith, ended, rises)) in omega (arith, sum, none, after_none), omega (arith, sum, none, one))
one-more a c whole before after n sum rises (inr ends) rest one =
    let is = ends.0 in
    let low = ends.1 in
    let same = ends.2 in
    let after_none = rest (omega (arith, same)) in
    (λ ended. absurd (omega (arith, ended, low)), omega (arith, sum, is, after_none))

by-cases : {t n before after : ℕ} {blocks : List SerialBlock} → EndsBy t n before after blocks → (ends_in t n blocks ≡ 0) ⊎ ((ends_in t n blocks ≡ 1) × (before < n) × (after ≡ n))
by-cases (not_at_all is) = inl is
by-cases (once is low same) = inr (is, low, same)

end-of-log : (sys : Behaviour) (s : State) (i : Inv sys s) (reading : Reading) (t n : ℕ)
    → (n ≤ last_of s t → ends_in t n (left_blocks s reading (λ _. true) sys.terminals) ≡ 0) × (ends_in t n (left_blocks s reading (λ _. true) sys.terminals) ≤ 1)
end-of-log sys s i reading t n =
    by (by-cases (lefts-one s reading (λ _. true) t n (last_of s t) n sys.terminals (λ u is _ number. ((open-next sys s i t n u is number).0, refl))).1)
  where
    count : ℕ
    count = ends_in t n (left_blocks s reading (λ _. true) sys.terminals)

    by : (count ≡ 0) ⊎ ((count ≡ 1) × (last_of s t < n) × (n ≡ n)) → (n ≤ last_of s t → count ≡ 0) × (count ≤ 1)
    by (inl none) = (λ ended. none, omega (arith, none))
    by (inr ends) = let is = ends.0 in let low = ends.1 in (λ ended. absurd (omega (arith, ended, low)), omega (arith, is))

at-most-once : (sys : Behaviour) → IsBehaviour sys → (s : State) → Inv sys s → (reading : Reading) (log : List Event) (t n : ℕ) → IsRunFrom sys s log
    → (n ≤ last_of s t → ends_from sys s reading log t n ≡ 0) × (ends_from sys s reading log t n ≤ 1)
at-most-once sys b s i reading [] t n run = end-of-log sys s i reading t n
at-most-once sys b s i reading (entry ∷ log) t n run =
    let next : State = effect sys s entry in
    let now : Reading = read_on sys s entry reading in
    let first : List SerialBlock = blocks_of sys s reading entry in
    let others : List SerialBlock = entry_blocks_from sys next now log in
    let last : List SerialBlock = last_blocks_from sys next now log in
    let here = goes sys b s i t n reading entry run.0.fits in
    let rest = at-most-once sys b next (keeps sys b s i entry run.0) now log t n run.1 in
    let whole = ends_in-append t n (first ++ others) last in
    let front = ends_in-append t n first others in
    let back = ends_in-append t n others last in
    one-more (ends_in t n first) (ends_in t n (others ++ last)) _ (last_of s t) (last_of next t) n
    (omega (arith, whole, front, back)) here.rises (by-cases here.ends) rest.0 rest.1

-- in every run each unit number ends at most once
pub ends-once : (sys : Behaviour) → IsBehaviour sys → (log : List Event) → IsRun sys log → EndsOnce sys log
ends-once sys b log run t n = (at-most-once sys b (starting sys) (kept-at-start sys) reading_starts log t n run).1

-- TMF's last ended unit of a terminal never falls
rises-from : (sys : Behaviour) → IsBehaviour sys → (s : State) → Inv sys s → (log : List Event) → IsRunFrom sys s log → (t : ℕ) → last_of s t ≤ last_of (after_from sys s log) t
rises-from sys b s i [] run t = omega arith
rises-from sys b s i (entry ∷ log) run t =
    let here = (goes sys b s i t 0 reading_starts entry run.0.fits).rises in
    let rest = rises-from sys b (effect sys s entry) (keeps sys b s i entry run.0) log run.1 t in
    omega (arith, here, rest)

-- in every run the last ended unit of a terminal never falls
pub never-falls : (sys : Behaviour) → IsBehaviour sys → (log more : List Event) → IsRun sys (log ++ more) → (t : ℕ)
    → last_of (after sys log) t ≤ last_of (after sys (log ++ more)) t
never-falls sys b log more run t =
    let parts = IsRunFrom-split sys (starting sys) log more run in
    let kept = kept-from sys b (starting sys) (kept-at-start sys) log parts.0 in
    subst (λ (s : State). last_of (after sys log) t ≤ last_of s t) (sym (after_from-append sys (starting sys) log more))
    (rises-from sys b (after sys log) kept more parts.1 t)
