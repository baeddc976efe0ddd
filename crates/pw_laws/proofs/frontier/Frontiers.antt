-- The frontier behind every run.
use Rattle.std.proofs.Common.{◌≡◌, ℕ, ◌<◌, List, [], ◌∷◌, ◌++◌, None, refl, sym, subst, ap, arith}
use Rattle.pw_event.specs.declared.event.Event.{Event}
use Rattle.pw_laws.proofs.terms.KeepsChecks.{path_ok-is}
use Rattle.pw_laws.proofs.Paths.{Dropped-closing, Ended-closing}
use Rattle.pw_laws.proofs.terms.TermOk.{HasMessages}
use Rattle.pw_onecopy.specs.IsBehaviour.{IsBehaviour, IsPath}
use Rattle.pw_onecopy.specs.Path.{PathAnswer, Dropped, Ended}
use Rattle.pw_paired.specs.Raising.{is_takeover}
use Rattle.pw_paired.specs.State.{Copy, End, Start, starting}
use Rattle.pw_paired.specs.Step.{IsRun, after}
use Rattle.pw_onecopy.specs.Behaviour.{Behaviour}
use Rattle.pw_laws.proofs.frontier.Answers.{again-kept, answered-kept, failed-kept, key-kept, show-kept}
use Rattle.pw_laws.proofs.frontier.Frontier.{FrontierAt, FrontierOk, frontier_behind}
use Rattle.pw_laws.proofs.frontier.Leads.{leads-here}
use Rattle.pw_laws.proofs.frontier.Messages.{applied-kept, copy-flies, down-kept, end-flies, lone-kept, raise-kept, sent-kept, server-kept, settles-kept, taken-over-kept}
use Rattle.pw_laws.proofs.frontier.Standing.{messages-work, put, raised-there, works-there}
use Rattle.pw_laws.proofs.frontier.Units.{begin-kept, close-kept, restart-kept, serve-kept}
use Rattle.pw_laws.proofs.induction.Moving.{TermAt, carried_view, holds-of-terms}
use Rattle.pw_laws.proofs.induction.Runs.{carried}
use Rattle.pw_laws.proofs.induction.Views as move
use Rattle.pw_laws.proofs.induction.Views.{Able, Moves, View, Waits, path_in, view_of}

-- the frontiers behind a log
abbrev pub frontier_after : Behaviour → ℕ → List Event → List PathAnswer
frontier_after sys t log = carried sys (carried_view sys t frontier_behind) [] log

module _ (sys : Behaviour) (b : IsBehaviour sys) (t : ℕ) (v w : View) (frontier : List PathAnswer) (ok : FrontierAt sys t v frontier) (term : TermAt sys t v) where
  at : (x : View) → w ≡ x → FrontierAt sys t x (frontier_behind v x frontier) → FrontierAt sys t w (frontier_behind v w frontier)
  at x is = subst (λ (y : View). FrontierAt sys t y (frontier_behind v y frontier)) (sym is)

  -- the terminal can step, or waits for a server
  able-ok : Able sys t v → FrontierOk sys t v frontier
  able-ok able = ok able.going_on (λ gone. absurd (let paired = able.paired in cc (gone, paired)))

  waits-ok : Waits sys t v → FrontierOk sys t v frontier
  waits-ok waits = ok waits.going_on (works-there v.mode waits.working)

  has-ok : v.term.ending ≡ None → HasMessages v.mode → FrontierOk sys t v frontier
  has-ok live has = ok live (works-there v.mode (messages-work v.mode has))

  able-path : Able sys t v → IsPath sys t (path_in v)
  able-path able = path_ok-is _ v.unit (term.path_ok able.going_on (rw able.paired tt) (ap is_takeover able.calm))

  -- each move keeps it
  pub frontier-kept : Moves sys t v w → FrontierAt sys t w (frontier_behind v w frontier)
  frontier-kept (move.stays is) = at v is (λ live there. put v v frontier (ok live there))
  frontier-kept (move.settles lacks has is) = at _ is (λ live there. settles-kept sys b t v frontier (ok live (raised-there v.mode lacks there)) term lacks)
  frontier-kept (move.shows able asks is) = at _ is (λ live there. show-kept sys b t v frontier (able-ok able) able asks)
  frontier-kept (move.enters able screen k asks next exists is) = at _ is (λ live there. key-kept sys b t v frontier (able-ok able) able screen k asks next exists)
  frontier-kept (move.sends_start able idle begins new lacking free is) = at _ is (λ live there. sent-kept sys b t v frontier (able-ok able) term (Start _ _) tt)
  frontier-kept (move.sends_end able a closes lacking free is) =
      at _ is (λ live there. sent-kept sys b t v frontier (able-ok able) term (End (path_in v ++ a ∷ [])) (end-flies sys b t v frontier (able-ok able) term able a closes lacking))
  frontier-kept (move.sends_copy live raising lacking free is) =
      let now = has-ok live (rw raising tt) in
      at _ is (λ _ there. sent-kept sys b t v frontier now term (Copy _ _) (copy-flies sys b t v frontier now term live raising))
  frontier-kept (move.applies message flies has lacks is) = at _ is (λ live there. applied-kept sys b t v frontier (has-ok live has) term has lacks message flies)
  frontier-kept (move.begins able idle begins new holds birth is) = at _ is (λ live there. begin-kept sys b t v frontier (able-ok able) term able idle begins new holds birth)
  frontier-kept (move.is_answered waits reply inside is) = at _ is (λ live there. answered-kept sys b t v frontier (waits-ok waits) waits reply inside)
  frontier-kept (move.is_served waits reply outside is) = at _ is (λ live there. serve-kept sys b t v frontier (waits-ok waits) term waits reply outside)
  frontier-kept (move.is_failed waits x is) = at _ is (λ live there. failed-kept sys b t v frontier (waits-ok waits) waits x)
  frontier-kept (move.is_answered_again able class message asks outside number is) =
      at _ is (λ live there. again-kept sys b t v frontier (able-ok able) term able class message asks number)
  frontier-kept (move.commits able asks holds is) =
      at _ is (λ live there.
      close-kept sys b t v frontier (able-ok able) term able Ended Ended-closing (b.ends t (path_in v) (able-path able) asks) (rw asks tt)
      (λ c message sends. absurd (cc (asks, sends))) (λ x faults. absurd (cc (asks, faults))) holds)
  frontier-kept (move.drops able asks holds is) =
      at _ is (λ live there.
      close-kept sys b t v frontier (able-ok able) term able Dropped Dropped-closing (b.drops t (path_in v) (able-path able) asks) (rw asks tt)
      (λ c message sends. absurd (cc (asks, sends))) (λ x faults. absurd (cc (asks, faults))) holds)
  frontier-kept (move.restarts unit is_open start runs kind few is) = at _ is (λ live there. restart-kept sys b t v frontier (ok live there) term unit is_open start runs kind)
  frontier-kept (move.goes_down paired is) = at _ is (λ live there. down-kept sys b t v frontier (ok live (λ gone. absurd (cc (gone, paired)))) term)
  frontier-kept (move.is_lost is) = at _ is (λ live there. absurd (there refl))
  frontier-kept (move.loses_backup has is) = at _ is (λ live there. lone-kept sys b t v frontier (has-ok live has) term has)
  frontier-kept (move.loses_server waits k is) = at _ is (λ live there. server-kept sys b t v frontier (waits-ok waits) term waits k)
  frontier-kept (move.is_taken_over p down live held is_held is) =
      at _ is (λ _ there. taken-over-kept sys b t v frontier (ok live (λ gone. absurd (cc (gone, down)))) term p down live held is_held)
  frontier-kept (move.is_passed_over down e dead is) = at _ is (λ live there. absurd (cc (live, dead)))
  frontier-kept (move.is_raised alone calm is) = at _ is (λ live there. raise-kept sys b t v frontier (ok live (λ gone. absurd (cc (gone, alone)))) term alone)
  frontier-kept (move.stops e lacks live idle is) = at _ is (λ now there. absurd (cc now))
  frontier-kept (move.leaves e lacks is) = at _ is (λ now there. absurd (cc now))

-- what holds at the start
frontier-at-start : (sys : Behaviour) (t : ℕ) → t < sys.terminals → FrontierAt sys t (view_of sys (starting sys) t) []
frontier-at-start sys t known live there = record {
  base = record {
    rest = record { is_path = record { known = known; suits = tt }; outside = refl };
    number = refl;
    begins = λ u is. absurd (cc is);
    start = λ q runs. absurd (cc runs);
  };
  short = λ idle. omega arith;
  stands = λ works untaken. leads-here sys t _ [] [] refl;
  held = λ memory is. absurd (cc is);
  ends = λ has. absurd has;
  flies = λ message is. absurd (cc is);
  alone = λ is. refl;
}

-- In every run of a deck the frontier of each terminal is as it should be.
pub frontiers : (sys : Behaviour) → IsBehaviour sys → (t : ℕ) → t < sys.terminals → (log : List Event) → IsRun sys log
    → FrontierAt sys t (view_of sys (after sys log) t) (frontier_after sys t log)
frontiers sys b t known =
    holds-of-terms sys b t known frontier_behind [] (FrontierAt sys t)
    (λ v w term next move frontier ok. frontier-kept sys b t v w frontier ok term move)
    (frontier-at-start sys t known)
