-- What a run with a report comes to, by what its calls answered.
use Rattle.std.proofs.Common.{◌≡◌, ◌∙◌, ℕ, List, None, Some, ap, inl, inr, refl, subst, sym}
use Rattle.pw_input_output.specs.Numbers.{status_number}
use Rattle.pw_input_output.specs.Outputs.{EndsWriting}
use Rattle.pw_input_output.specs.declared.status.Status.{Status}
use Rattle.pw_input_output.specs.declared.status.Status.TheVariants.{DiscFault, Memory}
use Rattle.pw_code.specs.declared.system.System.{System}
use Rattle.pw_event.specs.declared.script.FailLine.{FailLine}
use Rattle.pw_code_meaning.specs.OfSystem.{behaviour}
use Rattle.pw_report_text.specs.Meaning.{report_text}
use Rattle.pw_world.specs.States.{WorldState, seen}
use Rattle.pw_world_model.specs.Seen.{sys_of}
use Rattle.pw_world_model.specs.Worlds.{Books, IsDiscOf, IsWorld}
use Rattle.pw_deck_runs.proofs.Left.{failed, left-is, reported}
use Rattle.pw_workers.specs.Endings.{status_of}
use Rattle.pw_workers.specs.Over.{LeavesWorld}
use Rattle.pw_deck_runs.specs.WrittenRuns.{HasLeft, LeavesIfAny, RunsWith, Writing}
use Rattle.pw_workers.specs.declared.ending.LogEnding.{LogEnding}
use Rattle.pw_workers.specs.declared.over.RunEnding as over
use Rattle.pw_workers.specs.declared.over.RunEnding.TheVariants as come
use Rattle.pw_deck_runs.specs.declared.written.Ran.{Ran}
use Rattle.pw_tmf.specs.Told.{Told}

module _ {D : Type 0} (told : D → Told) (system : System) (lines : List FailLine) (events : ℕ) (disc : D) where
  -- memory ran out
  pub without : (ran : Ran D) (sink : Writing) → ran.status ≡ status_number Memory → ran.disc ≡ None
      → sink.now ≡ sink.before → sink.faults_then ≡ sink.faults
      → RunsWith told system lines events disc ran sink
  without ran sink number none text count = record {
    status = Memory;
    number = number;
    leaves = subst (λ left. LeavesIfAny told system lines events disc Memory sink left) (sym none)
        (refl, record { text = text; count = count });
  }

  with : (ran : Ran D) (sink : Writing) (status : Status) (left : D) → ran.status ≡ status_number status
      → ran.disc ≡ Some left → HasLeft (behaviour lines system) system events (told disc) (told left) status sink
      → RunsWith told system lines events disc ran sink
  with ran sink status left number some has = record {
    status = status;
    number = number;
    leaves = subst (λ l. LeavesIfAny told system lines events disc status sink l) (sym some) has;
  }

  module _ (world : WorldState D) (books : Books) (of : IsDiscOf system lines (told disc))
      (is : IsWorld (seen told world) books) (ran : Ran D) (sink : Writing) (left : D) (disc_is : left ≡ world.keep.disc)
      (some : ran.disc ≡ Some left) (o : over.RunEnding D) (leaves : LeavesWorld told system lines events disc o) where
    -- the run has ended
    pub with-report : (ended : LogEnding) (given status : Status) (text : List ℕ) → o ≡ come.Ended ended world
        → text ≡ report_text (seen told world).system (sys_of (seen told world)) (seen told world).log
        → given ≡ status_of ended
        → EndsWriting given status text sink.before sink.now sink.faults sink.faults_then
        → ran.status ≡ status_number status → RunsWith told system lines events disc ran sink
    with-report ended given status text ends said asked writing number =
        let own : LeavesWorld told system lines events disc (come.Ended ended world) =
        subst (LeavesWorld told system lines events disc) ends leaves in
        let wrote : EndsWriting (status_of ended) status text sink.before sink.now sink.faults sink.faults_then =
        subst (λ s. EndsWriting s status text sink.before sink.now sink.faults sink.faults_then) asked writing in
        with ran sink status world.keep.disc number (some ∙ ap Some disc_is) (record {
          log = (seen told world).log;
          left_is = left-is system lines events (told disc) (seen told world) own.0 books of is;
          ends = inr (reported system lines events (told disc) (seen told world) own.0 sink ended status text own.1 said wrote);
        })

    -- the disc has failed
    pub with-fault : o ≡ come.Failed world → sink.now ≡ sink.before → sink.faults_then ≡ sink.faults
        → ran.status ≡ status_number DiscFault → RunsWith told system lines events disc ran sink
    with-fault fails text count number =
        let own : LeavesWorld told system lines events disc (come.Failed world) =
        subst (LeavesWorld told system lines events disc) fails leaves in
        with ran sink DiscFault world.keep.disc number (some ∙ ap Some disc_is) (record {
          log = (seen told world).log;
          left_is = left-is system lines events (told disc) (seen told world) own.0 books of is;
          ends = inl (failed system lines events (told disc) (seen told world) own.0 sink own.1.0 own.1.1
              (record { text = text; count = count }));
        })
