-- A world in which a kept context has run on.
use Rattle.std.proofs.Common.{◌≡◌, ℕ, ◌<◌, ◌≤◌, map, length, Some, Bool, true, refl, sym, ap, subst, ◌∙◌}
use Rattle.std.specs.Prelude.{◌-◌, ◌^◌, IsSome, slice_get, min}
use Rattle.pw_base.specs.Outside.{Rose}
use Rattle.pw_code.specs.declared.context.Context.{Context}
use Rattle.pw_code.specs.declared.system.ClassInfo.{ClassInfo}
use Rattle.pw_code.specs.declared.system.TermInfo.{TermInfo}
use Rattle.pw_code.specs.declared.verb.Verb.{Verb}
use Rattle.pw_code_meaning.specs.Contexts.{RunsOn}
use Rattle.pw_world_state.specs.Changes.{kept_ran, with_job, with_ready}
use Rattle.pw_world_state.specs.Kept.{Kept, KeptTerminal}
use Rattle.pw_world_state.specs.Stands.{Stands}
use Rattle.pw_world_state.specs.TerminalTests.{is_out}
use Rattle.pw_world_state.proofs.RunOn.{process-on, terminal-on}
use Rattle.pw_world_model.specs.Pushed.{AreMarked}
use Rattle.pw_world_model.specs.Seen.{Seen, state_of}
use Rattle.pw_world_model.specs.Worlds.{Books, IsWorld}
use Rattle.pw_onecopy.proofs.Update.{upd_elim}
use Rattle.pw_pair.specs.declared.seat.BackupSeat.{BackupSeat}
use Rattle.pw_actor_queue.specs.declared.actor.Actor.{Actor}
use Rattle.pw_tmf.specs.Told.{Told}

module _ (world : Seen) (books : Books) (w : IsWorld world books) where
  -- what is kept changes only in such a way
  ran : (kept : Kept) (marked : Actor → Bool) → Stands world.system world.script (state_of world) kept → kept.pairs ≡ world.kept.pairs → kept.disc ≡ world.kept.disc
      → ((t : ℕ) → t < length world.system.terminals → is_out world.system kept t ≡ true → IsSome (kept.terminals t).ready)
      → AreMarked (record world { kept = kept }) marked → IsWorld (record world { kept = kept }) (record books { marked = marked })
  ran kept marked stands pairs disc asking are = record {
    valid = w.valid;
    deck = w.deck;
    run = w.run;
    room = w.room;
    few = w.few;
    stands = stands;
    members = λ p few. ap (λ f. map (λ (seat : BackupSeat). seat.terminal) (f p).seats) pairs ∙ w.members p few;
    terminals = ap (λ (d : Told). d.terminals) disc ∙ w.terminals;
    files = ap (λ (d : Told). d.file_count) disc ∙ w.files;
    commits = ap (λ (d : Told). d.commits) disc ∙ w.commits;
    lines = w.lines;
    few_lines = w.few_lines;
    asking = asking;
    count = subst (λ (d : Told). min world.faults (2 ^ 64 - 1) ≤ d.faults) (sym disc) w.count;
    failed = λ e. subst (λ (d : Told). Rose world.faults d.faults) (sym disc) (w.failed e);
    books = record {
      refreshes = w.books.refreshes;
      one_sends = w.books.one_sends;
      due = w.books.due;
      live = w.books.live;
      stamps = w.books.stamps;
      marked = are;
    };
  }

  pub terminal-ran : (t : ℕ) (info : TermInfo) (old new : Context) (verb : Verb) (marked : Actor → Bool) → slice_get world.system.terminals t ≡ Some info → (world.kept.terminals t).context ≡ Some old
      → RunsOn world.system old new verb → AreMarked (record world { kept = kept_ran t new world.kept }) marked → IsWorld (record world { kept = kept_ran t new world.kept }) (record books { marked = marked })
  terminal-ran t info old new verb marked here is on are =
      ran (kept_ran t new world.kept) marked (terminal-on world.system world.script (state_of world) world.kept w.stands t info old new verb here is on) refl refl
      (λ u low out. upd_elim world.kept.terminals t (with_ready new (world.kept.terminals t)) u (λ (own : KeptTerminal). IsSome own.ready) (λ same. refl) (λ differ. w.asking u low out)) are

  pub process-ran : (c i : ℕ) (info : ClassInfo) (old new : Context) (verb : Verb) (marked : Actor → Bool) → slice_get world.system.classes c ≡ Some info → world.kept.jobs c i ≡ Some old
      → RunsOn world.system old new verb → AreMarked (record world { kept = with_job c i (Some new) world.kept }) marked
      → IsWorld (record world { kept = with_job c i (Some new) world.kept }) (record books { marked = marked })
  process-ran c i info old new verb marked here is on are =
      ran (with_job c i (Some new) world.kept) marked (process-on world.system world.script (state_of world) world.kept w.stands c i info old new verb here is on) refl refl
      (λ u low out. w.asking u low out) are
