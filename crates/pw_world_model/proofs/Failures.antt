-- The step of a failure line that is due.
use Rattle.std.proofs.Common.{◌≡◌, ℕ, zero, suc, Some, Bool, false, inl, inr, refl, sym, ap, subst, ◌∙◌}
use Rattle.std.proofs.lemmas.Option.{get_or_from_slice_get, slice_get_within}
use Rattle.pw_event.specs.Due.{owner_of}
use Rattle.pw_event.specs.declared.event.Event.{Event}
use Rattle.pw_event.specs.declared.event.Event.TheVariants.{Show, Key, CheckStart, CheckEnd, CheckCopy, Applied, Begin, Send, Take, File, Reply, Again, Commit, Back, Restart, FailTcp, FailServer, Takeover, Raise, End}
use Rattle.pw_event.specs.declared.script.FailLine.{FailLine}
use Rattle.pw_event.specs.declared.script.FailLine.TheVariants as line
use Rattle.pw_event.specs.declared.script.Owner.TheVariants as owner
use Rattle.pw_world_state.specs.May.{IsLineThere, IsThere}
use Rattle.pw_world_model.specs.Dues.{due_in}
use Rattle.pw_world_model.specs.Enabled.{IsEnabled}
use Rattle.pw_world_model.specs.Failures.{FailsBy}
use Rattle.pw_world_model.specs.Seen.{Seen, finished, sys_of}
use Rattle.pw_world_model.specs.Worlds.{Books, IsWorld}
use Rattle.pw_world_model.proofs.Steps.{due-same, there}
use Rattle.pw_paired.specs.Failure.{fail_line}
use Rattle.pw_paired.specs.Step.{line_wanted}
use Rattle.pw_actor_queue.specs.declared.actor.Actor.{Actor}
use Rattle.pw_actor_queue.specs.declared.actor.Actor.TheVariants.{Class, Pair}

module _ (world : Seen) (books : Books) (w : IsWorld world books) where
  -- a line names what is there
  line-there : (k : ℕ) (one : FailLine) → fail_line world.script k ≡ Some one → IsLineThere world.system one
  line-there zero one is = absurd (cc is)
  line-there (suc k) one is = subst (IsLineThere world.system) (get_or_from_slice_get world.script k one one is) (w.lines k one (slice_get_within world.script k one is))

  pub tcp-fails : (p k after : ℕ) (primary : Bool) → finished world ≡ false → due_in books.due (owner.Tcp p) ≡ Some k → fail_line world.script k ≡ Some (line.Tcp p primary after) → IsEnabled world (Pair p) (FailTcp p primary k)
  tcp-fails p k after primary unfinished due names =
      let low : IsThere world.system (FailTcp p primary k) = line-there k (line.Tcp p primary after) names in
      record {
        legal = record { unfinished = unfinished; due = sym (due-same world books w (FailTcp p primary k) low) ∙ due; fits = record { after = after; names = names } };
        at_verb = tt;
        own = refl;
      }

  pub server-fails : (c i k after : ℕ) → finished world ≡ false → due_in books.due (owner.Class c) ≡ Some k → fail_line world.script k ≡ Some (line.Server c i after) → IsEnabled world (Class c) (FailServer c i k)
  server-fails c i k after unfinished due names =
      let low : IsThere world.system (FailServer c i k) = line-there k (line.Server c i after) names in
      record {
        legal = record { unfinished = unfinished; due = sym (due-same world books w (FailServer c i k) low) ∙ due; fits = record { after = after; names = names } };
        at_verb = tt;
        own = refl;
      }

  by-entry : (actor : Actor) (entry : Event) (k : ℕ) → IsEnabled world actor entry → line_wanted entry ≡ Some k → FailsBy world k actor entry
  by-entry actor (FailTcp p primary l) k e wanted =
      let same : l ≡ k = cc wanted in
      let fits = e.legal.fits in
      inl (record {
        p = p;
        primary = primary;
        after = fits.after;
        names = subst (λ n. fail_line world.script n ≡ Some (line.Tcp p primary fits.after)) same fits.names;
        entry_is = ap (FailTcp p primary) same;
        actor_is = sym e.own;
      })
  by-entry actor (FailServer c i l) k e wanted =
      let same : l ≡ k = cc wanted in
      let fits = e.legal.fits in
      inr (record {
        class = c;
        process = i;
        after = fits.after;
        names = subst (λ n. fail_line world.script n ≡ Some (line.Server c i fits.after)) same fits.names;
        entry_is = ap (FailServer c i) same;
        actor_is = sym e.own;
      })
  by-entry actor (Show t phase attempt n) k e wanted = absurd (cc wanted)
  by-entry actor (Key t n) k e wanted = absurd (cc wanted)
  by-entry actor (CheckStart t) k e wanted = absurd (cc wanted)
  by-entry actor (CheckEnd t) k e wanted = absurd (cc wanted)
  by-entry actor (CheckCopy t) k e wanted = absurd (cc wanted)
  by-entry actor (Applied t) k e wanted = absurd (cc wanted)
  by-entry actor (Begin t n r) k e wanted = absurd (cc wanted)
  by-entry actor (Send t n c) k e wanted = absurd (cc wanted)
  by-entry actor (Take c i t) k e wanted = absurd (cc wanted)
  by-entry actor (File c i op mode f status) k e wanted = absurd (cc wanted)
  by-entry actor (Reply c i t fault) k e wanted = absurd (cc wanted)
  by-entry actor (Again t n) k e wanted = absurd (cc wanted)
  by-entry actor (Commit t n) k e wanted = absurd (cc wanted)
  by-entry actor (Back t n) k e wanted = absurd (cc wanted)
  by-entry actor (Restart t n cause) k e wanted = absurd (cc wanted)
  by-entry actor (Takeover p) k e wanted = absurd (cc wanted)
  by-entry actor (Raise p) k e wanted = absurd (cc wanted)
  by-entry actor (End t ending) k e wanted = absurd (cc wanted)

  pub only-fails : (actor : Actor) (entry : Event) (k : ℕ) → IsEnabled world actor entry → due_in books.due (owner_of (sys_of world).pair_of entry) ≡ Some k → FailsBy world k actor entry
  only-fails actor entry k e due = by-entry actor entry k e (sym e.legal.due ∙ (sym (due-same world books w entry (there world books w entry e.legal)) ∙ due))
