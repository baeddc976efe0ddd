-- The path of each started terminal is one that its program may have, whatever has become of it.
use Rattle.std.proofs.Common.{◌≡◌, ℕ, ◌<◌, ◌==◌, List, [], ◌∷◌, ◌++◌, Option, Some, None, Bool, true, false, unwrap_or, refl, sym, subst}
use Rattle.std.specs.Prelude.{if◌then◌else◌, slice_get}
use Rattle.std.proofs.lemmas.Option.{slice_get_within}
use Rattle.pw_code.specs.declared.context.Context.{Context}
use Rattle.pw_code.specs.declared.system.TermInfo.{TermInfo}
use Rattle.pw_code.specs.declared.verb.Verb.{Verb}
use Rattle.pw_code.specs.declared.verb.Verb.TheVariants as verb
use Rattle.pw_event.specs.declared.event.Event.{Event}
use Rattle.pw_code_meaning.proofs.Counting.{counts-of}
use Rattle.pw_world_state.specs.Asked.{CountsOf}
use Rattle.pw_world_state.specs.Stands.{StandsForKnown}
use Rattle.pw_world_state.proofs.Readings as readings
use Rattle.pw_world_model.specs.Seen.{Seen, state_of, sys_of}
use Rattle.pw_world_model.specs.Worlds.{Books, IsWorld}
use Rattle.pw_onecopy.specs.Behaviour.{Behaviour}
use Rattle.pw_onecopy.specs.IsBehaviour.{IsBehaviour, IsPath, Suits}
use Rattle.pw_onecopy.specs.Path.{PathAnswer, Begun, Dropped, Ended, Entry, Failed, Replied, Shown}
use Rattle.pw_paired.specs.State.{BackupCopy}
use Rattle.pw_paired.specs.Step.{IsRun, after}
use Rattle.pw_paired.specs.Terminal.{begun_path, path_of}
use Rattle.pw_laws.proofs.Paths.{IsPath-push}
use Rattle.pw_laws.proofs.induction.Moving.{TermAt, holds-of-terms}
use Rattle.pw_laws.proofs.induction.Views as move
use Rattle.pw_laws.proofs.induction.Views.{Moves, View, path_in, verb_in}
use Rattle.pw_laws.proofs.terms.TermOk.{MemoryOk}

module _ (sys : Behaviour) (t : ℕ) (known : t < sys.terminals) (v w : View) (ok : TermAt sys t v) (path : IsPath sys t (path_in v)) where
  at : (x : View) → w ≡ x → IsPath sys t (path_in x) → IsPath sys t (path_in w)
  at x is = subst (λ y. IsPath sys t (path_in y)) (sym is)

  empty : IsPath sys t []
  empty = record { known = known; suits = tt }

  -- an answer to its verb
  push : (a : PathAnswer) (x : Verb) → verb_in sys t v ≡ x → Suits sys t (path_in v) x a → IsPath sys t (path_in v ++ a ∷ [])
  push a x asks suits = IsPath-push sys t (path_in v) a path (subst (λ y. Suits sys t (path_in v) y a) (sym asks) suits)

  begun : (r : ℕ) (x : Verb) → verb_in sys t v ≡ x → IsPath sys t (begun_path r x (path_in v))
  begun r verb.Begin asks = push (Begun r) verb.Begin asks tt
  begun r verb.Show asks = path
  begun r (verb.Accept screen) asks = path
  begun r (verb.Send class message) asks = path
  begun r verb.End asks = path
  begun r verb.Drop asks = path
  begun r verb.Redo asks = path
  begun r verb.Stop asks = path
  begun r (verb.Fault x) asks = path
  begun r (verb.File call) asks = path
  begun r (verb.Reply reply) asks = path

  resumed : (memory : BackupCopy) → MemoryOk sys t v.last.number memory → (b : Bool) (e : Option (List PathAnswer)) → memory.end ≡ e → IsPath sys t (if b then unwrap_or e memory.start else memory.start)
  resumed memory m true None ends = m.start.is_path
  resumed memory m true (Some p) ends = (m.end p ends).0.is_path
  resumed memory m false e ends = m.start.is_path

  pub path-kept : Moves sys t v w → IsPath sys t (path_in w)
  path-kept (move.stays is) = at v is path
  path-kept (move.settles lacks has is) = at _ is path
  path-kept (move.shows able asks is) = at _ is (push Shown verb.Show asks tt)
  path-kept (move.enters able screen k asks next exists is) = at _ is (push (Entry k) (verb.Accept screen) asks (next, exists))
  path-kept (move.sends_start able idle begins new lacking free is) = at _ is path
  path-kept (move.sends_end able a closes lacking free is) = at _ is path
  path-kept (move.sends_copy live raising lacking free is) = at _ is path
  path-kept (move.applies message flies has lacks is) = at _ is path
  path-kept (move.begins able idle begins new holds birth is) = at _ is (begun _ (verb_in sys t v) refl)
  path-kept (move.is_answered waits reply inside is) = at _ is (push (Replied reply) (verb.Send waits.class waits.message) waits.asks tt)
  path-kept (move.is_served waits reply outside is) = at _ is (push (Replied reply) (verb.Send waits.class waits.message) waits.asks tt)
  path-kept (move.is_failed waits x is) = at _ is (push (Failed x) (verb.Send waits.class waits.message) waits.asks tt)
  path-kept (move.is_answered_again able class message asks outside number is) = at _ is (push (Replied _) (verb.Send class message) asks tt)
  path-kept (move.commits able asks holds is) = at _ is (push Ended verb.End asks tt)
  path-kept (move.drops able asks holds is) = at _ is (push Dropped verb.Drop asks tt)
  path-kept (move.restarts unit is_open start runs kind few is) = at _ is (((ok.unit_ok unit is_open).start start runs).0.is_path)
  path-kept (move.goes_down paired is) = at _ is empty
  path-kept (move.is_lost is) = at _ is empty
  path-kept (move.loses_backup has is) = at _ is path
  path-kept (move.loses_server waits k is) = at _ is path
  path-kept (move.is_taken_over p down live held is_held is) = at _ is (resumed held (ok.memory_ok held is_held) (v.last.number == held.unit) held.end refl)
  path-kept (move.is_passed_over down e dead is) = at _ is path
  path-kept (move.is_raised alone calm is) = at _ is path
  path-kept (move.stops e lacks live idle is) = at _ is path
  path-kept (move.leaves e lacks is) = at _ is path

pub paths-are : (sys : Behaviour) → IsBehaviour sys → (log : List Event) → IsRun sys log → (t : ℕ) → t < sys.terminals → IsPath sys t (path_of (after sys log) t)
paths-are sys b log run t known =
    holds-of-terms sys b t known {A = Unit {0}} (λ v w a. tt) tt (λ v a. IsPath sys t (path_in v)) (λ v w term next m a path. path-kept sys t known v w term path m) (record { known = known; suits = tt }) log run

-- the context of a terminal counts what its path counts
pub counts-path : (world : Seen) (books : Books) → IsWorld world books → (t : ℕ) (info : TermInfo) (context : Context) → slice_get world.system.terminals t ≡ Some info → (world.kept.terminals t).context ≡ Some context
    → CountsOf (path_of (state_of world) t) context
counts-path world books w t info context here is =
    let low = slice_get_within world.system.terminals t info here in
    let path = paths-are (sys_of world) w.deck world.log w.run t low in
    counts-of (path_of (state_of world) t) context
    (readings.counts-behind world.system world.script w.valid w.deck world.log w.run t info here (path_of (state_of world) t) path context
    (subst (StandsForKnown world.system info (path_of (state_of world) t)) is (w.stands.terminals t info here).path))
