-- What a process works on, and who waits for a class.
use Rattle.std.proofs.Common.{◌≡◌, ◌∙◌, ℕ, ◌+◌, ◌-◌, ◌<◌, ◌≤◌, ⊎_elim, Option, Some, None, ap, arith, length, refl, sym}
use Rattle.std.proofs.lemmas.Bool.{cases_eq, cases_lt, eq-eqb, ne_eqb}
use Rattle.std.specs.Option.{option_map}
use Rattle.std.specs.Prelude.{IsSome, is_some, slice_index_or, if◌then◌else◌}
use Rattle.pw_class.specs.Queue.{Queue, at_process}
use Rattle.pw_class.specs.declared.request.Request.{Request}
use Rattle.pw_world_state.proofs.Agreeing.{there-is}
use Rattle.pw_world_model.proofs.OfUnits.{index-requests, past-requests}
use Rattle.pw_world_model.specs.Seen.{Seen, state_of}
use Rattle.pw_world_model.specs.Worlds.{Books, IsWorld}
use Rattle.pw_paired.specs.Queues.{queue_of, requests_from}
use Rattle.pw_paired.specs.State.{Class, Job}
use Rattle.pw_paired.specs.Units.{request_in}

module _ (n i : ℕ) (class : Class) (within : IsSome (class.busy i) → (1 ≤ i) × (i ≤ n)) where
  -- a process that is not there has no job
  none-there : ((1 ≤ i) × (i ≤ n) → ⊥) → request_in (class.busy i) ≡ None
  none-there out = by (class.busy i) refl
    where
      by : (job : Option Job) → class.busy i ≡ job → request_in job ≡ None
      by None is = refl
      by (Some job) is = absurd (out (within (ap is_some is)))

  at-place : (k : ℕ) → i ≡ k + 1 → slice_index_or (requests_from class.busy 1 n) k None ≡ request_in (class.busy i)
  at-place k is =
      ⊎_elim
      (λ low. let same : 1 + k ≡ i = omega (arith, is) in index-requests class.busy 1 n k low ∙ ap (λ j. request_in (class.busy j)) same)
      (λ past. past-requests class.busy 1 n k past ∙ sym (none-there (λ at. let high = at.1 in omega (arith, high, past, is))))
      (cases_lt k n)

  pub at-work : at_process (queue_of n class) i ≡ request_in (class.busy i)
  at-work =
      ⊎_elim
      (λ none.
      ap (λ b. if b then None else slice_index_or (requests_from class.busy 1 n) (i - 1) None) (eq-eqb i 0 none)
      ∙ sym (none-there (λ at. let low = at.0 in omega (arith, low, none))))
      (λ some.
      ap (λ b. if b then None else slice_index_or (requests_from class.busy 1 n) (i - 1) None) (ne_eqb i 0 some)
      ∙ at-place (i - 1) (omega (arith, some)))
      (cases_eq i 0)

terminal-of : (job : Option Job) → option_map (λ (request : Request). request.terminal) (request_in job) ≡ option_map (λ (j : Job). j.request.terminal) job
terminal-of None = refl
terminal-of (Some job) = refl

module _ (world : Seen) (books : Books) (w : IsWorld world books) (c : ℕ) (low : c < length world.system.classes) where
  -- the terminal for which a process works
  pub works-for : (i : ℕ) → option_map (λ (request : Request). request.terminal) (at_process (world.kept.queues c) i)
      ≡ option_map (λ (job : Job). job.request.terminal) (((state_of world).classes c).busy i)
  works-for i =
      let found = there-is world.system.classes c low in
      let stands = w.stands.classes c found.0 found.1 in
      ap (λ (q : Queue). option_map (λ (request : Request). request.terminal) (at_process q i)) stands.queue_is
      ∙ (ap (option_map (λ (request : Request). request.terminal)) (at-work found.0.processes i ((state_of world).classes c) (stands.within i))
      ∙ terminal-of (((state_of world).classes c).busy i))

  -- the requests that wait
  pub wait-for : length (world.kept.queues c).waiting ≡ length ((state_of world).classes c).waiting
  wait-for =
      let found = there-is world.system.classes c low in
      ap (λ (q : Queue). length q.waiting) (w.stands.classes c found.0 found.1).queue_is
