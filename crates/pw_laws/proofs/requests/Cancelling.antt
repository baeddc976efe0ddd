-- The requests of several terminals are cancelled, those of one terminal after those of another.
use Rattle.std.proofs.Common.{◌≡◌, ℕ, ◌==◌, ◌||◌, Bool, true, false, not, cond, List, [], ◌∷◌, filter, Option, Some, None, refl, ap, ◌∙◌}
use Rattle.std.specs.Prelude.{IfSome}
use Rattle.std.specs.List.{AllByRecursion, list_any}
use Rattle.std.proofs.Math.Path.{fun_ext}
use Rattle.std.proofs.lemmas.Cmp.{nat_eq_equiv}
use Rattle.pw_class.specs.declared.request.Request.{Request}
use Rattle.pw_paired.specs.State.{Class, Job}
use Rattle.pw_paired.specs.Units.{freed_of, only, without_requests}

-- a class of equal parts
same-parts : (waiting other : List Request) (busy another : ℕ → Option Job) → waiting ≡ other → busy ≡ another
    → ◌≡◌ {A = Class} (record { waiting = waiting; busy = busy }) (record { waiting = other; busy = another })
same-parts waiting other busy another first second =
    ap (λ (w : List Request). record { waiting = w; busy = busy }) first ∙ ap (λ (b : ℕ → Option Job). record { waiting = other; busy = b }) second

-- ---- first for these terminals, and then for those

module _ (these those : ℕ → Bool) where
  waiting-both : (requests : List Request)
      → filter (λ request. not (those request.terminal)) (filter (λ request. not (these request.terminal)) requests) ≡ filter (λ request. not (these request.terminal || those request.terminal)) requests
  waiting-both [] = refl
  waiting-both (request ∷ requests) = by-test request requests (these request.terminal) (waiting-both requests)
    where
      by-test : (request : Request) (requests : List Request) (b : Bool)
          → filter (λ r. not (those r.terminal)) (filter (λ r. not (these r.terminal)) requests) ≡ filter (λ r. not (these r.terminal || those r.terminal)) requests
          → filter (λ r. not (those r.terminal)) (cond (not b) (request ∷ filter (λ r. not (these r.terminal)) requests) (filter (λ r. not (these r.terminal)) requests))
          ≡ cond (not (b || those request.terminal)) (request ∷ filter (λ r. not (these r.terminal || those r.terminal)) requests) (filter (λ r. not (these r.terminal || those r.terminal)) requests)
      by-test request requests true rest = rest
      by-test request requests false rest = ap (λ (rs : List Request). cond (not (those request.terminal)) (request ∷ rs) rs) rest

  freed-both : (job : Option Job) → freed_of those (freed_of these job) ≡ freed_of (λ t. these t || those t) job
  freed-both None = refl
  freed-both (Some job) = by-test job (these job.request.terminal)
    where
      by-test : (job : Job) (b : Bool) → freed_of those (cond b None (Some job)) ≡ cond (b || those job.request.terminal) None (Some job)
      by-test job true = refl
      by-test job false = refl

  pub cancelled-both : (class : Class) → without_requests those (without_requests these class) ≡ without_requests (λ t. these t || those t) class
  cancelled-both class = same-parts _ _ _ _ (waiting-both class.waiting) (fun_ext (λ i. freed-both (class.busy i)))

  -- where these and those are the same of the class's requests, the same are cancelled
  waiting-same : (requests : List Request) → AllByRecursion (λ request. these request.terminal ≡ those request.terminal) requests
      → filter (λ request. not (these request.terminal)) requests ≡ filter (λ request. not (those request.terminal)) requests
  waiting-same [] all = refl
  waiting-same (request ∷ requests) all =
      ap (λ b. cond (not b) (request ∷ filter (λ r. not (these r.terminal)) requests) (filter (λ r. not (these r.terminal)) requests)) all.0
      ∙ ap (λ (rs : List Request). cond (not (those request.terminal)) (request ∷ rs) rs) (waiting-same requests all.1)

  freed-same : (job : Option Job) → IfSome job (λ own. these own.request.terminal ≡ those own.request.terminal) → freed_of these job ≡ freed_of those job
  freed-same None is = refl
  freed-same (Some job) is = ap (λ b. cond b None (Some job)) is

  pub cancelled-same : (class : Class) → AllByRecursion (λ request. these request.terminal ≡ those request.terminal) class.waiting
      → ((i : ℕ) → IfSome (class.busy i) (λ own. these own.request.terminal ≡ those own.request.terminal))
      → without_requests these class ≡ without_requests those class
  cancelled-same class waiting busy = same-parts _ _ _ _ (waiting-same class.waiting waiting) (fun_ext (λ i. freed-same (class.busy i) (busy i)))

-- ---- for the terminals of a list

-- for none
waiting-all : (requests : List Request) → filter (λ request. not false) requests ≡ requests
waiting-all [] = refl
waiting-all (request ∷ requests) = ap (λ rs. request ∷ rs) (waiting-all requests)

freed-none : (job : Option Job) → freed_of (λ t. false) job ≡ job
freed-none None = refl
freed-none (Some job) = refl

pub cancelled-none : (class : Class) → without_requests (λ t. false) class ≡ class
cancelled-none class = same-parts _ _ _ _ (waiting-all class.waiting) (fun_ext (λ i. freed-none (class.busy i)))

-- for one more
pub cancelled-more : (t : ℕ) (terminals : List ℕ) (class : Class)
    → without_requests (λ j. list_any (λ one. one == j) terminals) (without_requests (only t) class) ≡ without_requests (λ j. list_any (λ one. one == j) (t ∷ terminals)) class
cancelled-more t terminals class =
    cancelled-both (only t) (λ j. list_any (λ one. one == j) terminals) class
    ∙ ap (λ (whose : ℕ → Bool). without_requests whose class) (fun_ext (λ j. ap (λ b. b || list_any (λ one. one == j) terminals) (nat_eq_equiv.symm j t)))
