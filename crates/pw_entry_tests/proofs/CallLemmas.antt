-- The operation at which a server stands.
use Rattle.std.proofs.Common.{◌≡◌, ℕ, Bool, false, Option, Some, None, refl, ap, sym, subst, ◌∙◌}
use Rattle.pw_class.specs.Queue.{at_process}
use Rattle.pw_class.specs.declared.request.Request.{Request}
use Rattle.pw_code.specs.declared.context.Context.{Context}
use Rattle.pw_code.specs.declared.file.FileCall.{FileCall}
use Rattle.pw_code.specs.declared.system.System.{System}
use Rattle.pw_code.specs.declared.verb.Verb.{Verb}
use Rattle.pw_code.specs.declared.verb.Verb.TheVariants as verb
use Rattle.pw_world_state.specs.Asked.{verb_in}
use Rattle.pw_world_state.specs.ClassTests.{works_where}
use Rattle.pw_world_state.specs.Kept.{Kept}
use Rattle.pw_world_state.specs.Read.{IsServerRead}
use Rattle.pw_laws.specs.legal.Values.{some_with}
use Rattle.pw_entry_tests.specs.Calls.{AsksCall, IsAtVerb, IsVerbAt, call_in}

module _ (system : System) (kept : Kept) (c i : ℕ) where
  -- a server stands at one verb
  pub one-verb : (v w : Verb) → IsAtVerb system kept c i v → IsAtVerb system kept c i w → v ≡ w
  one-verb v w h k =
      let same : h.context ≡ k.context = cc (sym h.job ∙ k.job) in
      sym h.asks ∙ (ap (verb_in system) same ∙ k.asks)

  -- where the verb is an operation, the server stands at that
  pub some-call : (v : Option Verb) (call : FileCall) → IsVerbAt system kept c i v → call_in v ≡ Some call → IsAtVerb system kept c i (verb.File call)
  some-call (Some (verb.File own)) call h e = let same : own ≡ call = cc e in subst (λ x. IsAtVerb system kept c i (verb.File x)) same h
  some-call None call h e = absurd (cc e)
  some-call (Some verb.Show) call h e = absurd (cc e)
  some-call (Some (verb.Accept screen)) call h e = absurd (cc e)
  some-call (Some verb.Begin) call h e = absurd (cc e)
  some-call (Some (verb.Send class message)) call h e = absurd (cc e)
  some-call (Some verb.End) call h e = absurd (cc e)
  some-call (Some verb.Drop) call h e = absurd (cc e)
  some-call (Some verb.Redo) call h e = absurd (cc e)
  some-call (Some verb.Stop) call h e = absurd (cc e)
  some-call (Some (verb.Fault code)) call h e = absurd (cc e)
  some-call (Some (verb.Reply reply)) call h e = absurd (cc e)

  -- where it is none, the server stands at none
  pub no-call : (v : Option Verb) → IsVerbAt system kept c i v → call_in v ≡ None → (request : Request) (call : FileCall)
      → AsksCall system kept c i request call → ⊥
  no-call None h e request call asks = h (verb.File call) asks.stands
  no-call (Some v) h e request call asks =
      let same : v ≡ verb.File call = one-verb v (verb.File call) h asks.stands in
      cc (subst (λ w. call_in (Some w) ≡ None) same e)

  -- nor does it where the process works on nothing
  pub no-request : at_process (kept.queues c) i ≡ None → (request : Request) (call : FileCall) → AsksCall system kept c i request call → ⊥
  no-request e request call asks = cc (sym e ∙ asks.works)

  -- where it stands at none, and has been read, no test of a server at work passes
  pub works-none : ((v : Verb) → IsAtVerb system kept c i v → ⊥) → IsServerRead kept c i → (test : Request → Context → Bool)
      → works_where kept c i test ≡ false
  works-none none read test = by-parts (at_process (kept.queues c) i) (kept.jobs c i) refl
    where
      by-parts : (r : Option Request) (own : Option Context) → kept.jobs c i ≡ own
          → some_with (λ request. some_with (test request) own) r ≡ false
      by-parts None own e = refl
      by-parts (Some request) None e = refl
      by-parts (Some request) (Some context) e =
          absurd (none (verb_in system context) (record { context = context; job = e; at_verb = read context e; asks = refl }))
