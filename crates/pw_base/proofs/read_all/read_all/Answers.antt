use Rattle.std.proofs.Common.{◌≡◌, ◌++◌, ◌∷◌, [], ◌∙◌, take, refl, arith, ℕ, List, Option, Result, Ok, Err}
use Rattle.std.specs.Prelude.{IsErrAnd}
use Rattle.std.proofs.KnownBytes.{Consumes-trans, Consumes-kept}
use Rattle.pw_base.specs.declared.read_all.ReadFault.{ReadFault}
use Rattle.pw_base.specs.declared.read_all.ReadFault.TheVariants.{Fault, TooLong, Memory}
use Rattle.pw_base.specs.declared.source.Got.{Got}
use Rattle.pw_base.specs.Reading.{HasRead, Stops}
use Rattle.pw_base.proofs.Leads.{Lead-then}
use Rattle.pw_base.proofs.read_all.read_all.Goals as goal

-- where memory ran out nothing more is asked
Comes-memory : (outcome : Result (List ℕ) ReadFault) (taken : List ℕ) (now : Option (List ℕ)) → IsErrAnd outcome (λ fault. fault ≡ Memory) → HasRead outcome taken now
Comes-memory (Ok bytes) taken now is = absurd is
Comes-memory (Err Fault) taken now is = absurd cc
Comes-memory (Err TooLong) taken now is = absurd cc
Comes-memory (Err Memory) taken now is = tt

pub returns-in_err-extend-in-Got-clause-reads : goal.returns-in_err-extend-in-Got-clause-reads
returns-in_err-extend-in-Got-clause-reads g c =
    (c.loop-piece.bytes ++ take c.in-Got.count c.read.new.into, Consumes-trans _ _ _ _ _ c.loop-piece.invariant.taken c.in-Got.ensures.reads.2, Comes-memory _ _ _ c.from_residual.ensures.1)

pub returns-in-End-clause-reads : goal.returns-in-End-clause-reads
returns-in-End-clause-reads g c =
    let read = c.in-End.ensures.reads in
    (c.loop-piece.bytes, Consumes-kept _ _ _ _ c.loop-piece.invariant.taken read.0, (refl, omega arith, read.1))

-- where memory ran out nothing more is read
Stops-memory : {S : Type 0} (step : S → Got → S → Type 0) (outcome : Result (List ℕ) ReadFault) (last : S) → IsErrAnd outcome (λ fault. fault ≡ Memory) → Stops step outcome last last
Stops-memory step (Ok bytes) last is = absurd is
Stops-memory step (Err Fault) last is = absurd cc
Stops-memory step (Err TooLong) last is = absurd cc
Stops-memory step (Err Memory) last is = refl

pub loop-piece-preserved : goal.loop-piece-preserved
loop-piece-preserved g c =
    let so_far = c.loop-piece.invariant in
    record {
      taken = rw c.in_ok-extend-in-Got.ensures.ok (Consumes-trans _ _ _ _ _ so_far.taken c.in-Got.ensures.reads.2);
      count = c.in-Got.ensures.cause ∙ so_far.count;
      lead = (
        so_far.lead.0 ++ (record { count = c.in-Got.count; then = c.read.new.self }) ∷ [],
        Lead-then g.S.Source.step c.args.source.now c.loop-piece.source c.read.new.self so_far.lead.0 c.in-Got.count so_far.lead.1 c.in-Got.ensures.step,
      );
    }

pub returns-in_err-extend-in-Got-clause-once : goal.returns-in_err-extend-in-Got-clause-once
returns-in_err-extend-in-Got-clause-once g c =
    let so_far = c.loop-piece.invariant.lead in
    record {
      gave = so_far.0 ++ (record { count = c.in-Got.count; then = c.read.new.self }) ∷ [];
      last = c.read.new.self;
      lead = Lead-then g.S.Source.step c.args.source.now c.loop-piece.source c.read.new.self so_far.0 c.in-Got.count so_far.1 c.in-Got.ensures.step;
      stop = Stops-memory g.S.Source.step c.from_residual.result c.read.new.self c.from_residual.ensures.1;
    }
