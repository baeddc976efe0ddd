use Rattle.std.proofs.Common.{◌∙◌, ap, map}
use Rattle.pw_world_store.specs.Starting.{no_jobs_for}
use Rattle.pw_world_store.proofs.Beginning.{first-keep-by, first-kept-by}
use Rattle.pw_world_store.proofs.keep.Keep.new.Goals as goal

pub invariant_of-result : goal.invariant_of-result
invariant_of-result g c =
    first-keep-by c.args.system c.in_ok-seats.seats.items (g.D.Disc.told c.args.disc) c.in_ok-classes.classes c.in_ok-jobs.jobs.items c.in_ok-pairs.pairs.items
    c.requires.valid c.requires.idle c.in_ok-seats.ensures c.in_ok-classes.ensures (c.in_ok-jobs.ensures ∙ ap (map no_jobs_for) c.as_slice.ensures) c.in_ok-pairs.ensures

pub returns-clause-kept : goal.returns-clause-kept
returns-clause-kept g c =
    first-kept-by c.args.system c.in_ok-seats.seats.items (g.D.Disc.told c.args.disc) c.in_ok-classes.classes c.in_ok-jobs.jobs.items c.in_ok-pairs.pairs.items
    c.requires.valid c.in_ok-seats.ensures c.in_ok-classes.ensures (c.in_ok-jobs.ensures ∙ ap (map no_jobs_for) c.as_slice.ensures) c.in_ok-pairs.ensures
