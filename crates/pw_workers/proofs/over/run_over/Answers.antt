use Rattle.pw_workers.proofs.over.run_over.Goals as goal

pub new-requires-clause-disc : goal.new-requires-clause-disc
new-requires-clause-disc g c κs within = rw (c.into_parts-system.ensures.system, c.into_parts-system.ensures.script) c.requires
