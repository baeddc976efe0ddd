use Rattle.pw_workers.proofs.workers.run_workers.Given as goal

abbrev pub ghosts-run_named : goal.ghosts-run_named
ghosts-run_named g a = record {
  system = a.world.keep.system;
  script = a.world.script;
  log = a.world.ledger.log;
  limit = a.world.limit;
  faults = (g.D.Disc.told a.world.first).faults;
}
