-- No unit is open on a terminal that the system does not have.
use Rattle.std.proofs.Common.{◌≡◌, ap, arith, length, sym}
use Rattle.pw_code.specs.declared.system.System.{System}
use Rattle.pw_world_store.specs.Keeps.{kept_in}
use Rattle.pw_entry_tests.proofs.Opened.{none-above}
use Rattle.pw_entry_tests.proofs.older.open_unit.Goals as goal

pub returns-else-terminal-len : goal.returns-else-terminal-len
returns-else-terminal-len g c =
    let same : length c.system.result.now.terminals ≡ length c.args.keep.now.system.terminals =
    ap (λ (s : System). length s.terminals) c.system.ensures in
    sym (none-above c.args.keep.now.system (kept_in g.D.Disc.told c.args.keep.now) c.requires.known
    c.args.terminal (omega arith))
