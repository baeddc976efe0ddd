-- Three numbers, one behind the other.
use Rattle.std.proofs.Common.{◌++◌}
use Rattle.std.specs.Int.{to_be_bytes, w32, w64}
use Rattle.std.specs.Option.{option_copied}
use Rattle.pw_entry_tests.proofs.Left.{piece, two}
use Rattle.pw_entry_tests.proofs.images.behind_return.Goals as goal

pub returns : goal.returns
returns c =
    let active = c.args.active.now in
    record {
      is =
          two (to_be_bytes w32 active.resume) (to_be_bytes w32 active.until ++ to_be_bytes w64 active.turns) (option_copied c.args.left) (option_copied c.behind-left.result)
          (option_copied c.behind.result)
          (piece c.to_be_bytes.result (to_be_bytes w32 active.resume) (option_copied c.args.left) (option_copied c.behind-left.result) c.behind-left.ensures c.to_be_bytes.ensures)
          (two (to_be_bytes w32 active.until) (to_be_bytes w64 active.turns) (option_copied c.behind-left.result) (option_copied c.behind-left-2.result)
          (option_copied c.behind.result)
          (piece c.to_be_bytes-2.result (to_be_bytes w32 active.until) (option_copied c.behind-left.result) (option_copied c.behind-left-2.result) c.behind-left-2.ensures c.to_be_bytes-2.ensures)
          (piece c.to_be_bytes-3.result (to_be_bytes w64 active.turns) (option_copied c.behind-left-2.result) (option_copied c.behind.result) c.behind.ensures c.to_be_bytes-3.ensures));
    }
