use Rattle.std.proofs.Common.{◌≢◌, [], refl}
use Rattle.std.proofs.lemmas.List.Elements.{All-nil}
use Rattle.pw_files.proofs.RecordLemmas.{IsFile-empty}
use Rattle.pw_blocks.proofs.block_file.BlockFile.new.Goals as goal

pub invariant_of-result : goal.invariant_of-result
invariant_of-result c = rw (c.new-2.ensures.items, c.new.ensures.items) record {
  file = IsFile-empty c.args.key c.requires;
  none_empty = All-nil (λ block. block ≢ []);
  first_keys = refl;
}
