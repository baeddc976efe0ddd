-- alike so far
use Rattle.std.proofs.Common.{◌≡◌, length, take}
use Rattle.pw_records.specs.Records.{AreAlike}
use Rattle.pw_records.proofs.alike.are_alike.Given as goal

abbrev pub invariant-loop-place : goal.invariant-loop-place
invariant-loop-place l = record {
  sizes : length l.files ≡ length l.others;
  front : AreAlike (take l.place l.files) (take l.place l.others);
}
