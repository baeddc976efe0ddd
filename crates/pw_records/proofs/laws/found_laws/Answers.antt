use Rattle.pw_records.proofs.Told.{found-records, told-same}
use Rattle.pw_records.proofs.laws.found_laws.Goals as goal

pub returns : goal.returns
returns c = record {
  found = λ files system bytes units alike is are. found-records files system alike bytes units is are;
  told = λ files system records alike are. told-same files system alike records are;
}
