use Rattle.pw_code_meaning.specs.OfSystem.{behaviour}
use Rattle.pw_records.proofs.Paths.{behaves-over}
use Rattle.pw_records.proofs.Served.{behaviour-same}
use Rattle.pw_records.proofs.Valids.{valid-alike, valid-with}
use Rattle.pw_records.proofs.laws.record_laws.Goals as goal

pub returns : goal.returns
returns c = record {
  alike = λ system files alike valid are. valid-alike system files alike valid are;
  valid = λ system records valid are. valid-with system records valid are;
  same = λ script system records are. behaviour-same system records are script;
  behaves = λ script system records are behaves. behaves-over (behaviour script system) records behaves are.files;
}
