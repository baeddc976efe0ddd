use Rattle.std.proofs.Common.{None, refl, ap}
use Rattle.pw_data.specs.Names.{is_taken}
use Rattle.pw_data.proofs.Named.{HasNamesOf-more, named-taken, named-more}
use Rattle.pw_data.proofs.names.put_name_of.Goals as goal

pub returns-in-Some : goal.returns-in-Some
returns-in-Some c = record {
  taken = λ entries has. named-taken c.args.text.now c.args.entry c.in-Some.name.now c.args.names.now c.put_name.new.names c.in-Some.ensures c.put_name.result entries c.put_name.ensures.taken has;
  names = named-more c.args.text.now c.args.entry c.in-Some.name.now c.args.names.now c.put_name.new.names c.in-Some.ensures c.put_name.result c.put_name.ensures.names;
}

pub returns-in-None : goal.returns-in-None
returns-in-None c = record {
  taken = λ entries has. ap (is_taken c.args.text.now entries) c.in-None.ensures;
  names = λ entries has. HasNamesOf-more c.args.text.now entries c.args.entry None c.args.names.now c.args.names.now c.in-None.ensures (λ word. refl) has;
}
