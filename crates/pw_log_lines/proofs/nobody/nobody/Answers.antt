use Rattle.std.proofs.Common.{List, map, sym, subst}
use Rattle.pw_code.proofs.NameLemmas.{AreNames-none}
use Rattle.pw_code.specs.Names.{AreNames}
use Rattle.pw_code.specs.declared.file.FileInfo.{FileInfo}
use Rattle.pw_code.specs.declared.system.ClassInfo.{ClassInfo}
use Rattle.pw_code.specs.declared.system.TermInfo.{TermInfo}
use Rattle.pw_log_lines.proofs.nobody.nobody.Goals as goal

pub returns-clause-names : goal.returns-clause-names
returns-clause-names c = record {
  tcps = subst AreNames (sym c.new-6.ensures) AreNames-none;
  terminals = subst (λ (terminals : List TermInfo). AreNames (map (λ terminal. terminal.name) terminals)) (sym c.new-7.ensures) AreNames-none;
  classes = subst (λ (classes : List ClassInfo). AreNames (map (λ class. class.name) classes)) (sym c.new-4.ensures) AreNames-none;
  files = subst (λ (files : List FileInfo). AreNames (map (λ file. file.name) files)) (sym c.new-5.ensures) AreNames-none;
}
