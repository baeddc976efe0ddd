use Rattle.pw_forms.proofs.Steps.{named-ok, ended-ok}
use Rattle.pw_forms.proofs.build.ParagraphBuilder.put.Goals as goal

pub returns-in-Name-clause-built : goal.returns-in-Name-clause-built
returns-in-Name-clause-built c =
    named-ok c.turn_to.result c.turn_to.new.self c.args.self.now c.args.next.line c.in-Name.name c.args.next.piece c.in-Name.is
    c.turn_to.ensures.begun c.turn_to.ensures.open c.turn_to.ensures.current c.turn_to.ensures.paragraphs

pub returns-in-Period-clause-built : goal.returns-in-Period-clause-built
returns-in-Period-clause-built c =
    ended-ok c.close_all.result c.args.self.now.paragraphs c.args.self.now.begun c.close_all.new.self c.args.self.now.block c.args.next.line c.args.next.piece c.in-Period.is
    c.close_all.ensures.open c.close_all.ensures.stands
