use Rattle.std.proofs.Common.{rules, ◌≡◌, ℕ, List, None, Ok, sym, subst}
use Rattle.pw_group_commit.proofs.Writing.{writes-more}
use Rattle.pw_group_commit.specs.Lines.{LineState, WritesLines, lines_of}
use Rattle.pw_group_commit.proofs.lines.LineFollowerFollower.tell.Goals as goal

pub returns-in-Err-clause-told : goal.returns-in-Err-clause-told
returns-in-Err-clause-told g c = λ told had.
    let own = c.self.inside in
    let sink = g.K.Sink.written own.sink in
    let one : WritesLines (own.fault ≡ None) (lines_of own.names.items told) g.N.LineNaming.start sink =
    subst (λ (s : LineState _). WritesLines (s.fault ≡ None) (lines_of s.names told) g.N.LineNaming.start (g.K.Sink.written s.sink)) (sym c.self.view_is) had in
    let two = subst (λ (names : List (List ℕ)). WritesLines (c.write_lines.result ≡ Ok tt) (lines_of names c.args.units.now) sink (g.K.Sink.written c.write_lines.new.sink))
    c.as_slice.ensures.value c.write_lines.ensures.writes in
    let none : own.fault ≡ None = search rules in
    writes-more (own.fault ≡ None) (c.write_lines.result ≡ Ok tt) _ own.names.items told c.args.units.now g.N.LineNaming.start sink
    (g.K.Sink.written c.write_lines.new.sink) none one two (λ w. absurd (cc w))

pub returns-in_default-clause-told : goal.returns-in_default-clause-told
returns-in_default-clause-told g c = λ told had.
    let own = c.self.inside in
    let sink = g.K.Sink.written own.sink in
    let one : WritesLines (own.fault ≡ None) (lines_of own.names.items told) g.N.LineNaming.start sink =
    subst (λ (s : LineState _). WritesLines (s.fault ≡ None) (lines_of s.names told) g.N.LineNaming.start (g.K.Sink.written s.sink)) (sym c.self.view_is) had in
    let two = subst (λ (names : List (List ℕ)). WritesLines (c.write_lines.result ≡ Ok tt) (lines_of names c.args.units.now) sink (g.K.Sink.written c.write_lines.new.sink))
    c.as_slice.ensures.value c.write_lines.ensures.writes in
    let none : own.fault ≡ None = search rules in
    writes-more (own.fault ≡ None) (c.write_lines.result ≡ Ok tt) _ own.names.items told c.args.units.now g.N.LineNaming.start sink
    (g.K.Sink.written c.write_lines.new.sink) none one two (λ w. c.in_default.is)
