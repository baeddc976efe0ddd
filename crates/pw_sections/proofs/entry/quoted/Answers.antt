use Rattle.std.proofs.Common.{sym, ap, ◌∙◌}
use Rattle.std.specs.Str.{bytes_eq}
use Rattle.pw_sections.proofs.Spans.{value_more, value_whole, value_none}
use Rattle.pw_sections.proofs.entry.quoted.Goals as goal

pub loop-byte-preserved : goal.loop-byte-preserved
loop-byte-preserved c =
    value_more c.loop-byte.value c.push.new.self c.loop-byte.rest.now c.in-Some.behind.now c.args.text.now c.in-Some.byte c.in_ok-push.ensures.ok (sym c.in-Some.ensures.value) c.loop-byte.invariant

pub returns-then-eq : goal.returns-then-eq
returns-then-eq c =
    value_whole c.loop-byte.value c.loop-byte.rest.now c.args.text.now c.in_default.ensures.value (sym (c.if-eq.ensures ∙ ap (bytes_eq c.loop-byte.rest.now) c.as_slice.ensures)) c.loop-byte.invariant

pub returns-else-eq : goal.returns-else-eq
returns-else-eq c =
    value_none c.loop-byte.value c.loop-byte.rest.now c.args.text.now c.in_default.ensures.value (sym (c.if-eq.ensures ∙ ap (bytes_eq c.loop-byte.rest.now) c.as_slice.ensures)) c.loop-byte.invariant
