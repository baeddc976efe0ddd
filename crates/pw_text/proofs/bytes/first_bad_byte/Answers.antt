use Rattle.std.proofs.Common.{None, sym, ◌∙◌, arith}
use Rattle.pw_base.specs.First.{least}
use Rattle.pw_text.specs.Bytes.{bad_bytes}
use Rattle.pw_text.proofs.Runs.{bad_bytes_further, bad_bytes_last}
use Rattle.pw_text.proofs.bytes.first_bad_byte.Goals as goal

pub loop-byte-preserved : goal.loop-byte-preserved
loop-byte-preserved c = record {
  line = omega (arith, c.line_behind-line.ensures.bound, c.in-Some.ensures.cases.1);
  so_far = bad_bytes_further c.loop-byte.rest.now c.in-Some.behind.now c.in-Some.byte.now c.loop-byte.line c.loop-byte.known c.noted-known.result (least None (bad_bytes c.args.first_line c.args.text.now)) c.line_behind-line.result c.is_bad.result
      c.in-Some.ensures.cases.0 c.is_bad.ensures c.noted-known.ensures c.line_behind-line.ensures.value c.loop-byte.invariant.so_far;
}

pub returns : goal.returns
returns c = sym (bad_bytes_last c.loop-byte.rest.now c.loop-byte.line c.loop-byte.known c.in_default.ensures.cases) ∙ c.loop-byte.invariant.so_far
