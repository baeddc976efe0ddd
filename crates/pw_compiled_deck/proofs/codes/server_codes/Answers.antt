use Rattle.std.proofs.Common.{[], ◌∷◌, All, sym, subst}
use Rattle.std.proofs.lemmas.List.Elements.{All-nil, All-cons, All-append}
use Rattle.pw_compiled_deck.specs.Short.{IsShort}
use Rattle.pw_compiled_deck.proofs.Coding.{servers-further}
use Rattle.pw_compiled_deck.proofs.codes.server_codes.Goals as goal

pub loop-server-preserved : goal.loop-server-preserved
loop-server-preserved c =
    let code = c.in_ok-compile_server.field-0 in
    let at = c.loop-server in
    record {
      codes = servers-further c.args.links.now c.args.servers.now at.codes c.push.new.self code at.server-index c.server-item.result _ c.loop-server-test.true c.server-item.is c.in_ok-push.ensures.ok
          c.in_ok-compile_server.ensures.code at.invariant.codes;
      short = subst (All IsShort) (sym c.in_ok-push.ensures.ok)
          (All-append IsShort at.codes (code ∷ []) at.invariant.short (All-cons IsShort code [] c.in_ok-compile_server.ensures.short (All-nil IsShort)));
    }
