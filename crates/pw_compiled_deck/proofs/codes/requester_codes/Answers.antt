use Rattle.std.proofs.Common.{◌≡◌, ◌+◌, List, [], ◌∷◌, All, length, sym, ap, ◌∙◌, subst}
use Rattle.std.proofs.lemmas.List.Elements.{All-nil, All-cons, All-append}
use Rattle.pw_code.specs.declared.code.Code.{Code}
use Rattle.pw_code.specs.declared.field.ScreenTable.{ScreenTable}
use Rattle.pw_compiled_deck.specs.Short.{IsShort}
use Rattle.pw_compiled_deck.proofs.Coding.{codes-further, screens-further}
use Rattle.pw_compiled_deck.proofs.codes.requester_codes.Goals as goal

pub loop-requester-preserved : goal.loop-requester-preserved
loop-requester-preserved c =
    let code = c.in_ok-compile.field-0 in
    let at = c.loop-requester in
    let after : c.in_ok-first.first ≡ at.first + length c.requester-item.result.screens =
    c.in_ok-first.ensures.next ∙ ap (λ (s : List ScreenTable). at.first + length s) c.as_slice.ensures in
    record {
      codes = codes-further c.args.links.now c.args.requesters.now at.codes c.push.new.self code at.first c.in_ok-first.first at.requester-index c.requester-item.result _ c.loop-requester-test.true
          c.requester-item.is c.in_ok-push.ensures.ok c.in_ok-compile.ensures.code after at.invariant.codes;
      short = subst (All IsShort) (sym c.in_ok-push.ensures.ok)
          (All-append IsShort at.codes (code ∷ []) at.invariant.short (All-cons IsShort code [] c.in_ok-compile.ensures.short (All-nil IsShort)));
      screens = screens-further c.args.requesters.now at.first c.in_ok-first.first at.requester-index c.requester-item.result c.loop-requester-test.true c.requester-item.is after at.invariant.screens;
      fits = c.in_ok-first.ensures.fits;
    }
