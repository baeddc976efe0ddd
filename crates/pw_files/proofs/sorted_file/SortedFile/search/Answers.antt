use Rattle.std.proofs.Common.{rules}
use Rattle.std.proofs.lemmas.Fn.{always_returns_same}
use Rattle.pw_files.specs.Records.{compared}
use Rattle.pw_files.proofs.Places.{place_from}
use Rattle.pw_files.proofs.sorted_file.SortedFile.search.Goals as goal

pub returns-clause-place : goal.returns-clause-place
returns-clause-place c =
    let n = c.self.inside.key in
    let key = c.args.key.now in
    let said = c.binary_search_by.ensures.position (λ content. compared n key content) (always_returns_same _ _ _ (λ a r f k. search rules)) in
    let range = c.binary_search_by.ensures.bound in
    rw (← c.self.view_is) (place_from n c.self.inside.records.items c.self.invariant key c.binary_search_by.result (rw c.deref.ensures.value at range) (rw c.deref.ensures.value at said))
