use Rattle.std.proofs.Common.{◌++◌, length, sym, ap, ◌∙◌}
use Rattle.std.proofs.lemmas.List.{append-nil}
use Rattle.std.proofs.lemmas.List.Elements.{All-same}
use Rattle.nm_mime.specs.Parts.{IsInside, parts_of}
use Rattle.nm_mime.proofs.LawLemmas.{parts_inside}
use Rattle.nm_mime.proofs.tree.parts.Goals as goal

pub returns-clause-inside : goal.returns-clause-inside
returns-clause-inside c =
    let none = rw c.in_default.is at c.in_ok-part.ensures.next in
    let found = c.parts.found in
    let mail = c.args.bytes.now in
    All-same (IsInside (length mail)) found (parts_of mail) (sym (append-nil found) ∙ ap (λ x. found ++ x) (sym none) ∙ c.parts.invariant.all) (parts_inside mail)
