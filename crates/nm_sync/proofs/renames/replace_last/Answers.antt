use Rattle.std.proofs.Common.{◌≡◌, ◌-◌, List, [], ◌∷◌, ◌++◌, ap, ◌∙◌, arith, length, length-append}
use Rattle.std.specs.Prelude.{slice_set}
use Rattle.nm_maildir.specs.declared.given.Given.{Given}
use Rattle.nm_sync.proofs.RenameLemmas.{last-set}
use Rattle.nm_sync.proofs.renames.replace_last.Goals as goal

pub returns : goal.returns
returns c = λ front last are.
    let at : c.len-at.result - 1 ≡ length front = omega (arith, c.len-at.ensures, ap (λ (l : List Given). length l) are, length-append front (last ∷ [])) in
    c.replace.ensures.list
    ∙ (ap (λ (l : List Given). slice_set l (c.len-at.result - 1) c.args.renamed) are ∙ (ap (λ n. slice_set (front ++ last ∷ []) n c.args.renamed) at ∙ last-set front last c.args.renamed))
