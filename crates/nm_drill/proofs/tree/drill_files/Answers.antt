use Rattle.std.proofs.Common.{◌+◌, ◌++◌, [], ◌∷◌, ap₂, sym, ◌∙◌, arith}
use Rattle.std.proofs.lemmas.List.FromFn.{map-range_with_len_more}
use Rattle.nm_drill.specs.Drill.{drill_file}
use Rattle.nm_drill.proofs.tree.drill_files.Goals as goal

pub mails-preserved : goal.mails-preserved
mails-preserved c = let i = c.mails.before in
    c.in_ok-push.ensures.ok ∙ (ap₂ (λ files file. files ++ file ∷ []) c.mails.invariant c.in_ok-drill_file.ensures
    ∙ sym (map-range_with_len_more drill_file 1 i (i + 1) (omega arith)))
