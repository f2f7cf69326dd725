use Rattle.std.proofs.Common.{◌∙◌, ap, subst, sym}
use Rattle.nm_model_index.specs.Valid.{IsValid}
use Rattle.nm_state.specs.Renumbered.{counted, renumbered}
use Rattle.nm_state.proofs.RenumberLemmas.{renumbered_is, renumbered_valid}
use Rattle.nm_state.proofs.fresh_numbers.renumbered.Goals as goal

pub parts_of-requires-clause-valid : goal.parts_of-requires-clause-valid
parts_of-requires-clause-valid c =
    let base = c.in_ok-base.base in
    subst IsValid (sym (renumbered_is base c.in_ok-entries.entries c.len-count.result (c.in_ok-entries.ensures ∙ ap (counted 1) c.as_slice.ensures) c.len-count.ensures)) (renumbered_valid base c.in_ok-base.ensures.valid)

pub returns-clause-base : goal.returns-clause-base
returns-clause-base c =
    let base = c.in_ok-base.base in
    c.in_ok-anew.ensures.base ∙ renumbered_is base c.in_ok-entries.entries c.len-count.result (c.in_ok-entries.ensures ∙ ap (counted 1) c.as_slice.ensures) c.len-count.ensures ∙ ap renumbered c.in_ok-base.ensures.base
