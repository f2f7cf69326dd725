use Rattle.std.proofs.Common.{length, nat_lt, ◌∙◌}
use Rattle.std.specs.List.{list_all}
use Rattle.std.proofs.lemmas.Bool.{lt-ltb}
use Rattle.nm_codec.specs.StepLaws.{both}
use Rattle.nm_record.specs.Commits.{has_date}
use Rattle.nm_record.proofs.LenLemmas.{fit_dated}
use Rattle.nm_record.proofs.commits.commit_len.Goals as goal

pub returns-clause-value : goal.returns-clause-value
returns-clause-value c =
    let changes = c.args.commit.now.changes in
    λ files fits. c.len.ensures.value ∙ both (list_all has_date changes) (nat_lt 0 (length changes)) (fit_dated files changes fits.each) (lt-ltb 0 (length changes) fits.some)
