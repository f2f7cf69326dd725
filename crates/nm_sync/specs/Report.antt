-- What a `new` reports, from the files before and after it. Cited by `new_report` and `nm_writer`.
use Rattle.std.specs.Prelude.{ℕ, List, [], ◌∷◌, length, if◌then◌else◌}
use Rattle.std.specs.List.{flat_map}
use Rattle.nm_model_answer.specs.NewText.{mail_given, only_in, skip_given}
use Rattle.nm_model_answer.specs.declared.report.NewReport.{NewReport}
use Rattle.nm_base.specs.declared.facts.Facts.{Facts}
use Rattle.nm_commit.specs.Files.{has_id}
use Rattle.nm_maildir.specs.declared.given.Given.{Given}

-- the id, where none of the files is of it
abbrev pub lacking : List (List ℕ × Facts) → List ℕ → List (List ℕ)
lacking files id = if has_id files id then [] else id ∷ []

-- the report where n files were removed; those that were added are the mails noted
abbrev pub report_with : ℕ → List (List ℕ × Facts) → List (List ℕ × Facts) → List Given → NewReport
report_with removed before after given = record {
  added = length (flat_map mail_given given);
  removed = removed;
  born = length (only_in before after);
  died = length (only_in after before);
  skipped = flat_map skip_given given;
}
