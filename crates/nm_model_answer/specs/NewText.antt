-- What `new` says: how many files and messages came and went, and which files were passed over.
-- Cited by `nm_writer`, `nm_log`, `nm_session` and others.
use Rattle.std.specs.Prelude.{ℕ, ◌+◌, Bool, ◌==◌, not, List, [], ◌∷◌, ◌++◌, length, filter, map, codes, if◌then◌else◌}
use Rattle.std.specs.List.{flat_map}
use Rattle.std.specs.Fmt.{decimal}
use Rattle.nm_base.specs.Order.{has_text, sorted}
use Rattle.nm_base.specs.declared.facts.Facts.{Facts}
use Rattle.nm_base.specs.declared.refusals.Skip.{Skip}
use Rattle.nm_base.specs.declared.refusals.Skip.TheVariants as skips
use Rattle.nm_commit.specs.Files.{paths_of}
use Rattle.nm_maildir.specs.declared.given.Given.{Given}
use Rattle.nm_maildir.specs.declared.given.Given.TheVariants as givens
use Rattle.nm_maildir.specs.declared.given.ReadAnswer.{ReadAnswer}
use Rattle.nm_maildir.specs.declared.given.ReadAnswer.TheVariants as answers
use Rattle.nm_model_answer.specs.declared.report.NewReport.{NewReport}

-- why a file was passed over
abbrev pub skip_name : Skip → List ℕ
skip_name skips.NotMail = codes "not mail"
skip_name skips.Missing = codes "missing"
skip_name skips.TooLong = codes "too long"

abbrev pub skip_line : List ℕ × Skip → List ℕ
skip_line skipped = codes "skipped: " ++ skip_name skipped.1 ++ codes " " ++ skipped.0 ++ codes "\n"

-- nothing came, went or was passed over
abbrev pub is_quiet : NewReport → Bool
is_quiet report = (report.added + report.removed + length report.skipped) == 0

-- a number after what says of what
abbrev pub number_after : List ℕ → ℕ → List ℕ
number_after before n = before ++ decimal n

abbrev pub named_number : List ℕ × ℕ → List ℕ
named_number number = number_after number.0 number.1

-- the numbers of files and messages
abbrev pub summary_line : NewReport → List ℕ
summary_line report =
    flat_map named_number (
    (codes "Files: +", report.added)
    ∷ (codes " -", report.removed)
    ∷ (codes ", skipped ", length report.skipped)
    ∷ (codes ". Messages: +", report.born)
    ∷ (codes " -", report.died)
    ∷ []
    )
    ++ codes ".\n"

-- the numbers, and a line for each file that was passed over
abbrev pub new_text : NewReport → List ℕ
new_text report = if is_quiet report then codes "No new mail.\n" else summary_line report ++ flat_map skip_line report.skipped

-- the paths that were listed
abbrev pub listed_in : List Given → List (List ℕ)
listed_in [] = []
listed_in (givens.Listed paths ∷ more) = paths
listed_in (givens.Read path answer ∷ more) = listed_in more
listed_in (givens.Renamed from to answer ∷ more) = listed_in more

-- the paths of the index that are not listed, by their bytes
abbrev pub gone : List (List ℕ × Facts) → List (List ℕ) → List (List ℕ)
gone files listed = filter (λ path. not (has_text listed path)) (sorted (paths_of files))

-- the path, where the answer is that mail is there
abbrev pub mail_at : List ℕ → ReadAnswer → List (List ℕ)
mail_at path answers.Mail = path ∷ []
mail_at path answers.NotMail = []
mail_at path answers.Missing = []
mail_at path answers.TooLong = []
mail_at path (answers.Body bytes) = []

-- why a file that was read is passed over
abbrev pub skip_at : List ℕ → ReadAnswer → List (List ℕ × Skip)
skip_at path answers.Mail = []
skip_at path answers.NotMail = (path, skips.NotMail) ∷ []
skip_at path answers.Missing = (path, skips.Missing) ∷ []
skip_at path answers.TooLong = (path, skips.TooLong) ∷ []
skip_at path (answers.Body bytes) = []

-- the path of a read that found mail
abbrev pub mail_given : Given → List (List ℕ)
mail_given (givens.Listed paths) = []
mail_given (givens.Read path answer) = mail_at path answer
mail_given (givens.Renamed from to answer) = []

-- what a read passes over
abbrev pub skip_given : Given → List (List ℕ × Skip)
skip_given (givens.Listed paths) = []
skip_given (givens.Read path answer) = skip_at path answer
skip_given (givens.Renamed from to answer) = []

-- the ids of the mails, each once
abbrev pub ids_of : List (List ℕ × Facts) → List (List ℕ)
ids_of files = sorted (map (λ file. file.1.id) files)

-- the messages of the second that the first lacks
abbrev pub only_in : List (List ℕ × Facts) → List (List ℕ × Facts) → List (List ℕ)
only_in first second = filter (λ id. not (has_text (ids_of first) id)) (ids_of second)

-- what is reported of the files and of the messages, from the index before and the one after, and what the folder
-- answered
abbrev pub report_of : List (List ℕ × Facts) → List (List ℕ × Facts) → List Given → NewReport
report_of before after given = record {
  added = length (flat_map mail_given given);
  removed = length (gone before (listed_in given));
  born = length (only_in before after);
  died = length (only_in after before);
  skipped = flat_map skip_given given;
}
