-- The summary of a thread as the value that its object is. Cited by `summary` and `summary_json`.
use Rattle.std.specs.Prelude.{map, codes, IsUtf8}
use Rattle.serde_json.specs.Data.{Data, array, member, no_members, number, object, put, string, unsigned, Members}
use Rattle.serde_json.specs.Find.{of_integer}
use Rattle.serde_json.specs.View.{items_of}
use Rattle.nm_model_answer.specs.Search.{thread_digits}
use Rattle.nm_model_answer.specs.declared.summary.ThreadSummary.{ThreadSummary}

-- the authors and the subject are texts
pub record HasTexts (summary : ThreadSummary) : Type 0 where
  pub authors : IsUtf8 summary.authors
  pub subject : IsUtf8 summary.subject

-- an object of eight members
abbrev pub summary_data : ThreadSummary → Data
summary_data summary =
    object
    (member (codes "authors") (string summary.authors)
    (member (codes "files") (number (unsigned summary.files))
    (member (codes "matched") (number (unsigned summary.matched))
    (member (codes "subject") (string summary.subject)
    (member (codes "tags") (array (items_of (map string summary.tags)))
    (member (codes "thread") (string (thread_digits summary.thread))
    (member (codes "timestamp") (number (of_integer summary.date))
    (member (codes "total") (number (unsigned summary.total))
    no_members))))))))

-- members, and what is reported of the mail of a thread
abbrev pub with_mail : ThreadSummary → Members → Members
with_mail summary members =
    put (codes "thread") (string (thread_digits summary.thread))
    (put (codes "tags") (array (items_of (map string summary.tags)))
    (put (codes "subject") (string summary.subject)
    (put (codes "authors") (string summary.authors) members)))

-- members, and the numbers of a thread
abbrev pub with_numbers : ThreadSummary → Members → Members
with_numbers summary members =
    put (codes "total") (number (unsigned summary.total))
    (put (codes "timestamp") (number (of_integer summary.date))
    (put (codes "matched") (number (unsigned summary.matched))
    (put (codes "files") (number (unsigned summary.files)) members)))
