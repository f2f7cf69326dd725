-- The model's answer to a request, and which texts a reply may have.
-- Cited by `nm_core`, `nm_model_machine`, `nm_history` and others.
use Rattle.std.specs.Prelude.{ℕ, ℤ, Bool, true, false, ◌&&◌, ◌||◌, not, List, [], is_ok}
use Rattle.nm_base.specs.Order.{same_text}
use Rattle.nm_model_index.specs.declared.base.Base.{Base}
use Rattle.nm_maildir.specs.declared.given.Given.{Given}
use Rattle.nm_query.specs.Answers.{answer_of}
use Rattle.nm_model_answer.specs.Changes.{change_answer}
use Rattle.nm_model_answer.specs.Count.{count_answer}
use Rattle.nm_model_answer.specs.Dump.{dump_answer}
use Rattle.nm_model_answer.specs.Found.{search_answer}
use Rattle.nm_model_answer.specs.NewText.{new_text, report_of}
use Rattle.nm_model_answer.specs.Show.{show_answer}
use Rattle.nm_model_answer.specs.declared.request.Request.{Request}
use Rattle.nm_model_answer.specs.declared.request.Request.TheVariants.{New, Count, Search, Dump, Show, Tag, Restore}

-- The text that a request is answered: from the input, the index before the line and after its commits, the moment, and what
-- the mail folder gave. A count, a search, a dump and a show look at the second index, a `tag` and a
-- `restore` at the first.
abbrev pub answer : Request → List ℕ → Base → Base → ℤ → List Given → List ℕ
answer New input before index moment given = new_text (report_of before.files index.files given)
answer (Count ask) input before index moment given = count_answer ask input index moment
answer (Search ask) input before index moment given = search_answer ask index moment
answer (Dump ask) input before index moment given = dump_answer ask index moment
answer (Show ask) input before index moment given = show_answer ask index moment given
answer (Tag ask) input before index moment given = change_answer (Tag ask) input before moment given
answer (Restore ask) input before index moment given = change_answer (Restore ask) input before moment given

-- The index alone says the reply. A `new`, a `tag` and a `restore` say what changed or did not, a count over the lines of an input needs these, and
-- a show what the mail folder gave.
abbrev pub is_of_index : Request → Bool
is_of_index New = false
is_of_index (Count ask) = not ask.batch
is_of_index (Search ask) = true
is_of_index (Dump ask) = true
is_of_index (Show ask) = false
is_of_index (Tag ask) = false
is_of_index (Restore ask) = false

-- the request is one that can be answered: the text of a query has a tree
abbrev pub is_read : Request → Bool
is_read New = true
is_read (Count ask) = is_ok (answer_of ask.query)
is_read (Search ask) = is_ok (answer_of ask.query)
is_read (Dump ask) = is_ok (answer_of ask.query)
is_read (Show ask) = is_ok (answer_of ask.query)
is_read (Tag ask) = is_ok (answer_of ask.query)
is_read (Restore ask) = true

-- A reply that the index alone says has the model's answer; of the others the machine fixes the place alone.
abbrev pub is_reply : Base → ℤ → Request → List ℕ → Bool
is_reply index moment request text =
    not (is_of_index request) || (is_read request && same_text text (answer request [] index index moment []))
