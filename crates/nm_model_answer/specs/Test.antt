-- When a message passes a query (notmuch-search-terms(7), within this profile), by cases over the tree.
-- Cited by `laws` and `nm_eval`.
use Rattle.std.specs.Prelude.{ℕ, ℤ, Bool, true, false, ◌&&◌, ◌==◌, not, List, length, Option, Some, None, int_le, ◌%◌}
use Rattle.std.specs.List.{filter, list_all, list_any}
use Rattle.nm_base.specs.Order.{same_text}
use Rattle.nm_base.specs.Tags.{has_tag}
use Rattle.nm_dates.specs.Seconds.{is_end, seconds_of}
use Rattle.nm_dates.specs.declared.end.End.{End}
use Rattle.nm_query.specs.declared.query.Query.{Query}
use Rattle.nm_query.specs.declared.query.Query.TheOpen.{Query-F}
use Rattle.nm_query.specs.declared.query.Query.TheFolds.{fold-Query}
use Rattle.nm_model_answer.specs.Places.{has_type, is_at_path, is_in_maildir}
use Rattle.nm_model_answer.specs.View.{View, lead_date}
use Rattle.nm_model_answer.specs.Words.{files_have}

-- the thread has this name; no number is that of no thread
abbrev pub is_thread : Option ℕ → Option ℕ → Bool
is_thread None thread = false
is_thread (Some number) None = false
is_thread (Some number) (Some name) = number == name

-- the date is not before the first second of the end; a missing end bounds nothing, and what no text is as an end holds for none
abbrev pub is_from : Option End → ℤ → ℤ → Bool
is_from None moment date = true
is_from (Some end) moment date = is_end end && int_le (seconds_of end moment).first date

-- nor after the last second of the end
abbrev pub is_to : Option End → ℤ → ℤ → Bool
is_to None moment date = true
is_to (Some end) moment date = is_end end && int_le date (seconds_of end moment).last

-- an odd number of them holds
abbrev pub is_odd : List Bool → Bool
is_odd answers = length (filter (λ answer. answer) answers) % 2 == 1

-- what one node of the tree answers, from the answers of the queries that it joins
abbrev pub node_passes : View → ℤ → Query-F Bool → Bool
node_passes message moment Query-F.All = true
node_passes message moment (Query-F.Words field words starts) = files_have field starts words message.files
node_passes message moment (Query-F.Tag tag) = has_tag message.tags tag
node_passes message moment (Query-F.Id id) = same_text id message.id
node_passes message moment (Query-F.Thread number) = is_thread number message.thread
node_passes message moment (Query-F.Folder folder) = list_any (λ file. is_in_maildir folder file.0) message.files
node_passes message moment (Query-F.Path folder deep) = list_any (λ file. is_at_path folder deep file.0) message.files
node_passes message moment (Query-F.Mime type) = has_type type message.files
node_passes message moment (Query-F.Dates from to) = is_from from moment (lead_date message.files) && is_to to moment (lead_date message.files)
node_passes message moment (Query-F.Not answer) = not answer
node_passes message moment (Query-F.And answers) = list_all (λ answer. answer) answers
node_passes message moment (Query-F.Or answers) = list_any (λ answer. answer) answers
node_passes message moment (Query-F.Xor answers) = is_odd answers

-- the message passes the query at a moment
abbrev pub passes : Query → View → ℤ → Bool
passes query message moment = fold-Query Bool (node_passes message moment) query
