-- A request whose every option is written out is read back.
-- For the proof of `a_request_that_is_written_out_is_read_back`.
use Rattle.std.proofs.Common.{◌≡◌, ℕ, Bool, true, false, cond, List, [], ◌∷◌, ◌++◌, map, refl}
use Rattle.std.proofs.lemmas.Bool.{and_parts}
use Rattle.std.specs.Prelude.{Option, Some, None, codes, nat_le}
use Rattle.std.specs.Fmt.{decimal}
use Rattle.std.specs.List.{list_all}
use Rattle.nm_base.specs.Tag.{is_tag}
use Rattle.nm_base.specs.declared.asks.CountAsk.{CountAsk}
use Rattle.nm_base.specs.declared.asks.DumpAsk.{DumpAsk}
use Rattle.nm_base.specs.declared.asks.RestoreAsk.{RestoreAsk}
use Rattle.nm_base.specs.declared.asks.SearchAsk.{SearchAsk}
use Rattle.nm_base.specs.declared.asks.ShowAsk.{ShowAsk}
use Rattle.nm_base.specs.declared.forms.DumpForm.{DumpForm}
use Rattle.nm_base.specs.declared.forms.DumpForm.TheVariants as forms
use Rattle.nm_base.specs.declared.forms.Output.{Output}
use Rattle.nm_base.specs.declared.forms.Output.TheVariants as output
use Rattle.nm_base.specs.declared.forms.ReadForm.{ReadForm}
use Rattle.nm_base.specs.declared.forms.ReadForm.TheVariants as reads
use Rattle.nm_base.specs.declared.tag_op.TagOp.{TagOp}
use Rattle.nm_command.specs.Grammar.{HasChanges, HasOptions, IsChange, IsOption, IsRequest, a_batch_count, a_batch_tag, a_count, a_drill, a_dump, a_flag, a_new, a_number, a_restore, a_search, a_session, a_show, a_tag, an_option, dashes, no_words, nothing_left, one_change, one_of, query_after_dashes, sets_tag, takes_off}
use Rattle.nm_command.specs.Requests.{changes_tags}
use Rattle.nm_command.specs.Settings.{nothing_set}
use Rattle.nm_command.specs.RequestWords.{are_changes, before_flag, before_limit, can_be_asked, dump_form_word, exclude_option, fits, is_counted, lacks_query, limit_fits, op_word, option, output_word, query_words, read_form_word, request_words, tag_words}
use Rattle.nm_command.specs.Table.{meaning_of, options_of}
use Rattle.nm_command.specs.declared.request.Request.{Request}
use Rattle.nm_command.specs.declared.request.Request.TheVariants as requests
use Rattle.nm_command.specs.declared.settings.Setting.TheVariants as sets
use Rattle.nm_command.specs.declared.settings.Settings.{Settings}
use Rattle.nm_command.specs.declared.table.CommandName.{CommandName}
use Rattle.nm_command.specs.declared.table.CommandName.TheVariants.{Count, Drill, Dump, New, Restore, Search, Session, Show, Tag}
use Rattle.nm_command.specs.declared.table.Form.TheVariants.{OneOf}
use Rattle.nm_command.specs.declared.table.Numbered.TheVariants as numbers
use Rattle.nm_command.specs.declared.table.Values.TheVariants as values
use Rattle.nm_command.proofs.NumberLemmas.{number-back, up_to-back}

format-option : (json : Bool) → IsOption Search (option (codes "--format") (cond json (codes "json") (codes "text"))) (sets.Json json)
format-option true = one_of Search (codes "--format") (codes "json") values.SearchFormat (sets.Json true) refl refl
format-option false = one_of Search (codes "--format") (codes "text") values.SearchFormat (sets.Json false) refl refl

raw-option : (raw : Bool) → IsOption Show (option (codes "--format") (cond raw (codes "raw") (codes "text"))) (sets.Raw raw)
raw-option true = one_of Show (codes "--format") (codes "raw") values.ShowFormat (sets.Raw true) refl refl
raw-option false = one_of Show (codes "--format") (codes "text") values.ShowFormat (sets.Raw false) refl refl

dump_form-option : (form : DumpForm) → IsOption Dump (option (codes "--format") (dump_form_word form)) (sets.DumpForm form)
dump_form-option forms.BatchTag = one_of Dump (codes "--format") (codes "batch-tag") values.DumpFormat (sets.DumpForm forms.BatchTag) refl refl
dump_form-option forms.Sup = one_of Dump (codes "--format") (codes "sup") values.DumpFormat (sets.DumpForm forms.Sup) refl refl

read_form-option : (form : ReadForm) → IsOption Restore (option (codes "--format") (read_form_word form)) (sets.ReadForm form)
read_form-option reads.Auto = one_of Restore (codes "--format") (codes "auto") values.RestoreFormat (sets.ReadForm reads.Auto) refl refl
read_form-option reads.BatchTag = one_of Restore (codes "--format") (codes "batch-tag") values.RestoreFormat (sets.ReadForm reads.BatchTag) refl refl
read_form-option reads.Sup = one_of Restore (codes "--format") (codes "sup") values.RestoreFormat (sets.ReadForm reads.Sup) refl refl

output-option : (output : Output) → IsOption Search (option (codes "--output") (output_word output)) (sets.Output output)
output-option output.Summary = one_of Search (codes "--output") (codes "summary") values.SearchOutput (sets.Output output.Summary) refl refl
output-option output.Threads = one_of Search (codes "--output") (codes "threads") values.SearchOutput (sets.Output output.Threads) refl refl
output-option output.Messages = one_of Search (codes "--output") (codes "messages") values.SearchOutput (sets.Output output.Messages) refl refl
output-option output.Files = one_of Search (codes "--output") (codes "files") values.SearchOutput (sets.Output output.Files) refl refl
output-option output.Tags = one_of Search (codes "--output") (codes "tags") values.SearchOutput (sets.Output output.Tags) refl refl

counted-option : (output : Output) → is_counted output ≡ true → IsOption Count (option (codes "--output") (output_word output)) (sets.Output output)
counted-option output.Summary h = absurd (cc)
counted-option output.Threads h = one_of Count (codes "--output") (codes "threads") values.CountOutput (sets.Output output.Threads) refl refl
counted-option output.Messages h = one_of Count (codes "--output") (codes "messages") values.CountOutput (sets.Output output.Messages) refl refl
counted-option output.Files h = one_of Count (codes "--output") (codes "files") values.CountOutput (sets.Output output.Files) refl refl
counted-option output.Tags h = absurd (cc)

sort-option : (oldest : Bool) → IsOption Search (option (codes "--sort") (cond oldest (codes "oldest-first") (codes "newest-first"))) (sets.Oldest oldest)
sort-option true = one_of Search (codes "--sort") (codes "oldest-first") values.Sort (sets.Oldest true) refl refl
sort-option false = one_of Search (codes "--sort") (codes "newest-first") values.Sort (sets.Oldest false) refl refl

offset-option : (n : ℕ) → fits n ≡ true → IsOption Search (option (codes "--offset") (decimal n)) (sets.Offset n)
offset-option n h = a_number Search (codes "--offset") (decimal n) numbers.Offset n refl (number-back n h)

limit-option : (n : ℕ) → fits n ≡ true → IsOption Search (option (codes "--limit") (decimal n)) (sets.Limit n)
limit-option n h = a_number Search (codes "--limit") (decimal n) numbers.Limit n refl (number-back n h)

-- `search`, `count` and `show` take this one
exclude-with : (command : CommandName) → meaning_of (codes "--exclude") (options_of command) ≡ Some (OneOf values.Exclude) → (exclude : Bool) →
    IsOption command (exclude_option exclude) (sets.Exclude exclude)
exclude-with command found true = one_of command (codes "--exclude") (codes "true") values.Exclude (sets.Exclude true) found refl
exclude-with command found false = one_of command (codes "--exclude") (codes "false") values.Exclude (sets.Exclude false) found refl

abbrev searched : SearchAsk → Option ℕ → Option Bool → Settings
searched ask limit exclude = record {
  json = Some ask.json;
  raw = None;
  dump_form = None;
  read_form = None;
  output = Some ask.output;
  oldest = Some ask.oldest;
  offset = Some ask.offset;
  limit = limit;
  exclude = exclude;
  batch = false;
  clear = false;
  accumulate = false;
}

limit-has : (ask : SearchAsk) (limit : Option ℕ) → limit_fits limit ≡ true →
    HasOptions Search (searched ask None None) (before_limit limit (exclude_option ask.exclude ∷ query_words false ask.query)) (searched ask limit (Some ask.exclude)) (ask.query ∷ [])
limit-has ask None h =
    an_option Search (searched ask None None) (searched ask None (Some ask.exclude)) (sets.Exclude ask.exclude) (exclude_option ask.exclude) (query_words false ask.query) (ask.query ∷ [])
    (exclude-with Search refl ask.exclude) refl (dashes Search (searched ask None (Some ask.exclude)) (ask.query ∷ []))
limit-has ask (Some n) h =
    an_option Search (searched ask None None) (searched ask (Some n) (Some ask.exclude)) (sets.Limit n) (option (codes "--limit") (decimal n))
    (exclude_option ask.exclude ∷ query_words false ask.query) (ask.query ∷ []) (limit-option n h) refl
    (an_option Search (searched ask (Some n) None) (searched ask (Some n) (Some ask.exclude)) (sets.Exclude ask.exclude) (exclude_option ask.exclude) (query_words false ask.query)
    (ask.query ∷ []) (exclude-with Search refl ask.exclude) refl (dashes Search (searched ask (Some n) (Some ask.exclude)) (ask.query ∷ [])))

search-back : (ask : SearchAsk) → can_be_asked (requests.Search ask) ≡ true → IsRequest (request_words (requests.Search ask)) (requests.Search ask)
search-back ask h =
    let after = searched ask ask.limit (Some ask.exclude) in
    let rest = ask.query ∷ [] in
    let limited = before_limit ask.limit (exclude_option ask.exclude ∷ query_words false ask.query) in
    let offset = option (codes "--offset") (decimal ask.offset) in
    let sort = option (codes "--sort") (cond ask.oldest (codes "oldest-first") (codes "newest-first")) in
    let output = option (codes "--output") (output_word ask.output) in
    let format = option (codes "--format") (cond ask.json (codes "json") (codes "text")) in
    let with_format = record nothing_set { json = Some ask.json } in
    let with_output = record with_format { output = Some ask.output } in
    let with_sort = record with_output { oldest = Some ask.oldest } in
    a_search (codes "search") ask.query (format ∷ output ∷ sort ∷ offset ∷ limited) [] after refl
    (an_option Search nothing_set after (sets.Json ask.json) format (output ∷ sort ∷ offset ∷ limited) rest (format-option ask.json) refl
    (an_option Search with_format after (sets.Output ask.output) output (sort ∷ offset ∷ limited) rest (output-option ask.output) refl
    (an_option Search with_output after (sets.Oldest ask.oldest) sort (offset ∷ limited) rest (sort-option ask.oldest) refl
    (an_option Search with_sort after (sets.Offset ask.offset) offset limited rest (offset-option ask.offset (and_parts (fits ask.offset) (limit_fits ask.limit) h).0) refl
    (limit-has ask ask.limit (and_parts (fits ask.offset) (limit_fits ask.limit) h).1)))))

count-back : (ask : CountAsk) → is_counted ask.output ≡ true → (batch : Bool) (query : List ℕ) → lacks_query batch query ≡ true →
    IsRequest (request_words (requests.Count (record { output = ask.output; exclude = ask.exclude; batch = batch; query = query })))
    (requests.Count (record { output = ask.output; exclude = ask.exclude; batch = batch; query = query }))
count-back ask counted true [] h =
    let output = option (codes "--output") (output_word ask.output) in
    let with_output = record nothing_set { output = Some ask.output } in
    let with_exclude = record with_output { exclude = Some ask.exclude } in
    let after = record with_exclude { batch = true } in
    a_batch_count (codes "count") (output ∷ exclude_option ask.exclude ∷ query_words true []) after refl
    (an_option Count nothing_set after (sets.Output ask.output) output (exclude_option ask.exclude ∷ query_words true []) [] (counted-option ask.output counted) refl
    (an_option Count with_output after (sets.Exclude ask.exclude) (exclude_option ask.exclude) (query_words true []) [] (exclude-with Count refl ask.exclude) refl
    (an_option Count with_exclude after sets.Batch (codes "--batch") [] [] (a_flag Count (codes "--batch") sets.Batch refl) refl
    (no_words Count after)))) refl
count-back ask counted true (b ∷ query) h = absurd (cc)
count-back ask counted false query h =
    let output = option (codes "--output") (output_word ask.output) in
    let with_output = record nothing_set { output = Some ask.output } in
    let after = record with_output { exclude = Some ask.exclude } in
    let rest = query ∷ [] in
    a_count (codes "count") (output ∷ exclude_option ask.exclude ∷ query_words false query) rest after refl
    (an_option Count nothing_set after (sets.Output ask.output) output (exclude_option ask.exclude ∷ query_words false query) rest (counted-option ask.output counted) refl
    (an_option Count with_output after (sets.Exclude ask.exclude) (exclude_option ask.exclude) (query_words false query) rest (exclude-with Count refl ask.exclude) refl
    (dashes Count after rest))) refl

show-back : (ask : ShowAsk) → IsRequest (request_words (requests.Show ask)) (requests.Show ask)
show-back ask =
    let raw = option (codes "--format") (cond ask.raw (codes "raw") (codes "text")) in
    let with_format = record nothing_set { raw = Some ask.raw } in
    let after = record with_format { exclude = Some ask.exclude } in
    let rest = ask.query ∷ [] in
    a_show (codes "show") ask.query (raw ∷ exclude_option ask.exclude ∷ query_words false ask.query) [] after refl
    (an_option Show nothing_set after (sets.Raw ask.raw) raw (exclude_option ask.exclude ∷ query_words false ask.query) rest (raw-option ask.raw) refl
    (an_option Show with_format after (sets.Exclude ask.exclude) (exclude_option ask.exclude) (query_words false ask.query) rest (exclude-with Show refl ask.exclude) refl
    (dashes Show after rest)))

dump-back : (ask : DumpAsk) → IsRequest (request_words (requests.Dump ask)) (requests.Dump ask)
dump-back ask =
    let form = option (codes "--format") (dump_form_word ask.form) in
    let after = record nothing_set { dump_form = Some ask.form } in
    let rest = ask.query ∷ [] in
    a_dump (codes "dump") (form ∷ query_words false ask.query) rest after refl
    (an_option Dump nothing_set after (sets.DumpForm ask.form) form (query_words false ask.query) rest (dump_form-option ask.form) refl
    (dashes Dump after rest))

op-back : (add : Bool) (tag : List ℕ) → is_tag tag ≡ true → IsChange (cond add 43 45 ∷ tag) (record { add = add; tag = tag })
op-back true tag h = sets_tag tag h
op-back false tag h = takes_off tag h

ops-back : (ops : List TagOp) (query : List (List ℕ)) → list_all (λ op. is_tag op.tag) ops ≡ true → HasChanges (map op_word ops ++ codes "--" ∷ query) ops query
ops-back [] query h = query_after_dashes query
ops-back (op ∷ ops) query h =
    one_change (op_word op) op (map op_word ops ++ codes "--" ∷ query) query ops (op-back op.add op.tag (and_parts (is_tag op.tag) (list_all (λ op. is_tag op.tag) ops) h).0)
    (ops-back ops query (and_parts (is_tag op.tag) (list_all (λ op. is_tag op.tag) ops) h).1)

-- the options of `tag`, in the order in which they are written
abbrev cleared : Bool → Bool → Settings
cleared clear batch = record nothing_set { clear = clear; batch = batch }

batch-flag : (clear : Bool) → HasOptions Tag (cleared clear false) (codes "--batch" ∷ []) (cleared clear true) []
batch-flag clear =
    an_option Tag (cleared clear false) (cleared clear true) sets.Batch (codes "--batch") [] [] (a_flag Tag (codes "--batch") sets.Batch refl) refl (no_words Tag (cleared clear true))

clear-flag : (clear batch : Bool) (words rest : List (List ℕ)) → HasOptions Tag (cleared clear false) words (cleared clear batch) rest →
    HasOptions Tag nothing_set (before_flag clear (codes "--remove-all") words) (cleared clear batch) rest
clear-flag true batch words rest has =
    an_option Tag nothing_set (cleared true batch) sets.Clear (codes "--remove-all") words rest (a_flag Tag (codes "--remove-all") sets.Clear refl) refl has
clear-flag false batch words rest has = has

tag-back : (clear batch : Bool) (ops : List TagOp) (query : List ℕ) → are_changes clear batch ops query ≡ true →
    IsRequest (request_words (requests.Tag (record { clear = clear; batch = batch; ops = ops; query = query })))
    (requests.Tag (record { clear = clear; batch = batch; ops = ops; query = query }))
tag-back clear true [] [] h =
    a_batch_tag (codes "tag") (before_flag clear (codes "--remove-all") (tag_words true [] [])) [] (cleared clear true) refl
    (clear-flag clear true (codes "--batch" ∷ []) [] (batch-flag clear)) refl nothing_left
tag-back clear true [] (b ∷ query) h = absurd (cc)
tag-back clear true (op ∷ ops) query h = absurd (cc)
tag-back clear false ops query h =
    let rest = map op_word ops ++ codes "--" ∷ query ∷ [] in
    a_tag (codes "tag") query (before_flag clear (codes "--remove-all") (tag_words false ops query)) rest [] (cleared clear false) ops refl
    (clear-flag clear false (codes "--" ∷ rest) rest (dashes Tag (cleared clear false) rest)) refl
    (ops-back ops (query ∷ []) (and_parts (changes_tags clear ops) (list_all (λ op. is_tag op.tag) ops) h).1)
    (and_parts (changes_tags clear ops) (list_all (λ op. is_tag op.tag) ops) h).0

accumulate-flag : (form : ReadForm) (accumulate : Bool) → HasOptions Restore (record nothing_set { read_form = Some form }) (before_flag accumulate (codes "--accumulate") [])
    (record nothing_set { read_form = Some form; accumulate = accumulate }) []
accumulate-flag form true =
    an_option Restore (record nothing_set { read_form = Some form }) (record nothing_set { read_form = Some form; accumulate = true }) sets.Accumulate (codes "--accumulate") [] []
    (a_flag Restore (codes "--accumulate") sets.Accumulate refl) refl (no_words Restore (record nothing_set { read_form = Some form; accumulate = true }))
accumulate-flag form false = no_words Restore (record nothing_set { read_form = Some form })

restore-back : (ask : RestoreAsk) → IsRequest (request_words (requests.Restore ask)) (requests.Restore ask)
restore-back ask =
    let form = option (codes "--format") (read_form_word ask.form) in
    let words = before_flag ask.accumulate (codes "--accumulate") [] in
    let after = record nothing_set { read_form = Some ask.form; accumulate = ask.accumulate } in
    a_restore (codes "restore") (form ∷ words) after refl
    (an_option Restore nothing_set after (sets.ReadForm ask.form) form words [] (read_form-option ask.form) refl (accumulate-flag ask.form ask.accumulate))

drill-back : (count : ℕ) → nat_le 1 count ≡ true → nat_le count 20000 ≡ true → IsRequest (request_words (requests.Drill count)) (requests.Drill count)
drill-back count some few =
    a_drill (codes "drill") (decimal count) (codes "--" ∷ decimal count ∷ []) nothing_set count refl
    (dashes Drill nothing_set (decimal count ∷ [])) (up_to-back 20000 count refl some few)

pub request_words-back : (request : Request) → can_be_asked request ≡ true → IsRequest (request_words request) request
request_words-back requests.New h = a_new (codes "new") [] nothing_set refl (no_words New nothing_set)
request_words-back (requests.Search ask) h = search-back ask h
request_words-back (requests.Count ask) h =
    count-back ask (and_parts (is_counted ask.output) (lacks_query ask.batch ask.query) h).0 ask.batch ask.query (and_parts (is_counted ask.output) (lacks_query ask.batch ask.query) h).1
request_words-back (requests.Show ask) h = show-back ask
request_words-back (requests.Tag ask) h = tag-back ask.clear ask.batch ask.ops ask.query h
request_words-back (requests.Dump ask) h = dump-back ask
request_words-back (requests.Restore ask) h = restore-back ask
request_words-back (requests.Drill count) h = drill-back count (and_parts (nat_le 1 count) (nat_le count 20000) h).0 (and_parts (nat_le 1 count) (nat_le count 20000) h).1
request_words-back requests.Session h = a_session (codes "session") [] nothing_set refl (no_words Session nothing_set)
