-- Requests and leading options in words again, with every option written out. Cited by `laws`.
use Rattle.std.specs.Prelude.{ℕ, ℤ, pos, negsuc, Bool, true, false, ◌&&◌, nat_eq, nat_le, nat_lt, List, [], ◌∷◌, ◌++◌, length, map, Option, Some, None, codes, if◌then◌else◌}
use Rattle.std.specs.Fmt.{decimal}
use Rattle.std.specs.List.{list_all}
use Rattle.nm_base.specs.Limits.{max_date}
use Rattle.nm_base.specs.Tag.{is_tag}
use Rattle.nm_base.specs.declared.forms.DumpForm.{DumpForm}
use Rattle.nm_base.specs.declared.forms.DumpForm.TheVariants.{BatchTag, Sup}
use Rattle.nm_base.specs.declared.forms.Output.{Output}
use Rattle.nm_base.specs.declared.forms.Output.TheVariants as output
use Rattle.nm_base.specs.declared.forms.ReadForm.{ReadForm}
use Rattle.nm_base.specs.declared.forms.ReadForm.TheVariants as reads
use Rattle.nm_base.specs.declared.tag_op.TagOp.{TagOp}
use Rattle.nm_command.specs.Requests.{changes_tags}
use Rattle.nm_command.specs.declared.leading_options.Leading.{Leading}
use Rattle.nm_command.specs.declared.request.Request.{Request}
use Rattle.nm_command.specs.declared.request.Request.TheVariants as requests

-- an option with its value
abbrev pub option : List ℕ → List ℕ → List ℕ
option name value = name ++ 61 ∷ value

-- the word of an output
abbrev pub output_word : Output → List ℕ
output_word output.Summary = codes "summary"
output_word output.Threads = codes "threads"
output_word output.Messages = codes "messages"
output_word output.Files = codes "files"
output_word output.Tags = codes "tags"

-- the word of the form of a dump
abbrev pub dump_form_word : DumpForm → List ℕ
dump_form_word BatchTag = codes "batch-tag"
dump_form_word Sup = codes "sup"

-- the word of the form in which a dump is read
abbrev pub read_form_word : ReadForm → List ℕ
read_form_word reads.Auto = codes "auto"
read_form_word reads.BatchTag = codes "batch-tag"
read_form_word reads.Sup = codes "sup"

-- whether excluded messages are left out
abbrev pub exclude_option : Bool → List ℕ
exclude_option exclude = option (codes "--exclude") (if exclude then codes "true" else codes "false")

-- no option where there is no limit
abbrev pub before_limit : Option ℕ → List (List ℕ) → List (List ℕ)
before_limit None words = words
before_limit (Some limit) words = option (codes "--limit") (decimal limit) ∷ words

-- a query is one word after the options, and none where it comes from the input
abbrev pub query_words : Bool → List ℕ → List (List ℕ)
query_words true query = codes "--batch" ∷ []
query_words false query = codes "--" ∷ query ∷ []

-- a flag comes before other words where it is set
abbrev pub before_flag : Bool → List ℕ → List (List ℕ) → List (List ℕ)
before_flag true name words = name ∷ words
before_flag false name words = words

-- the word of a change of tags
abbrev pub op_word : TagOp → List ℕ
op_word op = (if op.add then 43 else 45) ∷ op.tag

-- the changes and the query of `tag`, and none where they come from the input
abbrev pub tag_words : Bool → List TagOp → List ℕ → List (List ℕ)
tag_words true ops query = codes "--batch" ∷ []
tag_words false ops query = codes "--" ∷ (map op_word ops ++ codes "--" ∷ query ∷ [])

-- the words of a request
abbrev pub request_words : Request → List (List ℕ)
request_words requests.New = codes "new" ∷ []
request_words (requests.Search ask) =
    codes "search"
    ∷ option (codes "--format") (if ask.json then codes "json" else codes "text")
    ∷ option (codes "--output") (output_word ask.output)
    ∷ option (codes "--sort") (if ask.oldest then codes "oldest-first" else codes "newest-first")
    ∷ option (codes "--offset") (decimal ask.offset)
    ∷ before_limit ask.limit (exclude_option ask.exclude ∷ query_words false ask.query)
request_words (requests.Count ask) =
    codes "count" ∷ option (codes "--output") (output_word ask.output) ∷ exclude_option ask.exclude ∷ query_words ask.batch ask.query
request_words (requests.Show ask) =
    codes "show" ∷ option (codes "--format") (if ask.raw then codes "raw" else codes "text") ∷ exclude_option ask.exclude ∷ query_words false ask.query
request_words (requests.Tag ask) = codes "tag" ∷ before_flag ask.clear (codes "--remove-all") (tag_words ask.batch ask.ops ask.query)
request_words (requests.Dump ask) = codes "dump" ∷ option (codes "--format") (dump_form_word ask.form) ∷ query_words false ask.query
request_words (requests.Restore ask) = codes "restore" ∷ option (codes "--format") (read_form_word ask.form) ∷ before_flag ask.accumulate (codes "--accumulate") []
request_words (requests.Drill count) = codes "drill" ∷ codes "--" ∷ decimal count ∷ []
request_words requests.Session = codes "session" ∷ []

-- a number fits 32 bits
abbrev pub fits : ℕ → Bool
fits number = nat_le number 4294967295

-- a limit fits, where there is one
abbrev pub limit_fits : Option ℕ → Bool
limit_fits None = true
limit_fits (Some limit) = fits limit

-- what `count` counts
abbrev pub is_counted : Output → Bool
is_counted output.Summary = false
is_counted output.Threads = true
is_counted output.Messages = true
is_counted output.Files = true
is_counted output.Tags = false

-- no query is asked where the queries come from the input
abbrev pub lacks_query : Bool → List ℕ → Bool
lacks_query true [] = true
lacks_query true (b ∷ query) = false
lacks_query false query = true

-- each change is of a tag, and there is one or all tags are taken off; changes and a query that come from the input are not asked
abbrev pub are_changes : Bool → Bool → List TagOp → List ℕ → Bool
are_changes clear true [] query = lacks_query true query
are_changes clear true (op ∷ ops) query = false
are_changes clear false ops query = changes_tags clear ops && list_all (λ op. is_tag op.tag) ops

-- words can ask for this
abbrev pub can_be_asked : Request → Bool
can_be_asked requests.New = true
can_be_asked (requests.Search ask) = fits ask.offset && limit_fits ask.limit
can_be_asked (requests.Count ask) = is_counted ask.output && lacks_query ask.batch ask.query
can_be_asked (requests.Show ask) = true
can_be_asked (requests.Tag ask) = are_changes ask.clear ask.batch ask.ops ask.query
can_be_asked (requests.Dump ask) = true
can_be_asked (requests.Restore ask) = true
can_be_asked (requests.Drill count) = nat_le 1 count && nat_le count 20000
can_be_asked requests.Session = true

-- leading options in words
abbrev pub in_words : List (List ℕ × List ℕ) → List (List ℕ)
in_words options = map (λ written. option written.0 written.1) options

-- no option where no moment is known
abbrev pub moment_options : Option ℤ → List (List ℕ × List ℕ)
moment_options None = []
moment_options (Some (pos second)) = (codes "--moment", decimal second) ∷ []
moment_options (Some (negsuc second)) = []

-- the options that say this
abbrev pub leading_words_of : Leading → List (List ℕ × List ℕ)
leading_words_of leading =
    (codes "--mail", leading.mail)
    ∷ (codes "--index", leading.index)
    ∷ (codes "--workers", decimal leading.workers)
    ∷ moment_options leading.moment

-- a moment is a second from 0 to 253,000,000,000, where one is known
abbrev pub moment_fits : Option ℤ → Bool
moment_fits None = true
moment_fits (Some (pos second)) = nat_le second max_date
moment_fits (Some (negsuc second)) = false

-- all these options can say this: folders have names, and there are 1 to 16 workers
abbrev pub can_be_told : Leading → Bool
can_be_told leading =
    nat_lt 0 (length leading.mail)
    && nat_lt 0 (length leading.index)
    && nat_le 1 leading.workers
    && nat_le leading.workers 16
    && moment_fits leading.moment
    && nat_eq leading.rest (length (leading_words_of leading))
