-- What words ask for, or the one word at fault. Cited by `command_parser`, `nm_log` and `nm_history`.
use Rattle.std.specs.Prelude.{ℕ, Bool, true, false, ◌||◌, ◌==◌, not, length, List, [], ◌∷◌, Option, Some, None, Result, Ok, Err, if◌then◌else◌}
use Rattle.std.specs.List.{join_with_byte}
use Rattle.nm_base.specs.declared.asks.CountAsk.{CountAsk}
use Rattle.nm_base.specs.declared.asks.DumpAsk.{DumpAsk}
use Rattle.nm_base.specs.declared.asks.RestoreAsk.{RestoreAsk}
use Rattle.nm_base.specs.declared.asks.SearchAsk.{SearchAsk}
use Rattle.nm_base.specs.declared.asks.ShowAsk.{ShowAsk}
use Rattle.nm_base.specs.declared.asks.TagAsk.{TagAsk}
use Rattle.nm_base.specs.declared.forms.DumpForm.TheVariants.{BatchTag}
use Rattle.nm_base.specs.declared.forms.Output.TheVariants as output
use Rattle.nm_base.specs.declared.forms.ReadForm.TheVariants as reads
use Rattle.nm_base.specs.declared.refusals.UsageKind.{UsageKind}
use Rattle.nm_base.specs.declared.refusals.UsageKind.TheVariants as kinds
use Rattle.nm_base.specs.declared.tag_op.TagOp.{TagOp}
use Rattle.nm_command.specs.Numbers.{drill_count_in}
use Rattle.nm_command.specs.Options.{read_options}
use Rattle.nm_command.specs.Settings.{nothing_set, or_default}
use Rattle.nm_command.specs.Table.{commands, meaning_of}
use Rattle.nm_command.specs.TagWords.{changes_of, is_tag_word, op_of, query_words}
use Rattle.nm_command.specs.declared.command_error.CommandError.{CommandError}
use Rattle.nm_command.specs.declared.command_error.CommandError.TheVariants.{Usage}
use Rattle.nm_command.specs.declared.request.Request.{Request}
use Rattle.nm_command.specs.declared.request.Request.TheVariants as requests
use Rattle.nm_command.specs.declared.settings.Settings.{Settings}
use Rattle.nm_command.specs.declared.table.CommandName.{CommandName}
use Rattle.nm_command.specs.declared.table.CommandName.TheVariants.{Count, Drill, Dump, New, Restore, Search, Session, Show, Tag}

-- the words of a query, with a space between each two
abbrev pub query_of : List (List ℕ) → List ℕ
query_of words = join_with_byte 32 words

-- what `search` is asked
abbrev pub search_ask : Settings → List (List ℕ) → SearchAsk
search_ask settings words = record {
  json = or_default settings.json false;
  output = or_default settings.output output.Summary;
  oldest = or_default settings.oldest false;
  offset = or_default settings.offset 0;
  limit = settings.limit;
  exclude = or_default settings.exclude true;
  query = query_of words;
}

-- what `count` is asked
abbrev pub count_ask : Settings → List (List ℕ) → CountAsk
count_ask settings words = record {
  output = or_default settings.output output.Messages;
  exclude = or_default settings.exclude true;
  batch = settings.batch;
  query = query_of words;
}

-- what `show` is asked
abbrev pub show_ask : Settings → List (List ℕ) → ShowAsk
show_ask settings words = record {
  raw = or_default settings.raw false;
  exclude = or_default settings.exclude true;
  query = query_of words;
}

-- what `dump` is asked
abbrev pub dump_ask : Settings → List (List ℕ) → DumpAsk
dump_ask settings words = record { form = or_default settings.dump_form BatchTag; query = query_of words }

-- what `tag` is asked
abbrev pub tag_ask : Settings → List TagOp → List (List ℕ) → TagAsk
tag_ask settings ops words = record { clear = settings.clear; batch = settings.batch; ops = ops; query = query_of words }

-- what `restore` is asked
abbrev pub restore_ask : Settings → RestoreAsk
restore_ask settings = record { form = or_default settings.read_form reads.Auto; accumulate = settings.accumulate }

-- this word is at fault in this way
abbrev pub refused : List ℕ → UsageKind → Result Request CommandError
refused word kind = Err (Usage word kind)

-- a request that takes no words; the first one is at fault
abbrev pub without_words : UsageKind → Request → List (List ℕ) → Result Request CommandError
without_words kind request [] = Ok request
without_words kind request (word ∷ more) = refused word kind

-- a request that needs a query
abbrev pub with_words : Request → List (List ℕ) → Result Request CommandError
with_words request [] = refused [] kinds.Missing
with_words request (word ∷ more) = Ok request

-- tags are to change: all are taken off, or a word names one
abbrev pub changes_tags : Bool → List TagOp → Bool
changes_tags clear ops = clear || not (length ops == 0)

-- what `tag` asks for by its changes and the words of its query: neither may be wanting
abbrev pub tag_with : Settings → List TagOp → List (List ℕ) → Result Request CommandError
tag_with settings ops words = if changes_tags settings.clear ops then with_words (requests.Tag (tag_ask settings ops words)) words else refused [] kinds.Missing

-- what `tag` asks for in its words; a tag word that has no tag is at fault
abbrev pub single_tag : Settings → Result (List TagOp × List (List ℕ)) (List ℕ) → Result Request CommandError
single_tag settings (Ok asked) = tag_with settings asked.0 asked.1
single_tag settings (Err word) = refused word kinds.Tag

-- what is wrong with a tag word after `--batch`, by what it asks for
abbrev pub batch_fault : Option TagOp → UsageKind
batch_fault (Some op) = kinds.Clash
batch_fault None = kinds.Tag

-- what `tag --batch` asks for: changes and queries come from the input, so the first tag word or word of a query is at fault
abbrev pub batch_tag : Settings → List (List ℕ) → Result Request CommandError
batch_tag settings [] = Ok (requests.Tag (tag_ask settings [] []))
batch_tag settings (word ∷ more) =
    if is_tag_word word then refused word (batch_fault (op_of word))
    else without_words kinds.Clash (requests.Tag (tag_ask settings [] [])) (query_words (word ∷ more))

-- what `drill` asks for, where its first word says how many mails it makes: nothing follows
abbrev pub drill_of : Option ℕ → List ℕ → List (List ℕ) → Result Request CommandError
drill_of None digits more = refused digits kinds.Value
drill_of (Some count) digits more = without_words kinds.Extra (requests.Drill count) more

-- and by its words
abbrev pub drill_with : List (List ℕ) → Result Request CommandError
drill_with [] = refused [] kinds.Missing
drill_with (digits ∷ more) = drill_of (drill_count_in digits) digits more

-- what a command asks for by its options and the words after them
abbrev pub request_with : CommandName → Settings → List (List ℕ) → Result Request CommandError
request_with New settings words = without_words kinds.Extra requests.New words
request_with Search settings words = with_words (requests.Search (search_ask settings words)) words
request_with Count settings words =
    if settings.batch then without_words kinds.Clash (requests.Count (count_ask settings words)) words
    else Ok (requests.Count (count_ask settings words))
request_with Show settings words = with_words (requests.Show (show_ask settings words)) words
request_with Tag settings words = if settings.batch then batch_tag settings words else single_tag settings (changes_of words)
request_with Dump settings words = Ok (requests.Dump (dump_ask settings words))
request_with Restore settings words = without_words kinds.Extra (requests.Restore (restore_ask settings)) words
request_with Drill settings words = drill_with words
request_with Session settings words = without_words kinds.Extra requests.Session words

-- a fault of an option comes before those of the words
abbrev pub after_options : CommandName → Result (Settings × List (List ℕ)) (List ℕ × UsageKind) → Result Request CommandError
after_options command options = elim options [ Ok options ↦ request_with command options.0 options.1 | Err fault ↦ refused fault.0 fault.1 ]

-- what a command asks for, where the word is one
abbrev pub request_named : Option CommandName → List ℕ → List (List ℕ) → Result Request CommandError
request_named None word words = refused word kinds.Command
request_named (Some command) word words = after_options command (read_options command nothing_set words)

-- what the words ask for
abbrev pub request_of : List (List ℕ) → Result Request CommandError
request_of [] = refused [] kinds.Command
request_of (word ∷ words) = request_named (meaning_of word commands) word words
