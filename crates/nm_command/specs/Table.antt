-- The commands, the options of each, and what those may be: one table, from which all words are read.
-- Cited by `leading_options`, `options`, `nm_log` and others.
use Rattle.std.specs.Prelude.{ℕ, true, false, List, [], ◌∷◌, Option, Some, None, codes}
use Rattle.std.specs.Map.{lookup}
use Rattle.std.specs.Option.{option_map}
use Rattle.nm_base.specs.Order.{same_text}
use Rattle.nm_base.specs.declared.forms.DumpForm.TheVariants.{BatchTag, Sup}
use Rattle.nm_base.specs.declared.forms.Output.TheVariants as output
use Rattle.nm_base.specs.declared.forms.ReadForm.TheVariants as reads
use Rattle.nm_command.specs.Numbers.{number_in}
use Rattle.nm_command.specs.declared.settings.Setting.{Setting}
use Rattle.nm_command.specs.declared.settings.Setting.TheVariants.{Accumulate, Batch, Clear, DumpForm, Exclude, Json, Limit, Offset, Oldest, Output, Raw, ReadForm}
use Rattle.nm_command.specs.declared.table.CommandName.{CommandName}
use Rattle.nm_command.specs.declared.table.CommandName.TheVariants.{Count, Drill, Dump, New, Restore, Search, Session, Show, Tag}
use Rattle.nm_command.specs.declared.table.Form.{Form}
use Rattle.nm_command.specs.declared.table.Form.TheVariants.{Flag, Number, OneOf}
use Rattle.nm_command.specs.declared.table.LeadingForm.{LeadingForm}
use Rattle.nm_command.specs.declared.table.LeadingForm.TheVariants as leading
use Rattle.nm_command.specs.declared.table.Numbered.{Numbered}
use Rattle.nm_command.specs.declared.table.Numbered.TheVariants as numbers
use Rattle.nm_command.specs.declared.table.Values.{Values}
use Rattle.nm_command.specs.declared.table.Values.TheVariants as values

-- what a word represents in a table: what the first row with that word says
abbrev pub meaning_of : {A : Type 0} → List ℕ → List (List ℕ × A) → Option A
meaning_of word table = lookup (λ name. same_text name word) table

-- the options before a command, with what the value of each may be
abbrev pub leading_options : List (List ℕ × LeadingForm)
leading_options =
    (codes "--mail", leading.Folder)
    ∷ (codes "--index", leading.Folder)
    ∷ (codes "--workers", leading.Workers)
    ∷ (codes "--moment", leading.Moment)
    ∷ []

-- the commands
abbrev pub commands : List (List ℕ × CommandName)
commands =
    (codes "new", New)
    ∷ (codes "search", Search)
    ∷ (codes "count", Count)
    ∷ (codes "show", Show)
    ∷ (codes "tag", Tag)
    ∷ (codes "dump", Dump)
    ∷ (codes "restore", Restore)
    ∷ (codes "drill", Drill)
    ∷ (codes "session", Session)
    ∷ []

-- the options of a command, with what the value of each may be
abbrev pub options_of : CommandName → List (List ℕ × Form)
options_of New = []
options_of Search =
    (codes "--format", OneOf values.SearchFormat)
    ∷ (codes "--output", OneOf values.SearchOutput)
    ∷ (codes "--sort", OneOf values.Sort)
    ∷ (codes "--offset", Number numbers.Offset)
    ∷ (codes "--limit", Number numbers.Limit)
    ∷ (codes "--exclude", OneOf values.Exclude)
    ∷ []
options_of Count =
    (codes "--output", OneOf values.CountOutput)
    ∷ (codes "--exclude", OneOf values.Exclude)
    ∷ (codes "--batch", Flag Batch)
    ∷ []
options_of Show =
    (codes "--format", OneOf values.ShowFormat)
    ∷ (codes "--exclude", OneOf values.Exclude)
    ∷ []
options_of Tag =
    (codes "--remove-all", Flag Clear)
    ∷ (codes "--batch", Flag Batch)
    ∷ []
options_of Dump = (codes "--format", OneOf values.DumpFormat) ∷ []
options_of Restore =
    (codes "--accumulate", Flag Accumulate)
    ∷ (codes "--format", OneOf values.RestoreFormat)
    ∷ []
options_of Drill = []
options_of Session = []

-- the words that a value may be, with what each sets; the first is the default
abbrev pub values_of : Values → List (List ℕ × Setting)
values_of values.SearchFormat = (codes "text", Json false) ∷ (codes "json", Json true) ∷ []
values_of values.ShowFormat = (codes "text", Raw false) ∷ (codes "raw", Raw true) ∷ []
values_of values.DumpFormat = (codes "batch-tag", DumpForm BatchTag) ∷ (codes "sup", DumpForm Sup) ∷ []
values_of values.RestoreFormat = (codes "auto", ReadForm reads.Auto) ∷ (codes "batch-tag", ReadForm reads.BatchTag) ∷ (codes "sup", ReadForm reads.Sup) ∷ []
values_of values.SearchOutput =
    (codes "summary", Output output.Summary)
    ∷ (codes "threads", Output output.Threads)
    ∷ (codes "messages", Output output.Messages)
    ∷ (codes "files", Output output.Files)
    ∷ (codes "tags", Output output.Tags)
    ∷ []
values_of values.CountOutput =
    (codes "messages", Output output.Messages)
    ∷ (codes "threads", Output output.Threads)
    ∷ (codes "files", Output output.Files)
    ∷ []
values_of values.Sort = (codes "newest-first", Oldest false) ∷ (codes "oldest-first", Oldest true) ∷ []
values_of values.Exclude = (codes "true", Exclude true) ∷ (codes "false", Exclude false) ∷ []

-- what a number sets
abbrev pub number_setting : Numbered → ℕ → Setting
number_setting numbers.Offset number = Offset number
number_setting numbers.Limit number = Limit number

-- what an option with a value sets, where it may have that value
abbrev pub value_setting : Form → List ℕ → Option Setting
value_setting (Flag setting) value = None
value_setting (OneOf which) value = meaning_of value (values_of which)
value_setting (Number which) value = option_map (number_setting which) (number_in value)

-- what an option without a value sets, where it may be so
abbrev pub flag_setting : Form → Option Setting
flag_setting (Flag setting) = Some setting
flag_setting (OneOf which) = None
flag_setting (Number which) = None
