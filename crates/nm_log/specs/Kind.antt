-- The table of requests: what each does with the index and the mail folder, and where it has its queries from. What is said of a request goes by
-- these two, so a further request adds a line to each.
-- Cited by `line_parser`, `nm_history` and `nm_line`.
use Rattle.std.specs.Prelude.{ℕ, Bool, true, false, List, if◌then◌else◌}
use Rattle.nm_model_answer.specs.declared.request.Request.{Request}
use Rattle.nm_model_answer.specs.declared.request.Request.TheVariants.{New, Count, Search, Dump, Show, Tag, Restore}
use Rattle.nm_base.specs.declared.asks.ShowAsk.{ShowAsk}
use Rattle.nm_base.specs.declared.forms.ReadForm.{ReadForm}

-- It takes in the mail of the folder; it is answered from the index alone; it reads files of the folder; or it sets tags and renames the files
-- that follow.
pub data Kind : Type 0 where
  TakesMail : Kind
  ReadsIndex : Kind
  ShowsFiles : ShowAsk → Kind
  SetsTags : Kind

-- the kind of each request
abbrev pub kind_of : Request → Kind
kind_of New = TakesMail
kind_of (Count ask) = ReadsIndex
kind_of (Search ask) = ReadsIndex
kind_of (Dump ask) = ReadsIndex
kind_of (Show ask) = ShowsFiles ask
kind_of (Tag ask) = SetsTags
kind_of (Restore ask) = SetsTags

-- It has no query; its own words are one; or the lines of its input have them: each line is a query, or changes of tags and a query, or a
-- line of a dump.
pub data Source : Type 0 where
  NoQuery : Source
  OwnQuery : List ℕ → Source
  QueryLines : Source
  TaggingLines : Bool → Source
  DumpLines : ReadForm → Source

-- where each request has its queries from
abbrev pub source_of : Request → Source
source_of New = NoQuery
source_of (Count ask) = if ask.batch then QueryLines else OwnQuery ask.query
source_of (Search ask) = OwnQuery ask.query
source_of (Dump ask) = OwnQuery ask.query
source_of (Show ask) = OwnQuery ask.query
source_of (Tag ask) = if ask.batch then TaggingLines ask.clear else OwnQuery ask.query
source_of (Restore ask) = DumpLines ask.form

-- lines are read from the input
abbrev pub reads_lines : Source → Bool
reads_lines NoQuery = false
reads_lines (OwnQuery text) = false
reads_lines QueryLines = true
reads_lines (TaggingLines clear) = true
reads_lines (DumpLines form) = true

-- every lane may run what only reads the index
abbrev pub may_run_anywhere : Kind → Bool
may_run_anywhere TakesMail = false
may_run_anywhere ReadsIndex = true
may_run_anywhere (ShowsFiles ask) = false
may_run_anywhere SetsTags = false
