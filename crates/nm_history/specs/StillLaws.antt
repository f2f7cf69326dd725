-- A line that the mail folder gave nothing has renamed nothing, and the tree is the same. For proofs alone: those of `nm_line` too.
use Rattle.std.proofs.Common.{◌≡◌, inl, ℕ, ℤ, List, [], Option, None, Some, refl}
use Rattle.nm_commit.specs.declared.change.Commit.{Commit}
use Rattle.nm_log.specs.Kind.{Kind, ReadsIndex, SetsTags, ShowsFiles, TakesMail, kind_of}
use Rattle.nm_log.specs.declared.line_parser.ParsedLine.{ParsedLine}
use Rattle.nm_log.specs.declared.line_parser.ParsedLine.TheVariants as asked
use Rattle.nm_maildir.specs.Tree.{Tree}
use Rattle.nm_model_answer.specs.declared.request.Request.{Request}
use Rattle.nm_model_index.specs.declared.base.Base.{Base}
use Rattle.nm_sync.specs.Renamed.{TreesAlong}
use Rattle.nm_history.specs.LineCommits.{RenamesAfterBy, RenamesComeAfterTags}

renames-by : (kind : Kind) (request : Request) (input : List ℕ) (moment : ℤ) (index : Base) (made : List Commit) → RenamesAfterBy kind request input moment index [] made
renames-by TakesMail request input moment index made = tt
renames-by ReadsIndex request input moment index made = tt
renames-by (ShowsFiles ask) request input moment index made = tt
renames-by SetsTags request input moment index made = inl refl

pub renames-none : (line : ParsedLine) (input : List ℕ) (moment : ℤ) (index : Base) (made : List Commit) → RenamesComeAfterTags line input moment index [] made
renames-none (asked.Request request) input moment index made = renames-by (kind_of request) request input moment index made
renames-none (asked.Usage word kind) input moment index made = tt

pub no-renames : (tree : Option Tree) → TreesAlong tree [] tree
no-renames None = refl
no-renames (Some tree) = (tree, refl, refl)
