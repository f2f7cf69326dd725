-- Which commits a line of lane 0 makes: all that are due, or by its outcome the first of them.
-- Cited by `lane_zero_laws`, `nm_session` and `nm_top`.
use Rattle.std.specs.Prelude.{◌≡◌, ◌⊎◌, ℕ, ℤ, ◌+◌, Bool, false, List, [], ◌∷◌, ◌++◌, drop, length, map, Option, None, Some, ⊤, if◌then◌else◌}
use Rattle.nm_model_answer.specs.Changes.{wanted_for}
use Rattle.nm_log.specs.Kind.{Kind, ReadsIndex, SetsTags, ShowsFiles, TakesMail, kind_of}
use Rattle.nm_model_answer.specs.RenameOutcomes.{renames_done, renames_for}
use Rattle.nm_model_answer.specs.declared.request.Request.{Request}
use Rattle.nm_model_answer.specs.declared.request.Request.TheVariants.{New}
use Rattle.nm_base.specs.declared.facts.Facts.{Facts}
use Rattle.nm_base.specs.declared.limit.Limit.{Limit}
use Rattle.nm_base.specs.declared.limit.Limit.TheVariants.{ShowBytes}
use Rattle.nm_commit.specs.declared.change.Commit.{Commit}
use Rattle.nm_model_index.specs.Index.{folded}
use Rattle.nm_model_index.specs.declared.base.Base.{Base}
use Rattle.nm_lanes.specs.declared.script.ScriptLine.{ScriptLine}
use Rattle.nm_log.specs.ParsedLine.{parse_line}
use Rattle.nm_log.specs.declared.line_parser.ParsedLine.{ParsedLine}
use Rattle.nm_log.specs.declared.line_parser.ParsedLine.TheVariants as asked
use Rattle.nm_log.specs.declared.outcome.Outcome.{Outcome}
use Rattle.nm_log.specs.declared.outcome.Outcome.TheVariants as outcomes
use Rattle.nm_model_machine.specs.declared.step.Step.{Step}
use Rattle.nm_maildir.specs.Tree.{Tree}
use Rattle.nm_maildir.specs.declared.given.Given.{Given}
use Rattle.nm_model_plan.specs.Moves.{HasTried, move_commit}
use Rattle.nm_model_plan.specs.Plan.{due_commits}
use Rattle.nm_model_plan.specs.TagCommit.{tag_commit}
use Rattle.nm_scan.specs.Listing.{PassesListing}
use Rattle.nm_scan.specs.Scan.{FindsBatches}
use Rattle.nm_writer.specs.AfterCommit.{AreWithin, IsPassed}
use Rattle.nm_history.specs.Lines.{RunLine, begun, tree_after}
use Rattle.nm_history.specs.Requests.{asks_to_tag, asks_to_write, refused_unasked}

-- the paths of the files whose renames are left, once these were tried
abbrev pub renames_left : Base → Base → List Given → List (List ℕ)
renames_left index wanted given = map (λ rename. rename.from) (drop (length (renames_done index wanted given)) (renames_for index wanted))

-- of the renames that setting these tags asks for the first were tried, and those of these paths are left
pub record FindsRenames (index wanted : Base) (given : List Given) (left : List (List ℕ)) : Type 0 where
  pub tried : HasTried index wanted given
  pub left_are : left ≡ renames_left index wanted given

-- What a request of this kind found in the mail folder, and the paths that are left to it: what takes mail the mails of each batch and the
-- paths left to read, what sets tags the files that were renamed and those left to rename.
abbrev pub FindsBy : Kind → Request → List ℕ → ℤ → Option Tree → Base → List Given → List (List (List ℕ × Facts)) → List (List ℕ) → Type 0
FindsBy TakesMail request input moment tree index given batches left = FindsBatches tree index.files given batches left
FindsBy ReadsIndex request input moment tree index given batches left = (batches ≡ []) × (left ≡ [])
FindsBy (ShowsFiles ask) request input moment tree index given batches left = (batches ≡ []) × (left ≡ [])
FindsBy SetsTags request input moment tree index given batches left = (batches ≡ []) × FindsRenames index (wanted_for request input moment index) given left

-- what a request found
abbrev pub FindsFor : Request → List ℕ → ℤ → Option Tree → Base → List Given → List (List (List ℕ × Facts)) → List (List ℕ) → Type 0
FindsFor request input moment tree index given batches left = FindsBy (kind_of request) request input moment tree index given batches left

-- The commits that are due to the line while these paths are left, by its request, the moment, the index before it, and what the mail folder gave.
pub record AreDue (moment : ℤ) (tree : Option Tree) (index : Base) (line : ScriptLine) (given : List Given) (left : List (List ℕ)) (due : List Commit) : Type 0 where
  pub request : Request
  pub asked_for : parse_line line ≡ asked.Request request
  pub batches : List (List (List ℕ × Facts))
  pub found : FindsFor request line.input moment tree index given batches left
  pub due_are : due ≡ due_commits request line.input moment index given batches left

-- due are the commits made, then this one, and perhaps more
pub record StopsAt (moment : ℤ) (tree : Option Tree) (index : Base) (line : ScriptLine) (given : List Given) (made : List Commit) (commit : Commit) : Type 0 where
  pub left : List (List ℕ)
  pub due : List Commit
  pub are_due : AreDue moment tree index line given left due
  pub more : List Commit
  pub order : due ≡ made ++ commit ∷ more

-- Out of memory: the first of the commits due were made, all of them perhaps. What sets tags has asked then for the first of the renames
-- due, or for nothing; what sets none has perhaps made none.
abbrev pub MakesFirst : ℤ → Option Tree → Base → ScriptLine → List Given → List Commit → Type 0
MakesFirst moment tree index line given made =
    ((made ≡ []) × ((given ≡ []) ⊎ (asks_to_tag (parse_line line) ≡ false))) ⊎ ((left : List (List ℕ)) × (due more : List Commit) × AreDue moment tree index line given left due × (due ≡ made ++ more))

-- After a fault of the folder in what sets tags the tags are set; the commit of the files that were moved is made, or the disk failed in it, or
-- something else refused it.
pub record MakesTags (index wanted : Base) (given : List Given) (made in_flight : List Commit) : Type 0 where
  pub moves : List Commit
  pub more : List Commit
  pub made_are : made ≡ tag_commit index wanted ++ moves
  pub order : moves ++ (in_flight ++ more) ≡ move_commit given

-- What a request of this kind had made before the folder failed: what sets tags the commit of the tags, all else what was due.
abbrev pub MakesBy : Kind → Request → List ℕ → ℤ → Base → List Given → List Commit → List Commit → List Commit → Type 0
MakesBy TakesMail request input moment index given due made in_flight = (made ≡ due) × (in_flight ≡ [])
MakesBy ReadsIndex request input moment index given due made in_flight = (made ≡ due) × (in_flight ≡ [])
MakesBy (ShowsFiles ask) request input moment index given due made in_flight = (made ≡ due) × (in_flight ≡ [])
MakesBy SetsTags request input moment index given due made in_flight = MakesTags index (wanted_for request input moment index) given made in_flight

-- what a request had made
abbrev pub MakesBefore : Request → List ℕ → ℤ → Base → List Given → List Commit → List Commit → List Commit → Type 0
MakesBefore request input moment index given due made in_flight = MakesBy (kind_of request) request input moment index given due made in_flight

-- The folder may fail while these paths are left: what takes mail has paths left to read. What sets tags may have done all its renames, since
-- the folder may fail as their names are synced.
abbrev pub MayFailBy : Kind → List (List ℕ) → Type 0
MayFailBy TakesMail left = (path : List ℕ) × (rest : List (List ℕ)) × (left ≡ path ∷ rest)
MayFailBy ReadsIndex left = ⊥
MayFailBy (ShowsFiles ask) left = ⊥
MayFailBy SetsTags left = ⊤

-- by the request
abbrev pub MayFailWith : Request → List (List ℕ) → Type 0
MayFailWith request left = MayFailBy (kind_of request) left

-- The folder failed in a `new`, with paths left, or in what sets tags, in a rename or after them.
pub record FailsBefore (moment : ℤ) (tree : Option Tree) (index : Base) (line : ScriptLine) (given : List Given) (made in_flight : List Commit) : Type 0 where
  pub left : List (List ℕ)
  pub due : List Commit
  pub are_due : AreDue moment tree index line given left due
  pub may_fail : MayFailWith are_due.request left
  pub makes : MakesBefore are_due.request line.input moment index given due made in_flight

-- nothing was made, and nothing is on its way
pub record MakesNothing (made in_flight : List Commit) : Type 0 where
  pub made_are : made ≡ []
  pub in_flight_is : in_flight ≡ []

-- The folder failed at a listing or in a show, and nothing was made; or as a `new` read, or in what sets tags.
abbrev pub MakesToFault : ℤ → Option Tree → Base → ScriptLine → List Given → List Commit → List Commit → Type 0
MakesToFault moment tree index line given made in_flight =
    ((asks_to_tag (parse_line line) ≡ false) × ((given ≡ []) ⊎ (asks_to_write (parse_line line) ≡ false)) × MakesNothing made in_flight)
    ⊎ FailsBefore moment tree index line given made in_flight

-- the query of the line passes the limit, or the mail folder passed it as a `new` listed it, or a show passed its bytes
abbrev pub PassesUnmade : Option Tree → ScriptLine → List Given → Limit → Type 0
PassesUnmade tree line given limit =
    ((given ≡ []) × (refused_unasked (parse_line line) line.input None ≡ Some (outcomes.Limit limit)))
    ⊎ (((given ≡ []) × (parse_line line ≡ asked.Request New) × PassesListing tree limit) ⊎ ((asks_to_write (parse_line line) ≡ false) × (limit ≡ ShowBytes)))

-- The limit was passed outside a commit, and nothing was made; or the next commit would pass it.
abbrev pub MakesToLimit : ℤ → Option Tree → Base → ScriptLine → List Given → ℕ → List Commit → Limit → Type 0
MakesToLimit moment tree index line given count made limit =
    ((made ≡ []) × PassesUnmade tree line given limit)
    ⊎ ((commit : Commit) × StopsAt moment tree index line given made commit × IsPassed count (folded index made) commit limit)

-- The commits that a line makes, and the one that it leaves on its way, by its outcome: the disk may hold that one where it failed;
-- where a limit is reported, the next one would pass it. `count` is how many the session has then made.
abbrev pub Makes : Outcome → ℤ → Option Tree → Base → ScriptLine → List Given → ℕ → List Commit → List Commit → Type 0
Makes outcomes.Ok moment tree index line given count made in_flight = AreDue moment tree index line given [] made × (in_flight ≡ [])
Makes (outcomes.Usage word kind) moment tree index line given count made in_flight = MakesNothing made in_flight
Makes (outcomes.BadQuery at kind) moment tree index line given count made in_flight = MakesNothing made in_flight
Makes (outcomes.BadDate at) moment tree index line given count made in_flight = MakesNothing made in_flight
Makes (outcomes.BadLine bad kind) moment tree index line given count made in_flight = MakesNothing made in_flight
Makes (outcomes.NotOne found) moment tree index line given count made in_flight = MakesNothing made in_flight
Makes (outcomes.Gone path) moment tree index line given count made in_flight = MakesNothing made in_flight
Makes outcomes.MailFault moment tree index line given count made in_flight = MakesToFault moment tree index line given made in_flight
Makes outcomes.DiskFault moment tree index line given count made in_flight = (commit : Commit) × StopsAt moment tree index line given made commit × (in_flight ≡ commit ∷ [])
Makes (outcomes.Closed fault) moment tree index line given count made in_flight = MakesNothing made in_flight
Makes (outcomes.Limit limit) moment tree index line given count made in_flight = MakesToLimit moment tree index line given count made limit × (in_flight ≡ [])
Makes outcomes.NoMemory moment tree index line given count made in_flight = MakesFirst moment tree index line given made × (in_flight ≡ [])

-- What a request of this kind had made before it asked the folder for a rename: what sets tags the commit of the tags, or else it asked for
-- nothing. No other kind renames.
abbrev pub RenamesAfterBy : Kind → Request → List ℕ → ℤ → Base → List Given → List Commit → Type 0
RenamesAfterBy TakesMail request input moment index given made = ⊤
RenamesAfterBy ReadsIndex request input moment index given made = ⊤
RenamesAfterBy (ShowsFiles ask) request input moment index given made = ⊤
RenamesAfterBy SetsTags request input moment index given made =
    (given ≡ []) ⊎ ((moves : List Commit) × (made ≡ tag_commit index (wanted_for request input moment index) ++ moves))

-- A line asks for no rename before the commit of its tags is made, however it ends.
abbrev pub RenamesComeAfterTags : ParsedLine → List ℕ → ℤ → Base → List Given → List Commit → Type 0
RenamesComeAfterTags (asked.Request request) input moment index given made = RenamesAfterBy (kind_of request) request input moment index given made
RenamesComeAfterTags (asked.Usage word kind) input moment index given made = ⊤

-- One commit is on its way after a line in which the disk failed, and none after another.
abbrev pub IsOnItsWay : Bool → List Commit → Type 0
IsOnItsWay failed in_flight = length in_flight ≡ (if failed then 1 else 0)

-- What a line makes of the commits before it, and the revision that it leaves. What it makes, or leaves on its way, passes no limit. It
-- renames nothing before the commit of its tags is made.
pub record MakesCommits (opening : Base) (moment : ℤ) (tree : Option Tree) (earlier : List Commit) (ran : RunLine) (made in_flight : List Commit) : Type 0 where
  pub revision : ran.1.revision ≡ opening.revision + length (earlier ++ made)
  pub makes : Makes ran.1.outcome moment tree (folded opening earlier) ran.0 ran.1.given (length (earlier ++ made)) made in_flight
  pub renames_after : RenamesComeAfterTags (parse_line ran.0) ran.0.input moment (folded opening earlier) ran.1.given made
  pub on_its_way : IsOnItsWay ran.1.disk_failed in_flight
  pub within : AreWithin (length earlier) (folded opening earlier) (made ++ in_flight)

-- The lines make the commits one after the other, after these earlier ones, the tree being as the renames of the lines before leave it; in the
-- end these were acknowledged.
abbrev pub EachMakes : Base → ℤ → Option Tree → List Commit → List RunLine → List Commit → List Commit → Type 0
EachMakes opening moment tree earlier [] commits acknowledged = (commits ≡ []) × (acknowledged ≡ earlier)
EachMakes opening moment tree earlier (ran ∷ more) commits acknowledged =
    (made in_flight later : List Commit) × (commits ≡ made ++ (in_flight ++ later)) × MakesCommits opening moment tree earlier ran made in_flight
    × EachMakes opening moment (tree_after tree ran) (earlier ++ made) more later acknowledged

-- The commits of the log are those of its lines, and of them these were acknowledged.
abbrev pub LineCommits : Base → ℤ → Option Tree → List Step → List RunLine → List Commit → Type 0
LineCommits opening moment tree steps lines acknowledged = EachMakes opening moment tree [] lines (begun steps) acknowledged
