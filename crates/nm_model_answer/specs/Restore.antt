-- What a `restore` asks for, and the ids of its input that no message has.
-- Cited by `nm_dump`, `nm_log` and `nm_session`.
use Rattle.std.specs.Prelude.{ℕ, Bool, ◌&&◌, not, List, [], ◌∷◌, ◌++◌, map, codes, Ok, Err, if◌then◌else◌}
use Rattle.std.specs.List.{flat_map}
use Rattle.nm_base.specs.Order.{has_text}
use Rattle.nm_base.specs.declared.asks.RestoreAsk.{RestoreAsk}
use Rattle.nm_commit.specs.Files.{has_id}
use Rattle.nm_model_index.specs.declared.base.Base.{Base}
use Rattle.nm_query.specs.declared.query.Query.TheVariants.{Id}
use Rattle.nm_tags.specs.declared.wanted.Wanted.{Wanted}
use Rattle.nm_model_answer.specs.DumpLines.{read_dump}
use Rattle.nm_model_answer.specs.declared.tag_change.TagChange.{TagChange}

-- the lines that an input has; where one of them is out of its form it has none
abbrev pub dump_lines : RestoreAsk → List ℕ → List Wanted
dump_lines ask input = elim (read_dump input ask.form) [ Ok lines ↦ lines | Err fault ↦ [] ]

-- each line, and whether it is the first that names its message; these were named before
abbrev pub with_firsts : List (List ℕ) → List Wanted → List (Bool × Wanted)
with_firsts named [] = []
with_firsts named (line ∷ more) = (not (has_text named line.id), line) ∷ with_firsts (line.id ∷ named) more

-- what a line asks for: of the message of that id, from no tags where it is the first that names it, unless tags are to stay
abbrev pub restoring_of : Bool → Bool × Wanted → TagChange
restoring_of accumulate line = record { clear = line.0 && not accumulate; ops = line.1.ops; query = Id line.1.id }

-- what lines ask for
abbrev pub restorings_by : Bool → List Wanted → List TagChange
restorings_by accumulate lines = map (restoring_of accumulate) (with_firsts [] lines)

-- what a `restore` asks for
abbrev pub restorings_of : RestoreAsk → List ℕ → List TagChange
restorings_of ask input = restorings_by ask.accumulate (dump_lines ask input)

-- ---- ids that no message has

-- the id of a line, where no message has it and no line before named it
abbrev pub stranger_of : Base → Bool × Wanted → List (List ℕ)
stranger_of index line = if line.0 && not (has_id index.files line.1.id) then line.1.id ∷ [] else []

-- such ids in the order of the lines, each once
abbrev pub strangers : Base → List Wanted → List (List ℕ)
strangers index lines = flat_map (stranger_of index) (with_firsts [] lines)

-- the line that warns of one
abbrev pub stranger_line : List ℕ → List ℕ
stranger_line id = codes "Warning: no message: id:" ++ id ++ codes "\n"

-- the lines that warn of them
abbrev pub strangers_text : List (List ℕ) → List ℕ
strangers_text ids = flat_map stranger_line ids
