-- The live messages with their files, as they are read. Cited by `live_messages`, `snapshot` and `nm_eval`.
use Rattle.std.specs.Prelude.{ℕ, List, map}
use Rattle.std.specs.Borrow.{Bor}
use Rattle.std.specs.List.{filter}
use Rattle.nm_base.specs.Order.{same_text}
use Rattle.nm_base.specs.declared.facts.Facts.{Facts}
use Rattle.nm_model_index.specs.Index.{live_ids}

-- the message of an id, with its files in the order of their arrival
abbrev pub with_files : List (List ℕ × Facts) → List ℕ → List ℕ × List (List ℕ × Facts)
with_files files id = (id, filter (λ file. same_text id file.1.id) files)

-- the messages that have a file, by their numbers, each with its files
abbrev pub live_messages : List (List ℕ × Facts) → List (List ℕ × ℕ) → List (List ℕ × List (List ℕ × Facts))
live_messages files entries = map (with_files files) (live_ids files entries)

-- what a message that is handed out with its files is
abbrev pub id_and_files : Bor (List ℕ) × List (List ℕ × Facts) → List ℕ × List (List ℕ × Facts)
id_and_files message = (message.0.now, message.1)
