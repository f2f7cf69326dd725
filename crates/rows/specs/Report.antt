-- What the report says of the rows: a line for each, and how many went right, went wrong, or could not be read.
-- Cited by `report` and `table`.
use Rattle.std.specs.Prelude.{ℕ, ◌≡◌, ◌<◌, ◌+◌, List, ◌++◌, codes}
use Rattle.std.specs.Fmt.{decimal}
use Rattle.nm_base.specs.Limits.{max_count, one_more}

-- the lines so far, and the counts
pub record Reported : Type 0 where
  pub lines : List ℕ
  pub ok : ℕ
  pub wrong : ℕ
  pub broken : ℕ

-- how many rows were reported
abbrev pub told : Reported → ℕ
told report = report.ok + report.wrong + report.broken

-- a row of this name went right
abbrev pub with_right : Reported → List ℕ → Reported
with_right old name = record old { lines = old.lines ++ codes "ok " ++ name ++ codes "\n"; ok = one_more old.ok }

-- the row of this name, in this line of the table, went wrong, and this is said of it
abbrev pub with_wrong : Reported → List ℕ → ℕ → List ℕ → Reported
with_wrong old name number why = record old {
  lines = old.lines ++ codes "WRONG " ++ name ++ codes " (line " ++ decimal number ++ codes ")" ++ why;
  wrong = one_more old.wrong;
}

-- the row in this line of the table cannot be read, and why
abbrev pub with_broken : Reported → ℕ → List ℕ → Reported
with_broken old number why = record old {
  lines = old.lines ++ codes "BROKEN ROW line " ++ decimal number ++ codes ": " ++ why ++ codes "\n";
  broken = one_more old.broken;
}

-- one row more was reported; a count stops at its type's end
abbrev pub TellsOneMore : Reported → Reported → Type 0
TellsOneMore old new = told old < max_count → told new ≡ told old + 1

-- the whole report: the lines, and the counts in its last line
abbrev pub whole : Reported → List ℕ
whole report =
    report.lines ++ decimal report.ok ++ codes " ok, " ++ decimal report.wrong ++ codes " wrong, " ++ decimal report.broken ++ codes " broken\n"
