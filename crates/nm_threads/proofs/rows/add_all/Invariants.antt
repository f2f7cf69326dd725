use Rattle.std.proofs.Common.{◌≡◌, ℕ, ◌+◌, ◌≤◌, List, [], length, take, drop}
use Rattle.std.specs.List.{flat_map}
use Rattle.nm_base.specs.declared.facts.LinkRow.{LinkRow}
use Rattle.nm_threads.specs.Labels.{AreLabelsOf, entries_of}
use Rattle.nm_threads.specs.Maps.{AreMaps, labelling_of}
use Rattle.nm_threads.specs.Same.{ids_of}
use Rattle.nm_threads.proofs.RowLemmas.{LabelsSoFar, Numbers}
use Rattle.nm_threads.specs.Work.{Doubles, potential, rows_steps}
use Rattle.nm_threads.proofs.rows.add_all.Given as goal

abbrev pub invariant-rows : goal.invariant-rows
invariant-rows g l = record {
  maps : AreMaps l.maps;
  numbers : Numbers l.fn.maps l.maps (flat_map ids_of (take l.row-index l.rows));
  work : (f : ℕ → ℕ) → Doubles f → l.steps + potential f (labelling_of l.fn.maps).labels ≤ l.fn.steps + length (flat_map ids_of (take l.row-index l.rows)) + potential f (labelling_of l.maps).labels;
  looked : l.fn.steps + length (flat_map ids_of (take l.row-index l.rows)) ≤ l.steps;
  exact : (others : List LinkRow) → AreLabelsOf others (labelling_of l.fn.maps).labels
      → l.steps + rows_steps others (entries_of (labelling_of l.fn.maps).labels, l.fn.maps.next) (take l.row-index l.rows) (drop l.row-index l.rows) ≡ l.fn.steps + rows_steps others (entries_of (labelling_of l.fn.maps).labels, l.fn.maps.next) [] l.rows;
  labels : LabelsSoFar l.fn.maps l.maps (take l.row-index l.rows);
}
