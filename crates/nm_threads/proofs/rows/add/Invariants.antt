use Rattle.std.proofs.Common.{◌≡◌, ◌+◌, ◌≤◌, ℕ, List, [], ◌∷◌, take, drop}
use Rattle.std.specs.Prelude.{Contains}
use Rattle.nm_base.specs.declared.facts.LinkRow.{LinkRow}
use Rattle.nm_threads.specs.Fits.{Fits}
use Rattle.nm_threads.specs.Labels.{AreLabelsOf, entries_of, numbered, thread_len}
use Rattle.nm_threads.specs.Maps.{AreMaps, labelling_of}
use Rattle.nm_threads.specs.Work.{Doubles, link_steps, potential}
use Rattle.nm_threads.proofs.rows.add.Given as goal

abbrev pub invariant-links : goal.invariant-links
invariant-links g l = record {
  maps : AreMaps l.maps;
  numbers : ◌≡◌ {A = List (List ℕ × ℕ) × ℕ} (entries_of (labelling_of l.maps).labels, l.maps.next) (numbered (entries_of (labelling_of l.fn.maps).labels) l.fn.maps.next (l.fn.row.id ∷ take l.link-index l.link-items));
  labels : (rows : List LinkRow) → AreLabelsOf rows (labelling_of l.fn.maps).labels → Fits ((record { id = l.fn.row.id; links = take l.link-index l.link-items }) ∷ rows) (labelling_of l.maps).labels;
  own : Contains l.maps.ids (l.number, l.fn.row.id);
  work : (f : ℕ → ℕ) → Doubles f → l.steps + potential f (labelling_of l.fn.maps).labels ≤ l.fn.steps + (1 + l.link-index) + potential f (labelling_of l.maps).labels;
  looked : l.fn.steps + (1 + l.link-index) ≤ l.steps;
  exact : (rows : List LinkRow) → AreLabelsOf rows (labelling_of l.fn.maps).labels
      → l.steps + link_steps rows (entries_of (labelling_of l.fn.maps).labels, l.fn.maps.next) l.fn.row.id (take l.link-index l.link-items) (drop l.link-index l.link-items) ≡ l.fn.steps + (1 + link_steps rows (entries_of (labelling_of l.fn.maps).labels, l.fn.maps.next) l.fn.row.id [] l.link-items);
  steps : l.steps ≤ l.fn.steps + (1 + l.link-index) + thread_len l.fn.row.id (labelling_of l.maps).labels;
}
