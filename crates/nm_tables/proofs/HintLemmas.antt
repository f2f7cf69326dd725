-- A message with a file is of the threads whose name it has. For the proofs of `knows_live`.
use Rattle.std.proofs.Common.{◌≡◌, sym, ap, ◌∙◌, ℕ, true, List}
use Rattle.std.specs.Prelude.{◌↔◌, IsTrue, Contains}
use Rattle.std.specs.List.{list_any}
use Rattle.nm_base.specs.declared.facts.Facts.{Facts}
use Rattle.nm_base.specs.declared.facts.LinkRow.{LinkRow}
use Rattle.nm_commit.specs.Files.{has_id}
use Rattle.nm_threads.specs.Labels.{AreLabelsOf, IsLabelling, Label, Labelling, entries_of}
use Rattle.nm_threads.specs.Name.{AreDistinct, thread_name}
use Rattle.nm_threads.specs.Same.{Same, is_same}
use Rattle.nm_tables.specs.Hints.{LivesIn, thread_ids}
use Rattle.nm_tables.specs.FilterLaws.{in_filter}
use Rattle.nm_base.specs.KeyLaws.{Contains_from_map, Contains_map, any_of}

distinct : (l : Labelling) → IsLabelling l → AreDistinct (entries_of l.labels)
distinct l is a b n p q =
    let x = Contains_from_map (λ (label : Label). (label.id, label.number)) l.labels (a, n) p in
    let y = Contains_from_map (λ (label : Label). (label.id, label.number)) l.labels (b, n) q in
    sym (ap (λ (e : List ℕ × ℕ). e.0) x.2) ∙ ap (λ (label : Label). label.id) (is.numbers x.0 y.0 x.1 y.1 (ap (λ (e : List ℕ × ℕ). e.1) x.2 ∙ sym (ap (λ (e : List ℕ × ℕ). e.1) y.2))) ∙ ap (λ (e : List ℕ × ℕ). e.0) y.2

module _ (one_name : (rows : List LinkRow) (entries : List (List ℕ × ℕ)) (a b : List ℕ) (m n : ℕ) → AreDistinct entries → Contains entries (a, m) → Contains entries (b, n) → (thread_name rows entries a ≡ thread_name rows entries b) ↔ Same rows a b)
    (computed : (rows : List LinkRow) (a b : List ℕ) → IsTrue (is_same rows a b) ↔ Same rows a b) where
  -- where a message of the name has a file, one of the thread of each id of that name has
  pub thread_lives : (l : Labelling) (files : List (List ℕ × Facts)) (name : ℕ) (id other : List ℕ) (number : ℕ) → IsLabelling l → Contains l.labels (record { id = id; number = number; name = name }) → LivesIn files l.labels name other
      → (rows : List LinkRow) → AreLabelsOf rows l.labels → list_any (has_id files) (thread_ids rows (entries_of l.labels) id) ≡ true
  thread_lives l files name id other number is own lives rows are =
      let entries : List (List ℕ × ℕ) = entries_of l.labels in
      let here : Contains entries (id, number) = Contains_map (λ (label : Label). (label.id, label.number)) l.labels (record { id = id; number = number; name = name }) own in
      let there : Contains entries (other, lives.number) = Contains_map (λ (label : Label). (label.id, label.number)) l.labels (record { id = other; number = lives.number; name = name }) lives.label in
      let named : thread_name rows entries id ≡ thread_name rows entries other = are.names (record { id = id; number = number; name = name }) own ∙ sym (are.names (record { id = other; number = lives.number; name = name }) lives.label) in
      let same : Same rows id other = (one_name rows entries id other number lives.number (distinct l is) here there).0 named in
      any_of (has_id files) (thread_ids rows entries id) other
      (Contains_map (λ (entry : List ℕ × ℕ). entry.0) _ (other, lives.number) (in_filter (λ (entry : List ℕ × ℕ). is_same rows id entry.0) entries (other, lives.number) there ((computed rows id other).1 same))) lives.live
