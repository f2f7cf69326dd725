use Rattle.std.proofs.Common.{◌≡◌, ◌∙◌, ℕ, List, ap, arith, not, subst, sym}
use Rattle.std.specs.List.{filter}
use Rattle.nm_threads.specs.Labels.{AreLabelsOf, Labelling, entries_of}
use Rattle.nm_threads.specs.Same.{is_same}
use Rattle.nm_tables.specs.Measures.{entries_len, ids_len}
use Rattle.nm_tables.proofs.MeasureLemmas.{parted}
use Rattle.nm_tables.specs.MeasureLaws.{entries_ids}
use Rattle.nm_tables.proofs.measured_labels.MeasuredLabels.drop_thread.Goals as goal

pub invariant_of-self-2 : goal.invariant_of-self-2
invariant_of-self-2 c =
    let rows = c.requires.rows.0 in
    let test : List ℕ × ℕ → _ = λ entry. is_same rows c.args.id.now entry.0 in
    let entries : List (List ℕ × ℕ) = entries_of c.args.self.now.labels in
    let same : entries_of c.self.inside.labels.labels ≡ entries = ap (λ (l : Labelling). entries_of l.labels) c.self.view_is in
    let left : entries_of c.drop_thread_in_place.new.self.labels ≡ filter (λ entry. not (is_same rows c.args.id.now entry.0)) entries =
    c.in_ok-drop_thread_in_place.ensures.entries rows (subst (λ (l : Labelling). AreLabelsOf rows l.labels) (sym c.self.view_is) c.requires.rows.1) ∙ ap (filter (λ (entry : List ℕ × ℕ). not (is_same rows c.args.id.now entry.0))) same in
    let gone = c.in_ok-less.ensures ∙ ap ids_len (c.requires.members rows c.requires.rows.1) ∙ entries_ids (filter test entries) in
    let before : c.self.inside.bytes ≡ entries_len (entries_of c.self.inside.labels.labels) = c.self.invariant in
    let all = before ∙ ap entries_len same in
    let after = ap entries_len left in
    omega (arith, after, gone, all, parted test entries, c.saturating_sub-bytes.ensures)
