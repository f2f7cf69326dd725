-- The labels once the thread of an id is removed.
-- For the proofs of `Labels::drop_thread` and `Labels::drop_thread_in_place`.
use Rattle.std.proofs.Common.{◌≡◌, refl, sym, ap, subst, ◌∙◌, not, List}
use Rattle.std.specs.Prelude.{Contains}
use Rattle.std.specs.List.{filter}
use Rattle.nm_base.specs.declared.facts.LinkRow.{LinkRow}
use Rattle.nm_threads.specs.Fits.{Fits}
use Rattle.nm_threads.specs.Labels.{AreLabelsOf, IsLabelling, Label, Labelling, entries_of, without_name}
use Rattle.nm_threads.specs.Same.{is_same}
use Rattle.nm_threads.proofs.KeepLemmas.{entries_without, fits_without}
use Rattle.nm_threads.proofs.LabelLemmas.{fits_names, names_fits}

module _ (old : Labelling) (labelling : IsLabelling old) (own : Label) (among : Contains old.labels own) (new : List Label) (is : new ≡ without_name own.name old.labels) (rows : List LinkRow) (are : AreLabelsOf rows old.labels) where
  old_fits : Fits rows old.labels
  old_fits = names_fits rows old.labels old.next labelling are

  -- the ids of the thread have no numbers any more
  pub entries_gone : entries_of new ≡ filter (λ entry. not (is_same rows own.id entry.0)) (entries_of old.labels)
  entries_gone = ap entries_of is ∙ entries_without rows own.id old.labels old_fits own among refl

  -- the labels are those of the other rows
  pub labels_gone : AreLabelsOf (filter (λ row. not (is_same rows own.id row.id)) rows) new
  labels_gone =
      subst (AreLabelsOf (filter (λ row. not (is_same rows own.id row.id)) rows)) (sym is)
      (fits_names (filter (λ row. not (is_same rows own.id row.id)) rows) (without_name own.name old.labels) (fits_without rows own.id old.labels old_fits own among refl))
