use Rattle.nm_tables.proofs.measured_labels.MeasuredLabels.add_row.Given as goal

abbrev pub ghosts-add_uncounted : goal.ghosts-add_uncounted
ghosts-add_uncounted a = record { name = a.blank.name; parts = a.blank.parts }
