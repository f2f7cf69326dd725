use Rattle.nm_tables.proofs.measured_labels.MeasuredLabels.dead_thread.Given as goal

abbrev pub ghosts-thread_uncounted : goal.ghosts-thread_uncounted
ghosts-thread_uncounted a = record { name = a.blank.name; parts = a.blank.parts }
