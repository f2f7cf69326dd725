use Rattle.nm_tables.proofs.measured_labels.MeasuredLabels.members.Given as goal

abbrev pub ghosts-members_uncounted : goal.ghosts-members_uncounted
ghosts-members_uncounted a = record { name = a.blank.name; parts = a.blank.parts }
