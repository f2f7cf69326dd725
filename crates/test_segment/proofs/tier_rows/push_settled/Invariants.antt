use Rattle.test_segment.proofs.tier_rows.push_settled.Given as goal

abbrev pub ghosts-push_found : goal.ghosts-push_found
ghosts-push_found a = record { name = a.blank.name; parts = a.blank.parts }
