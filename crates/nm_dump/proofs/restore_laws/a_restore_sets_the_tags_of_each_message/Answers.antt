use Rattle.nm_dump.proofs.RestoredLemmas.{live_restored, strangers_kept, unnamed_kept}
use Rattle.nm_dump.proofs.restore_laws.a_restore_sets_the_tags_of_each_message.Goals as goal

pub returns-clause-live : goal.returns-clause-live
returns-clause-live c = let law = c.a_line_tags_what_it_finds.ensures in live_restored law.found law.others law.rest

pub returns-clause-unnamed : goal.returns-clause-unnamed
returns-clause-unnamed c = let law = c.a_line_tags_what_it_finds.ensures in unnamed_kept law.found law.others law.rest law.kept

pub returns-clause-strangers : goal.returns-clause-strangers
returns-clause-strangers c = let law = c.a_line_tags_what_it_finds.ensures in strangers_kept law.found law.others law.rest law.kept
