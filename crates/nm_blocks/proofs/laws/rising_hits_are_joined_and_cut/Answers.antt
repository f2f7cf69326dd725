use Rattle.nm_blocks.proofs.RunLemmas.{rises_on, rising-drop, rising-take}
use Rattle.nm_blocks.proofs.laws.rising_hits_are_joined_and_cut.Goals as goal

pub returns-clause-joined : goal.returns-clause-joined
returns-clause-joined c = rises_on

pub returns-clause-front : goal.returns-clause-front
returns-clause-front c = λ hits n rising. rising-take n hits rising

pub returns-clause-back : goal.returns-clause-back
returns-clause-back c = λ hits n rising. rising-drop n hits rising
