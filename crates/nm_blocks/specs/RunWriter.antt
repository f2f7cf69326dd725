-- A run that grows hit by hit. Cited by `run_writer`.
use Rattle.std.specs.Prelude.{ℕ, ◌≤◌, IsTrue, List, ◌++◌, length}
use Rattle.nm_blocks.specs.declared.hit.Hit.{Hit}
use Rattle.nm_blocks.specs.Blocks.{IsRun, run_hits}
use Rattle.nm_blocks.specs.Hits.{is_rising}

-- whole blocks, and at most a block of hits that wait; together they rise
pub record IsWriting (blocks : List ℕ) (waiting : List Hit) : Type 0 where
  pub whole : IsRun blocks (run_hits blocks)
  pub few : length waiting ≤ 128
  pub rising : IsTrue (is_rising (run_hits blocks ++ waiting))
