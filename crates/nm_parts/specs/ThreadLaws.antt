-- What is known of threads, in one: the test of one thread, and that no order of rows counts. Cited by `thread_ids`.
use Rattle.std.specs.Prelude.{ℕ, ◌↔◌, List, IsTrue, Contains}
use Rattle.nm_base.specs.declared.facts.LinkRow.{LinkRow}
use Rattle.nm_threads.specs.Labels.{AreLabelsOf, Label}
use Rattle.nm_threads.specs.Same.{Same, is_same, stand_together}

pub record ThreadLaws : Type 0 where
  pub computed : (rows : List LinkRow) (a b : List ℕ) → IsTrue (is_same rows a b) ↔ Same rows a b
  pub itself : (rows : List LinkRow) (a : List ℕ) → Same rows a a
  pub turned : (rows : List LinkRow) (a b : List ℕ) → Same rows a b → Same rows b a
  pub through : (rows : List LinkRow) (a b c : List ℕ) → Same rows a b → Same rows b c → Same rows a c
  pub beside : (rows : List LinkRow) (a b : List ℕ) → IsTrue (stand_together rows a b) → Same rows a b
  pub among : (rows others : List LinkRow) (a b : List ℕ) → ((row : LinkRow) → Contains rows row → Contains others row) → Same rows a b → Same others a b
  pub unordered : (rows others : List LinkRow) (labels : List Label) → ((row : LinkRow) → Contains rows row → Contains others row) → ((row : LinkRow) → Contains others row → Contains rows row) → AreLabelsOf rows labels → AreLabelsOf others labels
