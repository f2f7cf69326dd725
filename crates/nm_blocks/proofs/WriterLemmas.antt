-- A run that grows: a block of the hits that wait is one block more. For `run_writer`.
use Rattle.std.proofs.Common.{◌≡◌, ℕ, List, [], ◌++◌, length, drop, refl, ap, subst, sym, ◌∙◌, append-nil, arith}
use Rattle.std.specs.Prelude.{IsTrue}
use Rattle.std.proofs.lemmas.List.{drop_at}
use Rattle.nm_blocks.specs.declared.hit.Hit.{Hit}
use Rattle.nm_blocks.specs.Hits.{is_rising}
use Rattle.nm_blocks.specs.Blocks.{IsRun, run_hits}
use Rattle.nm_blocks.specs.RunWriter.{IsWriting}
use Rattle.nm_blocks.proofs.BlockLemmas.{run_is_read}
use Rattle.nm_blocks.proofs.ReadLemmas.{run_hits-nil}
use Rattle.nm_blocks.proofs.RunLemmas.{rising-drop, runs_joined}

-- of rising hits those after rise
pub rising_behind : (front back : List Hit) → IsTrue (is_rising (front ++ back)) → IsTrue (is_rising back)
rising_behind front back rising = let rest : drop (length front) (front ++ back) ≡ back = drop_at front back (length front) refl in subst (λ (hits : List Hit). IsTrue (is_rising hits)) rest (rising-drop (length front) (front ++ back) rising)

pub nothing_written : IsWriting [] []
nothing_written = record { whole = λ rest. ap (λ (hits : List Hit). hits ++ run_hits rest) (sym run_hits-nil); few = omega arith; rising = ap is_rising (ap (λ (hits : List Hit). hits ++ []) run_hits-nil) }

-- the hits that waited are a block
module _ (blocks block new : List ℕ) (waiting hits : List Hit) (writing : IsWriting blocks waiting) (same : hits ≡ waiting) (run : IsRun block hits) (added : new ≡ blocks ++ block) where
  joined : IsRun (blocks ++ block) (run_hits blocks ++ waiting)
  joined = runs_joined blocks block (run_hits blocks) waiting writing.whole (subst (λ (x : List Hit). IsRun block x) same run)

  pub closed_hits : run_hits new ≡ run_hits blocks ++ waiting
  closed_hits = ap run_hits added ∙ run_is_read (blocks ++ block) (run_hits blocks ++ waiting) joined

  pub closed : IsWriting new []
  closed = record {
    whole = rw (closed_hits, added) joined;
    few = omega arith;
    rising = rw (append-nil (run_hits new), closed_hits) writing.rising;
  }
