-- The indexes after commits, one commit after the other.
-- For the proofs of `Core::acknowledge` and `Core::index_after`.
use Rattle.std.proofs.Common.{◌≡◌, ℕ, zero, suc, ◌<◌, Bool, List, [], ◌∷◌, ◌++◌, Some, None, length, take, get_or, refl, ap, sym, subst, ◌∙◌, arith, length-append}
use Rattle.std.proofs.lemmas.List.{get_or-map, length-map, map-append}
use Rattle.nm_commit.specs.declared.change.Commit.{Commit}
use Rattle.nm_core.specs.Core.{AreIndexes, commits_of, indexes_after, indexes_of, machine_of, with_commit}
use Rattle.nm_core.specs.declared.machine.Made.{Made}
use Rattle.nm_model_index.specs.Index.{committed, folded}
use Rattle.nm_model_index.specs.declared.base.Base.{Base}
use Rattle.nm_model_machine.specs.Laws.{InOrder}

-- one commit more
pub indexes-more : (index : Base) (commits : List Commit) (commit : Commit) → indexes_after index (commits ++ commit ∷ []) ≡ indexes_after index commits ++ committed (folded index commits) commit ∷ []
indexes-more index [] commit = refl
indexes-more index (first ∷ commits) commit = ap (λ more. committed index first ∷ more) (indexes-more (committed index first) commits commit)

-- the index beside a commit is the one after it and those before it
pub index-at : (index : Base) (commits : List Commit) (k : ℕ) (none : Base) → k < length commits → get_or (indexes_after index commits) k none ≡ folded index (take (suc k) commits)
index-at index [] k none h = absurd (omega arith)
index-at index (first ∷ commits) zero none h = refl
index-at index (first ∷ commits) (suc k) none h = index-at (committed index first) commits k none (omega arith)

module _ (opening : Base) (made : List Made) (kept : indexes_of made ≡ indexes_after opening (commits_of made)) where
  -- beside a commit is the index after it and those before it
  pub index-beside : (k : ℕ) (none : Made) → k < length made → (get_or made k none).index ≡ folded opening (take (suc k) (commits_of made))
  index-beside k none h =
      sym (get_or-map (λ (one : Made). one.index) made k none none.index h)
      ∙ (ap (λ all. get_or all k none.index) kept ∙ index-at opening (commits_of made) k none.index (omega (arith, length-map made (λ (one : Made). one.commit))))

  -- a commit more, with the index after it
  pub kept-more : (one : Made) → one.index ≡ committed (folded opening (commits_of made)) one.commit → indexes_of (made ++ one ∷ []) ≡ indexes_after opening (commits_of (made ++ one ∷ []))
  kept-more one next =
      map-append (λ (m : Made). m.index) made (one ∷ [])
      ∙ (ap (λ all. all ++ one.index ∷ []) kept
      ∙ (ap (λ index. indexes_after opening (commits_of made) ++ index ∷ []) next
      ∙ (sym (indexes-more opening (commits_of made) one.commit) ∙ ap (indexes_after opening) (sym (map-append (λ (m : Made). m.commit) made (one ∷ []))))))

-- the machine once the commit that is begun is acknowledged
module _ (opening : Base) (made : List Made) (one : Made) (shown : ℕ) (lanes : List ℕ) (up : Bool) where
  pub acknowledged : machine_of opening (made ++ one ∷ []) None shown lanes up ≡ with_commit (machine_of opening made (Some one) shown lanes up) one.commit
  acknowledged = ap (λ commits. record { opening = opening; commits = commits; in_flight = None; shown = shown; lanes = lanes; up = up }) (map-append (λ (m : Made). m.commit) made (one ∷ []))

  pub order-more : (met : ℕ) → InOrder met (machine_of opening made (Some one) shown lanes up) → InOrder met (machine_of opening (made ++ one ∷ []) None shown lanes up)
  order-more met order = subst (InOrder met) (sym acknowledged) (record {
    seen = order.seen;
    known = order.known;
    last_barrier = order.last_barrier;
    shown = omega (arith, order.shown, length-append (commits_of made) (one.commit ∷ []));
  })

  pub indexes-kept : AreIndexes opening made (Some one) → AreIndexes opening (made ++ one ∷ []) None
  indexes-kept are = record { kept = kept-more opening made are.kept one are.next; next = tt }
