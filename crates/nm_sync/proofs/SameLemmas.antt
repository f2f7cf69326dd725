-- Files as sorted lists of their paths and ids. For `ScanLemmas` and the proof of `ids_only_in`.
use Rattle.std.proofs.Common.{◌≡◌, ℕ, ◌&&◌, not, List, [], length, fold, filter, map, sym, ap, ◌∙◌}
use Rattle.std.specs.Cmp.Lexicographic.{slice_cmp}
use Rattle.std.specs.Ordering.{nat_cmp}
use Rattle.std.proofs.lemmas.List.Kept.{IsStrictlySortedBy-filter}
use Rattle.nm_base.specs.Order.{IsSorted, has_text, insert, sorted}
use Rattle.nm_base.specs.declared.facts.Facts.{Facts}
use Rattle.nm_model_answer.specs.NewText.{ids_of, only_in}
use Rattle.nm_commit.specs.Files.{has_id, has_path, paths_of}
use Rattle.nm_base.specs.OrderLaws.{IsSorted-sorted}
use Rattle.nm_base.specs.SetLaws.{has_text-filter, has_text-sorted}
use Rattle.nm_base.specs.SortedLaws.{same_sorted}

-- sorted paths that are those of the files
pub paths-are : (files : List (List ℕ × Facts)) (paths : List (List ℕ)) → IsSorted paths → ((path : List ℕ) → has_text paths path ≡ has_path files path) → paths ≡ sorted (paths_of files)
paths-are files paths rising same = same_sorted paths (sorted (paths_of files)) rising (IsSorted-sorted (paths_of files)) (λ path. same path ∙ sym (has_text-sorted (paths_of files) path))

-- the ids that some files lack, in order, of the ids of other files
abbrev pub lacking-ids : List (List ℕ × Facts) → List (List ℕ) → List (List ℕ)
lacking-ids files ids = filter (λ id. not (has_id files id)) ids

has_id-is : (files : List (List ℕ × Facts)) (id : List ℕ) → has_text (ids_of files) id ≡ has_id files id
has_id-is files id = has_text-sorted (map (λ file. file.1.id) files) id

pub only-are : (first second : List (List ℕ × Facts)) → sorted (lacking-ids first (map (λ file. file.1.id) second)) ≡ only_in first second
only-are first second =
    let ids : List (List ℕ) = map (λ file. file.1.id) second in
    same_sorted (sorted (lacking-ids first ids)) (only_in first second) (IsSorted-sorted (lacking-ids first ids))
    (IsStrictlySortedBy-filter (slice_cmp nat_cmp) (λ id. not (has_text (ids_of first) id)) (ids_of second) (IsSorted-sorted ids))
    (λ id. has_text-sorted (lacking-ids first ids) id
    ∙ (has_text-filter (λ other. not (has_id first other)) ids id
    ∙ (ap (λ b. b && not (has_id first id)) (sym (has_text-sorted ids id))
    ∙ (ap (λ b. has_text (ids_of second) id && not b) (sym (has_id-is first id))
    ∙ sym (has_text-filter (λ other. not (has_text (ids_of first) other)) (ids_of second) id)))))

pub ids-end : (first second : List (List ℕ × Facts)) (ids : List (List ℕ)) (rest : List (List ℕ × Facts)) → rest ≡ []
    → fold insert ids (lacking-ids first (map (λ file. file.1.id) rest)) ≡ sorted (lacking-ids first (map (λ file. file.1.id) second)) → length ids ≡ length (only_in first second)
ids-end first second ids rest none so_far =
    let all : ids ≡ sorted (lacking-ids first (map (λ file. file.1.id) second)) =
    sym (ap (λ (l : List (List ℕ × Facts)). fold insert ids (lacking-ids first (map (λ file. file.1.id) l))) none) ∙ so_far in
    ap (λ (l : List (List ℕ)). length l) (all ∙ only-are first second)
