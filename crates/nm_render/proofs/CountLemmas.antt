-- Messages counted one after the other. For the proofs of `author_of`, `add_files`, `count_threads` and others.
use Rattle.std.proofs.Common.{◌≡◌, ℕ, ◌+◌, ◌<◌, Bool, true, false, ◌||◌, List, [], ◌∷◌, ◌++◌, length, take, get_or, if◌then◌else◌, refl, sym, ap, ◌∙◌}
use Rattle.std.specs.BTreeSet.{insert_key}
use Rattle.std.specs.List.{filter, filter_map, fold}
use Rattle.std.specs.Ordering.{nat_cmp}
use Rattle.std.proofs.lemmas.List.{take_more}
use Rattle.std.proofs.lemmas.List.Elements.{filter_map-append}
use Rattle.std.proofs.lemmas.List.Sums.{fold-append}
use Rattle.nm_model_answer.specs.Count.{thread_names}
use Rattle.nm_base.specs.Order.{same_text}
use Rattle.nm_base.specs.declared.facts.Facts.{Facts}
use Rattle.nm_commit.specs.Files.{has_id}
use Rattle.nm_model_index.specs.Index.{rows_of}
use Rattle.nm_model_index.specs.declared.base.Base.{Base}
use Rattle.nm_threads.specs.Name.{thread_name}

-- a message more
pub threads_more : (index : Base) (ids : List (List ℕ)) (i : ℕ) (id : List ℕ) → i < length ids → id ≡ get_or ids i id → thread_names index (take (i + 1) ids)
    ≡ fold (insert_key nat_cmp) (thread_names index (take i ids)) (filter_map (thread_name (rows_of index) index.entries) (id ∷ []))
threads_more index ids i id h is =
    let name = thread_name (rows_of index) index.entries in
    ap (thread_names index) (take_more ids i id h)
    ∙ (ap (λ (last : List ℕ). thread_names index (take i ids ++ last ∷ [])) (sym is)
    ∙ (ap (fold (insert_key nat_cmp) []) (filter_map-append name (take i ids) (id ∷ []))
    ∙ fold-append (insert_key nat_cmp) [] (filter_map name (take i ids)) (filter_map name (id ∷ []))))

or_false : (a b : Bool) → (a || b) ≡ false → (a ≡ false) × (b ≡ false)
or_false false b e = (refl, e)
or_false true b e = absurd (cc)

-- a message without a file has no files
pub no_files : (id : List ℕ) (files : List (List ℕ × Facts)) → has_id files id ≡ false → filter (λ file. same_text id file.1.id) files ≡ []
no_files id [] e = refl
no_files id (file ∷ files) e =
    let parts = or_false (same_text id file.1.id) (has_id files id) e in
    ap (λ b. if b then file ∷ filter (λ file. same_text id file.1.id) files else filter (λ file. same_text id file.1.id) files) parts.0 ∙ no_files id files parts.1
