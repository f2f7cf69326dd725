-- The live messages of a thread, by the labels. For the proof of `messages_of`.
use Rattle.std.proofs.Common.{◌≡◌, refl, sym, ap, ◌∙◌, ℕ, Bool, true, false, cond, ◌==◌, List, [], ◌∷◌, map, filter, Option, Some}
use Rattle.std.specs.Prelude.{Contains}
use Rattle.nm_commit.specs.Files.{has_id}
use Rattle.nm_model_index.specs.Index.{live_ids, rows_of}
use Rattle.nm_model_index.specs.declared.base.Base.{Base}
use Rattle.nm_threads.specs.Labels.{AreLabelsOf, Label, entries_of, named}
use Rattle.nm_threads.specs.Name.{thread_name}
use Rattle.nm_state.specs.Snapshot.{has_name, thread_messages}
use Rattle.nm_base.specs.KeyLaws.{Contains_first, Contains_there}

kept : {X : Type 0} (p : X → Bool) (x : X) (rest : List X) → p x ≡ true → filter p (x ∷ rest) ≡ x ∷ filter p rest
kept p x rest passes = rw passes refl

dropped : {X : Type 0} (p : X → Bool) (x : X) (rest : List X) → p x ≡ false → filter p (x ∷ rest) ≡ filter p rest
dropped p x rest passes = rw passes refl

-- the ids of labels, and of entries
abbrev ids_in : List Label → List (List ℕ)
ids_in labels = map (λ label. label.id) labels

abbrev firsts : List (List ℕ × ℕ) → List (List ℕ)
firsts entries = map (λ entry. entry.0) entries

-- a label more, which is of the thread or not, and is live or not
one_label : (live of_thread : List ℕ → Bool) (label : Label) (labels : List Label) (entries : List (List ℕ × ℕ)) (is_of is_live : Bool) → of_thread label.id ≡ is_of → live label.id ≡ is_live
    → filter live (ids_in labels) ≡ filter of_thread (firsts entries)
    → filter live (ids_in (cond is_of (label ∷ labels) labels)) ≡ filter of_thread (firsts (cond is_live ((label.id, label.number) ∷ entries) entries))
one_label live of_thread label labels entries true true is_of is_live more =
    kept live label.id (ids_in labels) is_live ∙ ap (λ rest. label.id ∷ rest) more ∙ sym (kept of_thread label.id (firsts entries) is_of)
one_label live of_thread label labels entries true false is_of is_live more = dropped live label.id (ids_in labels) is_live ∙ more
one_label live of_thread label labels entries false true is_of is_live more = more ∙ sym (dropped of_thread label.id (firsts entries) is_of)
one_label live of_thread label labels entries false false is_of is_live more = more

live_by : (live : List ℕ → Bool) (name_of : List ℕ → Option ℕ) (name : ℕ) (labels : List Label) → ((label : Label) → Contains labels label → name_of label.id ≡ Some label.name)
    → filter live (ids_in (named name labels)) ≡ filter (λ id. has_name name (name_of id)) (firsts (filter (λ entry. live entry.0) (entries_of labels)))
live_by live name_of name [] names = refl
live_by live name_of name (label ∷ labels) names =
    one_label live (λ id. has_name name (name_of id)) label (named name labels) (filter (λ entry. live entry.0) (entries_of labels)) (label.name == name) (live label.id)
    (ap (has_name name) (names label (Contains_first label labels))) refl
    (live_by live name_of name labels (λ other among. names other (Contains_there label labels other among)))

-- of the ids of a thread those that are live are its messages
pub live_members : (index : Base) (labels : List Label) (name : ℕ) → index.entries ≡ entries_of labels → AreLabelsOf (rows_of index) labels
    → filter (has_id index.files) (map (λ label. label.id) (named name labels)) ≡ thread_messages index name
live_members index labels name is are =
    live_by (has_id index.files) (thread_name (rows_of index) (entries_of labels)) name labels are.names
    ∙ ap (λ entries. filter (λ id. has_name name (thread_name (rows_of index) entries id)) (live_ids index.files entries)) (sym is)
