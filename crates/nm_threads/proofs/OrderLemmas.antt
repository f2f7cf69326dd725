-- The order of rows is nothing to labels. For the proof of `labels_know_no_order_of_rows`.
use Rattle.std.proofs.Common.{◌≡◌, sym, ap, ◌∙◌, ℕ, true, List, map}
use Rattle.std.specs.Prelude.{Contains}
use Rattle.std.proofs.lemmas.List.Elements.{filter_agree}
use Rattle.nm_base.specs.Order.{has_text}
use Rattle.nm_base.specs.declared.facts.LinkRow.{LinkRow}
use Rattle.nm_threads.specs.Labels.{Label, AreLabelsOf, entries_of, is_in_rows}
use Rattle.nm_threads.specs.Name.{least, thread_name}
use Rattle.nm_threads.specs.Same.{ids_of, is_same}
use Rattle.nm_base.specs.KeyLaws.{any_one, any_of}
use Rattle.nm_threads.proofs.NameLemmas.{alike}
use Rattle.nm_threads.proofs.SameLemmas.{Same_among, is_same_from, is_same_of}

module _ (rows others : List LinkRow) (there : (row : LinkRow) → Contains rows row → Contains others row) (back : (row : LinkRow) → Contains others row → Contains rows row) where
  same_test : (a b : List ℕ) → is_same rows a b ≡ is_same others a b
  same_test a b =
      alike (is_same rows a b) (is_same others a b) (λ is. is_same_of others a b (Same_among rows others a b there (is_same_from rows a b is))) (λ is. is_same_of rows a b (Same_among others rows a b back (is_same_from others a b is)))

  same_names : (entries : List (List ℕ × ℕ)) (id : List ℕ) → thread_name rows entries id ≡ thread_name others entries id
  same_names entries id = ap (λ kept. least (map (λ entry. entry.1) kept)) (filter_agree (λ entry. is_same rows id entry.0) (λ entry. is_same others id entry.0) (λ entry. same_test id entry.0) entries)

  known_back : (id : List ℕ) → is_in_rows others id ≡ true → is_in_rows rows id ≡ true
  known_back id is = let one = any_one (λ row. has_text (ids_of row) id) others is in any_of (λ row. has_text (ids_of row) id) rows one.0 (back one.0 one.1) one.2

  -- labels of some rows are those of the same rows in any order
  pub labels_among : (labels : List Label) → AreLabelsOf rows labels → AreLabelsOf others labels
  labels_among labels are = record {
    known = λ id is. are.known id (known_back id is);
    names = λ label among. sym (same_names (entries_of labels) label.id) ∙ are.names label among;
  }
