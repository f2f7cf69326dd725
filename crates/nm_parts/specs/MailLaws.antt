-- A mail that comes and one that goes, as the index has them part by part.
-- For proofs alone: those of `add_mail`, `drop_mail` and `nm_state`.
use Rattle.std.proofs.Common.{◌≡◌, refl, sym, ap, ◌∙◌, ℕ, ◌+◌, Bool, true, false, cond, List, [], ◌∷◌, ◌++◌}
use Rattle.std.specs.Prelude.{fold}
use Rattle.std.specs.BTreeMap.{insert_entry, is_at}
use Rattle.std.specs.BTreeSet.{insert_key}
use Rattle.std.specs.Cmp.Lexicographic.{slice_cmp}
use Rattle.std.specs.Map.{remove_entry}
use Rattle.std.specs.Ordering.{nat_cmp}
use Rattle.nm_base.specs.declared.facts.Facts.{Facts}
use Rattle.nm_commit.specs.Files.{has_id, without_path}
use Rattle.nm_model_index.specs.Index.{first_tags, has_entry, pruned, row_cmp, row_of, with_entry, with_first_tags, with_mail, without_mail}
use Rattle.nm_model_index.specs.declared.base.Base.{Base}
use Rattle.nm_threads.specs.Labels.{numbered}
use Rattle.nm_parts.specs.Parts.{with_files, without_file}

-- ---- numbers

numbered_by : (index pushed : Base) (ids : List (List ℕ)) (test : Bool) → pushed ≡ record index { entries = pushed.entries; next = pushed.next }
    → fold with_entry index ids ≡ record index { entries = (numbered index.entries index.next ids).0; next = (numbered index.entries index.next ids).1 }
    → fold with_entry pushed ids ≡ record pushed { entries = (numbered pushed.entries pushed.next ids).0; next = (numbered pushed.entries pushed.next ids).1 }
    → fold with_entry (cond test index pushed) ids ≡ record index { entries = (cond test (numbered index.entries index.next ids) (numbered pushed.entries pushed.next ids)).0; next = (cond test (numbered index.entries index.next ids) (numbered pushed.entries pushed.next ids)).1 }
numbered_by index pushed ids true same more less = more
numbered_by index pushed ids false same more less =
    less ∙ (λ i. record (same i) { entries = (numbered pushed.entries pushed.next ids).0; next = (numbered pushed.entries pushed.next ids).1 })

-- numbering one by one is numbering all
pub numbered_all : (ids : List (List ℕ)) (index : Base) → fold with_entry index ids ≡ record index { entries = (numbered index.entries index.next ids).0; next = (numbered index.entries index.next ids).1 }
numbered_all [] index = refl
numbered_all (id ∷ ids) index =
    let pushed : Base = record index { entries = index.entries ++ (id, index.next) ∷ []; next = index.next + 1 } in numbered_by index pushed ids (has_entry index id) refl (numbered_all ids index) (numbered_all ids pushed)

-- ---- an index with other tags

tagged_by : (test : Bool) (index : Base) (tags : List (List ℕ × List (List ℕ))) → cond test index (record index { tags = tags }) ≡ record index { tags = cond test index.tags tags }
tagged_by true index tags = refl
tagged_by false index tags = refl

-- ---- the index with the mail

-- the index once the mail is there, part by part
abbrev pub mailed : Base → List ℕ → Facts → Base
mailed index path facts =
    record index {
      next = (numbered index.entries index.next (facts.id ∷ facts.links)).1;
      files = index.files ++ (path, facts) ∷ [];
      entries = (numbered index.entries index.next (facts.id ∷ facts.links)).0;
      tags = cond (has_id index.files facts.id) index.tags (insert_entry (slice_cmp nat_cmp) index.tags facts.id (first_tags facts.marks));
    }

pub mailed_is : (index : Base) (path : List ℕ) (facts : Facts) → with_mail index path facts ≡ mailed index path facts
mailed_is index path facts =
    let ids : List (List ℕ) = facts.id ∷ facts.links in
    let all : Base = record index { entries = (numbered index.entries index.next ids).0; next = (numbered index.entries index.next ids).1 } in
    let tagged : with_first_tags (fold with_entry index ids) facts ≡ record all { tags = cond (has_id index.files facts.id) index.tags (insert_entry (slice_cmp nat_cmp) index.tags facts.id (first_tags facts.marks)) } =
    ap (λ b. with_first_tags b facts) (numbered_all ids index) ∙ tagged_by (has_id index.files facts.id) all (insert_entry (slice_cmp nat_cmp) index.tags facts.id (first_tags facts.marks)) in
    ap (λ (b : Base). with_files b (b.files ++ (path, facts) ∷ [])) tagged

-- ---- what goes with a mail

-- the tags of a message go before or after the rest
pub dropped_is : (index : Base) (path : List ℕ) (facts : Facts) → pruned (without_file index path facts) ≡ without_mail index path facts
dropped_is index path facts =
    let bare : Base = record index { files = without_path index.files path; kept = insert_key row_cmp index.kept (row_of facts) } in
    sym (tagged_by (has_id (without_path index.files path) facts.id) (pruned bare) (remove_entry (is_at (slice_cmp nat_cmp facts.id)) index.tags))
