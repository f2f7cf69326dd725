-- The tags after a commit: those that names say of the messages that it is about, and those that were there of all others.
-- For the proof of `tags_follow_the_names`.
use Rattle.std.proofs.Common.{◌≡◌, ℕ, ◌+◌, ◌<◌, Bool, true, false, ◌||◌, ◌&&◌, cond, List, [], ◌∷◌, ◌++◌, Option, Some, fold, filter, map, refl, sym, ap, ◌∙◌}
use Rattle.std.specs.Prelude.{unwrap_or}
use Rattle.std.specs.BTreeMap.{insert_entry, is_at}
use Rattle.std.specs.Cmp.Lexicographic.{nat_list_eq_equiv, pointwise, slice_cmp, texts_ties}
use Rattle.std.specs.List.{AllByRecursion, flat_map}
use Rattle.std.specs.Map.{lookup}
use Rattle.std.specs.Ordering.{is_eq, match_ordering, nat_cmp}
use Rattle.std.specs.declared.cmp.Ordering.{Ordering}
use Rattle.std.specs.declared.cmp.Ordering.TheVariants.{Less, Equal, Greater}
use Rattle.std.proofs.lemmas.Grind.{fold-append}
use Rattle.std.proofs.lemmas.Bool.{or_parts, and_right}
use Rattle.nm_base.specs.Order.{has_text, same_text}
use Rattle.nm_base.specs.declared.facts.Facts.{Facts}
use Rattle.nm_commit.specs.Files.{has_id}
use Rattle.nm_commit.specs.declared.change.Change.{Change}
use Rattle.nm_commit.specs.declared.change.Change.TheVariants.{SetTags}
use Rattle.nm_model_index.specs.Index.{applied, first_tags, folded, has_entry, live_ids, with_entry, with_mail, with_tags}
use Rattle.nm_model_index.specs.declared.base.Base.{Base}
use Rattle.nm_model_answer.specs.View.{tags_of}
use Rattle.nm_model_plan.specs.NameTags.{commit_of, follow_names, live_of, named_tags, set_tags}
use Rattle.nm_model_plan.specs.Numbering.{AreNumbered, InOrder}
use Rattle.nm_model_plan.specs.Plan.{add_of}
use Rattle.nm_model_plan.proofs.FitLemmas.{IsApart, apart-filter}
use Rattle.nm_model_plan.proofs.NumberLemmas.{changes-kept}
use Rattle.nm_base.specs.SetLaws.{bytes_same, has_text-filter}

abbrev Texts : Type 0
Texts = List (List ℕ)

abbrev Tagged : Type 0
Tagged = List (List ℕ × Texts)

-- what is set is there
own-first : (id : List ℕ) (tags : Texts) (more : Tagged) → lookup (is_at (slice_cmp nat_cmp id)) ((id, tags) ∷ more) ≡ Some tags
own-first id tags more = ap (λ (b : Bool). cond b (Some tags) (lookup (is_at (slice_cmp nat_cmp id)) more)) (sym (texts_ties id id) ∙ nat_list_eq_equiv.refl id)

own-by : (id : List ℕ) (tags : Texts) (entry : List ℕ × Texts) (more : Tagged) (o : Ordering) → slice_cmp nat_cmp id entry.0 ≡ o → lookup (is_at (slice_cmp nat_cmp id)) (insert_entry (slice_cmp nat_cmp) more id tags) ≡ Some tags
    → lookup (is_at (slice_cmp nat_cmp id)) (match_ordering o ((id, tags) ∷ entry ∷ more) ((entry.0, tags) ∷ more) (entry ∷ insert_entry (slice_cmp nat_cmp) more id tags)) ≡ Some tags
own-by id tags entry more Less is h = own-first id tags (entry ∷ more)
own-by id tags entry more Equal is h = ap (λ (o : Ordering). cond (is_eq o) (Some tags) (lookup (is_at (slice_cmp nat_cmp id)) more)) is
own-by id tags entry more Greater is h = ap (λ (o : Ordering). cond (is_eq o) (Some entry.1) (lookup (is_at (slice_cmp nat_cmp id)) (insert_entry (slice_cmp nat_cmp) more id tags))) is ∙ h

lookup-own : (id : List ℕ) (tags : Texts) (entries : Tagged) → lookup (is_at (slice_cmp nat_cmp id)) (insert_entry (slice_cmp nat_cmp) entries id tags) ≡ Some tags
lookup-own id tags [] = own-first id tags []
lookup-own id tags (entry ∷ entries) = own-by id tags entry entries (slice_cmp nat_cmp id entry.0) refl (lookup-own id tags entries)

pub tags-own : (index : Base) (id : List ℕ) (tags : Texts) → tags_of (with_tags index id tags) id ≡ tags
tags-own index id tags = ap (λ (o : Option Texts). unwrap_or o []) (lookup-own id tags index.tags)

-- lists of texts that compare as the same are
same-by : (x y : List ℕ) (xs ys : Texts) (b : Bool) → same_text x y ≡ b → (b && pointwise same_text xs ys) ≡ true → (pointwise same_text xs ys ≡ true → xs ≡ ys) → x ∷ xs ≡ y ∷ ys
same-by x y xs ys true is h more = ap (λ (t : List ℕ). t ∷ xs) (bytes_same x y (sym is)) ∙ ap (λ (l : Texts). y ∷ l) (more h)
same-by x y xs ys false is h more = absurd (cc)

texts-same : (xs ys : Texts) → pointwise same_text xs ys ≡ true → xs ≡ ys
texts-same [] [] h = refl
texts-same [] (y ∷ ys) h = absurd (cc)
texts-same (x ∷ xs) [] h = absurd (cc)
texts-same (x ∷ xs) (y ∷ ys) h = same-by x y xs ys (same_text x y) refl h (texts-same xs ys)

none-same : (x : List ℕ) (ids : Texts) → AllByRecursion (λ other. same_text x other ≡ false) ids → has_text ids x ≡ false
none-same x [] h = refl
none-same x (id ∷ ids) h = ap (λ b. b || has_text ids x) h.0 ∙ none-same x ids h.1

-- live messages are listed once each
live-other-cond : (x : List ℕ) (b : Bool) (entry : List ℕ × ℕ) (rest : List (List ℕ × ℕ)) → same_text x entry.0 ≡ false → AllByRecursion (λ other. same_text x other ≡ false) (map (λ e. e.0) rest)
    → AllByRecursion (λ other. same_text x other ≡ false) (map (λ e. e.0) (cond b (entry ∷ rest) rest))
live-other-cond x true entry rest first more = (first, more)
live-other-cond x false entry rest first more = more

live-other : (files : List (List ℕ × Facts)) (first : List ℕ × ℕ) (entries : List (List ℕ × ℕ)) → AllByRecursion (λ other. (same_text first.0 other.0 ≡ false) × (first.1 < other.1)) entries
    → AllByRecursion (λ other. same_text first.0 other ≡ false) (live_ids files entries)
live-other files first [] h = tt
live-other files first (entry ∷ entries) h = live-other-cond first.0 (has_id files entry.0) entry (filter (λ e. has_id files e.0) entries) h.0.0 (live-other files first entries h.1)

live-cond : (b : Bool) (entry : List ℕ × ℕ) (rest : List (List ℕ × ℕ)) → AllByRecursion (λ other. same_text entry.0 other ≡ false) (map (λ e. e.0) rest) → IsApart (map (λ e. e.0) rest) → IsApart (map (λ e. e.0) (cond b (entry ∷ rest) rest))
live-cond true entry rest first more = (first, more)
live-cond false entry rest first more = more

pub live-apart : (files : List (List ℕ × Facts)) (next : ℕ) (entries : List (List ℕ × ℕ)) → InOrder next entries → IsApart (live_ids files entries)
live-apart files next [] h = tt
live-apart files next (entry ∷ entries) h = live-cond (has_id files entry.0) entry (filter (λ e. has_id files e.0) entries) (live-other files entry entries h.1) (live-apart files next entries h.2)

module _ (others : (index : Base) (id other : List ℕ) (tags : Texts) → same_text other id ≡ false → lookup (is_at (slice_cmp nat_cmp other)) (with_tags index id tags).tags ≡ lookup (is_at (slice_cmp nat_cmp other)) index.tags) where
  other-by : (b : Bool) (index : Base) (x id : List ℕ) (tags : Texts) → same_text id x ≡ false → tags_of (cond b index (with_tags index x tags)) id ≡ tags_of index id
  other-by true index x id tags apart = refl
  other-by false index x id tags apart = ap (λ (o : Option Texts). unwrap_or o []) (others index x id tags apart)

  set-by : (b : Bool) (index : Base) (x : List ℕ) (old tags : Texts) → pointwise same_text old tags ≡ b → tags_of index x ≡ old → tags_of (cond b index (with_tags index x tags)) x ≡ tags
  set-by true index x old tags same is = is ∙ texts-same old tags same
  set-by false index x old tags same is = tags-own index x tags

  module _ (old new : List ℕ → Texts) where
    abbrev sets : Texts → List Change
    sets ids = flat_map (λ id. set_tags id (old id) (new id)) ids

    first-set : (b : Bool) (index : Base) (x : List ℕ) (tags : Texts) (more : List Change) → fold applied index (cond b [] (SetTags x tags ∷ []) ++ more) ≡ fold applied (cond b index (with_tags index x tags)) more
    first-set true index x tags more = refl
    first-set false index x tags more = refl

    -- of the others they stay
    pub sets-other : (ids : Texts) (index : Base) (id : List ℕ) → has_text ids id ≡ false → tags_of (fold applied index (sets ids)) id ≡ tags_of index id
    sets-other [] index id none = refl
    sets-other (x ∷ ids) index id none =
        let apart = or_parts (same_text id x) (has_text ids id) none in
        let b : Bool = pointwise same_text (old x) (new x) in
        ap (λ (i : Base). tags_of i id) (first-set b index x (new x) (sets ids)) ∙ (sets-other ids (cond b index (with_tags index x (new x))) id apart.1 ∙ other-by b index x id (new x) apart.0)

    own-case : (x : List ℕ) (ids : Texts) (index : Base) (id : List ℕ) (t : Bool) → same_text id x ≡ t → IsApart (x ∷ ids) → (t || has_text ids id) ≡ true → tags_of index id ≡ old id
        → ((after : Base) → has_text ids id ≡ true → tags_of after id ≡ old id → tags_of (fold applied after (sets ids)) id ≡ new id) → tags_of (fold applied index (sets (x ∷ ids))) id ≡ new id
    own-case x ids index id true is apart there begins more =
        let b : Bool = pointwise same_text (old x) (new x) in
        let one : id ≡ x = bytes_same id x (sym is) in
        let after : Base = cond b index (with_tags index x (new x)) in
        ap (λ (i : Base). tags_of i id) (first-set b index x (new x) (sets ids))
        ∙ (sets-other ids after id (ap (has_text ids) one ∙ none-same x ids apart.0)
        ∙ (ap (tags_of after) one ∙ (set-by b index x (old x) (new x) refl (ap (tags_of index) (sym one) ∙ (begins ∙ ap old one)) ∙ ap new (sym one))))
    own-case x ids index id false is apart there begins more =
        let b : Bool = pointwise same_text (old x) (new x) in
        let after : Base = cond b index (with_tags index x (new x)) in
        ap (λ (i : Base). tags_of i id) (first-set b index x (new x) (sets ids)) ∙ more after there (other-by b index x id (new x) is ∙ begins)

    -- of these they are the new ones
    pub sets-own : (ids : Texts) (index : Base) (id : List ℕ) → IsApart ids → has_text ids id ≡ true → tags_of index id ≡ old id → tags_of (fold applied index (sets ids)) id ≡ new id
    sets-own [] index id apart there begins = absurd (cc)
    sets-own (x ∷ ids) index id apart there begins = own-case x ids index id (same_text id x) refl apart there begins (λ after here is. sets-own ids after id apart.1 here is)

  -- the messages that a commit is about
  pub tags-followed : (index : Base) (change : Change) (changes : List Change) (ids : Texts) (id : List ℕ) → AreNumbered index → has_text (live_of (fold applied index (change ∷ changes)) ids) id ≡ true
      → tags_of (folded index (commit_of index (change ∷ changes) ids)) id ≡ named_tags (fold applied index (change ∷ changes)) id
  tags-followed index change changes ids id numbered there =
      let mid : Base = fold applied index (change ∷ changes) in
      ap (λ (i : Base). tags_of i id) (fold-append applied index (change ∷ changes) (follow_names mid ids))
      ∙ sets-own (tags_of mid) (named_tags mid) (live_of mid ids) mid id
      (apart-filter (has_text ids) (live_ids mid.files mid.entries) (live-apart mid.files mid.next mid.entries (changes-kept (change ∷ changes) index numbered))) there refl

  -- and all others
  pub tags-stay : (index : Base) (change : Change) (changes : List Change) (ids : Texts) (id : List ℕ) → has_text ids id ≡ false
      → tags_of (folded index (commit_of index (change ∷ changes) ids)) id ≡ tags_of (fold applied index (change ∷ changes)) id
  tags-stay index change changes ids id none =
      let mid : Base = fold applied index (change ∷ changes) in
      ap (λ (i : Base). tags_of i id) (fold-append applied index (change ∷ changes) (follow_names mid ids))
      ∙ sets-other (tags_of mid) (named_tags mid) (live_of mid ids) mid id
      (has_text-filter (has_text ids) (live_ids mid.files mid.entries) id ∙ and_right (has_text (live_ids mid.files mid.entries) id) (has_text ids id) none)

  entry-tags : (b : Bool) (index : Base) (id : List ℕ) → (cond b index (record index { entries = index.entries ++ (id, index.next) ∷ []; next = index.next + 1 })).tags ≡ index.tags
  entry-tags true index id = refl
  entry-tags false index id = refl

  pub entries-tags : (ids : Texts) (index : Base) → (fold with_entry index ids).tags ≡ index.tags
  entries-tags [] index = refl
  entries-tags (id ∷ ids) index = entries-tags ids (with_entry index id) ∙ entry-tags (has_entry index id) index id

  -- a mail that comes gives first tags to its own message alone
  pub mail-tags : (index : Base) (path : List ℕ) (facts : Facts) (id : List ℕ) → same_text id facts.id ≡ false → tags_of (with_mail index path facts) id ≡ tags_of index id
  mail-tags index path facts id apart =
      let mid : Base = fold with_entry index (facts.id ∷ facts.links) in
      other-by (has_id mid.files facts.id) mid facts.id id (first_tags facts.marks) apart ∙ ap (λ (t : Tagged). unwrap_or (lookup (is_at (slice_cmp nat_cmp id)) t) []) (entries-tags (facts.id ∷ facts.links) index)

  adds-tags : (added : List (List ℕ × Facts)) (index : Base) (id : List ℕ) → has_id added id ≡ false → tags_of (fold applied index (map add_of added)) id ≡ tags_of index id
  adds-tags [] index id none = refl
  adds-tags (arrival ∷ added) index id none =
      let apart = or_parts (same_text id arrival.1.id) (has_id added id) none in
      adds-tags added (with_mail index arrival.0 arrival.1) id apart.1 ∙ mail-tags index arrival.0 arrival.1 id apart.0

  -- so what has come leaves the tags of all other messages
  pub batch-tags : (index : Base) (added : List (List ℕ × Facts)) (id : List ℕ) → has_id added id ≡ false → tags_of (folded index (commit_of index (map add_of added) (map (λ file. file.1.id) added))) id ≡ tags_of index id
  batch-tags index [] id none = refl
  batch-tags index (arrival ∷ added) id none =
      tags-stay index (add_of arrival) (map add_of added) (map (λ file. file.1.id) (arrival ∷ added)) id none ∙ adds-tags (arrival ∷ added) index id none
