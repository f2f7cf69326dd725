-- The commits of a `new` fit: what is added goes where no file was, and what is missing was there.
-- For the proofs of `new_commits_fit` and `new_leaves_what_is_listed`.
use Rattle.std.proofs.Common.{◌≡◌, ℕ, Bool, true, false, ◌||◌, ◌&&◌, not, cond, List, [], ◌∷◌, ◌++◌, fold, map, filter, refl, sym, ap, ◌∙◌, subst, arith, IsTrue}
use Rattle.std.specs.List.{AllByRecursion, IsDistinct, flat_map}
use Rattle.std.specs.Cmp.Lexicographic.{pointwise, slice_cmp, texts_ties, nat_list_eq_equiv}
use Rattle.std.specs.Ordering.{eq_by_cmp, nat_cmp}
use Rattle.std.proofs.lemmas.List.{map-append}
use Rattle.std.proofs.lemmas.Map.Keys.{IsDistinct-from_sorted, IsDistinct-head, IsDistinct-tail}
use Rattle.nm_base.specs.Order.{has_text, same_text, sorted}
use Rattle.nm_base.specs.declared.facts.Facts.{Facts}
use Rattle.nm_base.specs.Limits.{IsDate}
use Rattle.nm_commit.specs.Files.{FitChanges, changed, files_after, has_id, has_path, paths_of, without_path}
use Rattle.nm_commit.specs.declared.change.Change.{Change}
use Rattle.nm_commit.specs.declared.change.Change.TheVariants.{SetTags}
use Rattle.nm_commit.specs.declared.change.Commit.{Commit}
use Rattle.nm_model_index.specs.Index.{applied, committed, folded, live_ids}
use Rattle.nm_model_index.specs.declared.base.Base.{Base}
use Rattle.nm_model_answer.specs.NewText.{gone}
use Rattle.nm_model_index.specs.Fits.{FitInTurn}
use Rattle.nm_model_answer.specs.View.{tags_of}
use Rattle.nm_model_plan.specs.NameTags.{commit_of, follow_names, live_of, named_tags, set_tags}
use Rattle.nm_model_plan.specs.Plan.{AreAdded, add_of, all_added, batch_commit, batch_commits, drop_of, message_ids, new_commits, removed_commit, removed_files}
use Rattle.std.specs.List.Sorted.{IsStrictlySortedBy}
use Rattle.std.proofs.Math.Bool.{or-true}
use Rattle.nm_model_plan.proofs.FoldLemmas.{batch-files, new-files, next-files}
use Rattle.nm_base.specs.OrderLaws.{IsSorted-sorted}
use Rattle.nm_base.specs.SetLaws.{bytes_same, has_text-filter, has_text-sorted}

-- no text occurs twice
abbrev pub IsApart : List (List ℕ) → Type 0
IsApart [] = Unit {0}
IsApart (text ∷ texts) = AllByRecursion (λ other. same_text text other ≡ false) texts × IsApart texts

-- each text passes the test, or none does
abbrev pub Every : (List ℕ → Bool) → Bool → List (List ℕ) → Type 0
Every test value texts = AllByRecursion (λ text. test text ≡ value) texts

unequal : (text : List ℕ) (texts : List (List ℕ)) → AllByRecursion (λ other. eq_by_cmp (slice_cmp nat_cmp) text other ≡ false) texts → AllByRecursion (λ other. same_text text other ≡ false) texts
unequal text [] h = tt
unequal text (other ∷ texts) h = (texts_ties text other ∙ h.0, unequal text texts h.1)

apart-distinct : (texts : List (List ℕ)) → IsDistinct (eq_by_cmp (slice_cmp nat_cmp)) texts → IsApart texts
apart-distinct [] h = tt
apart-distinct (text ∷ texts) h = (unequal text texts (IsDistinct-head _ text texts h), apart-distinct texts (IsDistinct-tail _ text texts h))

-- distinct texts occur once each
apart-once : (texts : List (List ℕ)) → IsDistinct same_text texts → IsApart texts
apart-once [] h = tt
apart-once (text ∷ texts) h = (IsDistinct-head _ text texts h, apart-once texts (IsDistinct-tail _ text texts h))

-- rising texts occur once each
apart-rising : (texts : List (List ℕ)) → IsStrictlySortedBy (slice_cmp nat_cmp) texts → IsApart texts
apart-rising texts h = apart-distinct texts (IsDistinct-from_sorted (slice_cmp nat_cmp) texts h)

-- a filter keeps what holds of every text
every-cond : (P : List ℕ → Type 0) (b : Bool) (text : List ℕ) (texts : List (List ℕ)) → P text → AllByRecursion P texts → AllByRecursion P (cond b (text ∷ texts) texts)
every-cond P true text texts first rest = (first, rest)
every-cond P false text texts first rest = rest

pub every-filter : (P : List ℕ → Type 0) (keep : List ℕ → Bool) (texts : List (List ℕ)) → AllByRecursion P texts → AllByRecursion P (filter keep texts)
every-filter P keep [] h = tt
every-filter P keep (text ∷ texts) h = every-cond P (keep text) text (filter keep texts) h.0 (every-filter P keep texts h.1)

apart-cond : (b : Bool) (text : List ℕ) (texts : List (List ℕ)) → AllByRecursion (λ other. same_text text other ≡ false) texts → IsApart texts → IsApart (cond b (text ∷ texts) texts)
apart-cond true text texts first rest = (first, rest)
apart-cond false text texts first rest = rest

pub apart-filter : (keep : List ℕ → Bool) (texts : List (List ℕ)) → IsApart texts → IsApart (filter keep texts)
apart-filter keep [] h = tt
apart-filter keep (text ∷ texts) h = apart-cond (keep text) text (filter keep texts) (every-filter _ keep texts h.0) (apart-filter keep texts h.1)

pub every-map : (P Q : List ℕ → Type 0) (texts : List (List ℕ)) → ((text : List ℕ) → P text → Q text) → AllByRecursion P texts → AllByRecursion Q texts
every-map P Q [] f h = tt
every-map P Q (text ∷ texts) f h = (f text h.0, every-map P Q texts f h.1)

pub every-both : (P Q R : List ℕ → Type 0) (texts : List (List ℕ)) → ((text : List ℕ) → P text → Q text → R text) → AllByRecursion P texts → AllByRecursion Q texts → AllByRecursion R texts
every-both P Q R [] f h k = tt
every-both P Q R (text ∷ texts) f h k = (f text h.0 k.0, every-both P Q R texts f h.1 k.1)

-- of a list and one text more
or-step : (a : Bool) (b c d : Bool) → b ≡ (c || d) → (a || b) ≡ ((a || c) || d)
or-step true b c d h = refl
or-step false b c d h = h

pub has_text-append : (texts others : List (List ℕ)) (text : List ℕ) → has_text (texts ++ others) text ≡ (has_text texts text || has_text others text)
has_text-append [] others text = refl
has_text-append (first ∷ texts) others text = or-step (same_text text first) _ (has_text texts text) (has_text others text) (has_text-append texts others text)

paths-append : (files more : List (List ℕ × Facts)) → paths_of (files ++ more) ≡ paths_of files ++ paths_of more
paths-append [] more = refl
paths-append (file ∷ files) more = ap (λ (l : List (List ℕ)). file.0 ∷ l) (paths-append files more)

-- none of the others is where one more is
pub not_there : (files : List (List ℕ × Facts)) (file : List ℕ × Facts) (path : List ℕ) → has_path files path ≡ false → same_text file.0 path ≡ false → has_path (files ++ file ∷ []) path ≡ false
not_there files file path none other =
    ap (λ (l : List (List ℕ)). has_text l path) (paths-append files (file ∷ []))
    ∙ (has_text-append (paths_of files) (file.0 ∷ []) path
    ∙ (ap (λ b. b || (same_text path file.0 || false)) none ∙ ap (λ b. b || false) (nat_list_eq_equiv.symm path file.0 ∙ other)))

-- what has come is where none was
fit-adds : (files added : List (List ℕ × Facts)) → IsApart (paths_of added) → AllByRecursion (λ path. has_path files path ≡ false) (paths_of added) → AllByRecursion (λ arrival. IsDate arrival.1.date) added → FitChanges files (map add_of added)
fit-adds files [] apart none dated = tt
fit-adds files (arrival ∷ added) apart none dated = (
  (none.0, dated.0),
  fit-adds (files ++ (arrival.0, arrival.1) ∷ []) added apart.1
      (every-both (λ path. has_path files path ≡ false) (λ path. same_text arrival.0 path ≡ false) (λ path. has_path (files ++ arrival ∷ []) path ≡ false) (paths_of added) (λ path. not_there files arrival path) none.1 apart.0) dated.1,
)

paths-cond : (b : Bool) (file : List ℕ × Facts) (files : List (List ℕ × Facts)) → paths_of (cond b (file ∷ files) files) ≡ cond b (file.0 ∷ paths_of files) (paths_of files)
paths-cond true file files = refl
paths-cond false file files = refl

paths-filter : (keep : List ℕ → Bool) (files : List (List ℕ × Facts)) → paths_of (filter (λ file. keep file.0) files) ≡ filter keep (paths_of files)
paths-filter keep [] = refl
paths-filter keep (file ∷ files) = paths-cond (keep file.0) file (filter (λ other. keep other.0) files) ∙ ap (λ (l : List (List ℕ)). cond (keep file.0) (file.0 ∷ l) l) (paths-filter keep files)

-- one that is another still is there
still_there : (files : List (List ℕ × Facts)) (path other : List ℕ) → has_path files other ≡ true → same_text path other ≡ false → has_path (without_path files path) other ≡ true
still_there files path other there apart =
    ap (λ (l : List (List ℕ)). has_text l other) (paths-filter (λ p. not (same_text path p)) files)
    ∙ (has_text-filter (λ p. not (same_text path p)) (paths_of files) other ∙ (ap (λ b. b && not (same_text path other)) there ∙ ap not apart))

-- what goes was there
fit-drops : (files : List (List ℕ × Facts)) (paths : List (List ℕ)) → IsApart paths → AllByRecursion (λ path. has_path files path ≡ true) paths → FitChanges files (map drop_of paths)
fit-drops files [] apart there = tt
fit-drops files (path ∷ paths) apart there = (
  there.0,
  fit-drops (without_path files path) paths apart.1
      (every-both (λ other. has_path files other ≡ true) (λ other. same_text path other ≡ false) (λ other. has_path (without_path files path) other ≡ true) paths (λ other. still_there files path other) there.1 apart.0),
)

-- every text of a list is in it
same_as_itself : (text : List ℕ) → same_text text text ≡ true
same_as_itself text = nat_list_eq_equiv.refl text

pub every-in : (texts : List (List ℕ)) → AllByRecursion (λ text. has_text texts text ≡ true) texts
every-in [] = tt
every-in (text ∷ texts) = (
  ap (λ b. b || has_text texts text) (same_as_itself text),
  every-map (λ other. has_text texts other ≡ true) (λ other. has_text (text ∷ texts) other ≡ true) texts (λ other h. ap (λ b. same_text other text || b) h ∙ or-true (same_text other text)) (every-in texts),
)

-- tags are set of messages that have a file
set-cond : (files : List (List ℕ × Facts)) (b : Bool) (id : List ℕ) (tags : List (List ℕ)) (more : List Change) → has_id files id ≡ true → FitChanges files more → FitChanges files (cond b [] (SetTags id tags ∷ []) ++ more)
set-cond files true id tags more here rest = rest
set-cond files false id tags more here rest = (here, rest)

pub fit-sets : (files : List (List ℕ × Facts)) (old new : List ℕ → List (List ℕ)) (ids : List (List ℕ)) → AllByRecursion (λ id. has_id files id ≡ true) ids → FitChanges files (flat_map (λ id. set_tags id (old id) (new id)) ids)
fit-sets files old new [] h = tt
fit-sets files old new (id ∷ ids) h =
    set-cond files (pointwise same_text (old id) (new id)) id (new id) (flat_map (λ other. set_tags other (old other) (new other)) ids) h.0 (fit-sets files old new ids h.1)

live-cond : (files : List (List ℕ × Facts)) (b : Bool) (entry : List ℕ × ℕ) (entries : List (List ℕ × ℕ)) → has_id files entry.0 ≡ b → AllByRecursion (λ id. has_id files id ≡ true) (map (λ e. e.0) entries)
    → AllByRecursion (λ id. has_id files id ≡ true) (map (λ e. e.0) (cond b (entry ∷ entries) entries))
live-cond files true entry entries is h = (is, h)
live-cond files false entry entries is h = h

pub all-live : (files : List (List ℕ × Facts)) (entries : List (List ℕ × ℕ)) → AllByRecursion (λ id. has_id files id ≡ true) (live_ids files entries)
all-live files [] = tt
all-live files (entry ∷ entries) = live-cond files (has_id files entry.0) entry (filter (λ e. has_id files e.0) entries) refl (all-live files entries)

fit-more : (files : List (List ℕ × Facts)) (changes more : List Change) → FitChanges files changes → FitChanges (fold changed files changes) more → FitChanges files (changes ++ more)
fit-more files [] more h k = k
fit-more files (change ∷ changes) more h k = (h.0, fit-more (changed files change) changes more h.1 k)

-- one commit of changes that fit, if there are any
fit-commit : (follow : (index : Base) (commits : List Commit) → (folded index commits).files ≡ files_after index.files commits) (index : Base) (changes : List Change) (ids : List (List ℕ))
    → FitChanges index.files changes → FitInTurn index (commit_of index changes ids)
fit-commit follow index [] ids h = tt
fit-commit follow index (change ∷ changes) ids h =
    let after : Base = fold applied index (change ∷ changes) in
    let sets : FitChanges after.files (follow_names after ids) =
    fit-sets after.files (tags_of after) (named_tags after) (live_of after ids) (every-filter _ (has_text ids) (live_ids after.files after.entries) (all-live after.files after.entries)) in (
      record {
        some = omega arith;
        each = fit-more index.files (change ∷ changes) (follow_names after ids) h
            (subst (λ (files : List (List ℕ × Facts)). FitChanges files (follow_names after ids)) (follow index (record { changes = change ∷ changes } ∷ [])) sets);
      },
      tt,
    )

pub fit-append : (index : Base) (commits more : List Commit) → FitInTurn index commits → FitInTurn (folded index commits) more → FitInTurn index (commits ++ more)
fit-append index [] more h k = k
fit-append index (commit ∷ commits) more h k = (h.0, fit-append (committed index commit) commits more h.1 k)

-- the first of changes that fit do, and the others fit what they leave
fit-front : (files : List (List ℕ × Facts)) (changes more : List Change) → FitChanges files (changes ++ more) → FitChanges files changes
fit-front files [] more h = tt
fit-front files (change ∷ changes) more h = (h.0, fit-front (changed files change) changes more h.1)

fit-back : (files : List (List ℕ × Facts)) (changes more : List Change) → FitChanges files (changes ++ more) → FitChanges (fold changed files changes) more
fit-back files [] more h = h
fit-back files (change ∷ changes) more h = fit-back (changed files change) changes more h.1

-- so the commits of batches fit where all their mails do
fit-batches : (follow : (index : Base) (commits : List Commit) → (folded index commits).files ≡ files_after index.files commits) (index : Base) (batches : List (List (List ℕ × Facts)))
    → FitChanges index.files (map add_of (all_added batches)) → FitInTurn index (batch_commits index batches)
fit-batches follow index [] h = tt
fit-batches follow index (added ∷ batches) h =
    let adds : List Change = map add_of added in
    let more : List Change = map add_of (all_added batches) in
    let next : Base = folded index (batch_commit index added) in
    let both : FitChanges index.files (adds ++ more) = subst (FitChanges index.files) (map-append add_of added (all_added batches)) h in
    fit-append index (batch_commit index added) (batch_commits next batches) (fit-commit follow index adds (message_ids added) (fit-front index.files adds more both))
    (fit-batches follow next batches (subst (λ (files : List (List ℕ × Facts)). FitChanges files more) (sym (next-files follow index added)) (fit-back index.files adds more both)))

-- the commits of a `new` fit, one after the other
pub fit-new : (follow : (index : Base) (commits : List Commit) → (folded index commits).files ≡ files_after index.files commits) (index : Base) (listed : List (List ℕ)) (batches : List (List (List ℕ × Facts)))
    → AreAdded index.files (all_added batches) → FitInTurn index (new_commits index listed batches)
fit-new follow index listed batches are =
    let added : List (List ℕ × Facts) = all_added batches in
    let paths : List (List ℕ) = sorted (paths_of index.files) in
    let made : Base = folded index (batch_commits index batches) in
    let adds_fit : FitChanges index.files (map add_of added) = fit-adds index.files added (apart-once (paths_of added) are.once) are.fresh are.dated in
    let there : (path : List ℕ) → has_text paths path ≡ true → has_path (index.files ++ added) path ≡ true =
    λ path h. ap (λ (l : List (List ℕ)). has_text l path) (paths-append index.files added) ∙ (has_text-append (paths_of index.files) (paths_of added) path
    ∙ ap (λ b. b || has_text (paths_of added) path) (sym (has_text-sorted (paths_of index.files) path) ∙ h)) in
    let drops_fit : FitChanges (index.files ++ added) (map drop_of (gone index.files listed)) = fit-drops (index.files ++ added) (gone index.files listed)
    (apart-filter (λ path. not (has_text listed path)) paths (apart-rising paths (IsSorted-sorted (paths_of index.files))))
    (every-filter _ (λ path. not (has_text listed path)) paths (every-map (λ path. has_text paths path ≡ true) (λ path. has_path (index.files ++ added) path ≡ true) paths there (every-in paths))) in
    fit-append index (batch_commits index batches) (removed_commit made index.files listed) (fit-batches follow index batches adds_fit)
    (fit-commit follow made (map drop_of (gone index.files listed)) (message_ids (removed_files index.files listed))
    (subst (λ (files : List (List ℕ × Facts)). FitChanges files (map drop_of (gone index.files listed))) (sym (follow index (batch_commits index batches) ∙ batch-files follow index batches)) drops_fit))

-- one of the texts that are all listed is listed
listed-case : (listed : List (List ℕ)) (arrived : List ℕ) (paths : List (List ℕ)) (path : List ℕ) (b : Bool) → same_text path arrived ≡ b → AllByRecursion (λ other. IsTrue (has_text listed other)) (arrived ∷ paths)
    → (b || has_text paths path) ≡ true → (AllByRecursion (λ other. IsTrue (has_text listed other)) paths → has_text paths path ≡ true → has_text listed path ≡ true) → has_text listed path ≡ true
listed-case listed arrived paths path true is all there more = ap (has_text listed) (bytes_same path arrived (sym is)) ∙ all.0
listed-case listed arrived paths path false is all there more = more all.1 there

listed-arrival : (listed : List (List ℕ)) (paths : List (List ℕ)) (path : List ℕ) → AllByRecursion (λ arrived. IsTrue (has_text listed arrived)) paths → has_text paths path ≡ true → has_text listed path ≡ true
listed-arrival listed [] path all there = absurd cc
listed-arrival listed (arrived ∷ paths) path all there = listed-case listed arrived paths path (same_text path arrived) refl all there (listed-arrival listed paths path)

truth-table : (l f a : Bool) → (a ≡ true → l ≡ true) → ((f || a) && not (f && not l)) ≡ (l && (f || a))
truth-table true true a h = refl
truth-table true false true h = refl
truth-table true false false h = refl
truth-table false true true h = absurd (cc (h refl))
truth-table false true false h = refl
truth-table false false true h = absurd (cc (h refl))
truth-table false false false h = refl

-- after a `new` a file is there where it was listed, and was there before or has come
pub left-listed : (follow : (index : Base) (commits : List Commit) → (folded index commits).files ≡ files_after index.files commits) (index : Base) (listed : List (List ℕ)) (batches : List (List (List ℕ × Facts))) (path : List ℕ)
    → AllByRecursion (λ arrived. IsTrue (has_text listed arrived)) (paths_of (all_added batches))
    → has_path (folded index (new_commits index listed batches)).files path ≡ (has_text listed path && (has_path index.files path || has_path (all_added batches) path))
left-listed follow index listed batches path all =
    let added : List (List ℕ × Facts) = all_added batches in
    let gone_paths : List (List ℕ) = gone index.files listed in
    ap (λ (files : List (List ℕ × Facts)). has_path files path) (follow index (new_commits index listed batches) ∙ new-files follow index listed batches)
    ∙ (ap (λ (l : List (List ℕ)). has_text l path) (paths-filter (λ p. not (has_text gone_paths p)) (index.files ++ added))
    ∙ (has_text-filter (λ p. not (has_text gone_paths p)) (paths_of (index.files ++ added)) path
    ∙ (ap (λ b. b && not (has_text gone_paths path)) (ap (λ (l : List (List ℕ)). has_text l path) (paths-append index.files added) ∙ has_text-append (paths_of index.files) (paths_of added) path)
    ∙ (ap (λ b. (has_path index.files path || has_path added path) && not b)
    (has_text-filter (λ p. not (has_text listed p)) (sorted (paths_of index.files)) path ∙ ap (λ b. b && not (has_text listed path)) (has_text-sorted (paths_of index.files) path))
    ∙ truth-table (has_text listed path) (has_path index.files path) (has_path added path) (listed-arrival listed (paths_of added) path all)))))
