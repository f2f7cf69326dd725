-- Numbers stay in order: a new id gets the next one, and what goes takes its own along.
-- For the proof of `numbers_stay_in_order`.
use Rattle.std.proofs.Common.{◌≡◌, ℕ, ◌+◌, ◌<◌, Bool, true, false, cond, List, [], ◌∷◌, ◌++◌, fold, filter, refl, ◌∙◌, arith}
use Rattle.std.specs.List.{AllByRecursion, list_any}
use Rattle.std.specs.Cmp.Lexicographic.{nat_list_eq_equiv}
use Rattle.std.proofs.lemmas.Bool.{or_parts}
use Rattle.nm_base.specs.Order.{same_text}
use Rattle.nm_base.specs.declared.facts.Facts.{Facts}
use Rattle.nm_commit.specs.declared.change.Change.{Change}
use Rattle.nm_commit.specs.declared.change.Change.TheVariants.{Add, Drop, Move, SetTags}
use Rattle.nm_commit.specs.declared.change.Commit.{Commit}
use Rattle.nm_model_index.specs.Index.{applied, committed, files_at, folded, has_entry, is_of, with_entry, without_first}
use Rattle.nm_model_index.specs.declared.base.Base.{Base}
use Rattle.nm_model_plan.specs.Numbering.{AreNumbered, InOrder}

abbrev Entry : Type 0
Entry = List ℕ × ℕ

abbrev IsBelow : Entry → Entry → Type 0
IsBelow entry other = (same_text entry.0 other.0 ≡ false) × (entry.1 < other.1)

-- one more, after all others
below-push : (entry last : Entry) (more : List Entry) → AllByRecursion (IsBelow entry) more → IsBelow entry last → AllByRecursion (IsBelow entry) (more ++ last ∷ [])
below-push entry last [] h is = (is, tt)
below-push entry last (other ∷ more) h is = (h.0, below-push entry last more h.1 is)

order-push : (next : ℕ) (id : List ℕ) (entries : List Entry) → InOrder next entries → list_any (is_of id) entries ≡ false → InOrder (next + 1) (entries ++ (id, next) ∷ [])
order-push next id [] h none = (omega arith, tt, tt)
order-push next id (entry ∷ entries) h none =
    let apart = or_parts (is_of id entry) (list_any (is_of id) entries) none in (
      omega (arith, h.0),
      below-push entry (id, next) entries h.1 (nat_list_eq_equiv.symm entry.0 id ∙ apart.0, h.0),
      order-push next id entries h.2 apart.1,
    )

-- some of them
below-cond : (b : Bool) (entry other : Entry) (more : List Entry) → IsBelow entry other → AllByRecursion (IsBelow entry) more → AllByRecursion (IsBelow entry) (cond b (other ∷ more) more)
below-cond true entry other more first rest = (first, rest)
below-cond false entry other more first rest = rest

below-filter : (keep : Entry → Bool) (entry : Entry) (more : List Entry) → AllByRecursion (IsBelow entry) more → AllByRecursion (IsBelow entry) (filter keep more)
below-filter keep entry [] h = tt
below-filter keep entry (other ∷ more) h = below-cond (keep other) entry other (filter keep more) h.0 (below-filter keep entry more h.1)

order-cond : (next : ℕ) (b : Bool) (entry : Entry) (more : List Entry) → entry.1 < next → AllByRecursion (IsBelow entry) more → InOrder next more → InOrder next (cond b (entry ∷ more) more)
order-cond next true entry more low first rest = (low, first, rest)
order-cond next false entry more low first rest = rest

order-filter : (next : ℕ) (keep : Entry → Bool) (entries : List Entry) → InOrder next entries → InOrder next (filter keep entries)
order-filter next keep [] h = tt
order-filter next keep (entry ∷ entries) h = order-cond next (keep entry) entry (filter keep entries) h.0 (below-filter keep entry entries h.1) (order-filter next keep entries h.2)

-- an id has a number
entry-by : (index : Base) (id : List ℕ) (b : Bool) → has_entry index id ≡ b → AreNumbered index → AreNumbered (cond b index (record index { entries = index.entries ++ (id, index.next) ∷ []; next = index.next + 1 }))
entry-by index id true is h = h
entry-by index id false is h = order-push index.next id index.entries h is

entries-kept : (ids : List (List ℕ)) (index : Base) → AreNumbered index → AreNumbered (fold with_entry index ids)
entries-kept [] index h = h
entries-kept (id ∷ ids) index h = entries-kept ids (with_entry index id) (entry-by index id (has_entry index id) refl h)

-- other tags change no number
tagged-by : (b : Bool) (index : Base) (tags : List (List ℕ × List (List ℕ))) → AreNumbered index → AreNumbered (cond b index (record index { tags = tags }))
tagged-by true index tags h = h
tagged-by false index tags h = h

mail-gone : (index : Base) (path : List ℕ) (files : List (List ℕ × Facts)) → AreNumbered index → AreNumbered (without_first index path files)
mail-gone index path [] h = h
mail-gone index path (file ∷ more) h = tagged-by _ _ _ (order-filter index.next _ index.entries h)

change-kept : (index : Base) (change : Change) → AreNumbered index → AreNumbered (applied index change)
change-kept index (Add path facts) h = tagged-by _ (fold with_entry index (facts.id ∷ facts.links)) _ (entries-kept (facts.id ∷ facts.links) index h)
change-kept index (Drop path) h = mail-gone index path (files_at index path) h
change-kept index (Move from to) h = h
change-kept index (SetTags id tags) h = h

pub changes-kept : (changes : List Change) (index : Base) → AreNumbered index → AreNumbered (fold applied index changes)
changes-kept [] index h = h
changes-kept (change ∷ changes) index h = changes-kept changes (applied index change) (change-kept index change h)

pub numbers-kept : (index : Base) (commits : List Commit) → AreNumbered index → AreNumbered (folded index commits)
numbers-kept index [] h = h
numbers-kept index (commit ∷ commits) h = numbers-kept (committed index commit) commits (changes-kept commit.changes index h)
