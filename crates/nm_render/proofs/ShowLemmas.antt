-- Each message that is shown has a lead file. For the proof of `shown_ids`.
use Rattle.std.proofs.Common.{◌≡◌, ℕ, ℤ, Bool, true, false, ◌||◌, int_lt, List, [], ◌∷◌, length, map, fold, if◌then◌else◌, refl, ◌∙◌, length-append, arith}
use Rattle.std.specs.List.{AllByRecursion, filter}
use Rattle.nm_model_answer.specs.Listing.{at_rank}
use Rattle.nm_model_answer.specs.Matches.{is_match}
use Rattle.nm_model_answer.specs.Search.{rank_of}
use Rattle.nm_model_answer.specs.Show.{lead_path, lead_paths, shown_ids}
use Rattle.nm_model_answer.specs.View.{files_of, view_of}
use Rattle.nm_base.specs.Order.{same_text}
use Rattle.nm_base.specs.declared.asks.ShowAsk.{ShowAsk}
use Rattle.nm_base.specs.declared.facts.Facts.{Facts}
use Rattle.nm_commit.specs.Files.{has_id}
use Rattle.nm_model_index.specs.Index.{live_ids}
use Rattle.nm_model_index.specs.declared.base.Base.{Base}
use Rattle.nm_query.specs.declared.query.Query.{Query}

-- ---- what is so of all stays so

filter-by : {X : Type 0} (P : X → Type 0) (test : X → Bool) (item : X) (items : List X) (b : Bool) → P item → AllByRecursion P (filter test items) → AllByRecursion P (if b then item ∷ filter test items else filter test items)
filter-by P test item items true here more = (here, more)
filter-by P test item items false here more = more

filter-all : {X : Type 0} (P : X → Type 0) (test : X → Bool) (items : List X) → AllByRecursion P items → AllByRecursion P (filter test items)
filter-all P test [] all = tt
filter-all P test (item ∷ items) all = filter-by P test item items (test item) all.0 (filter-all P test items all.1)

rank-by : {X : Type 0} (P : X → Type 0) (first item : X) (items placed : List X) (b : Bool) → P first → P item → AllByRecursion P items → AllByRecursion P placed → AllByRecursion P (if b then item ∷ first ∷ items else first ∷ placed)
rank-by P first item items placed true h here all more = (here, (h, all))
rank-by P first item items placed false h here all more = (h, more)

rank-all : {X : Type 0} (P : X → Type 0) (rank : X → ℤ) (items : List X) (item : X) → AllByRecursion P items → P item → AllByRecursion P (at_rank rank items item)
rank-all P rank [] item all here = (here, tt)
rank-all P rank (first ∷ items) item all here =
    rank-by P first item items (at_rank rank items item) (int_lt (rank item) (rank first)) all.0 here all.1 (rank-all P rank items item all.1 here)

ranks-all : {X : Type 0} (P : X → Type 0) (rank : X → ℤ) (sorted items : List X) → AllByRecursion P sorted → AllByRecursion P items → AllByRecursion P (fold (at_rank rank) sorted items)
ranks-all P rank sorted [] before all = before
ranks-all P rank sorted (item ∷ items) before all = ranks-all P rank (at_rank rank sorted item) items (rank-all P rank sorted item before all.0) all.1

-- ---- messages with files

-- a message has a file
abbrev HasFile : List (List ℕ × Facts) → List ℕ → Type 0
HasFile files id = has_id files id ≡ true

live-by : (files : List (List ℕ × Facts)) (entry : List ℕ × ℕ) (entries : List (List ℕ × ℕ)) (b : Bool) → has_id files entry.0 ≡ b → AllByRecursion (HasFile files) (live_ids files entries)
    → AllByRecursion (HasFile files) (map (λ e. e.0) (if b then entry ∷ filter (λ e. has_id files e.0) entries else filter (λ e. has_id files e.0) entries))
live-by files entry entries true is more = (is, more)
live-by files entry entries false is more = more

live-all : (files : List (List ℕ × Facts)) (entries : List (List ℕ × ℕ)) → AllByRecursion (HasFile files) (live_ids files entries)
live-all files [] = tt
live-all files (entry ∷ entries) = live-by files entry entries (has_id files entry.0) refl (live-all files entries)

shown-all : (ask : ShowAsk) (index : Base) (moment : ℤ) (query : Query) → AllByRecursion (HasFile index.files) (shown_ids ask index moment query)
shown-all ask index moment query =
    ranks-all (HasFile index.files) (rank_of index true) [] (filter (λ id. is_match query moment ask.exclude (view_of index id)) (live_ids index.files index.entries)) tt
    (filter-all (HasFile index.files) (λ id. is_match query moment ask.exclude (view_of index id)) (live_ids index.files index.entries) (live-all index.files index.entries))

one-by : (id : List ℕ) (file : List ℕ × Facts) (files : List (List ℕ × Facts)) (b : Bool) → (b || has_id files id) ≡ true
    → (has_id files id ≡ true → length (lead_path (filter (λ f. same_text id f.1.id) files)) ≡ 1)
    → length (lead_path (if b then file ∷ filter (λ f. same_text id f.1.id) files else filter (λ f. same_text id f.1.id) files)) ≡ 1
one-by id file files true has more = refl
one-by id file files false has more = more has

one-lead : (id : List ℕ) (files : List (List ℕ × Facts)) → has_id files id ≡ true → length (lead_path (filter (λ f. same_text id f.1.id) files)) ≡ 1
one-lead id [] has = absurd (cc)
one-lead id (file ∷ files) has = one-by id file files (same_text id file.1.id) has (one-lead id files)

leads-all : (index : Base) (ids : List (List ℕ)) → AllByRecursion (HasFile index.files) ids → length (lead_paths index ids) ≡ length ids
leads-all index [] all = refl
leads-all index (id ∷ ids) all =
    length-append (lead_path (files_of index id)) (lead_paths index ids) ∙ omega (arith, one-lead id index.files all.0, leads-all index ids all.1)

-- one for each
pub shown-leads : (ask : ShowAsk) (index : Base) (moment : ℤ) (query : Query) → length (lead_paths index (shown_ids ask index moment query)) ≡ length (shown_ids ask index moment query)
shown-leads ask index moment query = leads-all index (shown_ids ask index moment query) (shown-all ask index moment query)
