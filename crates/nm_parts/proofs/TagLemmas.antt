-- Tags are beside the messages that have a file, whatever comes and goes.
-- For the proofs of `tag_message`, `untag`, `tag_first` and others.
use Rattle.std.proofs.Common.{◌≡◌, ◌≢◌, refl, sym, ap, subst, ◌∙◌, ℕ, Bool, true, false, ◌||◌, not, cond, List, [], ◌∷◌, ◌++◌, inl, inr, if◌then◌else◌}
use Rattle.std.proofs.Math.Bool.{or-false}
use Rattle.std.specs.Prelude.{Contains, None, Some}
use Rattle.std.specs.Cmp.Lexicographic.{slice_cmp}
use Rattle.std.specs.Option.{is_some}
use Rattle.std.specs.Ordering.{is_eq, nat_cmp}
use Rattle.std.proofs.lemmas.Bool.{or_right, cond-true, cond-false}
use Rattle.std.proofs.lemmas.Option.{none-some, same_Some}
use Rattle.nm_base.specs.Order.{IsSorted, same_text}
use Rattle.nm_base.specs.declared.facts.Facts.{Facts}
use Rattle.nm_commit.specs.Files.{has_id, with_moved, without_path}
use Rattle.nm_tables.specs.FileTable.{at_text, lying_in}
use Rattle.nm_parts.specs.Parts.{AreTagged}
use Rattle.nm_base.specs.KeyLaws.{Contains_first, Contains_there, Contains_cases, Contains_none, text_same, text_other, same_id, other_id, cases_id}
use Rattle.nm_tables.specs.FilterLaws.{in_filter}

abbrev TagChange : Type 0
TagChange = List (List ℕ × List (List ℕ))

abbrev Arrivals : Type 0
Arrivals = List (List ℕ × Facts)

-- ---- no mail

pub none_tagged : AreTagged [] []
none_tagged = record { live = λ id. refl; sets = λ id set is. absurd (none-some set is) }

-- ---- a message that has a file gets other tags

module _ (files : Arrivals) (old new : TagChange) (id : List ℕ) (set : List (List ℕ)) (sorted : IsSorted set)
    (found : (other : List ℕ) → at_text other new ≡ (if is_eq (slice_cmp nat_cmp other id) then Some set else at_text other old)) where
  set_here : (other : List ℕ) → other ≡ id → at_text other new ≡ Some set
  set_here other same = found other ∙ cond-true (is_eq (slice_cmp nat_cmp other id)) (Some set) (at_text other old) (same_id other id same)

  set_there : (other : List ℕ) → other ≢ id → at_text other new ≡ at_text other old
  set_there other not = found other ∙ cond-false (is_eq (slice_cmp nat_cmp other id)) (Some set) (at_text other old) (other_id other id not)

  sets_after : AreTagged files old → (other : List ℕ) (tags : List (List ℕ)) → at_text other new ≡ Some tags → IsSorted tags
  sets_after are other tags is = elim (cases_id other id) [
    | inl same ↦ subst IsSorted (same_Some set tags (sym (set_here other same) ∙ is)) sorted
    | inr not ↦ are.sets other tags (sym (set_there other not) ∙ is)
  ]

  pub retagged_one : AreTagged files old → has_id files id ≡ true → AreTagged files new
  retagged_one are there = record {
    live = λ other. elim (cases_id other id) [
      | inl same ↦ ap is_some (set_here other same) ∙ sym (ap (has_id files) same ∙ there)
      | inr not ↦ ap is_some (set_there other not) ∙ are.live other
    ];
    sets = sets_after are;
  }

-- ---- a mail more

either : (a : Bool) → (a || false) ≡ (false || a)
either a = or-false a

grouped : (a b c : Bool) → (a || (b || c)) ≡ ((a || b) || c)
grouped true b c = refl
grouped false b c = refl

has_more : (files : Arrivals) (file : List ℕ × Facts) (id : List ℕ) → has_id (files ++ file ∷ []) id ≡ (has_id files id || same_text id file.1.id)
has_more [] file id = either (same_text id file.1.id)
has_more (f ∷ files) file id = (λ i. same_text id f.1.id || has_more files file id i) ∙ grouped (same_text id f.1.id) (has_id files id) (same_text id file.1.id)

module _ (files : Arrivals) (path : List ℕ) (facts : Facts) where
  has_here : (id : List ℕ) → id ≡ facts.id → has_id (files ++ (path, facts) ∷ []) id ≡ true
  has_here id same = has_more files (path, facts) id ∙ or_right (has_id files id) (same_text id facts.id) (text_same id facts.id same)

  has_there : (id : List ℕ) → id ≢ facts.id → has_id (files ++ (path, facts) ∷ []) id ≡ has_id files id
  has_there id not = has_more files (path, facts) id ∙ ap (λ test. has_id files id || test) (text_other id facts.id not) ∙ or-false (has_id files id)

  -- of a message that had a file: its tags stay
  pub mailed_again : (tags : TagChange) → AreTagged files tags → has_id files facts.id ≡ true → AreTagged (files ++ (path, facts) ∷ []) tags
  mailed_again tags are there = record {
    live = λ id. elim (cases_id id facts.id) [ inl same ↦ are.live id ∙ ap (has_id files) same ∙ there ∙ sym (has_here id same) | inr not ↦ are.live id ∙ sym (has_there id not) ];
    sets = are.sets;
  }

  -- of a new message
  pub mailed_first : (old new : TagChange) (set : List (List ℕ)) → IsSorted set
      → ((other : List ℕ) → at_text other new ≡ (if is_eq (slice_cmp nat_cmp other facts.id) then Some set else at_text other old)) → AreTagged files old → AreTagged (files ++ (path, facts) ∷ []) new
  mailed_first old new set sorted found are = record {
    live = λ id. elim (cases_id id facts.id) [
      | inl same ↦ ap is_some (set_here files old new facts.id set sorted found id same) ∙ sym (has_here id same)
      | inr not ↦ ap is_some (set_there files old new facts.id set sorted found id not) ∙ are.live id ∙ sym (has_there id not)
    ];
    sets = sets_after files old new facts.id set sorted found are;
  }

-- ---- a mail that goes

left_by : (test : Bool) (f : List ℕ × Facts) (rest : Arrivals) (id : List ℕ) (b : Bool) → (test ≡ true → same_text id f.1.id ≡ false) → has_id rest id ≡ b → has_id (cond (not test) (f ∷ rest) rest) id ≡ (same_text id f.1.id || b)
left_by true f rest id b apart is = is ∙ sym (ap (λ same. same || b) (apart refl))
left_by false f rest id b apart is = ap (λ more. same_text id f.1.id || more) is

left_live : (files : Arrivals) (path id : List ℕ) → ((file : List ℕ × Facts) → Contains files file → same_text path file.0 ≡ true → same_text id file.1.id ≡ false) → has_id (without_path files path) id ≡ has_id files id
left_live [] path id apart = refl
left_live (f ∷ files) path id apart =
    left_by (same_text path f.0) f (without_path files path) id (has_id files id) (apart f (Contains_first f files)) (left_live files path id (λ file among. apart file (Contains_there f files file among)))

-- all other messages have their files
pub others_live : (files : Arrivals) (path : List ℕ) (facts : Facts) → lying_in files path ≡ (path, facts) ∷ [] → (id : List ℕ) → id ≢ facts.id → has_id (without_path files path) id ≡ has_id files id
others_live files path facts lying id not =
    left_live files path id
    (λ file among same. elim (Contains_cases (path, facts) [] file (subst (λ fs. Contains fs file) lying (in_filter (λ (f : List ℕ × Facts). same_text path f.0) files file among same))) [
      | inl here ↦ text_other id file.1.id (λ is. not (is ∙ sym (ap (λ (f : List ℕ × Facts). f.1.id) here)))
      | inr none ↦ absurd (Contains_none file none)
    ])

module _ (files after : Arrivals) (id : List ℕ) (others : (other : List ℕ) → other ≢ id → has_id after other ≡ has_id files other) where
  -- its message has another file: its tags stay
  pub still_live : (tags : TagChange) → AreTagged files tags → has_id files id ≡ true → has_id after id ≡ true → AreTagged after tags
  still_live tags are was is = record {
    live = λ other. elim (cases_id other id) [
      | inl same ↦ are.live other ∙ ap (has_id files) same ∙ was ∙ sym (ap (has_id after) same ∙ is)
      | inr not ↦ are.live other ∙ sym (others other not)
    ];
    sets = are.sets;
  }

  -- it has none
  pub no_longer_live : (old new : TagChange) → AreTagged files old → has_id after id ≡ false → ((other : List ℕ) → at_text other new ≡ (if is_eq (slice_cmp nat_cmp other id) then None else at_text other old)) → AreTagged after new
  no_longer_live old new are is found = record {
    live = λ other. elim (cases_id other id) [
      | inl same ↦ ap is_some (found other ∙ cond-true (is_eq (slice_cmp nat_cmp other id)) None (at_text other old) (same_id other id same)) ∙ sym (ap (has_id after) same ∙ is)
      | inr not ↦ ap is_some (found other ∙ cond-false (is_eq (slice_cmp nat_cmp other id)) None (at_text other old) (other_id other id not)) ∙ are.live other ∙ sym (others other not)
    ];
    sets = λ other tags at. elim (cases_id other id) [
      | inl same ↦ absurd (none-some tags (sym (found other ∙ cond-true (is_eq (slice_cmp nat_cmp other id)) None (at_text other old) (same_id other id same)) ∙ at))
      | inr not ↦ are.sets other tags (sym (found other ∙ cond-false (is_eq (slice_cmp nat_cmp other id)) None (at_text other old) (other_id other id not)) ∙ at)
    ];
  }

-- ---- a mail under another name

moved_live : (files : Arrivals) (from to id : List ℕ) → has_id (with_moved files from to) id ≡ has_id files id
moved_live [] from to id = refl
moved_live (f ∷ files) from to id = ap (λ rest. same_text id f.1.id || rest) (moved_live files from to id)

pub moved_tagged : (files : Arrivals) (from to : List ℕ) (tags : TagChange) → AreTagged files tags → AreTagged (with_moved files from to) tags
moved_tagged files from to tags are = record { live = λ id. are.live id ∙ sym (moved_live files from to id); sets = are.sets }
