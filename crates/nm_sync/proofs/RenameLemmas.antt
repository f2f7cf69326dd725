-- Renames one after the other: what each becomes, what is noted, and where files then are.
-- For the proofs of `keep_move`, `rename_all`, `rename_one` and others.
use Rattle.std.specs.Prelude.{OnOk}
use Rattle.std.proofs.Common.{◌≡◌, ℕ, ◌+◌, Bool, true, false, ◌||◌, cond, List, [], ◌∷◌, ◌++◌, Option, None, Some, Result, Ok, Err, inl, inr, fold, length, refl, sym, ap, ◌∙◌, subst, arith, append_assoc, append-nil, length-append}
use Rattle.std.proofs.lemmas.List.Sums.{fold-append}
use Rattle.std.specs.Prelude.{◌⊎◌, IfSome, OnErr, slice_set, unwrap_or}
use Rattle.std.specs.BTreeMap.{BTreeMap, get, is_at}
use Rattle.std.specs.Cmp.Lexicographic.{nat_list_eq_equiv, slice_cmp, texts_ties}
use Rattle.std.specs.List.{flat_map}
use Rattle.std.specs.Option.{option_map}
use Rattle.std.specs.Ordering.{nat_cmp}
use Rattle.std.proofs.lemmas.Grind.{flat_map-append}
use Rattle.std.proofs.lemmas.Bool.{or_parts}
use Rattle.nm_base.specs.Order.{same_text}
use Rattle.nm_base.specs.declared.facts.Facts.{Facts}
use Rattle.nm_commit.specs.Files.{changed, has_path, moved_path, with_moved}
use Rattle.nm_commit.specs.declared.change.Change.{Change}
use Rattle.nm_flags.specs.declared.renames.Rename.{Rename}
use Rattle.nm_maildir.specs.Observed.{ObservedMail, after_rename, tree_with}
use Rattle.nm_maildir.specs.Tree.{Tree, renamed_of}
use Rattle.nm_maildir.specs.declared.answers.MailError.{MailError}
use Rattle.nm_maildir.specs.declared.answers.Renamed.{Renamed}
use Rattle.nm_maildir.specs.declared.answers.Renamed.TheVariants as answers
use Rattle.nm_maildir.specs.declared.given.Given.{Given}
use Rattle.nm_maildir.specs.declared.given.Given.TheVariants as givens
use Rattle.nm_model_answer.specs.RenameOutcomes.{IsFree, IsLong, IsTaken, Outcome, Target, WasLong, WasTaken, WasTried, answer_given, files_moved, note_of, outcomes, target_of, unmoved_in}
use Rattle.nm_model_plan.specs.Moves.{move_given, move_if}
use Rattle.nm_model_answer.specs.declared.sync_report.Unmoved.{Unmoved}
use Rattle.nm_sync.proofs.NotedLemmas.{since-more}
use Rattle.nm_sync.specs.Noted.{since}
use Rattle.nm_sync.specs.Renamed.{AnswersAlong, AreTried, AsksRenames, HasPlaces, IsDone, IsKept, TreesAlong, files_given, outcomes_given}
use Rattle.nm_sync.specs.declared.renames.RenameLog.{RenameLog}
use Rattle.nm_base.specs.SetLaws.{bytes_same}

abbrev File : Type 0
File = List ℕ × Facts

given-append : (files : List File) (xs ys : List Given) → files_given files (xs ++ ys) ≡ files_given (files_given files xs) ys
given-append files xs ys = ap (fold changed files) (flat_map-append move_given xs ys) ∙ fold-append changed files (flat_map move_given xs) (flat_map move_given ys)

-- what comes of a rename whose target is this one
abbrev at_target : List File → List ℕ → List Rename → List Renamed → Target → List Outcome
at_target files from more told target =
    elim target [
      | IsLong ↦ WasLong from ∷ outcomes files more told
      | IsTaken ↦ WasTaken from ∷ outcomes files more told
      | IsFree to ↦ elim told [ [] ↦ [] | answer ∷ others ↦ WasTried from to answer ∷ outcomes (files_moved files from to answer) more others ]
    ]

-- where nothing more is answered, nothing more is noted
silent-target : (files : List File) (from : List ℕ) (more : List Rename) (target : Target) → flat_map note_of (outcomes files more []) ≡ [] → flat_map note_of (at_target files from more [] target) ≡ []
silent-target files from more IsLong h = h
silent-target files from more IsTaken h = h
silent-target files from more (IsFree to) h = refl

pub silent : (rest : List Rename) (files : List File) → flat_map note_of (outcomes files rest []) ≡ []
silent [] files = refl
silent (rename ∷ rest) files = silent-target files rename.from rest (target_of files rename.to) (silent rest files)

-- the renames so far, and what comes of those that are left
pub record InRenames (files : List File) (plan rest : List Rename) (given : List Given) (kept : List (List ℕ × Unmoved)) : Type 0 where
  pub done : List Outcome
  pub goes : (told : List Renamed) → outcomes files plan (flat_map answer_given given ++ told) ≡ done ++ outcomes (files_given files given) rest told
  pub notes : given ≡ flat_map note_of done
  pub kept_are : kept ≡ flat_map unmoved_in done
  pub count : length done + length rest ≡ length plan

pub no-rename : (files : List File) (plan rest : List Rename) (given : List Given) (kept : List (List ℕ × Unmoved)) → rest ≡ plan → given ≡ [] → kept ≡ [] → InRenames files plan rest given kept
no-rename files plan rest given kept all none clean = record {
  done = [];
  goes = λ told. ap (λ (n : List Given). outcomes files plan (flat_map answer_given n ++ told)) none ∙ sym (ap (λ (n : List Given). outcomes (files_given files n) rest told) none ∙ ap (λ (l : List Rename). outcomes files l told) all);
  notes = none;
  kept_are = clean;
  count = omega (arith, ap (λ (l : List Rename). length l) all);
}

module _ (files : List File) (plan : List Rename) (rename : Rename) (rest : List Rename) (given more : List Given) (kept now : List (List ℕ × Unmoved)) where
  abbrev here : List File
  here = files_given files given

  goes-on : (h : InRenames files plan (rename ∷ rest) given kept) (step : IsDone here rename given more) (told : List Renamed)
      → outcomes files plan (flat_map answer_given more ++ told) ≡ (h.done ++ step.outcome ∷ []) ++ outcomes (files_given files more) rest told
  goes-on h step told =
      let note : List Given = note_of step.outcome in
      ap (λ (n : List Given). outcomes files plan (flat_map answer_given n ++ told)) step.given_is
      ∙ (ap (λ (l : List Renamed). outcomes files plan (l ++ told)) (flat_map-append answer_given given note)
      ∙ (ap (outcomes files plan) (append_assoc (flat_map answer_given given) (flat_map answer_given note) told)
      ∙ (h.goes (flat_map answer_given note ++ told)
      ∙ (ap (λ (l : List Outcome). h.done ++ l) (step.first rest told)
      ∙ (ap (λ (f : List File). h.done ++ step.outcome ∷ outcomes f rest told) (sym (ap (files_given files) step.given_is ∙ given-append files given note))
      ∙ sym (append_assoc h.done (step.outcome ∷ []) (outcomes (files_given files more) rest told)))))))

  pub next-rename : (h : InRenames files plan (rename ∷ rest) given kept) (step : IsDone here rename given more) → now ≡ kept ++ unmoved_in step.outcome → InRenames files plan rest more now
  next-rename h step kept_more = record {
    done = h.done ++ step.outcome ∷ [];
    goes = goes-on h step;
    notes = step.given_is ∙ (ap (λ (l : List Given). l ++ note_of step.outcome) h.notes ∙ (ap (λ (l : List Given). flat_map note_of h.done ++ l) (sym (append-nil (note_of step.outcome))) ∙ sym (flat_map-append note_of h.done (step.outcome ∷ []))));
    kept_are = kept_more
        ∙ (ap (λ (l : List (List ℕ × Unmoved)). l ++ unmoved_in step.outcome) h.kept_are ∙ (ap (λ (l : List (List ℕ × Unmoved)). flat_map unmoved_in h.done ++ l) (sym (append-nil (unmoved_in step.outcome))) ∙ sym (flat_map-append unmoved_in h.done (step.outcome ∷ []))));
    count = omega (arith, length-append h.done (step.outcome ∷ []), h.count);
  }

-- just the first of the renames that are to be tried are noted
pub so-far-tried : (files : List File) (plan rest : List Rename) (given : List Given) (kept : List (List ℕ × Unmoved)) → InRenames files plan rest given kept → AreTried files plan given
so-far-tried files plan rest given kept h =
    let left : List Outcome = outcomes (files_given files given) rest [] in
    h.notes
    ∙ sym (ap (λ (l : List Renamed). flat_map note_of (outcomes files plan l)) (sym (append-nil (flat_map answer_given given)))
    ∙ (ap (flat_map note_of) (h.goes [])
    ∙ (flat_map-append note_of h.done left ∙ (ap (λ (l : List Given). flat_map note_of h.done ++ l) (silent rest (files_given files given)) ∙ append-nil (flat_map note_of h.done)))))

-- where none is left, all are done
pub all-done : (files : List File) (plan : List Rename) (given : List Given) (kept : List (List ℕ × Unmoved)) (h : InRenames files plan [] given kept) → outcomes_given files plan given ≡ h.done
all-done files plan given kept h = ap (outcomes files plan) (sym (append-nil (flat_map answer_given given))) ∙ (h.goes [] ∙ append-nil h.done)

pub all-count : (files : List File) (plan : List Rename) (given : List Given) (kept : List (List ℕ × Unmoved)) → InRenames files plan [] given kept → length (outcomes_given files plan given) ≡ length plan
all-count files plan given kept h = omega (arith, ap (λ (l : List Outcome). length l) (all-done files plan given kept h), h.count)

pub all-kept : (files : List File) (plan : List Rename) (given : List Given) (kept : List (List ℕ × Unmoved)) → InRenames files plan [] given kept → kept ≡ flat_map unmoved_in (outcomes_given files plan given)
all-kept files plan given kept h = h.kept_are ∙ ap (flat_map unmoved_in) (sym (all-done files plan given kept h))

-- what a rename becomes
abbrev pub long-done : (files : List File) (rename : Rename) (old new : List Given) → rename.to ≡ None → new ≡ old → IsDone files rename old new
long-done files rename old new is same = record {
  outcome = WasLong rename.from;
  first = λ more told. ap (λ (to : Option (List ℕ)). at_target files rename.from more told (target_of files to)) is;
  given_is = same ∙ sym (append-nil old);
}

abbrev pub taken-done : (files : List File) (rename : Rename) (to : List ℕ) (old new : List Given) → rename.to ≡ Some to → has_path files to ≡ true → new ≡ old → IsDone files rename old new
taken-done files rename to old new is there same = record {
  outcome = WasTaken rename.from;
  first = λ more told.
      ap (λ (o : Option (List ℕ)). at_target files rename.from more told (target_of files o)) is ∙ ap (λ (b : Bool). at_target files rename.from more told (cond b IsTaken (IsFree to))) there;
  given_is = same ∙ sym (append-nil old);
}

pub moved-given : (files : List File) (from to : List ℕ) (answer : Renamed) → files_given files (givens.Renamed from to answer ∷ []) ≡ files_moved files from to answer
moved-given files from to answers.Moved = refl
moved-given files from to answers.Missing = refl
moved-given files from to answers.Exists = refl

abbrev pub tried-done : (files : List File) (rename : Rename) (to : List ℕ) (answer : Renamed) (old new : List Given) → rename.to ≡ Some to → has_path files to ≡ false → new ≡ old ++ givens.Renamed rename.from to answer ∷ [] → IsDone files rename old new
tried-done files rename to answer old new is free given = record {
  outcome = WasTried rename.from to answer;
  first = λ more told.
      ap (λ (o : Option (List ℕ)). at_target files rename.from more (answer ∷ told) (target_of files o)) is
      ∙ (ap (λ (b : Bool). at_target files rename.from more (answer ∷ told) (cond b IsTaken (IsFree to))) free
      ∙ ap (λ (f : List File). WasTried rename.from to answer ∷ outcomes f more told) (sym (moved-given files rename.from to answer)));
  given_is = given;
}

moved-changed : (files : List File) (from to : List ℕ) (answer : Renamed) → fold changed files (move_if from to answer) ≡ files_moved files from to answer
moved-changed files from to answers.Moved = refl
moved-changed files from to answers.Missing = refl
moved-changed files from to answers.Exists = refl

-- what is kept after an answer
pub kept-more : (files : List File) (from to : List ℕ) (answer : Renamed) (done new : RenameLog) → IsKept files done → new.moves ≡ done.moves ++ move_if from to answer
    → ((mid : List File) → has_path mid to ≡ false → HasPlaces files mid done.places → HasPlaces files (files_moved mid from to answer) new.places) → has_path (fold changed files done.moves) to ≡ false → IsKept files new
kept-more files from to answer done new kept moves places free =
    let before : List File = fold changed files done.moves in
    let after : fold changed files new.moves ≡ files_moved before from to answer =
    ap (fold changed files) moves ∙ (fold-append changed files done.moves (move_if from to answer) ∙ moved-changed before from to answer) in
    subst (λ (f : List File). HasPlaces files f new.places) (sym after) (places before free kept)

-- where it stops, the rename was noted or not
pub stopped-tried : (files : List File) (plan : List Rename) (rename : Rename) (rest : List Rename) (given now : List Given) (kept : List (List ℕ × Unmoved)) → InRenames files plan (rename ∷ rest) given kept
    → (now ≡ given) ⊎ IsDone (files_given files given) rename given now → AreTried files plan now
stopped-tried files plan rename rest given now kept h (inl same) = subst (AreTried files plan) (sym same) (so-far-tried files plan (rename ∷ rest) given kept h)
stopped-tried files plan rename rest given now kept h (inr step) =
    so-far-tried files plan rest now (kept ++ unmoved_in step.outcome) (next-rename files plan rename rest given now kept (kept ++ unmoved_in step.outcome) h step refl)

-- What was noted before the renames changes nothing: they are followed by what was noted since.
module _ (old mid new first : List Given) (is : mid ≡ old ++ first) where
  abbrev pub done-since : (files after : List File) (rename : Rename) → files ≡ after → IsDone files rename mid new → IsDone after rename (since old mid) (since old new)
  done-since files after rename same step = record {
    outcome = step.outcome;
    first = λ more told.
        subst (λ (f : List File). outcomes f (rename ∷ more) (flat_map answer_given (note_of step.outcome) ++ told) ≡ step.outcome ∷ outcomes (files_given f (note_of step.outcome)) more told)
        same (step.first more told);
    given_is = since-more old mid new first (note_of step.outcome) is step.given_is;
  }

  pub moves-since : (note : List Given) (moves more : List Change) → new ≡ mid ++ note → moves ≡ flat_map move_given (since old mid) → more ≡ moves ++ flat_map move_given note → more ≡ flat_map move_given (since old new)
  moves-since note moves more noted are is_more =
      is_more
      ∙ (ap (λ (l : List Change). l ++ flat_map move_given note) are
      ∙ (sym (flat_map-append move_given (since old mid) note) ∙ ap (flat_map move_given) (sym (since-more old mid new first note is noted))))

  pub stopped-since : (files : List File) (plan : List Rename) (rename : Rename) (rest : List Rename) (moves : List Change) (kept : List (List ℕ × Unmoved)) → moves ≡ flat_map move_given (since old mid)
      → InRenames files plan (rename ∷ rest) (since old mid) kept → (new ≡ mid) ⊎ IsDone (fold changed files moves) rename mid new → AreTried files plan (since old new)
  stopped-since files plan rename rest moves kept are h (inl same) = stopped-tried files plan rename rest (since old mid) (since old new) kept h (inl (ap (since old) same))
  stopped-since files plan rename rest moves kept are h (inr step) =
      stopped-tried files plan rename rest (since old mid) (since old new) kept h (inr (done-since (fold changed files moves) (files_given files (since old mid)) rename (ap (fold changed files) are) step))

-- a note in the place of the last one
pub last-set : (front : List Given) (last note : Given) → slice_set (front ++ last ∷ []) (length front) note ≡ front ++ note ∷ []
last-set [] last note = refl
last-set (first ∷ front) last note = ap (λ (l : List Given). first ∷ l) (last-set front last note)

-- what holds holds where the answer is an error
pub where-err : {T E P : Type 0} (result : Result T E) → P → OnErr result P
where-err (Ok value) h = tt
where-err (Err error) h = h

module _ (from to path : List ℕ) where
  abbrev lies : Bool → Bool → Bool → Bool → Bool
  lies to_it from_it before there = cond to_it before (cond from_it false there)

  clash : (P : Type 0) (b : Bool) → b ≡ true → b ≡ false → P
  clash P true e f = absurd cc
  clash P false e f = absurd cc

  to-it : (old : List ℕ) (b : Bool) → same_text from old ≡ b → same_text to old ≡ false → path ≡ to → (more before : Bool) → more ≡ before → (same_text path (cond b to old) || more) ≡ (b || before)
  to-it old true is apart one more before h = ap (λ (t : Bool). t || more) (ap (λ (p : List ℕ). same_text p to) one ∙ nat_list_eq_equiv.refl to)
  to-it old false is apart one more before h = ap (λ (t : Bool). t || more) (ap (λ (p : List ℕ). same_text p old) one ∙ apart) ∙ h

  from-it : (old : List ℕ) (b : Bool) → same_text from old ≡ b → same_text path to ≡ false → path ≡ from → (more : Bool) → more ≡ false → (same_text path (cond b to old) || more) ≡ false
  from-it old true is apart one more h = ap (λ (t : Bool). t || more) apart ∙ h
  from-it old false is apart one more h = ap (λ (t : Bool). t || more) (ap (λ (p : List ℕ). same_text p old) one ∙ is) ∙ h

  other-it : (old : List ℕ) (b : Bool) → same_text from old ≡ b → same_text path to ≡ false → same_text path from ≡ false → (more there : Bool) → more ≡ there → (same_text path (cond b to old) || more) ≡ (same_text path old || there)
  other-it old true is apart other more there h =
      ap (λ (t : Bool). t || more) apart ∙ (h ∙ sym (ap (λ (t : Bool). t || there) (ap (same_text path) (sym (bytes_same from old (sym is))) ∙ other)))
  other-it old false is apart other more there h = ap (λ (t : Bool). same_text path old || t) h

  lie-by : (old : List ℕ) (a b : Bool) → same_text path to ≡ a → same_text path from ≡ b → same_text to old ≡ false → (more before there : Bool) → more ≡ lies a b before there
      → (same_text path (moved_path from to old) || more) ≡ lies a b (same_text from old || before) (same_text path old || there)
  lie-by old true b is other apart more before there h = to-it old (same_text from old) refl apart (bytes_same path to (sym is)) more before h
  lie-by old false true is other apart more before there h = from-it old (same_text from old) refl is (bytes_same path from (sym other)) more h
  lie-by old false false is other apart more before there h = other-it old (same_text from old) refl is other more there h

  none-lie : (a b : Bool) → false ≡ lies a b false false
  none-lie true b = refl
  none-lie false true = refl
  none-lie false false = refl

  pub lie-moved : (files : List File) → has_path files to ≡ false → has_path (with_moved files from to) path ≡ lies (same_text path to) (same_text path from) (has_path files from) (has_path files path)
  lie-moved [] none = none-lie (same_text path to) (same_text path from)
  lie-moved (file ∷ files) none =
      let apart = or_parts (same_text to file.0) (has_path files to) none in
      lie-by file.0 (same_text path to) (same_text path from) refl refl apart.0 (has_path (with_moved files from to) path) (has_path files from) (has_path files path) (lie-moved files apart.1)

abbrev Places : Type 0
Places = BTreeMap (List ℕ) Bool

abbrev found_in : Places → List ℕ → Option Bool
found_in places path = get (slice_cmp nat_cmp) places path

-- one more is put in
abbrev pub PutsAt : Places → Places → List ℕ → Bool → Type 0
PutsAt old new key value = (path : List ℕ) → found_in new path ≡ cond (is_at (slice_cmp nat_cmp key) path) (Some value) (found_in old path)

read-by : (a b there : Bool) (old : Option Bool) (was : Bool) → unwrap_or (cond a (Some there) (cond b (Some false) old)) was ≡ cond a there (cond b false (unwrap_or old was))
read-by true b there old was = refl
read-by false true there old was = refl
read-by false false there old was = refl

-- both places of a move are kept
pub places-moved : (before files : List File) (old mid new : Places) (from to : List ℕ) (there : Bool) → PutsAt old mid from false → PutsAt mid new to there → there ≡ has_path files from → has_path files to ≡ false
    → HasPlaces before files old → HasPlaces before (with_moved files from to) new
places-moved before files old mid new from to there put_from put_to lay none has = λ path.
    let tests_to : is_at (slice_cmp nat_cmp to) path ≡ same_text path to = sym (texts_ties to path) ∙ nat_list_eq_equiv.symm to path in
    let tests_from : is_at (slice_cmp nat_cmp from) path ≡ same_text path from = sym (texts_ties from path) ∙ nat_list_eq_equiv.symm from path in
    lie-moved from to path files none
    ∙ (ap (λ (b : Bool). cond (same_text path to) b (cond (same_text path from) false (has_path files path))) (sym lay)
    ∙ (ap (λ (b : Bool). cond (same_text path to) there (cond (same_text path from) false b)) (has path)
    ∙ sym (ap (λ (o : Option Bool). unwrap_or o (has_path before path)) (put_to path ∙ ap (λ (o : Option Bool). cond (is_at (slice_cmp nat_cmp to) path) (Some there) o) (put_from path))
    ∙ (read-by (is_at (slice_cmp nat_cmp to) path) (is_at (slice_cmp nat_cmp from) path) there (found_in old path) (has_path before path)
    ∙ (ap (λ (b : Bool). cond b there (cond (is_at (slice_cmp nat_cmp from) path) false (unwrap_or (found_in old path) (has_path before path)))) tests_to
    ∙ ap (λ (b : Bool). cond (same_text path to) there (cond b false (unwrap_or (found_in old path) (has_path before path)))) tests_from)))))

-- what the folder is asked
along-append : (tree mid after : Tree) (first second : List Given) → AnswersAlong tree first mid → AnswersAlong mid second after → AnswersAlong tree (first ++ second) after
along-append tree mid after [] second h k = subst (λ (t : Tree). AnswersAlong t second after) h k
along-append tree mid after (givens.Listed paths ∷ first) second h k = absurd h
along-append tree mid after (givens.Read path answer ∷ first) second h k = absurd h
along-append tree mid after (givens.Renamed from to answer ∷ first) second h k = (h.0, along-append (tree_with {E = MailError} tree from to (Ok answer)) mid after first second h.1 k)

trees-append : (old mid new : Option Tree) (first second : List Given) → TreesAlong old first mid → TreesAlong mid second new → TreesAlong old (first ++ second) new
trees-append None mid new first second h k = subst (λ (t : Option Tree). TreesAlong t second new) h k
trees-append (Some tree) mid new first second h k =
    let rest = subst (λ (t : Option Tree). TreesAlong t second new) h.1 k in
    (rest.0, rest.1, along-append tree h.0 rest.0 first second h.2 rest.2)

pub asks-then : (old mid new : ObservedMail) (given more all : List Given) → AsksRenames old mid given more → AsksRenames mid new more all → AsksRenames old new given all
asks-then old mid new given more all h k = record {
  more = h.more ++ k.more;
  given_is = k.given_is ∙ (ap (λ (l : List Given). l ++ k.more) h.given_is ∙ append_assoc given h.more k.more);
  tree = trees-append old.tree mid.tree new.tree h.more k.more h.tree k.tree;
  reads = k.reads ∙ h.reads;
}

trees-none : (old new : Option Tree) → new ≡ old → TreesAlong old [] new
trees-none None new h = h
trees-none (Some tree) new h = (tree, h, refl)

pub asks-nothing : (old new : ObservedMail) (given now : List Given) → new.tree ≡ old.tree → new.reads ≡ old.reads → now ≡ given → AsksRenames old new given now
asks-nothing old new given now tree reads same = record { more = []; given_is = same ∙ sym (append-nil given); tree = trees-none old.tree new.tree tree; reads = reads }

failed-tree : (from to : List ℕ) (error : MailError) (old : Option Tree) → option_map (λ tree. tree_with {E = MailError} tree from to (Err error)) old ≡ old
failed-tree from to error None = refl
failed-tree from to error (Some tree) = refl

pub asks-failed : (old new : ObservedMail) (from to : List ℕ) (error : MailError) (given now : List Given) → new.tree ≡ (after_rename old from to (Err error)).tree → new.reads ≡ old.reads → now ≡ given → AsksRenames old new given now
asks-failed old new from to error given now tree reads same = asks-nothing old new given now (tree ∙ failed-tree from to error old.tree) reads same

trees-one : (old new : Option Tree) (from to : List ℕ) (answer : Renamed) → new ≡ option_map (λ tree. tree_with {E = MailError} tree from to (Ok answer)) old → IfSome old (λ tree. answer ≡ renamed_of tree from to)
    → TreesAlong old (givens.Renamed from to answer ∷ []) new
trees-one None new from to answer is answered = is
trees-one (Some tree) new from to answer is answered = (tree_with {E = MailError} tree from to (Ok answer), is, (answered, refl))

pub asks-one : (old new : ObservedMail) (from to : List ℕ) (answer : Renamed) (given now : List Given) → new.tree ≡ (after_rename old from to (Ok answer)).tree → new.reads ≡ old.reads → IfSome old.tree (λ tree. answer ≡ renamed_of tree from to)
    → now ≡ given ++ givens.Renamed from to answer ∷ [] → AsksRenames old new given now
asks-one old new from to answer given now tree reads answered is = record { more = givens.Renamed from to answer ∷ []; given_is = is; tree = trees-one old.tree new.tree from to answer tree answered; reads = reads }

-- what is so anyway is so of a call that went well
pub always : {T E P : Type 0} (result : Result T E) → P → OnOk result P
always (Ok value) h = h
always (Err error) h = tt
