-- A path stays one where its last components are replaced by others that are components.
-- For the proofs of `path_of`, `in_cur`, `in_same` and others.
use Rattle.std.proofs.Common.{inl, inr, ◌≡◌, ℕ, ◌<◌, Bool, true, false, not, ◌&&◌, ◌==◌, List, [], ◌∷◌, ◌++◌, length, get_or, All, Option, None, Some, codes, refl, sym, ap, ◌∙◌, arith}
use Rattle.std.specs.List.{list_all, onto_first, slice_split}
use Rattle.std.proofs.lemmas.List.{append_assoc}
use Rattle.std.proofs.lemmas.Bool.{and_from, and_parts, cases_Bool, or_from, or_parts}
use Rattle.std.proofs.lemmas.List.Folds.{list_all-append, list_any-append, list_any_at}
use Rattle.std.proofs.lemmas.List.Elements.{All-from_get_or}
use Rattle.std.proofs.lemmas.List.Splits.{slice_split-cons_no, slice_split-cons_yes, slice_split_none}
use Rattle.nm_base.specs.MailPath.{components_of, has_no_zero, is_component, is_path_text}
use Rattle.std.specs.Prelude.{IsTrue, if◌then◌else◌}
use Rattle.std.specs.Char.{is_ascii_alphabetic}
use Rattle.std.proofs.lemmas.Bool.{eqb-true, false_from_ne_true, false≢true, not_from_false}
use Rattle.nm_base.specs.Limits.{max_path_bytes}
use Rattle.nm_base.specs.Bounds.{fits_length}
use Rattle.nm_base.specs.MailPath.{is_mail_path}
use Rattle.nm_name.specs.Cuts.{IsCutLast, cut_last, holds}
use Rattle.nm_name.specs.Names.{letters_of}
use Rattle.nm_name.specs.FlaggedPath.{AreLetters, marked, may_be_renamed, new_letters, parent_at, parent_of, placed, renamed, renamed_at, stem_at, stem_of}
use Rattle.nm_name.specs.declared.flags.Flags.{Flags}
use Rattle.nm_name.proofs.CutLemmas.{Joins, cut_joins}

abbrev is_slash : ℕ → Bool
is_slash b = b == 47

by_test : {P : Type 0} (test : Bool) → (test ≡ true → P) → (test ≡ false → P) → P
by_test {P} test passes fails = elim (cases_Bool test) [ inl e ↦ passes e | inr e ↦ fails e ]

-- the parts of a text are some
abbrev HasPart : List (List ℕ) → Type 0
HasPart parts = (first : List ℕ) × (rest : List (List ℕ)) × (parts ≡ first ∷ rest)

onto_part : (x : ℕ) (parts : List (List ℕ)) → HasPart parts → HasPart (onto_first x parts)
onto_part x parts h = (x ∷ h.0, h.1, ap (onto_first x) h.2)

onto_append : (x : ℕ) (parts more : List (List ℕ)) → HasPart parts → onto_first x (parts ++ more) ≡ onto_first x parts ++ more
onto_append x parts more h = ap (λ p. onto_first x (p ++ more)) h.2 ∙ sym (ap (λ p. onto_first x p ++ more) h.2)

some_part : (xs : List ℕ) → HasPart (slice_split is_slash xs)
some_part [] = ([], [], refl)
some_part (x ∷ xs) =
    by_test (is_slash x)
    (λ e. ([], slice_split is_slash xs, slice_split-cons_yes is_slash x xs e))
    (λ e. let h = onto_part x (slice_split is_slash xs) (some_part xs) in (h.0, h.1, slice_split-cons_no is_slash x xs e ∙ h.2))

pub parts_append : (xs ys : List ℕ) → components_of (xs ++ 47 ∷ ys) ≡ components_of xs ++ components_of ys
parts_append [] ys = slice_split-cons_yes is_slash 47 ys refl
parts_append (x ∷ xs) ys =
    by_test (is_slash x)
    (λ e. slice_split-cons_yes is_slash x (xs ++ 47 ∷ ys) e ∙ ap (λ p. [] ∷ p) (parts_append xs ys) ∙ sym (ap (λ p. p ++ components_of ys) (slice_split-cons_yes is_slash x xs e)))
    (λ e. slice_split-cons_no is_slash x (xs ++ 47 ∷ ys) e ∙ ap (onto_first x) (parts_append xs ys) ∙ onto_append x (components_of xs) (components_of ys) (some_part xs) ∙ sym (ap (λ p. p ++ components_of ys) (slice_split-cons_no is_slash x xs e)))

all_lack : (wanted : ℕ) (bytes : List ℕ) → holds wanted bytes ≡ false → All (λ b. (b == wanted) ≡ false) bytes
all_lack wanted bytes lacking =
    All-from_get_or (λ b. (b == wanted) ≡ false) bytes 0 (λ i within. false_from_ne_true (get_or bytes i 0 == wanted) (λ e. false≢true (sym lacking ∙ list_any_at (λ b. b == wanted) bytes i 0 within e)))

pub one_part : (name : List ℕ) → holds 47 name ≡ false → components_of name ≡ name ∷ []
one_part name lacking = slice_split_none is_slash name (all_lack 47 name lacking)

marked_is_component : (stem letters : List ℕ) → is_component (stem ++ 58 ∷ 50 ∷ 44 ∷ letters) ≡ true
marked_is_component [] letters = refl
marked_is_component (a ∷ []) letters = refl
marked_is_component (a ∷ b ∷ []) letters = refl
marked_is_component (a ∷ b ∷ c ∷ more) letters = refl

-- a path text is not empty
pub some_path : (text : List ℕ) → is_path_text text ≡ true → 0 < length text
some_path [] is = absurd (false≢true is)
some_path (b ∷ text) is = omega arith

-- a text that is a path text: no zero, and each component is one
pub path_parts : (path : List ℕ) → is_path_text path ≡ true → (has_no_zero path ≡ true) × (list_all is_component (components_of path) ≡ true)
path_parts path is = and_parts (has_no_zero path) (list_all is_component (components_of path)) is

zero_parts : (xs ys : List ℕ) → has_no_zero (xs ++ ys) ≡ true → (has_no_zero xs ≡ true) × (has_no_zero ys ≡ true)
zero_parts xs ys h = and_parts (has_no_zero xs) (has_no_zero ys) (sym (list_all-append (λ b. not (b == 0)) xs ys) ∙ h)

zero_join : (xs ys : List ℕ) → has_no_zero xs ≡ true → has_no_zero ys ≡ true → has_no_zero (xs ++ ys) ≡ true
zero_join xs ys h k = list_all-append (λ b. not (b == 0)) xs ys ∙ and_from (has_no_zero xs) (has_no_zero ys) h k

pub slash_join : (xs ys : List ℕ) → holds 47 xs ≡ false → holds 47 ys ≡ false → holds 47 (xs ++ ys) ≡ false
slash_join xs ys h k = list_any-append is_slash xs ys ∙ or_from (holds 47 xs) (holds 47 ys) h k

pub slash_parts : (xs ys : List ℕ) → holds 47 (xs ++ ys) ≡ false → (holds 47 xs ≡ false) × (holds 47 ys ≡ false)
slash_parts xs ys h = or_parts (holds 47 xs) (holds 47 ys) (sym (list_any-append is_slash xs ys) ∙ h)

-- the two texts with a `/` between them are a path, and so is each
pub front_is : (folder name : List ℕ) → is_path_text (folder ++ 47 ∷ name) ≡ true → is_path_text folder ≡ true
front_is folder name is =
    let whole = path_parts (folder ++ 47 ∷ name) is in
    and_from (has_no_zero folder) (list_all is_component (components_of folder)) (zero_parts folder (47 ∷ name) whole.0).0
    (and_parts (list_all is_component (components_of folder)) (list_all is_component (components_of name))
    (sym (list_all-append is_component (components_of folder) (components_of name)) ∙ sym (ap (list_all is_component) (parts_append folder name)) ∙ whole.1)).0

pub back_zero : (folder name : List ℕ) → is_path_text (folder ++ 47 ∷ name) ≡ true → has_no_zero name ≡ true
back_zero folder name is = (zero_parts (47 ∷ []) name (zero_parts folder (47 ∷ name) (path_parts (folder ++ 47 ∷ name) is).0).1).1

pub joined_is : (folder name : List ℕ) → is_path_text folder ≡ true → has_no_zero name ≡ true → holds 47 name ≡ false → is_component name ≡ true → is_path_text (folder ++ 47 ∷ name) ≡ true
joined_is folder name is zero slash component =
    let f = path_parts folder is in
    and_from (has_no_zero (folder ++ 47 ∷ name)) (list_all is_component (components_of (folder ++ 47 ∷ name)))
    (zero_join folder (47 ∷ name) f.0 (and_from true (has_no_zero name) refl zero))
    (ap (list_all is_component) (parts_append folder name ∙ ap (λ p. components_of folder ++ p) (one_part name slash))
    ∙ list_all-append is_component (components_of folder) (name ∷ []) ∙ and_from (list_all is_component (components_of folder)) (is_component name && true) f.1 (and_from (is_component name) true component refl))

-- a name with its mark
module _ (stem letters : List ℕ) (stem_zero : has_no_zero stem ≡ true) (stem_slash : holds 47 stem ≡ false) (letters_zero : has_no_zero letters ≡ true) (letters_slash : holds 47 letters ≡ false) where
  pub mark_zero : has_no_zero (stem ++ codes ":2," ++ letters) ≡ true
  mark_zero = zero_join (stem ++ codes ":2,") letters (zero_join stem (codes ":2,") stem_zero refl) letters_zero

  pub mark_slash : holds 47 (stem ++ codes ":2," ++ letters) ≡ false
  mark_slash = slash_join (stem ++ codes ":2,") letters (slash_join stem (codes ":2,") stem_slash refl) letters_slash

  pub mark_component : is_component (stem ++ codes ":2," ++ letters) ≡ true
  mark_component = ap is_component (append_assoc stem (codes ":2,") letters) ∙ marked_is_component stem letters

letter_is : (b : ℕ) → is_ascii_alphabetic b ≡ true → (not (b == 0) ≡ true) × ((b == 47) ≡ false)
letter_is b h = (
  not_from_false (b == 0) (false_from_ne_true (b == 0) (λ e. false≢true (sym (ap is_ascii_alphabetic (eqb-true b 0 e)) ∙ h))),
  false_from_ne_true (b == 47) (λ e. false≢true (sym (ap is_ascii_alphabetic (eqb-true b 47 e)) ∙ h)),
)

letters_are : (letters : List ℕ) → AreLetters letters → (has_no_zero letters ≡ true) × (holds 47 letters ≡ false)
letters_are [] h = (refl, refl)
letters_are (b ∷ letters) h =
    let p = and_parts (is_ascii_alphabetic b) (list_all is_ascii_alphabetic letters) h in
    let first = letter_is b p.0 in
    let rest = letters_are letters p.1 in
    (and_from (not (b == 0)) (has_no_zero letters) first.0 rest.0, or_from (b == 47) (holds 47 letters) first.1 rest.1)

stem_parts : (name : List ℕ) (found : Option (List ℕ × List ℕ)) → Joins 58 name found → has_no_zero name ≡ true → holds 47 name ≡ false
    → (has_no_zero (stem_at name found) ≡ true) × (holds 47 (stem_at name found) ≡ false)
stem_parts name None joins zero slash = (zero, slash)
stem_parts name (Some cut) joins zero slash = (
  (zero_parts cut.0 (58 ∷ cut.1) (sym (ap has_no_zero joins) ∙ zero)).0,
  (slash_parts cut.0 (58 ∷ cut.1) (sym (ap (holds 47) joins) ∙ slash)).0,
)

-- the path of a mail, cut before its name, and the letters that it is to carry
module _ (path folder name letters : List ℕ) (is : IsTrue (is_mail_path path)) (cut : IsCutLast 47 path (folder, name)) (are : AreLetters letters) where
  whole : is_path_text (folder ++ 47 ∷ name) ≡ true
  whole = sym (ap is_path_text cut.0) ∙ (and_parts (fits_length max_path_bytes path) (is_path_text path) is).1

  stem : (has_no_zero (stem_of name) ≡ true) × (holds 47 (stem_of name) ≡ false)
  stem = stem_parts name (cut_last 58 name) (cut_joins 58 name) (back_zero folder name whole) cut.1

  named_is : (front : List ℕ) → is_path_text front ≡ true → is_path_text (front ++ 47 ∷ marked name letters) ≡ true
  named_is front front_is =
      let l = letters_are letters are in
      joined_is front (marked name letters) front_is (mark_zero (stem_of name) letters stem.0 stem.1 l.0 l.1) (mark_slash (stem_of name) letters stem.0 stem.1 l.0 l.1) (mark_component (stem_of name) letters stem.0 stem.1 l.0 l.1)

  pub same_is : is_path_text (folder ++ 47 ∷ marked name letters) ≡ true
  same_is = named_is folder (front_is folder name whole)

  pub is_same : (text : List ℕ) → text ≡ folder ++ 47 ∷ marked name letters → is_path_text text ≡ true
  is_same text e = ap is_path_text e ∙ same_is

  cur_at : (found : Option (List ℕ × List ℕ)) → Joins 47 folder found → is_path_text (parent_at found ++ codes "cur/" ++ marked name letters) ≡ true
  cur_at None joins = named_is (codes "cur") refl
  cur_at (Some two) joins =
      let parent = front_is two.0 two.1 (sym (ap is_path_text joins) ∙ front_is folder name whole) in
      ap is_path_text (append_assoc (two.0 ++ 47 ∷ []) (codes "cur/") (marked name letters) ∙ append_assoc two.0 (47 ∷ []) (codes "cur/" ++ marked name letters) ∙ sym (append_assoc two.0 (codes "/cur") (47 ∷ marked name letters)))
      ∙ named_is (two.0 ++ codes "/cur") (joined_is two.0 (codes "cur") parent refl refl refl)

  pub cur_is : is_path_text (parent_of folder ++ codes "cur/" ++ marked name letters) ≡ true
  cur_is = cur_at (cut_last 47 folder) (cut_joins 47 folder)

  pub is_cur : (text : List ℕ) → text ≡ parent_of folder ++ codes "cur/" ++ marked name letters → is_path_text text ≡ true
  is_cur text e = ap is_path_text e ∙ cur_is

-- what is placed is what is asked for
pub renamed_is : (path folder name letters : List ℕ) (flags : Flags) → cut_last 47 path ≡ Some (folder, name) → may_be_renamed name ≡ true → letters ≡ new_letters (letters_of name) flags
    → placed path folder name letters ≡ renamed path flags
renamed_is path folder name letters flags found may same =
    ap (placed path folder name) same ∙ sym (ap (renamed_at path flags) found ∙ ap (λ b. if b then placed path folder name (new_letters (letters_of name) flags) else path) may)
