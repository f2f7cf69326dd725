-- What is written is read, other letters stay, and what may not be renamed stays.
-- For the proofs of `a_name_that_may_not_be_renamed_stays`, `other_letters_stay` and `what_is_written_is_read`.
use Rattle.std.proofs.Common.{inl, inr, ◌≡◌, ℕ, Bool, true, false, ◌&&◌, ◌||◌, ◌==◌, if◌then◌else◌, List, [], ◌∷◌, ◌++◌, filter, Option, None, Some, codes, refl, sym, ap, ◌∙◌, arith}
use Rattle.std.specs.Char.{is_ascii_alphabetic}
use Rattle.std.specs.List.{list_all}
use Rattle.std.proofs.Math.Bool.{and-false, and-true}
use Rattle.std.proofs.lemmas.Bool.{agree_below_at, and_parts, cases_Bool, eqb-true, false_from_ne_true, false≢true, or_from}
use Rattle.std.proofs.lemmas.List.{append_assoc}
use Rattle.nm_name.specs.Cuts.{cut_last, holds}
use Rattle.nm_name.specs.Names.{flags_of, flags_of_letters, last_part, letters_at, letters_of, name_of}
use Rattle.nm_name.specs.FlaggedPath.{AreLetters, alphabet, is_asked, is_carried, is_set, marked, may_be_renamed, new_letters, placed, renamed, renamed_at, stem_at, stem_of}
use Rattle.nm_name.specs.declared.flags.Flags.{Flags}
use Rattle.nm_name.proofs.CutLemmas.{Joins, cut_again, cut_joins}
use Rattle.nm_name.proofs.PathLemmas.{slash_join, slash_parts}

-- a byte is in what passes a test where it passes and was there
passing : (p : ℕ → Bool) (wanted x : ℕ) (xs : List ℕ) (here : Bool) → p x ≡ here → holds wanted (filter p xs) ≡ (p wanted && holds wanted xs)
    → holds wanted (if here then x ∷ filter p xs else filter p xs) ≡ (p wanted && ((x == wanted) || holds wanted xs))
passing p wanted x xs true passes rest =
    elim (cases_Bool (x == wanted)) [
      | inl e ↦
          let w : p wanted ≡ true = ap p (sym (eqb-true x wanted e)) ∙ passes in
          ap (λ b. b || holds wanted (filter p xs)) e ∙ sym (ap (λ b. b && ((x == wanted) || holds wanted xs)) w ∙ ap (λ b. b || holds wanted xs) e)
      | inr e ↦ ap (λ b. b || holds wanted (filter p xs)) e ∙ rest ∙ sym (ap (λ b. p wanted && (b || holds wanted xs)) e)
    ]
passing p wanted x xs false fails rest =
    elim (cases_Bool (x == wanted)) [
      | inl e ↦
          let w : p wanted ≡ false = ap p (sym (eqb-true x wanted e)) ∙ fails in
          rest ∙ ap (λ b. b && holds wanted xs) w ∙ sym (ap (λ b. b && ((x == wanted) || holds wanted xs)) w)
      | inr e ↦ rest ∙ sym (ap (λ b. p wanted && (b || holds wanted xs)) e)
    ]

holds_filter : (p : ℕ → Bool) (wanted : ℕ) (xs : List ℕ) → holds wanted (filter p xs) ≡ (p wanted && holds wanted xs)
holds_filter p wanted [] = sym (and-false (p wanted))
holds_filter p wanted (x ∷ xs) = passing p wanted x xs (p x) refl (holds_filter p wanted xs)

all_filter : (letters : List ℕ) (flags : Flags) (xs : List ℕ) → AreLetters xs → AreLetters (filter (is_carried letters flags) xs)
all_filter letters flags [] are = refl
all_filter letters flags (x ∷ xs) are =
    let p = and_parts (is_ascii_alphabetic x) (list_all is_ascii_alphabetic xs) are in
    kept (is_carried letters flags x) x (filter (is_carried letters flags) xs) p.0 (all_filter letters flags xs p.1)
  where
    kept : (here : Bool) (x : ℕ) (rest : List ℕ) → is_ascii_alphabetic x ≡ true → AreLetters rest → AreLetters (if here then x ∷ rest else rest)
    kept true x rest is are = ap (λ b. b && list_all is_ascii_alphabetic rest) is ∙ are
    kept false x rest is are = are

pub new_are_letters : (letters : List ℕ) (flags : Flags) → AreLetters (new_letters letters flags)
new_are_letters letters flags = all_filter letters flags alphabet refl

pub lacks_other : (other : ℕ) → is_ascii_alphabetic other ≡ false → (letters : List ℕ) → AreLetters letters → holds other letters ≡ false
lacks_other other not_one [] are = refl
lacks_other other not_one (b ∷ letters) are =
    let p = and_parts (is_ascii_alphabetic b) (list_all is_ascii_alphabetic letters) are in
    or_from (b == other) (holds other letters)
    (false_from_ne_true (b == other) (λ e. false≢true (sym not_one ∙ (sym (ap is_ascii_alphabetic (eqb-true b other e)) ∙ p.0))))
    (lacks_other other not_one letters p.1)

pub stem_slash : (name : List ℕ) (found : Option (List ℕ × List ℕ)) → Joins 58 name found → holds 47 name ≡ false → holds 47 (stem_at name found) ≡ false
stem_slash name None joins slash = slash
stem_slash name (Some cut) joins slash = (slash_parts cut.0 (58 ∷ cut.1) (sym (ap (holds 47) joins) ∙ slash)).0

-- the letters of a name that is written
pub letters_again : (name letters : List ℕ) → AreLetters letters → letters_of (marked name letters) ≡ letters
letters_again name letters are =
    ap letters_at (ap (cut_last 58) (append_assoc (stem_of name) (codes ":2,") letters) ∙ cut_again 58 (stem_of name) (50 ∷ 44 ∷ letters) (lacks_other 58 refl letters are))
    ∙ ap (λ b. if b then letters else []) are

name_again : (folder name letters : List ℕ) → AreLetters letters → holds 47 name ≡ false → name_of (folder ++ 47 ∷ marked name letters) ≡ marked name letters
name_again folder name letters are slash =
    ap (last_part (folder ++ 47 ∷ marked name letters)) (cut_again 47 folder (marked name letters)
    (slash_join (stem_of name ++ codes ":2,") letters (slash_join (stem_of name) (codes ":2,") (stem_slash name (cut_last 58 name) (cut_joins 58 name) slash) refl) (lacks_other 47 refl letters are)))

pub one : (letters : List ℕ) (flags : Flags) (letter : ℕ) (is : Bool) → is_carried letters flags letter ≡ is → holds letter alphabet ≡ true → holds letter (new_letters letters flags) ≡ is
one letters flags letter is carried known = holds_filter (is_carried letters flags) letter alphabet ∙ ap (λ b. is_carried letters flags letter && b) known ∙ and-true (is_carried letters flags letter) ∙ carried

pub what_is_written_is_read : (folder name : List ℕ) (flags : Flags) → holds 47 name ≡ false
    → flags_of (folder ++ 47 ∷ marked name (new_letters (letters_of name) flags)) ≡ record flags { trashed = holds 84 (letters_of name) }
what_is_written_is_read folder name flags slash =
    let old = letters_of name in
    let are = new_are_letters old flags in
    let d = one old flags 68 flags.draft refl refl in
    let f = one old flags 70 flags.flagged refl refl in
    let p = one old flags 80 flags.passed refl refl in
    let r = one old flags 82 flags.replied refl refl in
    let s = one old flags 83 flags.seen refl refl in
    let t = one old flags 84 (holds 84 old) refl refl in
    ap (λ n. flags_of_letters (letters_of n)) (name_again folder name (new_letters old flags) are slash) ∙ ap flags_of_letters (letters_again name (new_letters old flags) are) ∙ cc

known_letter : (letter : ℕ) → is_ascii_alphabetic letter ≡ true → holds letter alphabet ≡ true
known_letter letter is = sym (agree_below_at is_ascii_alphabetic (λ b. holds b alphabet) 128 letter refl (grind arith)) ∙ is

pub other_letters_stay : (letters : List ℕ) (flags : Flags) (letter : ℕ) → AreLetters letters → is_asked letter ≡ false → holds letter (new_letters letters flags) ≡ holds letter letters
other_letters_stay letters flags letter are other =
    elim (cases_Bool (is_ascii_alphabetic letter)) [
      | inl is ↦ one letters flags letter (holds letter letters) (ap (λ b. b && (if is_asked letter then is_set flags letter else holds letter letters)) is ∙ ap (λ b. if b then is_set flags letter else holds letter letters) other) (known_letter letter is)
      | inr isnt ↦ lacks_other letter isnt (new_letters letters flags) (new_are_letters letters flags) ∙ sym (lacks_other letter isnt letters are)
    ]

pub a_name_that_may_not_be_renamed_stays : (folder name : List ℕ) (flags : Flags) → holds 47 name ≡ false → may_be_renamed name ≡ false
    → renamed (folder ++ 47 ∷ name) flags ≡ folder ++ 47 ∷ name
a_name_that_may_not_be_renamed_stays folder name flags slash may_not =
    ap (renamed_at (folder ++ 47 ∷ name) flags) (cut_again 47 folder name slash)
    ∙ ap (λ b. if b then placed (folder ++ 47 ∷ name) folder name (new_letters (letters_of name) flags) else (folder ++ 47 ∷ name)) may_not
