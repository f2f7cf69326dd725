-- A path that carries the flags is its own target, and one that is changed carries what was asked for.
-- For the proofs of `a_path_that_carries_its_flags_stays` and `what_is_written_is_read`.
use Rattle.std.proofs.Common.{◌≡◌, ℕ, Bool, true, false, not, ◌&&◌, ◌||◌, ◌==◌, if◌then◌else◌, List, [], ◌∷◌, ◌++◌, drop, Option, None, Some, codes, refl, sym, ap, ◌∙◌, subst}
use Rattle.std.specs.Prelude.{◌≢◌, nat_eq}
use Rattle.std.specs.Char.{is_ascii_alphabetic}
use Rattle.std.specs.Cmp.Lexicographic as lexicographic
use Rattle.std.specs.List.{list_all, starts_with}
use Rattle.std.specs.Option.{MatchOption}
use Rattle.std.proofs.lemmas.Bool.{and_parts, eqb-false, eqb-true, false_from_ne_true, false≢true, or_from}
use Rattle.std.proofs.lemmas.List.{append_assoc}
use Rattle.std.proofs.lemmas.List.Elements.{filter_agree}
use Rattle.std.proofs.Math.Bool.{or-true}
use Rattle.nm_base.specs.Order.{same_text}
use Rattle.nm_name.specs.Cuts.{cut_before, cut_last, holds}
use Rattle.nm_name.specs.Names.{flags_of, flags_of_letters, is_mark, last_part, letters_at, letters_of, name_of}
use Rattle.nm_name.specs.FlaggedPath.{AreInOrder, AreLetters, alphabet, is_asked, is_carried, is_empty, is_set, marked, may_be_cut, may_be_renamed, new_letters, parent_at, parent_of, placed, renamed, renamed_at, stem_at, stem_of}
use Rattle.nm_name.specs.declared.flags.Flags.{Flags}
use Rattle.nm_name.proofs.CutLemmas.{cut_again, cut_joins}
use Rattle.nm_name.proofs.LawLemmas.{lacks_other, new_are_letters, other_letters_stay, stem_slash, what_is_written_is_read}
use Rattle.nm_name.proofs.PathLemmas.{slash_join}

-- the letters of a name are letters
letters_by : (tail : List ℕ) (b : Bool) → is_mark tail ≡ b → AreLetters (if b then drop 2 tail else [])
letters_by tail true is = (and_parts (starts_with nat_eq tail (codes "2,")) (list_all is_ascii_alphabetic (drop 2 tail)) is).1
letters_by tail false is = refl

letters_found : (found : Option (List ℕ × List ℕ)) → AreLetters (letters_at found)
letters_found None = refl
letters_found (Some cut) = letters_by cut.1 (is_mark cut.1) refl

-- a letter is carried alike where the others hold it alike
carried_by : (b : Bool) (letters others : List ℕ) (flags : Flags) (x : ℕ) → is_asked x ≡ b → (b ≡ false → holds x letters ≡ holds x others) → is_carried letters flags x ≡ is_carried others flags x
carried_by true letters others flags x is same =
    ap (λ (t : Bool). is_ascii_alphabetic x && (if t then is_set flags x else holds x letters)) is ∙ sym (ap (λ (t : Bool). is_ascii_alphabetic x && (if t then is_set flags x else holds x others)) is)
carried_by false letters others flags x is same =
    ap (λ (t : Bool). is_ascii_alphabetic x && (if t then is_set flags x else holds x letters)) is
    ∙ (ap (λ (t : Bool). is_ascii_alphabetic x && t) (same refl) ∙ sym (ap (λ (t : Bool). is_ascii_alphabetic x && (if t then is_set flags x else holds x others)) is))

-- letters that were written are written again
letters_twice : (letters : List ℕ) (flags : Flags) → AreLetters letters → new_letters (new_letters letters flags) flags ≡ new_letters letters flags
letters_twice letters flags are =
    filter_agree (is_carried (new_letters letters flags) flags) (is_carried letters flags)
    (λ x. carried_by (is_asked x) (new_letters letters flags) letters flags x refl (λ other. other_letters_stay letters flags x are other)) alphabet

-- a letter that is asked for is set as it is there
set_by : (wanted x : ℕ) (letters : List ℕ) (b rest : Bool) → (x == wanted) ≡ b → (b ≡ false → rest ≡ holds x letters) → (if b then holds wanted letters else rest) ≡ holds x letters
set_by wanted x letters true rest is more = ap (λ (n : ℕ). holds n letters) (sym (eqb-true x wanted is))
set_by wanted x letters false rest is more = more refl

turned : (wanted x : ℕ) → (x == wanted) ≡ false → (wanted == x) ≡ false
turned wanted x apart = false_from_ne_true (wanted == x) (λ e. eqb-false x wanted apart (sym (eqb-true wanted x e)))

none_asked : (x : ℕ) → (x == 68) ≡ false → (x == 70) ≡ false → (x == 80) ≡ false → (x == 82) ≡ false → (x == 83) ≡ false → is_asked x ≡ false
none_asked x d f p r s =
    or_from (68 == x) _ (turned 68 x d) (or_from (70 == x) _ (turned 70 x f) (or_from (80 == x) _ (turned 80 x p) (or_from (82 == x) _ (turned 82 x r) (or_from (83 == x) false (turned 83 x s) refl))))

set_as_there : (x : ℕ) (letters : List ℕ) → is_asked x ≡ true → is_set (flags_of_letters letters) x ≡ holds x letters
set_as_there x letters asked =
    set_by 68 x letters (x == 68) _ refl (λ d.
    set_by 70 x letters (x == 70) _ refl (λ f.
    set_by 80 x letters (x == 80) _ refl (λ p.
    set_by 82 x letters (x == 82) _ refl (λ r.
    set_by 83 x letters (x == 83) false refl (λ s. absurd (false≢true (sym (none_asked x d f p r s) ∙ asked)))))))

own_by : (b : Bool) (letters : List ℕ) (flags : Flags) (x : ℕ) → is_asked x ≡ b → flags_of_letters letters ≡ record flags { trashed = holds 84 letters } → (if b then is_set flags x else holds x letters) ≡ holds x letters
own_by true letters flags x is same = sym (ap (λ (f : Flags). is_set f x) same) ∙ set_as_there x letters is
own_by false letters flags x is same = refl

letter_by : (b : Bool) (letters : List ℕ) (flags : Flags) (x : ℕ) → is_ascii_alphabetic x ≡ b → AreLetters letters → flags_of_letters letters ≡ record flags { trashed = holds 84 letters } → (b && (if is_asked x then is_set flags x else holds x letters)) ≡ holds x letters
letter_by true letters flags x is are same = own_by (is_asked x) letters flags x refl same
letter_by false letters flags x is are same = sym (lacks_other x is letters are)

-- letters in order that say the flags are those that are written for them
letters_own : (letters : List ℕ) (flags : Flags) → AreLetters letters → AreInOrder letters → flags_of_letters letters ≡ record flags { trashed = holds 84 letters } → new_letters letters flags ≡ letters
letters_own letters flags are order same =
    filter_agree (is_carried letters flags) (λ x. holds x letters) (λ x. letter_by (is_ascii_alphabetic x) letters flags x refl are same) alphabet ∙ order

-- a name with its mark
module _ (stem letters : List ℕ) (are : AreLetters letters) where
  abbrev name : List ℕ
  name = stem ++ codes ":2," ++ letters

  pub cut_mark : cut_last 58 name ≡ Some (stem, 50 ∷ 44 ∷ letters)
  cut_mark = ap (cut_last 58) (append_assoc stem (codes ":2,") letters) ∙ cut_again 58 stem (50 ∷ 44 ∷ letters) (lacks_other 58 refl letters are)

  pub its_letters : letters_of name ≡ letters
  its_letters = ap letters_at cut_mark ∙ ap (λ (b : Bool). if b then letters else []) are

  pub may : may_be_renamed name ≡ true
  may = ap may_be_cut cut_mark ∙ are

  marked_again : marked name letters ≡ name
  marked_again = ap (λ (s : List ℕ). s ++ codes ":2," ++ letters) (ap (stem_at name) cut_mark)

  pub colon : (front : List ℕ) → holds 58 (front ++ codes ":2," ++ letters) ≡ true
  colon [] = refl
  colon (x ∷ front) = ap (λ (b : Bool). (x == 58) || b) (colon front) ∙ or-true (x == 58)

  -- in `cur` it stays where its letters are those that are to be written
  pub stays : (folder : List ℕ) (flags : Flags) → name_of folder ≡ codes "cur" → holds 47 stem ≡ false → new_letters letters flags ≡ letters → renamed (folder ++ 47 ∷ name) flags ≡ folder ++ 47 ∷ name
  stays folder flags cur slash same =
      let path : List ℕ = folder ++ 47 ∷ name in
      let no_slash : holds 47 name ≡ false = slash_join (stem ++ codes ":2,") letters (slash_join stem (codes ":2,") slash refl) (lacks_other 47 refl letters are) in
      ap (renamed_at path flags) (cut_again 47 folder name no_slash)
      ∙ (ap (λ (b : Bool). if b then placed path folder name (new_letters (letters_of name) flags) else path) may
      ∙ (ap (placed path folder name) (ap (λ (l : List ℕ). new_letters l flags) its_letters ∙ same)
      ∙ (ap (λ (kind : List ℕ). if same_text kind (codes "new") then (if is_empty letters then path else parent_of folder ++ codes "cur/" ++ marked name letters)
      else (if same_text kind (codes "cur") then (if not (holds 58 name) && is_empty letters then path else folder ++ 47 ∷ marked name letters) else path)) cur
      ∙ (ap (λ (b : Bool). if not b && is_empty letters then path else folder ++ 47 ∷ marked name letters) (colon stem)
      ∙ ap (λ (n : List ℕ). folder ++ 47 ∷ n) marked_again))))

pub stays_own : (folder stem letters : List ℕ) (flags : Flags) → name_of folder ≡ codes "cur" → holds 47 stem ≡ false → AreLetters letters → AreInOrder letters → flags_of_letters letters ≡ record flags { trashed = holds 84 letters }
    → renamed (folder ++ 47 ∷ (stem ++ codes ":2," ++ letters)) flags ≡ folder ++ 47 ∷ (stem ++ codes ":2," ++ letters)
stays_own folder stem letters flags cur slash are order same = stays stem letters are folder flags cur slash (letters_own letters flags are order same)

-- what comes after a cut lacks the byte, and so does a text that is not cut
abbrev Lacks : ℕ → List ℕ → Option (List ℕ × List ℕ) → Type 0
Lacks wanted bytes found = MatchOption found (holds wanted bytes ≡ false) (λ cut. holds wanted cut.1 ≡ false)

here_lacks : (wanted byte : ℕ) (bytes : List ℕ) (b : Bool) → (byte == wanted) ≡ b → holds wanted bytes ≡ false → Lacks wanted (byte ∷ bytes) (if b then Some ([], bytes) else None)
here_lacks wanted byte bytes true is none = none
here_lacks wanted byte bytes false is none = or_from (byte == wanted) (holds wanted bytes) is none

step_lacks : (wanted byte : ℕ) (bytes : List ℕ) (found : Option (List ℕ × List ℕ)) → Lacks wanted bytes found → Lacks wanted (byte ∷ bytes) (cut_before wanted byte bytes found)
step_lacks wanted byte bytes None h = here_lacks wanted byte bytes (byte == wanted) refl h
step_lacks wanted byte bytes (Some cut) h = h

cut_lacks : (wanted : ℕ) (bytes : List ℕ) → Lacks wanted bytes (cut_last wanted bytes)
cut_lacks wanted [] = refl
cut_lacks wanted (byte ∷ bytes) = step_lacks wanted byte bytes (cut_last wanted bytes) (cut_lacks wanted bytes)

-- the `cur` beside a folder
cur_beside : (found : Option (List ℕ × List ℕ)) → name_of (parent_at found ++ codes "cur") ≡ codes "cur"
cur_beside None = refl
cur_beside (Some cut) =
    ap name_of (append_assoc cut.0 (47 ∷ []) (codes "cur")) ∙ ap (last_part (cut.0 ++ 47 ∷ codes "cur")) (cut_again 47 cut.0 (codes "cur") refl)

in_cur : (parent name : List ℕ) → (parent ++ codes "cur") ++ 47 ∷ name ≡ parent ++ codes "cur/" ++ name
in_cur parent name = append_assoc parent (codes "cur") (47 ∷ name) ∙ sym (append_assoc parent (codes "cur/") name)

-- A path stays, or it is a name with its mark in a `cur`.
module _ (P : List ℕ → Type 0) (path : List ℕ) (flags : Flags) (same : renamed path flags ≡ path → P (renamed path flags)) where
  bare_by : (b : Bool) (to : List ℕ) → renamed path flags ≡ (if b then path else to) → P to → P (renamed path flags)
  bare_by true to e p = same e
  bare_by false to e p = subst P (sym e) p

  cur_by : (folder to : List ℕ) (bare c : Bool) → same_text (name_of folder) (codes "cur") ≡ c → renamed path flags ≡ (if c then (if bare then path else to) else path) → (name_of folder ≡ codes "cur" → P to) → P (renamed path flags)
  cur_by folder to bare true is e p = bare_by bare to e (p (lexicographic.same_text (name_of folder) (codes "cur") (sym is)))
  cur_by folder to bare false is e p = same e

  new_by : (folder one two : List ℕ) (n first second : Bool) → renamed path flags ≡ (if n then (if first then path else one) else (if same_text (name_of folder) (codes "cur") then (if second then path else two) else path))
      → P one → (name_of folder ≡ codes "cur" → P two) → P (renamed path flags)
  new_by folder one two true first second e p q = bare_by first one e p
  new_by folder one two false first second e p q = cur_by folder two second (same_text (name_of folder) (codes "cur")) refl e q

  may_by : (folder its_name : List ℕ) (b : Bool) → renamed path flags ≡ (if b then placed path folder its_name (new_letters (letters_of its_name) flags) else path)
      → ((other : List ℕ) → name_of other ≡ codes "cur" → P (other ++ 47 ∷ marked its_name (new_letters (letters_of its_name) flags))) → P (renamed path flags)
  may_by folder its_name false e p = same e
  may_by folder its_name true e p =
      let letters : List ℕ = new_letters (letters_of its_name) flags in
      new_by folder (parent_of folder ++ codes "cur/" ++ marked its_name letters) (folder ++ 47 ∷ marked its_name letters) (same_text (name_of folder) (codes "new")) (is_empty letters) (not (holds 58 its_name) && is_empty letters) e
      (subst P (in_cur (parent_of folder) (marked its_name letters)) (p (parent_of folder ++ codes "cur") (cur_beside (cut_last 47 folder))))
      (p folder)

  found_by : (found : Option (List ℕ × List ℕ)) → cut_last 47 path ≡ found → Lacks 47 path found
      → ((other name : List ℕ) → name_of path ≡ name → holds 47 name ≡ false → name_of other ≡ codes "cur" → P (other ++ 47 ∷ marked name (new_letters (letters_of name) flags))) → P (renamed path flags)
  found_by None e lacks p = same (ap (renamed_at path flags) e)
  found_by (Some cut) e lacks p =
      may_by cut.0 cut.1 (may_be_renamed cut.1) (ap (renamed_at path flags) e) (λ other cur. p other cut.1 (ap (last_part path) e) lacks cur)

  pub by_cases : ((other name : List ℕ) → name_of path ≡ name → holds 47 name ≡ false → name_of other ≡ codes "cur" → P (other ++ 47 ∷ marked name (new_letters (letters_of name) flags))) → P (renamed path flags)
  by_cases p = found_by (cut_last 47 path) refl (cut_lacks 47 path) p

pub renamed_again : (path : List ℕ) (flags : Flags) → renamed (renamed path flags) flags ≡ renamed path flags
renamed_again path flags =
    by_cases (λ p. renamed p flags ≡ p) path flags (λ e. ap (λ (p : List ℕ). renamed p flags) e)
    (λ other name is slash cur. stays (stem_of name) (new_letters (letters_of name) flags) (new_are_letters (letters_of name) flags) other flags cur (stem_slash name (cut_last 58 name) (cut_joins 58 name) slash)
    (letters_twice (letters_of name) flags (letters_found (cut_last 58 name))))

pub path_read : (path : List ℕ) (flags : Flags) → renamed path flags ≢ path → flags_of (renamed path flags) ≡ record flags { trashed = (flags_of path).trashed }
path_read path flags =
    by_cases (λ p. p ≢ path → flags_of p ≡ record flags { trashed = (flags_of path).trashed }) path flags (λ e changes. absurd (changes e))
    (λ other name is slash cur changes. what_is_written_is_read other name flags slash ∙ ap (λ (n : List ℕ). record flags { trashed = holds 84 (letters_of n) }) (sym is))
