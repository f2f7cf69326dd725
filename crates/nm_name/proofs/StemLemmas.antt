-- Where a renamed file goes, and that its stem stays.
-- For the proofs of `a_file_elsewhere_stays` and `a_renamed_file_keeps_its_stem`.
use Rattle.std.proofs.Common.{inl, inr, ◌≡◌, ℕ, Bool, true, false, not, ◌&&◌, if◌then◌else◌, List, [], ◌∷◌, ◌++◌, codes, refl, sym, ap, ◌∙◌, arith}
use Rattle.std.specs.Prelude.{◌≢◌}
use Rattle.std.specs.Cmp.Lexicographic as lexicographic
use Rattle.std.proofs.Math.Bool.{and-false}
use Rattle.std.proofs.lemmas.Bool.{false_from_ne_true}
use Rattle.std.proofs.lemmas.Bool.Decides.{nat_tests}
use Rattle.std.proofs.lemmas.List.{append-nil, append_assoc}
use Rattle.nm_base.specs.Order.{same_text}
use Rattle.nm_name.specs.Cuts.{cut_last, holds}
use Rattle.nm_name.specs.Names.{last_part, letters_at, letters_of, name_of}
use Rattle.nm_name.specs.FlaggedPath.{AreLetters, is_empty, marked, may_be_cut, may_be_renamed, new_letters, parent_at, parent_of, placed, renamed, renamed_at, stem_at, stem_of}
use Rattle.nm_name.specs.Stems.{IsNamed, IsParent}
use Rattle.nm_name.specs.declared.flags.Flags.{Flags}
use Rattle.nm_name.proofs.CutLemmas.{cut_again, cut_none}
use Rattle.nm_name.proofs.LawLemmas.{lacks_other}
use Rattle.nm_name.proofs.OwnLemmas.{colon, cut_mark, its_letters, may}
use Rattle.nm_name.proofs.PathLemmas.{slash_join}

-- a name is cut into its stem and its letters
record IsRead (name stem letters : List ℕ) : Type 0 where
  may_be : may_be_renamed name ≡ true
  its : letters_of name ≡ letters
  stems : stem_of name ≡ stem

named_read : (name stem letters : List ℕ) → IsNamed name stem letters → IsRead name stem letters
named_read name stem letters (inl h) = record {
  may_be = ap may_be_renamed h.0 ∙ may stem letters h.1;
  its = ap letters_of h.0 ∙ its_letters stem letters h.1;
  stems = ap stem_of h.0 ∙ ap (stem_at (stem ++ codes ":2," ++ letters)) (cut_mark stem letters h.1);
}
named_read name stem letters (inr h) =
    let none = ap (cut_last 58) h.0 ∙ cut_none 58 stem h.1 in
    record { may_be = ap may_be_cut none; its = ap letters_at none ∙ sym h.2; stems = ap (stem_at name) none ∙ h.0 }

-- a folder is cut after its parent
parent_name : (parent word : List ℕ) → IsParent parent → holds 47 word ≡ false → (name_of (parent ++ word) ≡ word) × (parent_of (parent ++ word) ≡ parent)
parent_name parent word (inl h) slash =
    let none = ap (λ (p : List ℕ). cut_last 47 (p ++ word)) h ∙ cut_none 47 word slash in
    (ap (last_part (parent ++ word)) none ∙ ap (λ (p : List ℕ). p ++ word) h, ap parent_at none ∙ sym h)
parent_name parent word (inr h) slash =
    let some = ap (λ (p : List ℕ). cut_last 47 (p ++ word)) h.1 ∙ ap (cut_last 47) (append_assoc h.0 (47 ∷ []) word) ∙ cut_again 47 h.0 word slash in
    (ap (last_part (parent ++ word)) some, ap parent_at some ∙ sym h.1)

-- where a file goes from a folder of this name
abbrev goes : List ℕ → List ℕ → List ℕ → List ℕ → List ℕ → List ℕ → List ℕ
goes path parent word name stem letters =
    if same_text word (codes "new") then (if is_empty letters then path else parent ++ codes "cur/" ++ (stem ++ codes ":2," ++ letters))
    else (if same_text word (codes "cur") then (if not (holds 58 name) && is_empty letters then path else parent ++ word ++ 47 ∷ (stem ++ codes ":2," ++ letters))
    else path)

renamed_in : (parent word name stem letters : List ℕ) (flags : Flags) → IsParent parent → holds 47 word ≡ false → IsRead name stem letters → holds 47 name ≡ false
    → renamed (parent ++ (word ++ 47 ∷ name)) flags ≡ goes (parent ++ (word ++ 47 ∷ name)) parent word name stem (new_letters letters flags)
renamed_in parent word name stem letters flags is word_slash read slash =
    let path : List ℕ = parent ++ (word ++ 47 ∷ name) in
    let folder : List ℕ = parent ++ word in
    let new : List ℕ = new_letters letters flags in
    let front = parent_name parent word is word_slash in
    ap (renamed_at path flags) (ap (cut_last 47) (sym (append_assoc parent word (47 ∷ name))) ∙ cut_again 47 folder name slash)
    ∙ ap (λ (b : Bool). if b then placed path folder name (new_letters (letters_of name) flags) else path) read.may_be
    ∙ ap (λ (l : List ℕ). placed path folder name (new_letters l flags)) read.its
    ∙ ap (λ (w : List ℕ). if same_text w (codes "new") then (if is_empty new then path else parent_of folder ++ codes "cur/" ++ marked name new)
    else (if same_text w (codes "cur") then (if not (holds 58 name) && is_empty new then path else folder ++ 47 ∷ marked name new) else path)) front.0
    ∙ ap (λ (p : List ℕ). if same_text word (codes "new") then (if is_empty new then path else p ++ codes "cur/" ++ marked name new)
    else (if same_text word (codes "cur") then (if not (holds 58 name) && is_empty new then path else folder ++ 47 ∷ marked name new) else path)) front.1
    ∙ ap (λ (s : List ℕ). goes path parent word name s new) read.stems

some_letters : (letters : List ℕ) → letters ≢ [] → is_empty letters ≡ false
some_letters [] some = absurd (some refl)
some_letters (x ∷ letters) some = grind (arith, nat_tests)

pub from_new : (parent name stem letters : List ℕ) (flags : Flags) → IsParent parent → IsNamed name stem letters → holds 47 name ≡ false → new_letters letters flags ≢ []
    → renamed (parent ++ (codes "new/" ++ name)) flags ≡ parent ++ (codes "cur/" ++ (stem ++ codes ":2," ++ new_letters letters flags))
from_new parent name stem letters flags is named slash some =
    renamed_in parent (codes "new") name stem letters flags is refl (named_read name stem letters named) slash
    ∙ ap (λ (b : Bool). if b then parent ++ (codes "new/" ++ name) else parent ++ codes "cur/" ++ (stem ++ codes ":2," ++ new_letters letters flags)) (some_letters (new_letters letters flags) some)
    ∙ append_assoc parent (codes "cur/") (stem ++ codes ":2," ++ new_letters letters flags)

-- in `cur` the name gets its mark
abbrev in_cur : List ℕ → List ℕ → List ℕ → List ℕ → Bool → List ℕ
in_cur parent name stem letters stays = if stays then parent ++ (codes "cur/" ++ name) else parent ++ codes "cur" ++ 47 ∷ (stem ++ codes ":2," ++ letters)

pub within_cur : (parent name stem letters : List ℕ) (flags : Flags) → IsParent parent → IsNamed name stem letters → holds 47 name ≡ false → new_letters letters flags ≢ []
    → renamed (parent ++ (codes "cur/" ++ name)) flags ≡ parent ++ (codes "cur/" ++ (stem ++ codes ":2," ++ new_letters letters flags))
within_cur parent name stem letters flags is named slash some =
    let new : List ℕ = new_letters letters flags in
    renamed_in parent (codes "cur") name stem letters flags is refl (named_read name stem letters named) slash
    ∙ ap (λ (b : Bool). in_cur parent name stem new (not (holds 58 name) && b)) (some_letters new some)
    ∙ ap (in_cur parent name stem new) (and-false (not (holds 58 name)))
    ∙ append_assoc parent (codes "cur") (47 ∷ (stem ++ codes ":2," ++ new))

pub mark_left : (parent stem letters : List ℕ) (flags : Flags) → IsParent parent → AreLetters letters → holds 47 stem ≡ false → new_letters letters flags ≡ []
    → renamed (parent ++ (codes "cur/" ++ (stem ++ codes ":2," ++ letters))) flags ≡ parent ++ (codes "cur/" ++ (stem ++ codes ":2,"))
mark_left parent stem letters flags is are slash none =
    let name : List ℕ = stem ++ codes ":2," ++ letters in
    let new : List ℕ = new_letters letters flags in
    renamed_in parent (codes "cur") name stem letters flags is refl (named_read name stem letters (inl (refl, are))) (slash_join (stem ++ codes ":2,") letters (slash_join stem (codes ":2,") slash refl) (lacks_other 47 refl letters are))
    ∙ ap (λ (b : Bool). in_cur parent name stem new (not b && is_empty new)) (colon stem letters are stem)
    ∙ append_assoc parent (codes "cur") (47 ∷ (stem ++ codes ":2," ++ new))
    ∙ ap (λ (l : List ℕ). parent ++ (codes "cur/" ++ l)) (ap (λ (l : List ℕ). stem ++ codes ":2," ++ l) none ∙ append-nil (stem ++ codes ":2,"))

pub stays_in_new : (parent name stem letters : List ℕ) (flags : Flags) → IsParent parent → IsNamed name stem letters → holds 47 name ≡ false → new_letters letters flags ≡ []
    → renamed (parent ++ (codes "new/" ++ name)) flags ≡ parent ++ (codes "new/" ++ name)
stays_in_new parent name stem letters flags is named slash none =
    renamed_in parent (codes "new") name stem letters flags is refl (named_read name stem letters named) slash
    ∙ ap (λ (l : List ℕ). if is_empty l then parent ++ (codes "new/" ++ name) else parent ++ codes "cur/" ++ (stem ++ codes ":2," ++ l)) none

pub stays_in_cur : (parent stem : List ℕ) (flags : Flags) → IsParent parent → holds 58 stem ≡ false → holds 47 stem ≡ false → new_letters [] flags ≡ []
    → renamed (parent ++ (codes "cur/" ++ stem)) flags ≡ parent ++ (codes "cur/" ++ stem)
stays_in_cur parent stem flags is no_colon slash none =
    renamed_in parent (codes "cur") stem stem [] flags is refl (named_read stem stem [] (inr (refl, no_colon, refl))) slash
    ∙ ap (λ (b : Bool). in_cur parent stem stem (new_letters [] flags) (not b && is_empty (new_letters [] flags))) no_colon
    ∙ ap (λ (l : List ℕ). in_cur parent stem stem l (is_empty l)) none

-- ---- any other folder
no_word : (folder word : List ℕ) → name_of folder ≢ word → same_text (name_of folder) word ≡ false
no_word folder word other = false_from_ne_true (same_text (name_of folder) word) (λ e. other (lexicographic.same_text (name_of folder) word (sym e)))

may_stay : (path folder name letters : List ℕ) (b : Bool) → same_text (name_of folder) (codes "new") ≡ false → same_text (name_of folder) (codes "cur") ≡ false
    → (if b then placed path folder name letters else path) ≡ path
may_stay path folder name letters true new cur = rw new (rw cur refl)
may_stay path folder name letters false new cur = refl

pub elsewhere : (folder name : List ℕ) (flags : Flags) → holds 47 name ≡ false → name_of folder ≢ codes "new" → name_of folder ≢ codes "cur"
    → renamed (folder ++ 47 ∷ name) flags ≡ folder ++ 47 ∷ name
elsewhere folder name flags slash new cur =
    ap (renamed_at (folder ++ 47 ∷ name) flags) (cut_again 47 folder name slash)
    ∙ may_stay (folder ++ 47 ∷ name) folder name (new_letters (letters_of name) flags) (may_be_renamed name) (no_word folder (codes "new") new) (no_word folder (codes "cur") cur)
