-- Paths below a folder, by what comes after it. For the proofs of `after_folder`, `is_below`, `is_in` and others.
use Rattle.std.proofs.Common.{◌≡◌, ◌≢◌, refl, sym, ap, ap₂, ◌∙◌, ℕ, Bool, true, false, not, ◌&&◌, ◌||◌, List, [], ◌∷◌, ◌++◌, append_assoc, drop, length, codes, nat_eq, true≢false, ◌+◌, ◌==◌, take, Option, None, Some, is_some, MatchOption, Bor}
use Rattle.std.proofs.lemmas.Bool.{false_from_ne_true, or_from}
use Rattle.std.proofs.lemmas.Bool.Decides.{Decides-eqb}
use Rattle.std.proofs.lemmas.List.{append_cancel_left}
use Rattle.std.proofs.lemmas.Slice.Eq.{starts_is, strip_prefix_is}
use Rattle.std.proofs.Math.Seq.{drop-append_seam}
use Rattle.std.specs.List.{list_any}
use Rattle.std.specs.Cmp.Lexicographic.{pointwise}
use Rattle.nm_text.specs.Cuts.{is_byte}
use Rattle.nm_model_answer.specs.Places.{front_of, is_below, is_in, is_in_maildir}

-- the front of a folder that is not the root
front_some : (folder : List ℕ) → (length folder == 0) ≡ false → front_of folder ≡ folder ++ 47 ∷ []
front_some [] is = absurd (true≢false is)
front_some (b ∷ folder) is = refl

abbrev pub Strips : List ℕ → List ℕ → Option (Bor (List ℕ)) → Type 0
Strips text front told =
    MatchOption told (pointwise nat_eq (take (length front) text) front ≡ false)
    (λ rest. (pointwise nat_eq (take (length front) text) front ≡ true) × (rest.now ≡ drop (length front) text) × (length rest.now + length front ≡ length text))

abbrev pub LiesBelow : List ℕ → List ℕ → Option (Bor (List ℕ)) → Type 0
LiesBelow folder path told = MatchOption told ((rest : List ℕ) → path ≢ front_of folder ++ rest) (λ rest. path ≡ front_of folder ++ rest.now)

-- where the folder itself is not at the front, the path is elsewhere
pub no_front : (folder path : List ℕ) → (length folder == 0) ≡ false → Strips path folder None → (rest : List ℕ) → path ≢ front_of folder ++ rest
no_front folder path some strips rest whole =
    strip_prefix_is Decides-eqb path folder None strips (47 ∷ rest)
    (whole ∙ ap (λ front. front ++ rest) (front_some folder some) ∙ append_assoc folder (47 ∷ []) rest)

-- where it does, a `/` has to follow
slash_by : (folder path rest : List ℕ) (told : Option (Bor (List ℕ))) → (length folder == 0) ≡ false → path ≡ folder ++ rest
    → MatchOption told ((more : List ℕ) → rest ≢ 47 ∷ [] ++ more) (λ more. rest ≡ 47 ∷ [] ++ more.now) → LiesBelow folder path told
slash_by folder path rest None some is none = λ more whole.
    none more (append_cancel_left folder rest (47 ∷ more) (sym is ∙ whole ∙ ap (λ front. front ++ more) (front_some folder some) ∙ append_assoc folder (47 ∷ []) more))
slash_by folder path rest (Some more) some is here =
    is ∙ ap (λ r. folder ++ r) here ∙ sym (append_assoc folder (47 ∷ []) more.now) ∙ ap (λ front. front ++ more.now) (sym (front_some folder some))

pub slash_after : (folder path rest : List ℕ) (told : Option (Bor (List ℕ))) → (length folder == 0) ≡ false → path ≡ folder ++ rest → Strips rest (47 ∷ []) told → LiesBelow folder path told
slash_after folder path rest told some is strips = slash_by folder path rest told some is (strip_prefix_is Decides-eqb rest (47 ∷ []) told strips)

-- what comes after the folder, where it is at the front
pub stripped : (folder path : List ℕ) (rest : Bor (List ℕ)) → Strips path folder (Some rest) → path ≡ folder ++ rest.now
stripped folder path rest strips = strip_prefix_is Decides-eqb path folder (Some rest) strips

-- the path is the folder's front and what comes after it
pub below_where : (folder path rest : List ℕ) → path ≡ front_of folder ++ rest → is_below folder path ≡ true
below_where folder path rest is = (starts_is Decides-eqb path (front_of folder) (is_below folder path) refl).1 rest is

pub after_front : (folder path : List ℕ) → is_below folder path ≡ true → path ≡ front_of folder ++ drop (length (front_of folder)) path
after_front folder path is = (starts_is Decides-eqb path (front_of folder) (is_below folder path) refl).0 is

pub not_below : (folder path : List ℕ) → ((rest : List ℕ) → path ≢ front_of folder ++ rest) → is_below folder path ≡ false
not_below folder path none = false_from_ne_true (is_below folder path) (λ is. none (drop (length (front_of folder)) path) (after_front folder path is))

pub in_where : (folder path rest : List ℕ) → path ≡ front_of folder ++ rest → is_in folder path ≡ not (list_any (is_byte 47) rest)
in_where folder path rest is =
    ap₂ (λ below name. below && not (list_any (is_byte 47) name)) (below_where folder path rest is)
    (ap (drop (length (front_of folder))) is ∙ drop-append_seam (front_of folder) rest)

pub not_in : (folder path : List ℕ) → is_below folder path ≡ false → is_in folder path ≡ false
not_in folder path is = ap (λ below. below && not (list_any (is_byte 47) (drop (length (front_of folder)) path))) is

-- the front of a folder in a folder
front_inside : (front : List ℕ) (b : ℕ) (name : List ℕ) → front_of (front ++ b ∷ name) ≡ front ++ front_of (b ∷ name)
front_inside [] b name = refl
front_inside (c ∷ front) b name = append_assoc (c ∷ front) (b ∷ name) (47 ∷ [])

-- a folder in a folder, seen from the outer one
inside_by : (folder path rest : List ℕ) (b : ℕ) (name : List ℕ) → path ≡ front_of folder ++ rest → (test : Bool) → is_below (b ∷ name) rest ≡ test
    → is_in (front_of folder ++ b ∷ name) path ≡ is_in (b ∷ name) rest
inside_by folder path rest b name is true below =
    let last = drop (length (front_of (b ∷ name))) rest in
    let whole = is ∙ ap (λ r. front_of folder ++ r) (after_front (b ∷ name) rest below) ∙ sym (append_assoc (front_of folder) (front_of (b ∷ name)) last)
    ∙ ap (λ front. front ++ last) (sym (front_inside (front_of folder) b name)) in
    in_where (front_of folder ++ b ∷ name) path last whole ∙ sym (in_where (b ∷ name) rest last (after_front (b ∷ name) rest below))
inside_by folder path rest b name is false below =
    not_in (front_of folder ++ b ∷ name) path (not_below (front_of folder ++ b ∷ name) path (λ more whole.
    let inner = append_cancel_left (front_of folder) rest (front_of (b ∷ name) ++ more)
    (sym is ∙ whole ∙ ap (λ front. front ++ more) (front_inside (front_of folder) b name) ∙ append_assoc (front_of folder) (front_of (b ∷ name)) more) in
    true≢false (sym (below_where (b ∷ name) rest more inner) ∙ below)))
    ∙ sym (not_in (b ∷ name) rest below)

inside : (folder path rest : List ℕ) (b : ℕ) (name : List ℕ) → path ≡ front_of folder ++ rest → is_in (front_of folder ++ b ∷ name) path ≡ is_in (b ∷ name) rest
inside folder path rest b name is = inside_by folder path rest b name is (is_below (b ∷ name) rest) refl

pub maildir_where : (folder path rest : List ℕ) → path ≡ front_of folder ++ rest → is_in_maildir folder path ≡ (is_in (codes "new") rest || is_in (codes "cur") rest)
maildir_where folder path rest is = ap₂ (λ a b. a || b) (inside folder path rest 110 (101 ∷ 119 ∷ []) is) (inside folder path rest 99 (117 ∷ 114 ∷ []) is)

-- what is in a folder of a folder is below that one
not_inside : (folder path : List ℕ) (b : ℕ) (name : List ℕ) → ((rest : List ℕ) → path ≢ front_of folder ++ rest) → is_in (front_of folder ++ b ∷ name) path ≡ false
not_inside folder path b name none =
    not_in (front_of folder ++ b ∷ name) path (not_below (front_of folder ++ b ∷ name) path (λ more whole.
    none (front_of (b ∷ name) ++ more)
    (whole ∙ ap (λ front. front ++ more) (front_inside (front_of folder) b name) ∙ append_assoc (front_of folder) (front_of (b ∷ name)) more)))

pub not_in_maildir : (folder path : List ℕ) → ((rest : List ℕ) → path ≢ front_of folder ++ rest) → is_in_maildir folder path ≡ false
not_in_maildir folder path none =
    or_from (is_in (front_of folder ++ codes "new") path) (is_in (front_of folder ++ codes "cur") path)
    (not_inside folder path 110 (101 ∷ 119 ∷ []) none) (not_inside folder path 99 (117 ∷ 114 ∷ []) none)

-- whether a path is below is whether something comes after the folder
pub below_told : (folder path : List ℕ) (told : Option (Bor (List ℕ))) → LiesBelow folder path told → is_some told ≡ is_below folder path
below_told folder path None none = sym (not_below folder path none)
below_told folder path (Some rest) is = sym (below_where folder path rest.now is)
