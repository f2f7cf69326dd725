-- The laws of HTML: no tag is left, and what is outside the tags is.
-- For the proofs of `no_tag_is_read` and `text_outside_tags_stays`.
use Rattle.std.proofs.Common.{◌≡◌, ℕ, Bool, true, false, ◌||◌, ◌==◌, cond, List, [], ◌∷◌, ◌++◌, refl, ap, ◌∙◌}
use Rattle.std.proofs.lemmas.Bool.{or_parts}
use Rattle.std.specs.List.{list_any}
use Rattle.nm_extract.specs.Html.{strip_from, strip_html_tags}
use Rattle.nm_text.specs.Cuts.{is_byte}

either : (b : Bool) (xs ys : List ℕ) → list_any (is_byte 60) xs ≡ false → list_any (is_byte 60) ys ≡ false → list_any (is_byte 60) (cond b xs ys) ≡ false
either true xs ys h k = h
either false xs ys h k = k

less_case : (c : Bool) (b : ℕ) (inside outside : List ℕ) → (b == 60) ≡ c → list_any (is_byte 60) inside ≡ false → list_any (is_byte 60) outside ≡ false → list_any (is_byte 60) (cond c (32 ∷ inside) (b ∷ outside)) ≡ false
less_case true b inside outside e h k = h
less_case false b inside outside e h k = ap (λ t. t || list_any (is_byte 60) outside) e ∙ k

no_less : (inside : Bool) (text : List ℕ) → list_any (is_byte 60) (strip_from inside text) ≡ false
no_less true [] = refl
no_less false [] = refl
no_less true (b ∷ more) = either (b == 62) (strip_from false more) (strip_from true more) (no_less false more) (no_less true more)
no_less false (b ∷ more) = less_case (b == 60) b (strip_from true more) (strip_from false more) refl (no_less true more) (no_less false more)

pub stripped_has_no_tag : (text : List ℕ) → list_any (is_byte 60) (strip_from false text) ≡ false
stripped_has_no_tag text = no_less false text

pub stripped_stays : (text : List ℕ) → list_any (is_byte 60) text ≡ false → strip_from false text ≡ text
stripped_stays [] h = refl
stripped_stays (b ∷ more) h =
    ap (λ t. cond t (32 ∷ strip_from true more) (b ∷ strip_from false more)) (or_parts (is_byte 60 b) (list_any (is_byte 60) more) h).0
    ∙ ap (λ l. b ∷ l) (stripped_stays more (or_parts (is_byte 60 b) (list_any (is_byte 60) more) h).1)

-- the text before a tag stays
text_kept : (before rest : List ℕ) → list_any (is_byte 60) before ≡ false → strip_from false (before ++ rest) ≡ before ++ strip_from false rest
text_kept [] rest h = refl
text_kept (b ∷ before) rest h =
    let p = or_parts (is_byte 60 b) (list_any (is_byte 60) before) h in
    ap (λ t. cond t (32 ∷ strip_from true (before ++ rest)) (b ∷ strip_from false (before ++ rest))) p.0 ∙ ap (λ l. b ∷ l) (text_kept before rest p.1)

-- a tag is taken up to its end
tag_taken : (tag after : List ℕ) → list_any (is_byte 62) tag ≡ false → strip_from true (tag ++ 62 ∷ after) ≡ strip_from false after
tag_taken [] after h = refl
tag_taken (b ∷ tag) after h =
    let p = or_parts (is_byte 62 b) (list_any (is_byte 62) tag) h in
    ap (λ t. cond t (strip_from false (tag ++ 62 ∷ after)) (strip_from true (tag ++ 62 ∷ after))) p.0 ∙ tag_taken tag after p.1

-- or to the end of the text
rest_taken : (tag : List ℕ) → list_any (is_byte 62) tag ≡ false → strip_from true tag ≡ []
rest_taken [] h = refl
rest_taken (b ∷ tag) h =
    let p = or_parts (is_byte 62 b) (list_any (is_byte 62) tag) h in
    ap (λ t. cond t (strip_from false tag) (strip_from true tag)) p.0 ∙ rest_taken tag p.1

pub tag_stripped : (before tag after : List ℕ) → list_any (is_byte 60) before ≡ false → list_any (is_byte 62) tag ≡ false
    → strip_html_tags (before ++ 60 ∷ (tag ++ 62 ∷ after)) ≡ before ++ 32 ∷ strip_html_tags after
tag_stripped before tag after h k = text_kept before (60 ∷ (tag ++ 62 ∷ after)) h ∙ ap (λ l. before ++ 32 ∷ l) (tag_taken tag after k)

pub unclosed_stripped : (before tag : List ℕ) → list_any (is_byte 60) before ≡ false → list_any (is_byte 62) tag ≡ false
    → strip_html_tags (before ++ 60 ∷ tag) ≡ before ++ 32 ∷ []
unclosed_stripped before tag h k = text_kept before (60 ∷ tag) h ∙ ap (λ l. before ++ 32 ∷ l) (rest_taken tag k)
