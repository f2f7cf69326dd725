-- The first mailbox of a text, and those that are left after it.
-- For the proofs of `add_part`, `mailbox` and `mailboxes`.
use Rattle.std.proofs.Common.{◌≡◌, ℕ, suc, ◌+◌, ◌-◌, ◌<◌, ◌≤◌, Bool, true, false, cond, not, ◌||◌, ◌==◌, List, [], ◌∷◌, ◌++◌, length, take, drop, get_or, refl, sym, ap, subst, ◌∙◌, arith, ltb, append_assoc, length-drop}
use Rattle.std.specs.Prelude.{IsUtf8}
use Rattle.std.specs.Str.{IsCharBoundary}
use Rattle.std.specs.List.{before_first, concat, flat_map, list_all, list_any, onto_first, position_or_len, slice_split}
use Rattle.std.proofs.lemmas.Bool.{and_parts, eqb-true, ltb-false, ltb-true, or_parts, or_right}
use Rattle.std.proofs.lemmas.List.{append-nil, drop_all, drop_more, drop-drop}
use Rattle.std.proofs.lemmas.List.Splits.{length-slice_split, slice_split-cons_no, slice_split-cons_yes}
use Rattle.std.proofs.lemmas.Str.{IsCharBoundary-after_ascii, IsCharBoundary-before_ascii, IsCharBoundary-end}
use Rattle.nm_base.specs.declared.facts.Mailbox.{Mailbox}
use Rattle.nm_text.specs.WhiteSpace.{without_white_space}
use Rattle.nm_header.specs.Mailboxes.{StopsAt, after_colon, begins_with_any, is_angle, is_colon, is_separator, lexemes_before, mailbox_from, mailbox_in, mailbox_lexeme_more, mailbox_lexemes_of, mailbox_of, mailboxes_in, name_ends, part_ends, spaced_of}
use Rattle.nm_text.specs.QuotedStrings.{unquoted}
use Rattle.nm_text.specs.CutLaws.{cut-cons, cut-nil}
use Rattle.nm_header.proofs.DepthLemmas.{neq}
use Rattle.nm_header.proofs.LexemeLemmas.{before_first-no, before_is}
use Rattle.nm_text.specs.Cuts.{is_byte}

-- ---- where the text may be cut
special_small : (specials : List ℕ) (b : ℕ) → list_all (λ s. ltb s 128) specials ≡ true → list_any (λ s. s == b) specials ≡ true → b < 128
special_small [] b small e = absurd (cc)
special_small (s ∷ specials) b small e =
    let first : ltb s 128 ≡ true = (and_parts (ltb s 128) (list_all (λ x. ltb x 128) specials) small).0 in
    let others : list_all (λ x. ltb x 128) specials ≡ true = (and_parts (ltb s 128) (list_all (λ x. ltb x 128) specials) small).1 in
    elim (s == b) as (λ v. (s == b) ≡ v → b < 128) [
      | true ↦ λ h. let same : s ≡ b = eqb-true s b h in let low : s < 128 = ltb-true s 128 first in omega arith
      | false ↦ λ h. special_small specials b others (sym (ap (λ v. v || list_any (λ x. x == b) specials) h) ∙ e)
    ] refl

-- the byte at which the lexemes stop
pub stop_special : (specials text : List ℕ) (n : ℕ) → StopsAt specials text n → n < length text → list_any (λ s. s == get_or text n 0) specials ≡ true
stop_special specials text n s h = sym (ap (begins_with_any specials) (drop_more text n 0 h)) ∙ s.stop h

pub stop_before : (specials text : List ℕ) (n : ℕ) → list_all (λ s. ltb s 128) specials ≡ true → StopsAt specials text n → IsCharBoundary text n
stop_before specials text n small s =
    let within = s.within in
    elim (ltb n (length text)) as (λ v. ltb n (length text) ≡ v → IsCharBoundary text n) [
      | true ↦ λ h. let inside : n < length text = ltb-true n (length text) h in IsCharBoundary-before_ascii text n inside (special_small specials (get_or text n 0) small (stop_special specials text n s inside))
      | false ↦ λ h. let all : length text ≡ n = (let long : length text ≤ n = ltb-false n (length text) h in omega arith) in subst (IsCharBoundary text) all (IsCharBoundary-end text)
    ] refl

pub stop_after : (specials text : List ℕ) (n : ℕ) → list_all (λ s. ltb s 128) specials ≡ true → IsUtf8 text → StopsAt specials text n → n < length text → IsCharBoundary text (n + 1)
stop_after specials text n small u s inside = IsCharBoundary-after_ascii text n u inside (special_small specials (get_or text n 0) small (stop_special specials text n s inside))

-- ---- tests on specials
or_three : (x y z w : Bool) → (x || (y || (z || (w || false)))) ≡ true → (w || false) ≡ false → (x || (y || (z || false))) ≡ true
or_three true y z w e f = refl
or_three false true z w e f = refl
or_three false false true w e f = refl
or_three false false false w e f = sym f ∙ e

-- a test that another implies passes none where that one passes none
pub none_of : (p q : List ℕ → Bool) → ((t : List ℕ) → q t ≡ false → p t ≡ false) → (lexemes : List (List ℕ)) → list_any q lexemes ≡ false → list_any p lexemes ≡ false
none_of p q weak [] e = refl
none_of p q weak (t ∷ lexemes) e =
    ap (λ v. v || list_any p lexemes) (weak t (or_parts (q t) (list_any q lexemes) e).0) ∙ none_of p q weak lexemes (or_parts (q t) (list_any q lexemes) e).1

first_two : (x y z : Bool) → (x || (y || (z || false))) ≡ false → (x || (y || false)) ≡ false
first_two true y z e = absurd (cc)
first_two false true z e = absurd (cc)
first_two false false z e = refl

third_of : (x y z : Bool) → (x || (y || (z || false))) ≡ false → (z || false) ≡ false
third_of true y z e = absurd (cc)
third_of false true z e = absurd (cc)
third_of false false z e = e

first_three : (x y z w : Bool) → (x || (y || (z || (w || false)))) ≡ false → (x || (y || (z || false))) ≡ false
first_three true y z w e = absurd (cc)
first_three false true z w e = absurd (cc)
first_three false false true w e = absurd (cc)
first_three false false false w e = refl

fourth_of : (x y z w : Bool) → (x || (y || (z || (w || false)))) ≡ false → (w || false) ≡ false
fourth_of true y z w e = absurd (cc)
fourth_of false true z w e = absurd (cc)
fourth_of false false true w e = absurd (cc)
fourth_of false false false w e = e

no_separator : (t : List ℕ) → begins_with_any part_ends t ≡ false → is_separator t ≡ false
no_separator [] e = refl
no_separator (b ∷ t) e = first_two (44 == b) (59 == b) (58 == b) e

no_colon : (t : List ℕ) → begins_with_any part_ends t ≡ false → is_colon t ≡ false
no_colon [] e = refl
no_colon (b ∷ t) e = third_of (44 == b) (59 == b) (58 == b) e

pub no_part_end : (t : List ℕ) → begins_with_any name_ends t ≡ false → begins_with_any part_ends t ≡ false
no_part_end [] e = refl
no_part_end (b ∷ t) e = first_three (44 == b) (59 == b) (58 == b) (60 == b) e

pub no_angle : (t : List ℕ) → begins_with_any name_ends t ≡ false → is_angle t ≡ false
no_angle [] e = refl
no_angle (b ∷ t) e = fourth_of (44 == b) (59 == b) (58 == b) (60 == b) e

-- ---- lists of lexemes
before_after : (p : List ℕ → Bool) (before rest : List (List ℕ)) → list_any p before ≡ false → before_first p (before ++ rest) ≡ before ++ before_first p rest
before_after p [] rest none = refl
before_after p (x ∷ before) rest none =
    before_first-no p x (before ++ rest) (or_parts (p x) (list_any p before) none).0 ∙ ap (λ l. x ∷ l) (before_after p before rest (or_parts (p x) (list_any p before) none).1)

pub drop_before : (p : List ℕ → Bool) (before rest : List (List ℕ)) → list_any p before ≡ false → position_or_len p rest ≡ 0 → drop (position_or_len p (before ++ rest)) (before ++ rest) ≡ rest
drop_before p [] rest none stop = ap (λ k. drop k rest) stop
drop_before p (x ∷ before) rest none stop =
    let one : 1 + position_or_len p (before ++ rest) ≡ suc (position_or_len p (before ++ rest)) = omega arith in
    ap (λ v. drop (cond (not v) (1 + position_or_len p (before ++ rest)) 0) (x ∷ (before ++ rest))) (or_parts (p x) (list_any p before) none).0 ∙ ap (λ k. drop k (x ∷ (before ++ rest))) one ∙ drop_before p before rest (or_parts (p x) (list_any p before) none).1 stop

split_whole : (p : List ℕ → Bool) (xs : List (List ℕ)) → list_any p xs ≡ false → slice_split p xs ≡ xs ∷ []
split_whole p [] none = refl
split_whole p (x ∷ xs) none =
    slice_split-cons_no p x xs (or_parts (p x) (list_any p xs) none).0 ∙ ap (onto_first x) (split_whole p xs (or_parts (p x) (list_any p xs) none).1)

split_after : (p : List ℕ → Bool) (xs : List (List ℕ)) (y : List ℕ) (ys : List (List ℕ)) → list_any p xs ≡ false → p y ≡ true → slice_split p (xs ++ y ∷ ys) ≡ xs ∷ slice_split p ys
split_after p [] y ys none e = slice_split-cons_yes p y ys e
split_after p (x ∷ xs) y ys none e =
    slice_split-cons_no p x (xs ++ y ∷ ys) (or_parts (p x) (list_any p xs) none).0 ∙ ap (onto_first x) (split_after p xs y ys (or_parts (p x) (list_any p xs) none).1 e)

pub split_front : (p : List ℕ → Bool) (xs ys part : List (List ℕ)) (parts : List (List (List ℕ))) → list_any p xs ≡ false → slice_split p ys ≡ part ∷ parts → slice_split p (xs ++ ys) ≡ (xs ++ part) ∷ parts
split_front p [] ys part parts none e = e
split_front p (x ∷ xs) ys part parts none e =
    slice_split-cons_no p x (xs ++ ys) (or_parts (p x) (list_any p xs) none).0 ∙ ap (onto_first x) (split_front p xs ys part parts (or_parts (p x) (list_any p xs) none).1 e)

first_of_some : (l : List (List (List ℕ))) → 0 < length l → (part : List (List ℕ)) × (parts : List (List (List ℕ))) × (l ≡ part ∷ parts)
first_of_some [] h = absurd (omega arith)
first_of_some (part ∷ parts) h = (part, parts, refl)

pub split_some : (p : List ℕ → Bool) (ys : List (List ℕ)) → (part : List (List ℕ)) × (parts : List (List (List ℕ))) × (slice_split p ys ≡ part ∷ parts)
split_some p ys = let one = length-slice_split p ys in first_of_some (slice_split p ys) (omega arith)

pub colon_none : (part : List (List ℕ)) → list_any is_colon part ≡ false → after_colon part ≡ part
colon_none [] e = refl
colon_none (t ∷ part) e =
    ap (λ v. cond v (after_colon part) (cond (is_colon t) part (t ∷ part))) (or_parts (is_colon t) (list_any is_colon part) e).1 ∙ ap (λ v. cond v part (t ∷ part)) (or_parts (is_colon t) (list_any is_colon part) e).0

colon_first : (c : List ℕ) (part : List (List ℕ)) → is_colon c ≡ true → after_colon (c ∷ part) ≡ after_colon part
colon_first c part e =
    elim (list_any is_colon part) as (λ v. list_any is_colon part ≡ v → cond v (after_colon part) (cond (is_colon c) part (c ∷ part)) ≡ after_colon part) [
      | true ↦ λ h. refl
      | false ↦ λ h. ap (λ v. cond v part (c ∷ part)) e ∙ sym (colon_none part h)
    ] refl

has_colon : (before : List (List ℕ)) (c : List ℕ) (part : List (List ℕ)) → is_colon c ≡ true → list_any is_colon (before ++ c ∷ part) ≡ true
has_colon [] c part e = ap (λ v. v || list_any is_colon part) e
has_colon (x ∷ before) c part e = or_right (is_colon x) (list_any is_colon (before ++ c ∷ part)) (has_colon before c part e)

colon_after : (before : List (List ℕ)) (c : List ℕ) (part : List (List ℕ)) → is_colon c ≡ true → after_colon (before ++ c ∷ part) ≡ after_colon part
colon_after [] c part e = colon_first c part e
colon_after (x ∷ before) c part e =
    ap (λ v. cond v (after_colon (before ++ c ∷ part)) (cond (is_colon x) (before ++ c ∷ part) (x ∷ (before ++ c ∷ part)))) (has_colon before c part e) ∙ colon_after before c part e

-- ---- the mailboxes of a text, part by part
pub in_end : (lexemes : List (List ℕ)) → list_any (begins_with_any part_ends) lexemes ≡ false → mailboxes_in lexemes ≡ mailbox_in lexemes
in_end lexemes none =
    ap (flat_map (λ part. mailbox_in (after_colon part))) (split_whole is_separator lexemes (none_of is_separator (begins_with_any part_ends) no_separator lexemes none)) ∙ append-nil (mailbox_in (after_colon lexemes)) ∙ ap mailbox_in (colon_none lexemes (none_of is_colon (begins_with_any part_ends) no_colon lexemes none))

pub in_separator : (lexemes : List (List ℕ)) (t : List ℕ) (rest : List (List ℕ)) → list_any (begins_with_any part_ends) lexemes ≡ false → is_separator t ≡ true → mailboxes_in (lexemes ++ t ∷ rest) ≡ mailbox_in lexemes ++ mailboxes_in rest
in_separator lexemes t rest none e =
    ap (flat_map (λ part. mailbox_in (after_colon part))) (split_after is_separator lexemes t rest (none_of is_separator (begins_with_any part_ends) no_separator lexemes none) e) ∙ ap (λ x. mailbox_in x ++ mailboxes_in rest) (colon_none lexemes (none_of is_colon (begins_with_any part_ends) no_colon lexemes none))

pub in_colon : (lexemes : List (List ℕ)) (c : List ℕ) (rest : List (List ℕ)) → list_any (begins_with_any part_ends) lexemes ≡ false → is_colon c ≡ true → is_separator c ≡ false → mailboxes_in (lexemes ++ c ∷ rest) ≡ mailboxes_in rest
in_colon lexemes c rest none e f =
    let s = split_some is_separator rest in
    let part : List (List ℕ) = s.0 in
    let parts : List (List (List ℕ)) = s.1 in
    let split : slice_split is_separator rest ≡ part ∷ parts = s.2 in
    let front : slice_split is_separator (c ∷ rest) ≡ (c ∷ part) ∷ parts = slice_split-cons_no is_separator c rest f ∙ ap (onto_first c) split in
    let whole : slice_split is_separator (lexemes ++ c ∷ rest) ≡ (lexemes ++ c ∷ part) ∷ parts = split_front is_separator lexemes (c ∷ rest) (c ∷ part) parts (none_of is_separator (begins_with_any part_ends) no_separator lexemes none) front in
    ap (flat_map (λ x. mailbox_in (after_colon x))) whole ∙ ap (λ x. mailbox_in x ++ flat_map (λ y. mailbox_in (after_colon y)) parts) (colon_after lexemes c part e) ∙ sym (ap (flat_map (λ x. mailbox_in (after_colon x))) split)

special_lexeme : (b : ℕ) (text : List ℕ) → list_any (λ s. s == b) part_ends ≡ true → mailbox_lexeme_more b text ≡ 0
special_lexeme b text e =
    elim (44 == b) as (λ v. (44 == b) ≡ v → (v || ((59 == b) || ((58 == b) || false))) ≡ true → mailbox_lexeme_more b text ≡ 0) [
      | true ↦ λ h k. ap (λ x. mailbox_lexeme_more x text) (sym (eqb-true 44 b h))
      | false ↦ λ h. elim (59 == b) as (λ v. (59 == b) ≡ v → (v || ((58 == b) || false)) ≡ true → mailbox_lexeme_more b text ≡ 0) [
        | true ↦ λ i k. ap (λ x. mailbox_lexeme_more x text) (sym (eqb-true 59 b i))
        | false ↦ λ i. elim (58 == b) as (λ v. (58 == b) ≡ v → (v || false) ≡ true → mailbox_lexeme_more b text ≡ 0) [
          | true ↦ λ j k. ap (λ x. mailbox_lexeme_more x text) (sym (eqb-true 58 b j))
          | false ↦ λ j k. absurd (cc)
        ] refl
      ] refl
    ] refl e

special_lexemes : (text : List ℕ) (n : ℕ) → StopsAt part_ends text n → n < length text → mailbox_lexemes_of (drop n text) ≡ (get_or text n 0 ∷ []) ∷ mailbox_lexemes_of (drop (n + 1) text)
special_lexemes text n s h =
    let b : ℕ = get_or text n 0 in
    let rest : List ℕ = drop (n + 1) text in
    ap mailbox_lexemes_of (drop_more text n 0 h) ∙ cut-cons mailbox_lexeme_more b rest ∙ ap (λ k. (b ∷ take k rest) ∷ mailbox_lexemes_of (drop k rest)) (special_lexeme b rest (stop_special part_ends text n s h))

pub in_nil : mailboxes_in (mailbox_lexemes_of []) ≡ []
in_nil = ap mailboxes_in (cut-nil mailbox_lexeme_more)

pub part_end : (text : List ℕ) (n : ℕ) (before after : List Mailbox) → StopsAt part_ends text n → n ≡ length text → after ≡ before ++ mailbox_in (lexemes_before part_ends text) → after ++ mailboxes_in (mailbox_lexemes_of (drop n text)) ≡ before ++ mailboxes_in (mailbox_lexemes_of text)
part_end text n before after s e a =
    let rest : drop n text ≡ [] = drop_all n text (omega arith) in
    let none : mailboxes_in (mailbox_lexemes_of (drop n text)) ≡ [] = ap (λ x. mailboxes_in (mailbox_lexemes_of x)) rest ∙ in_nil in
    let lexemes : mailbox_lexemes_of text ≡ lexemes_before part_ends text = s.lexemes ∙ ap (λ x. lexemes_before part_ends text ++ mailbox_lexemes_of x) rest ∙ ap (λ x. lexemes_before part_ends text ++ x) (cut-nil mailbox_lexeme_more) ∙ append-nil (lexemes_before part_ends text) in
    ap (λ x. after ++ x) none ∙ append-nil after ∙ a ∙ ap (λ x. before ++ x) (sym (ap mailboxes_in lexemes ∙ in_end (lexemes_before part_ends text) s.none))

pub part_colon : (text : List ℕ) (n : ℕ) (before : List Mailbox) → StopsAt part_ends text n → n < length text → get_or text n 0 ≡ 58 → before ++ mailboxes_in (mailbox_lexemes_of (drop (n + 1) text)) ≡ before ++ mailboxes_in (mailbox_lexemes_of text)
part_colon text n before s h e =
    let lexemes : mailbox_lexemes_of text ≡ lexemes_before part_ends text ++ (get_or text n 0 ∷ []) ∷ mailbox_lexemes_of (drop (n + 1) text) = s.lexemes ∙ ap (λ x. lexemes_before part_ends text ++ x) (special_lexemes text n s h) in
    ap (λ x. before ++ x) (sym (ap mailboxes_in lexemes ∙ in_colon (lexemes_before part_ends text) (get_or text n 0 ∷ []) (mailbox_lexemes_of (drop (n + 1) text)) s.none (ap (λ b. is_colon (b ∷ [])) e) (ap (λ b. is_separator (b ∷ [])) e)))

pub part_separator : (text : List ℕ) (n : ℕ) (before after : List Mailbox) → StopsAt part_ends text n → n < length text → (get_or text n 0 ≡ 58 → ⊥) → after ≡ before ++ mailbox_in (lexemes_before part_ends text) → after ++ mailboxes_in (mailbox_lexemes_of (drop (n + 1) text)) ≡ before ++ mailboxes_in (mailbox_lexemes_of text)
part_separator text n before after s h e a =
    let b : ℕ = get_or text n 0 in
    let special : is_separator (b ∷ []) ≡ true = sym (ap (λ v. (44 == b) || ((59 == b) || (v || false))) (neq 58 b (λ k. e (sym k)))) ∙ stop_special part_ends text n s h in
    let lexemes : mailbox_lexemes_of text ≡ lexemes_before part_ends text ++ (b ∷ []) ∷ mailbox_lexemes_of (drop (n + 1) text) = s.lexemes ∙ ap (λ x. lexemes_before part_ends text ++ x) (special_lexemes text n s h) in
    ap (λ x. x ++ mailboxes_in (mailbox_lexemes_of (drop (n + 1) text))) a ∙ append_assoc before (mailbox_in (lexemes_before part_ends text)) (mailboxes_in (mailbox_lexemes_of (drop (n + 1) text))) ∙ ap (λ x. before ++ x) (sym (ap mailboxes_in lexemes ∙ in_separator (lexemes_before part_ends text) (b ∷ []) (mailbox_lexemes_of (drop (n + 1) text)) s.none special))

-- ---- one mailbox
front_no : (p : ℕ → Bool) (x : ℕ) (xs : List ℕ) → p x ≡ false → before_first p (x ∷ xs) ≡ x ∷ before_first p xs
front_no p x xs e =
    let one : 1 + position_or_len p xs ≡ suc (position_or_len p xs) = omega arith in
    ap (λ v. take (cond (not v) (1 + position_or_len p xs) 0) (x ∷ xs)) e ∙ ap (λ k. take k (x ∷ xs)) one

-- what comes before the first that passes is the same where the list ends with that one
before_take : (p : ℕ → Bool) (xs : List ℕ) → before_first p (take (position_or_len p xs + 1) xs) ≡ before_first p xs
before_take p [] = refl
before_take p (x ∷ xs) =
    let k : ℕ = position_or_len p xs in
    let one : 1 + k + 1 ≡ suc (k + 1) = omega arith in
    let two : 1 + k ≡ suc k = omega arith in
    elim (p x) as (λ v. p x ≡ v → before_first p (take (cond (not v) (1 + k) 0 + 1) (x ∷ xs)) ≡ take (cond (not v) (1 + k) 0) (x ∷ xs)) [
      | true ↦ λ e. ap (λ v. take (cond (not v) (1 + 0) 0) (x ∷ [])) e
      | false ↦ λ e. ap (λ j. before_first p (take j (x ∷ xs))) one ∙ front_no p x (take (k + 1) xs) e ∙ ap (λ l. x ∷ l) (before_take p xs) ∙ ap (λ j. take j (x ∷ xs)) (sym two)
    ] refl

abbrev made : List ℕ → List ℕ → Mailbox
made name address = record { name = spaced_of (unquoted name); address = without_white_space address }

abbrev bare : List ℕ → Mailbox
bare address = record { name = []; address = without_white_space address }

angle_from : (text behind : List ℕ) (b : ℕ) (m : ℕ) → StopsAt name_ends text m → drop m text ≡ b ∷ behind → b ≡ 60 → mailbox_of (lexemes_before part_ends text) ≡ made (take m text) (before_first (is_byte 62) behind)
angle_from text behind b m s e special =
    let before : List (List ℕ) = lexemes_before name_ends text in
    let more : List ℕ = take (mailbox_lexeme_more b behind) behind in
    let rest : List (List ℕ) = mailbox_lexemes_of (drop (mailbox_lexeme_more b behind) behind) in
    let others : List (List ℕ) = before_first (begins_with_any part_ends) rest in
    let lexemes : mailbox_lexemes_of text ≡ before ++ (b ∷ more) ∷ rest = s.lexemes ∙ ap (λ x. before ++ mailbox_lexemes_of x) e ∙ ap (λ x. before ++ x) (cut-cons mailbox_lexeme_more b behind) in
    let no_end : list_any (begins_with_any part_ends) before ≡ false = none_of (begins_with_any part_ends) (begins_with_any name_ends) no_part_end before s.none in
    let none : list_any is_angle before ≡ false = none_of is_angle (begins_with_any name_ends) no_angle before s.none in
    let goes_on : begins_with_any part_ends (b ∷ more) ≡ false = ap (λ x. list_any (λ s. s == x) part_ends) special in
    let angle : is_angle (b ∷ more) ≡ true = ap (λ x. list_any (λ s. s == x) (60 ∷ [])) special in
    let part : lexemes_before part_ends text ≡ before ++ (b ∷ more) ∷ others = ap (before_first (begins_with_any part_ends)) lexemes ∙ before_after (begins_with_any part_ends) before ((b ∷ more) ∷ rest) no_end ∙ ap (λ x. before ++ x) (before_first-no (begins_with_any part_ends) (b ∷ more) rest goes_on) in
    let stop : position_or_len is_angle ((b ∷ more) ∷ others) ≡ 0 = ap (λ v. cond (not v) (1 + position_or_len is_angle others) 0) angle in
    let front : before_first is_angle (before ++ (b ∷ more) ∷ others) ≡ before = before_is is_angle before ((b ∷ more) ∷ others) none stop in
    let back : drop (position_or_len is_angle (before ++ (b ∷ more) ∷ others)) (before ++ (b ∷ more) ∷ others) ≡ (b ∷ more) ∷ others = drop_before is_angle before ((b ∷ more) ∷ others) none stop in
    let size : mailbox_lexeme_more b behind ≡ position_or_len (is_byte 62) behind + 1 = ap (λ x. mailbox_lexeme_more x behind) special in
    let inner : before_first (is_byte 62) more ≡ before_first (is_byte 62) behind = ap (λ k. before_first (is_byte 62) (take k behind)) size ∙ before_take (is_byte 62) behind in
    ap mailbox_of part ∙ ap (λ x. mailbox_from x (drop (position_or_len is_angle (before ++ (b ∷ more) ∷ others)) (before ++ (b ∷ more) ∷ others))) front ∙ ap (λ x. mailbox_from before x) back ∙ ap (λ x. made x (before_first (is_byte 62) more)) s.bytes ∙ ap (λ x. made (take m text) x) inner

or_false_true : (a : Bool) → (a || false) ≡ true → a ≡ true
or_false_true true e = refl
or_false_true false e = e

angle_at : (text rest : List ℕ) (m : ℕ) → StopsAt name_ends text m → drop m text ≡ rest → is_angle rest ≡ true → mailbox_of (lexemes_before part_ends text) ≡ made (take m text) (before_first (is_byte 62) (drop (m + 1) text))
angle_at text [] m s e angle = absurd (cc)
angle_at text (b ∷ behind) m s e angle =
    let special : 60 ≡ b = eqb-true 60 b (or_false_true (60 == b) angle) in
    let same : behind ≡ drop (m + 1) text = sym (ap (drop 1) e) ∙ drop-drop 1 m text in
    angle_from text behind b m s e (sym special) ∙ ap (λ x. made (take m text) (before_first (is_byte 62) x)) same

-- with a `<`
pub mailbox_angle : (text : List ℕ) (m : ℕ) → StopsAt name_ends text m → is_angle (drop m text) ≡ true → mailbox_of (lexemes_before part_ends text) ≡ record { name = spaced_of (unquoted (take m text)); address = without_white_space (before_first (is_byte 62) (drop (m + 1) text)) }
mailbox_angle text m s angle = angle_at text (drop m text) m s refl angle

stops_too : (text rest : List ℕ) (m : ℕ) → StopsAt name_ends text m → drop m text ≡ rest → is_angle rest ≡ false → position_or_len (begins_with_any part_ends) (mailbox_lexemes_of rest) ≡ 0
stops_too text [] m t e angle = ap (position_or_len (begins_with_any part_ends)) (cut-nil mailbox_lexeme_more)
stops_too text (b ∷ behind) m t e angle =
    let long : length (b ∷ behind) ≡ length text - m = sym (ap length e) ∙ length-drop m text in
    let special : begins_with_any name_ends (b ∷ behind) ≡ true = sym (ap (begins_with_any name_ends) e) ∙ t.stop (omega arith) in
    let ends : begins_with_any part_ends (b ∷ behind) ≡ true = or_three (44 == b) (59 == b) (58 == b) (60 == b) special angle in
    ap (position_or_len (begins_with_any part_ends)) (cut-cons mailbox_lexeme_more b behind) ∙ ap (λ v. cond (not v) (1 + position_or_len (begins_with_any part_ends) (mailbox_lexemes_of (drop (mailbox_lexeme_more b behind) behind))) 0) ends

-- without one
pub mailbox_plain : (text : List ℕ) (n m : ℕ) → StopsAt part_ends text n → StopsAt name_ends text m → is_angle (drop m text) ≡ false → mailbox_of (lexemes_before part_ends text) ≡ record { name = []; address = without_white_space (take n text) }
mailbox_plain text n m s t angle =
    let before : List (List ℕ) = lexemes_before name_ends text in
    let no_end : list_any (begins_with_any part_ends) before ≡ false = none_of (begins_with_any part_ends) (begins_with_any name_ends) no_part_end before t.none in
    let none : list_any is_angle before ≡ false = none_of is_angle (begins_with_any name_ends) no_angle before t.none in
    let same : lexemes_before part_ends text ≡ before = ap (before_first (begins_with_any part_ends)) t.lexemes ∙ before_is (begins_with_any part_ends) before (mailbox_lexemes_of (drop m text)) no_end (stops_too text (drop m text) m t refl angle) in
    let front : before_first is_angle before ≡ before = ap (before_first is_angle) (sym (append-nil before)) ∙ before_is is_angle before [] none refl in
    let back : drop (position_or_len is_angle before) before ≡ [] = ap (λ x. drop (position_or_len is_angle x) x) (sym (append-nil before)) ∙ drop_before is_angle before [] none refl in
    ap mailbox_of same ∙ ap (λ x. mailbox_from x (drop (position_or_len is_angle before) before)) front ∙ ap (λ x. mailbox_from before x) back ∙ ap bare (ap concat (sym same) ∙ s.bytes)

pub stops_same : (specials a b : List ℕ) (n : ℕ) → a ≡ b → StopsAt specials a n → StopsAt specials b n
stops_same specials a b n e s = subst (λ t. StopsAt specials t n) e s

pub mailboxes_end : (found : List Mailbox) (left : List ℕ) → (length left == 0) ≡ true → found ≡ found ++ mailboxes_in (mailbox_lexemes_of left)
mailboxes_end found [] e = sym (ap (λ x. found ++ x) in_nil ∙ append-nil found)
mailboxes_end found (b ∷ left) e = absurd (let no : length (b ∷ left) ≡ 0 = eqb-true (length (b ∷ left)) 0 e in omega arith)

pub angle_inside : (text : List ℕ) (m : ℕ) → is_angle (drop m text) ≡ true → m < length text
angle_inside text m angle =
    elim (ltb m (length text)) as (λ v. ltb m (length text) ≡ v → m < length text) [
      | true ↦ λ h. ltb-true m (length text) h
      | false ↦ λ h. let none : drop m text ≡ [] = drop_all m text (ltb-false m (length text) h) in absurd (let no : false ≡ true = sym (ap is_angle none) ∙ angle in cc)
    ] refl

pub plain_made : (text name address part : List ℕ) (n m : ℕ) → StopsAt part_ends text n → StopsAt name_ends text m → is_angle (drop m text) ≡ false → name ≡ [] → part ≡ take (n - 0) text → address ≡ without_white_space part → record { name = name; address = address } ≡ mailbox_of (lexemes_before part_ends text)
plain_made text name address part n m s t angle e p a =
    let make : List ℕ → List ℕ → Mailbox = λ x y. record { name = x; address = y } in
    let front : part ≡ take n text = p ∙ ap (λ k. take k text) (let none : n - 0 ≡ n = omega arith in none) in
    ap (λ x. make x address) e ∙ ap (λ y. make [] y) (a ∙ ap without_white_space front) ∙ sym (mailbox_plain text n m s t angle)

pub angle_made : (text name address front behind inner : List ℕ) (m : ℕ) → StopsAt name_ends text m → is_angle (drop m text) ≡ true → front ≡ take (m - 0) text → name ≡ spaced_of (unquoted front) → behind ≡ drop (m + 1) text → inner ≡ before_first (is_byte 62) behind → address ≡ without_white_space inner → record { name = name; address = address } ≡ mailbox_of (lexemes_before part_ends text)
angle_made text name address front behind inner m s angle f e b i a =
    let make : List ℕ → List ℕ → Mailbox = λ x y. record { name = x; address = y } in
    let whole : front ≡ take m text = f ∙ ap (λ k. take k text) (let none : m - 0 ≡ m = omega arith in none) in
    ap (λ x. make x address) (e ∙ ap (λ x. spaced_of (unquoted x)) whole) ∙ ap (λ y. make (spaced_of (unquoted (take m text))) y) (a ∙ ap without_white_space (i ∙ ap (before_first (is_byte 62)) b)) ∙ sym (mailbox_angle text m s angle)
