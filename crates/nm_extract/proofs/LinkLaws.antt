-- The laws of links. For the proofs of `a_mail_links_to_others_once` and `links_stand_in_order_of_first_naming`.
use Rattle.std.proofs.Common.{◌≡◌, ℕ, Bool, true, false, ◌||◌, cond, List, [], ◌∷◌, ◌++◌, fold, refl, sym, ap, ◌∙◌, append_assoc}
use Rattle.std.proofs.Math.Bool.{or-false, or_assoc}
use Rattle.std.proofs.lemmas.Bool.{or_from, or_parts, or_right}
use Rattle.std.proofs.lemmas.List.{append-nil}
use Rattle.std.proofs.lemmas.List.Sums.{fold-append}
use Rattle.std.specs.Cmp.Lexicographic.{nat_list_eq_equiv}
use Rattle.std.specs.Cmp.Lexicographic as lexicographic
use Rattle.nm_base.specs.Order.{has_text, same_text}
use Rattle.nm_extract.specs.Ids.{links_among, with_link}
use Rattle.nm_extract.specs.Laws.{AreDistinct, BeginsWith}

-- of a list with one text more
has_more : (texts : List (List ℕ)) (text other : List ℕ) → has_text (texts ++ text ∷ []) other ≡ (has_text texts other || same_text other text)
has_more [] text other = or-false (same_text other text)
has_more (first ∷ texts) text other = ap (λ b. same_text other first || b) (has_more texts text other) ∙ sym (or_assoc (same_text other first) (has_text texts other) (same_text other text))

-- a text that is not there occurs once after the others
once_more : (texts : List (List ℕ)) (text : List ℕ) → AreDistinct texts → has_text texts text ≡ false → AreDistinct (texts ++ text ∷ [])
once_more [] text once none = (refl, tt)
once_more (first ∷ texts) text once none = (
  has_more texts text first ∙ or_from (has_text texts first) (same_text first text) once.0 (nat_list_eq_equiv.symm first text ∙ (or_parts (same_text text first) (has_text texts text) none).0),
  once_more texts text once.1 ((or_parts (same_text text first) (has_text texts text) none).1),
)

-- what stays true of the links, id by id
record AreLinks (own : List ℕ) (links : List (List ℕ)) : Type 0 where
  pub others : has_text links own ≡ false
  pub once : AreDistinct links

link_case : (b : Bool) (own id : List ℕ) (links : List (List ℕ)) → has_text (own ∷ links) id ≡ b → AreLinks own links → AreLinks own (cond b links (links ++ id ∷ []))
link_case true own id links e h = h
link_case false own id links e h = record {
  others = has_more links id own ∙ or_from (has_text links own) (same_text own id) h.others (nat_list_eq_equiv.symm own id ∙ (or_parts (same_text id own) (has_text links id) e).0);
  once = once_more links id h.once ((or_parts (same_text id own) (has_text links id) e).1);
}

links_from : (own : List ℕ) (ids links : List (List ℕ)) → AreLinks own links → AreLinks own (fold (with_link own) links ids)
links_from own [] links h = h
links_from own (id ∷ ids) links h = links_from own ids (with_link own links id) (link_case (has_text (own ∷ links) id) own id links refl h)

are_links : (own : List ℕ) (ids : List (List ℕ)) → AreLinks own (links_among own ids)
are_links own ids = links_from own ids [] (record { others = refl; once = tt })

pub links_are_others : (own : List ℕ) (ids : List (List ℕ)) → has_text (links_among own ids) own ≡ false
links_are_others own ids = (are_links own ids).others

pub links_are_distinct : (own : List ℕ) (ids : List (List ℕ)) → AreDistinct (links_among own ids)
links_are_distinct own ids = (are_links own ids).once

-- a link is one of the ids
or_skip : (a b c : Bool) → (a || c) ≡ true → (a || (b || c)) ≡ true
or_skip true b c h = refl
or_skip false true c h = refl
or_skip false false c h = h

named_case : (b : Bool) (links ids : List (List ℕ)) (first id : List ℕ) → (has_text (cond b links (links ++ first ∷ [])) id || has_text ids id) ≡ true → (has_text links id || (same_text id first || has_text ids id)) ≡ true
named_case true links ids first id h = or_skip (has_text links id) (same_text id first) (has_text ids id) h
named_case false links ids first id h = sym (or_assoc (has_text links id) (same_text id first) (has_text ids id)) ∙ (ap (λ t. t || has_text ids id) (sym (has_more links first id)) ∙ h)

named_from : (own : List ℕ) (ids links : List (List ℕ)) (id : List ℕ) → has_text (fold (with_link own) links ids) id ≡ true → (has_text links id || has_text ids id) ≡ true
named_from own [] links id h = ap (λ t. t || false) h
named_from own (first ∷ ids) links id h = named_case (has_text (own ∷ links) first) links ids first id (named_from own ids (with_link own links first) id h)

pub links_are_named : (own id : List ℕ) (ids : List (List ℕ)) → has_text (links_among own ids) id ≡ true → has_text ids id ≡ true
links_are_named own id ids h = named_from own ids [] id h

-- a link stays one
kept_case : (b : Bool) (links : List (List ℕ)) (first id : List ℕ) → has_text links id ≡ true → has_text (cond b links (links ++ first ∷ [])) id ≡ true
kept_case true links first id h = h
kept_case false links first id h = has_more links first id ∙ ap (λ t. t || same_text id first) h

kept_from : (own id : List ℕ) (ids links : List (List ℕ)) → has_text links id ≡ true → has_text (fold (with_link own) links ids) id ≡ true
kept_from own id [] links h = h
kept_from own id (first ∷ ids) links h = kept_from own id ids (with_link own links first) (kept_case (has_text (own ∷ links) first) links first id h)

-- an id that is named is a link from there on
linked_case : (b : Bool) (own id : List ℕ) (links : List (List ℕ)) → has_text (own ∷ links) id ≡ b → same_text id own ≡ false → has_text (cond b links (links ++ id ∷ [])) id ≡ true
linked_case true own id links e h = ap (λ t. t || has_text links id) (sym h) ∙ e
linked_case false own id links e h = has_more links id id ∙ or_right (has_text links id) (same_text id id) (nat_list_eq_equiv.refl id)

linked_first : (own id first : List ℕ) (links : List (List ℕ)) → id ≡ first → same_text id own ≡ false → has_text (with_link own links first) id ≡ true
linked_first own id first links e h =
    ap (λ x. has_text (with_link own links x) id) (sym e) ∙ linked_case (has_text (own ∷ links) id) own id links refl h

every_case : (b : Bool) (own id first : List ℕ) (ids links : List (List ℕ)) → same_text id first ≡ b → same_text id own ≡ false → (b || has_text ids id) ≡ true
    → ((others : List (List ℕ)) → has_text ids id ≡ true → has_text (fold (with_link own) others ids) id ≡ true)
    → has_text (fold (with_link own) (with_link own links first) ids) id ≡ true
every_case true own id first ids links e h named later =
    kept_from own id ids (with_link own links first) (linked_first own id first links (lexicographic.same_text id first (sym e)) h)
every_case false own id first ids links e h named later = later (with_link own links first) named

every_from : (own id : List ℕ) (ids links : List (List ℕ)) → same_text id own ≡ false → has_text ids id ≡ true → has_text (fold (with_link own) links ids) id ≡ true
every_from own id [] links h named = absurd (cc)
every_from own id (first ∷ ids) links h named =
    every_case (same_text id first) own id first ids links refl h named (λ others. every_from own id ids others h)

pub every_id_is_linked : (own id : List ℕ) (ids : List (List ℕ)) → same_text id own ≡ false → has_text ids id ≡ true → has_text (links_among own ids) id ≡ true
every_id_is_linked own id ids h named = every_from own id ids [] h named

-- the links so far stay in front
front_case : (b : Bool) (links more all : List (List ℕ)) (first : List ℕ) → all ≡ cond b links (links ++ first ∷ []) ++ more → BeginsWith all links
front_case true links more all first e = (more, e)
front_case false links more all first e = (first ∷ more, e ∙ append_assoc links (first ∷ []) more)

front_from : (own : List ℕ) (ids links : List (List ℕ)) → BeginsWith (fold (with_link own) links ids) links
front_from own [] links = ([], sym (append-nil links))
front_from own (first ∷ ids) links =
    let r = front_from own ids (with_link own links first) in
    front_case (has_text (own ∷ links) first) links r.0 (fold (with_link own) (with_link own links first) ids) first r.1

not_named : (b : Bool) (own id : List ℕ) (ids : List (List ℕ)) → has_text (links_among own ids) id ≡ b → has_text ids id ≡ false → has_text (links_among own ids) id ≡ false
not_named false own id ids e h = e
not_named true own id ids e h = absurd (let named : has_text ids id ≡ true = links_are_named own id ids e in cc)

pub links_in_order : (own id : List ℕ) (before after : List (List ℕ)) → has_text (own ∷ before) id ≡ false
    → BeginsWith (links_among own (before ++ id ∷ after)) (links_among own before ++ id ∷ [])
links_in_order own id before after h =
    let links = links_among own before in
    let p = or_parts (same_text id own) (has_text before id) h in
    let fresh : has_text (own ∷ links) id ≡ false = or_from (same_text id own) (has_text links id) p.0 (not_named (has_text links id) own id before refl p.1) in
    let r = front_from own after (links ++ id ∷ []) in (
      r.0,
      fold-append (with_link own) [] before (id ∷ after) ∙ ap (λ t. fold (with_link own) (cond t links (links ++ id ∷ [])) after) fresh ∙ r.1,
    )
