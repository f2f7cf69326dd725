-- The mail itself as a part, and the parts that come after it.
-- For the proofs of `PartReader::next`, `PartReader::open`, `open_whole` and others.
use Rattle.std.proofs.Common.{◌≡◌, ℕ, ◌+◌, ◌-◌, ◌≤◌, List, [], ◌∷◌, ◌++◌, length, take, reverse, sym, ap, subst, ◌∙◌, arith}
use Rattle.std.proofs.lemmas.List.{append-nil, take_all}
use Rattle.nm_header.specs.Fields.{header_of}
use Rattle.nm_header.specs.declared.header.HeaderList.{HeaderList}
use Rattle.nm_mime.specs.PartReader.{entity_parts}
use Rattle.nm_mime.specs.OpenParts.{AllInside, entities_to_come, pending_in}
use Rattle.nm_mime.specs.declared.open_parts.Pending.{Pending}
use Rattle.nm_mime.specs.Parts.{IsInside, IsWithin, bytes_in, opening_in, opening_of, parts_of, parts_upto, whole_of}
use Rattle.nm_mime.specs.declared.entity.Entity.{Entity}
use Rattle.nm_mime.specs.declared.entity.Opening.{Opening}
use Rattle.nm_mime.specs.declared.entity.Part.{Part}
use Rattle.nm_mime.proofs.PartLemmas.{opening_inside, opening_is, rest_inside}
use Rattle.nm_mime.proofs.TreeLemmas.{opened_inside, part_then_rest}

whole_within : (mail : List ℕ) → IsWithin (length mail) (whole_of mail)
whole_within mail = record { rises = omega arith; ends = omega arith; depth = omega arith }

whole_bytes : (mail : List ℕ) → mail ≡ bytes_in mail 0 (length mail)
whole_bytes mail =
    let all : length mail - 0 ≡ length mail = omega arith in
    sym (ap (λ n. take n mail) all ∙ take_all (length mail) mail (omega arith))

pub whole_rest : (mail : List ℕ) (entity : Entity) (header : HeaderList) → entity ≡ whole_of mail → header ≡ header_of mail → entity.from + header.rest ≤ entity.to
whole_rest mail entity header e h =
    subst (λ (x : Entity). x.from + header.rest ≤ x.to) (sym e) (rest_inside mail (whole_of mail) mail header (whole_within mail) (whole_bytes mail) h)

pub whole_opening : (mail : List ℕ) (entity : Entity) (header : HeaderList) → entity ≡ whole_of mail → header ≡ header_of mail → opening_in entity header ≡ opening_of mail (whole_of mail)
whole_opening mail entity header e h = ap (λ (x : Entity). opening_in x header) e ∙ opening_is mail (whole_of mail) mail header (whole_bytes mail) h

pub whole_inside : (mail : List ℕ) (opening : Opening) → opening ≡ opening_of mail (whole_of mail) → IsInside (length mail) opening.part
whole_inside mail opening e = subst (λ (o : Opening). IsInside (length mail) o.part) (sym e) (opening_inside mail (whole_of mail) (whole_within mail))

pub part_inside : (mail : List ℕ) (part : Part) → part ≡ (opening_of mail (whole_of mail)).part → IsInside (length mail) part
part_inside mail part e = subst (IsInside (length mail)) (sym e) (opening_inside mail (whole_of mail) (whole_within mail))

whole_parts : (mail : List ℕ) → parts_of mail ≡ entity_parts mail (whole_of mail ∷ [])
unfolding entity_parts parts_of
whole_parts mail = sym (append-nil (parts_upto 33 mail (whole_of mail)))

pub parts_opened : (mail : List ℕ) (part : Part) (none rest : List Pending) → none ≡ [] → part ≡ (opening_of mail (whole_of mail)).part
    → reverse rest ≡ pending_in (opening_of mail (whole_of mail)) ++ reverse none → parts_of mail ≡ part ∷ entity_parts mail (entities_to_come mail (reverse rest))
parts_opened mail part none rest n p r =
    whole_parts mail ∙ part_then_rest mail (whole_of mail ∷ []) (whole_of mail) (reverse none) (reverse rest) part (whole_within mail) (sym (ap (λ x. whole_of mail ∷ entities_to_come mail (reverse x)) n)) p r

pub opened_stand : (mail : List ℕ) (none rest : List Pending) → none ≡ []
    → reverse rest ≡ pending_in (opening_of mail (whole_of mail)) ++ reverse none → AllInside (length mail) (reverse rest)
opened_stand mail none rest n r =
    subst (AllInside (length mail)) (sym r) (opened_inside mail (whole_of mail) (reverse none) (whole_within mail) (subst (λ x. AllInside (length mail) (reverse x)) (sym n) tt))

pub next_inside : (mail : List ℕ) (entity : Entity) (part : Part) → IsWithin (length mail) entity → part ≡ (opening_of mail entity).part → IsInside (length mail) part
next_inside mail entity part w p = subst (IsInside (length mail)) (sym p) (opening_inside mail entity w)

pub no_parts : (mail : List ℕ) (entities : List Entity) → entities ≡ [] → entity_parts mail entities ≡ []
unfolding entity_parts
no_parts mail entities e = ap (entity_parts mail) e

pub next_stand : (mail : List ℕ) (entity : Entity) (between after : List Pending) → IsWithin (length mail) entity → AllInside (length mail) between → after ≡ pending_in (opening_of mail entity) ++ between → AllInside (length mail) after
next_stand mail entity between after w all a = subst (AllInside (length mail)) (sym a) (opened_inside mail entity between w all)
