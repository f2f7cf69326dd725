-- The tree of parts: a part, and those that are still to be read after it, are all.
-- For the proofs of `PartReader::next` and `next_in`.
use Rattle.std.proofs.Common.{◌≡◌, ℕ, suc, ◌+◌, ◌-◌, ◌<◌, ◌≤◌, Bool, true, false, cond, not, ◌&&◌, ◌||◌, ◌==◌, List, [], ◌∷◌, ◌++◌, length, take, drop, reverse, ltb, refl, sym, ap, subst, ◌∙◌, arith, length-append, length-take, min, codes}
use Rattle.std.specs.List.{concat, flat_map}
use Rattle.std.proofs.lemmas.List.{drop-drop, drop-take, reverse-append}
use Rattle.std.proofs.lemmas.List.Concat.{flat_map-append}
use Rattle.nm_text.specs.Lines.{content, lines_of}
use Rattle.nm_header.specs.Texts.{field_text}
use Rattle.nm_mime.specs.Children.{delimiters_of, ends_part, is_line_of, part_after, part_at, part_len, spans_in, spans_of, stops}
use Rattle.nm_mime.specs.PartReader.{entity_parts}
use Rattle.nm_mime.specs.OpenParts.{AllInside, IsOpenInside, IsPendingInside, entities_in, entities_to_come, open_entities, pending_in, pending_of}
use Rattle.nm_mime.specs.declared.open_parts.OpenMultipart.{OpenMultipart}
use Rattle.nm_mime.specs.declared.open_parts.Pending.{Pending}
use Rattle.nm_mime.specs.declared.open_parts.Pending.TheVariants.{Mail, Multipart}
use Rattle.nm_mime.specs.Parts.{IsInside, IsWithin, boundary_of, bytes_in, children_of, entities_from, entity_in, inside, is_opened, opening_in, opening_of, parts_upto}
use Rattle.nm_mime.specs.Roles.{encoding_of, is_attachment, is_kind_of, is_message, is_multipart, is_plain, role_of}
use Rattle.nm_mime.specs.Types.{type_of}
use Rattle.nm_mime.specs.declared.types.ContentType.{ContentType}
use Rattle.nm_base.specs.Bounds.{fits_length}
use Rattle.nm_header.specs.Fields.{header_of}
use Rattle.nm_header.specs.declared.header.HeaderList.{HeaderList}
use Rattle.std.specs.Str.{bytes_eq}
use Rattle.nm_mime.specs.declared.children.Delimiters.{Delimiters}
use Rattle.nm_mime.specs.declared.children.Span.{Span}
use Rattle.nm_mime.specs.declared.entity.Entity.{Entity}
use Rattle.nm_mime.specs.declared.entity.Opening.{Opening}
use Rattle.nm_mime.specs.declared.entity.Part.{Part}
use Rattle.nm_mime.proofs.ChildLemmas.{lines_long}
use Rattle.nm_mime.proofs.PartLemmas.{content_long, opening_inside, stretch_long}
use Rattle.std.proofs.lemmas.Bool.{ltb-true}
use Rattle.std.specs.Str.Lines.{strip_carriage_return}
use Rattle.std.specs.Prelude.{slice_index}
use Rattle.nm_mime.specs.declared.roles.Role.TheVariants.{Opened, Readable, Signature, Unread}
use Rattle.nm_mime.specs.declared.roles.Encoding.{Encoding}

-- ---- the entities in a part are inside the mail
abbrev pub AllWithin : ℕ → List Entity → Type 0
AllWithin size [] = Unit {0}
AllWithin size (entity ∷ more) = IsWithin size entity × AllWithin size more

abbrev AllRise : ℕ → List Span → Type 0
AllRise end [] = Unit {0}
AllRise end (s ∷ more) = ((s.from ≤ s.to) × (s.to ≤ end)) × AllRise end more

rise-append : (end : ℕ) (xs ys : List Span) → AllRise end xs → AllRise end ys → AllRise end (xs ++ ys)
rise-append end [] ys a b = b
rise-append end (x ∷ xs) ys a b = (a.0, rise-append end xs ys a.1 b)

take_short : (n : ℕ) (xs : List ℕ) → length (take n xs) ≤ length xs
take_short n xs = let long : length (take n xs) ≡ min n (length xs) = length-take n xs in omega arith

strip_short : (line : List ℕ) → length (strip_carriage_return line) ≤ length line
strip_short line = let one = take_short (length line - 1) line in
    elim (slice_index line (length line - 1) == 13) as (λ v. length (cond v (take (length line - 1) line) line) ≤ length line) [ true ↦ omega arith | false ↦ omega arith ]

pub content_short : (line : List ℕ) → length (content line) ≤ length line
content_short line =
    let one = take_short (length line - 1) line in
    let two = strip_short (take (length line - 1) line) in
    elim (slice_index line (length line - 1) == 10) as (λ v. length (cond v (strip_carriage_return (take (length line - 1) line)) line) ≤ length line) [ true ↦ omega arith | false ↦ omega arith ]

pub size_short : (delimiters : Delimiters) (lines : List (List ℕ)) → part_len delimiters lines ≤ length (concat lines)
size_short delimiters [] = omega arith
size_short delimiters (line ∷ more) =
    let rest = size_short delimiters more in
    let one = content_short line in
    let long : length (line ++ concat more) ≡ length line + length (concat more) = length-append line (concat more) in
    elim (ends_part delimiters line) as (λ v. cond v 0 (cond (stops delimiters more) (length (content line)) (length line + part_len delimiters more)) ≤ length (line ++ concat more)) [
      | true ↦ omega arith
      | false ↦ elim (stops delimiters more) as (λ v. cond v (length (content line)) (length line + part_len delimiters more) ≤ length (line ++ concat more)) [ true ↦ omega arith | false ↦ omega arith ]
    ]

part_rises : (delimiters : Delimiters) (end : ℕ) (line : List ℕ) (more : List (List ℕ)) → length (concat more) ≤ end → AllRise end (part_at delimiters end line more)
part_rises delimiters end line more h =
    let size = size_short delimiters more in
    elim (is_line_of delimiters.delimiter line) as (λ v. AllRise end (cond v (part_after delimiters end more ∷ []) [])) [ true ↦ ((omega arith, omega arith), tt) | false ↦ tt ]

lines_rise : (delimiters : Delimiters) (end : ℕ) (lines : List (List ℕ)) → length (concat lines) ≤ end → AllRise end (spans_in delimiters end lines)
lines_rise delimiters end [] h = tt
lines_rise delimiters end (line ∷ more) h =
    let long : length (line ++ concat more) ≡ length line + length (concat more) = length-append line (concat more) in
    let less : length (concat more) ≤ end = omega arith in
    elim (is_line_of delimiters.closing line) as (λ v. AllRise end (cond v [] (part_at delimiters end line more ++ spans_in delimiters end more))) [
      | true ↦ tt
      | false ↦ rise-append end (part_at delimiters end line more) (spans_in delimiters end more) (part_rises delimiters end line more less) (lines_rise delimiters end more less)
    ]

spans_rise : (delimiters : Delimiters) (end : ℕ) (bytes : List ℕ) → length bytes ≤ end → AllRise end (spans_of delimiters end bytes)
unfolding spans_of
spans_rise delimiters end bytes h = lines_rise delimiters end (lines_of bytes) (let long = lines_long bytes in omega arith)

inside_rises : (mail : List ℕ) (opening : Opening) → IsInside (length mail) opening.part → AllRise opening.part.to (inside mail opening)
inside_rises mail opening i =
    let bytes : List ℕ = bytes_in mail opening.part.from opening.part.to in
    let short : length bytes ≤ opening.part.to = content_long mail bytes opening.part.from opening.part.to i.rises i.ends refl in
    elim (is_multipart opening.part.kind) as (λ v. AllRise opening.part.to (cond v (spans_of (delimiters_of opening.boundary) opening.part.to bytes) (record { from = opening.part.from; to = opening.part.to } ∷ []))) [
      | true ↦ spans_rise (delimiters_of opening.boundary) opening.part.to bytes short
      | false ↦ ((i.rises, omega arith), tt)
    ]

entities_within : (size end : ℕ) (part : Part) (n : ℕ) (spans : List Span) → part.depth < 32 → end ≤ size → AllRise end spans → AllWithin size (entities_from part n spans)
entities_within size end part n [] low e a = tt
entities_within size end part n (s ∷ spans) low e a =
    let rises = a.0.0 in
    let ends = a.0.1 in
    (record { rises = rises; ends = omega arith; depth = omega arith }, entities_within size end part (n + 1) spans low e a.1)

low_of : (attached signature encrypted low multipart message fits plain text : Bool) → is_opened (cond attached Unread (cond signature Signature (cond encrypted Unread (cond (not low && (multipart || message)) Unread (cond (multipart && fits) Opened (cond (message && plain) Opened (cond text Readable Unread))))))) ≡ true → low ≡ true
low_of a s e true m r f p t h = refl
low_of true s e false m r f p t h = absurd (cc)
low_of false true e false m r f p t h = absurd (cc)
low_of false false true false m r f p t h = absurd (cc)
low_of false false false false true r f p t h = absurd (cc)
low_of false false false false false true f p t h = absurd (cc)
low_of false false false false false false f p true h = absurd (cc)
low_of false false false false false false f p false h = absurd (cc)

opened_low : (attached signature : Bool) (depth : ℕ) (kind boundary : List ℕ) (encoding : Encoding) → is_opened (role_of attached signature depth kind boundary encoding) ≡ true → depth < 32
opened_low a s d k b e o =
    ltb-true d 32 (low_of a s (bytes_eq k (codes "multipart/encrypted")) (ltb d 32) (is_multipart k) (is_message k) (fits_length 200 b) (is_plain e) (is_kind_of (codes "text/") k) o)

header_low : (entity : Entity) (header : HeaderList) → is_opened (opening_in entity header).part.role ≡ true → entity.depth < 32
header_low entity header o =
    let type : ContentType = type_of entity.digest (field_text header.list (codes "content-type")) in
    opened_low (is_attachment (field_text header.list (codes "content-disposition"))) entity.signature entity.depth type.kind (boundary_of type) (encoding_of (field_text header.list (codes "content-transfer-encoding"))) o

-- a part that is opened is not too deep
part_low : (mail : List ℕ) (entity : Entity) → is_opened (opening_of mail entity).part.role ≡ true → (opening_of mail entity).part.depth < 32
unfolding opening_of
part_low mail entity o = header_low entity (header_of (bytes_in mail entity.from entity.to)) o

pub children_within : (mail : List ℕ) (entity : Entity) → IsWithin (length mail) entity → AllWithin (length mail) (children_of mail (opening_of mail entity))
unfolding children_of
children_within mail entity w =
    let opening : Opening = opening_of mail entity in
    let i : IsInside (length mail) opening.part = opening_inside mail entity w in
    elim (is_opened opening.part.role) as (λ v. is_opened opening.part.role ≡ v → AllWithin (length mail) (cond v (entities_from opening.part 0 (inside mail opening)) [])) [
      | true ↦ λ o. entities_within (length mail) opening.part.to opening.part 0 (inside mail opening) (part_low mail entity o) i.ends (inside_rises mail opening i)
      | false ↦ λ o. tt
    ] refl

-- ---- the parts that are left
same_level : (mail : List ℕ) (part : Part) (n d : ℕ) (spans : List Span) → part.depth ≡ d → flat_map (parts_upto (32 - d) mail) (entities_from part n spans) ≡ flat_map (λ entity. parts_upto (33 - entity.depth) mail entity) (entities_from part n spans)
same_level mail part n d [] e = refl
same_level mail part n d (s ∷ spans) e =
    let level : 32 - d ≡ 33 - (part.depth + 1) = omega arith in
    ap (λ k. parts_upto k mail (entity_in part n s) ++ flat_map (parts_upto (32 - d) mail) (entities_from part (n + 1) spans)) level ∙ ap (λ l. parts_upto (33 - (part.depth + 1)) mail (entity_in part n s) ++ l) (same_level mail part (n + 1) d spans e)

children_level : (mail : List ℕ) (opening : Opening) (d : ℕ) → opening.part.depth ≡ d → flat_map (parts_upto (32 - d) mail) (children_of mail opening) ≡ entity_parts mail (children_of mail opening)
unfolding children_of entity_parts
children_level mail opening d e =
    elim (is_opened opening.part.role) as (λ v. flat_map (parts_upto (32 - d) mail) (cond v (entities_from opening.part 0 (inside mail opening)) []) ≡ flat_map (λ entity. parts_upto (33 - entity.depth) mail entity) (cond v (entities_from opening.part 0 (inside mail opening)) [])) [
      | true ↦ same_level mail opening.part 0 d (inside mail opening) e
      | false ↦ refl
    ]

pub same_depth : (mail : List ℕ) (entity : Entity) → (opening_of mail entity).part.depth ≡ entity.depth
unfolding opening_of
same_depth mail entity = refl

pub parts_step : (mail : List ℕ) (entity : Entity) (rest : List Entity) → entity.depth ≤ 32 → entity_parts mail (entity ∷ rest) ≡ (opening_of mail entity).part ∷ (entity_parts mail (children_of mail (opening_of mail entity)) ++ entity_parts mail rest)
unfolding entity_parts
parts_step mail entity rest h =
    let level : 33 - entity.depth ≡ suc (32 - entity.depth) = omega arith in
    let opening : Opening = opening_of mail entity in
    ap (λ k. parts_upto k mail entity ++ entity_parts mail rest) level ∙ ap (λ l. (opening.part ∷ l) ++ entity_parts mail rest) (children_level mail opening entity.depth (same_depth mail entity))

parts-append : (mail : List ℕ) (xs ys : List Entity) → entity_parts mail (xs ++ ys) ≡ entity_parts mail xs ++ entity_parts mail ys
unfolding entity_parts
parts-append mail xs ys = flat_map-append (λ entity. parts_upto (33 - entity.depth) mail entity) xs ys

parts-nil : (mail : List ℕ) → entity_parts mail [] ≡ []
unfolding entity_parts
parts-nil mail = refl

-- ---- what is still to be read in a part that was just opened are the entities in it
pending_entities : (mail : List ℕ) (opening : Opening) → entities_in mail (pending_of opening) ≡ entities_from opening.part 0 (inside mail opening)
pending_entities mail opening =
    let part : Part = opening.part in
    let span : Span = record { from = part.from; to = part.to } in
    let multipart : OpenMultipart = record { part = part; delimiters = delimiters_of opening.boundary; before = 0; at = part.from } in
    elim (is_multipart part.kind) as (λ v. entities_in mail (cond v (Multipart multipart) (Mail (entity_in part 0 span))) ≡ entities_from part 0 (cond v (spans_of (delimiters_of opening.boundary) part.to (bytes_in mail part.from part.to)) (span ∷ []))) [ true ↦ refl | false ↦ refl ]

opened_entities : (mail : List ℕ) (opening : Opening) (rest : List Pending) → entities_to_come mail (pending_in opening ++ rest) ≡ children_of mail opening ++ entities_to_come mail rest
unfolding children_of
opened_entities mail opening rest =
    elim (is_opened opening.part.role) as (λ v. entities_to_come mail (cond v (pending_of opening ∷ []) [] ++ rest) ≡ cond v (entities_from opening.part 0 (inside mail opening)) [] ++ entities_to_come mail rest) [
      | true ↦ ap (λ x. x ++ entities_to_come mail rest) (pending_entities mail opening)
      | false ↦ refl
    ]

one_inside : (size : ℕ) (opening : Opening) → IsInside size opening.part → opening.part.depth < 32 → IsPendingInside size (pending_of opening)
one_inside size opening i low =
    let part : Part = opening.part in
    let span : Span = record { from = part.from; to = part.to } in
    let multipart : OpenMultipart = record { part = part; delimiters = delimiters_of opening.boundary; before = 0; at = part.from } in
    elim (is_multipart part.kind) as (λ v. IsPendingInside size (cond v (Multipart multipart) (Mail (entity_in part 0 span)))) [
      | true ↦ record { few = omega arith; rises = i.rises; ends = i.ends; depth = low }
      | false ↦ record { rises = i.rises; ends = i.ends; depth = omega arith }
    ]

pub opened_inside : (mail : List ℕ) (entity : Entity) (rest : List Pending) → IsWithin (length mail) entity → AllInside (length mail) rest → AllInside (length mail) (pending_in (opening_of mail entity) ++ rest)
opened_inside mail entity rest w all =
    let opening : Opening = opening_of mail entity in
    elim (is_opened opening.part.role) as (λ v. is_opened opening.part.role ≡ v → AllInside (length mail) (cond v (pending_of opening ∷ []) [] ++ rest)) [
      | true ↦ λ o. (one_inside (length mail) opening (opening_inside mail entity w) (part_low mail entity o), all)
      | false ↦ λ o. all
    ] refl

-- ---- a part, and all that is still to come after it
pub part_then_rest : (mail : List ℕ) (entities : List Entity) (entity : Entity) (between after : List Pending) (part : Part) → IsWithin (length mail) entity → entities ≡ entity ∷ entities_to_come mail between → part ≡ (opening_of mail entity).part → after ≡ pending_in (opening_of mail entity) ++ between → entity_parts mail entities ≡ part ∷ entity_parts mail (entities_to_come mail after)
part_then_rest mail entities entity between after part w e p a =
    let opening : Opening = opening_of mail entity in
    let rest : entity_parts mail (entities_to_come mail after) ≡ entity_parts mail (children_of mail opening) ++ entity_parts mail (entities_to_come mail between) =
    ap (λ x. entity_parts mail (entities_to_come mail x)) a ∙ ap (entity_parts mail) (opened_entities mail opening between) ∙ parts-append mail (children_of mail opening) (entities_to_come mail between) in
    ap (entity_parts mail) e ∙ parts_step mail entity (entities_to_come mail between) w.depth ∙ ap (λ x. opening.part ∷ x) (sym rest) ∙ ap (λ x. x ∷ entity_parts mail (entities_to_come mail after)) (sym p)

-- ---- what is read next is on top
pub on_top : (before after : List Pending) (pending : Pending) → before ≡ after ++ pending ∷ [] → reverse before ≡ pending ∷ reverse after
on_top before after pending e = ap reverse e ∙ reverse-append after (pending ∷ [])

pub top_inside : (size : ℕ) (before after : List Pending) (pending : Pending) → before ≡ after ++ pending ∷ [] → AllInside size (reverse before) → IsPendingInside size pending × AllInside size (reverse after)
top_inside size before after pending e all = subst (AllInside size) (on_top before after pending e) all

pub none_there : (mail : List ℕ) (before after new : List Pending) (pending : Pending) → before ≡ after ++ pending ∷ [] → entities_in mail pending ≡ [] → new ≡ after → entities_to_come mail (reverse new) ≡ entities_to_come mail (reverse before)
none_there mail before after new pending e none same =
    ap (λ x. entities_to_come mail (reverse x)) same ∙ sym (ap (entities_to_come mail) (on_top before after pending e) ∙ ap (λ x. x ++ entities_to_come mail (reverse after)) none)

pub first_there : (mail : List ℕ) (before after new : List Pending) (pending : Pending) (entity : Entity) → before ≡ after ++ pending ∷ [] → entities_in mail pending ++ entities_to_come mail (reverse after) ≡ entity ∷ entities_to_come mail (reverse new) → entities_to_come mail (reverse before) ≡ entity ∷ entities_to_come mail (reverse new)
first_there mail before after new pending entity e first = ap (entities_to_come mail) (on_top before after pending e) ∙ first

-- the entity, and the multipart put back without it
pub put_back : (mail : List ℕ) (multipart again : OpenMultipart) (before new : List Pending) (entity : Entity) → open_entities mail multipart ≡ entity ∷ open_entities mail again → new ≡ before ++ Multipart again ∷ [] → open_entities mail multipart ++ entities_to_come mail (reverse before) ≡ entity ∷ entities_to_come mail (reverse new)
put_back mail multipart again before new entity e n =
    ap (λ x. x ++ entities_to_come mail (reverse before)) e ∙ ap (λ x. entity ∷ x) (sym (ap (entities_to_come mail) (on_top new before (Multipart again) n)))

pub back_inside : (size : ℕ) (again : OpenMultipart) (before new : List Pending) → IsOpenInside size again → new ≡ before ++ Multipart again ∷ [] → AllInside size (reverse before) → AllInside size (reverse new)
back_inside size again before new i n all = subst (AllInside size) (sym (on_top new before (Multipart again) n)) (i, all)

-- ---- the next span in a multipart
drop_in : (mail : List ℕ) (at next to : ℕ) → next ≤ to - at → drop next (bytes_in mail at to) ≡ bytes_in mail (at + next) to
drop_in mail at next to h =
    let size : to - at ≡ next + (to - (at + next)) = omega arith in
    ap (λ k. drop next (take k (drop at mail))) size ∙ drop-take next (to - (at + next)) (drop at mail) ∙ ap (take (to - (at + next))) (drop-drop next at mail)

pub open_next : (mail bytes : List ℕ) (multipart : OpenMultipart) (span : Span) (next : ℕ) (entity : Entity) → multipart.at ≤ multipart.part.to → multipart.part.to ≤ length mail → next ≤ length bytes → bytes ≡ bytes_in mail multipart.at multipart.part.to
    → spans_of multipart.delimiters multipart.part.to bytes ≡ span ∷ spans_of multipart.delimiters multipart.part.to (drop next bytes) → entity ≡ entity_in multipart.part multipart.before span
    → open_entities mail multipart ≡ entity ∷ entities_from multipart.part (multipart.before + 1) (spans_of multipart.delimiters multipart.part.to (bytes_in mail (multipart.at + next) multipart.part.to))
open_next mail bytes multipart span next entity rises ends short b s e =
    let part : Part = multipart.part in
    let spans : List ℕ → List Span = spans_of multipart.delimiters part.to in
    let long : length bytes ≡ part.to - multipart.at = ap length b ∙ stretch_long mail multipart.at part.to rises ends in
    let rest : drop next bytes ≡ bytes_in mail (multipart.at + next) part.to = ap (drop next) b ∙ drop_in mail multipart.at next part.to (omega arith) in
    ap (λ x. entities_from part multipart.before (spans x)) (sym b) ∙ ap (entities_from part multipart.before) s ∙ ap (λ x. x ∷ entities_from part (multipart.before + 1) (spans (drop next bytes))) (sym e) ∙ ap (λ x. entity ∷ entities_from part (multipart.before + 1) (spans x)) rest
