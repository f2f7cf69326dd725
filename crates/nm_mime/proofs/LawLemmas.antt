-- The laws, by induction over the levels, the entities and the lines.
-- For the proofs of `a_part_stands_before_those_in_it`, `parts_in_a_part_stand_apart` and `parts`.
use Rattle.std.proofs.Common.{◌≡◌, ℕ, zero, suc, ◌+◌, ◌-◌, ◌≤◌, Bool, true, false, cond, ◌||◌, List, [], ◌∷◌, ◌++◌, length, refl, arith, length-append}
use Rattle.std.specs.List.{All, concat, flat_map}
use Rattle.std.proofs.lemmas.List.Elements.{All-append, All-cons, All-nil}
use Rattle.nm_text.specs.Lines.{content, lines_of}
use Rattle.nm_mime.specs.Children.{delimiters_of, is_line_of, part_len, spans_in, spans_of, stops}
use Rattle.nm_mime.specs.Laws.{AreApart, GoDown}
use Rattle.nm_mime.specs.Parts.{IsInside, IsWithin, bytes_in, children_of, entities_from, entity_in, inside, is_opened, opening_of, parts_of, parts_upto, whole_of}
use Rattle.nm_mime.specs.Roles.{is_multipart}
use Rattle.nm_mime.specs.declared.children.Delimiters.{Delimiters}
use Rattle.nm_mime.specs.declared.children.Span.{Span}
use Rattle.nm_mime.specs.declared.entity.Entity.{Entity}
use Rattle.nm_mime.specs.declared.entity.Opening.{Opening}
use Rattle.nm_mime.specs.declared.entity.Part.{Part}
use Rattle.nm_mime.proofs.ChildLemmas.{lines_long}
use Rattle.nm_mime.proofs.PartLemmas.{opening_inside, stretch_long}
use Rattle.nm_mime.proofs.TreeLemmas.{AllWithin, children_within, content_short, same_depth, size_short}

-- ---- all parts are inside the mail
all_under : (size : ℕ) (f : Entity → List Part) → ((entity : Entity) → IsWithin size entity → All (IsInside size) (f entity)) → (entities : List Entity) → AllWithin size entities → All (IsInside size) (flat_map f entities)
all_under size f h [] w = All-nil (IsInside size)
all_under size f h (entity ∷ entities) w = All-append (IsInside size) (f entity) (flat_map f entities) (h entity w.0) (all_under size f h entities w.1)

all_parts : (n : ℕ) (mail : List ℕ) (entity : Entity) → IsWithin (length mail) entity → All (IsInside (length mail)) (parts_upto n mail entity)
all_parts zero mail entity w = All-nil (IsInside (length mail))
all_parts (suc n) mail entity w =
    let children : List Entity = children_of mail (opening_of mail entity) in
    All-cons (IsInside (length mail)) (opening_of mail entity).part (flat_map (parts_upto n mail) children) (opening_inside mail entity w) (all_under (length mail) (parts_upto n mail) (all_parts n mail) children (children_within mail entity w))

pub whole_within : (mail : List ℕ) → IsWithin (length mail) (whole_of mail)
whole_within mail = record { rises = omega arith; ends = omega arith; depth = omega arith }

pub parts_inside : (mail : List ℕ) → All (IsInside (length mail)) (parts_of mail)
unfolding parts_of
parts_inside mail = all_parts 33 mail (whole_of mail) (whole_within mail)

-- ---- the parts in a part come one after the other
apart_less : (low from to : ℕ) (spans : List Span) → low ≤ from → AreApart from to spans → AreApart low to spans
apart_less low from to [] h a = omega arith
apart_less low from to (s ∷ spans) h a = let first = a.0 in (omega arith, a.1, a.2)

-- a line before others: `size` bytes of it and of them belong to the part that begins with it
turn_apart : (end len less size more : ℕ) (delimiter closing : Bool) (rest : List Span) → len ≤ end → less ≤ len → size ≤ len - less + more → more ≤ less → AreApart (end - less + more) end rest → AreApart (end - len + cond (delimiter || closing) 0 size) end (cond closing [] (cond delimiter (record { from = end - less; to = end - less + more } ∷ []) [] ++ rest))
turn_apart end len less size more true true rest h i j k a = omega arith
turn_apart end len less size more false true rest h i j k a = omega arith
turn_apart end len less size more true false rest h i j k a = (omega arith, omega arith, a)
turn_apart end len less size more false false rest h i j k a = apart_less (end - len + size) (end - less + more) end rest (omega arith) a

-- they come after the part that begins with the lines
lines_apart : (delimiters : Delimiters) (end : ℕ) (lines : List (List ℕ)) → length (concat lines) ≤ end → AreApart (end - length (concat lines) + part_len delimiters lines) end (spans_in delimiters end lines)
lines_apart delimiters end [] h = omega arith
lines_apart delimiters end (line ∷ more) h =
    let long : length (line ++ concat more) ≡ length line + length (concat more) = length-append line (concat more) in
    let short = content_short line in
    let small = size_short delimiters more in
    let size : cond (stops delimiters more) (length (content line)) (length line + part_len delimiters more) ≤ length (line ++ concat more) - length (concat more) + part_len delimiters more =
    elim (stops delimiters more) as (λ v. cond v (length (content line)) (length line + part_len delimiters more) ≤ length (line ++ concat more) - length (concat more) + part_len delimiters more) [ true ↦ omega arith | false ↦ omega arith ] in
    turn_apart end (length (line ++ concat more)) (length (concat more)) (cond (stops delimiters more) (length (content line)) (length line + part_len delimiters more)) (part_len delimiters more) (is_line_of delimiters.delimiter line) (is_line_of delimiters.closing line) (spans_in delimiters end more) h (omega arith) size small (lines_apart delimiters end more (omega arith))

spans_apart : (delimiters : Delimiters) (end : ℕ) (bytes : List ℕ) → length bytes ≤ end → AreApart (end - length bytes) end (spans_of delimiters end bytes)
unfolding spans_of
spans_apart delimiters end bytes h =
    let long = lines_long bytes in
    apart_less (end - length bytes) (end - length (concat (lines_of bytes)) + part_len delimiters (lines_of bytes)) end (spans_in delimiters end (lines_of bytes)) (omega arith) (lines_apart delimiters end (lines_of bytes) (omega arith))

pub inside_apart : (mail : List ℕ) (opening : Opening) → IsInside (length mail) opening.part → AreApart opening.part.from opening.part.to (inside mail opening)
inside_apart mail opening i =
    let from : ℕ = opening.part.from in
    let to : ℕ = opening.part.to in
    let rises = i.rises in
    let bytes : List ℕ = bytes_in mail from to in
    let long : length bytes ≡ to - from = stretch_long mail from to i.rises i.ends in
    elim (is_multipart opening.part.kind) as (λ v. AreApart from to (cond v (spans_of (delimiters_of opening.boundary) to bytes) (record { from = from; to = to } ∷ []))) [
      | true ↦ apart_less from (to - length bytes) to (spans_of (delimiters_of opening.boundary) to bytes) (omega arith) (spans_apart (delimiters_of opening.boundary) to bytes (omega arith))
      | false ↦ (omega arith, omega arith, omega arith)
    ]

-- ---- a part comes before those in it
down_less : (low most : ℕ) (parts : List Part) → low ≤ most → GoDown low parts → GoDown most parts
down_less low most [] h g = refl
down_less low most (part ∷ parts) h g = let first = g.0 in (omega arith, g.1)

abbrev Deep : ℕ → List Part → Type 0
Deep least [] = Unit {0}
Deep least (part ∷ more) = (least ≤ part.depth) × Deep least more

deep_less : (low least : ℕ) (parts : List Part) → low ≤ least → Deep least parts → Deep low parts
deep_less low least [] h d = tt
deep_less low least (part ∷ parts) h d = let first = d.0 in (omega arith, deep_less low least parts h d.1)

deep-append : (least : ℕ) (xs ys : List Part) → Deep least xs → Deep least ys → Deep least (xs ++ ys)
deep-append least [] ys a b = b
deep-append least (part ∷ xs) ys a b = (a.0, deep-append least xs ys a.1 b)

down-append : (least most : ℕ) (xs ys : List Part) → least ≤ most → Deep least xs → GoDown most xs → GoDown least ys → GoDown most (xs ++ ys)
down-append least most [] ys h d g i = down_less least most ys h i
down-append least most (part ∷ xs) ys h d g i = let first = d.0 in (g.0, down-append least (part.depth + 1) xs ys (omega arith) d.1 g.1 i)

down_under : (f : Entity → List Part) → ((entity : Entity) → GoDown entity.depth (f entity) × Deep entity.depth (f entity)) → (part : Part) (n : ℕ) (spans : List Span) → GoDown (part.depth + 1) (flat_map f (entities_from part n spans)) × Deep (part.depth + 1) (flat_map f (entities_from part n spans))
down_under f h part n [] = (refl, tt)
down_under f h part n (s ∷ spans) =
    let first = h (entity_in part n s) in
    let rest = down_under f h part (n + 1) spans in
    let parts : List Part = flat_map f (entities_from part (n + 1) spans) in
    (down-append (part.depth + 1) (part.depth + 1) (f (entity_in part n s)) parts (omega arith) first.1 first.0 rest.0, deep-append (part.depth + 1) (f (entity_in part n s)) parts first.1 rest.1)

down_children : (f : Entity → List Part) → ((entity : Entity) → GoDown entity.depth (f entity) × Deep entity.depth (f entity)) → (mail : List ℕ) (opening : Opening) → GoDown (opening.part.depth + 1) (flat_map f (children_of mail opening)) × Deep (opening.part.depth + 1) (flat_map f (children_of mail opening))
unfolding children_of
down_children f h mail opening =
    elim (is_opened opening.part.role) as (λ v. GoDown (opening.part.depth + 1) (flat_map f (cond v (entities_from opening.part 0 (inside mail opening)) [])) × Deep (opening.part.depth + 1) (flat_map f (cond v (entities_from opening.part 0 (inside mail opening)) []))) [
      | true ↦ down_under f h opening.part 0 (inside mail opening)
      | false ↦ (refl, tt)
    ]

down_parts : (n : ℕ) (mail : List ℕ) (entity : Entity) → GoDown entity.depth (parts_upto n mail entity) × Deep entity.depth (parts_upto n mail entity)
down_parts zero mail entity = (refl, tt)
down_parts (suc n) mail entity =
    let opening : Opening = opening_of mail entity in
    let level : opening.part.depth ≡ entity.depth = same_depth mail entity in
    let rest = down_children (parts_upto n mail) (down_parts n mail) mail opening in
    ((omega arith, rest.0), (omega arith, deep_less entity.depth (opening.part.depth + 1) (flat_map (parts_upto n mail) (children_of mail opening)) (omega arith) rest.1))

pub parts_down : (mail : List ℕ) → GoDown 0 (parts_of mail)
unfolding parts_of
parts_down mail = (down_parts 33 mail (whole_of mail)).0
