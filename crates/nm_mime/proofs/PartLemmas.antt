-- One part: what its fields say, and where it is.
-- For the proofs of `open_part`, `opening_from` and `read_opening`.
use Rattle.std.proofs.Common.{◌≡◌, ℕ, ◌+◌, ◌-◌, ◌≤◌, Bool, true, false, cond, List, [], ◌∷◌, ◌++◌, Option, length, drop, refl, ap, subst, ◌∙◌, arith, length-drop, length-append, codes}
use Rattle.std.specs.List.{concat}
use Rattle.std.proofs.lemmas.List.{length-take-le}
use Rattle.nm_text.specs.Cuts.{len_through}
use Rattle.nm_header.specs.Fields.{header_of}
use Rattle.nm_header.specs.HeaderLines.{is_empty_line, rest_of}
use Rattle.nm_text.specs.Lines.{lines_of}
use Rattle.nm_header.specs.declared.header.HeaderList.{HeaderList}
use Rattle.nm_mime.specs.Params.{value_of}
use Rattle.nm_mime.specs.Parts.{IsInside, IsWithin, boundary_of, bytes_in, opening_from, opening_in, opening_of}
use Rattle.nm_mime.specs.Roles.{filename_of, is_attachment, role_of}
use Rattle.nm_mime.specs.declared.entity.Entity.{Entity}
use Rattle.nm_mime.specs.declared.entity.Opening.{Opening}
use Rattle.nm_mime.specs.declared.param_list.Param.{Param}
use Rattle.nm_mime.specs.declared.roles.Encoding.{Encoding}
use Rattle.nm_mime.specs.declared.roles.Role.{Role}
use Rattle.nm_mime.specs.declared.types.ContentType.{ContentType}
use Rattle.nm_mime.proofs.ChildLemmas.{lines_long}

abbrev made : Entity → ℕ → Encoding → List ℕ → List ℕ → Bool → Option (List ℕ) → Role → List ℕ → Opening
made entity rest encoding kind charset attached filename role boundary = record {
  part = record { depth = entity.depth; kind = kind; charset = charset; encoding = encoding; attached = attached; filename = filename; role = role; from = entity.from + rest; to = entity.to };
  boundary = boundary;
}

pub opening_made : (entity : Entity) (rest : ℕ) (type : ContentType) (disposition : List ℕ) (encoding : Encoding) (params : List Param) (kind charset boundary kind_text boundary_text : List ℕ) (attached : Bool) (filename : Option (List ℕ)) (role : Role) → params ≡ type.params → kind ≡ type.kind → charset ≡ value_of params (codes "charset") → boundary ≡ value_of params (codes "boundary") → kind_text ≡ kind → boundary_text ≡ boundary → attached ≡ is_attachment disposition → filename ≡ filename_of disposition params → role ≡ role_of attached entity.signature entity.depth kind_text boundary_text encoding → made entity rest encoding kind charset attached filename role boundary ≡ opening_from entity rest type disposition encoding
opening_made entity rest type disposition encoding params kind charset boundary kind_text boundary_text attached filename role ep ek ec eb ekt ebt ea ef er =
    let c : charset ≡ value_of type.params (codes "charset") = ec ∙ ap (λ p. value_of p (codes "charset")) ep in
    let b : boundary ≡ boundary_of type = eb ∙ ap (λ p. value_of p (codes "boundary")) ep in
    let f : filename ≡ filename_of disposition type.params = ef ∙ ap (filename_of disposition) ep in
    let r : role ≡ role_of (is_attachment disposition) entity.signature entity.depth type.kind (boundary_of type) encoding =
    er ∙ ap (λ x. role_of x entity.signature entity.depth kind_text boundary_text encoding) ea ∙ ap (λ x. role_of (is_attachment disposition) entity.signature entity.depth x boundary_text encoding) (ekt ∙ ek) ∙ ap (λ x. role_of (is_attachment disposition) entity.signature entity.depth type.kind x encoding) (ebt ∙ b) in
    ap (λ x. made entity rest encoding x charset attached filename role boundary) ek ∙ ap (λ x. made entity rest encoding type.kind x attached filename role boundary) c ∙ ap (λ x. made entity rest encoding type.kind (value_of type.params (codes "charset")) x filename role boundary) ea ∙ ap (λ x. made entity rest encoding type.kind (value_of type.params (codes "charset")) (is_attachment disposition) x role boundary) f ∙ ap (λ x. made entity rest encoding type.kind (value_of type.params (codes "charset")) (is_attachment disposition) (filename_of disposition type.params) x boundary) r ∙ ap (λ x. made entity rest encoding type.kind (value_of type.params (codes "charset")) (is_attachment disposition) (filename_of disposition type.params) (role_of (is_attachment disposition) entity.signature entity.depth type.kind (boundary_of type) encoding) x) b

-- ---- where the content begins
through_short : (test : List ℕ → Bool) (lines : List (List ℕ)) → len_through test lines ≤ length (concat lines)
through_short test [] = omega arith
through_short test (line ∷ lines) =
    let more = through_short test lines in
    let long : length (line ++ concat lines) ≡ length line + length (concat lines) = length-append line (concat lines) in
    elim (test line) as (λ v. cond v (length line) (length line + len_through test lines) ≤ length (line ++ concat lines)) [ true ↦ omega arith | false ↦ omega arith ]

pub rest_short : (bytes : List ℕ) → rest_of bytes ≤ length bytes
rest_short bytes = subst (λ n. rest_of bytes ≤ n) (lines_long bytes) (through_short is_empty_line (lines_of bytes))

pub stretch_long : (mail : List ℕ) (from to : ℕ) → from ≤ to → to ≤ length mail → length (bytes_in mail from to) ≡ to - from
stretch_long mail from to h k =
    let left : length (drop from mail) ≡ length mail - from = length-drop from mail in
    length-take-le (to - from) (drop from mail) (omega arith)

pub content_long : (mail bytes : List ℕ) (from to : ℕ) → from ≤ to → to ≤ length mail → bytes ≡ bytes_in mail from to → length bytes ≤ to
content_long mail bytes from to h k e = let long : length bytes ≡ to - from = ap length e ∙ stretch_long mail from to h k in omega arith

pub rest_inside : (mail : List ℕ) (entity : Entity) (span : List ℕ) (header : HeaderList) → IsWithin (length mail) entity → span ≡ bytes_in mail entity.from entity.to → header ≡ header_of span → entity.from + header.rest ≤ entity.to
rest_inside mail entity span header w s h =
    let rises = w.rises in
    let ends = w.ends in
    let long : length span ≡ entity.to - entity.from = ap length s ∙ stretch_long mail entity.from entity.to w.rises w.ends in
    let short = rest_short span in
    let same : header.rest ≡ rest_of span = ap (λ x. x.rest) h in
    omega arith

pub opening_is : (mail : List ℕ) (entity : Entity) (span : List ℕ) (header : HeaderList) → span ≡ bytes_in mail entity.from entity.to → header ≡ header_of span → opening_in entity header ≡ opening_of mail entity
unfolding opening_of
opening_is mail entity span header s h = ap (opening_in entity) (h ∙ ap header_of s)

-- what is read is inside the mail
pub opening_inside : (mail : List ℕ) (entity : Entity) → IsWithin (length mail) entity → IsInside (length mail) (opening_of mail entity).part
unfolding opening_of
opening_inside mail entity w = record {
  rises = rest_inside mail entity (bytes_in mail entity.from entity.to) (header_of (bytes_in mail entity.from entity.to)) w refl refl;
  ends = w.ends;
  depth = w.depth;
}
