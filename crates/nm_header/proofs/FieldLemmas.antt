-- A field's name is ASCII, and so text. For the proof of `name_text`.
use Rattle.std.proofs.Common.{◌≡◌, ℕ, ◌≤◌, true, ◌&&◌, not, List, [], ◌∷◌, length, map, leb, arith, ◌==◌}
use Rattle.std.specs.Prelude.{IsUtf8}
use Rattle.std.specs.Char.{to_ascii_lowercase}
use Rattle.std.specs.List.{list_all, list_any}
use Rattle.std.specs.Str.{IsAscii}
use Rattle.std.proofs.lemmas.Bool.{and_parts, leb-true}
use Rattle.std.proofs.lemmas.Str.{IsUtf8-from_ascii}
use Rattle.std.proofs.lemmas.Str.Ascii.{IsAscii-cons, IsAscii-map, IsAscii-nil, lowercase_ascii}
use Rattle.nm_text.specs.WhiteSpace.{is_printable}
use Rattle.nm_header.specs.Fields.{begins_field, continues, is_name, name_of}
use Rattle.nm_text.specs.Lines.{content}
use Rattle.nm_text.specs.Cuts.{is_byte}

ascii_name : (name : List ℕ) → list_all is_printable name ≡ true → IsAscii name
ascii_name [] e = IsAscii-nil
ascii_name (b ∷ name) e =
    let least : b ≤ 126 = leb-true b 126 (and_parts (leb 33 b) (leb b 126) (and_parts (is_printable b) (list_all is_printable name) e).0).1 in
    IsAscii-cons b name (omega arith) (ascii_name name (and_parts (is_printable b) (list_all is_printable name) e).1)

pub name_utf8 : (line : List ℕ) → begins_field line ≡ true → IsUtf8 (map to_ascii_lowercase (name_of line))
name_utf8 line e =
    let name : is_name (name_of line) ≡ true = (and_parts (list_any (is_byte 58) (content line)) (is_name (name_of line)) (and_parts (not (continues line)) (list_any (is_byte 58) (content line) && is_name (name_of line)) e).1).1 in
    let all : list_all is_printable (name_of line) ≡ true = (and_parts (not (length (name_of line) == 0)) (list_all is_printable (name_of line)) name).1 in
    IsUtf8-from_ascii _ (IsAscii-map to_ascii_lowercase (name_of line) lowercase_ascii (ascii_name (name_of line) all))
