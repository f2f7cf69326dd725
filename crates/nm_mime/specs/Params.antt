-- Parameters of a header field (RFC 2045, section 5.1), read generously: `;name=value`, the value a run or a quoted string.
-- Cited by `param_list` and `types`.
use Rattle.std.specs.Prelude.{ℕ, zero, suc, Bool, ◌||◌, ◌==◌, List, [], ◌∷◌, ◌++◌, Option, length, map, take, drop, find, unwrap_or, if◌then◌else◌}
use Rattle.std.specs.Char.{to_ascii_lowercase}
use Rattle.std.specs.List.{after_first, before_first, list_any, position_or_len}
use Rattle.std.specs.Option.{option_map}
use Rattle.std.specs.Str.{bytes_eq}
use Rattle.nm_base.specs.Bounds.{is_white_space}
use Rattle.nm_text.specs.QuotedStrings.{quoted_len, unquoted}
use Rattle.nm_text.specs.WhiteSpace.{trimmed, trimmed_start}
use Rattle.nm_mime.specs.declared.param_list.Param.{Param}
use Rattle.nm_text.specs.Cuts.{is_byte}

-- `=` or `;`
abbrev pub ends_name : ℕ → Bool
ends_name b = b == 61 || b == 59

-- `;` or white space
abbrev pub ends_value : ℕ → Bool
ends_value b = b == 59 || is_white_space b

-- what a quoted string says after its `"`: up to the next `"`, or to the end; a `\` takes the next byte as it is
abbrev pub quoted_text : List ℕ → List ℕ
quoted_text text = unquoted (take (quoted_len text) text)

-- what comes after it
abbrev pub after_quoted : List ℕ → List ℕ
after_quoted text = drop (quoted_len text) text

-- what the value says with which a text begins
abbrev pub value_in : List ℕ → List ℕ
value_in [] = []
value_in (b ∷ more) = if b == 34 then quoted_text more else before_first ends_value (b ∷ more)

-- what comes after its quoted string, if it is one
abbrev pub after_value : List ℕ → List ℕ
after_value [] = []
after_value (b ∷ more) = if b == 34 then after_quoted more else b ∷ more

-- names have no case; one with a `*` is passed over
abbrev pub kept_param : List ℕ → List ℕ → List Param
kept_param name value =
    if list_any (is_byte 42) name then [] else record { name = map to_ascii_lowercase (trimmed name); value = value } ∷ []

-- the parameter of a name after which this comes: there is none where no `=` follows it
abbrev pub param_from : List ℕ → List ℕ → List Param
param_from name [] = []
param_from name (special ∷ more) = if special == 61 then kept_param name (value_in (trimmed_start more)) else []

-- what comes after the name's value, if it has one
abbrev pub after_name : List ℕ → List ℕ
after_name [] = []
after_name (special ∷ more) = if special == 61 then after_value (trimmed_start more) else special ∷ more

-- the parameter with which a text begins that comes after a `;`
abbrev pub param_in : List ℕ → List Param
param_in text = param_from (before_first ends_name text) (drop (position_or_len ends_name text) text)

-- what comes after the `;` that ends it
abbrev pub after_param : List ℕ → List ℕ
after_param text = after_first (is_byte 59) (after_name (drop (position_or_len ends_name text) text))

-- the first n parameters
abbrev pub params_upto : ℕ → List ℕ → List Param
params_upto zero text = []
params_upto (suc n) text = param_in text ++ params_upto n (after_param text)

-- all: there are no more than the text has bytes
unfoldable pub params_in : List ℕ → List Param
params_in text = params_upto (length text) text

-- the parameters in a field's text: after its first `;`
abbrev pub params_of : List ℕ → List Param
params_of text = params_in (after_first (is_byte 59) text)

-- the parameter has this name
abbrev pub is_param : List ℕ → Param → Bool
is_param name param = bytes_eq param.name name

-- the value of the first parameter with this name, which is in lower case
abbrev pub param_of : List Param → List ℕ → Option (List ℕ)
param_of params name = option_map (λ param. param.value) (find (is_param name) params)

-- that value, or nothing
abbrev pub value_of : List Param → List ℕ → List ℕ
value_of params name = unwrap_or (param_of params name) []
