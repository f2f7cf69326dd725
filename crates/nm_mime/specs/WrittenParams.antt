-- Parameters as they are written (RFC 2045, section 5.1): a value in quotes or as it is, and what follows it.
-- Cited by `laws`.
use Rattle.std.specs.Prelude.{ℕ, Bool, true, false, ◌&&◌, ◌||◌, ◌==◌, not, List, [], ◌∷◌, ◌++◌, if◌then◌else◌}
use Rattle.std.specs.List.{list_all, list_any}
use Rattle.nm_base.specs.Bounds.{is_white_space}
use Rattle.nm_text.specs.Cuts.{is_byte}
use Rattle.nm_mime.specs.Laws.{is_name_byte, is_quoted_byte}
use Rattle.nm_mime.specs.declared.param_list.Param.{Param}

-- a parameter, whether its value is written in quotes, and what follows the value up to the next `;`
pub record WrittenParam : Type 0 where
  pub is_quoted : Bool
  pub param : Param
  pub after : List ℕ

-- a value in quotes, or as it is
abbrev pub written_value : Bool → List ℕ → List ℕ
written_value is_quoted value = if is_quoted then 34 ∷ (value ++ 34 ∷ []) else value

-- `; name=value` for each, with what follows it
abbrev pub params_as_written : List WrittenParam → List ℕ
params_as_written [] = []
params_as_written (written ∷ more) = 59 ∷ 32 ∷ (written.param.name ++ 61 ∷ (written_value written.is_quoted written.param.value ++ (written.after ++ params_as_written more)))

-- it has a byte, begins with no `"`, and has no `;` and no white space
abbrev pub is_unquoted : List ℕ → Bool
is_unquoted [] = false
is_unquoted (b ∷ value) = not (b == 34) && list_all (λ v. not (v == 59 || is_white_space v)) (b ∷ value)

-- white space comes first, or there is nothing
abbrev pub begins_white : List ℕ → Bool
begins_white [] = true
begins_white (b ∷ after) = is_white_space b

-- a value that may be written so; after one without quotes white space comes before all else
abbrev pub is_value : WrittenParam → Bool
is_value written = if written.is_quoted then list_all is_quoted_byte written.param.value else is_unquoted written.param.value && begins_white written.after

-- a name and a value that may be written so, with no `;` after them
abbrev pub is_written : WrittenParam → Bool
is_written written = list_all is_name_byte written.param.name && (is_value written && not (list_any (is_byte 59) written.after))
