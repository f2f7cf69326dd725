-- The grammar of commands, a case for each of its rules: which words ask for what, and which word is at fault.
--   command := ("new" | "restore" | "session") options   |   "drill" options number   |   ("count" | "dump") options word*   |   ("search" | "show") options word+
--            |   "tag" options change* "--"? word*
--   options := (flag | name "=" value)* "--"?
--   change := ("+" | "-") tag
-- Cited by `laws` and `nm_log`.
use Rattle.std.specs.Prelude.{◌≡◌, ◌≢◌, ℕ, Bool, true, false, List, [], ◌∷◌, ◌++◌, Some, None, codes}
use Rattle.std.specs.List.{before_first}
use Rattle.nm_base.specs.Tag.{is_tag}
use Rattle.nm_base.specs.declared.refusals.UsageKind.{UsageKind}
use Rattle.nm_base.specs.declared.refusals.UsageKind.TheVariants as kinds
use Rattle.nm_base.specs.declared.tag_op.TagOp.{TagOp}
use Rattle.nm_text.specs.Cuts.{is_byte}
use Rattle.nm_command.specs.Numbers.{drill_count_in, number_in}
use Rattle.nm_command.specs.Options.{begins_with_dashes}
use Rattle.nm_command.specs.Requests.{changes_tags, count_ask, dump_ask, restore_ask, search_ask, show_ask, tag_ask}
use Rattle.nm_command.specs.Settings.{is_given, nothing_set, with_setting}
use Rattle.nm_command.specs.Table.{commands, meaning_of, number_setting, options_of, values_of}
use Rattle.nm_command.specs.TagWords.{has_sign}
use Rattle.nm_command.specs.declared.request.Request.{Request}
use Rattle.nm_command.specs.declared.request.Request.TheVariants as requests
use Rattle.nm_command.specs.declared.settings.Setting.{Setting}
use Rattle.nm_command.specs.declared.settings.Settings.{Settings}
use Rattle.nm_command.specs.declared.table.CommandName.{CommandName}
use Rattle.nm_command.specs.declared.table.CommandName.TheVariants.{Count, Drill, Dump, New, Restore, Search, Session, Show, Tag}
use Rattle.nm_command.specs.declared.table.Form.{Form}
use Rattle.nm_command.specs.declared.table.Form.TheVariants.{Flag, Number, OneOf}
use Rattle.nm_command.specs.declared.table.Numbered.{Numbered}
use Rattle.nm_command.specs.declared.table.Values.{Values}

-- these commands take words after their options
abbrev pub takes_words : CommandName → Bool
takes_words New = false
takes_words Search = true
takes_words Count = true
takes_words Show = true
takes_words Tag = true
takes_words Dump = true
takes_words Restore = false
takes_words Drill = true
takes_words Session = false

-- and these need one, whatever their options
abbrev pub needs_word : CommandName → Bool
needs_word New = false
needs_word Search = true
needs_word Count = false
needs_word Show = true
needs_word Tag = false
needs_word Dump = false
needs_word Restore = false
needs_word Drill = true
needs_word Session = false

-- the word is an option of the command, and sets this
pub data IsOption : CommandName → List ℕ → Setting → Type 0 where
  a_flag : (command : CommandName) (name : List ℕ) (setting : Setting) → meaning_of name (options_of command) ≡ Some (Flag setting) → IsOption command name setting
  one_of : (command : CommandName) (name value : List ℕ) (which : Values) (setting : Setting) → meaning_of name (options_of command) ≡ Some (OneOf which) →
      meaning_of value (values_of which) ≡ Some setting → IsOption command (name ++ 61 ∷ value) setting
  a_number : (command : CommandName) (name digits : List ℕ) (which : Numbered) (number : ℕ) → meaning_of name (options_of command) ≡ Some (Number which) →
      number_in digits ≡ Some number → IsOption command (name ++ 61 ∷ digits) (number_setting which number)

-- the words are options of the command, each once, and others: after some settings they leave the settings and the words that follow
pub data HasOptions : CommandName → Settings → List (List ℕ) → Settings → List (List ℕ) → Type 0 where
  no_words : (command : CommandName) (settings : Settings) → HasOptions command settings [] settings []
  dashes : (command : CommandName) (settings : Settings) (words : List (List ℕ)) → HasOptions command settings (codes "--" ∷ words) settings words
  no_option : (command : CommandName) (settings : Settings) (word : List ℕ) (words : List (List ℕ)) → begins_with_dashes word ≡ false →
      HasOptions command settings (word ∷ words) settings (word ∷ words)
  an_option : (command : CommandName) (settings after : Settings) (setting : Setting) (word : List ℕ) (words rest : List (List ℕ)) → IsOption command word setting →
      is_given settings setting ≡ false → HasOptions command (with_setting settings setting) words after rest → HasOptions command settings (word ∷ words) after rest

-- the word asks for this change of tags
pub data IsChange : List ℕ → TagOp → Type 0 where
  sets_tag : (tag : List ℕ) → is_tag tag ≡ true → IsChange (43 ∷ tag) (record { add = true; tag = tag })
  takes_off : (tag : List ℕ) → is_tag tag ≡ true → IsChange (45 ∷ tag) (record { add = false; tag = tag })

-- the words ask for these changes of tags, in this order, and leave the words of a query
pub data HasChanges : List (List ℕ) → List TagOp → List (List ℕ) → Type 0 where
  nothing_left : HasChanges [] [] []
  query_after_dashes : (query : List (List ℕ)) → HasChanges (codes "--" ∷ query) [] query
  query_at_once : (word : List ℕ) (words : List (List ℕ)) → has_sign word ≡ false → HasChanges (word ∷ words) [] (word ∷ words)
  one_change : (word : List ℕ) (op : TagOp) (words query : List (List ℕ)) (ops : List TagOp) → IsChange word op → HasChanges words ops query →
      HasChanges (word ∷ words) (op ∷ ops) query

-- the words ask for this
pub data IsRequest : List (List ℕ) → Request → Type 0 where
  a_new : (name : List ℕ) (words : List (List ℕ)) (settings : Settings) → meaning_of name commands ≡ Some New → HasOptions New nothing_set words settings [] →
      IsRequest (name ∷ words) requests.New
  a_search : (name word : List ℕ) (words query : List (List ℕ)) (settings : Settings) → meaning_of name commands ≡ Some Search →
      HasOptions Search nothing_set words settings (word ∷ query) → IsRequest (name ∷ words) (requests.Search (search_ask settings (word ∷ query)))
  a_count : (name : List ℕ) (words query : List (List ℕ)) (settings : Settings) → meaning_of name commands ≡ Some Count →
      HasOptions Count nothing_set words settings query → settings.batch ≡ false → IsRequest (name ∷ words) (requests.Count (count_ask settings query))
  a_batch_count : (name : List ℕ) (words : List (List ℕ)) (settings : Settings) → meaning_of name commands ≡ Some Count →
      HasOptions Count nothing_set words settings [] → settings.batch ≡ true → IsRequest (name ∷ words) (requests.Count (count_ask settings []))
  a_show : (name word : List ℕ) (words query : List (List ℕ)) (settings : Settings) → meaning_of name commands ≡ Some Show →
      HasOptions Show nothing_set words settings (word ∷ query) → IsRequest (name ∷ words) (requests.Show (show_ask settings (word ∷ query)))
  a_dump : (name : List ℕ) (words query : List (List ℕ)) (settings : Settings) → meaning_of name commands ≡ Some Dump →
      HasOptions Dump nothing_set words settings query → IsRequest (name ∷ words) (requests.Dump (dump_ask settings query))
  a_tag : (name word : List ℕ) (words rest query : List (List ℕ)) (settings : Settings) (ops : List TagOp) → meaning_of name commands ≡ Some Tag →
      HasOptions Tag nothing_set words settings rest → settings.batch ≡ false → HasChanges rest ops (word ∷ query) → changes_tags settings.clear ops ≡ true →
      IsRequest (name ∷ words) (requests.Tag (tag_ask settings ops (word ∷ query)))
  a_batch_tag : (name : List ℕ) (words rest : List (List ℕ)) (settings : Settings) → meaning_of name commands ≡ Some Tag →
      HasOptions Tag nothing_set words settings rest → settings.batch ≡ true → HasChanges rest [] [] → IsRequest (name ∷ words) (requests.Tag (tag_ask settings [] []))
  a_restore : (name : List ℕ) (words : List (List ℕ)) (settings : Settings) → meaning_of name commands ≡ Some Restore → HasOptions Restore nothing_set words settings [] →
      IsRequest (name ∷ words) (requests.Restore (restore_ask settings))
  a_drill : (name digits : List ℕ) (words : List (List ℕ)) (settings : Settings) (count : ℕ) → meaning_of name commands ≡ Some Drill →
      HasOptions Drill nothing_set words settings (digits ∷ []) → drill_count_in digits ≡ Some count → IsRequest (name ∷ words) (requests.Drill count)
  a_session : (name : List ℕ) (words : List (List ℕ)) (settings : Settings) → meaning_of name commands ≡ Some Session → HasOptions Session nothing_set words settings [] →
      IsRequest (name ∷ words) requests.Session

-- a word with dashes may not be there, for this reason; a bad value is reported before a repetition
pub data IsFault : CommandName → Settings → List ℕ → UsageKind → Type 0 where
  unknown : (command : CommandName) (settings : Settings) (word : List ℕ) → meaning_of (before_first (is_byte 61) word) (options_of command) ≡ None →
      IsFault command settings word kinds.Option
  bad_value : (command : CommandName) (settings : Settings) (word : List ℕ) (form : Form) → meaning_of (before_first (is_byte 61) word) (options_of command) ≡ Some form →
      ((setting : Setting) → ¬ IsOption command word setting) → IsFault command settings word kinds.Value
  repeated : (command : CommandName) (settings : Settings) (setting : Setting) (word : List ℕ) → IsOption command word setting → is_given settings setting ≡ true →
      IsFault command settings word kinds.Repeat

-- after options of the command a word with dashes follows that may not be there
pub data HasFault : CommandName → Settings → List (List ℕ) → List ℕ → UsageKind → Type 0 where
  at_once : (command : CommandName) (settings : Settings) (word : List ℕ) (words : List (List ℕ)) (kind : UsageKind) → begins_with_dashes word ≡ true → word ≢ codes "--" →
      IsFault command settings word kind → HasFault command settings (word ∷ words) word kind
  later : (command : CommandName) (settings : Settings) (setting : Setting) (first word : List ℕ) (words : List (List ℕ)) (kind : UsageKind) → IsOption command first setting →
      is_given settings setting ≡ false → HasFault command (with_setting settings setting) words word kind → HasFault command settings (first ∷ words) word kind

-- of the words of `tag` this one is at fault, for this reason: without `--batch` the first with a sign that asks for no change; with it the first of all
pub data HasTagFault : Bool → List (List ℕ) → List ℕ → UsageKind → Type 0 where
  without_tag : (batch : Bool) (word : List ℕ) (words : List (List ℕ)) → has_sign word ≡ true → word ≢ codes "--" → ((op : TagOp) → ¬ IsChange word op) →
      HasTagFault batch (word ∷ words) word kinds.Tag
  after_change : (first word : List ℕ) (op : TagOp) (words : List (List ℕ)) (kind : UsageKind) → IsChange first op → HasTagFault false words word kind →
      HasTagFault false (first ∷ words) word kind
  a_change_too_many : (word : List ℕ) (op : TagOp) (words : List (List ℕ)) → IsChange word op → HasTagFault true (word ∷ words) word kinds.Clash
  a_query_too_many : (word : List ℕ) (words query : List (List ℕ)) → HasChanges words [] (word ∷ query) → HasTagFault true words word kinds.Clash

-- this word of them is at fault, for this reason
pub data IsRefused : List (List ℕ) → List ℕ → UsageKind → Type 0 where
  no_command : IsRefused [] [] kinds.Command
  unknown_command : (word : List ℕ) (words : List (List ℕ)) → meaning_of word commands ≡ None → IsRefused (word ∷ words) word kinds.Command
  a_fault : (command : CommandName) (name word : List ℕ) (words : List (List ℕ)) (kind : UsageKind) → meaning_of name commands ≡ Some command →
      HasFault command nothing_set words word kind → IsRefused (name ∷ words) word kind
  no_word : (command : CommandName) (name : List ℕ) (words : List (List ℕ)) (settings : Settings) → meaning_of name commands ≡ Some command → needs_word command ≡ true →
      HasOptions command nothing_set words settings [] → IsRefused (name ∷ words) [] kinds.Missing
  a_word_too_many : (command : CommandName) (name word : List ℕ) (words more : List (List ℕ)) (settings : Settings) → meaning_of name commands ≡ Some command →
      takes_words command ≡ false → HasOptions command nothing_set words settings (word ∷ more) → IsRefused (name ∷ words) word kinds.Extra
  a_clash : (name word : List ℕ) (words more : List (List ℕ)) (settings : Settings) → meaning_of name commands ≡ Some Count → settings.batch ≡ true →
      HasOptions Count nothing_set words settings (word ∷ more) → IsRefused (name ∷ words) word kinds.Clash
  a_tag_fault : (name word : List ℕ) (words rest : List (List ℕ)) (settings : Settings) (kind : UsageKind) → meaning_of name commands ≡ Some Tag →
      HasOptions Tag nothing_set words settings rest → HasTagFault settings.batch rest word kind → IsRefused (name ∷ words) word kind
  no_change : (name : List ℕ) (words rest query : List (List ℕ)) (settings : Settings) (ops : List TagOp) → meaning_of name commands ≡ Some Tag →
      HasOptions Tag nothing_set words settings rest → settings.batch ≡ false → HasChanges rest ops query → changes_tags settings.clear ops ≡ false →
      IsRefused (name ∷ words) [] kinds.Missing
  no_tag_query : (name : List ℕ) (words rest : List (List ℕ)) (settings : Settings) (ops : List TagOp) → meaning_of name commands ≡ Some Tag →
      HasOptions Tag nothing_set words settings rest → settings.batch ≡ false → HasChanges rest ops [] → IsRefused (name ∷ words) [] kinds.Missing
  a_bad_count : (name digits : List ℕ) (words more : List (List ℕ)) (settings : Settings) → meaning_of name commands ≡ Some Drill →
      HasOptions Drill nothing_set words settings (digits ∷ more) → drill_count_in digits ≡ None → IsRefused (name ∷ words) digits kinds.Value
  a_word_behind_the_count : (name digits word : List ℕ) (words more : List (List ℕ)) (settings : Settings) (count : ℕ) → meaning_of name commands ≡ Some Drill →
      HasOptions Drill nothing_set words settings (digits ∷ word ∷ more) → drill_count_in digits ≡ Some count → IsRefused (name ∷ words) word kinds.Extra
