-- What the reader of JSON has read: the parts that remain, and the values so far.
use Rattle.std.specs.Prelude.{◌≡◌, ◌≢◌, ℕ, ◌+◌, ◌-◌, ◌<◌, ◌≤◌, ◌⊎◌, if◌then◌else◌, Bool, true, false, List, [], ◌∷◌, ◌++◌, length, take, drop, map, slice_index, Option, Some, None, option_map, option_and_then, Result, MatchResult, String, string_bytes}
use Rattle.std.specs.Char.{encode_utf8}
use Rattle.std.specs.List.{prefix_len}
use Rattle.nix_values.specs.JsonEscapes.{is_plain}
use Rattle.nix_values.specs.declared.data.Data.{Data}
use Rattle.nix_values.specs.declared.json_error.JsonReason.{JsonReason}
use Rattle.nix_values.specs.declared.json_error.JsonReason.TheVariants.{NoValue, NoName, NoColon, NoCommaInList, NoCommaInObject, AfterValue, Repeated}
use Rattle.nix_values.specs.declared.json_error.JsonError.{JsonError}
use Rattle.nix_values.specs.declared.json_error.JsonStop.{JsonStop}
use Rattle.nix_values.specs.declared.json_error.JsonStop.TheVariants.{Memory, Refused}
use Rattle.nix_values.specs.declared.json_tokens.Token.{Token as Found}
use Rattle.nix_values.specs.declared.json_tokens.Token.TheVariants as kind
use Rattle.nix_values.specs.declared.json_tokens.Cut.{Cut}
use Rattle.nix_values.specs.declared.json_reader.State.{State}
use Rattle.nix_values.specs.declared.json_reader.State.TheVariants as state
use Rattle.nix_values.specs.declared.json_reader.Frame.{Frame}
use Rattle.nix_values.specs.declared.json_reader.Reading.{Reading}
use Rattle.nix_values.specs.Contents.{Plain, list, set, plain_of, Entry, entry_of, contents}
use Rattle.nix_values.specs.JsonContent.{escape_at}
use Rattle.nix_values.specs.Json.{Token, opening, closing, comma, colon, string, scalar, word_at, Part, value, first_item, more_items, first_member, more_members, member, named, entry, in_front, parts_from, values_of, json_values, IsJson}
use Rattle.nix_values.specs.JsonErrors.{error_at, expected, unfitting, token_error, json_error}
use Rattle.nix_values.specs.JsonNames.{IsTokenAt, IsReadTo, IsNameAt, IsJsonError}
use Rattle.nix_values.specs.RepeatedNames.{entry_keys, HasRepeatedName, HasDistinctNames}
use Rattle.nix_values.specs.FoundKeys.{found_keys, offset_of}
use Rattle.nix_values.specs.JsonLocations.{last_frame, set_of, in_set, IsPlaced}

-- a part of a text ends after an ASCII byte
abbrev pub EndsAscii : List ℕ → ℕ → Type 0
EndsAscii text end = (0 < end) × (end ≤ length text) × (slice_index text (end - 1) < 128)

-- the result is what is found, or an error if nothing is found
abbrev pub Finds : {T E : Type 0} → Result T E → Option T → Type 0
Finds r wanted = MatchResult r (λ x. wanted ≡ Some x) (λ e. wanted ≡ None)

-- what a refusal says about a text; one for lack of memory says nothing
abbrev pub IfRefused : JsonStop → Type 0 → Type 0
IfRefused Memory none = Unit {0}
IfRefused (Refused error) none = none

-- a refusal is for this error, or for lack of memory
abbrev pub IsRefusal : JsonStop → JsonError → Type 0
IsRefusal Memory wanted = Unit {0}
IsRefusal (Refused error) wanted = error ≡ wanted

abbrev pub RefusesWith : {T : Type 0} → Result T JsonStop → JsonError → Type 0
RefusesWith r wanted = MatchResult r (λ x. Unit {0}) (λ stop. IsRefusal stop wanted)

-- something was read, or there is nothing to read
abbrev pub Reads : {T : Type 0} → Result T JsonStop → (T → Type 0) → Type 0 → Type 0
Reads r read none = MatchResult r read (λ stop. IfRefused stop none)

-- the leading bytes that need no escape are copied, and `rest` follows them
abbrev pub IsRun : List ℕ → List ℕ → List ℕ → List ℕ → Type 0
IsRun old text new rest = (rest ≡ drop (prefix_len is_plain text) text) × (new ≡ old ++ take (prefix_len is_plain text) text)

-- an escape is read: its character is written, and `rest` follows it
abbrev pub IsEscape : List ℕ → List ℕ → List ℕ → List ℕ → Type 0
IsEscape old text new rest =
    (c : ℕ) × (n : ℕ) × (escape_at text ≡ Some (c, n)) × (n ≤ length text) × (new ≡ old ++ encode_utf8 c) × (rest ≡ drop n text)

-- ---- tokens

-- the JSON token that the reader found, if it found one
abbrev pub token_of : Found → Option Token
token_of (kind.Open is_set) = Some (opening is_set)
token_of (kind.Close is_set) = Some (closing is_set)
token_of kind.Comma = Some comma
token_of kind.Colon = Some colon
token_of (kind.Text t) = Some (string (string_bytes t))
token_of (kind.Scalar v) = Some (scalar (plain_of v))
token_of kind.Other = None

-- if the reader found no token, the error at the offset names what is missing
abbrev pub MissesIfOther : Found → List ℕ → ℕ → Type 0
MissesIfOther token text at =
    token_of token ≡ None → (parts : List Part) → token_error parts at (slice_index text at) (drop (at + 1) text) ≡ error_at (expected parts) at

-- a text begins with this keyword, or with none
abbrev pub IsWord : List ℕ → Found → ℕ → Type 0
IsWord bytes token len =
    (word_at bytes ≡ option_map (λ t. (t, len)) (token_of token)) × (0 < len) × (0 < length bytes → len ≤ length bytes)

-- the token at an offset, if there is one
abbrev pub IsCutOf : Option (Token × ℕ) → List ℕ → ℕ → Cut → Type 0
IsCutOf wanted text at cut =
    (wanted ≡ option_map (λ t. (t, cut.end - at)) (token_of cut.token)) × (at < cut.end) × (cut.end ≤ length text)

-- the token at an offset is read, or there is none
abbrev pub ReadsCut : Result Cut JsonStop → Option (Token × ℕ) → List ℕ → ℕ → Type 0
ReadsCut r wanted text at = Reads r (IsCutOf wanted text at) (wanted ≡ None)

-- ---- parts

-- what may follow a value in an open list or set
abbrev pub more_of : Bool → ℕ → Part
more_of true depth = more_members depth
more_of false depth = more_items depth

-- what may follow a value in the open lists and sets, innermost first
abbrev pub rest_from : ℕ → List Frame → List Part → List Part
rest_from depth [] parts = parts
rest_from depth (f ∷ fs) parts = rest_from (depth + 1) fs (more_of f.is_set (depth + 1) ∷ parts)

abbrev pub rest_of : List Frame → List Part
rest_of frames = rest_from 0 frames []

-- the name of the next value
abbrev pub name_of : {Z : Type 0} → Option (String Z × ℕ) → List ℕ
name_of None = []
name_of (Some n) = string_bytes n.0

-- the parts that remain
abbrev pub parts_in : State → List Frame → List ℕ → List Part
parts_in state.Value frames name = value (length frames) name ∷ rest_of frames
parts_in state.ValueOrClose frames name = first_item (length frames) ∷ drop 1 (rest_of frames)
parts_in state.Name frames name = member (length frames) ∷ drop 1 (rest_of frames)
parts_in state.NameOrClose frames name = first_member (length frames) ∷ drop 1 (rest_of frames)
parts_in state.Colon frames name = named (length frames) name ∷ rest_of frames
parts_in state.CommaOrClose frames name = rest_of frames
parts_in state.End frames name = rest_of frames

abbrev pub parts_remaining : Reading → List Part
parts_remaining r = parts_in r.state r.frames.items (name_of r.name)

-- the innermost open list or set is a set if `is_set`, and otherwise a list
abbrev pub IsInside : Bool → List Frame → Type 0
IsInside is_set frames = rest_of frames ≡ more_of is_set (length frames) ∷ drop 1 (rest_of frames)

-- a state fits the open lists and sets, and the name that is known
abbrev pub IsState : State → List Frame → List ℕ → Type 0
IsState state.Value frames name = Unit {0}
IsState state.ValueOrClose frames name = IsInside false frames × (name ≡ [])
IsState state.Name frames name = IsInside true frames × (name ≡ [])
IsState state.NameOrClose frames name = IsInside true frames × (name ≡ [])
IsState state.Colon frames name = Unit {0}
IsState state.CommaOrClose frames name = (0 < length frames) × (name ≡ [])
IsState state.End frames name = (frames ≡ []) × (name ≡ [])

abbrev pub IsSound : Reading → Type 0
IsSound r = IsState r.state r.frames.items (name_of r.name)

-- the values so far
abbrev pub entries_in : Reading → List Entry
entries_in r = map entry_of r.found.items.items

-- the attributes that have been read are found
abbrev pub IsPlacedIn : Reading → Type 0
IsPlacedIn r = IsPlaced r.found r.attributes r.frames.items

-- a value is the attribute with a name in the innermost list or set
abbrev pub IsTaken : Reading → ℕ → List ℕ → Type 0
IsTaken r number name = (frame : Frame) × (last_frame r.frames.items ≡ Some frame) × (found_keys r.found number ≡ Some (frame.node, name))

-- the innermost set has no value with a name
abbrev pub IsNotTaken : Reading → List ℕ → Type 0
IsNotTaken r name = (frame : Frame) (number : ℕ) → last_frame r.frames.items ≡ Some frame → found_keys r.found number ≡ Some (frame.node, name) → ⊥

-- no value is the attribute that a value with this name would be
abbrev pub IsFree : Reading → List ℕ → Type 0
IsFree r name = (number : ℕ) (key : ℕ × List ℕ) → in_set (set_of (last_frame r.frames.items)) name ≡ Some key → entry_keys (entries_in r) number ≡ Some key → ⊥

-- this holds for the known name, if a value comes next, possibly after a colon
abbrev pub IsNextFree : State → Reading → Type 0
IsNextFree state.Value r = IsFree r (name_of r.name)
IsNextFree state.ValueOrClose r = IsFree r (name_of r.name)
IsNextFree state.Colon r = IsFree r (name_of r.name)
IsNextFree _ r = Unit {0}

-- no set has two values with the same name, and the next value will not repeat one
pub record IsDistinct (r : Reading) : Type 0 where
  pub distinct : HasDistinctNames (entries_in r)
  pub free : IsNextFree r.state r

-- whether a value may come next, or a name
abbrev pub is_value_next : State → Bool
is_value_next state.Value = true
is_value_next state.ValueOrClose = true
is_value_next _ = false

abbrev pub is_name_next : State → Bool
is_name_next state.Name = true
is_name_next state.NameOrClose = true
is_name_next _ = false

-- whether the end of the innermost list or set may come next
abbrev pub is_close_next : State → Bool
is_close_next state.ValueOrClose = true
is_close_next state.NameOrClose = true
is_close_next state.CommaOrClose = true
is_close_next _ = false

-- whether a comma may come next; whether a colon may; whether the end of the text may
abbrev pub is_comma_next : State → Bool
is_comma_next state.CommaOrClose = true
is_comma_next _ = false

abbrev pub is_colon_next : State → Bool
is_colon_next state.Colon = true
is_colon_next _ = false

abbrev pub is_end : State → Bool
is_end state.End = true
is_end _ = false

-- what is missing after a value in the innermost list or set
abbrev pub comma_reason : Option Frame → JsonReason
comma_reason None = NoCommaInList
comma_reason (Some frame) = if frame.is_set then NoCommaInObject else NoCommaInList

-- what is missing if a token does not fit
abbrev pub reason_in : State → List Frame → JsonReason
reason_in state.Value frames = NoValue
reason_in state.ValueOrClose frames = NoValue
reason_in state.Name frames = NoName
reason_in state.NameOrClose frames = NoName
reason_in state.Colon frames = NoColon
reason_in state.CommaOrClose frames = comma_reason (last_frame frames)
reason_in state.End frames = AfterValue

-- the state after a value
abbrev pub state_behind : List Frame → State
state_behind [] = state.End
state_behind (f ∷ fs) = state.CommaOrClose

-- the value that an opening bracket begins, and what comes next inside it
abbrev pub opened_plain : Bool → Plain
opened_plain true = set
opened_plain false = list

abbrev pub opened : Bool → State
opened true = state.NameOrClose
opened false = state.ValueOrClose

-- nothing has been read
pub record IsBegun (r : Reading) : Type 0 where
  pub is_state : r.state ≡ state.Value
  pub no_name : name_of r.name ≡ []
  pub no_frames : r.frames.items ≡ []
  pub no_entries : entries_in r ≡ []

-- a value is added
pub record IsAdded (old : Reading) (plain : Plain) (new : Reading) : Type 0 where
  pub entries : entries_in new ≡ entries_in old ++ entry (length old.frames.items) (name_of old.name) plain
  pub frames : new.frames.items ≡ old.frames.items
  pub no_name : name_of new.name ≡ []

-- the offset of the next value: that of its name, if it has one
abbrev pub next_offset : {Z : Type 0} → Option (String Z × ℕ) → ℕ → ℕ
next_offset None at = at
next_offset (Some n) at = n.1

-- the next value has a name, which begins in a set at its offset, and this precedes another offset
abbrev pub IsNamed : {Z : Type 0} → List ℕ → ℕ → ℕ → Option (String Z × ℕ) → Type 0
IsNamed text at s None = ⊥
IsNamed text at s (Some n) = (n.1 < at) × IsNameAt text n.1 s (string_bytes n.0)

-- this holds for the name of the next value, if that value is an attribute
abbrev pub HasNextName : List ℕ → ℕ → Reading → Type 0
HasNextName text at r = (s : ℕ) → set_of (last_frame r.frames.items) ≡ Some s → IsNamed text at s r.name

abbrev pub IsNextLocated : State → List ℕ → ℕ → Reading → Type 0
IsNextLocated state.Value text at r = HasNextName text at r
IsNextLocated state.Colon text at r = HasNextName text at r
IsNextLocated _ text at r = Unit {0}

-- the names of all attributes so far begin at their offsets, which precede another one
pub record IsLocated (text : List ℕ) (at : ℕ) (r : Reading) : Type 0 where
  pub found : (number s offset : ℕ) (name : List ℕ) → found_keys r.found number ≡ Some (s, name) → offset_of r.found number ≡ Some offset →
      (offset < at) × IsNameAt text offset s name
  pub next : IsNextLocated r.state text at r

-- a string begins at an offset, if the token is a string
abbrev pub IsStringAt : List ℕ → ℕ → Token → ℕ → Type 0
IsStringAt text at (string name) len = IsTokenAt text at (string name) len
IsStringAt text at _ len = Unit {0}

-- after a token at an offset, the names still begin at their offsets
abbrev pub KeepsLocated : Reading → Token → ℕ → Reading → Type 0
KeepsLocated old token at new = (text : List ℕ) (len : ℕ) → 0 < len → IsStringAt text at token len → IsReadTo text at (parts_remaining old) (entries_in old) →
    IsLocated text at old → IsLocated text (at + len) new

-- the added value has this offset
pub record AddsLocation (old : Reading) (at : ℕ) (new : Reading) : Type 0 where
  pub key_same : (number : ℕ) → (number ≡ length old.found.items.items → ⊥) → found_keys new.found number ≡ found_keys old.found number
  pub key_new : found_keys new.found (length old.found.items.items) ≡ in_set (set_of (last_frame old.frames.items)) (name_of old.name)
  pub offset_same : (number : ℕ) → (number ≡ length old.found.items.items → ⊥) → offset_of new.found number ≡ offset_of old.found number
  pub offset_new : offset_of new.found (length old.found.items.items) ≡ Some (next_offset old.name at)

-- a token at an offset is accepted
pub record Takes (old : Reading) (token : Token) (at : ℕ) (new : Reading) : Type 0 where
  pub added : List Entry
  pub parts : parts_from (parts_remaining old) token ≡ Some (parts_remaining new, added)
  pub entries : entries_in new ≡ entries_in old ++ added
  pub sound : IsSound new
  pub placed : IsPlacedIn new
  pub distinct : IsDistinct new
  pub located : KeepsLocated old token at new

-- a text is refused: the first statement holds unless the reason is a repeated name, and the second holds in any case
abbrev pub IfWrong : JsonError → Type 0 → Type 0 → Type 0
IfWrong error none repeats = (error.reason ≢ Repeated → none) × repeats

abbrev pub IfStopped : JsonStop → Type 0 → Type 0 → Type 0
IfStopped Memory none repeats = Unit {0}
IfStopped (Refused error) none repeats = IfWrong error none repeats

-- the values that a token means together with the bytes after it
abbrev pub values_with : List Part → Token → List ℕ → Option (List Entry)
values_with parts token rest = option_and_then (λ r. in_front r.1 (values_of r.0 rest)) (parts_from parts token)

-- if a token and the bytes after it mean values, some set repeats a name
abbrev pub RepeatsWith : Reading → Token → Type 0
RepeatsWith r token = (rest : List ℕ) (more : List Entry) → values_with (parts_remaining r) token rest ≡ Some more → HasRepeatedName (entries_in r ++ more)

-- the token is a name that its set already has
pub record IsRepeat (old : Reading) (token : Token) (at : ℕ) (error : JsonError) : Type 0 where
  pub name : List ℕ
  pub number : ℕ
  pub token_is : token ≡ string name
  pub next : is_name_next old.state ≡ true
  pub taken : IsTaken old number name
  pub error_is : error ≡ record { reason = Repeated; offset = at; first = offset_of old.found number }

-- the error of a token that does not fit, or repeats a name
abbrev pub IsTokenError : JsonStop → Reading → Token → ℕ → Type 0
IsTokenError Memory old token at = Unit {0}
IsTokenError (Refused error) old token at =
    ((parts_from (parts_remaining old) token ≡ None) × (error ≡ error_at (unfitting (parts_remaining old) token) at)) ⊎ IsRepeat old token at error

-- a token is accepted, or does not fit
abbrev pub TakesOrNot : Result (Unit {0}) JsonStop → Reading → Token → ℕ → Reading → Type 0
TakesOrNot r old token at new = MatchResult r (λ x. Takes old token at new)
    (λ stop. IfStopped stop (parts_from (parts_remaining old) token ≡ None) (RepeatsWith old token) × IsTokenError stop old token at)

-- the same, for the token that the reader found
abbrev pub FoundOrNot : Result (Unit {0}) JsonStop → Reading → Option Token → ℕ → Reading → Type 0
FoundOrNot r old None at new = MatchResult r (λ x. ⊥) (λ stop. IsRefusal stop (error_at (reason_in old.state old.frames.items) at))
FoundOrNot r old (Some token) at new = TakesOrNot r old token at new

abbrev pub TakesTokenOrNot : Result (Unit {0}) JsonStop → Reading → Found → ℕ → Reading → Type 0
TakesTokenOrNot r old token at new = FoundOrNot r old (token_of token) at new

-- if a text means values, some set repeats a name
abbrev pub RepeatsIn : List ℕ → Type 0
RepeatsIn text = (found : List Entry) → json_values text ≡ Some found → HasRepeatedName found

-- a text means no values, or values among which a set repeats a name
abbrev pub IsNoJson : JsonError → List ℕ → Type 0
IsNoJson error text = IfWrong error (json_values text ≡ None) (RepeatsIn text)

-- the data that were read, if any, contain no set that repeats a name
abbrev pub ReadsDistinct : Result Data JsonStop → Type 0
ReadsDistinct r = MatchResult r (λ found. HasDistinctNames (contents found)) (λ stop. Unit {0})

-- the data of a text, or an error if it means no values
abbrev pub ReadsJson : Result Data JsonStop → List ℕ → Type 0
ReadsJson r text = MatchResult r (λ found. IsJson text (contents found)) (λ stop. IfStopped stop (json_values text ≡ None) (RepeatsIn text))

-- a refusal is for the error of the text
abbrev pub IsTextError : JsonStop → List ℕ → Type 0
IsTextError Memory text = Unit {0}
IsTextError (Refused error) text = IsJsonError text error

-- a text that was read has no error
abbrev pub ReadsError : Result Data JsonStop → List ℕ → Type 0
ReadsError r text = MatchResult r (λ found. json_error text ≡ None) (λ stop. IsTextError stop text)
