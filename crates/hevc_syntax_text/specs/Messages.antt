-- The messages of a unit of supplemental enhancement information (7.3.5, D.2.1).
use Rattle.std.specs.Prelude.{ℕ, zero, suc, ◌+◌, ◌==◌, ◌||◌, min, nat_lt, not, Bool, true, false}
use Rattle.std.specs.Prelude.{List, [], ◌∷◌, ◌++◌}
use Rattle.std.specs.Prelude.{length, drop, codes, Option, Some, None, if◌then◌else◌}
use Rattle.std.specs.Option.{option_map, option_and_then}
use Rattle.hevc_spec.specs.Payload.{payload_after}
use Rattle.hevc_element_lines.specs.declared.style.Style.{Style}
use Rattle.hevc_element_lines.specs.declared.style.Style.TheVariants.{Words, Json}
use Rattle.hevc_element_lines.specs.Lines.{line_end}
use Rattle.hevc_element_names.specs.Names.{text_at}
use Rattle.hevc_syntax_text.specs.declared.message_names.TheConstants.{NAMES, SPANS}
use Rattle.hevc_syntax_text.specs.Fields.{number_field, text_field}

-- What ff_byte and the byte after it add up to, and the bytes after that one. Above 2^64 - 1 the
-- sum is not told.
abbrev pub sum_of_bytes : ℕ → List ℕ → Option (ℕ × List ℕ)
sum_of_bytes n [] = None
sum_of_bytes n (byte ∷ bytes) =
    if byte == 255
    then sum_of_bytes (min (n + 255) 18446744073709551615) bytes
    else Some (min (n + byte) 18446744073709551615, bytes)

-- payloadType and payloadSize of a message, and the bytes after its payload
pub record Message : Type 0 where
  pub kind : ℕ
  pub size : ℕ
  pub rest : List ℕ

abbrev pub message : ℕ → ℕ × List ℕ → Message
message kind size = record { kind = kind; size = size.0; rest = drop size.0 size.1 }

-- more_rbsp_data (7.2) where a byte begins: not the byte of the stop bit alone is left
abbrev pub has_more : List ℕ → Bool
has_more [] = false
has_more (byte ∷ []) = not (byte == 128)
has_more (_ ∷ _ ∷ _) = true

-- the message that comes next, if there is one
unfoldable pub next_message : List ℕ → Option Message
next_message bytes =
    if has_more bytes
    then option_and_then (λ kind. option_map (message kind.0) (sum_of_bytes 0 kind.1))
    (sum_of_bytes 0 bytes)
    else None

-- the name of a payloadType (D.2.1)
abbrev pub own_name : List ℕ → List ℕ
own_name [] = codes "reserved_sei_message"
own_name (code ∷ more) = code ∷ more

unfoldable pub message_name : ℕ → List ℕ
message_name kind =
    if nat_lt kind 256 then own_name (text_at NAMES SPANS kind) else codes "reserved_sei_message"

abbrev pub before_message : Style → List ℕ
before_message Words = codes "sei"
before_message Json = codes "{\"sei\":true"

-- a payloadType with its name
unfoldable pub kind_text : Style → ℕ → List ℕ
kind_text style kind =
    before_message style ++ number_field style (codes "payloadType") kind
    ++ text_field style (codes "name") (message_name kind)

-- the line of a message
unfoldable pub message_line : Style → ℕ → ℕ → List ℕ
message_line style kind size =
    kind_text style kind ++ number_field style (codes "payloadSize") size ++ line_end style

abbrev pub text_then : Option Message → (Message → List ℕ) → List ℕ
text_then None k = []
text_then (Some m) k = k m

-- the lines of so many messages at most
abbrev pub messages_from : Style → ℕ → List ℕ → List ℕ
messages_from style zero bytes = []
messages_from style (suc n) bytes =
    text_then (next_message bytes)
    (λ m. message_line style m.kind m.size ++ messages_from style n m.rest)

-- PREFIX_SEI_NUT, SUFFIX_SEI_NUT (Table 7-1)
abbrev pub is_sei : ℕ → Bool
is_sei t = t == 39 || t == 40

-- The lines of the messages of a unit of this type and these bytes, if it has some. Each message
-- has two bytes or more.
unfoldable pub messages_text : Style → ℕ → List ℕ → List ℕ
messages_text style nal_unit_type bytes =
    let rbsp = payload_after 0 (drop 2 bytes) in
    if is_sei nal_unit_type then messages_from style (length rbsp) rbsp else []
