-- Messages that follow one another.
use Rattle.std.proofs.Common.{◌≡◌, ℕ, zero, suc, ◌+◌, ◌-◌, ◌<◌, List, [], ◌++◌, refl, sym, ap, ◌∙◌, arith, Option, Some}
use Rattle.std.proofs.Common.{None}
use Rattle.std.specs.Option.{option_map}
use Rattle.hevc_element_lines.specs.declared.style.Style.{Style}
use Rattle.hevc_syntax_text.specs.declared.messages.Message as code
use Rattle.hevc_syntax_text.specs.FoundMessages.{message_of}
use Rattle.hevc_syntax_text.specs.Messages.{Message, message_line, messages_from, next_message, text_then}

-- where none comes next there are no lines
pub over : (style : Style) (n : ℕ) (bytes : List ℕ) → next_message bytes ≡ None → messages_from style n bytes ≡ []
over style zero bytes none = refl
over style (suc n) bytes none =
    ap (λ (o : Option Message). text_then o (λ m. message_line style m.kind m.size ++ messages_from style n m.rest)) none

-- the line of the next one comes before those of the others
pub one_more : (style : Style) (n i : ℕ) (bytes : List ℕ) (m : Message) → i < n → next_message bytes ≡ Some m
    → messages_from style (n - i) bytes
    ≡ message_line style m.kind m.size ++ messages_from style (n - (i + 1)) m.rest
one_more style n i bytes m lt some =
    let k : n - i ≡ suc (n - (i + 1)) = omega arith in
    ap (λ (k : ℕ). messages_from style k bytes) k
    ∙ ap (λ (o : Option Message). text_then o
    (λ m. message_line style m.kind m.size ++ messages_from style (n - (i + 1)) m.rest)) some

-- what the code doesn't find isn't there
pub none_found : (o : Option code.Message) (found : Option Message) → option_map message_of o ≡ found → o ≡ None
    → found ≡ None
none_found None found same none = sym same
none_found (Some m) found same none = absurd (cc none)
