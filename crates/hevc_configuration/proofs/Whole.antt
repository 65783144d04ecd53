-- A whole record is read.
use Rattle.std.proofs.Common.{◌≡◌, ℕ, List, get_or, drop, Ok, refl}
use Rattle.hevc_configuration.specs.declared.error.ConfigurationError.{ConfigurationError}
use Rattle.hevc_configuration.specs.declared.length_size.LengthSize.{LengthSize}
use Rattle.hevc_configuration.specs.Configuration.{PlainArray}
use Rattle.hevc_configuration.specs.Reading.{Fails, arrays_at, front_at, with_front, configuration_at}
use Rattle.hevc_configuration.proofs.Loops.{fails_at}
use Rattle.std.proofs.Common.{◌-◌, length, take, ap, ◌∙◌, sym}
use Rattle.std.proofs.lemmas.List.{take_rest}

-- the bytes after the first 23, as the code has them
abbrev pub after_front : List ℕ → List ℕ
after_front bytes = take (length bytes - 23) (drop 23 bytes)

pub arrays_refused : (e : ConfigurationError) (bytes : List ℕ) (size : LengthSize) → front_at bytes ≡ Ok size
    → Fails e (arrays_at (get_or bytes 22 0) (after_front bytes)) → Fails e (configuration_at bytes)
unfolding configuration_at
arrays_refused e bytes size front failed =
    fails_at e (arrays_at (get_or bytes 22 0) (after_front bytes)) (configuration_at bytes) failed
    (λ d is.
    let read = ap (arrays_at (get_or bytes 22 0)) (sym (take_rest bytes 23)) ∙ is in rw (front, read) refl)

pub whole : (bytes : List ℕ) (size : LengthSize) (arrays : List PlainArray) (after : List ℕ)
    → front_at bytes ≡ Ok size → arrays_at (get_or bytes 22 0) (after_front bytes) ≡ Ok (arrays, after)
    → configuration_at bytes ≡ Ok (with_front bytes size arrays)
unfolding configuration_at
whole bytes size arrays after front given =
    let read = ap (arrays_at (get_or bytes 22 0)) (sym (take_rest bytes 23)) ∙ given in rw (front, read) refl
