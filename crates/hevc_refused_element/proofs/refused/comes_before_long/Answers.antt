use Rattle.std.proofs.Common.{◌≡◌, ◌-◌, ◌∙◌, ap, sym, ℕ, List, Bool, drop}
use Rattle.hevc_spec.specs.Payload.{bits}
use Rattle.hevc_spec.specs.Bits.{ue_at}
use Rattle.hevc_refused_element.specs.Refused.{is_out_of_bounds, place_behind}
use Rattle.hevc_refused_element.proofs.Skipping.{not_skipped}
use Rattle.hevc_refused_element.proofs.refused.comes_before_long.Goals as goal

pub returns-then-is_err : goal.returns-then-is_err
returns-then-is_err c =
    let n = c.saturating_sub.result in
    let count : n ≡ place_behind c.args.told.now - 16 =
    c.saturating_sub.ensures ∙ ap (λ (p : ℕ). p - 16) c.place_behind-place.ensures in
    not_skipped _ c.skip_bits.result c.new-reader.result c.skip_bits.new.self n
    (sym c.is_err.ensures.value ∙ c.if-is_err.true) c.skip_bits.ensures.read
    ∙ ap (λ (k : ℕ). is_out_of_bounds (ue_at (drop k (bits c.new-reader.result)))) count
    ∙ ap (λ (b : List Bool). is_out_of_bounds (ue_at (drop (place_behind c.args.told.now - 16) b)))
    c.new-reader.ensures.payload
