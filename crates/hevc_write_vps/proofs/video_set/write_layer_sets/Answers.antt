use Rattle.std.proofs.Common.{◌≡◌, ℕ, ◌+◌, ◌*◌, ◌≤◌, refl, sym, ap₂, ◌∙◌, arith}
use Rattle.std.proofs.lemmas.Bool.Decides.{nat_tests}
use Rattle.hevc_spec.specs.Rows.{row}
use Rattle.hevc_tables.specs.VpsTable.{layer_sets}
use Rattle.hevc_video_set.specs.Vps.{plain_vps}
use Rattle.hevc_write_elements.proofs.Steps.{bits_then, by, done_filled, some_zeros_written, then_filled, ue_then}
use Rattle.hevc_write_vps.proofs.video_set.write_layer_sets.Goals as goal

pub returns : goal.returns
unfolding layer_sets
returns c =
    let x = plain_vps c.args.x.now in
    record {
      written = λ y w.
          bits_then _ refl _ _ _ c.in_ok-bits_u8.ensures (λ v1 few b1 bits_u8_row.
          ue_then _ refl _ _ c.in_ok-ue.ensures (λ v2 fewer b2 ue_row.
          then_filled (some_zeros_written (row 1 16) _ _ (λ k. refl) c.in_ok-zeros.ensures (λ b3 zeros_row.
          done_filled (λ e at.
          let layers : v1 ≡ x.max_layer_id = by e (λ r. r.max_layer_id) in
          let sets : v2 ≡ x.num_layer_sets_minus1 = by e (λ r. r.num_layer_sets_minus1) in
          let few_layers : x.max_layer_id ≤ 62 = rw (← layers) (grind (arith, nat_tests, few)) in
          let few_sets : x.num_layer_sets_minus1 ≤ 1023 = rw (← sets) (grind (arith, nat_tests, fewer)) in
          zeros_row (ap₂ (λ (k m : ℕ). (k + 1) * m) layers sets
          ∙ sym (c.num_layer_flags.ensures few_layers few_sets)) (ue_row sets (bits_u8_row layers at)))))));
    }
