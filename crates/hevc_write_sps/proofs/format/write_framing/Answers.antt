use Rattle.std.proofs.Common.{◌≡◌, Bool, List, refl, ◌∙◌}
use Rattle.std.specs.Prelude.{◌==◌}
use Rattle.hevc_tables.specs.SpsTable.{samples, with_picture_size, cropping, window}
use Rattle.hevc_write_elements.proofs.Fillings.{weakened, beside}
use Rattle.hevc_write_elements.proofs.Steps.{by, done_filled, then_filled, flag_then, flag_if_then}
use Rattle.hevc_write_elements.proofs.Steps.{ue_then, when_part_written}
use Rattle.hevc_sequence_set.specs.Sps.{plain_sps}
use Rattle.hevc_write_sps.specs.SpsParts as own
use Rattle.hevc_write_sps.proofs.SpsKeeps.{window_keeps, window_told}
use Rattle.hevc_write_sps.proofs.format.write_framing.Goals as goal

pub returns : goal.returns
unfolding samples with_picture_size cropping
returns c =
    let x = plain_sps c.args.x.now in
    record {
      written = λ y w.
          then_filled (ue_then _ refl _ _ c.in_ok-ue_u8.ensures (λ v1 _ b1 chroma_format_idc_row.
          flag_if_then _ refl _ _ c.in_ok-flag_if.ensures (λ v2 b2 separate_colour_plane_flag_row.
          ue_then _ refl _ _ c.in_ok-ue_u16.ensures (λ v3 _ b3 pic_width_in_luma_samples_row.
          ue_then _ refl _ _ c.in_ok-ue_u16-2.ensures (λ v4 _ b4 pic_height_in_luma_samples_row.
          done_filled (flag_then _ refl c.in_ok-flag.ensures (λ v5 b5 flag_row.
          weakened (beside (window_told v5 _ b5 refl)
          (when_part_written window own.window_of window_keeps _
          {Q = λ z all. v5 ≡ x.conformance_window_flag → own.framing_elements_of z x ≡ x → w ≡ c.args.w.now
          → all ≡ c.write_window_if.new.w} c.in_ok-write_window_if.ensures refl (λ v6 b6 window_rows is e at.
          window_rows is _ e refl
          (flag_row is (pic_height_in_luma_samples_row (by e (λ r. r.pic_height_in_luma_samples))
          (pic_width_in_luma_samples_row (by e (λ r. r.pic_width_in_luma_samples))
          (separate_colour_plane_flag_row (by e (λ r. r.chroma_format_idc == 3))
          (by e (λ r. r.separate_colour_plane_flag))
          (chroma_format_idc_row (by e (λ r. r.chroma_format_idc)) at)))))))) (λ z all h e at.
          h.1 (h.0 ∙ by e (λ r. r.conformance_window_flag)) e at))))))));
    }
