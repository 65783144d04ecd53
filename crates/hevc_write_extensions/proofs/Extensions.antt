-- Lines of extensions of sets can always be written.
use Rattle.std.proofs.Common.{ℕ, Bool, refl}
use Rattle.hevc_records.specs.Sps.{PlainSps}
use Rattle.hevc_tables.specs.SpsRangeExtensionTable.{sps_range_extension}
use Rattle.hevc_tables.specs.SpsSccExtensionTable as scc
use Rattle.hevc_tables.specs.SpsSccExtensionTable.{SampleFormat, sps_scc_extension}
use Rattle.hevc_tables.specs.PpsRangeExtensionTable.{pps_range_extension, offset_lists}
use Rattle.hevc_tables.specs.PpsSccExtensionTable.{pps_scc_extension, colour_transform, palettes}
use Rattle.hevc_write_elements.proofs.Steps.{IsFillable, then_filled, done_filled, filled}
use Rattle.hevc_write_elements.proofs.Steps.{flag_fillable, bits_fillable, ue_fillable}
use Rattle.hevc_write_elements.proofs.Steps.{when_fillable, when_kept}
use Rattle.hevc_write_extensions.specs.SpsSccExtensionParts as sps_own
use Rattle.hevc_write_extensions.specs.PpsRangeExtensionParts as range_own
use Rattle.hevc_write_extensions.specs.PpsSccExtensionParts as pps_own
use Rattle.hevc_write_extensions.proofs.SpsSccExtensionKeeps as sps_keeps
use Rattle.hevc_write_extensions.proofs.PpsRangeExtensionKeeps.{offset_lists_keep}
use Rattle.hevc_write_extensions.proofs.PpsSccExtensionKeeps.{colour_transform_keeps, palettes_keep}

-- there are always lines of sps range extension to write
pub sps_range_fillable : IsFillable sps_range_extension
unfolding sps_range_extension
sps_range_fillable = record {
  fill = λ w.
      then_filled (filled (flag_fillable _ refl) (λ v1 b1.
      then_filled (filled (flag_fillable _ refl) (λ v2 b2.
      then_filled (filled (flag_fillable _ refl) (λ v3 b3.
      then_filled (filled (flag_fillable _ refl) (λ v4 b4.
      then_filled (filled (flag_fillable _ refl) (λ v5 b5.
      then_filled (filled (flag_fillable _ refl) (λ v6 b6.
      then_filled (filled (flag_fillable _ refl) (λ v7 b7.
      then_filled (filled (flag_fillable _ refl) (λ v8 b8.
      then_filled (filled (flag_fillable _ refl) (λ v9 b9.
      done_filled tt))))))))))))))))));
}

-- there are always lines of sps scc extension to write
pub sps_scc_fillable : (f : SampleFormat) → IsFillable (sps_scc_extension f)
unfolding sps_scc_extension
sps_scc_fillable f = record {
  fill = λ w.
      then_filled (filled (flag_fillable _ refl) (λ v1 b1.
      then_filled (filled (flag_fillable _ refl) (λ v2 b2.
      then_filled (when_kept (scc.palettes f) sps_own.palettes_of (sps_keeps.palettes_keep f) _ _ (λ z3 b3.
      then_filled (filled (bits_fillable _ refl _ _ _) (λ v4 b4.
      then_filled (filled (flag_fillable _ refl) (λ v5 b5.
      done_filled tt))))))))));
}

-- there are always lines of pps range extension to write
pub pps_range_fillable : (sps : PlainSps) (transform_skip : Bool) → IsFillable (pps_range_extension sps transform_skip)
unfolding pps_range_extension
pps_range_fillable sps transform_skip = record {
  fill = λ w.
      then_filled (filled (when_fillable _ _ (ue_fillable _ refl _ _)) (λ v1 b1.
      then_filled (filled (flag_fillable _ refl) (λ v2 b2.
      then_filled (filled (flag_fillable _ refl) (λ v3 b3.
      then_filled (when_kept offset_lists range_own.offset_lists_of offset_lists_keep _ _ (λ z4 b4.
      then_filled (filled (ue_fillable _ refl _ _) (λ v5 b5.
      then_filled (filled (ue_fillable _ refl _ _) (λ v6 b6.
      done_filled tt))))))))))));
}

-- there are always lines of pps scc extension to write
pub pps_scc_fillable : (f : SampleFormat) (most : ℕ) → IsFillable (pps_scc_extension f most)
unfolding pps_scc_extension
pps_scc_fillable f most = record {
  fill = λ w.
      then_filled (filled (flag_fillable _ refl) (λ v1 b1.
      then_filled (filled (flag_fillable _ refl) (λ v2 b2.
      then_filled (when_kept colour_transform pps_own.colour_transform_of colour_transform_keeps _ _ (λ z3 b3.
      then_filled (filled (flag_fillable _ refl) (λ v4 b4.
      when_kept (palettes f most) pps_own.palettes_of (palettes_keep f most) _ _ (λ z5 b5. tt)))))))));
}
