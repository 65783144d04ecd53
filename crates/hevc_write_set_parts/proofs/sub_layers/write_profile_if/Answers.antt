use Rattle.std.proofs.Common.{[], false, arith}
use Rattle.hevc_tables.specs.ProfileTierLevelTable.{sub_layer_profile, with_sub_layer_profile, sub_layer}
use Rattle.hevc_write_elements.proofs.Steps.{table_then, done_filled}
use Rattle.hevc_write_elements.proofs.Loops.{one_less}
use Rattle.hevc_write_set_parts.proofs.ProfileKeeps.{same_layer}
use Rattle.hevc_write_elements.proofs.Chains.{is_present}
use Rattle.hevc_write_set_parts.proofs.sub_layers.write_profile_if.Goals as goal

pub returns : goal.returns
unfolding sub_layer_profile with_sub_layer_profile
returns c =
    let x = c.args.x.now in
    is_present c.if-not-present.false (record {
      written = λ y w.
          table_then (c.in_ok-write_layer_profile.ensures sub_layer) (λ l b h. done_filled (λ a.
          let profile_space =
          one_less c.args.i y.sub_layer_profile_space x.sub_layer_profile_space l.profile_space 0 (omega arith) a.0 in
          let tier_flag = one_less c.args.i y.sub_layer_tier_flag x.sub_layer_tier_flag l.tier_flag false
          (omega arith) a.1 in
          let profile_idc =
          one_less c.args.i y.sub_layer_profile_idc x.sub_layer_profile_idc l.profile_idc 0 (omega arith) a.2 in
          let profile_compatibility_flag =
          one_less c.args.i y.sub_layer_profile_compatibility_flag x.sub_layer_profile_compatibility_flag
          l.profile_compatibility_flag [] (omega arith) a.3 in
          let progressive_source_flag =
          one_less c.args.i y.sub_layer_progressive_source_flag x.sub_layer_progressive_source_flag
          l.progressive_source_flag false (omega arith) a.4 in
          let interlaced_source_flag =
          one_less c.args.i y.sub_layer_interlaced_source_flag x.sub_layer_interlaced_source_flag
          l.interlaced_source_flag false (omega arith) a.5 in
          let non_packed_constraint_flag =
          one_less c.args.i y.sub_layer_non_packed_constraint_flag x.sub_layer_non_packed_constraint_flag
          l.non_packed_constraint_flag false (omega arith) a.6 in
          let frame_only_constraint_flag =
          one_less c.args.i y.sub_layer_frame_only_constraint_flag x.sub_layer_frame_only_constraint_flag
          l.frame_only_constraint_flag false (omega arith) a.7 in
          let max_12bit_constraint_flag =
          one_less c.args.i y.sub_layer_max_12bit_constraint_flag x.sub_layer_max_12bit_constraint_flag
          l.max_12bit_constraint_flag false (omega arith) a.8 in
          let max_10bit_constraint_flag =
          one_less c.args.i y.sub_layer_max_10bit_constraint_flag x.sub_layer_max_10bit_constraint_flag
          l.max_10bit_constraint_flag false (omega arith) a.9 in
          let max_8bit_constraint_flag =
          one_less c.args.i y.sub_layer_max_8bit_constraint_flag x.sub_layer_max_8bit_constraint_flag
          l.max_8bit_constraint_flag false (omega arith) a.10 in
          let max_422chroma_constraint_flag =
          one_less c.args.i y.sub_layer_max_422chroma_constraint_flag
          x.sub_layer_max_422chroma_constraint_flag l.max_422chroma_constraint_flag false (omega arith) a.11 in
          let max_420chroma_constraint_flag =
          one_less c.args.i y.sub_layer_max_420chroma_constraint_flag
          x.sub_layer_max_420chroma_constraint_flag l.max_420chroma_constraint_flag false (omega arith) a.12 in
          let max_monochrome_constraint_flag =
          one_less c.args.i y.sub_layer_max_monochrome_constraint_flag
          x.sub_layer_max_monochrome_constraint_flag l.max_monochrome_constraint_flag false (omega arith) a.13 in
          let intra_constraint_flag =
          one_less c.args.i y.sub_layer_intra_constraint_flag x.sub_layer_intra_constraint_flag
          l.intra_constraint_flag false (omega arith) a.14 in
          let one_picture_only_constraint_flag =
          one_less c.args.i y.sub_layer_one_picture_only_constraint_flag
          x.sub_layer_one_picture_only_constraint_flag l.one_picture_only_constraint_flag false (omega arith) a.15 in
          let lower_bit_rate_constraint_flag =
          one_less c.args.i y.sub_layer_lower_bit_rate_constraint_flag
          x.sub_layer_lower_bit_rate_constraint_flag l.lower_bit_rate_constraint_flag false (omega arith) a.16 in
          let max_14bit_constraint_flag =
          one_less c.args.i y.sub_layer_max_14bit_constraint_flag x.sub_layer_max_14bit_constraint_flag
          l.max_14bit_constraint_flag false (omega arith) a.17 in
          let inbld_flag =
          one_less c.args.i y.sub_layer_inbld_flag x.sub_layer_inbld_flag l.inbld_flag false (omega arith) a.18 in (
            (
              profile_space.0,
              tier_flag.0,
              profile_idc.0,
              profile_compatibility_flag.0,
              progressive_source_flag.0,
              interlaced_source_flag.0,
              non_packed_constraint_flag.0,
              frame_only_constraint_flag.0,
              max_12bit_constraint_flag.0,
              max_10bit_constraint_flag.0,
              max_8bit_constraint_flag.0,
              max_422chroma_constraint_flag.0,
              max_420chroma_constraint_flag.0,
              max_monochrome_constraint_flag.0,
              intra_constraint_flag.0,
              one_picture_only_constraint_flag.0,
              lower_bit_rate_constraint_flag.0,
              max_14bit_constraint_flag.0,
              inbld_flag.0,
            ),
            λ at. h (same_layer l _ profile_space.1 tier_flag.1 profile_idc.1 profile_compatibility_flag.1
                progressive_source_flag.1 interlaced_source_flag.1 non_packed_constraint_flag.1
                frame_only_constraint_flag.1 max_12bit_constraint_flag.1 max_10bit_constraint_flag.1
                max_8bit_constraint_flag.1 max_422chroma_constraint_flag.1 max_420chroma_constraint_flag.1
                max_monochrome_constraint_flag.1 intra_constraint_flag.1 one_picture_only_constraint_flag.1
                lower_bit_rate_constraint_flag.1 max_14bit_constraint_flag.1 inbld_flag.1) at,
          )));
    })
