-- The derived `==` of each record: true exactly at equal records.
use Rattle.hevc_set_parts.proofs.Equality.{IsEquality, bool, nat, int, list, field, last, struct}
use Rattle.hevc_set_parts.proofs.RecordEquality.{profile_tier_level}
use Rattle.hevc_video_set.specs.contracts.sublayer_hrd_parameters.SublayerHrdParameters as sublayer_hrd_parameters_record
use Rattle.hevc_video_set.specs.contracts.sublayer_hrd_parameters.SublayerHrdParametersPartialEq.TheImpl as sublayer_hrd_parameters_eq
use Rattle.hevc_video_set.specs.contracts.hrd_params.HrdParams as hrd_params_record
use Rattle.hevc_video_set.specs.contracts.hrd_params.HrdParamsPartialEq.TheImpl as hrd_params_eq
use Rattle.hevc_video_set.specs.contracts.vui_params.VuiParams as vui_params_record
use Rattle.hevc_video_set.specs.contracts.vui_params.VuiParamsPartialEq.TheImpl as vui_params_eq
use Rattle.hevc_video_set.specs.contracts.vps.Vps as vps_record
use Rattle.hevc_video_set.specs.contracts.vps.VpsPartialEq.TheImpl as vps_eq
use Rattle.hevc_video_set.specs.contracts.pred_weight_table.PredWeightTable as pred_weight_table_record
use Rattle.hevc_video_set.specs.contracts.pred_weight_table.PredWeightTablePartialEq.TheImpl as pred_weight_table_eq

pub sublayer_hrd_parameters : IsEquality sublayer_hrd_parameters_eq.ghosts.eq
sublayer_hrd_parameters a b = struct sublayer_hrd_parameters_record.the_type
    (field (list nat _ _)
    (field (list nat _ _)
    (field (list nat _ _)
    (field (list nat _ _)
    (last (list bool _ _))))))

pub hrd_params : IsEquality hrd_params_eq.ghosts.eq
hrd_params a b = struct hrd_params_record.the_type
    (field (bool _ _)
    (field (bool _ _)
    (field (bool _ _)
    (field (nat _ _)
    (field (nat _ _)
    (field (bool _ _)
    (field (nat _ _)
    (field (nat _ _)
    (field (nat _ _)
    (field (nat _ _)
    (field (nat _ _)
    (field (nat _ _)
    (field (nat _ _)
    (field (list bool _ _)
    (field (list bool _ _)
    (field (list nat _ _)
    (field (list bool _ _)
    (field (list nat _ _)
    (field (list sublayer_hrd_parameters _ _)
    (last (list sublayer_hrd_parameters _ _)))))))))))))))))))))

pub vui_params : IsEquality vui_params_eq.ghosts.eq
vui_params a b = struct vui_params_record.the_type
    (field (bool _ _)
    (field (nat _ _)
    (field (nat _ _)
    (field (nat _ _)
    (field (bool _ _)
    (field (bool _ _)
    (field (bool _ _)
    (field (nat _ _)
    (field (bool _ _)
    (field (bool _ _)
    (field (nat _ _)
    (field (nat _ _)
    (field (nat _ _)
    (field (bool _ _)
    (field (nat _ _)
    (field (nat _ _)
    (field (bool _ _)
    (field (bool _ _)
    (field (bool _ _)
    (field (bool _ _)
    (field (nat _ _)
    (field (nat _ _)
    (field (nat _ _)
    (field (nat _ _)
    (field (bool _ _)
    (field (nat _ _)
    (field (nat _ _)
    (field (bool _ _)
    (field (nat _ _)
    (field (bool _ _)
    (field (hrd_params _ _)
    (field (bool _ _)
    (field (bool _ _)
    (field (bool _ _)
    (field (bool _ _)
    (field (nat _ _)
    (field (nat _ _)
    (field (nat _ _)
    (field (nat _ _)
    (last (nat _ _)))))))))))))))))))))))))))))))))))))))))

pub vps : IsEquality vps_eq.ghosts.eq
vps a b = struct vps_record.the_type
    (field (nat _ _)
    (field (bool _ _)
    (field (bool _ _)
    (field (nat _ _)
    (field (nat _ _)
    (field (bool _ _)
    (field (profile_tier_level _ _)
    (field (bool _ _)
    (field (list nat _ _)
    (field (list nat _ _)
    (field (list nat _ _)
    (field (nat _ _)
    (field (nat _ _)
    (field (bool _ _)
    (field (nat _ _)
    (field (nat _ _)
    (field (bool _ _)
    (field (nat _ _)
    (field (nat _ _)
    (field (list nat _ _)
    (field (list bool _ _)
    (field (list hrd_params _ _)
    (last (bool _ _))))))))))))))))))))))))

pub pred_weight_table : IsEquality pred_weight_table_eq.ghosts.eq
pred_weight_table a b = struct pred_weight_table_record.the_type
    (field (nat _ _)
    (field (int _ _)
    (field (nat _ _)
    (field (list bool _ _)
    (field (list bool _ _)
    (field (list int _ _)
    (field (list int _ _)
    (field (list (list int) _ _)
    (field (list (list int) _ _)
    (field (list bool _ _)
    (field (list bool _ _)
    (field (list int _ _)
    (field (list int _ _)
    (field (list (list int) _ _)
    (last (list (list int) _ _))))))))))))))))
