-- The derived `==` of each record: true exactly at equal records.
use Rattle.hevc_set_parts.proofs.Equality.{IsEquality, bool, nat, int, list, array_vec, field, last, struct}
use Rattle.hevc_set_parts.proofs.LevelEquality.{level}
use Rattle.hevc_set_parts.specs.contracts.profile_tier_level.ProfileTierLevel as profile_tier_level_record
use Rattle.hevc_set_parts.specs.contracts.profile_tier_level.ProfileTierLevelPartialEq.TheImpl as profile_tier_level_eq
use Rattle.hevc_set_parts.specs.contracts.scaling_lists.ScalingLists as scaling_lists_record
use Rattle.hevc_set_parts.specs.contracts.scaling_lists.ScalingListsPartialEq.TheImpl as scaling_lists_eq
use Rattle.hevc_set_parts.specs.contracts.short_term_ref_pic_set.ShortTermRefPicSet as short_term_ref_pic_set_record
use Rattle.hevc_set_parts.specs.contracts.short_term_ref_pic_set.ShortTermRefPicSetPartialEq.TheImpl as short_term_ref_pic_set_eq
use Rattle.hevc_set_parts.specs.contracts.pps_range_extension.PpsRangeExtension as pps_range_extension_record
use Rattle.hevc_set_parts.specs.contracts.pps_range_extension.PpsRangeExtensionPartialEq.TheImpl as pps_range_extension_eq
use Rattle.hevc_set_parts.specs.contracts.pps_scc_extension.PpsSccExtension as pps_scc_extension_record
use Rattle.hevc_set_parts.specs.contracts.pps_scc_extension.PpsSccExtensionPartialEq.TheImpl as pps_scc_extension_eq
use Rattle.hevc_set_parts.specs.contracts.ref_pic_list_modification.RefPicListModification as ref_pic_list_modification_record
use Rattle.hevc_set_parts.specs.contracts.ref_pic_list_modification.RefPicListModificationPartialEq.TheImpl as ref_pic_list_modification_eq

pub profile_tier_level : IsEquality profile_tier_level_eq.ghosts.eq
profile_tier_level a b = struct profile_tier_level_record.the_type
    (field (nat _ _)
    (field (bool _ _)
    (field (nat _ _)
    (field (list bool _ _)
    (field (bool _ _)
    (field (bool _ _)
    (field (bool _ _)
    (field (bool _ _)
    (field (bool _ _)
    (field (bool _ _)
    (field (bool _ _)
    (field (bool _ _)
    (field (bool _ _)
    (field (bool _ _)
    (field (bool _ _)
    (field (bool _ _)
    (field (bool _ _)
    (field (bool _ _)
    (field (bool _ _)
    (field (level _ _)
    (field (list bool _ _)
    (field (list bool _ _)
    (field (list nat _ _)
    (field (list bool _ _)
    (field (list nat _ _)
    (field (list (list bool) _ _)
    (field (list bool _ _)
    (field (list bool _ _)
    (field (list bool _ _)
    (field (list bool _ _)
    (field (list bool _ _)
    (field (list bool _ _)
    (field (list bool _ _)
    (field (list bool _ _)
    (field (list bool _ _)
    (field (list bool _ _)
    (field (list bool _ _)
    (field (list bool _ _)
    (field (list bool _ _)
    (field (list bool _ _)
    (field (list bool _ _)
    (last (list level _ _)))))))))))))))))))))))))))))))))))))))))))

pub scaling_lists : IsEquality scaling_lists_eq.ghosts.eq
scaling_lists a b = struct scaling_lists_record.the_type
    (field (list int _ _)
    (field (list int _ _)
    (field (list (list nat) _ _)
    (field (list (list nat) _ _)
    (field (list (list nat) _ _)
    (last (list (list nat) _ _)))))))

pub short_term_ref_pic_set : IsEquality short_term_ref_pic_set_eq.ghosts.eq
short_term_ref_pic_set a b = struct short_term_ref_pic_set_record.the_type
    (field (bool _ _)
    (field (nat _ _)
    (field (bool _ _)
    (field (nat _ _)
    (field (nat _ _)
    (field (nat _ _)
    (field (list int _ _)
    (field (list bool _ _)
    (field (list int _ _)
    (field (list bool _ _)
    (last (nat _ _))))))))))))

pub pps_range_extension : IsEquality pps_range_extension_eq.ghosts.eq
pps_range_extension a b = struct pps_range_extension_record.the_type
    (field (nat _ _)
    (field (bool _ _)
    (field (bool _ _)
    (field (nat _ _)
    (field (nat _ _)
    (field (list int _ _)
    (field (list int _ _)
    (field (nat _ _)
    (last (nat _ _))))))))))

pub pps_scc_extension : IsEquality pps_scc_extension_eq.ghosts.eq
pps_scc_extension a b = struct pps_scc_extension_record.the_type
    (field (bool _ _)
    (field (bool _ _)
    (field (bool _ _)
    (field (int _ _)
    (field (int _ _)
    (field (int _ _)
    (field (bool _ _)
    (field (nat _ _)
    (field (bool _ _)
    (field (nat _ _)
    (field (nat _ _)
    (last (list (list nat) _ _)))))))))))))

pub ref_pic_list_modification : IsEquality ref_pic_list_modification_eq.ghosts.eq
ref_pic_list_modification a b = struct ref_pic_list_modification_record.the_type
    (field (array_vec nat _ _)
    (field (array_vec nat _ _)
    (field (bool _ _)
    (last (bool _ _)))))
