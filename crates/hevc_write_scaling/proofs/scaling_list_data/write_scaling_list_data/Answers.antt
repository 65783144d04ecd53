use Rattle.hevc_write_scaling.proofs.Coded.{scaling_list_data_written}
use Rattle.hevc_write_scaling.proofs.scaling_list_data.write_scaling_list_data.Goals as goal

pub returns : goal.returns
returns c = scaling_list_data_written _ c.in_ok-write_matrices.ensures c.in_ok-write_matrices-2.ensures
    c.in_ok-write_matrices-3.ensures c.in_ok-write_matrices-4.ensures
