use Rattle.hevc_stateless_laws.proofs.Again.{took_first_again}
use Rattle.hevc_stateless_laws.proofs.takes_the_unit_again.Goals as goal

pub returns : goal.returns
returns g c t options us others u old new place between decoding takes =
    took_first_again t options us others u old new place between decoding takes
