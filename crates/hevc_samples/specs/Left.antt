-- What is left of a sample.
use Rattle.std.specs.Prelude.{ℕ, List}
use Rattle.hevc_configuration.specs.declared.length_size.LengthSize.{LengthSize}

pub record LeftOfSample : Type 0 where
  pub length_size : LengthSize
  pub rest : List ℕ
