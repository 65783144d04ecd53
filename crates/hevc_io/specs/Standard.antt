-- What a source over a reader has left and a sink over a writer was given, where these expose it,
-- and how many calls failed.
use Rattle.std.specs.Prelude.{ℕ, List}
use Rattle.std.specs.declared.option.Option.{Option}

pub record StandardSource : Type 0 where
  pub left : Option (List ℕ)
  pub faults : ℕ

pub record StandardSink : Type 0 where
  pub written : Option (List ℕ)
  pub faults : ℕ
