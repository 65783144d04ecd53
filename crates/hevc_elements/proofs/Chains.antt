-- Parts that follow one another: what the whole of them fills in.
use Rattle.std.proofs.Common.{Result, Ok, Err}
use Rattle.hevc_spec.specs.Table.{Table, ◌>>=◌}
use Rattle.hevc_spec.proofs.PlaceLaws.{ahead_then}
use Rattle.hevc_elements.specs.declared.parse_error.ParseError.{ParseError}
use Rattle.hevc_elements.specs.declared.parse_error.ParseError.TheVariants.{WrongNaluType}
use Rattle.hevc_elements.specs.declared.parse_error.ParseError.TheVariants.{OutOfBits, OutOfRange}
use Rattle.hevc_elements.specs.declared.parse_error.ParseError.TheVariants.{MissingSps, MissingPps}
use Rattle.hevc_elements.specs.declared.parse_error.ParseError.TheVariants.{NoMemory}
use Rattle.hevc_elements.specs.Scan.{Position}
use Rattle.hevc_elements.specs.Reads.{Fills}
use Rattle.hevc_elements.specs.Growing.{FillsGrowing}

-- after a part come the others
pub filled_then : {X A Y Z : Type 0} (view : X → A) (first rest : A → Table A) (x y z : X) (u : Y)
    (result : Result Z ParseError) (o m n : Position)
    → Fills view first (Ok u) x y o m → Fills view rest result y z m n
    → Fills view (λ a. first a >>= rest) result x z o n
filled_then view first rest x y z u result o m n h k = record {
  reads = rw h.reads k.reads;
  moves = ahead_then o.place m.place n.place h.moves k.moves;
}

-- the same where memory may be wanted for a later part
pub filled_then_growing : {X A Y Z : Type 0} (view : X → A) (first rest : A → Table A) (x y z : X) (u : Y)
    (result : Result Z ParseError) (o m n : Position)
    → Fills view first (Ok u) x y o m → FillsGrowing view rest result y z m n
    → FillsGrowing view (λ a. first a >>= rest) result x z o n
filled_then_growing view first rest x y z u result o m n h k = record {
  reads = rw h.reads k.reads;
  moves = ahead_then o.place m.place n.place h.moves k.moves;
}

-- the same where memory was wanted for the first one
pub grown_then : {X A Y Z : Type 0} (view : X → A) (first rest : A → Table A) (x y z : X) (u : Y)
    (result : Result Z ParseError) (o m n : Position)
    → FillsGrowing view first (Ok u) x y o m → FillsGrowing view rest result y z m n
    → FillsGrowing view (λ a. first a >>= rest) result x z o n
grown_then view first rest x y z u result o m n h k = record {
  reads = rw h.reads k.reads;
  moves = ahead_then o.place m.place n.place h.moves k.moves;
}

-- a part that wants no memory is one that may want it
pub is_growing : {X A Y : Type 0} (view : X → A) (part : A → Table A) (result : Result Y ParseError)
    (x y : X) (o n : Position)
    → Fills view part result x y o n → FillsGrowing view part result x y o n
is_growing view part (Ok u) x y o n h = record { reads = h.reads; moves = h.moves }
is_growing view part (Err WrongNaluType) x y o n h = absurd h.reads
is_growing view part (Err OutOfBits) x y o n h = record { reads = h.reads; moves = h.moves }
is_growing view part (Err (OutOfRange t r)) x y o n h = record { reads = h.reads; moves = h.moves }
is_growing view part (Err (MissingSps id)) x y o n h = absurd h.reads
is_growing view part (Err (MissingPps id)) x y o n h = absurd h.reads
is_growing view part (Err NoMemory) x y o n h = absurd h.reads
