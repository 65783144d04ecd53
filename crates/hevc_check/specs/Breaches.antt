-- The code's breaches, as those of the definitions.
use Rattle.hevc_check_laws.specs.Breaches as laws
use Rattle.hevc_check.specs.declared.breach.Breach.{Breach}
use Rattle.hevc_check.specs.declared.breach.Breach.TheVariants.{Changed, Latency, SameCount, Full, Discards, Reorder}

abbrev pub breach_of : Breach → laws.Breach
breach_of Changed = laws.Changed
breach_of Latency = laws.Latency
breach_of SameCount = laws.SameCount
breach_of Full = laws.Full
breach_of Discards = laws.Discards
breach_of Reorder = laws.Reorder
