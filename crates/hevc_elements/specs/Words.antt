-- The words of readers' contracts, from one place.
pub use Rattle.std.specs.Prelude.{◌≡◌, ◌≤◌, ◌<◌, ◌+◌, IfOk, IsTrue}
pub use Rattle.hevc_spec.specs.Payload.{IsReached}
pub use Rattle.hevc_spec.specs.Table.{read}
pub use Rattle.hevc_spec.specs.Rows.{when}
pub use Rattle.hevc_elements.specs.Scan.{left}
pub use Rattle.hevc_elements.specs.Reads.{Reads, ReadsTable, Means, Fills}
pub use Rattle.hevc_elements.specs.Growing.{ReadsGrowing, FillsGrowing}
pub use Rattle.hevc_elements.specs.Sets.{ReadsSet, ReadsSetUnit, MeansSet, NamesNoSet}
