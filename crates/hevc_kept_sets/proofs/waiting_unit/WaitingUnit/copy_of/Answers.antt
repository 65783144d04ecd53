use Rattle.std.proofs.Common.{◌≡◌, ◌∷◌, ℕ, List, drop, ap, sym, ◌∙◌, rules}
use Rattle.hevc_spec.specs.Payload.{payload_bits}
use Rattle.hevc_spec.specs.Table.{read}
use Rattle.hevc_bits.specs.FoundUnit.{bytes_of}
use Rattle.hevc_records.specs.Pps.{PlainPps, default_pps}
use Rattle.hevc_tables.specs.PpsTable.{ids}
use Rattle.hevc_stream_laws.specs.KeptWell.{sequence_set_named_in}
use Rattle.hevc_kept_sets.specs.Settled.{named_set}
use Rattle.hevc_kept_sets.proofs.CutAgain.{has_header, picture_set_stream}
use Rattle.hevc_kept_sets.proofs.waiting_unit.WaitingUnit.copy_of.Goals as goal

pub invariant_of-result : goal.invariant_of-result
invariant_of-result c =
    let items : c.extend_from_slice-2.new.self.items ≡ 0 ∷ 0 ∷ 1 ∷ bytes_of c.args.nalu.now = search rules in
    let header =
    has_header (bytes_of c.args.nalu.now) c.args.nalu.now.header c.header-header.result.now
    c.header-header.ensures.parsed c.header-header.ensures.value in
    let pps : PlainPps = record default_pps { temporal_id = 0 } in (
      picture_set_stream c.args.nalu.now c.extend_from_slice-2.new.self.items items
          c.header-header.ensures.cut header c.requires.typed c.requires.short,
      c.read_named-named.ensures pps
          ∙ ap (λ (bytes : List ℕ). sequence_set_named_in (read (ids pps) (payload_bits 0 bytes)))
          c.payload.ensures.value
          ∙ ap (λ (stream : List ℕ). named_set (drop 3 stream)) (sym items),
    )
