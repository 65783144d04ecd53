-- A picture set is read alike wherever the sequence set is kept that it names.
use Rattle.std.proofs.Common.{◌≡◌, ℕ, Bool, true, false, cond, eqb, List, [], refl, sym, ap, ◌∙◌}
use Rattle.std.proofs.Common.{Option, Some, None, Ok}
use Rattle.std.specs.Prelude.{drop}
use Rattle.std.proofs.lemmas.Bool.{eqb-true}
use Rattle.hevc_spec.specs.Payload.{payload, payload_after}
use Rattle.hevc_spec.specs.Lines.{Line}
use Rattle.hevc_spec.specs.UnitTypes.{is_end}
use Rattle.hevc_spec.specs.Rows.{row}
use Rattle.hevc_spec.specs.Table.{Reading, gives, refuses, read, reading_then}
use Rattle.hevc_spec.specs.UnitHeader.{UnitHeader, unit_header}
use Rattle.hevc_records.specs.Pps.{PlainPps, default_pps}
use Rattle.hevc_records.specs.Sps.{PlainSps}
use Rattle.hevc_tables.specs.PpsTable.{ids, named, picture_set_of, picture_parameter_set}
use Rattle.hevc_stream.specs.Contents.{picture_set_read}
use Rattle.hevc_stream.specs.Slices.{temporal_id}
use Rattle.hevc_stream_laws.proofs.ByType.{of_picture_set}
use Rattle.hevc_write_units.specs.Payloads.{IsPayload}
use Rattle.hevc_write_units.specs.Values.{PictureSetLines, only_sequence_set, MeansPictureSet}
use Rattle.hevc_write_units.proofs.Meant.{no_end, read_payload}

-- a picture set is read with all kept sequence sets as with its own alone
pub read_with_kept : (tid : ℕ) (kept : ℕ → Option PlainSps) (sps : PlainSps) (bits : List Bool)
    (pps : PlainPps) (rest : List Bool) → kept sps.seq_parameter_set_id ≡ Some sps
    → read (picture_parameter_set tid (only_sequence_set sps)) bits ≡ gives pps rest
    → read (picture_parameter_set tid kept) bits ≡ gives pps rest
unfolding picture_parameter_set named
read_with_kept tid kept sps bits pps rest is e = by_ids (read (ids (record default_pps { temporal_id = tid })) bits) e
  where
    by_test : (p : PlainPps) (r : List Bool) (b : Bool) → eqb p.seq_parameter_set_id sps.seq_parameter_set_id ≡ b
        → reading_then (read (named (row 11 2) p.seq_parameter_set_id (cond b (Some sps) None)) r)
        (λ s others. read (picture_set_of s p) others) ≡ gives pps rest
        → reading_then (read (named (row 11 2) p.seq_parameter_set_id (kept p.seq_parameter_set_id)) r)
        (λ s others. read (picture_set_of s p) others) ≡ gives pps rest
    by_test p r true t e =
        let same : p.seq_parameter_set_id ≡ sps.seq_parameter_set_id =
        eqb-true p.seq_parameter_set_id sps.seq_parameter_set_id t in
        let found : kept p.seq_parameter_set_id ≡ Some sps = ap kept same ∙ is in
        rw found e
    by_test p r false t e = absurd (cc e)

    by_ids : (reading : Reading PlainPps)
        → reading_then reading
        (λ p r. reading_then
        (read (named (row 11 2) p.seq_parameter_set_id (only_sequence_set sps p.seq_parameter_set_id)) r)
        (λ s others. read (picture_set_of s p) others)) ≡ gives pps rest
        → reading_then reading
        (λ p r. reading_then
        (read (named (row 11 2) p.seq_parameter_set_id (kept p.seq_parameter_set_id)) r)
        (λ s others. read (picture_set_of s p) others)) ≡ gives pps rest
    by_ids (refuses fault r) e = absurd (cc e)
    by_ids (gives p r) e = by_test p r (eqb p.seq_parameter_set_id sps.seq_parameter_set_id) refl e

-- lines of a picture set mean it
pub picture_set_meant : (sps : PlainSps) (pps : PlainPps) (header : UnitHeader) (bytes : List ℕ)
    → unit_header bytes ≡ Ok header
    → IsPayload (PictureSetLines sps pps header) [] (payload_after 0 (drop 2 bytes))
    → MeansPictureSet sps pps header bytes
picture_set_meant sps pps header bytes parsed is options kept wanted found =
    let lines = is.has.set in
    let tid = temporal_id header in
    let at : kept.sequence_sets sps.seq_parameter_set_id ≡ Some sps =
    ap kept.sequence_sets (sym is.has.names) ∙ found in
    of_picture_set options kept bytes header parsed wanted lines.typed
    ∙ ap picture_set_read
    (read_with_kept tid kept.sequence_sets sps (payload bytes) pps _ at
    (read_payload (picture_parameter_set tid (only_sequence_set sps)) pps bytes is.lines [] lines.has
    lines.good is.parts))

-- a picture set is not in a unit that ends a sequence or the stream
pub no_end_unit : (sps : PlainSps) (pps : PlainPps) (header : UnitHeader) (lines : List Line)
    → PictureSetLines sps pps header lines → is_end header.nal_unit_type ≡ false
no_end_unit sps pps header lines has =
    no_end 34 (picture_parameter_set (temporal_id header) (only_sequence_set sps)) pps header lines refl has.set
