use Rattle.std.proofs.Common.{◌≡◌, rules}
use Rattle.hevc_bits.specs.NaluType.{nalu_type_number}
use Rattle.hevc_slice_header.proofs.Answered.{means_as_read}
use Rattle.hevc_slice_header.proofs.CurrentSets.{in_order}
use Rattle.hevc_slice_header.proofs.slice_header.read_slice_header.Goals as goal

pub returns-in-Ok-clause-reads : goal.returns-in-Ok-clause-reads
returns-in-Ok-clause-reads c =
    let type : nalu_type_number c.nalu_type-2.result ≡ c.args.nalu.now.header.nal_unit_type = cc in
    record {
      wrong_type = search rules;
      read = search rules;
      means = λ is. means_as_read _ _ _ _ (rw (← c.payload.ensures.value, ← type) c.in-Ok.ensures.read);
      names = search rules;
      refused = search rules;
      predictions = search (rules, in_order);
      current = search rules;
      lists = search rules;
    }

pub returns-in-Err-clause-reads : goal.returns-in-Err-clause-reads
returns-in-Err-clause-reads c =
    let type : nalu_type_number c.nalu_type-2.result ≡ c.args.nalu.now.header.nal_unit_type = cc in
    record {
      wrong_type = search rules;
      read = search rules;
      means = λ is. means_as_read _ _ _ _ (rw (← c.payload.ensures.value, ← type) c.in-Err.ensures.read);
      names = search rules;
      refused = search rules;
      predictions = search (rules, in_order);
      current = search rules;
      lists = search rules;
    }
