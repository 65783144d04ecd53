-- The sets that a header makes active, and what reading it answered to a caller that takes the segment.
use Rattle.std.proofs.Common.{◌≡◌, ℕ, Option, Some, Result, Ok, Err, subst}
use Rattle.std.specs.Prelude.{IfOk, IfSome}
use Rattle.std.specs.Ordering.{nat_cmp}
use Rattle.std.specs.BTreeMap.{get}
use Rattle.hevc_spec.specs.UnitHeader.{UnitHeader}
use Rattle.hevc_bits.specs.FoundUnit.{FoundUnit}
use Rattle.hevc_tables.specs.SliceHeaderTable.{ActiveSets}
use Rattle.hevc_elements.specs.declared.parse_error.ParseError.{ParseError}
use Rattle.hevc_picture_slice.specs.declared.slice_header.SliceHeader.{SliceHeader}
use Rattle.hevc_slice_header.specs.declared.active_sets.ActiveSets as code
use Rattle.hevc_slice_header.specs.ActiveSets.{AreFound}
use Rattle.hevc_slice_header.specs.Answers.{ReadsSlice}
use Rattle.hevc_slice_header.proofs.CurrentSets.{active_found}
use Rattle.hevc_parser.specs.declared.parser.Parser.{Parser}
use Rattle.hevc_parser.specs.Kept.{kept_by}
use Rattle.hevc_parser.specs.Slices.{AreActive}

own_id : {X : Type 0} (o : Option X) (x : X) (P : X → Type 0) → o ≡ Some x → IfSome o P → P x
own_id o x P is h = subst (λ (p : Option _). IfSome p P) is h

pub are_active : (p : Parser) (id : ℕ) (r : Result code.ActiveSets ParseError)
    → IfOk r (λ sets. AreFound p.picture_sets p.sequence_sets id sets) → IfOk r (λ sets. AreActive (kept_by p) id sets)
are_active p id (Err e) found = tt
are_active p id (Ok sets) found = record {
  active = active_found p.picture_sets p.sequence_sets id sets.pps.now sets.sps.now found.picture found.sequence;
  picture = own_id (get nat_cmp p.picture_sets id) sets.pps.now _ found.picture (p.picture_ids id);
  sequence = own_id (get nat_cmp p.sequence_sets sets.pps.now.seq_parameter_set_id) sets.sps.now _
      found.sequence (p.sequence_ids sets.pps.now.seq_parameter_set_id);
}

module _ {X Y : Type 0} (kept : ℕ → Option ActiveSets) (unit : FoundUnit UnitHeader) (header : SliceHeader) where
  -- the answer gives something else
  pub read_whole : (x : X) (y : Y) → ReadsSlice kept unit (Ok x) header → ReadsSlice kept unit (Ok y) header
  read_whole x y h = record {
    wrong_type = (λ e. absurd (cc e), λ f. absurd (cc (h.wrong_type.1 f)));
    read = h.read;
    means = λ is. let m = h.means is in record {
      found = m.found;
      only = m.only;
      refused = m.refused;
      broken = m.broken;
    };
    names = tt;
    refused = tt;
    predictions = h.predictions;
    current = h.current;
    lists = h.lists;
  }

  pub refused_whole : (e : ParseError) → ReadsSlice {X = X} kept unit (Err e) header
      → ReadsSlice {X = Y} kept unit (Err e) header
  refused_whole e h = record {
    wrong_type = (λ is. h.wrong_type.0 (cc is), λ f. cc (h.wrong_type.1 f));
    read = h.read;
    means = λ is. let m = h.means is in record {
      found = m.found;
      only = m.only;
      refused = m.refused;
      broken = m.broken;
    };
    names = h.names;
    refused = h.refused;
    predictions = h.predictions;
    current = tt;
    lists = tt;
  }
