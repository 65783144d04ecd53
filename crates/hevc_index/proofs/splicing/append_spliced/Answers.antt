use Rattle.std.proofs.Common.{◌≡◌, ◌<◌, ◌≤◌, ◌+◌, ◌++◌, ◌||◌, [], ◌∷◌, ℕ, List, Bool, true, false}
use Rattle.std.proofs.Common.{length, cond, rules, arith, sym, ap, ◌∙◌, append-nil, Err}
use Rattle.std.specs.Prelude.{nat_le}
use Rattle.hevc_spec.specs.UnitHeader.{unit_header}
use Rattle.hevc_spec.specs.Units.{kept_bytes, units_from}
use Rattle.hevc_bits.specs.FoundUnit.{bytes_of, unit_of}
use Rattle.hevc_bit_writer.specs.WrittenUnits.{started}
use Rattle.hevc_stream_laws.specs.UnitMeans.{is_parameter_set}
use Rattle.hevc_decoder.proofs.Headers.{header_is}
use Rattle.hevc_index_laws.proofs.Kept.{type_is}
use Rattle.hevc_index.proofs.Spliced.{copied_all, copied_first, copied_more, is_kept, more_grown}
use Rattle.hevc_index.proofs.splicing.append_spliced.Goals.{then-is_spliced+in_ok-append_unit, else-is_spliced}
use Rattle.hevc_index.proofs.splicing.append_spliced.Goals as goal

pub loop-nalu-init : goal.loop-nalu-init
loop-nalu-init c =
    record {
      grows = ([], sym (append-nil c.args.out.now.items));
      copied = copied_first c.args.stream.now c.args.first c.args.out.now.items;
    }

pub loop-nalu-preserved : goal.loop-nalu-preserved
loop-nalu-preserved c =
    let stream = c.args.stream.now in
    let before = c.loop-nalu.invariant in
    let nalu = c.in-Ok.nalu in
    let u = unit_of nalu in
    let v = c.args.first in
    let k = c.loop-nalu.unit in
    let old = c.args.out.now.items in
    let mid = c.loop-nalu.out.items in
    let new = c.if-is_spliced.out.items in
    let next = c.offset.result + c.size.result in
    let first : units_from kept_bytes c.loop-nalu.position stream ≡ u ∷ units_from kept_bytes next stream =
    rw (c.offset.ensures.value, c.size.ensures.value) c.in-Ok.ensures.next.first in
    let ahead : c.loop-nalu.position < next =
    (let far = c.in-Ok.ensures.next.ahead in let at = c.offset.ensures.value in omega (arith, far, at)) in
    let within : next ≤ length stream = search rules in
    let parsed = header_is (unit_header (bytes_of nalu)) nalu.header c.in-Ok.ensures.next.header in
    let is : c.is_spliced.result ≡ is_kept v k u =
    c.is_spliced.ensures ∙ ap (λ x. nat_le v k || is_parameter_set x.nal_unit_type) c.header.ensures.value
    ∙ sym (ap (λ (t : ℕ). nat_le v k || is_parameter_set t) (type_is u.bytes nalu.header parsed)) in
    let more : new ≡ mid ++ cond (is_kept v k u) (started u.bytes) [] =
    (elim c.if-is_spliced.branch [
      | then-is_spliced+in_ok-append_unit w ↦
          let kept : is_kept v k u ≡ true = sym is ∙ w.if-is_spliced.true in
          ap (λ x. x.items) w.out-is ∙ w.in_ok-append_unit.ensures.bytes
          ∙ ap (λ (x : List ℕ). mid ++ started x) w.as_ref.ensures.value
          ∙ ap (λ (b : Bool). mid ++ cond b (started u.bytes) []) (sym kept)
      | else-is_spliced w ↦
          let other : is_kept v k u ≡ false = sym is ∙ w.if-is_spliced.false in
          ap (λ x. x.items) w.out-is ∙ sym (append-nil mid)
          ∙ ap (λ (b : Bool). mid ++ cond b (started u.bytes) []) (sym other)
    ]) in
    record {
      grows = more_grown old mid new before.grows.0 (cond (is_kept v k u) (started u.bytes) []) before.grows.1 more;
      copied = copied_more stream c.loop-nalu.position next k v old mid new u before.copied first ahead within more;
    }

pub returns-clause-bytes : goal.returns-clause-bytes
returns-clause-bytes c =
    copied_all c.args.stream.now c.loop-nalu.position c.loop-nalu.unit c.args.first c.args.out.now.items
    c.loop-nalu.out.items c.in_default.field-0 c.loop-nalu.invariant.copied c.requires.headed
    (λ is. c.in_default.ensures.none.0 (ap Err is)) c.in_default.ensures.refused
