-- A picture set that is read can be written.
use Rattle.std.proofs.Common.{◌≡◌, ℕ, Bool, true, false, cond, eqb, List, refl, sym, ap, ◌∙◌, subst}
use Rattle.std.proofs.Common.{Option, Some, None, arith}
use Rattle.std.specs.Prelude.{◌==◌, if◌then◌else◌, IsSome, IfSome, option_map}
use Rattle.std.proofs.lemmas.Bool.{eqb-true}
use Rattle.std.proofs.lemmas.Bool.Decides.{nat_tests}
use Rattle.hevc_spec.specs.Lines.{Line}
use Rattle.hevc_spec.specs.Rows.{row}
use Rattle.hevc_spec.specs.Table.{Reading, gives, refuses, read, reading_then}
use Rattle.hevc_spec.specs.UnitHeader.{UnitHeader}
use Rattle.hevc_records.specs.Pps.{PlainPps, default_pps}
use Rattle.hevc_records.specs.Sps.{PlainSps}
use Rattle.hevc_stream.specs.Slices.{temporal_id}
use Rattle.hevc_stream_laws.proofs.PictureSets.{picture_set_gives}
use Rattle.hevc_tables.specs.PpsTable.{ids, named, picture_set_of, picture_parameter_set}
use Rattle.hevc_write_units.specs.Values.{PictureSetLines, only_sequence_set}
use Rattle.hevc_write.proofs.Taking.{lines_of}

-- lines are those of a picture set after the sequence set that is kept
pub lines_of_one : (header : UnitHeader) (pps : PlainPps) (lines : List Line) (s sps : PlainSps)
    (kept : Option PlainSps) → kept ≡ Some s → kept ≡ Some sps → PictureSetLines s pps header lines
    → PictureSetLines sps pps header lines
lines_of_one header pps lines s sps kept p q has =
    let both : Some s ≡ Some sps = sym p ∙ q in
    let same : s ≡ sps = cc both in
    subst (λ (set : PlainSps). PictureSetLines set pps header lines) same has

-- a picture set that is read names a sequence set that is kept
pub names : (tid : ℕ) (kept : ℕ → Option PlainSps) (bits rest : List Bool) (pps : PlainPps)
    → read (picture_parameter_set tid kept) bits ≡ gives pps rest
    → (sps : PlainSps) × (kept pps.seq_parameter_set_id ≡ Some sps)
names tid kept bits rest pps e =
    let is = (picture_set_gives kept tid).each bits pps rest e in
    (is.sps, is.names)

module _ (tid : ℕ) (kept : ℕ → Option PlainSps) (sps : PlainSps) (bits rest : List Bool) (pps : PlainPps)
    (at : kept pps.seq_parameter_set_id ≡ Some sps) (own : sps.seq_parameter_set_id ≡ pps.seq_parameter_set_id)
    (e : read (picture_parameter_set tid kept) bits ≡ gives pps rest) where
  -- what is read after rows 1 and 2
  after : PlainPps → Option PlainSps → List Bool → Reading PlainPps
  unfolding named
  after p o r = reading_then (read (named (row 11 2) p.seq_parameter_set_id o) r)
      (λ s others. read (picture_set_of s p) others)

  -- reading begins with rows 1 and 2
  start : (k : ℕ → Option PlainSps) (reading : Reading PlainPps)
      → read (ids (record default_pps { temporal_id = tid })) bits ≡ reading
      → read (picture_parameter_set tid k) bits ≡ reading_then reading (λ p r. after p (k p.seq_parameter_set_id) r)
  unfolding picture_parameter_set after named
  start k reading q = ap (λ (x : Reading PlainPps). reading_then x (λ p r. after p (k p.seq_parameter_set_id) r)) q

  -- the id that is read is that of the set
  same_id : (p : PlainPps) (t : Bool) (s : PlainSps)
      → eqb pps.seq_parameter_set_id p.seq_parameter_set_id ≡ t
      → cond t (kept pps.seq_parameter_set_id) None ≡ Some s → pps.seq_parameter_set_id ≡ p.seq_parameter_set_id
  same_id p true s is f = eqb-true pps.seq_parameter_set_id p.seq_parameter_set_id is
  same_id p false s is f = absurd (cc f)

  -- whatever rows 1 and 2 are
  cases : (reading : Reading PlainPps)
      → read (ids (record default_pps { temporal_id = tid })) bits ≡ reading
      → read (picture_parameter_set tid (only_sequence_set sps)) bits ≡ gives pps rest
  cases (refuses fault r) q = absurd (cc (sym (start kept (refuses fault r) q) ∙ e))
  cases (gives p r) q =
      let id = p.seq_parameter_set_id in
      let alone : ℕ → Option PlainSps = λ k. if k == id then kept k else None in
      let e1 : after p (kept id) r ≡ gives pps rest = sym (start kept (gives p r) q) ∙ e in
      let self : eqb id id ≡ true = grind (arith, nat_tests) in
      let at0 : alone id ≡ kept id = rw self refl in
      let e0 = start alone (gives p r) q ∙ ap (λ (o : Option PlainSps). after p o r) at0 ∙ e1 in
      let found = names tid alone bits rest pps e0 in
      let same : pps.seq_parameter_set_id ≡ id = same_id p (eqb pps.seq_parameter_set_id id) found.0 refl found.1 in
      let at1 : kept id ≡ Some sps = ap kept (sym same) ∙ at in
      let is : eqb id sps.seq_parameter_set_id ≡ true = grind (arith, nat_tests, same, own) in
      let at2 : only_sequence_set sps id ≡ Some sps = rw is refl in
      start (only_sequence_set sps) (gives p r) q ∙ ap (λ (o : Option PlainSps). after p o r) (at2 ∙ sym at1) ∙ e1

  -- a picture set is read with its sequence set alone
  pub read_alone : read (picture_parameter_set tid (only_sequence_set sps)) bits ≡ gives pps rest
  read_alone = cases (read (ids (record default_pps { temporal_id = tid })) bits) refl

-- a picture set that is read has lines
pub picture_lines : (header : UnitHeader) (kept : ℕ → Option PlainSps) (sps : PlainSps)
    (bits rest : List Bool) (pps : PlainPps) → header.nal_unit_type ≡ 34
    → kept pps.seq_parameter_set_id ≡ Some sps → sps.seq_parameter_set_id ≡ pps.seq_parameter_set_id
    → read (picture_parameter_set (temporal_id header) kept) bits ≡ gives pps rest
    → (lines : List Line) × PictureSetLines sps pps header lines
picture_lines header kept sps bits rest pps typed at own e =
    let l = lines_of 34 (picture_parameter_set (temporal_id header) (only_sequence_set sps)) pps header bits
    rest typed (read_alone (temporal_id header) kept sps bits rest pps at own e) in
    (l.0, record { names = sym own; set = l.1 })

-- what a view is had of is there
pub some_mapped : {X A : Type 0} (view : X → A) (o : Option X) (a : A) → option_map view o ≡ Some a → IsSome o
some_mapped view (Some x) a e = refl
some_mapped view None a e = absurd (cc e)

-- what holds of it where it is there holds of it
pub at_some : {X : Type 0} (o : Option X) (x : X) (P : X → Type 0) → o ≡ Some x → IfSome o P → P x
at_some (Some y) x P e p = subst P (cc e) p
at_some None x P e p = absurd (cc e)
