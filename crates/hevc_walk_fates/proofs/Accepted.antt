-- The format of the latest picture is the accepted one.
use Rattle.std.proofs.Common.{◌≡◌, ℕ, Bool, true, false, cond, ◌&&◌, eqb, List, [], ◌∷◌, refl, ◌∙◌}
use Rattle.std.proofs.Common.{ap, arith, Option, Some, None}
use Rattle.std.proofs.lemmas.Bool.Decides.{nat_tests}
use Rattle.hevc_walk.specs.Meanings.{Format, Slice, same_format}
use Rattle.hevc_walk.specs.Pictures.{Head, Picture}
use Rattle.hevc_walk.specs.Buffer.{bumping, draining, needs_bumping}
use Rattle.hevc_walk.specs.ReferenceSets.{reference_set, with_marks}
use Rattle.hevc_walk.specs.Walk.{◌>>=◌, nothing, Store, output_by, open_sequence, change_format}
use Rattle.hevc_walk.specs.Walk.{begin_picture, make_room, needed_entries, start_decoding, store}
use Rattle.hevc_walk.specs.Walk.{is_decoded, is_accepted}

pub equal_numbers : (m n : ℕ) → eqb m n ≡ true → m ≡ n
equal_numbers m n is = grind (arith, nat_tests)

both : (a b : Bool) → a && b ≡ true → (a ≡ true) × (b ≡ true)
both true b h = (refl, h)
both false b h = absurd (cc h)

format : ℕ → ℕ → ℕ → ℕ → ℕ → ℕ → ℕ → Format
format w h p l c i n = record {
  coded_width = w;
  coded_height = h;
  general_profile_idc = p;
  bit_depth_luma_minus8 = l;
  bit_depth_chroma_minus8 = c;
  chroma_format_idc = i;
  max_num_pics = n;
}

same_fields : (a b : Format) → a.coded_width ≡ b.coded_width → a.coded_height ≡ b.coded_height
    → a.general_profile_idc ≡ b.general_profile_idc → a.bit_depth_luma_minus8 ≡ b.bit_depth_luma_minus8
    → a.bit_depth_chroma_minus8 ≡ b.bit_depth_chroma_minus8 → a.chroma_format_idc ≡ b.chroma_format_idc
    → a.max_num_pics ≡ b.max_num_pics → a ≡ b
unfolding format
same_fields a b w h p l c i n =
    ap (λ x. format x a.coded_height a.general_profile_idc a.bit_depth_luma_minus8 a.bit_depth_chroma_minus8
    a.chroma_format_idc a.max_num_pics) w
    ∙ ap (λ x. format b.coded_width x a.general_profile_idc a.bit_depth_luma_minus8
    a.bit_depth_chroma_minus8 a.chroma_format_idc a.max_num_pics) h
    ∙ ap (λ x. format b.coded_width b.coded_height x a.bit_depth_luma_minus8 a.bit_depth_chroma_minus8
    a.chroma_format_idc a.max_num_pics) p
    ∙ ap (λ x. format b.coded_width b.coded_height b.general_profile_idc x a.bit_depth_chroma_minus8
    a.chroma_format_idc a.max_num_pics) l
    ∙ ap (λ x. format b.coded_width b.coded_height b.general_profile_idc b.bit_depth_luma_minus8 x
    a.chroma_format_idc a.max_num_pics) c
    ∙ ap (λ x. format b.coded_width b.coded_height b.general_profile_idc b.bit_depth_luma_minus8
    b.bit_depth_chroma_minus8 x a.max_num_pics) i
    ∙ ap (λ x. format b.coded_width b.coded_height b.general_profile_idc b.bit_depth_luma_minus8
    b.bit_depth_chroma_minus8 b.chroma_format_idc x) n

pub same_format-equal : (a b : Format) → same_format a b ≡ true → a ≡ b
same_format-equal a b h =
    let w = eqb a.coded_width b.coded_width in
    let wh = w && eqb a.coded_height b.coded_height in
    let whp = wh && eqb a.general_profile_idc b.general_profile_idc in
    let whpl = whp && eqb a.bit_depth_luma_minus8 b.bit_depth_luma_minus8 in
    let whplc = whpl && eqb a.bit_depth_chroma_minus8 b.bit_depth_chroma_minus8 in
    let whplci = whplc && eqb a.chroma_format_idc b.chroma_format_idc in
    let h1 = both whplci (eqb a.max_num_pics b.max_num_pics) h in
    let h2 = both whplc (eqb a.chroma_format_idc b.chroma_format_idc) h1.0 in
    let h3 = both whpl (eqb a.bit_depth_chroma_minus8 b.bit_depth_chroma_minus8) h2.0 in
    let h4 = both whp (eqb a.bit_depth_luma_minus8 b.bit_depth_luma_minus8) h3.0 in
    let h5 = both wh (eqb a.general_profile_idc b.general_profile_idc) h4.0 in
    let h6 = both w (eqb a.coded_height b.coded_height) h5.0 in
    same_fields a b (equal_numbers _ _ h6.0) (equal_numbers _ _ h6.1) (equal_numbers _ _ h5.1)
    (equal_numbers _ _ h4.1) (equal_numbers _ _ h3.1) (equal_numbers _ _ h2.1) (equal_numbers _ _ h1.1)

accepted_same : (f : Format) (o : Option Format) → is_accepted f o ≡ true → o ≡ Some f
accepted_same f None h = absurd (cc h)
accepted_same f (Some a) h = ap (λ (x : Format). Some x) (same_format-equal a f h)

pub change-accepted : (f : Format) (s : Store) → (change_format f s).next.accepted ≡ Some f
unfolding change_format
change-accepted f s = by_test (is_accepted f s.accepted) refl
  where
    by_test : (b : Bool) → is_accepted f s.accepted ≡ b
        → (cond b (nothing s) (output_by draining s >>= open_sequence f)).next.accepted ≡ Some f
    by_test true h = accepted_same f s.accepted h
    by_test false h = refl

make_room-accepted : (p : Head) (s : Store) → (make_room p s).next.accepted ≡ s.accepted
unfolding make_room
make_room-accepted p s = by_tests p.no_output_of_prior_pics p.starts_sequence
  where
    by_tests : (b c : Bool)
        → (cond b (nothing (record s { buffer = [] }))
        (cond c (output_by draining s)
        (output_by (bumping (needs_bumping p.limits))
        (record s { buffer = needed_entries s.buffer })))).next.accepted ≡ s.accepted
    by_tests true c = refl
    by_tests false true = refl
    by_tests false false = refl

begin-accepted : (p : Head) (first : Slice) (s : Store) → (begin_picture p first s).next.accepted ≡ s.accepted
unfolding begin_picture start_decoding
begin-accepted p first s = by_test (is_decoded p)
  where
    t : Store
    t = record s { buffer = with_marks p first s.buffer }

    by_test : (b : Bool)
        → (cond b (make_room p t >>= start_decoding p (reference_set p first s.buffer))
        (nothing s)).next.accepted ≡ s.accepted
    by_test true = make_room-accepted p t
    by_test false = refl

pub accepted_is : (set : Option (ℕ × Format)) (p : Picture) (before : List Picture)
    → (store set (p ∷ before)).accepted ≡ Some p.format
accepted_is set p before = begin-accepted p.head p.first _ ∙ change-accepted p.format _
