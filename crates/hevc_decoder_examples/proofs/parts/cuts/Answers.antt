use Rattle.std.proofs.Common.{◌≡◌, ℕ, List, [], ◌∷◌, ◌++◌, map, Some, refl, sym, ap, ◌∙◌, append-nil}
use Rattle.hevc_walk.specs.OrderCounts.{nearest}
use Rattle.hevc_walk.specs.Pictures.{head, order_count_in_range}
use Rattle.hevc_walk.specs.Buffer.{due_outputs, needs_additional_bumping, needs_bumping, with_stored}
use Rattle.hevc_walk.specs.ReferenceSets.{reference_set, with_marks}
use Rattle.hevc_walk.specs.ReferenceLists.{ref_pic_list0, ref_pic_list1}
use Rattle.hevc_walk.specs.Walk.{finish, store_picture, change_format, begin_picture, make_room, start_decoding}
use Rattle.hevc_walk.specs.Walk.{Event}
use Rattle.hevc_walk.specs.Results.{events, calls_in}
use Rattle.hevc_walk_examples.specs.Streams.{plain}
use Rattle.hevc_backend.specs.declared.call.Call.{Call}
use Rattle.hevc_driver.specs.Calls.{call_of}
use Rattle.hevc_decoder.specs.Headline.{all_asked}
use Rattle.hevc_decoder_examples.proofs.parts.cuts.Goals as goal

pub returns-clause-empty : goal.returns-clause-empty
unfolding head order_count_in_range nearest due_outputs needs_additional_bumping needs_bumping with_stored
    reference_set with_marks ref_pic_list0 ref_pic_list1 finish store_picture change_format begin_picture
    make_room start_decoding
returns-clause-empty c = record {
  done = [];
  rest = [];
  whole = refl;
  made = ([], refl, refl);
  given = ([], refl, refl);
  ends = (refl, refl);
}

none : (l : List (Call ℕ)) → Some [] ≡ Some ([] ++ l) → l ≡ []
none [] is = refl
none (x ∷ l) is = absurd (cc is)

some : [] ≡ all_asked (calls_in (events plain)) → ⊥
unfolding head order_count_in_range nearest due_outputs needs_additional_bumping needs_bumping with_stored
    reference_set with_marks ref_pic_list0 ref_pic_list1 finish store_picture change_format begin_picture
    make_room start_decoding
some is = cc is

pub returns-clause-early : goal.returns-clause-early
returns-clause-early c = λ h.
    let whole : events plain ≡ h.done = h.whole ∙ ap (λ r. h.done ++ r) h.ends.1 ∙ append-nil h.done in
    some (sym (ap (map call_of) (none h.made.0 h.made.1)) ∙ h.made.2 ∙ ap (λ es. all_asked (calls_in es)) (sym whole))
