use Rattle.hevc_write_slice_header.proofs.references.write_own_set.Goals as goal

pub returns : goal.returns
returns c = λ most. rw (← c.as_slice-sets.ensures) (c.write_short_term_ref_pic_set.ensures.rows most)
