use Rattle.std.proofs.Common.{◌-◌, ◌∷◌, ◌++◌, [], Some, ap, sym, ◌∙◌, arith}
use Rattle.std.specs.Prelude.{option_map}
use Rattle.std.proofs.lemmas.List.{length-take, map-append, take-map}
use Rattle.arrayvec.specs.ArrayVec.{array_vec_len}
use Rattle.hevc_walk.specs.ReferenceLists as walk
use Rattle.hevc_refs.specs.Lists.{plain_place, plain_places}
use Rattle.hevc_refs.proofs.ref_pic_lists.put_current_last.Goals as goal

pub push-requires : goal.push-requires
push-requires c = (
  omega arith,
  let l = simp length-take at
      (ap (λ l. array_vec_len (record c.pop.new.self { items = l })) c.pop.ensures.rest) in omega (arith, l),
)

pub returns : goal.returns
returns c = ap plain_places c.push.ensures.items
    ∙ map-append (option_map plain_place) c.pop.new.self.items _
    ∙ ap (λ l. l ++ Some walk.CurrentPicture ∷ []) (ap plain_places c.pop.ensures.rest
    ∙ sym (take-map (option_map plain_place) (array_vec_len c.args.places.now - 1) c.args.places.now.items))
