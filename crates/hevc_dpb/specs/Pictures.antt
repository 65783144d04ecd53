-- What is left of an iterator over the stored pictures.
use Rattle.std.specs.Prelude.{List, map}
use Rattle.hevc_pictures.specs.declared.picture_data.PictureData.{PictureData}
use Rattle.hevc_dpb.specs.declared.pictures.Pictures.{Pictures}

abbrev pub pictures_left : {T : Type 0} → Pictures T → List PictureData
pictures_left it = map (λ e. e.picture) it.entries.now
