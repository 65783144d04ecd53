use Rattle.std.proofs.Common.{rules}
use Rattle.hevc_pictures.proofs.picture_data.PictureData.reference.Goals as goal

pub returns : goal.returns
returns c = search rules
