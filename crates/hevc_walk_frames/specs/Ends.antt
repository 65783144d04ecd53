-- The one end of each picture: it is passed over, never to be shown, discarded, or output.
use Rattle.std.specs.Prelude.{ℕ, Bool, not, ◌&&◌, List, map, filter}
use Rattle.hevc_walk.specs.Pictures.{Picture}

-- the numbers of the pictures that pass a test
abbrev pub numbers_where : (Picture → Bool) → List Picture → List ℕ
numbers_where test ps = map (λ p. p.number) (filter test ps)

-- it isn't decoded (8.1.3)
abbrev pub is_skipped : Picture → Bool
is_skipped p = p.skipped

-- it is decoded, and isn't to be output: PicOutputFlag (8.1.3) is 0
abbrev pub is_hidden : Picture → Bool
is_hidden p = not p.skipped && not p.pic_output_flag
