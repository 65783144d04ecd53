-- A backend that keeps nothing.
use Rattle.std.specs.Prelude.{None}
use Rattle.hevc_backend.specs.declared.silent.SilentBackend.{SilentBackend}
use Rattle.hevc_backend.specs.Trait.{Frames}

-- it doesn't count the questions for frames
abbrev pub frames_of : SilentBackend → Frames
frames_of backend = record { asked = None; found = backend.room }
