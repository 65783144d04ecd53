-- What is set for decoding, as the definitions of streams have it (8.1.2, 8.1.3).
use Rattle.hevc_stream.specs.Options as stream
use Rattle.hevc_options.specs.declared.Options.{Options}

abbrev pub options_of : Options → stream.Options
options_of o = record {
  handle_cra_as_bla = o.handle_cra_as_bla;
  highest_tid = o.highest_tid;
  highest_layer = o.highest_layer;
}
