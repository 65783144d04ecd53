-- The format of samples as that of the table.
use Rattle.hevc_tables.specs.SpsSccExtensionTable as table
use Rattle.hevc_sps.specs.declared.sample_format.SampleFormat.{SampleFormat}

abbrev pub plain_format : SampleFormat → table.SampleFormat
plain_format f = record {
  chroma_format_idc = f.chroma_format_idc;
  bit_depth_luma_minus8 = f.bit_depth_luma_minus8;
  bit_depth_chroma_minus8 = f.bit_depth_chroma_minus8;
}
