-- The id of a sequence set that is read is at most 15 (7.4.3.2.1).
use Rattle.std.proofs.Common.{◌≡◌, ℕ, ◌+◌, ◌<◌, Bool, List, arith}
use Rattle.hevc_spec.specs.Rows.{row}
use Rattle.hevc_spec.specs.Table.{gives, read}
use Rattle.hevc_records.specs.Sps.{PlainSps, default_sps}
use Rattle.hevc_tables.specs.SpsTable.{identity, with_picture_size, samples, window, cropping}
use Rattle.hevc_tables.specs.SpsTable.{with_half_ranges, depths, own_ordering, common_ordering}
use Rattle.hevc_tables.specs.SpsTable.{own_orderings, orderings, with_block_sizes, blocks}
use Rattle.hevc_tables.specs.SpsTable.{scaling_lists, scaling, pulse_code_modulation, tools}
use Rattle.hevc_tables.specs.SpsTable.{short_term, long_term_picture, long_term_pictures, long_term}
use Rattle.hevc_tables.specs.SpsTable.{usability_information, usability, extension_flags}
use Rattle.hevc_tables.specs.SpsTable.{range_extension, scc_extension, extension_data, extensions}
use Rattle.hevc_tables.specs.SpsTable.{format, coding, sequence_parameter_set}
use Rattle.hevc_stream_laws.proofs.Gives.{Gives, free, of_done, of_part, of_ue, of_when, of_either, of_repeat}

-- the id
abbrev P : PlainSps → Type 0
P s = s.seq_parameter_set_id < 16

identity_gives : (s : PlainSps) → Gives (identity s) P
unfolding identity
identity_gives s =
    free P (λ a. free P
    (λ b. free P
    (λ c. free P (λ d. of_part _ P (of_ue (row 5 5) 0 15) (λ id bound. of_done P _ (omega (arith, bound.1)))))))

samples_give : (s : PlainSps) → P s → Gives (samples s) P
unfolding samples with_picture_size
samples_give s h = free P (λ a. free P (λ b. free P (λ c. free P (λ d. of_done P _ h))))

window_gives : (s : PlainSps) → P s → Gives (window s) P
unfolding window
window_gives s h = free P (λ a. free P (λ b. free P (λ c. free P (λ d. free P (λ e. of_done P _ h)))))

cropping_gives : (s : PlainSps) → P s → Gives (cropping s) P
unfolding cropping
cropping_gives s h = free P (λ b. of_when P b s (window s) (λ _. window_gives s h) (λ _. h))

depths_give : (s : PlainSps) → P s → Gives (depths s) P
unfolding depths with_half_ranges
depths_give s h = free P (λ a. free P (λ b. free P (λ c. of_done P _ h)))

common_gives : (s : PlainSps) → P s → Gives (common_ordering s) P
unfolding common_ordering
common_gives s h = free P (λ b. free P (λ r. free P (λ l. of_done P _ h)))

own_gives : (i : ℕ) (s : PlainSps) → P s → Gives (own_ordering i s) P
unfolding own_ordering
own_gives i s h = free P (λ b. free P (λ r. free P (λ l. of_done P _ h)))

own_all_give : (s : PlainSps) → P s → Gives (own_orderings s) P
unfolding own_orderings
own_all_give s h = of_repeat (λ k. P) own_ordering (s.max_sub_layers_minus1 + 1) s h (λ k x below p. own_gives k x p)

orderings_give : (s : PlainSps) → P s → Gives (orderings s) P
unfolding orderings
orderings_give s h = free P (λ b. of_either P b _ _ (λ _. own_all_give _ h) (λ _. common_gives _ h))

blocks_give : (s : PlainSps) → P s → Gives (blocks s) P
unfolding blocks with_block_sizes with_picture_size
blocks_give s h = free P (λ a. free P (λ b. free P (λ c. free P (λ d. free P (λ e. of_done P _ h)))))

format_gives : (s : PlainSps) → Gives (format s) P
unfolding format
format_gives s =
    of_part _ P (identity_gives s)
    (λ a p. of_part _ P (samples_give a p) (λ b q. of_part _ P (cropping_gives b q) (λ c r.
    of_part _ P (depths_give c r) (λ d t. of_part _ P (orderings_give d t) (λ e u. blocks_give e u)))))

lists_give : (s : PlainSps) → P s → Gives (scaling_lists s) P
unfolding scaling_lists
lists_give s h = free P (λ a. of_done P _ h)

scaling_gives : (s : PlainSps) → P s → Gives (scaling s) P
unfolding scaling
scaling_gives s h =
    free P (λ a. free P (λ b. free P (λ c. free P (λ d. of_when P d _ _ (λ _. lists_give _ h) (λ _. h)))))

pcm_gives : (s : PlainSps) → P s → Gives (pulse_code_modulation s) P
unfolding pulse_code_modulation
pcm_gives s h = free P (λ a. free P (λ b. free P (λ c. free P (λ d. free P (λ e. of_done P _ h)))))

tools_give : (s : PlainSps) → P s → Gives (tools s) P
unfolding tools
tools_give s h = free P (λ a. free P (λ b. free P (λ c. of_when P c _ _ (λ _. pcm_gives _ h) (λ _. h))))

short_term_gives : (s : PlainSps) → P s → Gives (short_term s) P
unfolding short_term
short_term_gives s h = free P (λ count. free P (λ sets. of_done P _ h))

picture_gives : (i : ℕ) (s : PlainSps) → P s → Gives (long_term_picture i s) P
unfolding long_term_picture
picture_gives i s h = free P (λ lsb. free P (λ used. of_done P _ h))

pictures_give : (s : PlainSps) → P s → Gives (long_term_pictures s) P
unfolding long_term_pictures
pictures_give s h = of_repeat (λ k. P) long_term_picture s.num_long_term_ref_pics_sps s h
    (λ k x below p. picture_gives k x p)

long_term_gives : (s : PlainSps) → P s → Gives (long_term s) P
unfolding long_term
long_term_gives s h = free P (λ a. free P (λ b. pictures_give _ h))

information_gives : (s : PlainSps) → P s → Gives (usability_information s) P
unfolding usability_information
information_gives s h = free P (λ a. of_done P _ h)

usability_gives : (s : PlainSps) → P s → Gives (usability s) P
unfolding usability
usability_gives s h = free P (λ a. free P (λ b. free P (λ c. of_when P c _ _ (λ _. information_gives _ h) (λ _. h))))

flags_give : (s : PlainSps) → P s → Gives (extension_flags s) P
unfolding extension_flags
flags_give s h = free P (λ a. free P (λ b. free P (λ c. free P (λ d. free P (λ e. of_done P _ h)))))

range_gives : (s : PlainSps) → P s → Gives (range_extension s) P
unfolding range_extension with_half_ranges
range_gives s h = free P (λ a. of_done P _ h)

scc_gives : (s : PlainSps) → P s → Gives (scc_extension s) P
unfolding scc_extension
scc_gives s h = free P (λ a. of_done P _ h)

data_gives : (s : PlainSps) → P s → Gives (extension_data s) P
unfolding extension_data
data_gives s h =
    of_part _ P (flags_give s h)
    (λ a p. of_part _ P (of_when P a.range_extension_flag a (range_extension a) (λ _. range_gives a p) (λ _. p)) (λ b q.
    of_when P b.scc_extension_flag b (scc_extension b) (λ _. scc_gives b q) (λ _. q)))

extensions_give : (s : PlainSps) → P s → Gives (extensions s) P
unfolding extensions
extensions_give s h = free P (λ a. of_when P a _ _ (λ _. data_gives _ h) (λ _. h))

coding_gives : (s : PlainSps) → P s → Gives (coding s) P
unfolding coding
coding_gives s h =
    of_part _ P (scaling_gives s h)
    (λ a p. of_part _ P (tools_give a p) (λ b q. of_part _ P (short_term_gives b q) (λ c r.
    of_part _ P (long_term_gives c r) (λ d t. of_part _ P (usability_gives d t) (λ e u. extensions_give e u)))))

set_gives : Gives sequence_parameter_set P
unfolding sequence_parameter_set
set_gives = of_part _ P (format_gives default_sps) (λ s h. coding_gives s h)

pub sequence_set_id : (bits rest : List Bool) (set : PlainSps)
    → read sequence_parameter_set bits ≡ gives set rest → set.seq_parameter_set_id < 16
sequence_set_id bits rest set e = set_gives.each bits set rest e
