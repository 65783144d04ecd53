-- Sequence parameter sets that are read (7.3.2.2.1).
use Rattle.std.proofs.Common.{◌≡◌, ℕ, ◌+◌, ◌-◌, ◌^◌, ◌≤◌, ◌<◌, List, [], ◌∷◌, ◌++◌, length}
use Rattle.std.proofs.Common.{replicate, refl, arith, pow_pos}
use Rattle.std.specs.Prelude.{All}
use Rattle.std.proofs.lemmas.List.{length-append}
use Rattle.std.proofs.lemmas.List.Elements.{All-nil, All-append, All-replicate, All-set, All-push}
use Rattle.hevc_spec.specs.Rows.{row}
use Rattle.hevc_records.specs.ShortTermRefPicSet.{PlainShortTermRefPicSet}
use Rattle.hevc_records.specs.Sps.{PlainSps, default_sps}
use Rattle.hevc_tables.specs.VpsTable.{up_to_highest}
use Rattle.hevc_tables.specs.SpsTable.{identity, with_picture_size, samples, window, cropping}
use Rattle.hevc_tables.specs.SpsTable.{with_half_ranges, depths, own_ordering, common_ordering}
use Rattle.hevc_tables.specs.SpsTable.{own_orderings, orderings, with_block_sizes, blocks}
use Rattle.hevc_tables.specs.SpsTable.{scaling_lists, scaling, pulse_code_modulation, tools}
use Rattle.hevc_tables.specs.SpsTable.{highest_buffering, short_term_set, short_term_sets}
use Rattle.hevc_tables.specs.SpsTable.{short_term, long_term_picture, long_term_pictures, long_term}
use Rattle.hevc_tables.specs.SpsTable.{usability_information, usability, extension_flags}
use Rattle.hevc_tables.specs.SpsTable.{range_extension, scc_extension, extension_data, extensions}
use Rattle.hevc_tables.specs.SpsTable.{format, coding, sequence_parameter_set}
use Rattle.hevc_stream_laws.proofs.Gives.{Gives, free, of_done, of_part, of_ue, of_bits, of_when, of_either, of_repeat}
use Rattle.hevc_stream_laws.proofs.ShortTermSets.{IsSet, set_gives, at_or}

-- what rows 1 to 24 give: numbers of reordering, latency and buffering, and of the low bits of order counts
pub record Orders (reorders latencies bufferings : List ℕ) (log2_minus4 : ℕ) : Type 0 where
  pub reorder : All (λ n. n < 256) reorders
  pub latency : All (λ n. n < 256) latencies
  pub buffering : All (λ n. n ≤ 16) bufferings
  pub log2 : log2_minus4 ≤ 12

-- what the rows after them give: the short-term sets, and low bits of long-term pictures
pub record References (log2_minus4 number : ℕ) (all_sets : List PlainShortTermRefPicSet)
    (all_lsbs : List ℕ) : Type 0 where
  pub count : length all_sets ≡ number
  pub sets : All IsSet all_sets
  pub lsbs : All (λ n. n < 2 ^ (log2_minus4 + 4)) all_lsbs

abbrev pub HasOrders : PlainSps → Type 0
HasOrders s =
    Orders s.max_num_reorder_pics s.max_latency_increase_plus1 s.max_dec_pic_buffering_minus1
    s.log2_max_pic_order_cnt_lsb_minus4

abbrev pub HasReferences : PlainSps → Type 0
HasReferences s =
    References s.log2_max_pic_order_cnt_lsb_minus4 s.num_short_term_ref_pic_sets s.short_term_ref_pic_set
    s.lt_ref_pic_poc_lsb_sps

abbrev pub IsSequenceSet : PlainSps → Type 0
IsSequenceSet s = HasOrders s × HasReferences s

-- nothing of them is read yet
abbrev HasNone : PlainSps → Type 0
HasNone s = (s.num_short_term_ref_pic_sets ≡ 0) × (s.short_term_ref_pic_set ≡ [])
    × (s.lt_ref_pic_poc_lsb_sps ≡ replicate 32 0)

abbrev Begins : PlainSps → Type 0
Begins s = HasOrders s × HasNone s

-- ---- rows 1 to 24

identity_gives : (s : PlainSps) → Begins s → Gives (identity s) Begins
unfolding identity
identity_gives s h =
    free Begins (λ a. free Begins (λ b. free Begins (λ c. free Begins (λ d. free Begins (λ e. of_done Begins _ h)))))

samples_give : (s : PlainSps) → Begins s → Gives (samples s) Begins
unfolding samples with_picture_size
samples_give s h = free Begins (λ a. free Begins (λ b. free Begins (λ c. free Begins (λ d. of_done Begins _ h))))

window_gives : (s : PlainSps) → Begins s → Gives (window s) Begins
unfolding window
window_gives s h =
    free Begins (λ a. free Begins (λ b. free Begins (λ c. free Begins (λ d. free Begins (λ e. of_done Begins _ h)))))

cropping_gives : (s : PlainSps) → Begins s → Gives (cropping s) Begins
unfolding cropping
cropping_gives s h = free Begins (λ b. of_when Begins b s (window s) (λ _. window_gives s h) (λ _. h))

depths_give : (s : PlainSps) → Begins s → Gives (depths s) Begins
unfolding depths with_half_ranges
depths_give s h =
    free Begins (λ a. free Begins
    (λ b. of_part _ Begins (of_ue (row 5 15) 0 12)
    (λ n bound. of_done Begins _ (
      record {
        reorder = h.0.reorder;
        latency = h.0.latency;
        buffering = h.0.buffering;
        log2 = bound.1;
      },
      h.1,
    ))))

highest_all : (P : ℕ → Type 0) (top n : ℕ) → P n → P 0 → All P (up_to_highest top n)
highest_all P top n p z =
    All-append P (replicate (top + 1) n) (replicate (6 - top) 0) (All-replicate P (top + 1) n p)
    (All-replicate P (6 - top) 0 z)

common_gives : (s : PlainSps) → Begins s → Gives (common_ordering s) Begins
unfolding common_ordering
common_gives s h =
    of_part _ Begins (of_ue (row 5 17) 0 16)
    (λ b bound. of_part _ Begins (of_ue (row 5 18) 0 b)
    (λ r below. of_part _ Begins (of_ue (row 5 19) 0 255) (λ l short.
    of_done Begins _ (
      record {
        reorder = highest_all (λ n. n < 256) s.max_sub_layers_minus1 r (omega (arith, bound.1, below.1)) (omega arith);
        latency = highest_all (λ n. n < 256) s.max_sub_layers_minus1 l (omega (arith, short.1)) (omega arith);
        buffering = highest_all (λ n. n ≤ 16) s.max_sub_layers_minus1 b bound.1 (omega arith);
        log2 = h.0.log2;
      },
      h.1,
    ))))

own_gives : (i : ℕ) (s : PlainSps) → Begins s → Gives (own_ordering i s) Begins
unfolding own_ordering
own_gives i s h =
    of_part _ Begins (of_ue (row 5 17) 0 16)
    (λ b bound. of_part _ Begins (of_ue (row 5 18) 0 b)
    (λ r below. of_part _ Begins (of_ue (row 5 19) 0 255) (λ l short.
    of_done Begins _ (
      record {
        reorder = All-set (λ n. n < 256) s.max_num_reorder_pics i r (omega (arith, bound.1, below.1)) h.0.reorder;
        latency = All-set (λ n. n < 256) s.max_latency_increase_plus1 i l (omega (arith, short.1)) h.0.latency;
        buffering = All-set (λ n. n ≤ 16) s.max_dec_pic_buffering_minus1 i b bound.1 h.0.buffering;
        log2 = h.0.log2;
      },
      h.1,
    ))))

own_all_give : (s : PlainSps) → Begins s → Gives (own_orderings s) Begins
unfolding own_orderings
own_all_give s h = of_repeat (λ k. Begins) own_ordering (s.max_sub_layers_minus1 + 1) s h
    (λ k x below p. own_gives k x p)

orderings_give : (s : PlainSps) → Begins s → Gives (orderings s) Begins
unfolding orderings
orderings_give s h = free Begins (λ b. of_either Begins b _ _ (λ _. own_all_give _ h) (λ _. common_gives _ h))

blocks_give : (s : PlainSps) → Begins s → Gives (blocks s) Begins
unfolding blocks with_block_sizes with_picture_size
blocks_give s h =
    free Begins (λ a. free Begins (λ b. free Begins (λ c. free Begins (λ d. free Begins (λ e. of_done Begins _ h)))))

format_gives : (s : PlainSps) → Begins s → Gives (format s) Begins
unfolding format
format_gives s h =
    of_part _ Begins (identity_gives s h)
    (λ a p. of_part _ Begins (samples_give a p) (λ b q. of_part _ Begins (cropping_gives b q) (λ c r.
    of_part _ Begins (depths_give c r) (λ d t. of_part _ Begins (orderings_give d t) (λ e u. blocks_give e u)))))

-- ---- rows 25 to 50

lists_give : (s : PlainSps) → IsSequenceSet s → Gives (scaling_lists s) IsSequenceSet
unfolding scaling_lists
lists_give s h = free IsSequenceSet (λ a. of_done IsSequenceSet _ h)

scaling_gives : (s : PlainSps) → IsSequenceSet s → Gives (scaling s) IsSequenceSet
unfolding scaling
scaling_gives s h =
    free IsSequenceSet
    (λ a. free IsSequenceSet
    (λ b. free IsSequenceSet
    (λ c. free IsSequenceSet (λ d. of_when IsSequenceSet d _ _ (λ _. lists_give _ h) (λ _. h)))))

pcm_gives : (s : PlainSps) → IsSequenceSet s → Gives (pulse_code_modulation s) IsSequenceSet
unfolding pulse_code_modulation
pcm_gives s h =
    free IsSequenceSet
    (λ a. free IsSequenceSet
    (λ b. free IsSequenceSet (λ c. free IsSequenceSet (λ d. free IsSequenceSet (λ e. of_done IsSequenceSet _ h)))))

tools_give : (s : PlainSps) → IsSequenceSet s → Gives (tools s) IsSequenceSet
unfolding tools
tools_give s h =
    free IsSequenceSet
    (λ a. free IsSequenceSet (λ b. free IsSequenceSet (λ c. of_when IsSequenceSet c _ _ (λ _. pcm_gives _ h) (λ _. h))))

record Sets (k : ℕ) (sets : List PlainShortTermRefPicSet) : Type 0 where
  long : length sets ≡ k
  are : All IsSet sets

set_step : (count buffering k : ℕ) (sets : List PlainShortTermRefPicSet) → buffering ≤ 16 → Sets k sets
    → Gives (short_term_set count buffering k sets) (Sets (k + 1))
unfolding short_term_set
set_step count buffering k sets bound s =
    of_part _ (Sets (k + 1)) (set_gives sets count buffering k s.are bound)
    (λ set is. of_done (Sets (k + 1)) (sets ++ set ∷ []) (record {
      long = simp length-append (omega (arith, s.long));
      are = All-push IsSet sets set s.are is;
    }))

sets_give : (count buffering : ℕ) → buffering ≤ 16 → Gives (short_term_sets count buffering) (Sets count)
unfolding short_term_sets
sets_give count buffering bound =
    of_repeat Sets (short_term_set count buffering) count [] (record { long = refl; are = All-nil IsSet })
    (λ k sets below s. set_step count buffering k sets bound s)

pub buffering_bound : (s : PlainSps) → HasOrders s → highest_buffering s ≤ 16
buffering_bound s h =
    at_or (λ n. n ≤ 16) s.max_dec_pic_buffering_minus1 s.max_sub_layers_minus1 0 h.buffering (omega arith)

short_term_gives : (s : PlainSps) → IsSequenceSet s → Gives (short_term s) IsSequenceSet
unfolding short_term
short_term_gives s h =
    free IsSequenceSet
    (λ count. of_part _ IsSequenceSet (sets_give count (highest_buffering s) (buffering_bound s h.0)) (λ sets are.
    of_done IsSequenceSet _ (h.0, record { count = are.long; sets = are.are; lsbs = h.1.lsbs })))

picture_gives : (i : ℕ) (s : PlainSps) → IsSequenceSet s → Gives (long_term_picture i s) IsSequenceSet
unfolding long_term_picture
picture_gives i s h =
    let m = s.log2_max_pic_order_cnt_lsb_minus4 + 4 in
    of_part _ IsSequenceSet (of_bits (row 5 39) m 0 (2 ^ m - 1)) (λ lsb bound. free IsSequenceSet (λ used.
    of_done IsSequenceSet _ (
      h.0,
      record {
        count = h.1.count;
        sets = h.1.sets;
        lsbs = All-set (λ n. n < 2 ^ m) s.lt_ref_pic_poc_lsb_sps i lsb (omega (arith, bound.1, pow_pos m)) h.1.lsbs;
      },
    )))

pictures_give : (s : PlainSps) → IsSequenceSet s → Gives (long_term_pictures s) IsSequenceSet
unfolding long_term_pictures
pictures_give s h = of_repeat (λ k. IsSequenceSet) long_term_picture s.num_long_term_ref_pics_sps s h
    (λ k x below p. picture_gives k x p)

long_term_gives : (s : PlainSps) → IsSequenceSet s → Gives (long_term s) IsSequenceSet
unfolding long_term
long_term_gives s h = free IsSequenceSet (λ a. free IsSequenceSet (λ b. pictures_give _ h))

information_gives : (s : PlainSps) → IsSequenceSet s → Gives (usability_information s) IsSequenceSet
unfolding usability_information
information_gives s h = free IsSequenceSet (λ a. of_done IsSequenceSet _ h)

usability_gives : (s : PlainSps) → IsSequenceSet s → Gives (usability s) IsSequenceSet
unfolding usability
usability_gives s h =
    free IsSequenceSet
    (λ a. free IsSequenceSet
    (λ b. free IsSequenceSet (λ c. of_when IsSequenceSet c _ _ (λ _. information_gives _ h) (λ _. h))))

flags_give : (s : PlainSps) → IsSequenceSet s → Gives (extension_flags s) IsSequenceSet
unfolding extension_flags
flags_give s h =
    free IsSequenceSet
    (λ a. free IsSequenceSet
    (λ b. free IsSequenceSet (λ c. free IsSequenceSet (λ d. free IsSequenceSet (λ e. of_done IsSequenceSet _ h)))))

range_gives : (s : PlainSps) → IsSequenceSet s → Gives (range_extension s) IsSequenceSet
unfolding range_extension with_half_ranges
range_gives s h = free IsSequenceSet (λ a. of_done IsSequenceSet _ h)

scc_gives : (s : PlainSps) → IsSequenceSet s → Gives (scc_extension s) IsSequenceSet
unfolding scc_extension
scc_gives s h = free IsSequenceSet (λ a. of_done IsSequenceSet _ h)

data_gives : (s : PlainSps) → IsSequenceSet s → Gives (extension_data s) IsSequenceSet
unfolding extension_data
data_gives s h =
    of_part _ IsSequenceSet (flags_give s h)
    (λ a p. of_part _ IsSequenceSet (of_when IsSequenceSet a.range_extension_flag a (range_extension a)
    (λ _. range_gives a p) (λ _. p)) (λ b q.
    of_when IsSequenceSet b.scc_extension_flag b (scc_extension b) (λ _. scc_gives b q) (λ _. q)))

extensions_give : (s : PlainSps) → IsSequenceSet s → Gives (extensions s) IsSequenceSet
unfolding extensions
extensions_give s h = free IsSequenceSet (λ a. of_when IsSequenceSet a _ _ (λ _. data_gives _ h) (λ _. h))

coding_gives : (s : PlainSps) → IsSequenceSet s → Gives (coding s) IsSequenceSet
unfolding coding
coding_gives s h =
    of_part _ IsSequenceSet (scaling_gives s h)
    (λ a p. of_part _ IsSequenceSet (tools_give a p) (λ b q. of_part _ IsSequenceSet (short_term_gives b q) (λ c r.
    of_part _ IsSequenceSet (long_term_gives c r)
    (λ d t. of_part _ IsSequenceSet (usability_gives d t) (λ e u. extensions_give e u)))))

-- ---- the table

default_begins : Begins default_sps
default_begins = (
  record {
    reorder = All-replicate (λ n. n < 256) 7 0 (omega arith);
    latency = All-replicate (λ n. n < 256) 7 0 (omega arith);
    buffering = All-replicate (λ n. n ≤ 16) 7 0 (omega arith);
    log2 = omega arith;
  },
  (refl, refl, refl),
)

none_yet : (s : PlainSps) → HasNone s → HasReferences s
none_yet s h =
    let m = s.log2_max_pic_order_cnt_lsb_minus4 + 4 in
    record {
      count = rw (h.0, h.1) refl;
      sets = rw h.1 (All-nil IsSet);
      lsbs = rw h.2 (All-replicate (λ n. n < 2 ^ m) 32 0 (pow_pos m));
    }

-- table 5
pub sequence_set_gives : Gives sequence_parameter_set IsSequenceSet
unfolding sequence_parameter_set
sequence_set_gives = of_part _ IsSequenceSet (format_gives default_sps default_begins)
    (λ s h. coding_gives s (h.0, none_yet s h.1))
