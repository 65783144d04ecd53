use Rattle.std.proofs.Common.{[], ◌∷◌, refl, rules}
use Rattle.hevc_events.proofs.scan.scans_are_permutations.Goals as goal

-- the exchanges that lead to the table, the last one first
pub returns-clause-permutation_4x4 : goal.returns-clause-permutation_4x4
returns-clause-permutation_4x4 c = record {
  moves =
      (13, 14) ∷ (11, 14) ∷ (10, 11) ∷ (9, 12) ∷ (8, 9) ∷ (7, 12) ∷ (6, 8) ∷ (4, 5) ∷ (3, 9) ∷
      (2, 5) ∷ (1, 2) ∷ [];
  below = search rules;
  is = refl;
}

pub returns-clause-permutation_8x8 : goal.returns-clause-permutation_8x8
returns-clause-permutation_8x8 c = record {
  moves =
      (61, 62) ∷ (59, 60) ∷ (58, 62) ∷ (56, 62) ∷ (55, 62) ∷ (54, 59) ∷ (53, 55) ∷ (52, 56) ∷
      (50, 56) ∷ (49, 60) ∷ (47, 60) ∷ (46, 56) ∷ (45, 51) ∷ (44, 45) ∷ (43, 52) ∷ (42, 47) ∷
      (40, 42) ∷ (39, 57) ∷ (38, 52) ∷ (37, 46) ∷ (36, 39) ∷ (35, 53) ∷ (34, 48) ∷ (33, 34) ∷
      (32, 35) ∷ (31, 53) ∷ (30, 47) ∷ (29, 40) ∷ (28, 32) ∷ (26, 35) ∷ (25, 26) ∷ (24, 27) ∷
      (23, 48) ∷ (22, 41) ∷ (21, 33) ∷ (20, 25) ∷ (18, 19) ∷ (17, 35) ∷ (16, 34) ∷ (15, 42) ∷
      (14, 34) ∷ (13, 26) ∷ (12, 19) ∷ (11, 13) ∷ (10, 20) ∷ (9, 14) ∷ (8, 20) ∷ (7, 35) ∷
      (6, 27) ∷ (5, 20) ∷ (4, 14) ∷ (3, 9) ∷ (2, 5) ∷ (1, 2) ∷ [];
  below = search rules;
  is = refl;
}
