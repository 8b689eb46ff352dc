-- Published test vectors of BLAKE2s, computed.
use Rattle.std.proofs.Common.{◌≡◌, [], ◌∷◌, refl, Some, None}
use Rattle.key_names.specs.Kernel.Blake2s.{blake2s, compressed, folded, start_vector, round, mixed_at, mixed}
use Rattle.rand_core.specs.Steps.{u32_at}

-- the hash of "abc"
pub blake2s_abc : blake2s None (97 ∷ 98 ∷ 99 ∷ []) ≡ 80 ∷ 140 ∷ 94 ∷ 140 ∷ 50 ∷ 124 ∷ 20 ∷ 226 ∷ 225 ∷ 167 ∷ 43 ∷
    163 ∷ 78 ∷ 235 ∷ 69 ∷ 47 ∷ 55 ∷ 69 ∷ 139 ∷ 32 ∷ 158 ∷ 214 ∷ 58 ∷ 41 ∷ 77 ∷ 153 ∷ 155 ∷ 76 ∷ 134 ∷ 103 ∷ 89 ∷
    130 ∷ []
unfolding blake2s compressed folded start_vector round mixed_at mixed u32_at
blake2s_abc = refl

-- the hash of a text under a key. The key and the text make three blocks
pub blake2s_keyed : blake2s (Some (0 ∷ 1 ∷ 2 ∷ 3 ∷ 4 ∷ 5 ∷ 6 ∷ 7 ∷ 8 ∷ 9 ∷ 10 ∷ 11 ∷ 12 ∷ 13 ∷ 14 ∷ 15 ∷ 16 ∷ 17 ∷
    18 ∷ 19 ∷ 20 ∷ 21 ∷ 22 ∷ 23 ∷ 24 ∷ 25 ∷ 26 ∷ 27 ∷ 28 ∷ 29 ∷ 30 ∷ 31 ∷
    [])) (0 ∷ 1 ∷ 2 ∷ 3 ∷ 4 ∷ 5 ∷ 6 ∷ 7 ∷ 8 ∷ 9 ∷ 10 ∷ 11 ∷ 12 ∷ 13 ∷ 14 ∷ 15 ∷ 16 ∷ 17 ∷ 18 ∷ 19 ∷ 20 ∷ 21 ∷ 22 ∷ 23
    ∷ 24 ∷ 25 ∷ 26 ∷ 27 ∷ 28 ∷ 29 ∷ 30 ∷ 31 ∷ 32 ∷ 33 ∷ 34 ∷ 35 ∷ 36 ∷ 37 ∷ 38 ∷ 39 ∷ 40 ∷ 41 ∷ 42 ∷ 43 ∷ 44 ∷ 45
    ∷ 46 ∷ 47 ∷ 48 ∷ 49 ∷ 50 ∷ 51 ∷ 52 ∷ 53 ∷ 54 ∷ 55 ∷ 56 ∷ 57 ∷ 58 ∷ 59 ∷ 60 ∷ 61 ∷ 62 ∷ 63 ∷ 64 ∷ 65 ∷ 66 ∷ 67
    ∷ 68 ∷ 69 ∷ 70 ∷ 71 ∷ 72 ∷ 73 ∷ 74 ∷ 75 ∷ 76 ∷ 77 ∷ 78 ∷ 79 ∷ 80 ∷ 81 ∷ 82 ∷ 83 ∷ 84 ∷ 85 ∷ 86 ∷ 87 ∷ 88 ∷ 89
    ∷ 90 ∷ 91 ∷ 92 ∷ 93 ∷ 94 ∷ 95 ∷ 96 ∷ 97 ∷ 98 ∷ 99 ∷ []) ≡ 195 ∷ 118 ∷ 97 ∷ 112 ∷ 20 ∷ 210 ∷ 1 ∷ 88 ∷ 188 ∷ 237
    ∷ 61 ∷ 59 ∷ 165 ∷ 82 ∷ 182 ∷ 236 ∷ 207 ∷ 132 ∷ 230 ∷ 42 ∷ 163 ∷ 235 ∷ 101 ∷ 14 ∷ 144 ∷ 2 ∷ 156 ∷ 132 ∷ 209 ∷ 62
    ∷ 234 ∷ 105 ∷ []
unfolding blake2s compressed folded start_vector round mixed_at mixed u32_at
blake2s_keyed = refl
