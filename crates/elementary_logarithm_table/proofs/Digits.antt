-- The digits of the code's tables, and of the logarithm of 2, are those of the rule: one computed test for each.
use mathlib.Core.Path.{◌≡◌, refl, sym, ap, ◌∙◌, subst}
use mathlib.Core.Bool.{true}
use mathlib.Core.List.{List, [], ◌∷◌}
use Prim.Native.Nat.{ℕ, ◌<◌}
use lib.Count.{count_trailing_zeros}
use lib.Dec.{T, eqb, eqb→eq}
use lib.ListN.{get_or}
use lib.Ieee.{Float, binary64, neg, of_bits, to_bits, round, size, span, climb, units, odd, fits}
use lib.Ieee.Bits.{of_bits-to_bits}
use Rattle.elementary_series.specs.Series.{factorial, terms, reciprocal}
use Rattle.elementary_cells.specs.Polynomials.{shift, scale}
use Rattle.elementary_cells.proofs.Entries.{follows, rows_follow, rows_at, nearest_fits}
use Rattle.elementary_logarithm_table.specs.Sum.{L, over_ten}
use Rattle.elementary_logarithm_table.specs.declared.TheConstants.{COEFFICIENTS}
use Rattle.elementary_logarithm_table.specs.Table.{odd_terms, log_coefficients, around, log_entry, common_two}

-- the patterns that the code's decimals stand for, a row for each degree
unfoldable pub rows : List (List ℕ)
rows =
    (0x0 ∷ 0x3f8bcc0f57f158b1 ∷ 0x3f9bcdcc6314c1e8 ∷ 0x3fa4dc863f6927cd ∷ 0x3fabd4c47becd2f6 ∷ 0x3fb16841aeefe10a ∷ 0x3fb4e85402923b5d ∷ 0x3fb86b0d77369c38
    ∷ 0x3fbbf0e456b84def ∷ 0x3fbf7a51578cd754 ∷ 0x3fc183e801540012 ∷ 0x3fc34cef8f85f1e2 ∷ 0x3fc5188091fd760a ∷ 0x3fc6e6de596dc3bd ∷ 0x3fc8b84e8cfe2670 ∷ 0x3fca8d1970c5e978
    ∷ 0x3fcc658a32216008 ∷ 0x3fce41ef3ab8dafa ∷ 0x3fd0114d45984b64 ∷ 0x3fd103f10f4e3968 ∷ 0x3fd1f9102bfe58c1 ∷ 0x3fd2f0da3d9db888
    ∷ [])
    ∷ (0x3febcb7b1526e50e ∷ 0x3febcd37e8a56f65 ∷ 0x3febd26fb11329d9 ∷ 0x3febdb265ab9eda4 ∷ 0x3febe762779e8392 ∷ 0x3febf72d4bed8833 ∷ 0x3fec0a92df9e08a2 ∷ 0x3fec21a21588d824
    ∷ 0x3fec3c6cc8480523 ∷ 0x3fec5b07ed48223b ∷ 0x3fec7d8bbe8ddbab ∷ 0x3feca413ebce2c3d ∷ 0x3feccebfd39735f4 ∷ 0x3fecfdb2c56c2b9b ∷ 0x3fed31144de0e82a ∷ 0x3fed69108df30f12
    ∷ 0x3feda5d89f186bcb ∷ 0x3fede7a305bea8d8 ∷ 0x3fee2eac3449ba05 ∷ 0x3fee7b3720ff67a0 ∷ 0x3feecd8df1c2ee54 ∷ 0x3fef2602c110339d
    ∷ [])
    ∷ (0x0 ∷ 0x3f8bcef4d7f2ee94 ∷ 0x3f9bd9660a95cf4c ∷ 0x3fa4f023d8351014 ∷ 0x3fac0365dd7bff91 ∷ 0x3fb195f6a0cfb9b2 ∷ 0x3fb537ab6963a6b0 ∷ 0x3fb8e9b99b433b04
    ∷ 0x3fbcaf296e000538 ∷ 0x3fc04594b6539a80 ∷ 0x3fc2408aba240a8d ∷ 0x3fc44a3f2ff885de ∷ 0x3fc6649942038841 ∷ 0x3fc891a39009455a ∷ 0x3fcad3917a3e45fe ∷ 0x3fcd2cc518bfe8dc
    ∷ 0x3fcf9fd5ff08fb83 ∷ 0x3fd117cc784a0280 ∷ 0x3fd26f94597da947 ∷ 0x3fd3d8f8195306d1 ∷ 0x3fd555db1cecf94d ∷ 0x3fd6e85583b04d2e
    ∷ [])
    ∷ (0x3fd287a7636f435f ∷ 0x3fd28e9b5847cc93 ∷ 0x3fd2a38445cff3c2 ∷ 0x3fd2c68986dd8fd9 ∷ 0x3fd2f7ed4cafa75d ∷ 0x3fd3380d894a47b3 ∷ 0x3fd387653ed731d1 ∷ 0x3fd3e68e3b9ae342
    ∷ 0x3fd456434ca28ddc ∷ 0x3fd4d762f43c5eef ∷ 0x3fd56af2b4ab8381 ∷ 0x3fd61223037da874 ∷ 0x3fd6ce53fe989d31 ∷ 0x3fd7a11b01b61cb0 ∷ 0x3fd88c4941cfe23a ∷ 0x3fd991f39c459928
    ∷ 0x3fdab47bd1ac901f ∷ 0x3fdbf69b70bdb3f5 ∷ 0x3fdd5b70c55cdec8 ∷ 0x3fdee68e33109ec7 ∷ 0x3fe04e063d433f39 ∷ 0x3fe14050442ad3db
    ∷ [])
    ∷ (0x0 ∷ 0x3f8bd42c30f25fde ∷ 0x3f9bee51ce1a6511 ∷ 0x3fa5139a4ec376e7 ∷ 0x3fac57fce526e432 ∷ 0x3fb1e93e19cafb9e ∷ 0x3fb5c902eea3cff2 ∷ 0x3fb9d3411c25755d
    ∷ 0x3fbe108955d131c8 ∷ 0x3fc14515d8ccd235 ∷ 0x3fc3a52f8ae68bd5 ∷ 0x3fc62e3726df045c ∷ 0x3fc8e67606719aff ∷ 0x3fcbd4f7b57c8fd8 ∷ 0x3fcf01ad5bf61603 ∷ 0x3fd13acbbc264ca5
    ∷ 0x3fd31d7ba8f21651 ∷ 0x3fd52ec4f0446abb ∷ 0x3fd7756729004859 ∷ 0x3fd9f92d70a4677c ∷ 0x3fdcc321b24f45ba ∷ 0x3fdfddcaee383d33
    ∷ [])
    ∷ (0x3fc63c62775250d8 ∷ 0x3fc6514129491e35 ∷ 0x3fc6902679e1c730 ∷ 0x3fc6f9efb6f4738d ∷ 0x3fc79013281bdd9b ∷ 0x3fc854a86716e658 ∷ 0x3fc94a74701786b6 ∷ 0x3fca74f9d0a5b9b6
    ∷ 0x3fcbd88d80f56b49 ∷ 0x3fcd7a711f586a6c ∷ 0x3fcf60f37a0f1f47 ∷ 0x3fd0c9cc49f97e0f ∷ 0x3fd20da54fef3824 ∷ 0x3fd3814ae8f47f14 ∷ 0x3fd52af8b1434392 ∷ 0x3fd7120c5f17c39e
    ∷ 0x3fd93f3c53651741 ∷ 0x3fdbbcda88314694 ∷ 0x3fde9726e9a67795 ∷ 0x3fe0ee5a80da7d0d ∷ 0x3fe2cf74fe27a30b ∷ 0x3fe4f94cc1680528
    ∷ [])
    ∷ []

follow : T (rows_follow log_entry 22 0 rows)
unfolding rows rows_follow follows log_entry around log_coefficients odd_terms shift scale to_bits round size units odd span climb count_trailing_zeros terms reciprocal factorial
follow = tt

pub entry_fits : (j k : ℕ) → T (fits binary64 (log_entry j k))
unfolding log_entry
entry_fits j k = nearest_fits (over_ten (around k j))

-- the code's table is of these patterns
pub coefficient_at : (j k : ℕ) (d : Float) → j < 6 → k < 22 → get_or (get_or COEFFICIENTS j []) k d ≡ log_entry j k
unfolding rows neg of_bits
coefficient_at = rows_at log_entry 22 rows COEFFICIENTS follow entry_fits refl

-- ---- the logarithm of 2
two_bits : eqb 0x3fd34413509f79ff (to_bits binary64 common_two) ≡ true
unfolding common_two to_bits round size units odd span climb count_trailing_zeros terms reciprocal factorial
two_bits = refl

pub common_two_is : of_bits binary64 0x3fd34413509f79ff ≡ common_two
common_two_is = ap (λ (z : ℕ). of_bits binary64 z) (eqb→eq 0x3fd34413509f79ff (to_bits binary64 common_two) (subst T (sym two_bits) tt)) ∙ of_bits-to_bits binary64 common_two (unfold common_two in nearest_fits (over_ten (L 2 1)))
