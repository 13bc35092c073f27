-- The digits of the code's tables are those of the rule, by one computed test.
use mathlib.Core.Path.{◌≡◌, refl}
use mathlib.Core.List.{List, [], ◌∷◌}
use Prim.Native.Nat.{ℕ, ◌<◌}
use lib.Count.{count_trailing_zeros}
use lib.Dec.{T}
use lib.ListN.{get_or}
use lib.Ieee.{Float, binary64, neg, of_bits, to_bits, round, size, span, climb, units, odd, fits}
use Rattle.elementary_series.specs.Series.{factorial, reciprocal}
use Rattle.elementary_cells.specs.Polynomials.{lin, shift, scale, alternating}
use Rattle.elementary_cells.proofs.Entries.{follows, rows_follow, rows_at, nearest_fits}
use Rattle.elementary_arctangent_table.specs.declared.TheConstants.{COEFFICIENTS}
use Rattle.elementary_arctangent_table.specs.Table.{arc_coefficients, around, arc_entry}

-- the patterns that the code's decimals stand for, a row for each degree
unfoldable pub rows : List (List ℕ)
rows =
    (0x0 ∷ 0x3f8fff555bbb729b ∷ 0x3f9ffd55bba97625 ∷ 0x3fa7fb818430da2a ∷ 0x3faff55bb72cfdea ∷ 0x3fb3f59f0e7c559d ∷ 0x3fb7ee182602f10f ∷ 0x3fbbe39ebe6f07c3
    ∷ 0x3fbfd5ba9aac2f6e ∷ 0x3fc1e1fafb043727 ∷ 0x3fc3d6eee8c6626c ∷ 0x3fc5c9811e3ec26a ∷ 0x3fc7b97b4bce5b02 ∷ 0x3fc9a6a8e96c8626 ∷ 0x3fcb90d7529260a2 ∷ 0x3fcd77d5df205736
    ∷ 0x3fcf5b75f92c80dd ∷ 0x3fd09dc597d86362 ∷ 0x3fd18bf5a30bf178 ∷ 0x3fd278372057ef46 ∷ 0x3fd362773707ebcc ∷ 0x3fd44aa436c2af0a ∷ 0x3fd530ad9951cd4a ∷ 0x3fd614840309cfe2
    ∷ 0x3fd6f61941e4def1 ∷ 0x3fd7d5604b63b3f7 ∷ 0x3fd8b24d394a1b25 ∷ 0x3fd98cd5454d6b18 ∷ 0x3fda64eec3cc23fd ∷ 0x3fdb3a911da65c6c ∷ 0x3fdc0db4c94ec9f0 ∷ 0x3fdcde53432c1351
    ∷ 0x3fddac670561bb4f
    ∷ [])
    ∷ (0x3ff0000000000000 ∷ 0x3feffe001ffe0020 ∷ 0x3feff801ff801ff8 ∷ 0x3fefee0a1a513254 ∷ 0x3fefe01fe01fe020 ∷ 0x3fefce4da6ab93e9 ∷ 0x3fefb8a096acfacc ∷ 0x3fef9f2893bb9192
    ∷ 0x3fef81f81f81f820 ∷ 0x3fef612438a14f5e ∷ 0x3fef3cc435b0713c ∷ 0x3fef14f19cce28eb ∷ 0x3feee9c7f8458e02 ∷ 0x3feebb64a8c932d7 ∷ 0x3fee89e6b5ccf172 ∷ 0x3fee556e9c86d7c6
    ∷ 0x3fee1e1e1e1e1e1e ∷ 0x3fede4180d8b5ae6 ∷ 0x3feda7801da7801e ∷ 0x3fed687aafdfd5ba ∷ 0x3fed272ca3fc5b1a ∷ 0x3fece3bb295c0773 ∷ 0x3fec9e4b91ff8d87 ∷ 0x3fec570327afd9eb
    ∷ 0x3fec0e070381c0e0 ∷ 0x3febc37be7ec7a8d ∷ 0x3feb77861d9cdc98 ∷ 0x3feb2a495323eb6a ∷ 0x3feadbe87f94905e ∷ 0x3fea8c85c81a2254 ∷ 0x3fea3c4268881898 ∷ 0x3fe9eb3e9edacacc
    ∷ 0x3fe999999999999a
    ∷ [])
    ∷ (0x0 ∷ 0xbf8ffc005ff800a0 ∷ 0xbf9ff005fe009fd0 ∷ 0xbfa7e516b6f5fb61 ∷ 0xbfafc05f809f40df ∷ 0xbfb3c2114d22b635 ∷ 0xbfb7956846635c89 ∷ 0xbfbb578772759741
    ∷ 0xbfbf05e09d0dc11b ∷ 0xbfc14f0459d3fb7c ∷ 0xbfc30eddb7d169f0 ∷ 0xbfc4c16f42678d07 ∷ 0xbfc665c226d69eeb ∷ 0xbfc7faf6f88295fe ∷ 0xbfc980467f79bfd6 ∷ 0xbfcaf50242f10c89
    ∷ 0xbfcc5894d10d4986 ∷ 0xbfcdaa81c655a596 ∷ 0xbfceea659814cb11 ∷ 0xbfd00bfa92db6fdb ∷ 0xbfd0997e8aec9d8e ∷ 0xbfd11db08221a582 ∷ 0xbfd1988d432f5908 ∷ 0xbfd20a1c06000419
    ∷ 0xbfd2726dd135c174 ∷ 0xbfd2d19ccfbdd7fa ∷ 0xbfd327cb9d57b8f5 ∷ 0xbfd375248cd58cc4 ∷ 0xbfd3b9d8eab54af9 ∷ 0xbfd3f6203e8218e0 ∷ 0xbfd42a378d38076d ∷ 0xbfd456609eaa285d
    ∷ 0xbfd47ae147ae147b
    ∷ [])
    ∷ (0xbfd5555555555555 ∷ 0xbfd54d56953003c0 ∷ 0xbfd535694c03bea0 ∷ 0xbfd50dba2b652209 ∷ 0xbfd4d69303ba878b ∷ 0xbfd49059c4d74033 ∷ 0xbfd43b8f2037b997 ∷ 0xbfd3d8ccd45bbe91
    ∷ 0xbfd368c3aa76e1d7 ∷ 0xbfd2ec3931219b34 ∷ 0xbfd264053fd62b3c ∷ 0xbfd1d10f4fccc153 ∷ 0xbfd1344bb737e8f3 ∷ 0xbfd08eb8d3f5a07b ∷ 0xbfcfc2b8650d32f4 ∷ 0xbfce5a7f7b1596d9
    ∷ 0xbfcce6de0253d27e ∷ 0xbfcb69e91974fd6c ∷ 0xbfc9e5aef76f9fa1 ∷ 0xbfc85c325b640da2 ∷ 0xbfc6cf6666d5c0ff ∷ 0xbfc5412aeb9ef661 ∷ 0xbfc3b3493403e07c ∷ 0xbfc22771486ad2c8
    ∷ 0xbfc09f37b38cc8cf ∷ 0xbfbe382786f8309b ∷ 0xbfbb3ebc8761b154 ∷ 0xbfb854a154d5f784 ∷ 0xbfb57c09645a7f9e ∷ 0xbfb2b6e8adb5f398 ∷ 0xbfb006f45a36f1bd ∷ 0xbfaadb4828319af3
    ∷ 0xbfa5d867c3ece2a5
    ∷ [])
    ∷ (0x0 ∷ 0x3f8ff601bfc406df ∷ 0x3f9fd81bf106dd29 ∷ 0x3fa7bce9d05eab95 ∷ 0x3faf61bc46d4b167 ∷ 0x3fb36662c0896a7c ∷ 0x3fb6f8857900c4ee ∷ 0x3fba61404fa31d26
    ∷ 0x3fbd9b16b391c2e3 ∷ 0x3fc0509268736312 ∷ 0x3fc1b795e8e57ee3 ∷ 0x3fc300cd74979f8c ∷ 0x3fc42aca8b929b0b ∷ 0x3fc53479d6814372 ∷ 0x3fc61d22d625e475 ∷ 0x3fc6e466171949b1
    ∷ 0x3fc78a3a08d88b02 ∷ 0x3fc80ee69dcd2641 ∷ 0x3fc872ffdf090624 ∷ 0x3fc8b75fa1da32d2 ∷ 0x3fc8dd1e8f2617b5 ∷ 0x3fc8e58cacc06b3a ∷ 0x3fc8d22997d0e938 ∷ 0x3fc8a49c9d027817
    ∷ 0x3fc85eacd7da413c ∷ 0x3fc802397e6de8de ∷ 0x3fc7913279f68c54 ∷ 0x3fc70d9167aa0c46 ∷ 0x3fc67953180938f2 ∷ 0x3fc5d6719d9e25fc ∷ 0x3fc526def7221a2a ∷ 0x3fc46c805c4ee7c2
    ∷ 0x3fc3a92a30553261
    ∷ [])
    ∷ (0x3fc999999999999a ∷ 0x3fc981a09849cb13 ∷ 0x3fc93a0945cb009f ∷ 0x3fc8c3cce1b89dc7 ∷ 0x3fc82084cab634d0 ∷ 0x3fc75261a13a97a2 ∷ 0x3fc65c1f4409ba0e ∷ 0x3fc540f60668fd66
    ∷ 0x3fc4048994488c86 ∷ 0x3fc2aad607eca5ec ∷ 0x3fc1381bbe93b8e5 ∷ 0x3fbf6194fbe70208 ∷ 0x3fbc32d8f683981c ∷ 0x3fb8ed239c562d77 ∷ 0x3fb599799e54f300 ∷ 0x3fb2409fa3d6f244
    ∷ 0x3fadd5f26a622b44 ∷ 0x3fa740d764b143be ∷ 0x3fa0d08b83fe02bc ∷ 0x3f9524adee810d60 ∷ 0x3f82483b33966883 ∷ 0xbf625ff7cfe3f01e ∷ 0xbf8a3464c2fe9cde ∷ 0xbf973831eaabcb23
    ∷ 0xbfa04d6980fcc815 ∷ 0xbfa49cf94f6d8017 ∷ 0xbfa888285872d73c ∷ 0xbfac0db0d0665a46 ∷ 0xbfaf2d8bff0ea012 ∷ 0xbfb0f46a19cc29a0 ∷ 0xbfb220d267b0229a ∷ 0xbfb31d7ca73bc33f
    ∷ 0xbfb3ec460ed80a18
    ∷ [])
    ∷ []

follow : T (rows_follow arc_entry 33 0 rows)
unfolding rows rows_follow follows arc_entry around shift lin scale arc_coefficients alternating reciprocal factorial to_bits round size units odd span climb count_trailing_zeros
follow = tt

entry_fits : (j k : ℕ) → T (fits binary64 (arc_entry j k))
unfolding arc_entry
entry_fits j k = nearest_fits (around k j)

-- the code's table is of these patterns
pub coefficient_at : (j k : ℕ) (d : Float) → j < 6 → k < 33 → get_or (get_or COEFFICIENTS j []) k d ≡ arc_entry j k
unfolding rows neg of_bits
coefficient_at = rows_at arc_entry 33 rows COEFFICIENTS follow entry_fits refl
